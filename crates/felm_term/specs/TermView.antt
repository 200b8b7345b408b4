-- The term that a form stands for.
use Rattle.felm_term.specs.CoreTerm.{CoreTerm, CoreTerms}
use Rattle.felm_term.specs.CoreTerm as core
use Rattle.felm_term.specs.declared.term.TermForm.{TermForm}
use Rattle.felm_term.specs.declared.term.TermForm.TheVariants as form
use Rattle.felm_term.specs.declared.term.TermsForm.{TermsForm}
use Rattle.felm_term.specs.declared.term.TermsForm.TheVariants as all

abbrev pub term_of_form : TermForm → CoreTerm
term_of_form form.Unit = core.Unit
term_of_form (form.Int n) = core.Int n
term_of_form (form.Var n) = core.Var n
term_of_form (form.Lam p b) = core.Lam p b.value
term_of_form (form.App f a) = core.App f.value a.value
term_of_form (form.Bin o a b) = core.Bin o a.value b.value
term_of_form (form.If c a b) = core.If c.value a.value b.value
term_of_form (form.Let a b) = core.Let a.value b.value
term_of_form (form.Input n) = core.Input n
term_of_form (form.Node n) = core.Node n
term_of_form (form.Lift f ts) = core.Lift f.value ts.value
term_of_form (form.Foldp f b s) = core.Foldp f.value b.value s.value
term_of_form (form.Async s) = core.Async s.value

abbrev pub terms_of_form : TermsForm → CoreTerms
terms_of_form all.End = core.End
terms_of_form (all.More t ts) = core.More t ts.value
