-- A term is deeper than its parts.
use Rattle.std.specs.Prelude.{max, ◌≤◌}
use Rattle.std.proofs.Common.{arith}
use Rattle.felm_term.specs.CoreTerm.{depth, depth_all}
use Rattle.felm_term.specs.TermView.{term_of_form, terms_of_form}
use Rattle.felm_term.specs.declared.term.TermForm.{TermForm}
use Rattle.felm_term.specs.declared.term.TermForm.TheVariants as form
use Rattle.felm_term.specs.declared.term.TermsForm.{TermsForm}
use Rattle.felm_term.specs.declared.term.TermsForm.TheVariants as all
use Rattle.felm_term.specs.declared.term.Term.TheDeep.{deep-TermForm, deep-TermsForm}

pub falls : (form : TermForm) → max (deep-TermForm form) 0 ≤ depth (term_of_form form)
falls form.Unit = omega arith
falls (form.Int n) = omega arith
falls (form.Var n) = omega arith
falls (form.Lam p b) = omega arith
falls (form.App f a) = omega arith
falls (form.Bin o a b) = omega arith
falls (form.If c a b) = omega arith
falls (form.Let a b) = omega arith
falls (form.Input n) = omega arith
falls (form.Node n) = omega arith
falls (form.Lift f ts) = omega arith
falls (form.Foldp f b s) = omega arith
falls (form.Async s) = omega arith

pub falls_all : (form : TermsForm) → max (deep-TermsForm form) 0 ≤ depth_all (terms_of_form form)
falls_all all.End = omega arith
falls_all (all.More t ts) = omega arith
