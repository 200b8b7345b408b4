use Rattle.std.proofs.Common.{◌∙◌, sym}
use Rattle.felm_plain.proofs.Runs.{some_comes, at_script}
use Rattle.felm_plain.proofs.run.Run.has_next.Goals as goal

pub returns-then-is_some : goal.returns-then-is_some
returns-then-is_some c =
    let s = some_comes c.requires
    c.least.result c.least.ensures (sym c.is_some.ensures ∙ c.if-is_some.true) in
    (λ x. s, λ x. c.if-is_some.true)

pub returns-else-is_some : goal.returns-else-is_some
returns-else-is_some c =
    at_script c.requires
    c.least.result c.len.result c.least.ensures (sym c.is_some.ensures ∙ c.if-is_some.false) c.len.ensures
