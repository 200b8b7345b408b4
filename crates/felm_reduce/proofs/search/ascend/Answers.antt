use Rattle.std.proofs.Common.{rules, sym, ap, ◌∙◌, subst, w64, FitsSigned}
use Rattle.std.proofs.lemmas.Int.{to_z-of_z}
use Rattle.felm_term.specs.CoreTerm.{Int, App, Bin, If, Let}
use Rattle.felm_term.specs.Reduction.{IsValue}
use Rattle.felm_reduce.specs.declared.frame.Frame.TheVariants as frame
use Rattle.felm_reduce.specs.Frames.{plug}
use Rattle.felm_reduce.specs.Search.{head_term}
use Rattle.felm_reduce.proofs.Frames.{popped, inner_typed, around_typed, to_right, head_value}
use Rattle.felm_reduce.proofs.search.ascend.Goals as goal

pub function_of-param-requires : goal.function_of-param-requires
function_of-param-requires c = let h = inner_typed c.args.frames.now.items c.innermost.new.frames.items (frame.Argument c.in-Some-Argument.argument) (head_term c.args.head) (rw c.in-Some-Argument.field-0-is at c.in-Some-Argument.ensures) c.requires in (h.2.0, h.0, h.2.1)

pub number_of-left-requires : goal.number_of-left-requires
number_of-left-requires c = let h = inner_typed c.args.frames.now.items c.innermost.new.frames.items (frame.RightOperand c.in-Some-RightOperand.op c.in-Some-RightOperand.right) (head_term c.args.head) (rw c.in-Some-RightOperand.field-0-is at c.in-Some-RightOperand.ensures) c.requires in h.2.1

pub number_of-right-requires : goal.number_of-right-requires
number_of-right-requires c = let h = inner_typed c.args.frames.now.items c.innermost.new.frames.items (frame.LeftOperand c.in-Some-LeftOperand.op c.in-Some-LeftOperand.left) (head_term c.args.head) (rw c.in-Some-LeftOperand.field-0-is at c.in-Some-LeftOperand.ensures) c.requires in h.2.2

pub number_of-number-requires : goal.number_of-number-requires
number_of-number-requires c = let h = inner_typed c.args.frames.now.items c.innermost.new.frames.items (frame.Branches c.in-Some-Branches.yes c.in-Some-Branches.no) (head_term c.args.head) (rw c.in-Some-Branches.field-0-is at c.in-Some-Branches.ensures) c.requires in h.2.0

pub value_of-requires-in-Some-Body : goal.value_of-requires-in-Some-Body
value_of-requires-in-Some-Body c = around_typed (frame.Body c.in-Some-Body.body) (head_term c.args.head) (inner_typed c.args.frames.now.items c.innermost.new.frames.items (frame.Body c.in-Some-Body.body) (head_term c.args.head) (rw c.in-Some-Body.field-0-is at c.in-Some-Body.ensures) c.requires)

pub returns-in-Some-Argument : goal.returns-in-Some-Argument
returns-in-Some-Argument c =
    (sym (popped c.args.frames.now.items c.innermost.new.frames.items (frame.Argument c.in-Some-Argument.argument) (head_term c.args.head) (rw c.in-Some-Argument.field-0-is at c.in-Some-Argument.ensures) ∙ ap (λ h. plug c.innermost.new.frames.items (App h c.in-Some-Argument.argument)) c.function_of-param.ensures), tt)

pub returns-in_ok-put-in-Some-RightOperand : goal.returns-in_ok-put-in-Some-RightOperand
returns-in_ok-put-in-Some-RightOperand c =
    let g : FitsSigned w64 c.number_of-left.result = search rules in
    let k = rw (to_z-of_z w64 c.number_of-left.result g) at c.in_ok-put-in-Some-RightOperand.ensures in
    to_right c.args.frames.now.items c.innermost.new.frames.items c.put.new.items.items c.in-Some-RightOperand.op c.in-Some-RightOperand.right (head_term c.args.head) c.number_of-left.result (rw c.in-Some-RightOperand.field-0-is at c.in-Some-RightOperand.ensures) c.number_of-left.ensures k

pub returns-in-Some-LeftOperand : goal.returns-in-Some-LeftOperand
returns-in-Some-LeftOperand c =
    let f : FitsSigned w64 c.in-Some-LeftOperand.left = search rules in
    let g : FitsSigned w64 c.number_of-right.result = search rules in
    rw (to_z-of_z w64 c.in-Some-LeftOperand.left f, to_z-of_z w64 c.number_of-right.result g)
    (sym (popped c.args.frames.now.items c.innermost.new.frames.items (frame.LeftOperand c.in-Some-LeftOperand.op c.in-Some-LeftOperand.left) (head_term c.args.head) (rw c.in-Some-LeftOperand.field-0-is at c.in-Some-LeftOperand.ensures) ∙ ap (λ h. plug c.innermost.new.frames.items (Bin c.in-Some-LeftOperand.op (Int c.in-Some-LeftOperand.left) h)) c.number_of-right.ensures), tt)

pub returns-in-Some-Branches : goal.returns-in-Some-Branches
returns-in-Some-Branches c =
    let g : FitsSigned w64 c.number_of-number.result = search rules in
    rw (to_z-of_z w64 c.number_of-number.result g)
    (sym (popped c.args.frames.now.items c.innermost.new.frames.items (frame.Branches c.in-Some-Branches.yes c.in-Some-Branches.no) (head_term c.args.head) (rw c.in-Some-Branches.field-0-is at c.in-Some-Branches.ensures) ∙ ap (λ h. plug c.innermost.new.frames.items (If h c.in-Some-Branches.yes c.in-Some-Branches.no)) c.number_of-number.ensures), tt)

pub returns-in_ok-value-in-Some-Body : goal.returns-in_ok-value-in-Some-Body
returns-in_ok-value-in-Some-Body c =
    (sym (popped c.args.frames.now.items c.innermost.new.frames.items (frame.Body c.in-Some-Body.body) (head_term c.args.head) (rw c.in-Some-Body.field-0-is at c.in-Some-Body.ensures) ∙ ap (λ h. plug c.innermost.new.frames.items (Let h c.in-Some-Body.body)) (sym c.in_ok-value-in-Some-Body.ensures.0)), subst IsValue (sym c.in_ok-value-in-Some-Body.ensures.0) (head_value c.args.head))
