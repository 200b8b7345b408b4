-- Frames, and the term that they make with what is at their place.
use Rattle.std.specs.Prelude.{ℕ, ◌+◌, List, [], ◌∷◌}
use Rattle.felm_term.specs.CoreTerm.{CoreTerm, Int, App, Bin, If, Let}
use Rattle.felm_reduce.specs.declared.frame.Frame.{Frame}
use Rattle.felm_reduce.specs.declared.frame.Frame.TheVariants as frame

-- the term that a frame makes
abbrev pub around : Frame → CoreTerm → CoreTerm
around (frame.Argument a) t = App t a
around (frame.RightOperand o b) t = Bin o t b
around (frame.LeftOperand o n) t = Bin o (Int n) t
around (frame.Branches a b) t = If t a b
around (frame.Body b) t = Let t b

-- the term that all of them make, the first one outermost
abbrev pub plug : List Frame → CoreTerm → CoreTerm
plug [] t = t
plug (f ∷ frames) t = around f (plug frames t)

-- how many places a search looks at, at most: in a term
abbrev pub work : CoreTerm → ℕ
work (App f a) = work f + 1
work (Bin o a b) = work a + work b + 1
work (If c a b) = work c + 1
work (Let a b) = work a + 1
work _ = 1

-- in what a frame holds
abbrev pub work_in : Frame → ℕ
work_in (frame.RightOperand o b) = work b
work_in _ = 0

-- in what all frames hold
abbrev pub weight : List Frame → ℕ
weight [] = 0
weight (f ∷ frames) = work_in f + weight frames
