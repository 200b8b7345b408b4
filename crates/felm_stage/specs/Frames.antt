-- Frames, and the term that they make with what is at their place.
use Rattle.std.specs.Prelude.{ℕ, ◌+◌, List, [], ◌∷◌}
use Rattle.felm_term.specs.CoreTerm.{CoreTerm, CoreTerms, App, Let, Lift, Foldp, Async, End, More}
use Rattle.felm_term.specs.Reduction.{IsValue, AreSharedSignals}
use Rattle.felm_stage.specs.declared.frame.Frame.{Frame}
use Rattle.felm_stage.specs.declared.frame.Frame.TheVariants as frame

-- arguments of a lift behind those that are done
abbrev pub behind : List CoreTerm → CoreTerms → CoreTerms
behind [] ts = ts
behind (t ∷ done) ts = More t (behind done ts)

-- the term that a frame makes
abbrev pub around : Frame → CoreTerm → CoreTerm
around (frame.Argument a) t = App t a
around (frame.Body b) t = Let t b
around (frame.Arguments f done rest) t = Lift f (behind done.items (More t rest))
around (frame.Foldp f b) t = Foldp f b t
around frame.Async t = Async t

-- the term that all of them make, the first one outermost
abbrev pub plug : List Frame → CoreTerm → CoreTerm
plug [] t = t
plug (f ∷ frames) t = around f (plug frames t)

-- what is reduced before the part at the place is reduced
abbrev pub IsGood : Frame → Type 0
IsGood (frame.Arguments f done rest) = IsValue f × AreSharedSignals done.items
IsGood (frame.Foldp f b) = IsValue f × IsValue b
IsGood _ = Unit {0}

abbrev pub AreGood : List Frame → Type 0
AreGood [] = Unit {0}
AreGood (f ∷ frames) = IsGood f × AreGood frames

abbrev mutual
  -- how many moves a search makes before the next step, at most: in a term
  pub work : CoreTerm → ℕ
  work (App f a) = work f + 2
  work (Let a b) = work a + 2
  work (Lift f ts) = work_all ts + 1
  work (Foldp f b s) = work s + 2
  work (Async s) = work s + 2
  work _ = 1

  -- in arguments
  pub work_all : CoreTerms → ℕ
  work_all End = 0
  work_all (More t ts) = work t + work_all ts + 1

-- in what a frame holds
abbrev pub work_in : Frame → ℕ
work_in (frame.Arguments f done rest) = work_all rest + 1
work_in _ = 1

-- in what all frames hold
abbrev pub weight : List Frame → ℕ
weight [] = 0
weight (f ∷ frames) = work_in f + weight frames
