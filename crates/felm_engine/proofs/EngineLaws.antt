-- Laws of engines.
use Rattle.std.proofs.Common.{◌≡◌, inl, inr, ℕ, zero, suc, false, List, [], ◌∷◌, Bool, Option, Some, None, length, set, refl, ap, ◌∙◌, subst}
use Rattle.std.specs.Prelude.{replicate}
use Rattle.felm_meaning.specs.PlanValue.{PlanValue}
use Rattle.felm_meaning.specs.declared.plan.Plan.{Plan}
use Rattle.felm_meaning.specs.Plans.{plan_of}
use Rattle.felm_core.specs.Positions.{Position, IsReady}
use Rattle.felm_core.specs.Moves.{Move, Runs, reopened}
use Rattle.felm_engine.specs.EngineValue.{EngineValue}
use Rattle.felm_engine.specs.Answers.{planned, ClaimedAs, ClaimedNextAs, all_reopened}
use Rattle.felm_engine.specs.Laws.{Follows, moves_in, reopenings, MovedOrStayed}
use Rattle.felm_engine.specs.declared.answers.Claim as answers
use Rattle.felm_engine.specs.declared.answers.Claim.TheVariants as claim

-- ---- moves

pub claimed_moves : (old : EngineValue) (k : ℕ) (new : EngineValue) (answer : answers.Claim) → ClaimedAs old k new answer → MovedOrStayed old new
claimed_moves old k new (claim.Got turn) h = inl (_, h.0)
claimed_moves old k new claim.NotReady h = inr h.1

-- calls keep the plan, and their moves are a run
pub follows_runs : (old new : EngineValue) (calls : List (Option Move)) → Follows old calls new
    → (new.plan ≡ old.plan) × Runs (planned old) old.position (moves_in calls) new.position
follows_runs old new [] h = (ap (λ (e : EngineValue). e.plan) h, ap (λ (e : EngineValue). e.position) h)
follows_runs old new (None ∷ more) (between, stayed, rest) =
    let ih = follows_runs between new more rest in
    subst (λ (e : EngineValue). (new.plan ≡ e.plan) × Runs (planned e) e.position (moves_in more) new.position) stayed ih
follows_runs old new (Some move ∷ more) (between, moved, rest) =
    let ih = follows_runs between new more rest in (
      ih.0 ∙ moved.plan,
      (between.position, moved.leads, subst (λ (p : Plan). Runs (plan_of p) between.position (moves_in more) new.position) moved.plan ih.1),
    )

-- ---- reopening

-- the first n flags are clear
abbrev clear_to : List Bool → ℕ → List Bool
clear_to out zero = out
clear_to out (suc n) = clear_to (set out n false) n

reopen_run : (plan : PlanValue) (c : Position) (n : ℕ) → Runs plan c (reopenings n) (record c { out = clear_to c.out n })
reopen_run plan c zero = refl
reopen_run plan c (suc n) = (reopened c n, refl, reopen_run plan (reopened c n) n)

clear_front : (b : Bool) (out : List Bool) (n : ℕ) → clear_to (b ∷ out) (suc n) ≡ false ∷ clear_to out n
clear_front b out zero = refl
clear_front b out (suc n) = clear_front b (set out n false) n

clear_all : (out : List Bool) → clear_to out (length out) ≡ replicate (length out) false
clear_all [] = refl
clear_all (b ∷ out) = clear_front b out (length out) ∙ ap (λ (bs : List Bool). false ∷ bs) (clear_all out)

pub reopen_all_run : (plan : PlanValue) (c : Position) → Runs plan c (reopenings (length c.out)) (all_reopened c)
reopen_all_run plan c =
    subst (λ (out : List Bool). Runs plan c (reopenings (length c.out)) (record c { out = out })) (clear_all c.out) (reopen_run plan c (length c.out))

-- ---- never stuck

pub not_ready_means : (old new : EngineValue) (answer : answers.Claim) → ClaimedNextAs old new answer → answer ≡ claim.NotReady
    → (k : ℕ) → IsReady (planned old) old.position k → ⊥
not_ready_means old new (claim.Got turn) h e k r = cc
not_ready_means old new claim.NotReady h e k r = h.0 k r

pub none_ready_means : (old new : EngineValue) (answer : answers.Claim) → ClaimedNextAs old new answer
    → ((k : ℕ) → IsReady (planned old) old.position k → ⊥) → answer ≡ claim.NotReady
none_ready_means old new (claim.Got turn) h none = absurd (none turn.node h.0.ready)
none_ready_means old new claim.NotReady h none = refl
