-- What frames and their replay keep.
use Rattle.std.proofs.Common.{◌≡◌, ℕ, ◌+◌, ◌<◌, ◌≤◌, List, [], ◌∷◌, ◌++◌, length, Option, Some, None, refl, sym, ap, ◌∙◌, subst, arith, append_assoc, length-append, Bor}
use Rattle.felm_term.specs.CoreTerm.{CoreTerm, CoreTerms, Int, Var, Lam, App, Bin, If, Let, Input, Node as Name, Lift, Foldp, Async, End, More, count}
use Rattle.felm_term.specs.CoreTerm as term
use Rattle.felm_term.specs.declared.value.Value.{Value}
use Rattle.felm_graph.specs.declared.node.Node.{Node}
use Rattle.felm_graph.specs.declared.frame.Frame.{Frame}
use Rattle.felm_graph.specs.declared.frame.Frame.TheVariants as frame
use Rattle.felm_graph.specs.Layout.{Part, value_in, lift_node, foldp_node, async_node, with_node, lay, lay_all, lay_shared}
use Rattle.felm_graph.specs.declared.lay.Ascent.TheVariants as ascent
use Rattle.felm_graph.specs.Graphs.{most_nodes}
use Rattle.felm_graph.specs.Layable.{IsLayable, IsReady, AreReady}
use Rattle.felm_graph.specs.Frames.{part, around, replay, work, work_in, weight, Descends, ascent_of, Leads, IsLaid}

pub replay-push : (shared : List ℕ) (fs : List Frame) (f : Frame) (p : Part) → replay shared (fs ++ f ∷ []) p ≡ replay shared fs (around shared f p)
replay-push shared [] f p = refl
replay-push shared (g ∷ fs) f p = ap (around shared g) (replay-push shared fs f p)

pub weight-push : (fs : List Frame) (f : Frame) → weight (fs ++ f ∷ []) ≡ weight fs + work_in f
weight-push [] f = omega arith
weight-push (g ∷ fs) f = omega (arith, weight-push fs f)

-- ---- the nodes only grow

one_longer : (nodes : List Node) (n : Node) → length (with_node nodes n).nodes ≡ length nodes + 1
one_longer nodes n = omega (arith, length-append nodes (n ∷ []))

module _ (shared : List ℕ) where
  mutual
    pub lay_grows : (nodes : List Node) (t : CoreTerm) → length nodes ≤ length (lay shared nodes t).nodes
    lay_grows nodes (Input i) = omega arith
    lay_grows nodes (Name k) = omega arith
    lay_grows nodes (Lift f ts) =
        let a = lay_all shared nodes ts in
        omega (arith, one_longer a.nodes (lift_node (value_in f) a.roots), lay_all_grows nodes ts)
    lay_grows nodes (Foldp f b s) =
        let a = lay shared nodes s in
        omega (arith, one_longer a.nodes (foldp_node (value_in f) (value_in b) a.root), lay_grows nodes s)
    lay_grows nodes (Async s) =
        let a = lay shared nodes s in
        omega (arith, one_longer a.nodes (async_node a.nodes a.root), lay_grows nodes s)
    lay_grows nodes term.Unit = omega arith
    lay_grows nodes (Int n) = omega arith
    lay_grows nodes (Var n) = omega arith
    lay_grows nodes (Lam p b) = omega arith
    lay_grows nodes (App f a) = omega arith
    lay_grows nodes (Bin o a b) = omega arith
    lay_grows nodes (If c a b) = omega arith
    lay_grows nodes (Let a b) = omega arith

    lay_all_grows : (nodes : List Node) (ts : CoreTerms) → length nodes ≤ length (lay_all shared nodes ts).nodes
    lay_all_grows nodes End = omega arith
    lay_all_grows nodes (More t ts) = omega (arith, lay_grows nodes t, lay_all_grows (lay shared nodes t).nodes ts)

  around_grows : (f : Frame) (p : Part) → length p.nodes < length (around shared f p).nodes
  around_grows (frame.Lift f done rest) p =
      let a = lay_all shared p.nodes rest.now in
      omega (arith, one_longer a.nodes (lift_node f (done ++ p.root ∷ a.roots)), lay_all_grows p.nodes rest.now)
  around_grows (frame.Foldp f base) p = omega (arith, one_longer p.nodes (foldp_node f base p.root))
  around_grows frame.Async p = omega (arith, one_longer p.nodes (async_node p.nodes p.root))

  pub replay_grows : (fs : List Frame) (p : Part) → length p.nodes ≤ length (replay shared fs p).nodes
  replay_grows [] p = omega arith
  replay_grows (f ∷ fs) p = omega (arith, replay_grows fs p, around_grows f (replay shared fs p))

pub shared_grows : (roots : List ℕ) (nodes : List Node) (B : List CoreTerm) → length nodes ≤ length (lay_shared roots nodes B).nodes
shared_grows roots nodes [] = omega arith
shared_grows roots nodes (s ∷ B) =
    let a = lay roots nodes s in
    omega (arith, lay_grows roots nodes s, shared_grows (roots ++ a.root ∷ []) a.nodes B)

-- ---- ready frames

ready-push : (n : ℕ) (fs : List Frame) (f : Frame) → AreReady n fs → IsReady n f → AreReady n (fs ++ f ∷ [])
ready-push n [] f h k = (k, tt)
ready-push n (g ∷ fs) f h k = (h.0, ready-push n fs f h.1 k)

ready-pop : (n : ℕ) (fs : List Frame) (f : Frame) → AreReady n (fs ++ f ∷ []) → AreReady n fs × IsReady n f
ready-pop n [] f h = (tt, h.0)
ready-pop n (g ∷ fs) f h = let k = ready-pop n fs f h.1 in ((h.0, k.0), k.1)

-- ---- on the way down

module _ (shared : List ℕ) (start : List Frame) (whole : CoreTerm) (old new : List Frame) where
  -- one frame more, with a part of the term at hand
  deeper : (f : Frame) (e t : CoreTerm) → new ≡ old ++ f ∷ [] → ((nodes : List Node) → around shared f (lay shared nodes t) ≡ lay shared nodes e)
      → work_in f + work t ≤ work e → IsLayable (length shared) t → IsReady (length shared) f → Descends shared start whole old e
      → Descends shared start whole new t
  deeper f e t h s w l r d =
      rw h (record {
        same = λ nodes. replay-push shared old f (lay shared nodes t) ∙ (ap (replay shared old) (s nodes) ∙ d.same nodes);
        less = omega (arith, weight-push old f, d.less, w);
        layable = l;
        ready = ready-push (length shared) old f d.ready r;
      })

  pub into_lift : (f t : CoreTerm) (ts : CoreTerms) (v : Value) (done : List ℕ) (rest : Bor CoreTerms) → new ≡ old ++ frame.Lift v done rest ∷ []
      → v ≡ value_in f → done ≡ [] → rest.now ≡ ts → Descends shared start whole old (Lift f (More t ts)) → Descends shared start whole new t
  into_lift f t ts v done rest h ev ed er d =
      deeper (frame.Lift v done rest) (Lift f (More t ts)) t h (λ nodes. rw (ev, ed, er) refl) (rw er (omega arith)) d.layable.3.0
      (rw (ed, er) (omega (arith, d.layable.2), d.layable.3.1)) d

  pub into_foldp : (f b s : CoreTerm) → new ≡ old ++ frame.Foldp (value_in f) (value_in b) ∷ [] → Descends shared start whole old (Foldp f b s)
      → Descends shared start whole new s
  into_foldp f b s h d = deeper (frame.Foldp (value_in f) (value_in b)) (Foldp f b s) s h (λ nodes. refl) (omega arith) d.layable.2 tt d

  pub into_async : (s : CoreTerm) → new ≡ old ++ frame.Async ∷ [] → Descends shared start whole old (Async s) → Descends shared start whole new s
  into_async s h d = deeper frame.Async (Async s) s h (λ nodes. refl) (omega arith) d.layable tt d

-- ---- on the way up

positive : (f : Frame) → 0 < work_in f
positive (frame.Lift f done rest) = omega arith
positive (frame.Foldp f b) = omega arith
positive frame.Async = omega arith

module _ (shared : List ℕ) (old mid : List Frame) (f : Frame) (e : old ≡ mid ++ f ∷ []) where
  popped : (p : Part) → replay shared old p ≡ replay shared mid (around shared f p)
  popped p = ap (λ fs. replay shared fs p) e ∙ replay-push shared mid f p

  lighter : weight old ≡ weight mid + work_in f
  lighter = ap weight e ∙ weight-push mid f

  pub still_ready : AreReady (length shared) old → AreReady (length shared) mid × IsReady (length shared) f
  still_ready h = ready-pop (length shared) mid f (subst (AreReady (length shared)) e h)

  -- the part at hand was the last of its term: the term's node is next
  pub climbed : (before after : List Node) (root : ℕ) (n : Node) (added : Option ℕ) → around shared f (part before root) ≡ with_node before n
      → AreReady (length shared) old → IsLaid (with_node before n) after added → Leads shared old before root mid after (ascent_of added)
  climbed before after root n (Some r) s h k = (
    ap (replay shared mid) (k.0 ∙ sym s) ∙ sym (popped (part before root)),
    omega (arith, lighter, positive f),
    (still_ready h).0,
    k.1,
  )
  climbed before after root n None s h k =
      let q = popped (part before root) ∙ ap (replay shared mid) s in
      let g = replay_grows shared mid (with_node before n) in
      rw q (omega (arith, g, k))

-- ---- the next argument of a lift

lift_goes_on : (shared done : List ℕ) (v : Value) (before : List Node) (root : ℕ) (t : CoreTerm) (ts : CoreTerms)
    → let a = lay shared before t in let b = lay_all shared a.nodes ts in
    with_node b.nodes (lift_node v ((done ++ root ∷ []) ++ a.root ∷ b.roots)) ≡ with_node b.nodes (lift_node v (done ++ root ∷ a.root ∷ b.roots))
lift_goes_on shared done v before root t ts =
    let a = lay shared before t in
    let b = lay_all shared a.nodes ts in
    ap (λ r. with_node b.nodes (lift_node v r)) (append_assoc done (root ∷ []) (a.root ∷ b.roots))

one_done : (done : List ℕ) (root n : ℕ) → length done + (n + 1) < 9 → length (done ++ root ∷ []) + n < 9
one_done done root n h = omega (arith, length-append done (root ∷ []), h)

-- frames with the next argument at hand stand for the same whole, with no more that is left
pub record Moves (shared : List ℕ) (old : List Frame) (nodes : List Node) (root : ℕ) (new : List Frame) (t : CoreTerm) : Type 0 where
  pub same : replay shared new (lay shared nodes t) ≡ replay shared old (part nodes root)
  pub less : weight new + work t ≤ weight old
  pub ready : AreReady (length shared) new
  pub layable : IsLayable (length shared) t

pub next_argument : (shared : List ℕ) (old mid new : List Frame) (v : Value) (done later : List ℕ) (rest behind : Bor CoreTerms) (nodes : List Node) (root : ℕ) (t : CoreTerm) (ts : CoreTerms)
    → old ≡ mid ++ frame.Lift v done rest ∷ [] → rest.now ≡ More t ts → later ≡ done ++ root ∷ [] → behind.now ≡ ts
    → new ≡ mid ++ frame.Lift v later behind ∷ [] → AreReady (length shared) old → Moves shared old nodes root new t
next_argument shared old mid new v done later rest behind nodes root t ts e er el eb n a =
    let f = frame.Lift v done rest in
    let g = frame.Lift v later behind in
    let ready = still_ready shared old mid f e a in
    let r = rw er at ready.1 in
    let s : around shared g (lay shared nodes t) ≡ around shared f (part nodes root) = rw (er, el, eb) (lift_goes_on shared done v nodes root t ts) in
    let w : work_in g + work t ≤ work_in f = rw (er, eb) (omega arith) in
    let i : IsReady (length shared) g = rw (el, eb) (one_done done root (count ts) r.0, r.1.1) in
    rw n (record {
      same = replay-push shared mid g (lay shared nodes t) ∙ ap (replay shared mid) s ∙ sym (popped shared old mid f e (part nodes root));
      less = omega (arith, lighter shared old mid f e, weight-push mid g, w);
      ready = ready-push (length shared) mid g ready.0 i;
      layable = r.1.0;
    })

-- and when that is laid out down to its first name
pub next_down : (shared : List ℕ) (old mid new : List Frame) (nodes : List Node) (root next : ℕ) (t : CoreTerm) → Moves shared old nodes root mid t
    → replay shared new (part nodes next) ≡ replay shared mid (lay shared nodes t) → weight new + 1 ≤ weight mid + work t
    → AreReady (length shared) new → length nodes ≤ most_nodes → Leads shared old nodes root new nodes (ascent.Up next)
next_down shared old mid new nodes root next t m d l r few = (d ∙ m.same, omega (arith, m.less, l), r, few)
