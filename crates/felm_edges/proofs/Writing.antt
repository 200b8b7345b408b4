-- What the writing calls do to the parts of edges.
use Rattle.std.proofs.Common.{◌≡◌, ℕ, ◌<◌, ◌≤◌, ◌⊎◌, inl, inr, List, [], ◌∷◌, ◌++◌, length, map, drop, set, get_or, Option, Some, None, Result, Ok, Err, refl, sym, ap, ◌∙◌, subst, arith, IsSome, OnOk, OnErr, length-append, length-drop, Vec, Global}
use Rattle.std.specs.List.{slice_get}
use Rattle.std.proofs.lemmas.Bool.{cases_eq, cases_lt, false≢true}
use Rattle.std.proofs.lemmas.List.{length-map, length-set, map-set, set-get_or, get_or-set_same, get_or-set_other, get_or_read, get_or_past, with_items_is}
use Rattle.std.specs.Vec.{with_items}
use Rattle.felm_term.specs.declared.message.Message.{Message}
use Rattle.felm_edges.specs.EdgesValue.{EdgesValue, IsWired, ReadsIn, edge_in, prepared_in, HasRoomIn}
use Rattle.felm_edges.specs.Changes.{PreparedFrom, PutFrom, DroppedFrom}
use Rattle.felm_edges.specs.Parts.{EdgeValue, OutletValue, no_edge, new_outlet, row_of, edge_of, sources_of, prepared_of, with_message, without_first, changed_at_each}
use Rattle.felm_edges.specs.Readers.{AreReaders, readers_of}
use Rattle.felm_edges.specs.Inside.{edges_from, IsWithin, IsStocked, GoTogether}
use Rattle.felm_edges.specs.declared.readers.Reader.{Reader}
use Rattle.felm_edges.proofs.Rows.{get_or_mapped, messages_at, each_rows, each_length, each_sources, each_other, each_same}
use Rattle.felm_edges.proofs.Reading.{wired_there, there_wired, readers_there, prepared_at}

abbrev source : EdgeValue → ℕ
source e = e.source

-- ---- what is prepared

prepared_same : (outlets : List OutletValue) (k : ℕ) (o : OutletValue) → k < length outlets
    → get_or (prepared_of (set outlets k o)) k None ≡ o.message
prepared_same outlets k o l =
    prepared_at (set outlets k o) k ∙ ap (λ (x : OutletValue). x.message) (get_or-set_same outlets k o (new_outlet 0) l)

prepared_other : (outlets : List OutletValue) (k x : ℕ) (o : OutletValue) → (x ≡ k → ⊥)
    → get_or (prepared_of (set outlets k o)) x None ≡ get_or (prepared_of outlets) x None
prepared_other outlets k x o n =
    prepared_at (set outlets k o) x ∙ ap (λ (y : OutletValue). y.message) (get_or-set_other outlets k x o (new_outlet 0) n) ∙
    sym (prepared_at outlets x)

-- a new outlet of one node
pub prepared_from : (capacity : ℕ) (rows : List (List EdgeValue)) (outlets : List OutletValue) (now : EdgesValue) (k : ℕ) (o : OutletValue)
    (message : Option Message) → edges_from capacity rows outlets ≡ now → k < length outlets → o.message ≡ message
    → PreparedFrom now k message (edges_from capacity rows (set outlets k o))
prepared_from capacity rows outlets now k o message v l m = record {
  wiring = ap (λ (n : EdgesValue). n.wiring) v;
  capacity = ap (λ (n : EdgesValue). n.capacity) v;
  lists = ap (λ (n : EdgesValue). n.lists) v;
  prepared = prepared_same outlets k o l ∙ m;
  others = λ x n. prepared_other outlets k x o n ∙ ap (λ (e : EdgesValue). prepared_in e x) v;
}

-- by the answer of the outlet
pub prepared_ok : {E : Type 0} (capacity : ℕ) (rows : List (List EdgeValue)) (outlets : List OutletValue) (now : EdgesValue) (k : ℕ) (o : OutletValue)
    (result : Result (Unit {0}) E) (message : Message) (readers : ℕ) → edges_from capacity rows outlets ≡ now → k < length outlets
    → OnOk result ((o.message ≡ Some message) × (o.left ≡ readers)) → OnOk result (PreparedFrom now k (Some message) (edges_from capacity rows (set outlets k o)))
prepared_ok capacity rows outlets now k o (Ok u) message readers v l h = prepared_from capacity rows outlets now k o (Some message) v l h.0
prepared_ok capacity rows outlets now k o (Err e) message readers v l h = tt

pub prepared_err : {E : Type 0} (capacity : ℕ) (rows : List (List EdgeValue)) (outlets : List OutletValue) (now : EdgesValue) (k : ℕ) (o : OutletValue)
    (result : Result (Unit {0}) E) → edges_from capacity rows outlets ≡ now → k < length outlets
    → OnErr result (o.message ≡ None) → OnErr result (PreparedFrom now k None (edges_from capacity rows (set outlets k o)))
prepared_err capacity rows outlets now k o (Ok u) v l h = tt
prepared_err capacity rows outlets now k o (Err e) v l h = prepared_from capacity rows outlets now k o None v l h

stocked_after : (readers : List (List Reader)) (outlets : List OutletValue) (k : ℕ) (o : OutletValue)
    → ((x : ℕ) → x < length outlets → IsStocked (length (readers_of readers x)) (get_or outlets x (new_outlet 0)))
    → IsStocked (length (readers_of readers k)) o → (x : ℕ) → x < length (set outlets k o)
    → IsStocked (length (readers_of readers x)) (get_or (set outlets k o) x (new_outlet 0))
stocked_after readers outlets k o all this x l = go (cases_eq x k)
  where
    within : x < length outlets
    within = omega (arith, length-set outlets k o)

    go : (x ≡ k) ⊎ (x ≡ k → ⊥) → IsStocked (length (readers_of readers x)) (get_or (set outlets k o) x (new_outlet 0))
    go (inr n) = subst (λ (y : OutletValue). IsStocked (length (readers_of readers x)) y) (sym (get_or-set_other outlets k x o (new_outlet 0) n)) (all x within)
    go (inl e) =
        let P : ℕ → Type 0 = λ y. y < length outlets → IsStocked (length (readers_of readers y)) (get_or (set outlets k o) y (new_outlet 0)) in
        subst P (sym e) (λ m. subst (λ (y : OutletValue). IsStocked (length (readers_of readers k)) y) (sym (get_or-set_same outlets k o (new_outlet 0) m)) this) within

pub preparing_keeps : (capacity : ℕ) (rows : List (List EdgeValue)) (readers : List (List Reader)) (outlets : List OutletValue) (k : ℕ) (o : OutletValue)
    → GoTogether capacity rows readers outlets → IsStocked (length (readers_of readers k)) o → GoTogether capacity rows readers (set outlets k o)
preparing_keeps capacity rows readers outlets k o together this = record {
  least = together.least;
  most = together.most;
  within = together.within;
  readers_are = together.readers_are;
  places = length-set outlets k o ∙ together.places;
  stocked = stocked_after readers outlets k o together.stocked this;
}

-- what was prepared, or not
pub stocked_by : {E : Type 0} (result : Result (Unit {0}) E) (message : Message) (readers : ℕ) (old new : OutletValue)
    → OnOk result ((new.message ≡ Some message) × (new.left ≡ readers)) → OnErr result (new.message ≡ None) → new.room ≡ old.room
    → readers ≤ old.room → IsStocked readers new
stocked_by (Ok u) message readers old new ok err room r = record { room = omega arith; copies = λ s. ok.1 }
stocked_by (Err e) message readers old new ok err room r = record {
  room = omega arith;
  copies = λ s. absurd (false≢true (subst (λ (m : Option Message). IsSome m) err s));
}

-- ---- heads that are dropped

sources_dropped : (row : List EdgeValue) → map source (map without_first row) ≡ map source row
sources_dropped [] = refl
sources_dropped (e ∷ row) = ap (λ (xs : List ℕ). e.source ∷ xs) (sources_dropped row)

wiring_dropped : (rows : List (List EdgeValue)) (k : ℕ) → sources_of (set rows k (map without_first (row_of rows k))) ≡ sources_of rows
wiring_dropped rows k =
    map-set (map source) rows k (map without_first (row_of rows k)) ∙
    ap (λ (row : List ℕ). set (sources_of rows) k row) (sources_dropped (row_of rows k) ∙ sym (get_or_mapped (map source) rows k [])) ∙
    set-get_or (sources_of rows) k []

edge_dropped : (rows : List (List EdgeValue)) (k port : ℕ) → k < length rows
    → edge_of (set rows k (map without_first (row_of rows k))) k port ≡ without_first (edge_of rows k port)
edge_dropped rows k port l =
    ap (λ (row : List EdgeValue). get_or row port no_edge) (get_or-set_same rows k (map without_first (row_of rows k)) [] l) ∙
    get_or_mapped without_first (row_of rows k) port no_edge

edge_stays : (rows : List (List EdgeValue)) (k r port : ℕ) (row : List EdgeValue) → (r ≡ k → ⊥)
    → edge_of (set rows k row) r port ≡ edge_of rows r port
edge_stays rows k r port row n = ap (λ (xs : List EdgeValue). get_or xs port no_edge) (get_or-set_other rows k r row [] n)

pub dropped_from : (capacity : ℕ) (rows : List (List EdgeValue)) (outlets : List OutletValue) (now : EdgesValue) (k : ℕ)
    → edges_from capacity rows outlets ≡ now → k < length rows
    → DroppedFrom now k (edges_from capacity (set rows k (map without_first (row_of rows k))) outlets)
dropped_from capacity rows outlets now k v l =
    let new = set rows k (map without_first (row_of rows k)) in
    record {
      wiring = wiring_dropped rows k ∙ ap (λ (n : EdgesValue). n.wiring) v;
      capacity = ap (λ (n : EdgesValue). n.capacity) v;
      taken = λ port. messages_at new k port ∙ ap (λ (e : EdgeValue). e.messages) (edge_dropped rows k port l) ∙
          ap (λ (ms : List Message). drop 1 ms) (sym (messages_at rows k port)) ∙ ap (λ (n : EdgesValue). drop 1 (edge_in n k port)) v;
      stays = λ r port n. messages_at new r port ∙ ap (λ (e : EdgeValue). e.messages) (edge_stays rows k r port (map without_first (row_of rows k)) n) ∙
          sym (messages_at rows r port) ∙ ap (λ (e : EdgesValue). edge_in e r port) v;
      prepared = ap (λ (n : EdgesValue). n.prepared) v;
    }

within_without_first : (capacity : ℕ) (edge : EdgeValue) → IsWithin capacity edge → IsWithin capacity (without_first edge)
within_without_first capacity edge h =
    let f : length edge.messages ≤ capacity = h.fits in
    record { capacity_is = h.capacity_is; fits = omega (arith, length-drop 1 edge.messages) }

pub dropping_keeps : (capacity : ℕ) (rows : List (List EdgeValue)) (readers : List (List Reader)) (outlets : List OutletValue) (k : ℕ)
    → GoTogether capacity rows readers outlets → k < length rows
    → GoTogether capacity (set rows k (map without_first (row_of rows k))) readers outlets
dropping_keeps capacity rows readers outlets k together l = record {
  least = together.least;
  most = together.most;
  within = λ r port there. within r port there (cases_eq r k);
  readers_are = subst (λ (w : List (List ℕ)). AreReaders w readers) (sym (wiring_dropped rows k)) together.readers_are;
  places = together.places ∙ sym (length-set rows k (map without_first (row_of rows k)));
  stocked = together.stocked;
}
  where
    new : List (List EdgeValue)
    new = set rows k (map without_first (row_of rows k))

    within : (r port : ℕ) → port < length (row_of (set rows k (map without_first (row_of rows k))) r) → (r ≡ k) ⊎ (r ≡ k → ⊥)
        → IsWithin capacity (edge_of (set rows k (map without_first (row_of rows k))) r port)
    within r port there (inr n) =
        let t : port < length (row_of rows r) = subst (λ (row : List EdgeValue). port < length row) (get_or-set_other rows k r (map without_first (row_of rows k)) [] n) there in
        subst (λ (e : EdgeValue). IsWithin capacity e) (sym (edge_stays rows k r port (map without_first (row_of rows k)) n)) (together.within r port t)
    within r port there (inl e) =
        let P : ℕ → Type 0 = λ y. port < length (row_of (set rows k (map without_first (row_of rows k))) y)
        → IsWithin capacity (edge_of (set rows k (map without_first (row_of rows k))) y port) in
        subst P (sym e) here there
      where
        here : port < length (row_of (set rows k (map without_first (row_of rows k))) k)
            → IsWithin capacity (edge_of (set rows k (map without_first (row_of rows k))) k port)
        here h =
            let s = get_or-set_same rows k (map without_first (row_of rows k)) [] l in
            let t : port < length (map without_first (row_of rows k)) = subst (λ (row : List EdgeValue). port < length row) s h in
            let u : port < length (row_of rows k) = omega (arith, length-map (row_of rows k) without_first) in
            subst (λ (x : EdgeValue). IsWithin capacity x) (sym (edge_dropped rows k port l))
            (within_without_first capacity (edge_of rows k port) (together.within k port u))

-- ---- a message that is put

pub keeps_source : (o : Option Message) (e : EdgeValue) → (with_message o e).source ≡ e.source
keeps_source None e = refl
keeps_source (Some m) e = refl

within_with_message : (capacity : ℕ) (o : Option Message) (edge : EdgeValue) → IsWithin capacity edge → length edge.messages < capacity
    → IsWithin capacity (with_message o edge)
within_with_message capacity None edge h l = h
within_with_message capacity (Some m) edge h l = record {
  capacity_is = h.capacity_is;
  fits = omega (arith, length-append edge.messages (m ∷ []));
}

-- an edge from another node has no place among the readers
no_reader : (rows : List (List EdgeValue)) (readers : List (List Reader)) (k r port : ℕ) → AreReaders (sources_of rows) readers
    → ((edge_of rows r port).source ≡ k → ⊥) → (i : ℕ) → slice_get (readers_of readers k) i ≡ Some (record { node = r; port = port }) → ⊥
no_reader rows readers k r port are n i h = n (wired_there rows r port k (are.read k i (record { node = r; port = port }) h)).1

-- what an edge is after the message was put: it has it at the end, if it takes the messages of this node
abbrev pub sent_rows : Option Message → List (List EdgeValue) → List (List Reader) → ℕ → List (List EdgeValue)
sent_rows o rows readers k = changed_at_each (with_message o) rows (readers_of readers k)

sent_edge : (o : Option Message) (rows : List (List EdgeValue)) (readers : List (List Reader)) (k r port : ℕ) → AreReaders (sources_of rows) readers
    → IsWired (sources_of rows) r port k → edge_of (sent_rows o rows readers k) r port ≡ with_message o (edge_of rows r port)
sent_edge o rows readers k r port are w =
    let x : Reader = record { node = r; port = port } in
    let stands = are.all k x w in
    each_same (with_message o) rows (readers_of readers k) stands.0 x (readers_there rows readers k are) (are.once k) stands.1

other_edge : (o : Option Message) (rows : List (List EdgeValue)) (readers : List (List Reader)) (k r port : ℕ) → AreReaders (sources_of rows) readers
    → ((edge_of rows r port).source ≡ k → ⊥) → edge_of (sent_rows o rows readers k) r port ≡ edge_of rows r port
other_edge o rows readers k r port are n =
    each_other (with_message o) rows (readers_of readers k) r port (readers_there rows readers k are) (no_reader rows readers k r port are n)

pub put_from : (capacity : ℕ) (rows : List (List EdgeValue)) (readers : List (List Reader)) (outlets : List OutletValue) (now : EdgesValue) (k : ℕ)
    (o : Option Message) (room : ℕ) → edges_from capacity rows outlets ≡ now → GoTogether capacity rows readers outlets → k < length outlets
    → prepared_in now k ≡ o → PutFrom now k (edges_from capacity (sent_rows o rows readers k) (set outlets k (new_outlet room)))
put_from capacity rows readers outlets now k o room v together l p =
    let new = sent_rows o rows readers k in
    let are = together.readers_are in
    let wired : (r port a : ℕ) → ReadsIn now r port a → IsWired (sources_of rows) r port a =
    λ r port a h. subst (λ (n : EdgesValue). ReadsIn n r port a) (sym v) h in
    record {
      wiring = each_sources (with_message o) rows (readers_of readers k) (keeps_source o) ∙ ap (λ (n : EdgesValue). n.wiring) v;
      capacity = ap (λ (n : EdgesValue). n.capacity) v;
      put = λ r port m h q. messages_at new r port ∙ ap (λ (e : EdgeValue). e.messages) (sent_edge o rows readers k r port are (wired r port k h)) ∙
          added (sym p ∙ q) (edge_of rows r port) ∙ ap (λ (ms : List Message). ms ++ m ∷ []) (sym (messages_at rows r port)) ∙
          ap (λ (n : EdgesValue). edge_in n r port ++ m ∷ []) v;
      stays = λ r port a h n.
          let s : (edge_of rows r port).source ≡ a = (wired_there rows r port a (wired r port a h)).1 in
          messages_at new r port ∙ ap (λ (e : EdgeValue). e.messages) (other_edge o rows readers k r port are (λ e. n (sym s ∙ e))) ∙
          sym (messages_at rows r port) ∙ ap (λ (e : EdgesValue). edge_in e r port) v;
      prepared = prepared_same outlets k (new_outlet room) l;
      others = λ x n. prepared_other outlets k x (new_outlet room) n ∙ ap (λ (e : EdgesValue). prepared_in e x) v;
    }
  where
    added : {m : Message} → o ≡ Some m → (e : EdgeValue) → (with_message o e).messages ≡ e.messages ++ m ∷ []
    added {m} h e = ap (λ (x : Option Message). (with_message x e).messages) h

pub putting_keeps : (capacity : ℕ) (rows : List (List EdgeValue)) (readers : List (List Reader)) (outlets : List OutletValue) (k : ℕ)
    (o : Option Message) (room : ℕ) → GoTogether capacity rows readers outlets → HasRoomIn (edges_from capacity rows outlets) k
    → length (readers_of readers k) ≤ room → GoTogether capacity (sent_rows o rows readers k) readers (set outlets k (new_outlet room))
putting_keeps capacity rows readers outlets k o room together has enough = record {
  least = together.least;
  most = together.most;
  within = λ r port there. within r port there (cases_eq (edge_of rows r port).source k);
  readers_are = subst (λ (w : List (List ℕ)). AreReaders w readers) (sym (each_sources (with_message o) rows (readers_of readers k) (keeps_source o)))
      together.readers_are;
  places = length-set outlets k (new_outlet room) ∙ together.places ∙ sym (each_rows (with_message o) rows (readers_of readers k));
  stocked = stocked_after readers outlets k (new_outlet room) together.stocked (record { room = enough; copies = λ s. absurd (false≢true s) });
}
  where
    within : (r port : ℕ) → port < length (row_of (sent_rows o rows readers k) r)
        → ((edge_of rows r port).source ≡ k) ⊎ ((edge_of rows r port).source ≡ k → ⊥) → IsWithin capacity (edge_of (sent_rows o rows readers k) r port)
    within r port there by =
        let are = together.readers_are in
        let t : port < length (row_of rows r) =
        (let q = each_length (with_message o) rows (readers_of readers k) r (readers_there rows readers k are) in omega arith) in
        at t by
      where
        at : port < length (row_of rows r) → ((edge_of rows r port).source ≡ k) ⊎ ((edge_of rows r port).source ≡ k → ⊥)
            → IsWithin capacity (edge_of (sent_rows o rows readers k) r port)
        at t (inr n) = subst (λ (e : EdgeValue). IsWithin capacity e) (sym (other_edge o rows readers k r port together.readers_are n)) (together.within r port t)
        at t (inl e) =
            let w : IsWired (sources_of rows) r port k = subst (λ (a : ℕ). IsWired (sources_of rows) r port a) e (there_wired rows r port t) in
            let f : length (edge_of rows r port).messages < capacity = subst (λ (ms : List Message). length ms < capacity) (messages_at rows r port) (has r port w) in
            subst (λ (x : EdgeValue). IsWithin capacity x) (sym (sent_edge o rows readers k r port together.readers_are w))
            (within_with_message capacity o (edge_of rows r port) (together.within r port t) f)

-- ---- what the code has at hand

-- the outlet of a node
pub outlet_read : (outlets : List OutletValue) (k : ℕ) (o : OutletValue) → k < length outlets → o ≡ get_or outlets k o → o ≡ get_or outlets k (new_outlet 0)
outlet_read outlets k o l h = get_or_read outlets k o l h (new_outlet 0)

pub message_read : (capacity : ℕ) (rows : List (List EdgeValue)) (outlets : List OutletValue) (now : EdgesValue) (k : ℕ) (o : OutletValue)
    → edges_from capacity rows outlets ≡ now → k < length outlets → o ≡ get_or outlets k o → prepared_in now k ≡ o.message
message_read capacity rows outlets now k o v l h =
    ap (λ (n : EdgesValue). prepared_in n k) (sym v) ∙ prepared_at outlets k ∙ ap (λ (x : OutletValue). x.message) (sym (outlet_read outlets k o l h))

-- a node for which a message is prepared has an outlet
pub prepared_within : (capacity : ℕ) (rows : List (List EdgeValue)) (outlets : List OutletValue) (now : EdgesValue) (k : ℕ)
    → edges_from capacity rows outlets ≡ now → IsSome (prepared_in now k) → k < length outlets
prepared_within capacity rows outlets now k v s = go (cases_lt k (length outlets))
  where
    go : (k < length outlets) ⊎ (length outlets ≤ k) → k < length outlets
    go (inl l) = l
    go (inr m) =
        let e : prepared_in now k ≡ None =
        ap (λ (n : EdgesValue). prepared_in n k) (sym v) ∙ prepared_at outlets k ∙
        ap (λ (x : OutletValue). x.message) (get_or_past outlets k (new_outlet 0) m) in
        absurd (false≢true (subst (λ (x : Option Message). IsSome x) e s))

-- what its outlet has for its readers
pub stocked_read : (capacity : ℕ) (rows : List (List EdgeValue)) (readers : List (List Reader)) (outlets : List OutletValue) (k : ℕ) (o : OutletValue)
    → GoTogether capacity rows readers outlets → k < length outlets → o ≡ get_or outlets k o → IsStocked (length (readers_of readers k)) o
stocked_read capacity rows readers outlets k o together l h =
    subst (λ (x : OutletValue). IsStocked (length (readers_of readers k)) x) (sym (outlet_read outlets k o l h)) (together.stocked k l)

-- the rows after the code has put the message
rows_put : (rows : Vec (List EdgeValue) Global) (readers : List (List Reader)) (k : ℕ) (o : Option Message) (new shown : List (List EdgeValue))
    (xs : List Reader) → shown ≡ rows.items → xs ≡ readers_of readers k → new ≡ changed_at_each (with_message o) shown xs
    → (with_items rows new).items ≡ sent_rows o rows.items readers k
rows_put rows readers k o new shown xs s x e =
    let n : new ≡ sent_rows o rows.items readers k =
    e ∙ ap (λ (rs : List (List EdgeValue)). changed_at_each (with_message o) rs xs) s ∙
    ap (λ (rs : List Reader). changed_at_each (with_message o) rows.items rs) x in
    let l : length new ≡ rows.len =
    ap length n ∙ each_rows (with_message o) rows.items (readers_of readers k) ∙ sym rows.ok.0 in
    with_items_is rows new l ∙ n

pub put_together : (capacity : ℕ) (rows : Vec (List EdgeValue) Global) (readers : List (List Reader)) (outlets : List OutletValue) (k : ℕ)
    (o : Option Message) (room : ℕ) (new shown : List (List EdgeValue)) (xs : List Reader) (outlet : OutletValue) → shown ≡ rows.items
    → xs ≡ readers_of readers k → new ≡ changed_at_each (with_message o) shown xs → outlet ≡ new_outlet room
    → GoTogether capacity (sent_rows o rows.items readers k) readers (set outlets k (new_outlet room))
    → GoTogether capacity (with_items rows new).items readers (set outlets k outlet)
put_together capacity rows readers outlets k o room new shown xs outlet s x e f h =
    subst (λ (rs : List (List EdgeValue)). GoTogether capacity rs readers (set outlets k outlet)) (sym (rows_put rows readers k o new shown xs s x e))
    (subst (λ (y : OutletValue). GoTogether capacity (sent_rows o rows.items readers k) readers (set outlets k y)) (sym f) h)

pub put_edges : (capacity : ℕ) (rows : Vec (List EdgeValue) Global) (readers : List (List Reader)) (outlets : List OutletValue) (now : EdgesValue)
    (k : ℕ) (o : Option Message) (room : ℕ) (new shown : List (List EdgeValue)) (xs : List Reader) (outlet : OutletValue) → shown ≡ rows.items
    → xs ≡ readers_of readers k → new ≡ changed_at_each (with_message o) shown xs → outlet ≡ new_outlet room
    → PutFrom now k (edges_from capacity (sent_rows o rows.items readers k) (set outlets k (new_outlet room)))
    → PutFrom now k (edges_from capacity (with_items rows new).items (set outlets k outlet))
put_edges capacity rows readers outlets now k o room new shown xs outlet s x e f h =
    subst (λ (rs : List (List EdgeValue)). PutFrom now k (edges_from capacity rs (set outlets k outlet))) (sym (rows_put rows readers k o new shown xs s x e))
    (subst (λ (y : OutletValue). PutFrom now k (edges_from capacity (sent_rows o rows.items readers k) (set outlets k y))) (sym f) h)
