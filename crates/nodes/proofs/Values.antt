-- The laws of a walk over the bodies. Assumes nothing.
use mathlib.Core.Path.{◌≡◌, refl, sym, ◌∙◌}
use mathlib.Core.Bool.{true, ◌&&◌}
use mathlib.Core.List.{List, [], ◌∷◌}
use Prim.Native.Nat.{ℕ, zero, suc, ◌+◌, ◌<◌, ◌≤◌}
use native.Mathlib.Decide.{ℕ_discrete}
use native.Mathlib.Numerals.{add-one}
use native.Mathlib.Omega.{arith}
use lib.Dec.{ltb, leb}
use lib.ListN.{length, get_or, set, length-set, replicate, take, drop, drop_of_length-le, length-drop}
use lib.Seq.{drop-cons, get_or-set_same, get_or-set_other}
use borrow.Author.Tests.{ltb-true, leb-true, eq-eqb, ne_eqb}
use Rattle.std.specs.Prelude.{Ok, Err}
use Rattle.std.specs.List.{sum_by}
use Rattle.std.proofs.lemmas.List.Sums.{sum_by-cons}
use Rattle.model.specs.NodeSheet.{Entry, Sheet, rising, body_of, after_body, after_bodies, value_of, absent, values_of}
use Rattle.model.specs.declared.Refusal.{Refusal}
use Rattle.model.proofs.Base.{and_left, and_right}
use Rattle.contents.specs.Contents.{length_of, entries_in}
use Rattle.nodes.specs.Values.{Readable, BodiesRead}

-- ---- rising nodes

-- what it says of an entry that the nodes rise
pub record Risen (before node : ℕ) (es : List Entry) : Type 0 where
  pub above : before < node
  pub within : node ≤ 9
  pub on : rising node es ≡ true

risen-cons : (before : ℕ) (e : Entry) (es : List Entry) → rising before (e ∷ es) ≡ true → Risen before e.node es
unfolding rising
risen-cons before e es h =
    let here = and_left (ltb before e.node && leb e.node 9) (rising e.node es) h in
    record {
      above = ltb-true before e.node (and_left (ltb before e.node) (leb e.node 9) here);
      within = leb-true e.node 9 (and_right (ltb before e.node) (leb e.node 9) here);
      on = and_right (ltb before e.node && leb e.node 9) (rising e.node es) h;
    }

-- a node has no entry among those that rise from above it
value-below : (es : List Entry) (before node a : ℕ) → rising before es ≡ true → node ≤ before → value_of node a es ≡ a
unfolding value_of
value-below [] before node a h l = refl
value-below (e ∷ es) before node a h l =
    let r = risen-cons before e es h in
    rw (ne_eqb e.node node (λ z. omega arith)) (value-below es e.node node a r.on (omega arith))

-- ---- what the code stores at first, by node; there is no node 0

abbrev stored : List ℕ
stored = 0 ∷ 0 ∷ 0 ∷ 0 ∷ 0 ∷ 0 ∷ 512 ∷ 0 ∷ 0 ∷ 0 ∷ []

zeros : (n node : ℕ) → ◌≡◌ {A = ℕ} (get_or (replicate n 0) node 0) 0
zeros zero node = refl
zeros (suc n) zero = refl
zeros (suc n) (suc node) = zeros n node

stored-absent : (node : ℕ) → get_or stored node 0 ≡ absent node
unfolding absent
stored-absent node =
    elim (ℕ_discrete node 6) [
      | yes e ↦ rw e
      | no e ↦ rw (ne_eqb node 6 e) (get_or-set_other (replicate 10 0) 6 node 512 0 e ∙ zeros 10 node)
    ]

-- ---- the walk

-- what holds at entry i, whose body begins the rest, of the values stored so far
pub record Walked (entries : List (List ℕ)) (bodies values rest : List ℕ) (i : ℕ) : Type 0 where
  pub long : length values ≡ 10
  pub whole : sum_by length_of (drop i entries) ≡ length rest
  pub before : ℕ
  pub risen : rising before (entries_in (drop i entries) rest) ≡ true
  pub after : (then : Sheet) → after_bodies (entries_in (drop i entries) rest) then ≡ after_bodies (entries_in entries bodies) then
  pub value : (node : ℕ) → value_of node (get_or values node 0) (entries_in (drop i entries) rest) ≡ values_of (entries_in entries bodies) node

pub walked_start : (entries : List (List ℕ)) (bodies : List ℕ) → Readable entries bodies → Walked entries bodies stored bodies 0
unfolding values_of
walked_start entries bodies r = record {
  long = refl;
  whole = r.whole;
  before = 0;
  risen = r.risen;
  after = λ then. refl;
  value = λ node. rw (stored-absent node);
}

module _ (entries : List (List ℕ)) (bodies values rest : List ℕ) (i : ℕ) (w : Walked entries bodies values rest i) where
  module _ (h : i < length entries) where
    abbrev here : List ℕ
    here = get_or entries i []

    -- the entry, and those after it
    next : entries_in (drop i entries) rest
        ≡ record { node = get_or here 0 0; reserved = get_or here 1 0; body = take (length_of here) rest } ∷ entries_in (drop (i + 1) entries) (drop (length_of here) rest)
    unfolding entries_in
    next = rw (drop-cons entries i [] h, add-one i)

    total : length_of here + sum_by length_of (drop (i + 1) entries) ≡ length rest
    total = sym (sum_by-cons length_of here (drop (i + 1) entries)) ∙ rw (add-one i, ← drop-cons entries i [] h) w.whole

    -- the body that is read
    pub walked-within : length_of here ≤ length rest
    walked-within = omega (arith, total)

    risen : Risen w.before (get_or here 0 0) (entries_in (drop (i + 1) entries) (drop (length_of here) rest))
    risen = risen-cons w.before _ _ (rw next at w.risen)

    -- the node that is stored at
    pub walked-node : get_or here 0 0 ≤ 9
    walked-node = risen.within

    module _ (body : List ℕ) (front : body ≡ take (length_of here) rest) where
      -- the value stored at its node is what is looked up from here on
      value_on : (v : ℕ) → body_of (get_or here 0 0) (take (length_of here) rest) ≡ Ok v → (node : ℕ)
          → value_of node (get_or (set values (get_or here 0 0) v) node 0) (entries_in (drop (i + 1) entries) (drop (length_of here) rest))
          ≡ value_of node (get_or values node 0) (entries_in (drop i entries) rest)
      unfolding value_of
      value_on v e node =
          elim (ℕ_discrete (get_or here 0 0) node) [
            | yes z ↦
                rw (next, eq-eqb (get_or here 0 0) node z, ← z, e, get_or-set_same values (get_or here 0 0) v 0 (omega (arith, walked-node, w.long)))
                (value-below (entries_in (drop (i + 1) entries) (drop (length_of here) rest)) (get_or here 0 0) (get_or here 0 0) v risen.on (omega arith))
            | no z ↦ rw (next, ne_eqb (get_or here 0 0) node z, get_or-set_other values (get_or here 0 0) node v 0 (λ y. z (sym y)))
          ]

      pub walked_next : (v : ℕ) → Ok v ≡ body_of (get_or here 0 0) body → Walked entries bodies (set values (get_or here 0 0) v) (drop (length_of here) rest) (i + 1)
      unfolding after_bodies after_body
      walked_next v e =
          let read = rw front at (sym e) in
          record {
            long = rw length-set w.long;
            whole = simp length-drop (omega (arith, total));
            before = get_or here 0 0;
            risen = risen.on;
            after = λ then. (rw (next, read) at (w.after then));
            value = λ node. value_on v read node ∙ w.value node;
          }

      pub walked_stop : (r : Refusal) → Err r ≡ body_of (get_or here 0 0) body → BodiesRead (entries_in entries bodies) (Err r)
      unfolding after_bodies after_body
      walked_stop r e then =
          let read = rw front at (sym e) in
          sym (rw (next, read) at (w.after then))

  pub walked-done : length entries ≤ i → BodiesRead (entries_in entries bodies) (Ok values)
  unfolding after_bodies value_of entries_in
  walked-done h =
      let none : drop i entries ≡ [] = drop_of_length-le entries h in
      record {
        after = λ then. sym (rw none at (w.after then));
        value = λ node. (rw none at (w.value node));
      }
