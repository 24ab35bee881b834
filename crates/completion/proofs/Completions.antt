-- The ways that a completion ends. Assumes nothing.
use mathlib.Core.Path.{◌≡◌, refl, sym, ap, ◌∙◌}
use mathlib.Core.Bool.{Bool, true, false, cond, not}
use mathlib.Core.List.{List, [], ◌∷◌}
use Prim.Native.Nat.{ℕ, ◌≤◌, ◌<◌}
use native.Mathlib.Omega.{arith}
use lib.Dec.{eqb, leb}
use Rattle.std.specs.Prelude.{Ok, Err}
use lib.IntN.{ℤ}
use lib.ListN.{length}
use mir.Syntax.{w32, w64}
use mir.Val.{SFits, of_z, to_z}
use mir.ValLaws.{to_z-of_z}
use borrow.Author.Tests.{le-leb, lt-leb, leb-true, leb-false, eq-eqb, ne_eqb}
use Rattle.model.specs.Backend.{Backend, view_of, holder_of, with_port, with_tag, with_pointer, does, does_all, next}
use Rattle.model.specs.Buffers.{ports, rings_length}
use Rattle.model.specs.Calls.{Reply, Call, Complete, all_done, CompleteEffect}
use Rattle.model.specs.Complete.{Completion, completion_at, completions_from, completions_in, the_one, of_one, status_of, response_for, responses_for, completed}
use Rattle.model.specs.Deeds.{finishing, finishings}
use Rattle.model.specs.Port.{View, is_closed, Holder, held, tag_of, is_busy, clear_busy, zero_tag, after}
use Rattle.model.specs.Ring.{ring_of}
use Rattle.model.specs.Rules.{no_port, names_none, any_names_none, any_names, named_twice, refused_completion, due_complete, effect_due}
use Rattle.model.specs.Turn.{port_id, ring_at, due_to, responded_all_at, notifies_all, responded_at, notifies}
use Rattle.model.specs.declared.Completed.{Completed}
use Rattle.model.specs.declared.Port.{Port}
use Rattle.model.specs.declared.Refusal.{Refusal}
use Rattle.model.specs.declared.PortId.{PortId}
use Rattle.model.specs.declared.Serial.{Serial}
use Rattle.model.specs.declared.Status.{Status}
use Rattle.model.specs.declared.Tag.{Tag}
use Rattle.model.specs.declared.TagId.{TagId}
use Rattle.model.proofs.Base.{or-true}
use Rattle.model.proofs.View.{view-state, view-responded, view-notifies}
use Rattle.response.specs.Promise.{RespondedIn}
use Rattle.memory.specs.Backend.{backend_of, Becomes, with_produced, with_busy}
use Rattle.memory.specs.InUse.{InUse}
use Rattle.memory.specs.Promise.{Promised}
use Rattle.memory.proofs.Backend.{port-with-tag}
use Rattle.memory.proofs.Changes.{then, restated, fields-become, promised, nothing-done}
use Rattle.completion.specs.Steps.{Released, one_completed, TagFinished, in_use_due}

-- ---- the tag released

module _ {m m1 m2 m3 : List ℕ} (k t v w : ℕ) (p : Port) (e : p ≡ (backend_of m).port k) where
  -- the tag zeroed, R raised, the tag's mark cleared
  pub released : v ≡ after p.produced → w ≡ clear_busy p.busy t
      → Becomes m (with_tag (backend_of m) k t zero_tag) m1
      → Becomes m1 (with_port (backend_of m1) k (with_produced ((backend_of m1).port k) v)) m2
      → Becomes m2 (with_port (backend_of m2) k (with_busy ((backend_of m2).port k) w)) m3
      → Released m k t m3
  released f g a b c =
      let gave = then (λ (b : Backend). with_port b k (with_produced (b.port k) v)) a b in
      let both = fields-become (with_tag (backend_of m) k t zero_tag) k (λ q. with_produced q v) (λ q. with_busy q w) gave c in
      restated both (rw (port-with-tag (backend_of m) k t zero_tag k, f, g, e))

-- ---- the response given

pub finished-effect : (b : Backend) (port : PortId) (rings : List ℕ) (p : Port) (x : Tag) (result : ℤ) (pages : List ℕ) (s : Status) (told : Bool)
    → p ≡ b.port port.0 → s ≡ status_of x.expected result → RespondedIn (ring_of p.params) rings port.0 p.produced x.pair s pages told
    → ◌≡◌ {A = CompleteEffect} (record { rings = pages; answer = of_one (Ok (record { port = port; status = s; notify = told })) }) (one_completed (view_of b) rings port.0 x result)
unfolding one_completed
finished-effect b port rings p x result pages s told e z r =
    rw (← z, view-responded b port.0 rings x.pair s, view-notifies b port.0 rings, ← e, r.rings, r.notify)

-- a list of one, by the tag that it names
one-due : (v : View) (rings : List ℕ) (k : ℕ) (t : TagId) (s : Serial) (result : ℤ) (x : Tag) → v.tag k t.0 ≡ held x
    → completed v rings k (record { tag = t; serial = s; result = result } ∷ []) ≡ one_completed v rings k x result
unfolding completed one_completed responses_for response_for responded_at notifies
one-due v rings k t s result x e =
    ap (λ (h : Holder). let y = due_to (tag_of h).pair (status_of (tag_of h).expected result) in
    record { rings = responded_all_at v rings k (y ∷ []); answer = all_done (port_id k) (y.status ∷ []) (notifies_all v rings k 1) }) e

-- ---- the ways that it ends

module _ (m rings : List ℕ) (p : PortId) (t : TagId) (s : Serial) (result : ℤ) (fit : SFits w32 result) where
  abbrev call : Call
  call = Complete rings p (the_one t s result)

  abbrev ended : Refusal → CompleteEffect
  ended why = record { rings = rings; answer = of_one (Err why) }

  -- the entry that the words are read as
  abbrev named : Completion
  named = record { tag = t; serial = s; result = to_z w64 (of_z w64 result) }

  read_back : to_z w64 (of_z w64 result) ≡ result
  read_back = to_z-of_z w64 result (record { sfits = omega (arith, fit.sfits) })

  refused : (why : Refusal) → due_complete (view_of (backend_of m)) rings p (the_one t s result) ≡ refused_completion rings why → Promised m call (ended why) m
  unfolding effect_due refused_completion
  refused why e = nothing-done m call (ended why) (sym e) refl refl

  pub complete-wrong-length : (length rings ≡ rings_length → ⊥) → Promised m call (ended Refusal.WrongLength) m
  unfolding due_complete
  complete-wrong-length n = refused Refusal.WrongLength (rw (ne_eqb _ _ n))

  module _ (n : length rings ≡ rings_length) where
    complete-no-port : ports ≤ p.0 → Promised m call (ended Refusal.NoPort) m
    unfolding due_complete
    complete-no-port h = refused Refusal.NoPort (rw (eq-eqb _ _ n, le-leb ports p.0 h))

    module _ (h : p.0 < ports) where
      complete-closed : is_closed ((backend_of m).port p.0).state ≡ true → Promised m call (ended Refusal.IsClosed) m
      unfolding due_complete
      complete-closed c = refused Refusal.IsClosed (rw (eq-eqb _ _ n, lt-leb ports p.0 h, view-state (backend_of m) p.0, c))

      module _ (c : is_closed ((backend_of m).port p.0).state ≡ false) where
        view-holder : (view_of (backend_of m)).tag p.0 t.0 ≡ holder_of ((backend_of m).port p.0) t.0 ((backend_of m).tag p.0 t.0)
        unfolding view_of
        view-holder = refl

        view-size : (ring_at (view_of (backend_of m)) p.0).size ≡ (ring_of ((backend_of m).port p.0).params).size
        unfolding view_of
        view-size = refl

        -- refused, where the tag names no request
        none_named : names_none (ring_at (view_of (backend_of m)) p.0) t s ((view_of (backend_of m)).tag p.0 t.0) ≡ true → Promised m call (ended Refusal.NotBusy) m
        unfolding due_complete completions_in completions_from completion_at any_names_none
        none_named e = refused Refusal.NotBusy (rw (eq-eqb _ _ n, lt-leb ports p.0 h, view-state (backend_of m) p.0, c, e))

        pub complete-no-tag : (ring_of ((backend_of m).port p.0).params).size ≤ t.0 → Promised m call (ended Refusal.NotBusy) m
        unfolding names_none
        complete-no-tag l = none_named (rw (view-size, le-leb _ t.0 l))

        pub complete-free : is_busy ((backend_of m).port p.0).busy t.0 ≡ false → Promised m call (ended Refusal.NotBusy) m
        unfolding names_none
        complete-free b = none_named (rw (view-holder, b) (or-true (leb (ring_at (view_of (backend_of m)) p.0).size t.0)))

        module _ (l : t.0 < (ring_of ((backend_of m).port p.0).params).size) (b : is_busy ((backend_of m).port p.0).busy t.0 ≡ true) where
          -- the tag is held by what memory keeps of it
          holds : (view_of (backend_of m)).tag p.0 t.0 ≡ held ((backend_of m).tag p.0 t.0)
          holds = view-holder ∙ rw b

          names : (d : Bool) → eqb ((backend_of m).tag p.0 t.0).serial.0 s.0 ≡ d
              → names_none (ring_at (view_of (backend_of m)) p.0) t s ((view_of (backend_of m)).tag p.0 t.0) ≡ not d
          unfolding names_none
          names d e = rw (holds, view-size, lt-leb _ t.0 l, e)

          pub complete-other-serial : (((backend_of m).tag p.0 t.0).serial.0 ≡ s.0 → ⊥) → Promised m call (ended Refusal.NotBusy) m
          complete-other-serial d = none_named (names false (ne_eqb _ _ d))

          done-due : ((backend_of m).tag p.0 t.0).serial.0 ≡ s.0
              → due_complete (view_of (backend_of m)) rings p (the_one t s result) ≡ one_completed (view_of (backend_of m)) rings p.0 ((backend_of m).tag p.0 t.0) result
          unfolding due_complete completions_in completions_from completion_at any_names_none any_names named_twice
          done-due e =
              rw (eq-eqb _ _ n, lt-leb ports p.0 h, view-state (backend_of m) p.0, c, names true (eq-eqb _ _ e))
              (one-due (view_of (backend_of m)) rings p.0 t s named.result ((backend_of m).tag p.0 t.0) holds
              ∙ ap (one_completed (view_of (backend_of m)) rings p.0 ((backend_of m).tag p.0 t.0)) read_back)

          pub complete-done : (pages : List ℕ) (r : Completed) (left : List ℕ) → ((backend_of m).tag p.0 t.0).serial.0 ≡ s.0
              → TagFinished m rings p t.0 ((backend_of m).tag p.0 t.0) result pages r left
              → Promised m call (record { rings = pages; answer = of_one (Ok r) }) left
          unfolding effect_due one_completed completions_in completions_from completion_at next does with_port with_tag with_pointer
          complete-done pages r left e z =
              promised m call (record { rings = pages; answer = of_one (Ok r) }) left (z.effect ∙ sym (done-due e)) z.released
              (λ y. let q : ◌≡◌ {A = ℕ} 0 1 = cc in absurd (omega arith))

-- ---- the port that is named

-- no such port, or a closed one
module _ (m rings : List ℕ) (p : PortId) (t : TagId) (s : Serial) (result : ℤ) (fit : SFits w32 result) (n : length rings ≡ rings_length) where
  pub complete-unused : (why : Refusal) → in_use_due (backend_of m) p ≡ Err why → Promised m (Complete rings p (the_one t s result)) (record { rings = rings; answer = of_one (Err why) }) m
  complete-unused why = go (no_port p) (is_closed ((backend_of m).port p.0).state) refl refl
    where
      go : (d e : Bool) → no_port p ≡ d → is_closed ((backend_of m).port p.0).state ≡ e
          → ◌≡◌ {A = Reply} (cond d (Err Refusal.NoPort) (cond e (Err Refusal.IsClosed) (Ok tt))) (Err why)
          → Promised m (Complete rings p (the_one t s result)) (record { rings = rings; answer = of_one (Err why) }) m
      go true e none closed q =
          let w : why ≡ Refusal.NoPort = cc in
          rw w (complete-no-port m rings p t s result fit n (leb-true ports p.0 none))
      go false true none closed q =
          let w : why ≡ Refusal.IsClosed = cc in
          rw w (complete-closed m rings p t s result fit n (omega (arith, leb-false ports p.0 none)) closed)
      go false false none closed q = let z : ◌≡◌ {A = ℕ} 0 1 = cc in absurd (omega arith)

-- else it is in use
pub in-use : (b : Backend) (p : PortId) → in_use_due b p ≡ Ok tt → InUse b p
in-use b p = go (no_port p) (is_closed (b.port p.0).state) refl refl
  where
    go : (d e : Bool) → no_port p ≡ d → is_closed (b.port p.0).state ≡ e → ◌≡◌ {A = Reply} (cond d (Err Refusal.NoPort) (cond e (Err Refusal.IsClosed) (Ok tt))) (Ok tt) → InUse b p
    go true e none closed q = let z : ◌≡◌ {A = ℕ} 0 1 = cc in absurd (omega arith)
    go false true none closed q = let z : ◌≡◌ {A = ℕ} 0 1 = cc in absurd (omega arith)
    go false false none closed q = record { small = omega (arith, leb-false ports p.0 none); opened = closed }

-- the deeds of a list leave the pointer
pub does-pointer : (cs : List Completion) (zs : List Status) (b : Backend) (k : ℕ) (left : List ℕ) → (does_all b (finishings left k cs zs)).pointer ≡ b.pointer
unfolding does with_port with_tag
does-pointer [] zs b k left = refl
does-pointer (c ∷ cs) [] b k left = refl
does-pointer (c ∷ cs) (z ∷ zs) b k left = does-pointer cs zs (does b (finishing k left c.tag.0 c.serial.0 z)) k left

pub pointer-kept : (b : Backend) (n : ℕ) → b.pointer ≡ n → with_pointer b n ≡ b
unfolding with_pointer
pointer-kept b n e = λ i. record { pointer = sym e i; port = b.port; tag = b.tag }
