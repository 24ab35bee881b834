-- Every call has an outcome that keeps its promise: each change that an event makes of the backend can be made of memory. Assumes nothing but that lent bytes are
-- bytes.
use mathlib.Core.Path.{◌≡◌, refl, sym}
use mathlib.Core.Bool.{false, not, ◌&&◌}
use mathlib.Core.List.{List, [], ◌∷◌}
use Prim.Native.Nat.{ℕ, ◌+◌, ◌^◌, ◌≤◌, ◌<◌}
use native.Mathlib.Nat.{mod-lt}
use native.Mathlib.Omega.{arith}
use lib.Dec.{ltb}
use Rattle.model.specs.Backend.{Backend, view_of, with_port, with_tag, with_pointer, broken_port, started_port, answered_port, finished_port, does, does_all, next}
use Rattle.model.specs.Buffers.{ports, grants_of, are_rings, are_grants}
use Rattle.std.specs.Prelude.{Result, Ok, Err}
use Rattle.model.specs.Calls.{Reply, Call, Open, Close, Turn, Complete, TurnEffect, CompleteAnswer, none_done, all_done, Effect}
use Rattle.model.specs.Complete.{Completion, completions_in, expected_of}
use Rattle.model.specs.Deeds.{port_after, params_in, finishings, deeds}
use Rattle.model.specs.Demand.{All, IsBytes, LendsBytes}
use Rattle.model.specs.NodeSheet.{sheet_of}
use Rattle.model.specs.Plan.{Verdict, verdict_of}
use Rattle.model.specs.Port.{View, Holder, after, in_flight_of, closed_port, open_port, zero_tag}
use Rattle.model.specs.Ring.{Ring, ring_for, ring_of}
use Rattle.model.specs.Rules.{due_turn, names_none, any_names_none, effect_due}
use Rattle.model.specs.Turn.{ring_at, serial_of, pending_at, request_at, idle, settled, overran, served_by, passed_over, turned}
use Rattle.model.specs.declared.Pending.{Pending}
use Rattle.model.specs.declared.Port.{Port}
use Rattle.model.specs.declared.PortId.{PortId}
use Rattle.model.specs.declared.Refusal.{Refusal}
use Rattle.model.specs.declared.Status.{Status}
use Rattle.model.specs.declared.Tag.{Tag}
use Rattle.model.specs.declared.Turned.{Turned}
use Rattle.model.proofs.Base.{by_cond, or_left, or_right}
use Rattle.model.proofs.Completions.{names-one}
use Rattle.model.proofs.DueFacts.{chosen-lt, Started, OpenFacts, CloseFacts, TurnFacts, CompleteFacts, facts, waits-room}
use Rattle.model.proofs.Page.{request-fits, slot-bytes}
use Rattle.model.proofs.Ring.{fits}
use Rattle.model.proofs.View.{view-consumed}
use Rattle.marks.proofs.Marks.{lowest-free, lowest-free-lt}
use Rattle.request.proofs.Expected.{expected-fits}
use Rattle.memory.specs.Backend.{backend_of, Exact, Becomes}
use Rattle.memory.specs.Layout.{tags}
use Rattle.memory.specs.Promise.{Promised}
use Rattle.memory.proofs.Backend.{backend-ranged, size-tags}
use Rattle.memory.proofs.Changes.{unchanged, stays, restated, Some, some-port, some-tag, some-pointer, some_then, promised}
use Rattle.memory.proofs.Lens.{Ranged, RangedTag}
use Rattle.completion.proofs.Completions.{does-pointer, pointer-kept}

-- ---- a plan's expected result fits its word

abbrev FitsPlan : Result Turned Refusal → Type 0
FitsPlan (Err why) = Unit
FitsPlan (Ok Turned.Idle) = Unit
FitsPlan (Ok (Turned.Overrun p)) = Unit
FitsPlan (Ok (Turned.Started p t s plan)) = expected_of plan < 2 ^ 32
FitsPlan (Ok (Turned.Answered p f y)) = Unit

abbrev FitsIn : TurnEffect → Type 0
FitsIn e = FitsPlan e.answer

settled-fits : (v : View) (rings grants : List ℕ) (k : ℕ) (x : Verdict) → verdict_of (v.params k) (grants_of grants k) (request_at v rings k) ≡ x
    → FitsIn (settled v rings k (request_at v rings k) x)
unfolding settled request_at ring_for
settled-fits v rings grants k (Err f) e = tt
settled-fits v rings grants k (Ok plan) e = expected-fits (v.params k) _ (grants_of grants k) _ plan e

served-fits : (v : View) (rings grants : List ℕ) (k : ℕ) (x : Pending) → FitsIn (served_by v rings grants k x)
unfolding served_by idle overran
served-fits v rings grants k Pending.Nothing = tt
served-fits v rings grants k Pending.Waits = settled-fits v rings grants k _ refl
served-fits v rings grants k Pending.Overrun = tt

turn-fits : (v : View) (rings grants words : List ℕ) → FitsIn (due_turn v rings grants words)
unfolding due_turn turned idle
turn-fits v rings grants words =
    by_cond FitsIn (not (are_rings rings && are_grants grants)) _ _ (λ _. tt) (λ _.
    by_cond FitsIn (ltb (passed_over v rings) ports) _ _ (λ _. served-fits v rings grants _ _) (λ _. tt))

-- ---- what an event leaves

record Leaves (m : List ℕ) (c : Call) (e : Effect c) : Type 0 where
  left : List ℕ
  becomes : Becomes m (next (backend_of m) (record { call = c; effect = e })) left
  still : deeds c e ≡ [] → left ≡ m

-- a deed was done
one-deed : {m : List ℕ} {c : Call} (e : Effect c) (o : Some m (next (backend_of m) (record { call = c; effect = e }))) → (deeds c e ≡ [] → ⊥) → Leaves m c e
one-deed e o d = record { left = o.left; becomes = o.becomes; still = λ z. absurd (d z) }

module _ (m : List ℕ) (x : Exact m) where
  -- no deed, and the pointer where it was
  none : {c : Call} (e : Effect c) → Becomes m (next (backend_of m) (record { call = c; effect = e })) m → Leaves m c e
  none e b = record { left = m; becomes = b; still = λ _. refl }

  -- a port put, and then the pointer
  pointed : (b : Backend) → Some m b → (k : ℕ) → Some m (with_pointer b (port_after k))
  pointed b o k = some_then (λ (c : Backend). with_pointer c (port_after k)) x o (λ l e. some-pointer l e (port_after k) (mod-lt (k + 1) (omega arith)))

  leaves-open : (p : PortId) (sheet : List ℕ) (e : Reply) → OpenFacts (view_of (backend_of m)) p e → Leaves m (Open p sheet) e
  unfolding next does with_port with_pointer
  leaves-open p sheet (Err why) f = none (Err why) (unchanged m)
  leaves-open p sheet (Ok done) f =
      one-deed (Ok done) (some-port m x p.0 f.0 (open_port (params_in (sheet_of sheet))) (record { consumed = omega arith; produced = omega arith })) (λ z.
      let w : ◌≡◌ {A = ℕ} 0 1 = cc in omega arith)

  leaves-close : (p : PortId) (e : Reply) → CloseFacts (view_of (backend_of m)) p e → Leaves m (Close p) e
  unfolding next does with_port with_pointer
  leaves-close p (Err why) f = none (Err why) (unchanged m)
  leaves-close p (Ok done) f =
      one-deed (Ok done) (some-port m x p.0 f.0 closed_port (record { consumed = omega arith; produced = omega arith })) (λ z.
      let w : ◌≡◌ {A = ℕ} 0 1 = cc in omega arith)

  -- a started request has room, so its tag is one that there is
  module _ (rings : List ℕ) (k t s : ℕ) (f : Started (view_of (backend_of m)) rings k t s) where
    few : in_flight_of ((backend_of m).port k).busy < (ring_of ((backend_of m).port k).params).size
    unfolding pending_at view_of
    few = waits-room _ _ _ f.waits

    tag-lt : t < tags
    unfolding view_of
    tag-lt =
        let p = (backend_of m).port k in
        let low = lowest-free (ring_of p.params).size p (λ u. (backend_of m).tag k u) (fits p.params).marked few in
        let l = lowest-free-lt (ring_of p.params).size p.busy (fits p.params).marked few in
        omega (arith, l, low, f.lowest, size-tags p.params)

    serial-fits : s < 2 ^ 32
    serial-fits = rw (f.serial, view-consumed (backend_of m) k) (backend-ranged m k).consumed

  operation-fits : (rings : List ℕ) (k : ℕ) → IsBytes rings → (request_at (view_of (backend_of m)) rings k).pair.operation < 2 ^ 8
  unfolding request_at
  operation-fits rings k y = (request-fits _ _ (slot-bytes (ring_at (view_of (backend_of m)) k) rings k _ y)).1

  index-lt : (i : ℕ) → after i < 2 ^ 32
  index-lt i = mod-lt (i + 1) (omega arith)

  -- a tag put, then its port
  tagged : (k t : ℕ) → k < ports → t < tags → (y : Tag) → RangedTag y → (q : Port) → Ranged q → Some m (with_port (with_tag (backend_of m) k t y) k q)
  tagged k t h l y r q s = some_then (λ (b : Backend). with_port b k q) x (some-tag m x k h t l y r) (λ o e. some-port o e k h q s)

  leaves-turn : (rings grants words pages filled : List ℕ) (r : Result Turned Refusal) → IsBytes rings → TurnFacts (view_of (backend_of m)) rings pages r → FitsPlan r
      → Leaves m (Turn rings grants words) (record { rings = pages; words = filled; answer = r })
  unfolding next does
  leaves-turn rings grants words pages filled (Err why) y f o = none (record { rings = pages; words = filled; answer = Err why }) (stays m)
  leaves-turn rings grants words pages filled (Ok Turned.Idle) y f o = none (record { rings = pages; words = filled; answer = Ok Turned.Idle }) (stays m)
  leaves-turn rings grants words pages filled (Ok (Turned.Overrun p)) y f o =
      let k = p.0 in
      let q = (backend_of m).port k in
      let h = chosen-lt f in
      one-deed (record { rings = pages; words = filled; answer = Ok (Turned.Overrun p) })
      (pointed _ (some-port m x k h (broken_port q) (record { consumed = (backend-ranged m k).consumed; produced = (backend-ranged m k).produced })) k) (λ z.
      let w : ◌≡◌ {A = ℕ} 0 1 = cc in omega arith)
  leaves-turn rings grants words pages filled (Ok (Turned.Answered p a b)) y f o =
      let k = p.0 in
      let q = (backend_of m).port k in
      let h = chosen-lt f.choice in
      one-deed (record { rings = pages; words = filled; answer = Ok (Turned.Answered p a b) })
      (pointed _ (some-port m x k h (answered_port q) (record { consumed = index-lt q.consumed; produced = index-lt q.produced })) k) (λ e.
      let w : ◌≡◌ {A = ℕ} 0 1 = cc in omega arith)
  leaves-turn rings grants words pages filled (Ok (Turned.Started p t s plan)) y f o =
      let k = p.0 in
      let q = (backend_of m).port k in
      let h = chosen-lt f.choice in
      let pair = (request_at (view_of (backend_of m)) rings k).pair in
      let x : Tag = record { pair = pair; serial = serial_of s.0; expected = expected_of plan } in
      let r : RangedTag x = record { operation = operation-fits rings k y; serial = serial-fits rings k t.0 s.0 f; expected = o } in
      one-deed (record { rings = pages; words = filled; answer = Ok (Turned.Started p t s plan) })
      (pointed _
      (tagged k t.0 h (tag-lt rings k t.0 s.0 f) x r (started_port q t.0)
      (record { consumed = index-lt q.consumed; produced = (backend-ranged m k).produced }))
      k) (λ z. let w : ◌≡◌ {A = ℕ} 0 1 = cc in omega arith)

-- the tags that entries name are those of the ring
tags-lt : (g : Ring) (held : ℕ → Holder) (cs : List Completion) → g.size ≤ tags → any_names_none g held cs ≡ false → All (λ (c : Completion). c.tag.0 < tags) cs
unfolding any_names_none
tags-lt g held [] l e = tt
tags-lt g held (c ∷ cs) l e =
    (omega (arith, (names-one g c.tag c.serial _ (or_left _ _ e)).small), tags-lt g held cs l (or_right (names_none g c.tag c.serial (held c.tag.0)) _ e))

-- the deeds of a list, one after another
some-finishings : (m : List ℕ) → Exact m → (k : ℕ) → k < ports → (left : List ℕ) (cs : List Completion) (zs : List Status) → All (λ (c : Completion). c.tag.0 < tags) cs
    → Some m (does_all (backend_of m) (finishings left k cs zs))
unfolding does
some-finishings m x k h left [] zs l = record { left = m; becomes = unchanged m }
some-finishings m x k h left (c ∷ cs) [] l = record { left = m; becomes = unchanged m }
some-finishings m x k h left (c ∷ cs) (z ∷ zs) l =
    let o = (backend_of m).port k in
    some_then (λ (b : Backend). does_all b (finishings left k cs zs)) x
    (tagged m x k c.tag.0 h l.0 zero_tag (record { operation = omega arith; serial = omega arith; expected = omega arith })
    (finished_port o c.tag.0) (record { consumed = (backend-ranged m k).consumed; produced = index-lt m x o.produced }))
    (λ n e. some-finishings n e k h left cs zs l.1)

leaves-complete : (m : List ℕ) → Exact m → (rings pages : List ℕ) (p : PortId) (entries : List ℕ) (r : CompleteAnswer)
    → CompleteFacts (view_of (backend_of m)) rings pages p (completions_in entries) r
    → Leaves m (Complete rings p entries) (record { rings = pages; answer = r })
unfolding next
leaves-complete m x rings pages p entries (none_done i) f = none m x (record { rings = pages; answer = none_done i }) (stays m)
leaves-complete m x rings pages p entries (all_done q zs b) f = go (completions_in entries) refl zs refl
  where
    v : View
    v = view_of (backend_of m)

    cs : List Completion
    cs = completions_in entries

    low : All (λ (c : Completion). c.tag.0 < tags) cs
    low = tags-lt (ring_at v p.0) (v.tag p.0) cs (size-tags (v.params p.0)) f.named

    go : (l : List Completion) → cs ≡ l → (y : List Status) → zs ≡ y → Leaves m (Complete rings p entries) (record { rings = pages; answer = all_done q zs b })
    go [] e y w = none m x (record { rings = pages; answer = all_done q zs b }) (rw e (stays m))
    go (c ∷ l) e [] w = none m x (record { rings = pages; answer = all_done q zs b }) (rw (e, w) (stays m))
    go (c ∷ l) e (z ∷ y) w =
        let o = some-finishings m x p.0 f.small pages cs zs low in
        let kept = pointer-kept _ (backend_of m).pointer (does-pointer cs zs (backend_of m) p.0 pages) in
        one-deed (record { rings = pages; answer = all_done q zs b }) (record { left = o.left; becomes = restated o.becomes (sym kept) }) (λ d.
        let bad = rw (e, w) at d in
        let u : ◌≡◌ {A = ℕ} 0 1 = cc in omega arith)

-- ---- every call

-- a memory that keeps what a call promises, with the effect due
pub record CallOutcome (m : List ℕ) (c : Call) : Type 0 where
  pub left : List ℕ
  pub promised : Promised m c (effect_due (view_of (backend_of m)) c) left

pub outcome : (m : List ℕ) → Exact m → (c : Call) → LendsBytes c → CallOutcome m c
unfolding effect_due
outcome m x (Open p sheet) y =
    let e = effect_due (view_of (backend_of m)) (Open p sheet) in
    let l = leaves-open m x p sheet e (facts (view_of (backend_of m)) (Open p sheet)) in
    record { left = l.left; promised = promised m (Open p sheet) e l.left refl l.becomes l.still }
outcome m x (Close p) y =
    let e = effect_due (view_of (backend_of m)) (Close p) in
    let l = leaves-close m x p e (facts (view_of (backend_of m)) (Close p)) in
    record { left = l.left; promised = promised m (Close p) e l.left refl l.becomes l.still }
outcome m x (Turn rings grants words) y =
    let c = Turn rings grants words in
    let e = effect_due (view_of (backend_of m)) c in
    let l = leaves-turn m x rings grants words e.rings e.words e.answer y (facts (view_of (backend_of m)) c) (turn-fits (view_of (backend_of m)) rings grants words) in
    record { left = l.left; promised = promised m c e l.left refl l.becomes l.still }
outcome m x (Complete rings p entries) y =
    let c = Complete rings p entries in
    let e = effect_due (view_of (backend_of m)) c in
    let l = leaves-complete m x rings e.rings p entries e.answer (facts (view_of (backend_of m)) c) in
    record { left = l.left; promised = promised m c e l.left refl l.becomes l.still }
