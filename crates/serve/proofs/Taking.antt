-- Taking a request: the copied bytes are those of the slot that the rules name, and what a turn leaves is what the verdict on them makes due. Assumes nothing.
use Rattle.std.proofs.Common.{Ok, Err}
use mathlib.Core.Path.{◌≡◌, refl, sym, ap, ◌∙◌}
use mathlib.Core.Bool.{Bool, true, false, ◌&&◌}
use mathlib.Core.List.{List}
use Prim.Native.Nat.{ℕ, ◌+◌, ◌-◌, ◌*◌, ◌≤◌, ◌<◌}
use native.Mathlib.Omega.{arith}
use borrow.Author.Tests.{eq-eqb, ne_eqb, le-leb, lt-leb}
use Rattle.wire.specs.Part.{part}
use Rattle.wire.proofs.Part.{part-part}
use Rattle.model.specs.Backend.{Backend, view_of, does}
use Rattle.model.specs.Buffers.{ports, ring_share, pages_of, grants_of}
use Rattle.model.specs.Plan.{Verdict, verdict_of, no_words, words_beside}
use Rattle.model.specs.Port.{is_open, in_flight_of, distance, pending_of}
use Rattle.model.specs.Ring.{Request, req_prod, layout_of, ring_for, ring_of, slot_at, slot_of, request_of}
use Rattle.layout.specs.Copy.{request_in}
use Rattle.model.specs.Turn.{pages_at, pending_at, has_work, request_at, settled, overran, served_by}
use Rattle.model.proofs.Base.{clash}
use Rattle.model.proofs.Ring.{fits-for, slot_at-room}
use Rattle.model.specs.declared.Abi.{Abi}
use Rattle.model.specs.declared.Fault.{Fault}
use Rattle.model.specs.declared.Pages.{Pages}
use Rattle.model.specs.declared.Pair.{Pair}
use Rattle.model.specs.declared.Pending.{Pending}
use Rattle.model.specs.declared.Plan.{Plan}
use Rattle.model.specs.declared.Port.{Port}
use Rattle.model.specs.declared.Turned.{Turned}
use Rattle.memory.specs.Backend.{backend_of}
use Rattle.outcomes.specs.Outcomes.{Reads, Room, Broke, Began, Declined}
use Rattle.serve.specs.Serve.{Turns, settled_at}
use Rattle.model.proofs.View.{view-params, view-consumed}

-- ---- the slot

module _ (a : Abi) (n : Pages) where
  layout-of : (ring_for a n).layout ≡ layout_of a
  unfolding ring_for
  layout-of = refl

  -- the copied slot lies in its port's pages,
  slot-in-pages : (i : ℕ) → slot_at (ring_for a n) i + (layout_of a).slot_size ≤ (ring_for a n).bytes
  unfolding ring_for
  slot-in-pages i = slot_at-room (ring_for a n) (fits-for a n) i

  -- and so in its share
  pub slot-within : (i : ℕ) → slot_at (ring_for a n) i + (layout_of a).slot_size ≤ ring_share
  slot-within i = omega (arith, slot-in-pages i, (fits-for a n).within)

  -- the bytes copied are the slot's
  copied : (rings : List ℕ) (k i : ℕ)
      → part (layout_of a).slot_size rings (ring_share * k + slot_at (ring_for a n) i) ≡ slot_of (ring_for a n) (pages_of (ring_for a n) rings k) i
  unfolding slot_of pages_of ring_for
  copied rings k i = sym (part-part (layout_of a).slot_size (ring_for a n).bytes rings (ring_share * k) (slot_at (ring_for a n) i) (slot-in-pages i))

-- the request in the slot of the rings that a port takes next, as the copy reads it
abbrev pub lent_request : List ℕ → ℕ → Port → Request
lent_request rings k p =
    let l = layout_of p.params.abi in
    request_of l (part l.slot_size rings (ring_share * k + slot_at (ring_of p.params) p.consumed))

-- is the one that the rules judge
module _ (b : Backend) (rings : List ℕ) (k : ℕ) (p : Port) (o : Reads b k p) where
  view-request : request_at (view_of b) rings k ≡ (let g = ring_of (b.port k).params in request_of g.layout (slot_of g (pages_of g rings k) (b.port k).consumed))
  unfolding request_at view_of
  view-request = refl

  pub request-copied : lent_request rings k p ≡ request_at (view_of b) rings k
  request-copied = rw (copied p.params.abi p.params.pages rings k p.consumed, view-request, ← o.read, layout-of p.params.abi p.params.pages)

  params-read : (view_of b).params k ≡ p.params
  params-read = view-params b k ∙ ap (λ (q : Port). q.params) (sym o.read)

-- ---- what a distance says, from what the code tests

module _ (size in_flight d : ℕ) where
  nothing : d ≡ 0 → Pending.Nothing ≡ pending_of size in_flight d
  unfolding pending_of
  nothing e = rw (eq-eqb d 0 e)

  waits : (d ≡ 0 → ⊥) → d + in_flight ≤ size → Pending.Waits ≡ pending_of size in_flight d
  unfolding pending_of
  waits n h = rw (ne_eqb d 0 n, le-leb d (size - in_flight) (omega arith))

  overrun : (d ≡ 0 → ⊥) → size < d + in_flight → Pending.Overrun ≡ pending_of size in_flight d
  unfolding pending_of
  overrun n h = rw (ne_eqb d 0 n, lt-leb d (size - in_flight) (omega arith))

-- ---- a request taken, started or answered at once

module _ (m rings grants : List ℕ) (k : ℕ) (p : Port) (o : Reads (backend_of m) k p) (slot : List ℕ)
    (c : request_in slot ≡ lent_request rings k p) (v : Verdict) (j : v ≡ verdict_of p.params (grants_of grants k) (request_in slot)) where
  same-request : request_in slot ≡ request_at (view_of (backend_of m)) rings k
  same-request = c ∙ request-copied (backend_of m) rings k p o

  settled-by : settled_at (backend_of m) rings grants k ≡ settled (view_of (backend_of m)) rings k (request_in slot) v
  settled-by = rw (params-read (backend_of m) rings k p o, ← same-request, ← j)

  module _ (q : Pair) (e : q ≡ (request_in slot).pair) (pages words : List ℕ) (w : words ≡ words_beside (request_in slot) v) (r : Turned)
      (left : List ℕ) where
    pub took-declined : (f : Fault) → v ≡ Err f → Declined m rings k q f pages r left
        → Turns m rings (settled_at (backend_of m) rings grants k) pages words r left
    unfolding settled does
    took-declined f z d = record {
      effect = rw (settled-by, d.rings, d.answer, w, z, e);
      memory = rw d.answer d.memory;
    }

    pub took-started : (plan : Plan) → v ≡ Ok plan → pages ≡ rings → Began m k p q plan r left
        → Turns m rings (settled_at (backend_of m) rings grants k) pages words r left
    unfolding settled does
    took-started plan f u d = record {
      effect = rw (settled-by, d.answer, w, f, u, params-read (backend_of m) rings k p o, view-consumed (backend_of m) k, ← o.read);
      memory = rw (d.answer, ← same-request, ← e) d.memory;
    }

-- ---- serving, by what req_prod says

module _ (b : Backend) (rings grants : List ℕ) (k published : ℕ) (h : k < ports) (e : published ≡ req_prod (pages_at (view_of b) rings k)) (w : has_work (view_of b) rings k ≡ true) where
  abbrev far : ℕ
  far = distance published (b.port k).consumed

  pending-seen : pending_of (ring_of (b.port k).params).size (in_flight_of (b.port k).busy) far ≡ pending_at (view_of b) rings k
  unfolding pending_at view_of
  pending-seen = rw e

  -- there is something to serve
  pub some : far ≡ 0 → ⊥
  unfolding has_work
  some z = none (is_open ((view_of b).state k)) (rw (← nothing _ _ far z ∙ pending-seen) at w)
    where
      none : (t : Bool) → t && false ≡ true → ⊥
      none true x = clash x refl
      none false x = clash x refl

  -- a request waits only where a tag is free
  pub waits-room : far + in_flight_of (b.port k).busy ≤ (ring_of (b.port k).params).size → Room b k (b.port k)
  waits-room l = record { reads = record { port = h; read = refl }; room = omega (arith, some) }

  pub waits-served : far + in_flight_of (b.port k).busy ≤ (ring_of (b.port k).params).size
      → settled_at b rings grants k ≡ served_by (view_of b) rings grants k (pending_at (view_of b) rings k)
  unfolding served_by
  waits-served l = rw (← waits _ _ far some l ∙ pending-seen)

pub overrun-served : (m rings grants : List ℕ) (k published : ℕ) (h : k < ports) (e : published ≡ req_prod (pages_at (view_of (backend_of m)) rings k))
    (w : has_work (view_of (backend_of m)) rings k ≡ true) (pages words : List ℕ) (r : Turned) (left : List ℕ)
    → (ring_of ((backend_of m).port k).params).size < distance published ((backend_of m).port k).consumed + in_flight_of ((backend_of m).port k).busy
    → pages ≡ rings → words ≡ no_words → Broke m k r left
    → Turns m rings (served_by (view_of (backend_of m)) rings grants k (pending_at (view_of (backend_of m)) rings k)) pages words r left
unfolding served_by overran does
overrun-served m rings grants k published h e w pages words r left l u x b = record {
  effect =
      rw (
        ← overrun _ _ (distance published ((backend_of m).port k).consumed) (some (backend_of m) rings grants k published h e w) l
            ∙ pending-seen (backend_of m) rings grants k published h e w,
        b.answer,
        x,
        u,
      );
  memory = rw b.answer b.memory;
}
