-- Bytes copied one after another, what two such copies leave of a slot, and the request in it. Assumes nothing.
use Rattle.std.proofs.Common.{◌≡◌, ℕ, ◌+◌, ◌<◌, ◌≤◌, List, length, get_or, set, replicate, sym, ◌∙◌, add_assoc, zero-add, arith, get_or-set_other, get_or-set_same}
use native.Mathlib.Decide.{ℕ_discrete, dec_lt}
use lib.ListN.{get_or-replicate, get_or-eq_default}
use Rattle.wire.specs.Part.{part}
use Rattle.wire.proofs.Part.{length_part, get_d_part}
use Rattle.model.specs.Ring.{slot_bytes, head_size, rest_size, layout_of, ring_for, request_of}
use Rattle.layout.specs.Copy.{request_in}
use Rattle.model.specs.declared.Abi.{Abi}
use Rattle.model.specs.declared.Pages.{Pages}
use Rattle.model.proofs.Ring.{fits-for, request-same}
use Rattle.ring.specs.Copy.{Copied, CopyOf}

-- ---- one byte after another

module _ (n : ℕ) (source : List ℕ) (from : ℕ) (before : List ℕ) (to : ℕ) (left : List ℕ) (c : Copied n source from before to left) (l : to + n < length left) where
  abbrev more : List ℕ
  more = set left (to + n) (get_or source (from + n) 0)

  there-more : (i : ℕ) → i < n + 1 → get_or more (to + i) 0 ≡ get_or source (from + i) 0
  there-more i k =
      elim (ℕ_discrete i n) [
        | yes e ↦ rw e (get_or-set_same left (to + n) (get_or source (from + n) 0) 0 l)
        | no d ↦ get_or-set_other left (to + n) (to + i) _ 0 (λ e. d (omega arith)) ∙ c.there i (omega (arith, d))
      ]

  pub copied_more : Copied (n + 1) source from before to more
  copied_more = record {
    there = there-more;
    kept = λ j h. get_or-set_other left (to + n) j _ 0 (λ e. h n (omega arith) e) ∙ c.kept j (λ i k e. h i (omega arith) e);
  }

-- ---- a request in its copy

-- what the two pieces leave
module _ (a : Abi) (rings first copy : List ℕ) (at : ℕ) (room : at + (layout_of a).slot_size ≤ length rings) (n : length copy ≡ slot_bytes)
    (h : Copied head_size rings at (replicate slot_bytes 0) 0 first) (r : Copied rest_size rings (at + (layout_of a).id_at) first 8 copy) where
  abbrev slot : List ℕ
  slot = part (layout_of a).slot_size rings at

  end : (layout_of a).slot_size ≡ (layout_of a).id_at + rest_size
  unfolding ring_for
  end = (fits-for a Pages.One).slot_end

  head-same : (i : ℕ) → i < head_size → get_or copy i 0 ≡ get_or slot i 0
  head-same i k =
      r.kept i (λ q l e. omega arith)
      ∙ (rw (zero-add i) at (h.there i k))
      ∙ sym (get_d_part (layout_of a).slot_size rings at i (omega (arith, end)))

  rest-same : (i : ℕ) → get_or copy (8 + i) 0 ≡ get_or slot ((layout_of a).id_at + i) 0
  rest-same i =
      elim (dec_lt i rest_size) [
        | yes l ↦ r.there i l ∙ sym (get_d_part (layout_of a).slot_size rings at ((layout_of a).id_at + i) (omega (arith, end)) ∙ rw (add_assoc at (layout_of a).id_at i))
        | no m ↦ get_or-eq_default copy 0 (omega (arith, m)) ∙ sym (get_or-eq_default slot 0 (omega (arith, m, end, length_part (layout_of a).slot_size rings at room)))
      ]

  pub slot-copied : CopyOf (layout_of a) slot copy
  slot-copied = record {
    head = head-same;
    gap = λ i l k. r.kept i (λ q m e. omega arith) ∙ h.kept i (λ q m e. omega arith) ∙ get_or-replicate slot_bytes i 0 0 (omega arith);
    rest = rest-same;
  }

-- a copy has the request of its slot
pub request-copied : (a : Abi) (slot copy : List ℕ) → CopyOf (layout_of a) slot copy → request_in copy ≡ request_of (layout_of a) slot
unfolding ring_for
request-copied a slot copy c = request-same (ring_for Abi.Bits64 Pages.One) (ring_for a Pages.One) (fits-for Abi.Bits64 Pages.One) (fits-for a Pages.One) copy slot c.head c.rest
