-- The verdict by what the code has found out. Assumes nothing.
use borrow.Author.Tests.{ne_eqb, eqb-true, leb-true, ltb-false}
use mathlib.Core.Path.{◌≡◌, refl, sym, ◌∙◌}
use mathlib.Core.Bool.{Bool, true, false, not, cond, ◌&&◌, ◌||◌}
use mathlib.Core.List.{List, []}
use mathlib.Core.Logic.{◌⊎◌, inl, inr, ⊎_elim}
use Prim.Native.Nat.{ℕ, ◌+◌, ◌*◌, ◌%◌, ◌^◌, ◌<◌, ◌≤◌}
use native.Mathlib.Decide.{ℕ_discrete}
use native.Mathlib.Omega.{arith}
use lib.Dec.{eqb, ltb, leb}
use lib.ListN.{length, get_or, take}
use Rattle.model.specs.Base.{all}
use Rattle.model.specs.Ring.{Request, segments_of, request_of}
use Rattle.wire.specs.LittleEndian.{load}
use Rattle.layout.specs.Copy.{copy_layout, request_in}
use Rattle.std.specs.Prelude.{Ok, Err}
use Rattle.model.specs.Checks.{is_empty_barrier, moves_nothing, total_sectors, count_of, data_segments, is_granted, unknown_operation, wrong_amount, is_within_frame, wrong_segment, not_granted, operation_checks, segment_checks, disk_checks, Checked, checks, first_failed}
use Rattle.model.specs.Numbers.{fault_of}
use Rattle.model.specs.Plan.{extents_from, extents_of, extent_words, asks_secure, is_secure, plan_of, decided, verdict_of}
use Rattle.model.specs.declared.Fault.{Fault}
use Rattle.model.specs.declared.Params.{Params}
use Rattle.model.specs.declared.Reason.{Reason}
use Rattle.model.specs.declared.Segment.{Segment}
use Rattle.model.proofs.Base.{clash}
use Rattle.segments.specs.Segments.{passes}
use Rattle.segments.proofs.Pass.{passes-each, passes-within, passes-granted, words-all}
use Rattle.segments.proofs.Slot.{length-segments}
use Rattle.extents.proofs.Words.{length-extents}
use Rattle.ranges.proofs.DiskRange.{range-then, passed-within}
use Rattle.checks.proofs.Steps.{none-fails, checked-steps, by-steps, and_then}
use Rattle.plans.specs.Plans.{empty_plan, discard_plan, data_plan}
use Rattle.verdicts.specs.Judge.{InFront}

-- ---- what a request is that is known, of a right amount, and no discard

some-few : (b c : Bool) → not (b && c) || false || false || false ≡ false → (b ≡ true) × (c ≡ true)
some-few true true h = (refl, refl)
some-few true false h = clash refl h
some-few false c h = clash refl h

or_off : (b : Bool) → b || false || false ≡ false → b ≡ false
or_off true h = h
or_off false h = refl

not-off : (b : Bool) → not b || false ≡ false → b ≡ true
not-off true h = refl
not-off false h = clash refl h

-- no operation of the five
is-unknown : (r : Request) → (r.pair.operation ≡ 0 → ⊥) → (r.pair.operation ≡ 1 → ⊥) → (r.pair.operation ≡ 2 → ⊥) → (r.pair.operation ≡ 3 → ⊥)
    → (r.pair.operation ≡ 5 → ⊥) → unknown_operation r ≡ true
unfolding unknown_operation
is-unknown r a b c d e =
    rw (ne_eqb r.pair.operation 0 a, ne_eqb r.pair.operation 1 b, ne_eqb r.pair.operation 2 c, ne_eqb r.pair.operation 3 d, ne_eqb r.pair.operation 5 e)

module _ (r : Request) (u : unknown_operation r ≡ false) (w : wrong_amount r ≡ false) (d : r.pair.operation ≡ 5 → ⊥) where
  -- the operations that are left, one by one
  by-operation : (P : Type 0) → (r.pair.operation ≡ 0 → P) → (r.pair.operation ≡ 1 → P) → (r.pair.operation ≡ 2 → P) → (r.pair.operation ≡ 3 → P) → P
  by-operation P f0 f1 f2 f3 =
      elim (ℕ_discrete r.pair.operation 0) [
        | yes o ↦ f0 o
        | no a ↦
            elim (ℕ_discrete r.pair.operation 1) [
              | yes o ↦ f1 o
              | no b ↦
                  elim (ℕ_discrete r.pair.operation 2) [
                    | yes o ↦ f2 o
                    | no c ↦ elim (ℕ_discrete r.pair.operation 3) [ yes o ↦ f3 o | no e ↦ clash (is-unknown r a b c e d) u ]
                  ]
            ]
      ]

  -- a read or write has 1 to 11 segments
  some-segments : (o : (r.pair.operation ≡ 0) ⊎ (r.pair.operation ≡ 1)) → (1 ≤ r.n) × (r.n ≤ 11)
  unfolding wrong_amount
  some-segments o =
      let e = ⊎_elim (λ z. some-few (leb 1 r.n) (leb r.n 11) (rw z at w)) (λ z. some-few (leb 1 r.n) (leb r.n 11) (rw z at w)) o in
      (leb-true 1 r.n e.0, leb-true r.n 11 e.1)

  pub few-segments : r.n ≤ 11
  unfolding wrong_amount
  few-segments =
      by-operation (r.n ≤ 11)
      (λ o. (some-segments (inl o)).1)
      (λ o. (some-segments (inr o)).1)
      (λ o. ltb-false 11 r.n (or_off (ltb 11 r.n) (rw o at w)))
      (λ o. omega (arith, eqb-true r.n 0 (not-off (eqb r.n 0) (rw o at w))))

  -- with segments it moves sectors
  pub moves : (r.n ≡ 0 → ⊥) → moves_nothing r ≡ false
  unfolding moves_nothing is_empty_barrier wrong_amount
  moves k =
      by-operation _
      (λ o. rw o)
      (λ o. rw o)
      (λ o. rw (o, ne_eqb r.n 0 k))
      (λ o. absurd (k (eqb-true r.n 0 (not-off (eqb r.n 0) (rw o at w)))))

  -- without segments it is a flush or an empty barrier
  moves-nothing : r.n ≡ 0 → moves_nothing r ≡ true
  unfolding moves_nothing is_empty_barrier
  moves-nothing k =
      by-operation _
      (λ o. absurd (omega (arith, (some-segments (inl o)).0)))
      (λ o. absurd (omega (arith, (some-segments (inr o)).0)))
      (λ o. rw (o, k))
      (λ o. rw o)

-- ---- after the checks 21 to 25

pub operation-verdict : (p : Params) (grants : List ℕ) (r : Request) (f : Fault) → first_failed (operation_checks p r) ≡ Err f → verdict_of p grants r ≡ Err f
operation-verdict p grants r f e = by-steps p grants r ∙ rw e

module _ (p : Params) (r : Request) (h : first_failed (operation_checks p r) ≡ Ok tt) where
  known : unknown_operation r ≡ false
  unfolding operation_checks
  known = none-fails (operation_checks p r) 0 h

  amount : wrong_amount r ≡ false
  unfolding operation_checks
  amount = none-fails (operation_checks p r) 3 h

  -- 28 and 29, or the plan
  range-verdict : (grants : List ℕ) → first_failed (segment_checks grants r) ≡ Ok tt → moves_nothing r ≡ false
      → verdict_of p grants r ≡ decided (plan_of p r) (first_failed (disk_checks p r.start (count_of r) (data_segments r)))
  range-verdict grants s m = by-steps p grants r ∙ rw (h, s, m)

-- ---- a discard

module _ (p : Params) (r : Request) (o : r.pair.operation ≡ 5) where
  discard-moves : moves_nothing r ≡ false
  unfolding moves_nothing is_empty_barrier
  discard-moves = rw o

  discard-count : count_of r ≡ r.sectors
  unfolding count_of
  discard-count = rw o

  discard-none : data_segments r ≡ []
  unfolding data_segments
  discard-none = rw o

  pub discard-extents : extents_of r ≡ []
  unfolding extents_of
  discard-extents = rw o

  pub discard-plan : plan_of p r ≡ discard_plan r.start r.sectors (eqb (r.flag % 2) 1 && p.secure)
  unfolding plan_of is_secure asks_secure extents_of
  discard-plan = rw (discard-count, discard-moves, o)

  module _ (grants : List ℕ) where
    discard-segments : first_failed (segment_checks grants r) ≡ Ok tt
    unfolding segment_checks wrong_segment not_granted
    discard-segments = rw o

    -- 21 to 25, then 28 and 29
    pub discard-checked : first_failed (checks p grants r) ≡ and_then (first_failed (operation_checks p r)) (first_failed (disk_checks p r.start r.sectors []))
    discard-checked = checked-steps p grants r ∙ rw (discard-segments, discard-moves, discard-count, discard-none)

    pub discard-verdict : first_failed (operation_checks p r) ≡ Ok tt
        → verdict_of p grants r ≡ decided (discard_plan r.start r.sectors (eqb (r.flag % 2) 1 && p.secure)) (first_failed (disk_checks p r.start r.sectors []))
    unfolding verdict_of
    discard-verdict h = rw (discard-checked, h, discard-plan)

-- ---- a flush or an empty barrier

module _ (p : Params) (grants : List ℕ) (r : Request) (h : first_failed (operation_checks p r) ≡ Ok tt) (d : r.pair.operation ≡ 5 → ⊥) (k : r.n ≡ 0) (e : r.segments ≡ []) where
  pub empty-extents : extents_of r ≡ []
  unfolding extents_of extents_from
  empty-extents = rw (ne_eqb r.pair.operation 5 d, e)

  empty-segments : first_failed (segment_checks grants r) ≡ Ok tt
  unfolding segment_checks wrong_segment not_granted all
  empty-segments = rw (ne_eqb r.pair.operation 5 d, moves-nothing r (known p r h) (amount p r h) d k, e)

  empty-plan : plan_of p r ≡ empty_plan r.pair.operation
  unfolding plan_of count_of is_secure asks_secure
  empty-plan = rw (moves-nothing r (known p r h) (amount p r h) d k, empty-extents, ne_eqb r.pair.operation 5 d)

  pub empty-started : verdict_of p grants r ≡ Ok (empty_plan r.pair.operation)
  empty-started = by-steps p grants r ∙ rw (h, empty-segments, moves-nothing r (known p r h) (amount p r h) d k, empty-plan)

-- ---- a request with segments

module _ (p : Params) (grants : List ℕ) (r : Request) (h : first_failed (operation_checks p r) ≡ Ok tt) (d : r.pair.operation ≡ 5 → ⊥) where
  pub data-few : r.n ≤ 11
  data-few = few-segments r (known p r h) (amount p r h) d

  pub data-extents : extents_of r ≡ extents_from r.start r.segments
  unfolding extents_of
  data-extents = rw (ne_eqb r.pair.operation 5 d)

  module _ (k : r.n ≡ 0 → ⊥) where
    data-moves : moves_nothing r ≡ false
    data-moves = moves r (known p r h) (amount p r h) d k

    -- 26 or 27
    pub data-fault : all (passes grants r.pair.operation) r.segments ≡ false
        → verdict_of p grants r ≡ Err (fault_of (cond (all is_within_frame r.segments) Reason.NotGranted Reason.WrongSegment))
    unfolding segment_checks wrong_segment not_granted
    data-fault e =
        by-steps p grants r
        ∙ rw (h, ne_eqb r.pair.operation 5 d, data-moves)
        (faulty (all is_within_frame r.segments) (all (is_granted grants r.pair.operation) r.segments) _ (sym (passes-each grants r.pair.operation r.segments) ∙ e))
      where
        faulty : (w g : Bool) (rest : Checked) → w && g ≡ false
            → decided (plan_of p r) (and_then (cond (not w) (Err (fault_of Reason.WrongSegment)) (cond (not g) (Err (fault_of Reason.NotGranted)) (Ok tt))) rest)
            ≡ Err (fault_of (cond w Reason.NotGranted Reason.WrongSegment))
        faulty true true rest z = clash refl z
        faulty true false rest z = refl
        faulty false g rest z = refl

    module _ (e : all (passes grants r.pair.operation) r.segments ≡ true) where
      data-segments : first_failed (segment_checks grants r) ≡ Ok tt
      unfolding segment_checks wrong_segment not_granted
      data-segments = rw (ne_eqb r.pair.operation 5 d, data-moves, passes-within grants r.pair.operation r.segments e, passes-granted grants r.pair.operation r.segments e)

      data-count : count_of r ≡ total_sectors r.segments
      unfolding count_of
      data-count = rw (ne_eqb r.pair.operation 5 d, data-moves)

      data-all : data_segments r ≡ r.segments
      unfolding data_segments
      data-all = rw (ne_eqb r.pair.operation 5 d)

      data-plan : plan_of p r ≡ data_plan r.pair.operation r.start (total_sectors r.segments) (length r.segments)
      unfolding plan_of is_secure asks_secure
      data-plan = rw (data-count, data-moves, data-extents, ne_eqb r.pair.operation 5 d, length-extents r.start r.segments)

      pub data-verdict : verdict_of p grants r
          ≡ decided (data_plan r.pair.operation r.start (total_sectors r.segments) (length r.segments)) (first_failed (disk_checks p r.start (total_sectors r.segments) r.segments))
      data-verdict = range-verdict p r h grants data-segments data-moves ∙ rw (data-count, data-all, data-plan)

-- ---- the promise, by what stands in the slot

module _ (p : Params) (slot : List ℕ) (h : first_failed (operation_checks p (request_in slot)) ≡ Ok tt) where
  pub discard_verdict : get_or slot 0 0 ≡ 5 → (grants : List ℕ)
      → verdict_of p grants (request_in slot)
      ≡ decided (discard_plan (load 8 slot 16) (load 8 slot 24) (eqb (get_or slot 1 0 % 2) 1 && p.secure)) (first_failed (disk_checks p (load 8 slot 16) (load 8 slot 24) []))
  unfolding request_of
  discard_verdict o grants = discard-verdict p (request_in slot) o grants h

  module _ (d : get_or slot 0 0 ≡ 5 → ⊥) where
    -- the first part says nothing: it shows the call to match
    pub few_asked : (first_failed (operation_checks p (request_in slot)) ≡ first_failed (operation_checks p (request_in slot))) × (get_or slot 1 0 ≤ 11)
    unfolding request_of
    few_asked = (refl, data-few p [] (request_in slot) h d)

    module _ (k : get_or slot 1 0 ≡ 0 → ⊥) (grants : List ℕ) where
      abbrev in_slot : List Segment
      in_slot = segments_of (get_or slot 1 0) copy_layout slot 0

      -- 26 or 27
      pub data_fault : all (passes grants (get_or slot 0 0)) in_slot ≡ false
          → verdict_of p grants (request_in slot) ≡ Err (fault_of (cond (all is_within_frame in_slot) Reason.NotGranted Reason.WrongSegment))
      unfolding request_of
      data_fault z = data-fault p grants (request_in slot) h d k z

      -- 28 or 29, or the plan
      pub data_verdict : all (passes grants (get_or slot 0 0)) in_slot ≡ true
          → verdict_of p grants (request_in slot)
          ≡ decided (data_plan (get_or slot 0 0) (load 8 slot 16) (total_sectors in_slot) (get_or slot 1 0)) (first_failed (disk_checks p (load 8 slot 16) (total_sectors in_slot) in_slot))
      unfolding request_of
      data_verdict z = data-verdict p grants (request_in slot) h d k z ∙ rw (length-segments (get_or slot 1 0) copy_layout slot 0)

    -- check 28 has passed: so no disk sector wrapped
    pub data_front : (words : List ℕ) (count : ℕ) → count ≡ total_sectors (segments_of (get_or slot 1 0) copy_layout slot 0)
        → first_failed (disk_checks p (load 8 slot 16) count (segments_of (get_or slot 1 0) copy_layout slot 0)) ≡ Ok tt
        → p.sectors < 2 ^ 64
        → (load 8 slot 16 + total_sectors (segments_of (get_or slot 1 0) copy_layout slot 0) < 2 ^ 64
        → take (4 * length (segments_of (get_or slot 1 0) copy_layout slot 0)) words
        ≡ extent_words (length (segments_of (get_or slot 1 0) copy_layout slot 0)) (extents_from (load 8 slot 16) (segments_of (get_or slot 1 0) copy_layout slot 0)))
        → InFront (request_in slot) words (data_plan (get_or slot 0 0) (load 8 slot 16) count (get_or slot 1 0))
    unfolding request_of
    data_front words count c e m f =
        let ss = segments_of (get_or slot 1 0) copy_layout slot 0 in
        let long : length ss ≡ get_or slot 1 0 = length-segments (get_or slot 1 0) copy_layout slot 0 in
        let fits : load 8 slot 16 + total_sectors ss < 2 ^ 64 = omega (arith, passed-within p (load 8 slot 16) count ss e) in
        record { few = few_asked.1; front = rw (data-extents p [] (request_in slot) h d) (rw long at (f fits)) }

-- for the automatic steps of each function
pub ruleset of_place = (range-then)

pub ruleset of_discard = (discard_verdict)

pub ruleset of_data = (few_asked, passes-each, data_fault, data_verdict, data_front)
