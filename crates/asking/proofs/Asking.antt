-- The checks of a request that is put, by its operation, and over its segments one after another. Assumes nothing.
use mathlib.Core.Path.{◌≡◌, refl, ap, ◌∙◌, sym}
use mathlib.Core.Bool.{Bool, true, false, not, ◌&&◌, ◌||◌}
use mathlib.Core.List.{List}
use Prim.Native.Nat.{ℕ, suc, ◌+◌, ◌*◌, ◌^◌, ◌≤◌, min}
use native.Mathlib.Decide.{ℕ_discrete}
use native.Mathlib.Omega.{arith}
use lib.Dec.{eqb, ltb, leb}
use lib.ListN.{get_or}
use borrow.Author.Tests.{eqb-true, ne_eqb, leb-true, ltb-false, le-ltb, not-false}
use Rattle.model.specs.Base.{all}
use Rattle.model.specs.Checks.{max_segments, unknown_operation, wrong_amount, is_within_frame, wrong_segment}
use Rattle.model.specs.Ring.{Request, read, write, barrier, flush, discard}
use Rattle.model.proofs.Base.{clash, and_right, and-false}
use Rattle.asking.specs.Request.{segment_in, segments_in, request_in, is_foreign, is_narrow, is_too_wide, is_bad}
use Rattle.asking.specs.Slot.{discard_slot, segments_slot, slot_for}

-- ---- tests

or-one : (b : Bool) → b || false ≡ b
or-one true = refl
or-one false = refl

or-two : (b : Bool) → b || false || false ≡ b
or-two true = refl
or-two false = refl

or-three : (b : Bool) → b || false || false || false ≡ b
or-three true = refl
or-three false = refl

-- ---- the backend's check 21

-- A guest's own list of operations is, today, all that a backend knows: 33 is due for just those that check 21 refuses.
pub foreign-unknown : (r : Request) → is_foreign r ≡ unknown_operation r
unfolding is_foreign unknown_operation
foreign-unknown r = refl

-- ---- checks 21 and 25, by the operation

module _ (r : Request) where
  abbrev operation : ℕ
  operation = r.pair.operation

  abbrev amount : ℕ
  amount = r.n

  abbrev sectors : ℕ
  sectors = r.sectors

  abbrev asks : Bool
  asks = is_foreign r || wrong_amount r

  pub asks_read : operation ≡ read → asks ≡ not (leb 1 amount && leb amount max_segments)
  unfolding is_foreign wrong_amount
  asks_read e = rw e (or-three (not (leb 1 amount && leb amount max_segments)))

  pub asks_write : operation ≡ write → asks ≡ not (leb 1 amount && leb amount max_segments)
  unfolding is_foreign wrong_amount
  asks_write e = rw e (or-three (not (leb 1 amount && leb amount max_segments)))

  pub asks-barrier : operation ≡ barrier → asks ≡ ltb max_segments amount
  unfolding is_foreign wrong_amount
  asks-barrier e = rw e (or-two (ltb max_segments amount))

  pub asks-flush : operation ≡ flush → asks ≡ not (eqb amount 0)
  unfolding is_foreign wrong_amount
  asks-flush e = rw e (or-one (not (eqb amount 0)))

  pub asks-other : (operation ≡ read → ⊥) → (operation ≡ write → ⊥) → (operation ≡ barrier → ⊥) → (operation ≡ flush → ⊥) → (operation ≡ discard → ⊥) → asks ≡ true
  unfolding is_foreign wrong_amount
  asks-other a b c d e = rw (ne_eqb operation 0 a, ne_eqb operation 1 b, ne_eqb operation 2 c, ne_eqb operation 3 d, ne_eqb operation 5 e)

  -- what passes them, and is no discard, has no more segments than there is room for
  pub few-segments : asks ≡ false → (operation ≡ discard → ⊥) → amount ≤ max_segments
  few-segments f d =
      elim (ℕ_discrete operation read) [
        | yes e ↦ leb-true amount 11 (and_right (leb 1 amount) (leb amount 11) (not-false _ (sym (asks_read e) ∙ f)))
        | no a ↦ elim (ℕ_discrete operation write) [
          | yes e ↦ leb-true amount 11 (and_right (leb 1 amount) (leb amount 11) (not-false _ (sym (asks_write e) ∙ f)))
          | no b ↦ elim (ℕ_discrete operation barrier) [
            | yes e ↦ ltb-false 11 amount (sym (asks-barrier e) ∙ f)
            | no c ↦ elim (ℕ_discrete operation flush) [
              | yes e ↦ omega (arith, eqb-true amount 0 (not-false _ (sym (asks-flush e) ∙ f)))
              | no g ↦ clash (asks-other a b c g d) f
            ]
          ]
        ]
      ]

-- ---- segments: check 26, and frames that fit

module _ (w : List ℕ) where
  -- n of them, from number i on
  abbrev pub good : ℕ → ℕ → Bool
  good n i = all is_within_frame (segments_in n w i) && all is_narrow (segments_in n w i)

  wide-fails : (a c d : Bool) → c ≡ false → a && (c && d) ≡ false
  wide-fails a false d e = and-false a
  wide-fails a true d e = clash refl e

  -- a frame that its field has no room for (rule 16.7), whatever stands behind it
  pub good-wide : (n i : ℕ) → 2 ^ 32 ≤ get_or w (8 + 3 * i) 0 → good (suc n) i ≡ false
  unfolding all segments_in is_narrow segment_in
  good-wide n i a = wide-fails (all is_within_frame (segments_in (suc n) w i)) (is_narrow (segment_in w i)) (all is_narrow (segments_in n w (suc i))) (le-ltb _ _ a)

-- ---- 33

or-first : (a b c d : Bool) → a || b ≡ true → a || b || c || d ≡ true
or-first true b c d e = refl
or-first false true c d e = refl
or-first false false c d e = clash e refl

or-last : (a b c d x y : Bool) → a || b ≡ false → c ≡ not x → d ≡ not y → a || b || c || d ≡ not (x && y)
or-last true b c d x y e f g = clash refl e
or-last false true c d x y e f g = clash refl e
or-last false false c d true y e f g = rw f g
or-last false false c d false y e f g = rw f refl

module _ (w : List ℕ) where
  abbrev r : Request
  r = request_in w

  pub bad-asking : is_foreign r || wrong_amount r ≡ true → is_bad r ≡ true
  bad-asking e = or-first (is_foreign r) (wrong_amount r) (wrong_segment r) (is_too_wide r) e

  discard-segment : get_or w 0 0 ≡ discard → wrong_segment r ≡ false
  unfolding wrong_segment request_in
  discard-segment d = rw d

  discard-wide : get_or w 0 0 ≡ discard → is_too_wide r ≡ false
  unfolding is_too_wide request_in
  discard-wide d = rw d

  pub bad-discard : is_foreign r || wrong_amount r ≡ false → get_or w 0 0 ≡ discard → is_bad r ≡ false
  bad-discard e d = or-last (is_foreign r) (wrong_amount r) (wrong_segment r) (is_too_wide r) true true e (discard-segment d) (discard-wide d)

  abbrev room : ℕ
  room = min (get_or w 3 0) max_segments

  other-segment : (get_or w 0 0 ≡ discard → ⊥) → wrong_segment r ≡ not (all is_within_frame (segments_in room w 0))
  unfolding wrong_segment request_in
  other-segment d = rw (ne_eqb (get_or w 0 0) discard d)

  other-wide : (get_or w 0 0 ≡ discard → ⊥) → is_too_wide r ≡ not (all is_narrow (segments_in room w 0))
  unfolding is_too_wide request_in
  other-wide d = rw (ne_eqb (get_or w 0 0) discard d)

  few-here : is_foreign r || wrong_amount r ≡ false → (get_or w 0 0 ≡ discard → ⊥) → get_or w 3 0 ≤ max_segments
  unfolding request_in
  few-here e d = few-segments r e d

  pub bad-segments : is_foreign r || wrong_amount r ≡ false → (get_or w 0 0 ≡ discard → ⊥) → is_bad r ≡ not (good w (get_or w 3 0) 0)
  bad-segments e d =
      or-last
      (is_foreign r)
      (wrong_amount r)
      (wrong_segment r)
      (is_too_wide r)
      (all is_within_frame (segments_in room w 0))
      (all is_narrow (segments_in room w 0))
      e
      (other-segment d)
      (other-wide d)
      ∙ ap (λ (m : ℕ). not (good w m 0)) (omega (arith, few-here e d))

  -- ---- its slot

  pub slot-discard : get_or w 0 0 ≡ discard → slot_for r ≡ discard_slot r
  unfolding slot_for request_in
  slot-discard e = rw e

  pub slot-segments : (get_or w 0 0 ≡ discard → ⊥) → slot_for r ≡ segments_slot r
  unfolding slot_for request_in
  slot-segments d = rw (ne_eqb (get_or w 0 0) discard d)
