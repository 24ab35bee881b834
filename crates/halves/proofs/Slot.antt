-- A request that may be put reads back from its slot, field by field. Neither guest nor page is in sight. Assumes nothing.
use mathlib.Core.Path.{◌≡◌, refl, sym, ap, ◌∙◌}
use mathlib.Core.Bool.{Bool, true, false, cond, ◌||◌}
use mathlib.Core.List.{List, [], ◌∷◌}
use Prim.Native.Nat.{ℕ, zero, suc, ◌+◌, ◌*◌, ◌%◌, ◌^◌, ◌≤◌, ◌<◌}
use native.Mathlib.Decide.{dec_lt}
use native.Mathlib.Omega.{arith}
use lib.Dec.{leb}
use lib.ListN.{length, get_or, replicate, length-replicate}
use borrow.Author.Tests.{ltb-true, leb-true, eqb-true, eqb-false, ne_eqb, not-false}
use Rattle.wire.specs.LittleEndian.{load, store}
use Rattle.wire.proofs.LittleEndian.{length-store, get_d-store-outside, get_d-store-inside, load-agree, load-store-below, load-store-lt, bytes-store}
use Rattle.model.specs.Base.{all}
use Rattle.model.specs.Checks.{is_a, max_segments, is_empty_barrier, moves_nothing, wrong_amount, is_within_frame, wrong_segment}
use Rattle.model.specs.Demand.{All, IsBytes}
use Rattle.model.specs.Ring.{Request, slot_bytes, segment_of, segments_of, request_of, discard}
use Rattle.model.specs.declared.Pair.{Pair}
use Rattle.model.specs.declared.Segment.{Segment}
use Rattle.model.proofs.Base.{by_cond, clash, and_left, and_right, or_left, or_right}
use Rattle.asking.specs.Request.{segments_in, request_in, is_foreign, is_narrow, is_too_wide, is_bad}
use Rattle.asking.specs.Slot.{guest_layout, set_segment, set_segments, head_of, discard_slot, segments_slot, slot_for}
use Rattle.asking.proofs.Asking.{few-segments}
use Rattle.halves.specs.Claim.{AsPut, Fit, read_slot}
use Rattle.halves.proofs.Page.{bytes-zeros}

byte-store : (b : List ℕ) (i v : ℕ) → i < length b → v < 256 → get_or (store 1 b i v) i 0 ≡ v
byte-store b i v l f =
    ap (λ (j : ℕ). get_or (store 1 b i v) j 0) (omega arith) ∙ get_d-store-inside 1 b i v 0 (omega arith) (omega arith) ∙ omega arith

-- ---- segments

-- where segment i stands
abbrev at : ℕ → ℕ
at i = 24 + 8 * i

segment-length : (b : List ℕ) (i : ℕ) (s : Segment) → length (set_segment b i s) ≡ length b
unfolding set_segment
segment-length b i s = length-store 1 _ _ _ ∙ length-store 1 _ _ _ ∙ length-store 4 b _ _

segments-length : (b : List ℕ) (i : ℕ) (l : List Segment) → length (set_segments b i l) ≡ length b
unfolding set_segments
segments-length b i [] = refl
segments-length b i (s ∷ l) = segments-length (set_segment b i s) (suc i) l ∙ segment-length b i s

segment-bytes : (b : List ℕ) (i : ℕ) (s : Segment) → IsBytes b → IsBytes (set_segment b i s)
unfolding set_segment
segment-bytes b i s h = bytes-store 1 _ _ _ (bytes-store 1 _ _ _ (bytes-store 4 b _ _ h))

segments-bytes : (b : List ℕ) (i : ℕ) (l : List Segment) → IsBytes b → IsBytes (set_segments b i l)
unfolding set_segments
segments-bytes b i [] h = h
segments-bytes b i (s ∷ l) h = segments-bytes (set_segment b i s) (suc i) l (segment-bytes b i s h)

-- bytes before the segments written stay
segment-below : (b : List ℕ) (i : ℕ) (s : Segment) (m : ℕ) → m < at i → get_or (set_segment b i s) m 0 ≡ get_or b m 0
unfolding set_segment
segment-below b i s m h =
    get_d-store-outside 1 _ (at i + 5) _ m (λ q l e. omega arith)
    ∙ get_d-store-outside 1 _ (at i + 4) _ m (λ q l e. omega arith)
    ∙ get_d-store-outside 4 b (at i) _ m (λ q l e. omega arith)

segments-below : (b : List ℕ) (i : ℕ) (l : List Segment) (m : ℕ) → m < at i → get_or (set_segments b i l) m 0 ≡ get_or b m 0
unfolding set_segments
segments-below b i [] m h = refl
segments-below b i (s ∷ l) m h = segments-below (set_segment b i s) (suc i) l m (omega arith) ∙ segment-below b i s m h

segment-agree : (a b : List ℕ) (i : ℕ) → ((m : ℕ) → m < at (suc i) → get_or b m 0 ≡ get_or a m 0) → segment_of guest_layout b i ≡ segment_of guest_layout a i
unfolding segment_of
segment-agree a b i h =
    let frame = load-agree 4 b a (at i) (λ q l. h (at i + q) (omega arith)) in
    let first = h (at i + 4) (omega arith) in
    let last = h (at i + 5) (omega arith) in
    λ z. record { frame = frame z; first = first z; last = last z }

-- a segment within its bytes
record FitsSegment (s : Segment) : Type 0 where
  frame : s.frame < 2 ^ 32
  first : s.first < 256
  last : s.last < 256

segment-back : (b : List ℕ) (i : ℕ) (s : Segment) → at (suc i) ≤ length b → FitsSegment s → segment_of guest_layout (set_segment b i s) i ≡ s
unfolding segment_of set_segment
segment-back b i s h n =
    let c = store 4 b (at i) s.frame in
    let d = store 1 c (at i + 4) s.first in
    let lc : length c ≡ length b = length-store 4 b (at i) s.frame in
    let ld : length d ≡ length c = length-store 1 c (at i + 4) s.first in
    let frame =
    load-store-below 4 1 d (at i + 5) s.last (at i) (omega arith)
    ∙ load-store-below 4 1 c (at i + 4) s.first (at i) (omega arith)
    ∙ load-store-lt 4 b (at i) s.frame (omega arith) n.frame in
    let first =
    get_d-store-outside 1 d (at i + 5) s.last (at i + 4) (λ q l e. omega arith)
    ∙ byte-store c (at i + 4) s.first (omega arith) n.first in
    let last = byte-store d (at i + 5) s.last (omega arith) n.last in
    λ z. record { frame = frame z; first = first z; last = last z }

segments-back : (b : List ℕ) (i : ℕ) (l : List Segment) → at (i + length l) ≤ length b → All FitsSegment l
    → segments_of (length l) guest_layout (set_segments b i l) i ≡ l
unfolding segments_of set_segments
segments-back b i [] h n = refl
segments-back b i (s ∷ l) h n =
    let c = set_segment b i s in
    let e : length c ≡ length b = segment-length b i s in
    let head : segment_of guest_layout (set_segments c (suc i) l) i ≡ s =
    segment-agree c (set_segments c (suc i) l) i (segments-below c (suc i) l) ∙ segment-back b i s (omega arith) n.0 in
    let rest : segments_of (length l) guest_layout (set_segments c (suc i) l) (suc i) ≡ l = segments-back c (suc i) l (omega arith) n.1 in
    λ z. head z ∷ rest z

-- ---- the head

-- what a slot says that begins with a head
record Heads (q : Pair) (n x : ℕ) (slot : List ℕ) : Type 0 where
  pair : (request_of guest_layout slot).pair ≡ q
  second : get_or slot 1 0 ≡ n
  start : (request_of guest_layout slot).start ≡ x

module _ (q : Pair) (n x : ℕ) where
  head-length : length (head_of q n x) ≡ slot_bytes
  unfolding head_of
  head-length = length-store 8 _ 16 _ ∙ length-store 8 _ 8 _ ∙ length-store 1 _ 1 _ ∙ length-store 1 _ 0 _ ∙ length-replicate {A = ℕ} slot_bytes 0

  head_bytes : IsBytes (head_of q n x)
  unfolding head_of
  head_bytes = bytes-store 8 _ 16 _ (bytes-store 8 _ 8 _ (bytes-store 1 _ 1 _ (bytes-store 1 _ 0 _ (bytes-zeros slot_bytes))))

  head-back : q.operation < 256 → n < 256 → q.id < 2 ^ 64 → x < 2 ^ 64
      → (slot : List ℕ) → ((m : ℕ) → m < at 0 → get_or slot m 0 ≡ get_or (head_of q n x) m 0) → Heads q n x slot
  unfolding head_of request_of
  head-back fo fn fi fx slot h =
      let a = replicate {A = ℕ} slot_bytes 0 in
      let b = store 1 a 0 q.operation in
      let c = store 1 b 1 n in
      let d = store 8 c 8 q.id in
      let la : length a ≡ slot_bytes = length-replicate {A = ℕ} slot_bytes 0 in
      let lb : length b ≡ length a = length-store 1 a 0 _ in
      let lc : length c ≡ length b = length-store 1 b 1 _ in
      let ld : length d ≡ length c = length-store 8 c 8 _ in
      let operation =
      h 0 (omega arith)
      ∙ get_d-store-outside 8 d 16 x 0 (λ i l e. omega arith)
      ∙ get_d-store-outside 8 c 8 _ 0 (λ i l e. omega arith)
      ∙ get_d-store-outside 1 b 1 _ 0 (λ i l e. omega arith)
      ∙ byte-store a 0 q.operation (omega arith) fo in
      let id =
      load-agree 8 slot (head_of q n x) 8 (λ i l. h (8 + i) (omega arith))
      ∙ load-store-below 8 8 d 16 x 8 (omega arith)
      ∙ load-store-lt 8 c 8 q.id (omega arith) fi in
      record {
        pair = λ z. record { id = id z; operation = operation z };
        second =
            h 1 (omega arith)
            ∙ get_d-store-outside 8 d 16 x 1 (λ i l e. omega arith)
            ∙ get_d-store-outside 8 c 8 _ 1 (λ i l e. omega arith)
            ∙ byte-store b 1 n (omega arith) fn;
        start = load-agree 8 slot (head_of q n x) 16 (λ i l. h (16 + i) (omega arith)) ∙ load-store-lt 8 d 16 x (omega arith) fx;
      }

-- ---- what a request passed

operation-lt : (r : Request) → is_foreign r ≡ false → r.pair.operation < 256
unfolding is_foreign
operation-lt r e =
    let o = r.pair.operation in
    elim (dec_lt o 256) [
      | yes l ↦ l
      | no l ↦
          clash
          (rw (ne_eqb o 0 (λ x. omega arith), ne_eqb o 1 (λ x. omega arith), ne_eqb o 2 (λ x. omega arith), ne_eqb o 3 (λ x. omega arith), ne_eqb o 5 (λ x. omega arith)))
          e
    ]

few : (r : Request) → is_foreign r ≡ false → is_a discard r ≡ false → wrong_amount r ≡ false → r.n ≤ max_segments
few r u v w = few-segments r (rw (u, w)) (eqb-false r.pair.operation discard v)

segments-fit : (l : List Segment) → all is_within_frame l ≡ true → all is_narrow l ≡ true → All FitsSegment l
unfolding all is_within_frame is_narrow
segments-fit [] e f = tt
segments-fit (s ∷ l) e f =
    let w = and_left _ _ e in
    let x : s.first ≤ s.last = leb-true _ _ (and_left _ _ w) in
    let y : s.last ≤ 7 = leb-true _ _ (and_right (leb s.first s.last) _ w) in (
      record { frame = ltb-true _ _ (and_left _ _ f); first = omega arith; last = omega arith },
      segments-fit l (and_right (is_within_frame s) _ e) (and_right (is_narrow s) _ f),
    )

within : (r : Request) → is_a discard r ≡ false → wrong_segment r ≡ false → all is_within_frame r.segments ≡ true
unfolding wrong_segment
within r d w = not-false _ (rw d at w)

narrow : (r : Request) → is_a discard r ≡ false → is_too_wide r ≡ false → all is_narrow r.segments ≡ true
unfolding is_too_wide
narrow r d w = not-false _ (rw d at w)

-- ---- the slot

pub slot-length : (r : Request) → length (slot_for r) ≡ slot_bytes
unfolding slot_for discard_slot segments_slot
slot-length r =
    by_cond (λ (b : List ℕ). length b ≡ slot_bytes) (is_a discard r) _ _
    (λ _. length-store 8 _ 24 _ ∙ head-length _ _ _)
    (λ _. segments-length _ 0 r.segments ∙ head-length _ _ _)

pub slot-bytes : (r : Request) → IsBytes (slot_for r)
unfolding slot_for discard_slot segments_slot
slot-bytes r =
    by_cond IsBytes (is_a discard r) _ _
    (λ _. bytes-store 8 _ 24 _ (head_bytes _ _ _))
    (λ _. segments-bytes _ 0 r.segments (head_bytes _ _ _))

-- the start that is put
start-lt : (r : Request) → Fit r → cond (moves_nothing r) 0 r.start < 2 ^ 64
start-lt r f = by_cond (λ (x : ℕ). x < 2 ^ 64) (moves_nothing r) 0 r.start (λ _. omega arith) (λ _. f.start)

-- a discard has one
discard-start : (r : Request) → is_a discard r ≡ true → cond (moves_nothing r) 0 r.start ≡ r.start
unfolding moves_nothing is_empty_barrier
discard-start r d = let o : r.pair.operation ≡ discard = eqb-true _ _ d in rw o

-- what the fields of a request say that stand behind the head
moved : (b : List ℕ) (n : ℕ) (l : List Segment) → get_or b 1 0 ≡ n → n ≡ length l → segments_of (length l) guest_layout b 0 ≡ l
    → ((read_slot b).n ≡ n) × ((read_slot b).segments ≡ l)
unfolding request_of
moved b n l c e h = (c, ap (λ (m : ℕ). segments_of m guest_layout b 0) (c ∙ e) ∙ h)

discarded : (b : List ℕ) (g n : ℕ) → get_or b 1 0 ≡ g → load 8 b 24 ≡ n → ((read_slot b).flag ≡ g) × ((read_slot b).sectors ≡ n)
unfolding request_of
discarded b g n c e = (c, e)

moves-back : (r : Request) → Fit r → r.pair.operation < 256 → r.n ≤ max_segments → All FitsSegment r.segments → is_a discard r ≡ false
    → AsPut r (read_slot (slot_for r))
unfolding slot_for segments_slot
moves-back r f o n w d =
    let x = cond (moves_nothing r) 0 r.start in
    let h = head_of r.pair r.n x in
    let b = set_segments h 0 r.segments in
    let is = head-back r.pair r.n x o (omega arith) f.id (start-lt r f) b (λ m l. segments-below h 0 r.segments m l) in
    let long : r.n ≡ length r.segments = omega (arith, f.counted) in
    let back : segments_of (length r.segments) guest_layout b 0 ≡ r.segments =
    segments-back h 0 r.segments (omega (arith, head-length r.pair r.n x)) w in
    rw d (record {
      pair = is.pair;
      start = is.start;
      moves = λ _. moved b r.n r.segments is.second long back;
      discards = λ y. clash y d;
    })

discards-back : (r : Request) → Fit r → r.pair.operation < 256 → is_a discard r ≡ true → AsPut r (read_slot (slot_for r))
unfolding slot_for discard_slot
discards-back r f o d =
    let g = r.flag % 2 in
    let h = head_of r.pair g r.start in
    let b = store 8 h 24 r.sectors in
    let is = head-back r.pair g r.start o (omega arith) f.id f.start b (λ m l. get_d-store-outside 8 h 24 r.sectors m (λ q k e. omega arith)) in
    let sectors : load 8 b 24 ≡ r.sectors = load-store-lt 8 h 24 r.sectors (omega (arith, head-length r.pair g r.start)) f.sectors in
    rw d (record {
      pair = is.pair;
      start = is.start ∙ sym (discard-start r d);
      moves = λ y. clash d y;
      discards = λ _. discarded b g r.sectors is.second sectors;
    })

-- the slot reads as what was put
pub as-put : (r : Request) → Fit r → is_bad r ≡ false → AsPut r (read_slot (slot_for r))
as-put r f e =
    let a = is_foreign r in
    let b = wrong_amount r in
    let c = wrong_segment r in
    let abc = or_left (a || b || c) (is_too_wide r) e in
    let ab = or_left (a || b) c abc in
    go (or_left a b ab) (or_right a b ab) (or_right (a || b) c abc) (or_right (a || b || c) (is_too_wide r) e) (is_a discard r) refl
  where
    go : is_foreign r ≡ false → wrong_amount r ≡ false → wrong_segment r ≡ false → is_too_wide r ≡ false → (d : Bool) → is_a discard r ≡ d
        → AsPut r (read_slot (slot_for r))
    go x y z w true d = discards-back r f (operation-lt r x) d
    go x y z w false d =
        moves-back r f (operation-lt r x) (few r x d y) (segments-fit r.segments (within r d z) (narrow r d w)) d

-- ---- a request's words

segments_in-length : (n : ℕ) (w : List ℕ) (i : ℕ) → length (segments_in n w i) ≡ n
unfolding segments_in
segments_in-length zero w i = refl
segments_in-length (suc n) w i = ap suc (segments_in-length n w (suc i))

-- words of 64 bits hold a request that fits
pub words-fit : (w : List ℕ) → ((i : ℕ) → get_or w i 0 < 2 ^ 64) → Fit (request_in w)
unfolding request_in
words-fit w h = record { id = h 1; start = h 2; sectors = h 5; counted = segments_in-length _ w 0 }
