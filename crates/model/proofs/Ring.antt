-- What the rules ask of a ring's numbers, for every port's params: proved by cases on their enums, so that no port has to keep numbers that fit. And where
-- the slots of such a ring lie.
use mathlib.Core.Path.{◌≡◌, refl, sym, ap, subst, ◌∙◌}
use mathlib.Core.Logic.{◌≢◌}
use mathlib.Core.List.{List, ◌∷◌}
use Prim.Native.Nat.{ℕ, zero, suc, ◌+◌, ◌-◌, ◌*◌, ◌%◌, ◌≤◌, ◌<◌}
use native.Mathlib.Decide.{dec_lt}
use native.Mathlib.Nat.{mod-mod_of_dvd, dvd_of_mod-eq-zero, mod-lt, mod-eq_of_lt, mod-add-mod, mod-eq-sub-mod, mul-le-mul_left, mul-le-mul_right, mul-suc}
use native.Mathlib.Omega.{arith}
use lib.ListN.{get_or}
use Rattle.wire.specs.LittleEndian.{load}
use Rattle.wire.specs.Part.{part}
use Rattle.wire.proofs.LittleEndian.{load-shift}
use Rattle.model.specs.Base.{modulus}
use Rattle.model.specs.Buffers.{ring_share}
use Rattle.model.specs.Ring.{Layout, Ring, header_size, slot_bytes, page_bytes, page_slots, page_count, head_size, rest_size, segment_size, segment_first_at, segment_last_at, request_operation_at, request_count_at, response_padding_at, ring_for, ring_of, slot_at, slot_of, segment_of, segments_of, request_of}
use Rattle.model.specs.Port.{busy_bits}
use Rattle.model.specs.Checks.{max_segments}
use Rattle.model.specs.declared.Abi.{Abi}
use Rattle.model.specs.declared.Pages.{Pages}
use Rattle.model.specs.declared.Params.{Params}

pub record Fits (g : Ring) : Type 0 where
  -- there is a slot, there are as many as one page has, indices modulo 2^32 keep their slots, and each slot has a mark
  pub some : 0 < g.size
  pub least : page_slots ≤ g.size
  pub whole : modulus % g.size ≡ 0
  pub marked : g.size ≤ busy_bits
  -- the slots end within the pages, and those within the port's share
  pub room : header_size + g.layout.slot_size * g.size ≤ g.bytes
  pub within : g.bytes ≤ ring_share
  -- a response has room for its status, and ends within the slot
  pub status_room : response_padding_at ≤ g.layout.response_size
  pub response_room : g.layout.response_size ≤ g.layout.slot_size
  -- a request's two pieces, up to its handle and from its id on, share no byte; the second is the same in every layout, has all segments and ends the slot
  pub head_room : head_size ≤ g.layout.id_at
  pub start_place : g.layout.start_at ≡ g.layout.id_at + 8
  pub segments_place : g.layout.segments_at ≡ g.layout.id_at + 16
  pub segments_end : g.layout.slot_size ≡ g.layout.segments_at + segment_size * max_segments
  pub slot_end : g.layout.slot_size ≡ g.layout.id_at + rest_size

-- what is asked of the slots and bytes of so many pages, for slots of any layout
record Sized (size bytes : ℕ) : Type 0 where
  least : page_slots ≤ size
  whole : modulus % size ≡ 0
  marked : size ≤ busy_bits
  room : header_size + slot_bytes * size ≤ bytes
  within : bytes ≤ ring_share

sized : (n : Pages) → Sized (page_slots * page_count n) (page_bytes * page_count n)
sized Pages.One = record { least = omega arith; whole = refl; marked = omega arith; room = omega arith; within = omega arith }
sized Pages.Two = record { least = omega arith; whole = refl; marked = omega arith; room = omega arith; within = omega arith }

-- so these numbers of a layout settle the others
fits-from : (l : Layout) (size bytes : ℕ) → Sized size bytes → l.start_at ≡ l.id_at + 8 → l.segments_at ≡ l.id_at + 16 → l.slot_size ≡ l.id_at + rest_size
    → head_size ≤ l.id_at → l.id_at ≤ 8 → response_padding_at ≤ l.response_size → l.response_size ≤ rest_size
    → Fits (record { layout = l; size = size; bytes = bytes })
fits-from l size bytes z start segments slot head id status response = record {
  some = omega (arith, z.least);
  least = z.least;
  whole = z.whole;
  marked = z.marked;
  room = let narrow : l.slot_size * size ≤ slot_bytes * size = mul-le-mul_right size (omega arith) in omega (arith, z.room);
  within = z.within;
  status_room = status;
  response_room = omega arith;
  head_room = head;
  start_place = start;
  segments_place = segments;
  segments_end = omega arith;
  slot_end = slot;
}

pub fits-for : (a : Abi) (n : Pages) → Fits (ring_for a n)
unfolding ring_for
fits-for Abi.Bits64 n = fits-from _ _ _ (sized n) refl refl refl (omega arith) (omega arith) (omega arith) (omega arith)
fits-for Abi.Bits32 n = fits-from _ _ _ (sized n) refl refl refl (omega arith) (omega arith) (omega arith) (omega arith)

pub fits : (p : Params) → Fits (ring_of p)
fits p = fits-for p.abi p.pages

module _ (g : Ring) (f : Fits g) where
  -- the pages have the header
  pub header-room : header_size ≤ g.bytes
  header-room = omega (arith, f.room)

  -- an index and its remainder modulo 2^32 have one slot
  pub slot_at-modulus : (i : ℕ) → slot_at g (i % modulus) ≡ slot_at g i
  unfolding slot_at
  slot_at-modulus i =
      ap (λ (j : ℕ). header_size + g.layout.slot_size * j) (mod-mod_of_dvd g.size i (dvd_of_mod-eq-zero g.size f.whole))

  pub slot_of-modulus : (page : List ℕ) (i : ℕ) → slot_of g page (i % modulus) ≡ slot_of g page i
  unfolding slot_of
  slot_of-modulus page i = ap (λ (j : ℕ). part g.layout.slot_size page j) (slot_at-modulus i)

  -- a slot ends within the pages
  pub slot_at-room : (i : ℕ) → slot_at g i + g.layout.slot_size ≤ g.bytes
  unfolding slot_at
  slot_at-room i =
      let n = g.layout.slot_size in
      let h : n * (i % g.size) + n ≤ n * g.size =
      subst (λ (x : ℕ). x ≤ n * g.size) (mul-suc n (i % g.size)) (mul-le-mul_left n (mod-lt i f.some)) in
      omega (arith, f.room)

  -- the next indices, fewer than there are slots, have other remainders,
  mod-apart : (i c : ℕ) → 0 < c → c < g.size → (i + c) % g.size ≢ i % g.size
  mod-apart i c some few e = go (dec_lt (i % g.size + c) g.size)
    where
      n : ℕ
      n = g.size

      low : i % n < n
      low = mod-lt i f.some

      same : (i % n + c) % n ≡ i % n
      same = mod-add-mod i n c ∙ e

      go : Dec (i % n + c < n) → ⊥
      go (yes l) = let y : i % n + c ≡ i % n = sym (mod-eq_of_lt l) ∙ same in omega arith
      go (no l) =
          let above : n ≤ i % n + c = omega arith in
          let below : i % n + c - n < n = omega (arith, low) in
          let y : i % n + c - n ≡ i % n = sym (mod-eq_of_lt below) ∙ sym (mod-eq-sub-mod above) ∙ same in
          omega (arith, low)

  slots-below : (i j : ℕ) → i % g.size < j % g.size → slot_at g i + g.layout.slot_size ≤ slot_at g j
  unfolding slot_at
  slots-below i j l =
      let n = g.layout.slot_size in
      let h : n * (i % g.size) + n ≤ n * (j % g.size) =
      subst (λ (x : ℕ). x ≤ n * (j % g.size)) (mul-suc n (i % g.size)) (mul-le-mul_left n l) in
      omega arith

  -- and so other slots: no byte is in both
  pub slots_apart : (i c m : ℕ) → 0 < c → c < g.size → slot_at g i ≤ m → m < slot_at g i + g.layout.slot_size
      → slot_at g (i + c) ≤ m → m < slot_at g (i + c) + g.layout.slot_size → ⊥
  slots_apart i c m some few a b x y =
      elim (dec_lt (i % g.size) ((i + c) % g.size)) [
        | yes l ↦ omega (arith, slots-below i (i + c) l)
        | no l ↦ let ne = mod-apart i c some few in omega (arith, slots-below (i + c) i (omega (arith, ne)))
      ]

  -- and begins after the header
  pub slot_at-header : (i : ℕ) → header_size ≤ slot_at g i
  unfolding slot_at
  slot_at-header i = omega arith

-- ---- one request in two layouts

-- bytes that agree up to the handle, and from the id on, spell one request, each in its own layout
module _ (g h : Ring) (f : Fits g) (e : Fits h) (a b : List ℕ) (head : (i : ℕ) → i < head_size → get_or a i 0 ≡ get_or b i 0)
    (rest : (i : ℕ) → get_or a (g.layout.id_at + i) 0 ≡ get_or b (h.layout.id_at + i) 0) where
  byte-same : (x y i : ℕ) → x ≡ g.layout.id_at + i → y ≡ h.layout.id_at + i → get_or a x 0 ≡ get_or b y 0
  byte-same x y i p q = rw (p, q) (rest i)

  number_same : (x y i : ℕ) → x ≡ g.layout.id_at + i → y ≡ h.layout.id_at + i → load 8 a x ≡ load 8 b y
  number_same x y i p q = load-shift 8 a b x y (λ j k. byte-same (x + j) (y + j) (i + j) (omega arith) (omega arith))

  segment-same : (n : ℕ) → segment_of g.layout a n ≡ segment_of h.layout b n
  unfolding segment_of
  segment-same n =
      let x = g.layout.segments_at + segment_size * n in
      let y = h.layout.segments_at + segment_size * n in
      let byte : (j : ℕ) → get_or a (x + j) 0 ≡ get_or b (y + j) 0 =
      λ j. byte-same (x + j) (y + j) (16 + segment_size * n + j) (omega (arith, f.segments_place)) (omega (arith, e.segments_place)) in
      λ i. record { frame = load-shift 4 a b x y (λ j k. byte j) i; first = byte segment_first_at i; last = byte segment_last_at i }

  segments-same : (n j : ℕ) → segments_of n g.layout a j ≡ segments_of n h.layout b j
  unfolding segments_of
  segments-same zero j = refl
  segments-same (suc n) j = λ i. segment-same j i ∷ segments-same n (suc j) i

  pub request-same : request_of g.layout a ≡ request_of h.layout b
  unfolding request_of
  request-same = λ i. record {
    pair = record { id = number_same g.layout.id_at h.layout.id_at 0 (omega arith) (omega arith) i; operation = head request_operation_at (omega arith) i };
    n = head request_count_at (omega arith) i;
    flag = head request_count_at (omega arith) i;
    start = number_same _ _ 8 f.start_place e.start_place i;
    segments = (segments-same _ 0 ∙ ap (λ (n : ℕ). segments_of n h.layout b 0) (head request_count_at (omega arith))) i;
    sectors = number_same _ _ 16 f.segments_place e.segments_place i;
  }
