-- Segments put into a slot one after another. Assumes nothing.
use mathlib.Core.Path.{◌≡◌, refl, sym, ap, ◌∙◌}
use mathlib.Core.List.{List}
use Prim.Native.Nat.{ℕ, zero, suc, ◌+◌, ◌-◌, ◌/◌, ◌%◌, ◌^◌, ◌≤◌, ◌<◌}
use native.Mathlib.Numerals.{add-one}
use native.Mathlib.Omega.{arith}
use lib.ListN.{set}
use Rattle.wire.specs.LittleEndian.{store}
use Rattle.asking.specs.Request.{segment_in, segments_in}
use Rattle.asking.specs.Slot.{set_segment, set_segments}

-- the low byte of v goes to i
pub store_one : (b : List ℕ) (i v : ℕ) → store 1 b i v ≡ set b i (v % 256)
unfolding store
store_one b i v =
    let place : i + 0 ≡ i = omega arith in
    let value : v / 256 ^ 0 % 256 ≡ v % 256 = omega arith in
    λ z. set b (place z) (value z)

-- what is left to put, of n segments, at number i
abbrev pub put_on : List ℕ → ℕ → ℕ → List ℕ → List ℕ
put_on w n i slot = set_segments slot i (segments_in (n - i) w i)

put-more : (w : List ℕ) (m i : ℕ) (slot : List ℕ) → set_segments slot i (segments_in (suc m) w i) ≡ set_segments (set_segment slot i (segment_in w i)) (suc i) (segments_in m w (suc i))
unfolding set_segments segments_in
put-more w m i slot = refl

pub put_next : (w : List ℕ) (n i : ℕ) (slot : List ℕ) → i < n → put_on w n (i + 1) (set_segment slot i (segment_in w i)) ≡ put_on w n i slot
put_next w n i slot l =
    let more : n - i ≡ suc (n - (i + 1)) = omega arith in
    ap (λ (j : ℕ). set_segments (set_segment slot i (segment_in w i)) j (segments_in (n - (i + 1)) w j)) (add-one i)
    ∙ sym (put-more w (n - (i + 1)) i slot)
    ∙ ap (λ (m : ℕ). set_segments slot i (segments_in m w i)) (sym more)

put-none : (w : List ℕ) (i : ℕ) (slot : List ℕ) → set_segments slot i (segments_in zero w i) ≡ slot
unfolding set_segments segments_in
put-none w i slot = refl

pub put-end : (w : List ℕ) (n i : ℕ) (slot : List ℕ) → n ≤ i → put_on w n i slot ≡ slot
put-end w n i slot l = let none : n - i ≡ 0 = omega arith in ap (λ (m : ℕ). set_segments slot i (segments_in m w i)) none ∙ put-none w i slot
