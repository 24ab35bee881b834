-- What the code adds to the model's laws of a word of marks: a mark as shifts reach it, and the lowest clear mark as a ring's lowest free tag. Assumes nothing.
use mathlib.Core.Path.{◌≡◌, refl, ap, ◌∙◌, fun_ext}
use mathlib.Core.Bool.{Bool, true, false, not}
use Prim.Native.Nat.{ℕ, zero, suc, ◌+◌, ◌-◌, ◌*◌, ◌/◌, ◌%◌, ◌^◌, ◌≤◌, ◌<◌}
use native.Mathlib.Nat.{one-mul, mod-eq_of_lt, div-one, div-div-eq-div-mul, pow-succ'}
use native.Mathlib.Decide.{dec_lt}
use native.Mathlib.Omega.{arith}
use lib.Dec.{eqb, ltb, leb}
use lib.Pow.{pow-lt}
use borrow.Author.Tests.{not-true, lt-leb, le-leb, lt-ltb, le-ltb}
use Rattle.model.specs.Base.{least, tally}
use Rattle.model.specs.Port.{busy_bits, is_busy, in_flight_of, Holder, is_free, lowest_free}
use Rattle.model.specs.Backend.{holder_of}
use Rattle.model.specs.declared.Port.{Port}
use Rattle.model.specs.declared.Tag.{Tag}
use Rattle.model.proofs.Base.{by_cond, least-is, least_more, least-some, tally-le, tally-same, tally-more}
use Rattle.model.proofs.Busy.{ones-busy, ones-in_flight}

-- ---- as the code has them

-- 1 << t
pub shifted : (t : ℕ) → t < busy_bits → 1 * 2 ^ t % 2 ^ busy_bits ≡ 2 ^ t
shifted t h = rw one-mul (mod-eq_of_lt (pow-lt {i = t} {j = busy_bits} h))

-- (m >> t) % 2 == 1
pub busy-shift : (t m : ℕ) → eqb (m / 2 ^ t % 2) 1 ≡ is_busy m t
unfolding is_busy
busy-shift zero m = rw div-one
busy-shift (suc t) m = rw (pow-succ' 2 t, ← div-div-eq-div-mul) (busy-shift t (m / 2))

-- m >> n == 0
pub shifted-out : (n m : ℕ) → m / 2 ^ n ≡ 0 → m < 2 ^ n
shifted-out zero m e = let z = rw div-one at e in omega arith
shifted-out (suc n) m e = omega (arith, shifted-out n (m / 2) (rw (pow-succ' 2 n, ← div-div-eq-div-mul) at e))

-- marks that are all below n are no more than n
pub few-below : (n m : ℕ) → m < 2 ^ busy_bits → m < 2 ^ n → in_flight_of m ≤ n
few-below n m h l = omega (arith, ones-in_flight m h, ones-busy n m l, tally-le n (is_busy m))

-- ---- the lowest that is clear

-- a tag is free where its mark is clear
free-clear : (p : Port) (t : ℕ) (x : Tag) → not (is_busy p.busy t) ≡ is_free (holder_of p t x)
free-clear p t x =
    by_cond (λ (h : Holder). not (is_busy p.busy t) ≡ is_free h) (is_busy p.busy t) _ _ (λ e. ap not e) (λ e. ap not e)

-- fewer in flight than a ring's tags: one of them is free
room-free : (size m : ℕ) → size ≤ busy_bits → in_flight_of m < size → least size (λ t. not (is_busy m t)) < size
unfolding in_flight_of
room-free size m l h =
    let d = busy_bits - size in
    let e : size + d ≡ busy_bits = omega arith in
    let more : tally size (is_busy m) ≤ tally busy_bits (is_busy m) = rw e at (tally-more size d (is_busy m)) in
    let twice : (i : ℕ) → i < size → not (not (is_busy m i)) ≡ is_busy m i = λ i k. not-not (is_busy m i) in
    least-some size (λ t. not (is_busy m t)) (rw (tally-same size (λ i. not (not (is_busy m i))) (is_busy m) twice) (omega arith))
  where
    not-not : (b : Bool) → not (not b) ≡ b
    not-not true = refl
    not-not false = refl

-- the lowest clear mark of the word is the lowest free tag of a ring that has one
pub lowest-free : (size : ℕ) (p : Port) (x : ℕ → Tag) → size ≤ busy_bits → in_flight_of p.busy < size
    → least busy_bits (λ t. not (is_busy p.busy t)) ≡ lowest_free size (λ t. holder_of p t (x t))
unfolding lowest_free
lowest-free size p x l h =
    least_more size busy_bits (λ t. not (is_busy p.busy t)) l (room-free size p.busy l h)
    ∙ ap (least size) (fun_ext (λ t. free-clear p t (x t)))

-- and it is one of the ring's
pub lowest-free-lt : (size m : ℕ) → size ≤ busy_bits → in_flight_of m < size → least busy_bits (λ t. not (is_busy m t)) < size
lowest-free-lt size m l h =
    rw (least_more size busy_bits (λ t. not (is_busy m t)) l (room-free size m l h)) (room-free size m l h)

-- its mark is clear, so it can be set
pub lowest-free-clear : (size m : ℕ) → size ≤ busy_bits → in_flight_of m < size → is_busy m (least busy_bits (λ t. not (is_busy m t))) ≡ false
lowest-free-clear size m l h =
    not-true (is_busy m (least busy_bits (λ t. not (is_busy m t))))
    (least-is busy_bits (λ t. not (is_busy m t)) (omega (arith, lowest-free-lt size m l h)))

-- the room beside the requests in flight, told from what a distance leaves
pub beside : (size d f : ℕ) → d ≤ size → not (leb f (size - d)) ≡ ltb size (d + f)
beside size d f h =
    elim (dec_lt size (d + f)) [
      | yes x ↦ rw (lt-leb f (size - d) (omega arith), lt-ltb size (d + f) x)
      | no x ↦ rw (le-leb f (size - d) (omega arith), le-ltb size (d + f) (omega arith))
    ]
