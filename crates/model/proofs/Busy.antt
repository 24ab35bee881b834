-- The laws of a word of marks: which are set, how many, and the lowest that is clear. Assumes nothing.
use mathlib.Core.Path.{◌≡◌, refl, sym, ap, ◌∙◌}
use mathlib.Core.Logic.{◌≢◌}
use mathlib.Core.Bool.{Bool, true, false, not, cond}
use Prim.Native.Nat.{ℕ, zero, suc, ◌+◌, ◌-◌, ◌/◌, ◌%◌, ◌^◌, ◌≤◌, ◌<◌}
use native.Mathlib.Omega.{arith}
use lib.Dec.{eqb, eqb-suc-suc, eqb-zero-suc, eqb-suc-zero}
use lib.Count.{ones, ones_step, count_trailing_zeros}
use borrow.Author.Tests.{eqb-true, eqb-false, eq-eqb, ne_eqb}
use Rattle.model.specs.Base.{least, tally}
use Rattle.model.specs.Port.{busy_bits, is_busy, set_busy, clear_busy, in_flight_of}
use Rattle.model.proofs.Base.{by_cond, tally-none, tally-first}

pub none-busy : (t : ℕ) → is_busy 0 t ≡ false
unfolding is_busy
none-busy zero = refl
none-busy (suc t) = none-busy t

odd : (m : ℕ) → eqb (m % 2) 1 ≡ true → m % 2 ≡ 1
odd m e = eqb-true (m % 2) 1 e

even : (m : ℕ) → eqb (m % 2) 1 ≡ false → m % 2 ≡ 0
even m e = let n : m % 2 ≢ 1 = eqb-false (m % 2) 1 e in omega arith

-- a word without marks is 0
pub no-marks : (n m : ℕ) → m ≤ n → ((t : ℕ) → is_busy m t ≡ false) → m ≡ 0
unfolding is_busy
no-marks zero m h f = omega arith
no-marks (suc n) m h f =
    let e : m % 2 ≡ 0 = even m (f 0) in
    let z : m / 2 ≡ 0 = no-marks n (m / 2) (omega arith) (λ t. f (suc t)) in
    omega arith

-- ---- to set a mark, and to clear one

pub busy-set : (t m : ℕ) → is_busy m t ≡ false → (u : ℕ) → is_busy (set_busy m t) u ≡ cond (eqb u t) true (is_busy m u)
unfolding is_busy
busy-set zero m e zero = let z : m % 2 ≡ 0 = even m e in eq-eqb ((m + 1) % 2) 1 (omega arith)
busy-set zero m e (suc u) =
    let z : m % 2 ≡ 0 = even m e in
    let h : (m + 1) / 2 ≡ m / 2 = omega arith in
    rw (eqb-suc-zero u) (ap (λ x. is_busy x u) h)
busy-set (suc t) m e zero =
    let h : (m + 2 ^ suc t) % 2 ≡ m % 2 = omega arith in
    rw (eqb-zero-suc t) (ap (λ x. eqb x 1) h)
busy-set (suc t) m e (suc u) =
    let h : (m + 2 ^ suc t) / 2 ≡ m / 2 + 2 ^ t = omega arith in
    rw (eqb-suc-suc u t, h) (busy-set t (m / 2) e u)

-- a mark that is set weighs 2^t
pub busy-weight : (t m : ℕ) → is_busy m t ≡ true → 2 ^ t ≤ m
unfolding is_busy
busy-weight zero m e = let z : m % 2 ≡ 1 = odd m e in omega arith
busy-weight (suc t) m e = omega (arith, busy-weight t (m / 2) e)

pub busy-clear : (t m : ℕ) → is_busy m t ≡ true → (u : ℕ) → is_busy (clear_busy m t) u ≡ cond (eqb u t) false (is_busy m u)
unfolding is_busy
busy-clear zero m e zero =
    let z : m % 2 ≡ 1 = odd m e in
    let h : (m - 1) % 2 ≢ 1 = omega arith in
    ne_eqb ((m - 1) % 2) 1 h
busy-clear zero m e (suc u) =
    let z : m % 2 ≡ 1 = odd m e in
    let h : (m - 1) / 2 ≡ m / 2 = omega arith in
    rw (eqb-suc-zero u) (ap (λ x. is_busy x u) h)
busy-clear (suc t) m e zero =
    let l : 2 ^ t ≤ m / 2 = busy-weight t (m / 2) e in
    let h : (m - 2 ^ suc t) % 2 ≡ m % 2 = omega arith in
    rw (eqb-zero-suc t) (ap (λ x. eqb x 1) h)
busy-clear (suc t) m e (suc u) =
    let l : 2 ^ t ≤ m / 2 = busy-weight t (m / 2) e in
    let h : (m - 2 ^ suc t) / 2 ≡ m / 2 - 2 ^ t = omega arith in
    rw (eqb-suc-suc u t, h) (busy-clear t (m / 2) e u)

-- a word of n marks stays one
pub busy-room : (n t m : ℕ) → t < n → m < 2 ^ n → is_busy m t ≡ false → set_busy m t < 2 ^ n
unfolding is_busy
busy-room zero t m l h e = absurd (omega arith)
busy-room (suc n) zero m l h e = let z : m % 2 ≡ 0 = even m e in omega arith
busy-room (suc n) (suc t) m l h e = omega (arith, busy-room n t (m / 2) (omega arith) (omega arith) e)

-- ---- how many are set

low : (m : ℕ) → cond (eqb (m % 2) 1) 1 0 ≡ m % 2
low m = by_cond (λ (x : ℕ). x ≡ m % 2) (eqb (m % 2) 1) 1 0 (λ e. sym (odd m e)) (λ e. sym (even m e))

ones-zero : ones 0 ≡ 0
unfolding ones
ones-zero = refl

-- as many as the word has ones
pub ones-busy : (n m : ℕ) → m < 2 ^ n → ones m ≡ tally n (is_busy m)
unfolding is_busy
ones-busy zero m h =
    let z : m ≡ 0 = omega arith in
    ap ones z ∙ ones-zero ∙ sym (tally-none 0 (is_busy m) (λ i l. absurd (omega arith)))
ones-busy (suc n) m h = omega (arith, ones_step m, ones-busy n (m / 2) (omega arith), tally-first n (is_busy m), low m)

pub ones-in_flight : (m : ℕ) → m < 2 ^ busy_bits → ones m ≡ in_flight_of m
unfolding in_flight_of
ones-in_flight m h = ones-busy busy_bits m h

-- ---- the lowest that is clear: the zeros below the lowest one of the complement

lowest_step : (n m : ℕ) → m < 2 ^ suc n → count_trailing_zeros n (2 ^ n - 1 - m / 2) ≡ least n (λ t. not (is_busy (m / 2) t)) → (b : Bool) → eqb (m % 2) 1 ≡ b
    → count_trailing_zeros (suc n) (2 ^ suc n - 1 - m) ≡ least (suc n) (λ t. not (is_busy m t))
unfolding count_trailing_zeros least is_busy
lowest_step n m h ih true e =
    let z : m % 2 ≡ 1 = odd m e in
    let half : (2 ^ suc n - 1 - m) / 2 ≡ 2 ^ n - 1 - m / 2 = omega arith in
    let bit : (2 ^ suc n - 1 - m) % 2 ≡ 0 = omega arith in
    rw (bit, half, e) (ap suc ih)
lowest_step n m h ih false e =
    let z : m % 2 ≡ 0 = even m e in
    let bit : (2 ^ suc n - 1 - m) % 2 ≡ 1 = omega arith in
    rw (bit, e)

pub lowest-clear : (n m : ℕ) → m < 2 ^ n → count_trailing_zeros n (2 ^ n - 1 - m) ≡ least n (λ t. not (is_busy m t))
unfolding count_trailing_zeros least is_busy
lowest-clear zero m h = refl
lowest-clear (suc n) m h = lowest_step n m h (lowest-clear n (m / 2) (omega arith)) (eqb (m % 2) 1) refl
