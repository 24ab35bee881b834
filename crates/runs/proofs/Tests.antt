-- Of one extent, and of two: the tests of the code, which are told by differences, are those of the definitions, which are told by sums. Assumes nothing.
use borrow.Author.Tests.{lt-ltb, le-ltb, le-leb, lt-leb, eq-eqb, ne_eqb}
use mathlib.Core.Path.{◌≡◌, sym, ◌∙◌}
use mathlib.Core.Bool.{Bool, true, false, ◌&&◌, ◌||◌}
use Prim.Native.Nat.{ℕ, suc, ◌+◌, ◌-◌, ◌<◌, ◌≤◌, ◌^◌}
use native.Mathlib.Decide.{dec_lt, ℕ_discrete}
use native.Mathlib.Omega.{arith}
use lib.Dec.{eqb, leb}
use Rattle.model.proofs.Base.{and-false}
use Rattle.runs.specs.Join.{is_sound, joins}
use Rattle.runs.specs.declared.Run.{Run}

-- ---- at is the sum of k and n

pub no-sum : (at k n : ℕ) → at < n → false ≡ eqb at (k + n)
no-sum at k n h = sym (ne_eqb at (k + n) (λ e. omega arith))

pub sum : (at k n : ℕ) → n ≤ at → eqb (at - n) k ≡ eqb at (k + n)
sum at k n h = elim (ℕ_discrete at (k + n)) [
  | yes e ↦ eq-eqb (at - n) k (omega arith) ∙ sym (eq-eqb at (k + n) e)
  | no e ↦ ne_eqb (at - n) k (λ d. e (omega arith)) ∙ sym (ne_eqb at (k + n) e)
]

-- ---- sound or not

module _ (e : Run) where
  pub none : e.length ≡ 0 → false ≡ is_sound e
  unfolding is_sound
  none z = rw z

  pub too_long : 8 < e.first + e.length → false ≡ is_sound e
  unfolding is_sound
  too_long h = rw (lt-leb (e.first + e.length) 8 h) (sym (and-false (leb 1 e.length)))

  pub in_frame : (e.length ≡ 0 → ⊥) → e.first + e.length ≤ 8 → e.sector < 2 ^ 64 → leb e.length (18446744073709551615 - e.sector) ≡ is_sound e
  unfolding is_sound
  in_frame z h s = rw (le-leb 1 e.length (omega arith), le-leb (e.first + e.length) 8 h) (elim (dec_lt (e.sector + e.length) (2 ^ 64)) [
    | yes l ↦ le-leb e.length (18446744073709551615 - e.sector) (omega arith) ∙ sym (lt-ltb (e.sector + e.length) (2 ^ 64) l)
    | no l ↦ lt-leb e.length (18446744073709551615 - e.sector) (omega arith) ∙ sym (le-ltb (e.sector + e.length) (2 ^ 64) (omega arith))
  ])

-- ---- joined or not

module _ (e f : Run) where
  pub in-one-frame : f.frame ≡ e.frame → eqb f.first (e.first + e.length) ≡ joins e f
  unfolding joins
  in-one-frame s = rw (eq-eqb f.frame e.frame s, ne_eqb f.frame (suc e.frame) (λ t. omega arith)) (ends (eqb f.first (e.first + e.length)) (eqb (e.first + e.length) 8) (eqb f.first 0))
    where
      ends : (a b c : Bool) → a ≡ (true && a) || (b && (c && false))
      ends true b c = cc
      ends false true true = cc
      ends false true false = cc
      ends false false c = cc

  pub not-at-start : (f.frame ≡ e.frame → ⊥) → (f.first ≡ 0 → ⊥) → false ≡ joins e f
  unfolding joins
  not-at-start s z = rw (ne_eqb f.frame e.frame s, ne_eqb f.first 0 z) (sym (and-false (eqb (e.first + e.length) 8)))

  pub not-next : (f.frame ≡ e.frame → ⊥) → (f.frame ≡ suc e.frame → ⊥) → false ≡ joins e f
  unfolding joins
  not-next s t = rw (ne_eqb f.frame e.frame s, ne_eqb f.frame (suc e.frame) t, and-false (eqb f.first 0)) (sym (and-false (eqb (e.first + e.length) 8)))

  pub at_next : (f.frame ≡ e.frame → ⊥) → f.first ≡ 0 → f.frame ≡ suc e.frame → eqb 8 (e.first + e.length) ≡ joins e f
  unfolding joins
  at_next s z t = rw (ne_eqb f.frame e.frame s, eq-eqb f.first 0 z, eq-eqb f.frame (suc e.frame) t) (ends (e.first + e.length))
    where
      both : (b : Bool) → b ≡ b && (true && true)
      both true = cc
      both false = cc

      ends : (k : ℕ) → eqb 8 k ≡ eqb k 8 && (true && true)
      ends k = elim (ℕ_discrete k 8) [
        | yes h ↦ eq-eqb 8 k (omega arith) ∙ (sym (eq-eqb k 8 h) ∙ both (eqb k 8))
        | no h ↦ ne_eqb 8 k (λ d. h (omega arith)) ∙ (sym (ne_eqb k 8 h) ∙ both (eqb k 8))
      ]

-- ---- as the functions' proofs name them

pub ruleset sums = (no-sum, sum)

pub ruleset sound_tests = (none, too_long, in_frame)

pub ruleset join_tests = (in-one-frame, not-at-start, not-next, at_next)
