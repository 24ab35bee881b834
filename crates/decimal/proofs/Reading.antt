-- The laws of reading: what is left of a text, where some of its bytes were read in one step. Assumes nothing.
use mathlib.Core.Path.{◌≡◌, refl, sym, ap, ◌∙◌}
use mathlib.Core.Bool.{true, false}
use mathlib.Core.List.{List, [], ◌∷◌, ◌++◌}
use Prim.Native.Nat.{ℕ, zero, suc, ◌+◌, ◌*◌, ◌/◌, ◌^◌, ◌<◌, ◌≤◌}
use native.Mathlib.Omega.{arith}
use lib.ListN.{length, get_or, take, drop, drop_of_length-le, length-drop, length-take, take-append-drop}
use lib.Seq.{drop-drop}
use borrow.Author.Tests.{lt-ltb, le-ltb, eq-eqb, ne_eqb}
use Rattle.std.specs.Prelude.{Ok, Err}
use Rattle.std.specs.Simd.{first_chunks}
use Rattle.model.specs.Base.{all}
use Rattle.model.specs.NodeSheet.{is_digit, digits_from, digits_of, number_of, capped}
use Rattle.model.specs.declared.NumberError.{NumberError}
use Rattle.decimal.specs.Digits.{digits_after}
use Rattle.digits.proofs.Digits.{grows, digits-after, digits_append, all_append}

-- ---- a value

pub too-big : (v : ℕ) → 2 ^ 64 ≤ v → capped v ≡ Err NumberError.TooBig
unfolding capped
too-big v h = rw (le-ltb v (2 ^ 64) h)

pub in-range : (v : ℕ) → v < 2 ^ 64 → capped v ≡ Ok v
unfolding capped
in-range v h = rw (lt-ltb v (2 ^ 64) h)

-- ---- the beginning and the end

pub read_all : (text : List ℕ) → digits_after 0 text ≡ digits_of text
unfolding digits_after digits_of
read_all text = refl

-- ---- some digits read in one step, before the rest

module _ (ds es : List ℕ) where
  after_digits : all is_digit ds ≡ true → (v : ℕ) → digits_after v (ds ++ es) ≡ digits_after (digits_from v ds) es
  unfolding digits_after
  after_digits h v = rw (all_append ds es, h, digits_append ds es v)

  -- a byte among them that is no digit ends it
  after_none : all is_digit ds ≡ false → (v : ℕ) → digits_after v (ds ++ es) ≡ Err NumberError.NotANumber
  unfolding digits_after
  after_none h v = rw (all_append ds es, h)

-- by how much a number is too big does not matter
big-alike : (text : List ℕ) (v : ℕ) → 2 ^ 64 ≤ v → digits_after v text ≡ digits_after (2 ^ 64) text
unfolding digits_after
big-alike text v h =
    rw (too-big (digits_from v text) (omega (arith, h, grows text v)), too-big (digits_from (2 ^ 64) text) (omega (arith, grows text (2 ^ 64))))

-- ---- the bytes that make no whole eight

module _ (text ones eights : List ℕ) (both : text ≡ ones ++ eights) where
  pub ones_read : all is_digit ones ≡ true → digits_of text ≡ digits_after (digits_from 0 ones) eights
  ones_read h = sym (read_all text) ∙ rw both (after_digits ones eights h 0)

  pub ones_none : all is_digit ones ≡ false → digits_of text ≡ Err NumberError.NotANumber
  ones_none h = sym (read_all text) ∙ rw both (after_none ones eights h 0)

pub ruleset from_ones = (ones_read, ones_none)

-- ---- the eights

-- they are the parts of the text
eight_at : (n : ℕ) (text : List ℕ) (i : ℕ) → i < n → get_or (first_chunks 8 n text) i [] ≡ take 8 (drop (8 * i) text)
eight_at zero text i h = absurd (omega arith)
eight_at (suc n) text zero h = refl
eight_at (suc n) text (suc i) h =
    eight_at n (drop 8 text) i (omega arith) ∙ ap (take 8) (drop-drop (8 * i) 8 text ∙ ap (λ k. drop k text) (omega arith))

module _ (text : List ℕ) (i : ℕ) (l : i < length text / 8) where
  abbrev here : List ℕ
  here = get_or (first_chunks 8 (length text / 8) text) i []

  here-length : length here ≡ 8
  here-length = rw (eight_at (length text / 8) text i l) (simp (length-take, length-drop) (omega arith))

  here-rest : drop (8 * i) text ≡ here ++ drop (8 * (i + 1)) text
  here-rest =
      let place : 8 * (i + 1) ≡ 8 * i + 8 = omega arith in
      rw (eight_at (length text / 8) text i l, place, ← drop-drop 8 (8 * i) text) (sym (take-append-drop 8 (drop (8 * i) text)))

  module _ (h : all is_digit here ≡ true) where
    pub eight_read : (v : ℕ) → digits_after v (drop (8 * i) text) ≡ digits_after (v * 10 ^ 8 + digits_from 0 here) (drop (8 * (i + 1)) text)
    eight_read v =
        rw here-rest (after_digits here (drop (8 * (i + 1)) text) h v)
        ∙ ap (λ d. digits_after d (drop (8 * (i + 1)) text)) (rw here-length at (digits-after here v))

    pub eight_big : digits_after (2 ^ 64) (drop (8 * i) text) ≡ digits_after (2 ^ 64) (drop (8 * (i + 1)) text)
    eight_big = eight_read (2 ^ 64) ∙ big-alike (drop (8 * (i + 1)) text) _ (omega arith)

    pub eight_too_big : (v : ℕ) → 2 ^ 64 ≤ v * 10 ^ 8 + digits_from 0 here → digits_after v (drop (8 * i) text) ≡ digits_after (2 ^ 64) (drop (8 * i) text)
    eight_too_big v e = eight_read v ∙ big-alike (drop (8 * (i + 1)) text) _ e ∙ sym eight_big

  pub eight_none : all is_digit here ≡ false → (v : ℕ) → digits_after v (drop (8 * i) text) ≡ Err NumberError.NotANumber
  eight_none h v = rw here-rest (after_none here (drop (8 * (i + 1)) text) h v)

pub eight_end : (text : List ℕ) (i v : ℕ) → length text ≤ 8 * i → v < 2 ^ 64 → digits_after v (drop (8 * i) text) ≡ Ok v
unfolding digits_after all digits_from
eight_end text i v h l =
    let e : drop (8 * i) text ≡ [] = drop_of_length-le text h in
    rw e (in-range v l)

-- all digits: a number that was too big is left so
pub big_end : (text : List ℕ) (i : ℕ) → length text ≤ 8 * i → digits_after (2 ^ 64) (drop (8 * i) text) ≡ Err NumberError.TooBig
unfolding digits_after all digits_from
big_end text i h =
    let e : drop (8 * i) text ≡ [] = drop_of_length-le text h in
    rw e (too-big (2 ^ 64) (omega arith))

pub ruleset from_big = (eight_big, eight_none, big_end)

pub ruleset from_eights = (eight_read, eight_big, eight_too_big, eight_none, eight_end)

-- ---- what `read_number` tests

pub number_empty : (text : List ℕ) → length text ≡ 0 → number_of text ≡ Err NumberError.NotANumber
unfolding number_of
number_empty [] h = refl
number_empty (d ∷ ds) h = absurd (omega arith)

pub number_one : (text : List ℕ) → length text ≡ 1 → number_of text ≡ digits_of text
unfolding number_of
number_one [] h = absurd (omega arith)
number_one (d ∷ []) h = refl
number_one (d ∷ e ∷ ds) h = absurd (omega arith)

pub number_zero : (text : List ℕ) → 1 < length text → get_or text 0 0 ≡ 48 → number_of text ≡ Err NumberError.NotANumber
unfolding number_of
number_zero [] l z = absurd (omega arith)
number_zero (d ∷ []) l z = absurd (omega arith)
number_zero (d ∷ e ∷ ds) l z = rw (eq-eqb d 48 z)

pub number_other : (text : List ℕ) → 1 < length text → (get_or text 0 0 ≡ 48 → ⊥) → number_of text ≡ digits_of text
unfolding number_of
number_other [] l z = absurd (omega arith)
number_other (d ∷ []) l z = absurd (omega arith)
number_other (d ∷ e ∷ ds) l z = rw (ne_eqb d 48 z)

pub ruleset of_number = (number_empty, number_one, number_zero, number_other)
