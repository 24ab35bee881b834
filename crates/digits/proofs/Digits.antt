-- The laws of digits: their value, and how a text of them is read one by one. Assumes nothing.
use mathlib.Core.Path.{◌≡◌, refl, sym, ◌∙◌}
use mathlib.Core.Bool.{Bool, true, ◌&&◌, and-true, and_assoc}
use mathlib.Core.List.{List, [], ◌∷◌, ◌++◌}
use Prim.Native.Nat.{ℕ, ◌+◌, ◌-◌, ◌*◌, ◌^◌, ◌<◌, ◌≤◌}
use native.Mathlib.Numerals.{add-one}
use native.Mathlib.Nat.{zero-add, add_assoc, add-mul, mul_assoc, pow-succ', pow-le-pow_right, mul-le-mul_right}
use native.Mathlib.Omega.{arith}
use lib.Dec.{leb}
use lib.Pow.{pow-add}
use lib.ListN.{length, get_or, drop}
use lib.Seq.{drop-cons}
use borrow.Author.Tests.{leb-true}
use Rattle.std.specs.List.{list_all}
use Rattle.model.specs.Base.{all}
use Rattle.model.specs.NodeSheet.{is_digit, digits_from}
use Rattle.model.proofs.Base.{and_left, and_right}

-- ---- the value of digits

-- the model's word and the library's say the same
pub all_is_list_all : {A : Type 0} (f : A → Bool) (xs : List A) → list_all f xs ≡ all f xs
unfolding all
all_is_list_all f [] = refl
all_is_list_all f (x ∷ xs) = rw (all_is_list_all f xs)

-- a digit is from 48 to 57
pub digit_range : (d : ℕ) → is_digit d ≡ true → (48 ≤ d) × (d ≤ 57)
unfolding is_digit
digit_range d h = (leb-true 48 d (and_left (leb 48 d) (leb d 57) h), leb-true d 57 (and_right (leb 48 d) (leb d 57) h))

-- digits in one step are as many steps of one: they move the value before them up by that many places
pub digits-after : (ds : List ℕ) (a : ℕ) → digits_from a ds ≡ a * 10 ^ length ds + digits_from 0 ds
unfolding digits_from
digits-after [] a = omega arith
digits-after (d ∷ ds) a =
    digits-after ds (a * 10 + (d - 48)) ∙ rw (digits-after ds (0 * 10 + (d - 48)), zero-add, pow-succ', add-mul, mul_assoc, add_assoc)

-- digits make a value no smaller
pub grows : (ds : List ℕ) (v : ℕ) → v ≤ digits_from v ds
unfolding digits_from
grows [] v = omega arith
grows (d ∷ ds) v = omega (arith, grows ds (v * 10 + (d - 48)))

-- n digits are below ten to the power of n
pub digits-below : (ds : List ℕ) → all is_digit ds ≡ true → digits_from 0 ds < 10 ^ length ds
unfolding digits_from all
digits-below [] h = omega arith
digits-below (d ∷ ds) h =
    let r = digit_range d (and_left (is_digit d) (all is_digit ds) h) in
    let below = digits-below ds (and_right (is_digit d) (all is_digit ds) h) in
    let most : (d - 48) * 10 ^ length ds ≤ 9 * 10 ^ length ds = mul-le-mul_right (10 ^ length ds) (omega (arith, r)) in
    rw (digits-after ds (0 * 10 + (d - 48)), pow-succ') (omega (arith, below, most))

-- a digit after n digits is below ten to the power of n + 1
pub digit-after : (n v d : ℕ) → v < 10 ^ n → d < 10 → v * 10 + d < 10 ^ (n + 1)
digit-after n v d h l = rw (pow-add 10 n 1) (omega (arith, h, l))

-- digits after digits
pub digits_append : (ds es : List ℕ) (a : ℕ) → digits_from a (ds ++ es) ≡ digits_from (digits_from a ds) es
unfolding digits_from
digits_append [] es a = refl
digits_append (d ∷ ds) es a = digits_append ds es (a * 10 + (d - 48))

-- all of them are digits when those of both are
pub all_append : (ds es : List ℕ) → all is_digit (ds ++ es) ≡ all is_digit ds && all is_digit es
unfolding all
all_append [] es = refl
all_append (d ∷ ds) es = rw (all_append ds es) (sym (and_assoc (is_digit d) (all is_digit ds) (all is_digit es)))

-- of one byte that is its own test
pub all_one : (d : ℕ) → all is_digit (d ∷ []) ≡ is_digit d
unfolding all
all_one d = and-true (is_digit d)

-- ---- from one digit to the next

module _ (text : List ℕ) (i : ℕ) (h : i < length text) where
  -- the digits from place i on are the one there and those after it
  all_next : all is_digit (drop i text) ≡ is_digit (get_or text i 0) && all is_digit (drop (i + 1) text)
  unfolding all
  all_next = rw (add-one, drop-cons text i 0 h)

  pub value_next : (v : ℕ) → digits_from v (drop i text) ≡ digits_from (v * 10 + (get_or text i 0 - 48)) (drop (i + 1) text)
  unfolding digits_from
  value_next v = rw (add-one, drop-cons text i 0 h)

  module _ (d : all is_digit (drop i text) ≡ true) where
    both : is_digit (get_or text i 0) && all is_digit (drop (i + 1) text) ≡ true
    both = sym all_next ∙ d

    pub digit_here : is_digit (get_or text i 0) ≡ true
    digit_here = and_left (is_digit (get_or text i 0)) (all is_digit (drop (i + 1) text)) both

    pub digits_left : all is_digit (drop (i + 1) text) ≡ true
    digits_left = and_right (is_digit (get_or text i 0)) (all is_digit (drop (i + 1) text)) both

    pub digit-below : get_or text i 0 - 48 < 10
    digit-below = omega (arith, digit_range (get_or text i 0) digit_here)

-- a digit after at most 18 fits
pub few-fit : (n v d : ℕ) → n < 19 → v < 10 ^ n → d < 10 → v * 10 + d < 2 ^ 64
few-fit n v d h l s =
    let most : 10 ^ n ≤ 10 ^ 18 = pow-le-pow_right {n = 10} (omega arith) {i = n} {j = 18} (omega arith) in
    omega (arith, most, l, s)
