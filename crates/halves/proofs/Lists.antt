-- Lists that grow at their end, counts, and the outstanding without one of them. Assumes nothing.
use mathlib.Core.Path.{◌≡◌, refl, sym, ap, ◌∙◌, subst}
use mathlib.Core.Bool.{Bool, true, false}
use mathlib.Core.List.{List, [], ◌∷◌, ◌++◌, map, reverse, reverse-cons}
use Prim.Native.Nat.{ℕ, zero, suc, ◌+◌, ◌-◌, ◌≤◌, ◌<◌}
use native.Mathlib.Decide.{ℕ_discrete}
use native.Mathlib.Omega.{arith}
use lib.ListN.{length, get_or, set, take, drop, length-append, length-set, take-append-drop, drop_of_length-le}
use lib.Seq.{get_or-set_same, get_or-set_other, drop-cons}
use borrow.Author.Tests.{ltb-true, ltb-false, eqb-true}
use Rattle.model.specs.Demand.{All, count}
use Rattle.model.specs.declared.Pair.{Pair}
use Rattle.model.proofs.Base.{least-is, least-before}
use Rattle.model.proofs.Order.{one, count-nil, count-cons, count-append, count-all, is_pair-true}
use Rattle.guest.specs.Guest.{no_pair, place_of, has, same_id, same_pair, without}

-- ---- lists

module _ {A : Type 0} where
  pub length-snoc : (l : List A) (x : A) → length (l ++ (x ∷ [])) ≡ suc (length l)
  length-snoc l x = length-append l (x ∷ []) ∙ omega arith

  pub all_snoc : (P : A → Type 0) (l : List A) (x : A) → All P l → P x → All P (l ++ (x ∷ []))
  all_snoc P [] x h p = (p, tt)
  all_snoc P (y ∷ l) x h p = (h.0, all_snoc P l x h.1 p)

  module _ (f : A → Bool) where
    pub count-snoc : (l : List A) (x : A) → count f (l ++ (x ∷ [])) ≡ count f l + one (f x)
    count-snoc l x = omega (arith, count-append f l (x ∷ []), count-cons f x [], count-nil f)

    pub count-reverse : (l : List A) → count f (reverse l) ≡ count f l
    count-reverse [] = refl
    count-reverse (x ∷ l) = omega (arith, ap (count f) (reverse-cons x l), count-snoc (reverse l) x, count-cons f x l, count-reverse l)

    -- a list and its beginning
    pub count-take : (n : ℕ) (l : List A) → count f l ≡ count f (take n l) + count f (drop n l)
    count-take n l = ap (count f) (sym (take-append-drop n l)) ∙ count-append f (take n l) (drop n l)

    -- and what stands next
    pub count_next : (n : ℕ) (l : List A) (d : A) → n < length l → one (f (get_or l n d)) ≤ count f (drop n l)
    count_next n l d h = rw (drop-cons l n d h) (omega (arith, count-cons f (get_or l n d) (drop (suc n) l)))

    -- the last apart
    count-last : (l : List A) (n : ℕ) (d : A) → length l ≡ suc n → count f l ≡ count f (take n l) + one (f (get_or l n d))
    count-last l n d e =
        let x = get_or l n d in
        let end : drop n l ≡ x ∷ [] = drop-cons l n d (omega arith) ∙ ap (λ (r : List A). x ∷ r) (drop_of_length-le l {i = suc n} (omega arith)) in
        omega (arith, count-take n l, ap (count f) end, count-cons f x [], count-nil f)

    -- nothing passes
    count_none : (l : List A) (d : A) → ((i : ℕ) → i < length l → f (get_or l i d) ≡ false) → count f l ≡ 0
    count_none [] d h = count-nil f
    count_none (x ∷ l) d h =
        omega (arith, count-cons f x l, ap one (h 0 (omega arith)), count_none l d (λ i m. h (suc i) (omega arith)))

    -- one is replaced
    count_set : (l : List A) (i : ℕ) (x d : A) → i < length l → count f (set l i x) + one (f (get_or l i d)) ≡ count f l + one (f x)
    count_set [] i x d h = absurd (omega arith)
    count_set (y ∷ l) zero x d h = omega (arith, count-cons f y l, count-cons f x l)
    count_set (y ∷ l) (suc i) x d h = omega (arith, count-cons f y l, count-cons f y (set l i x), count_set l i x d (omega arith))

-- a test of what stands for each
pub count_map : {A B : Type 0} (f : B → Bool) (g : A → B) (l : List A) → count f (map g l) ≡ count (λ (x : A). f (g x)) l
count_map f g [] = count-nil f ∙ sym (count-nil (λ x. f (g x)))
count_map f g (x ∷ l) = omega (arith, count-cons f (g x) (map g l), count-cons (λ y. f (g y)) x l, count_map f g l)

-- ---- the outstanding

module _ (f : Pair → Bool) (l : List Pair) where
  -- where none is found, none is counted
  pub lacks : has f l ≡ false → count f l ≡ 0
  unfolding place_of
  lacks e =
      let none : length l ≤ place_of f l = ltb-false (place_of f l) (length l) e in
      count_none f l no_pair (λ i m. least-before (length l) (λ j. f (get_or l j no_pair)) i (omega arith))

  -- so what is counted is found
  pub has-counted : 0 < count f l → has f l ≡ true
  has-counted h = go (has f l) refl
    where
      go : (b : Bool) → has f l ≡ b → b ≡ true
      go true e = refl
      go false e = absurd (omega (arith, lacks e))

  -- and what is found passes
  found : has f l ≡ true → f (get_or l (place_of f l) no_pair) ≡ true
  unfolding place_of
  found e = least-is (length l) (λ j. f (get_or l j no_pair)) (ltb-true _ _ e)

-- without the one at place i there is one less
without-count : (i : ℕ) (l : List Pair) → i < length l → (f : Pair → Bool) → count f l ≡ one (f (get_or l i no_pair)) + count f (without i l)
unfolding without
without-count i l low f =
    let n = length l - 1 in
    let x = get_or l n no_pair in
    let m = set l i x in
    let long : length m ≡ suc n = length-set l i x ∙ omega arith in
    let last : get_or m n no_pair ≡ x =
    elim (ℕ_discrete n i) [
      | yes e ↦ rw e (get_or-set_same l i (get_or l i no_pair) no_pair low)
      | no e ↦ get_or-set_other l i n x no_pair e
    ] in
    omega (arith, count_set f l i x no_pair low, count-last f m n no_pair long, ap (λ (y : Pair). one (f y)) last)

-- a pair that stands there ends
module _ (q : Pair) (l : List Pair) (e : has (same_pair q) l ≡ true) where
  abbrev rest : List Pair
  rest = without (place_of (same_pair q) l) l

  pub ended-count : (f : Pair → Bool) → count f l ≡ one (f q) + count f rest
  ended-count f =
      let i = place_of (same_pair q) l in
      let same : q ≡ get_or l i no_pair = is_pair-true q _ (found (same_pair q) l e) in
      omega (arith, without-count i l (ltb-true _ _ e) f, ap (λ (y : Pair). one (f y)) same)

  pub ended-length : length l ≡ suc (length rest)
  ended-length = omega (arith, ended-count (λ _. true), count-all l, count-all rest)

-- ---- ids

-- no two share one
abbrev pub Apart : List Pair → Type 0
Apart l = (n : ℕ) → count (same_id n) l ≤ 1

pub ended-apart : (q : Pair) (l : List Pair) → has (same_pair q) l ≡ true → Apart l → Apart (without (place_of (same_pair q) l) l)
ended-apart q l e h n = omega (arith, h n, ended-count q l e (same_id n))

pub apart_snoc : (q : Pair) (l : List Pair) → has (same_id q.id) l ≡ false → Apart l → Apart (l ++ (q ∷ []))
apart_snoc q l e h n = go (same_id n q) refl
  where
    go : (b : Bool) → same_id n q ≡ b → count (same_id n) (l ++ (q ∷ [])) ≤ 1
    go true c =
        let none : count (same_id n) l ≡ 0 = subst (λ (i : ℕ). count (same_id i) l ≡ 0) (sym (eqb-true n q.id c)) (lacks (same_id q.id) l e) in
        omega (arith, count-snoc (same_id n) l q, ap one c)
    go false c = omega (arith, count-snoc (same_id n) l q, ap one c, h n)
