-- Reorderings by counts: of two lists of pairs in which every pair stands as often, one is the other in some order. Assumes nothing.
use mathlib.Core.Path.{◌≡◌, refl, sym, ap, ◌∙◌, subst}
use mathlib.Core.List.{List, [], ◌∷◌, ◌++◌}
use mathlib.Core.Bool.{Bool, true, false, cond, ◌&&◌}
use Prim.Native.Nat.{ℕ, suc, ◌+◌, ◌<◌}
use native.Mathlib.Omega.{arith}
use lib.Dec.{eqb}
use lib.ListN.{length}
use borrow.Author.Tests.{eqb-true, eq-eqb}
use Rattle.model.specs.Demand.{count, Reordered, nothing, put_in}
use Rattle.model.specs.declared.Pair.{Pair}
use Rattle.model.proofs.Base.{by_cond, and_left, and_right}

-- ---- counts

abbrev pub one : Bool → ℕ
one b = cond b 1 0

module _ {A : Type 0} (f : A → Bool) where
  pub count-nil : count f [] ≡ 0
  unfolding count
  count-nil = refl

  pub count-cons : (x : A) (l : List A) → count f (x ∷ l) ≡ one (f x) + count f l
  unfolding count
  count-cons x l =
      by_cond (λ (n : ℕ). cond (f x) (suc (count f l)) (count f l) ≡ n + count f l) (f x) 1 0 (λ e. rw e (omega arith)) (λ e. rw e (omega arith))

  pub count-append : (s t : List A) → count f (s ++ t) ≡ count f s + count f t
  count-append [] t = omega (arith, count-nil)
  count-append (x ∷ s) t = omega (arith, count-cons x (s ++ t), count-cons x s, count-append s t)

-- a test that all pass counts the length
pub count-all : {A : Type 0} (l : List A) → count (λ (x : A). true) l ≡ length l
unfolding count
count-all [] = refl
count-all (x ∷ l) = ap suc (count-all l)

-- ---- pairs

abbrev pub is_pair : Pair → Pair → Bool
is_pair p q = eqb p.id q.id && eqb p.operation q.operation

pub is_pair-true : (p q : Pair) → is_pair p q ≡ true → p ≡ q
is_pair-true p q e =
    let a : p.id ≡ q.id = eqb-true _ _ (and_left _ _ e) in
    let b : p.operation ≡ q.operation = eqb-true _ _ (and_right (eqb p.id q.id) _ e) in
    λ i. record { id = a i; operation = b i }

pub is_pair-self : (p : Pair) → is_pair p p ≡ true
is_pair-self p = rw (eq-eqb p.id p.id refl, eq-eqb p.operation p.operation refl)

-- ---- from counts to a reordering

record Split (x : Pair) (ys : List Pair) : Type 0 where
  front : List Pair
  back : List Pair
  is : ys ≡ front ++ x ∷ back

-- a pair that is counted stands somewhere
split : (x : Pair) (ys : List Pair) → 0 < count (is_pair x) ys → Split x ys
unfolding count
split x [] h = absurd (omega arith)
split x (y ∷ ys) h = go (is_pair x y) refl (λ e. split x ys e)
  where
    go : (b : Bool) → is_pair x y ≡ b → (0 < count (is_pair x) ys → Split x ys) → Split x (y ∷ ys)
    go true e r = record { front = []; back = ys; is = ap {B = List Pair} (λ z. z ∷ ys) (sym (is_pair-true x y e)) }
    go false e r =
        let s = r (rw e at h) in
        record { front = y ∷ s.front; back = s.back; is = ap {B = List Pair} (λ z. y ∷ z) s.is }

-- a list in which nothing is counted is empty
empty : (ys : List Pair) → ((q : Pair) → count (is_pair q) ys ≡ 0) → ys ≡ []
empty [] h = refl
empty (y ∷ ys) h = absurd (omega (arith, h y, count-cons (is_pair y) y ys, ap one (is_pair-self y)))

pub reordered : (xs ys : List Pair) → ((q : Pair) → count (is_pair q) xs ≡ count (is_pair q) ys) → Reordered xs ys
reordered [] ys h = subst (λ (l : List Pair). Reordered [] l) (sym (empty ys (λ q. sym (h q) ∙ count-nil (is_pair q)))) nothing
reordered (x ∷ xs) ys h =
    let found : 0 < count (is_pair x) ys = omega (arith, h x, count-cons (is_pair x) x xs, ap one (is_pair-self x)) in
    let s = split x ys found in
    let rest : (q : Pair) → count (is_pair q) xs ≡ count (is_pair q) (s.front ++ s.back) =
    λ q.
    let f = is_pair q in
    omega (arith, h q, ap (count f) s.is, count-cons f x xs, count-append f s.front (x ∷ s.back), count-append f s.front s.back, count-cons f x s.back) in
    subst (λ (l : List Pair). Reordered (x ∷ xs) l) (sym s.is) (put_in s.front s.back (reordered xs (s.front ++ s.back) rest))
