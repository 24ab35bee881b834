-- Two texts compared. Assumes nothing.
use mathlib.Core.Path.{◌≡◌, refl, sym, ap}
use mathlib.Core.Bool.{Bool, true, false, ◌&&◌}
use mathlib.Core.List.{List, [], ◌∷◌}
use Prim.Native.Nat.{ℕ, suc, ◌+◌, ◌<◌}
use native.Mathlib.Numerals.{add-one}
use lib.ListN.{length, get_or, drop}
use lib.Seq.{drop-cons, drop-length}
use lib.Dec.{eqb}
use borrow.Author.Tests.{eq-eqb, ne_eqb}
use Rattle.model.specs.Base.{same}

same-cons : (x y : ℕ) (xs ys : List ℕ) → x ≡ y → same (x ∷ xs) (y ∷ ys) ≡ same xs ys
unfolding same
same-cons x y xs ys e = rw (eq-eqb x y e)

same-differ : (x y : ℕ) (xs ys : List ℕ) → (x ≡ y → ⊥) → same (x ∷ xs) (y ∷ ys) ≡ false
unfolding same
same-differ x y xs ys e = rw (ne_eqb x y e)

-- texts of different lengths are not the same
pub same_length : (a b : List ℕ) → (length a ≡ length b → ⊥) → false ≡ same a b
unfolding same
same_length [] [] h = absurd (h refl)
same_length [] (y ∷ ys) h = refl
same_length (x ∷ xs) [] h = refl
same_length (x ∷ xs) (y ∷ ys) h = shorter (eqb x y) (same_length xs ys (λ e. h (ap suc e)))
  where
    shorter : (t : Bool) → false ≡ same xs ys → false ≡ t && same xs ys
    shorter true e = e
    shorter false e = refl

module _ (a b : List ℕ) (i : ℕ) (h : i < length a) (l : i < length b) where
  pub same-on : get_or a i 0 ≡ get_or b i 0 → same (drop (i + 1) a) (drop (i + 1) b) ≡ same (drop i a) (drop i b)
  same-on e = rw (add-one, drop-cons a i 0 h, drop-cons b i 0 l) (sym (same-cons _ _ _ _ e))

  pub same_stop : (get_or a i 0 ≡ get_or b i 0 → ⊥) → false ≡ same (drop i a) (drop i b)
  same_stop e = rw (drop-cons a i 0 h, drop-cons b i 0 l) (sym (same-differ _ _ _ _ e))

pub same-done : (a b : List ℕ) (i : ℕ) → i ≡ length a → i ≡ length b → true ≡ same (drop i a) (drop i b)
unfolding same
same-done a b i h l =
    let da : drop i a ≡ [] = rw h (drop-length a) in
    let db : drop i b ≡ [] = rw l (drop-length b) in
    rw (da, db)
