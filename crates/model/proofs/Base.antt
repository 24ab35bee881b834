-- The laws of the few words that the rules are written in: tests, the least index that passes, tallies. Assumes nothing.
use mathlib.Core.Path.{◌≡◌, refl, sym, ap, ◌∙◌, subst}
use mathlib.Core.Logic.{◌≢◌}
use mathlib.Core.Bool.{Bool, true, false, not, cond, ◌&&◌, ◌||◌, true≢false}
use Prim.Native.Nat.{ℕ, zero, suc, ◌+◌, ◌≤◌, ◌<◌, suc-le-suc}
use native.Mathlib.Decide.{dec_lt}
use native.Mathlib.Nat.{not-suc-le-zero, le_of_suc-le-suc, le_refl, add-zero, add-suc}
use native.Mathlib.Omega.{arith}
use Rattle.model.specs.Base.{least, tally}

-- ---- tests

-- what holds of both branches, each under its test
pub by_cond : {A : Type 0} (P : A → Type 0) (b : Bool) (x y : A) → (b ≡ true → P x) → (b ≡ false → P y) → P (cond b x y)
by_cond P true x y f g = f refl
by_cond P false x y f g = g refl

-- no test both passes and fails
pub clash : {A : Type 0} {b : Bool} → b ≡ true → b ≡ false → A
clash p q = absurd (true≢false (sym p ∙ q))

pub and_left : (a b : Bool) → a && b ≡ true → a ≡ true
and_left true b e = refl
and_left false b e = e

pub and_right : (a b : Bool) → a && b ≡ true → b ≡ true
and_right true b e = e
and_right false b e = clash e refl

pub or_left : (a b : Bool) → a || b ≡ false → a ≡ false
or_left true b e = e
or_left false b e = refl

pub or_right : (a b : Bool) → a || b ≡ false → b ≡ false
or_right true b e = clash refl e
or_right false b e = e

pub or-true : (b : Bool) → b || true ≡ true
or-true true = refl
or-true false = refl

pub and-false : (b : Bool) → b && false ≡ false
and-false true = refl
and-false false = refl

-- ---- the least index that passes

-- it passes
pub least-is : (n : ℕ) (f : ℕ → Bool) → least n f < n → f (least n f) ≡ true
unfolding least
least-is zero f = λ h. absurd (not-suc-le-zero h)
least-is (suc n) f =
    by_cond (λ m. m < suc n → f m ≡ true) (f zero) _ _ (λ e _. e) (λ _ h. least-is n (λ i. f (suc i)) (le_of_suc-le-suc h))

-- and none before it does
pub least-before : (n : ℕ) (f : ℕ → Bool) (i : ℕ) → i < least n f → f i ≡ false
unfolding least
least-before zero f i = λ h. absurd (not-suc-le-zero h)
least-before (suc n) f zero =
    by_cond (λ m. zero < m → f zero ≡ false) (f zero) _ _ (λ _ h. absurd (not-suc-le-zero h)) (λ e _. e)
least-before (suc n) f (suc i) =
    by_cond
    (λ m. suc i < m → f (suc i) ≡ false)
    (f zero)
    _
    _
    (λ _ h. absurd (not-suc-le-zero h))
    (λ _ h. least-before n (λ j. f (suc j)) i (le_of_suc-le-suc h))

-- where none passes, that is said by the bound
pub least-none : (n : ℕ) (f : ℕ → Bool) → ((i : ℕ) → i < n → f i ≡ false) → least n f ≡ n
unfolding least
least-none zero f h = refl
least-none (suc n) f h = rw (h 0 (omega arith)) (ap suc (least-none n (λ i. f (suc i)) (λ i l. h (suc i) (omega arith))))

-- one that passes, with none before it, is the least
pub least-found : (n : ℕ) (f : ℕ → Bool) (i : ℕ) → i < n → f i ≡ true → ((j : ℕ) → j < i → f j ≡ false) → least n f ≡ i
least-found n f i l e b = go (dec_lt i (least n f)) (dec_lt (least n f) i)
  where
    go : Dec (i < least n f) → Dec (least n f < i) → least n f ≡ i
    go (yes c) d = clash e (least-before n f i c)
    go (no c) (yes d) = clash (least-is n f (omega arith)) (b (least n f) d)
    go (no c) (no d) = omega arith

-- looked for among more, it is the same
pub least_more : (n m : ℕ) (f : ℕ → Bool) → n ≤ m → least n f < n → least m f ≡ least n f
least_more n m f l h = least-found m f (least n f) (omega arith) (least-is n f h) (least-before n f)

-- ---- tallies

pub tally-le : (n : ℕ) (f : ℕ → Bool) → tally n f ≤ n
unfolding tally
tally-le zero f = omega arith
tally-le (suc n) f = by_cond (λ (m : ℕ). m ≤ suc n) (f n) _ _ (λ _. suc-le-suc (tally-le n f)) (λ _. omega (arith, tally-le n f))

pub tally-same : (n : ℕ) (f g : ℕ → Bool) → ((i : ℕ) → i < n → f i ≡ g i) → tally n f ≡ tally n g
unfolding tally
tally-same zero f g h = refl
tally-same (suc n) f g h = rw (h n (omega arith), tally-same n f g (λ i l. h i (omega arith)))

pub tally-all : (n : ℕ) (f : ℕ → Bool) → ((i : ℕ) → i < n → f i ≡ true) → tally n f ≡ n
unfolding tally
tally-all zero f h = refl
tally-all (suc n) f h = rw (h n (omega arith)) (ap suc (tally-all n f (λ i l. h i (omega arith))))

pub tally-none : (n : ℕ) (f : ℕ → Bool) → ((i : ℕ) → i < n → f i ≡ false) → tally n f ≡ 0
unfolding tally
tally-none zero f h = refl
tally-none (suc n) f h = rw (h n (omega arith)) (tally-none n f (λ i l. h i (omega arith)))

tally-put-suc : (n : ℕ) (f g : ℕ → Bool) (u : ℕ) → u < suc n → f u ≡ false → g u ≡ true → ((i : ℕ) → i ≢ u → g i ≡ f i) → Dec (u < n)
    → (u < n → tally n g ≡ suc (tally n f)) → tally (suc n) g ≡ suc (tally (suc n) f)
unfolding tally
tally-put-suc n f g u l a b h (yes c) k =
    rw (h n (omega arith), k c)
    (by_cond (λ x. cond (f n) (suc (suc (tally n f))) (suc (tally n f)) ≡ suc x) (f n) _ _ (λ e. rw e) (λ e. rw e))
tally-put-suc n f g u l a b h (no c) k =
    let e : u ≡ n = omega arith in
    let fn : f n ≡ false = subst (λ (x : ℕ). f x ≡ false) e a in
    let gn : g n ≡ true = subst (λ (x : ℕ). g x ≡ true) e b in
    rw (fn, gn) (ap suc (tally-same n g f (λ i l. h i (omega arith))))

-- one more passes
pub tally-put : (n : ℕ) (f g : ℕ → Bool) (u : ℕ) → u < n → f u ≡ false → g u ≡ true → ((i : ℕ) → i ≢ u → g i ≡ f i) → tally n g ≡ suc (tally n f)
tally-put zero f g u l a b h = absurd (not-suc-le-zero l)
tally-put (suc n) f g u l a b h = tally-put-suc n f g u l a b h (dec_lt u n) (λ c. tally-put n f g u c a b h)

-- fewer than n of them fail: one below n passes
pub least-some : (n : ℕ) (f : ℕ → Bool) → tally n (λ i. not (f i)) < n → least n f < n
least-some n f h = go (dec_lt (least n f) n)
  where
    go : Dec (least n f < n) → least n f < n
    go (yes c) = c
    go (no c) =
        let e : tally n (λ i. not (f i)) ≡ n = tally-all n (λ i. not (f i)) (λ i l. ap not (least-before n f i (omega arith))) in
        absurd (omega arith)

-- a tally from the other end
tally-cons : (n : ℕ) (f : ℕ → Bool) → tally (suc n) f ≡ cond (f n) 1 0 + tally n f
unfolding tally
tally-cons n f =
    by_cond (λ (x : ℕ). cond (f n) (suc (tally n f)) (tally n f) ≡ x + tally n f) (f n) 1 0 (λ e. rw e (omega arith)) (λ e. rw e (omega arith))

pub tally-first : (n : ℕ) (f : ℕ → Bool) → tally (suc n) f ≡ cond (f 0) 1 0 + tally n (λ i. f (suc i))
tally-first zero f = tally-cons 0 f ∙ ap (λ x. cond (f 0) 1 0 + x) (tally-same 0 f (λ i. f (suc i)) (λ i h. absurd (not-suc-le-zero h)))
tally-first (suc n) f = omega (arith, tally-cons (suc n) f, tally-cons n (λ i. f (suc i)), tally-first n f)

-- among more there are no fewer
pub tally-more : (n d : ℕ) (f : ℕ → Bool) → tally n f ≤ tally (n + d) f
tally-more n zero f = rw add-zero (le_refl (tally n f))
tally-more n (suc d) f = rw add-suc (omega (arith, tally-more n d f, tally-cons (n + d) f))
