-- The few words that the rules are written in: a table of rules and its first that applies, the least index, a tally.
use Rattle.std.specs.Prelude.{ℕ, zero, suc, ◌^◌, Bool, true, false, cond, ◌&&◌, List, [], ◌∷◌, eqb}

infix 68 ◌⇒◌
-- a rule of a table: a test, and the answer where this is the first rule whose test holds
pub record Rule (A : Type 0) : Type 0 where
  pub test : Bool
  pub answer : A

abbrev pub ◌⇒◌ : {A : Type 0} → Bool → A → Rule A
t ⇒ a = record { test = t; answer = a }

-- the answer of the first rule that holds, else the last argument; of refusals, which stand in the order of rule 1.15, that is the one to give
abbrev pub first_of : {A : Type 0} → List (Rule A) → A → A
first_of [] a = a
first_of (r ∷ rs) a = cond r.test r.answer (first_of rs a)

-- the least i below n that passes; n where none does
unfoldable pub least : ℕ → (ℕ → Bool) → ℕ
least zero f = zero
least (suc n) f = cond (f zero) zero (suc (least n (λ i. f (suc i))))

-- how many of 0 .. n - 1 pass
unfoldable pub tally : ℕ → (ℕ → Bool) → ℕ
tally zero f = zero
tally (suc n) f = cond (f n) (suc (tally n f)) (tally n f)

-- every element passes
unfoldable pub all : {A : Type 0} → (A → Bool) → List A → Bool
all f [] = true
all f (x ∷ xs) = f x && all f xs

-- two lists of bytes are the same
unfoldable pub same : List ℕ → List ℕ → Bool
same [] [] = true
same [] (y ∷ ys) = false
same (x ∷ xs) [] = false
same (x ∷ xs) (y ∷ ys) = eqb x y && same xs ys

-- the indices of a ring count modulo this (rule 4.14)
abbrev pub modulus : ℕ
modulus = 2 ^ 32
