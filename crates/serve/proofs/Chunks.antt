-- A chunk of a list is the part of it at its place. Assumes nothing.
use Rattle.std.proofs.Common.{◌≡◌, ◌∙◌, ap, ℕ, zero, suc, ◌*◌, ◌<◌, List, [], take, drop, get_or, arith}
use Rattle.std.proofs.lemmas.List.{drop-drop}
use Rattle.std.specs.Simd.{first_chunks}

pub chunk-at : (n k i : ℕ) (xs : List ℕ) → i < k → get_or (first_chunks n k xs) i [] ≡ take n (drop (n * i) xs)
chunk-at n zero i xs h = absurd (omega arith)
chunk-at n (suc k) zero xs h = let z : 0 ≡ n * 0 = omega arith in ap (λ (j : ℕ). take n (drop j xs)) z
chunk-at n (suc k) (suc i) xs h = chunk-at n k i (drop n xs) (omega arith) ∙ ap (take n) (drop-drop (n * i) n xs ∙ ap (λ (j : ℕ). drop j xs) (omega arith))
