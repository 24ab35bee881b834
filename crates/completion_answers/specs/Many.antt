-- The words that come before the statuses, in the answer to a list of completions.
use Rattle.std.specs.Prelude.{List, ◌∷◌, ℕ, drop, Result, Ok, Err}
use Rattle.model.specs.Answers.{yes_no}
use Rattle.model.specs.Numbers.{refusal_number}
use Rattle.model.specs.declared.CompletedMany.{CompletedMany}
use Rattle.model.specs.declared.Refusal.{Refusal}

-- the number that the call is refused with, or 0 (rule 14.5)
abbrev pub many_number : Result CompletedMany Refusal → ℕ
many_number (Ok done) = 0
many_number (Err e) = refusal_number e

-- the answer, with what stood there from the statuses on (rule 14.15)
abbrev pub many_put : Result CompletedMany Refusal → ℕ → List ℕ → List ℕ
many_put (Ok done) count lent = done.port.0 ∷ count ∷ yes_no done.notify ∷ 0 ∷ drop 4 lent
many_put (Err e) count lent = lent
