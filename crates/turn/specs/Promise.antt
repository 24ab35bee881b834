-- What a turn promises: the call's promise of the words that the answer has for extents (rules 5.33 and 14.7), and no
-- other word of the answer changes.
use Rattle.std.specs.Prelude.{◌≡◌, List, ℕ, Result}
use Rattle.wire.specs.Part.{set_part}
use Rattle.model.specs.Answers.{extents_at, extents_in}
use Rattle.model.specs.Calls.{Turn}
use Rattle.model.specs.Plan.{plan_words}
use Rattle.model.specs.declared.Refusal.{Refusal}
use Rattle.model.specs.declared.Turned.{Turned}
use Rattle.memory.specs.Promise.{Promised}

pub record TurnPromised (memory rings grants answer : List ℕ) (r : Result Turned Refusal) (pages words left : List ℕ) : Type 0 where
  pub promised : Promised memory (Turn rings grants (extents_in answer)) (record { rings = pages; words = extents_in words; answer = r }) left
  pub around : words ≡ set_part plan_words answer extents_at (extents_in words)
