-- What is promised of a request in the bytes of a slot.
use Rattle.std.specs.Prelude.{◌≡◌, ◌*◌, ◌≤◌, List, ℕ, take}
use Rattle.model.specs.Checks.{max_segments}
use Rattle.model.specs.Ring.{Request}
use Rattle.model.specs.Plan.{Verdict, extents_of, extent_words, verdict_of, words_beside}
use Rattle.model.specs.declared.Params.{Params}
use Rattle.model.specs.declared.Plan.{Plan}
use Rattle.layout.specs.Copy.{request_in}

-- The verdict is the model's (rule 5.19), and beside it stand the words of its extents: all zero beside a refusal
-- (rule 5.34).
pub record Judged (p : Params) (grants slot : List ℕ) (v : Verdict) (words : List ℕ) : Type 0 where
  pub verdict : v ≡ verdict_of p grants (request_in slot)
  pub beside : words ≡ words_beside (request_in slot) (verdict_of p grants (request_in slot))

-- The words of a plan's extents stand in front of `words`; what is behind them is not looked at.
pub record InFront (r : Request) (words : List ℕ) (plan : Plan) : Type 0 where
  pub few : plan.extents ≤ max_segments
  pub front : take (4 * plan.extents) words ≡ extent_words plan.extents (extents_of r)
