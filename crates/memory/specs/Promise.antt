-- What every call promises, one definition for all (rules 11.1 and 11.2; of a list of completions, whose answer is in
-- two parts, crates/lists has the same field by field): its effect is the one due on what the backend shows of itself,
-- the backend after it is what the event makes of it, every word of memory too; and a call that does nothing leaves the
-- memory as it was, whatever it held.
use Rattle.std.specs.Prelude.{◌≡◌, List, [], ℕ}
use Rattle.model.specs.Backend.{view_of, after_call}
use Rattle.model.specs.Calls.{Call, Effect}
use Rattle.model.specs.Deeds.{deeds}
use Rattle.model.specs.Rules.{effect_due}
use Rattle.memory.specs.Backend.{backend_of, Becomes}

pub record Promised (before : List ℕ) (c : Call) (e : Effect c) (left : List ℕ) : Type 0 where
  -- the answer, and every byte of what was lent (rule 11.1)
  pub effect : e ≡ effect_due (view_of (backend_of before)) c
  -- the backend, and every word of memory (rule 14.11)
  pub memory : Becomes before (after_call (backend_of before) c) left
  -- a refused call and an idle turn have no deeds (rules 1.13, 5.9 and 14.13)
  pub still : deeds c e ≡ [] → left ≡ before
