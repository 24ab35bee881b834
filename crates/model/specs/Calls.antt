-- The calls, and what a call leaves and answers. A call carries its arguments and every buffer that it is lent, with the bytes that it holds just then
-- (rule 1.6), whatever guests wrote before (rule 1.7). How often a byte is read does not show here (rule 1.8).
use Rattle.std.specs.Prelude.{ℕ, Bool, List, Result}
use Rattle.model.specs.declared.PortId.{PortId}
use Rattle.model.specs.declared.Refusal.{Refusal}
use Rattle.model.specs.declared.Status.{Status}
use Rattle.model.specs.declared.Turned.{Turned}

-- a list of completions has at most so many entries (rule 7.7)
abbrev pub most_completions : ℕ
most_completions = 64

-- what an open or a close answers (rule 11.4)
abbrev pub Reply : Type 0
Reply = Result (Unit {0}) Refusal

-- The four calls (rule 1.2), each with what it is lent (rule 1.5). A turn is lent the words for extents besides, an array whose length is its type's
-- (rule 5.33). A completion is lent a list of entries, as words (rules 6.16 and 14.14).
pub data Call : Type 0 where
  Open : (port : PortId) (sheet : List ℕ) → Call
  Close : (port : PortId) → Call
  Turn : (rings grants words : List ℕ) → Call
  Complete : (rings : List ℕ) (port : PortId) (entries : List ℕ) → Call

-- what a turn leaves and answers; the grants stay (rule 1.10)
pub record TurnEffect : Type 0 where
  pub rings : List ℕ
  pub words : List ℕ
  pub answer : Result Turned Refusal

-- The answer of a completion: of its entries none is done, and the refusal says why; or all are, with a status for each, in the list's order (rules 1.14 and 6.22).
pub data CompleteAnswer : Type 0 where
  none_done : (refusal : Refusal) → CompleteAnswer
  all_done : (port : PortId) (statuses : List Status) (notify : Bool) → CompleteAnswer

-- what a completion leaves and answers; the entries stay (rule 1.10)
pub record CompleteEffect : Type 0 where
  pub rings : List ℕ
  pub answer : CompleteAnswer

-- An open or a close leaves no bytes: it has an answer alone (rules 1.5, 1.10 and 4.4).
abbrev pub Effect : Call → Type 0
Effect (Open p sheet) = Reply
Effect (Close p) = Reply
Effect (Turn rings grants words) = TurnEffect
Effect (Complete rings p entries) = CompleteEffect

-- a call with what it was lent, and what it left and answered (rule 12.6)
pub record Event : Type 0 where
  pub call : Call
  pub effect : Effect call
