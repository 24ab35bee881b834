-- What the functions of the C interface promise, for all that C can hand in: the number returned, every byte and word left, and the memory after. All of it is
-- what the rules make due on what the memory says (rules 14.1 to 14.8, 14.11 and 14.13 to 14.15): the interface adds only numbers for answers, and places for their words.
use Rattle.std.specs.Prelude.{◌≡◌, List, [], ℕ, ℤ}
use Rattle.model.specs.Answers.{refusal, extents_in, turn_left, done_left, many_left}
use Rattle.model.specs.Backend.{view_of, after_call}
use Rattle.model.specs.Calls.{Call, Turn, Complete, CompleteAnswer, Effect}
use Rattle.model.specs.Complete.{the_one}
use Rattle.model.specs.Deeds.{deeds}
use Rattle.model.specs.Rules.{effect_due}
use Rattle.model.specs.Turn.{port_id, tag_id, serial_of}
use Rattle.memory.specs.Backend.{backend_of, Becomes}

-- the effect that the rules make due (rule 11.1)
abbrev pub due_on : List ℕ → (c : Call) → Effect c
due_on memory c = effect_due (view_of (backend_of memory)) c

-- Of every function, and all that there is to kh_open and kh_close: the number is 0, or that of the refusal (rule 14.5); the memory is the one due, word for word
-- (rule 14.11); and where nothing was done, by a refusal or an idle turn, no word of it changed (rules 14.6 and 14.13).
pub record Returned (memory : List ℕ) (c : Call) (n : ℕ) (left : List ℕ) : Type 0 where
  pub number : n ≡ refusal c (due_on memory c)
  pub becomes : Becomes memory (after_call (backend_of memory) c) left
  pub still : deeds c (due_on memory c) ≡ [] → left ≡ memory

-- ---- kh_turn

-- the turn that is lent such an answer (rules 5.33 and 14.7)
abbrev pub turn_call : List ℕ → List ℕ → List ℕ → Call
turn_call rings grants answer = Turn rings grants (extents_in answer)

-- the rings and the answer are those due (rules 14.6 and 14.7)
pub record TurnReturned (memory rings grants answer : List ℕ) (n : ℕ) (pages words left : List ℕ) : Type 0 where
  pub returned : Returned memory (turn_call rings grants answer) n left
  pub rings_due : pages ≡ (due_on memory (turn_call rings grants answer)).rings
  pub answer_due :
      words ≡ turn_left (due_on memory (turn_call rings grants answer)).answer answer (due_on memory (turn_call rings grants answer)).words

-- ---- kh_complete and kh_complete_many

-- the completion of a list (rule 6.16)
abbrev pub list_call : List ℕ → ℕ → List ℕ → Call
list_call rings port entries = Complete rings (port_id port) entries

-- and of the one request that these numbers name (rules 6.8 and 6.23)
abbrev pub complete_call : List ℕ → ℕ → ℕ → ℕ → ℤ → Call
complete_call rings port tag serial result = list_call rings port (the_one (tag_id tag) (serial_of serial) result)

-- the rings and the answer are those due, in the words that the function has for the answer (rule 14.6)
pub record ListReturned (filled : CompleteAnswer → List ℕ → List ℕ) (memory rings : List ℕ) (port : ℕ) (entries answer : List ℕ) (n : ℕ) (pages words left : List ℕ) : Type 0 where
  pub returned : Returned memory (list_call rings port entries) n left
  pub rings_due : pages ≡ (due_on memory (list_call rings port entries)).rings
  pub answer_due : words ≡ filled (due_on memory (list_call rings port entries)).answer answer

-- kh_complete's (rule 14.8)
abbrev pub CompleteReturned : List ℕ → List ℕ → ℕ → ℕ → ℕ → ℤ → List ℕ → ℕ → List ℕ → List ℕ → List ℕ → Type 0
CompleteReturned memory rings port tag serial result answer n pages words left =
    ListReturned done_left memory rings port (the_one (tag_id tag) (serial_of serial) result) answer n pages words left

-- kh_complete_many's (rule 14.15)
abbrev pub ManyReturned : List ℕ → List ℕ → ℕ → List ℕ → List ℕ → ℕ → List ℕ → List ℕ → List ℕ → Type 0
ManyReturned memory rings port entries answer n pages words left = ListReturned many_left memory rings port entries answer n pages words left
