-- THE STATEMENT: what holds of the C functions as they ran. A run is a list of steps, one after another on one memory that nobody else writes. A step is a call as
-- it was made, with its arguments and every buffer lent, and as it ended: the number returned, and the rings, the answer's words and the memory as they were
-- left. Guests may write any ring byte between two calls, since each call carries the bytes that it is lent. The history is read off the steps alone.
use Rattle.std.specs.Prelude.{◌≡◌, List, [], ◌∷◌, map, ℕ, ℤ}
use Rattle.model.specs.Answers.{reply_number, turned_number, completed_number, extents_in, turn_left, done_left, many_left}
use Rattle.model.specs.Backend.{Backend, empty_backend, view_of, next}
use Rattle.model.specs.Calls.{Call, Open, Close, Effect, Event}
use Rattle.model.specs.Demand.{All, LendsBytes, Demand3}
use Rattle.model.specs.History.{view_at}
use Rattle.model.specs.Rules.{effect_due}
use Rattle.model.specs.Turn.{port_id}
use Rattle.memory.specs.Backend.{backend_of, memory_of, Clean}
use Rattle.memory.specs.Words.{zeros}
use Rattle.kernelharp.specs.Decode.{reply_of, turned_of, completed_of, many_of}
use Rattle.kernelharp.specs.Promise.{Returned, turn_call, TurnReturned, list_call, complete_call, CompleteReturned, ManyReturned}

-- ---- steps

-- a call of a C function as it was made: any of the five, with any arguments and whatever it is lent (rules 1.5, 6.23 and 12.2)
pub data Made : Type 0 where
  kh_open : (port : ℕ) (sheet : List ℕ) → Made
  kh_close : (port : ℕ) → Made
  kh_turn : (rings grants answer : List ℕ) → Made
  kh_complete : (rings : List ℕ) (port tag serial : ℕ) (result : ℤ) (answer : List ℕ) → Made
  kh_complete_many : (rings : List ℕ) (port : ℕ) (entries answer : List ℕ) → Made

-- what kh_open and kh_close leave (rules 1.5 and 14.5)
pub record Left : Type 0 where
  pub number : ℕ
  pub memory : List ℕ

-- what kh_turn and the two of a completion leave (rules 1.5, 14.5, 14.7, 14.8 and 14.15)
pub record LeftAll : Type 0 where
  pub number : ℕ
  pub rings : List ℕ
  pub answer : List ℕ
  pub memory : List ℕ

-- what each of them leaves
abbrev pub Outcome : Made → Type 0
Outcome (kh_open p sheet) = Left
Outcome (kh_close p) = Left
Outcome (kh_turn rings grants answer) = LeftAll
Outcome (kh_complete rings p t s x answer) = LeftAll
Outcome (kh_complete_many rings p entries answer) = LeftAll

-- a call with what it left (rule 12.6)
pub record Step : Type 0 where
  pub made : Made
  pub left : Outcome made

-- the memory that it left, which the next call finds (rule 12.4)
abbrev pub memory_left : (c : Made) → Outcome c → List ℕ
memory_left (kh_open p sheet) o = o.memory
memory_left (kh_close p) o = o.memory
memory_left (kh_turn rings grants answer) o = o.memory
memory_left (kh_complete rings p t s x answer) o = o.memory
memory_left (kh_complete_many rings p entries answer) o = o.memory

-- and that a run of steps left
abbrev pub memory_after : List ℕ → List Step → List ℕ
memory_after m [] = m
memory_after m (s ∷ run) = memory_after (memory_left s.made s.left) run

-- ---- the history that was observed

-- the call, in the words of the rules (rule 12.6)
abbrev pub call_of : Made → Call
call_of (kh_open p sheet) = Open (port_id p) sheet
call_of (kh_close p) = Close (port_id p)
call_of (kh_turn rings grants answer) = turn_call rings grants answer
call_of (kh_complete rings p t s x answer) = complete_call rings p t s x
call_of (kh_complete_many rings p entries answer) = list_call rings p entries

-- what it left and answered, decoded from its number, its rings and its answer's words (rule 12.6)
abbrev pub effect_of : (c : Made) → Outcome c → Effect (call_of c)
effect_of (kh_open p sheet) o = reply_of o.number
effect_of (kh_close p) o = reply_of o.number
effect_of (kh_turn rings grants answer) o =
    record { rings = o.rings; words = extents_in o.answer; answer = turned_of o.number o.answer }
effect_of (kh_complete rings p t s x answer) o = record { rings = o.rings; answer = completed_of o.number o.answer }
effect_of (kh_complete_many rings p entries answer) o = record { rings = o.rings; answer = many_of o.number o.answer }

-- a step as an event: no field of the backend is read (rule 12.6)
abbrev pub event_of : Step → Event
event_of s = record { call = call_of s.made; effect = effect_of s.made s.left }

-- the events of a run, after those before them, the latest first
abbrev pub events_after : List Event → List Step → List Event
events_after h [] = h
events_after h (s ∷ run) = events_after (event_of s ∷ h) run

-- the history of a run (rule 12.6)
abbrev pub history_of : List Step → List Event
history_of run = events_after [] run

-- ---- runs

-- what the function that was called promises of its outcome, on the memory that it was lent: the function's `ensures`, word for word (rule 11.1)
abbrev pub Promise : List ℕ → (c : Made) → Outcome c → Type 0
Promise m (kh_open p sheet) o = Returned m (Open (port_id p) sheet) o.number o.memory
Promise m (kh_close p) o = Returned m (Close (port_id p)) o.number o.memory
Promise m (kh_turn rings grants answer) o = TurnReturned m rings grants answer o.number o.rings o.answer o.memory
Promise m (kh_complete rings p t s x answer) o = CompleteReturned m rings p t s x answer o.number o.rings o.answer o.memory
Promise m (kh_complete_many rings p entries answer) o = ManyReturned m rings p entries answer o.number o.rings o.answer o.memory

-- from a memory: each call gets it as the last one left it (rule 12.4), and each function keeps its promise
abbrev pub Run : List ℕ → List Step → Type 0
Run m [] = Unit
Run m (s ∷ run) = Promise m s.made s.left × Run (memory_left s.made s.left) run

-- the bytes lent are bytes (rule 12.32)
abbrev pub BytesLent : Made → Type 0
BytesLent c = LendsBytes (call_of c)

-- ---- what holds

-- an effect and a memory, as a function leaves them: the number, the rings, every word of the answer and of the memory (rules 14.5 to 14.8 and 14.15)
abbrev pub outcome_of : (c : Made) → Effect (call_of c) → List ℕ → Outcome c
outcome_of (kh_open p sheet) e m = record { number = reply_number e; memory = m }
outcome_of (kh_close p) e m = record { number = reply_number e; memory = m }
outcome_of (kh_turn rings grants answer) e m =
    record { number = turned_number e.answer; rings = e.rings; answer = turn_left e.answer answer e.words; memory = m }
outcome_of (kh_complete rings p t s x answer) e m =
    record { number = completed_number e.answer; rings = e.rings; answer = done_left e.answer answer; memory = m }
outcome_of (kh_complete_many rings p entries answer) e m =
    record { number = completed_number e.answer; rings = e.rings; answer = many_left e.answer answer; memory = m }

-- Each step, after the events h and with b the backend that they made, left exactly what the rules give on that history, and the memory that its own event makes
-- of that backend (rules 12.31 and 14.12).
abbrev pub WordForWord : List Event → Backend → List Step → Type 0
WordForWord h b [] = Unit
WordForWord h b (s ∷ run) =
    (s.left ≡ outcome_of s.made (effect_due (view_at h) (call_of s.made)) (memory_of (next b (event_of s))))
    × WordForWord (event_of s ∷ h) (next b (event_of s)) run

-- Of a run from all-zero memory, whole (rule 12.1): demand 3 of its history; every number, ring byte, answer word and memory word (rule 14.12); that the memory
-- left says of each port what the history says (rule 12.27); and that closed ports and free tags keep only zeros (rule 14.12).
pub record Holds (run : List Step) : Type 0 where
  pub demand3 : Demand3 (history_of run)
  pub word_for_word : WordForWord [] empty_backend run
  pub shown : view_of (backend_of (memory_after zeros run)) ≡ view_at (history_of run)
  pub clean : Clean (memory_after zeros run)

-- a run from a memory in which these calls are made (rule 12.2)
pub record RunOf (m : List ℕ) (calls : List Made) : Type 0 where
  pub steps : List Step
  pub run : Run m steps
  pub made : map (λ (s : Step). s.made) steps ≡ calls

-- It holds of every run from all-zero memory, which is the empty backend's word for word (rules 12.1, 12.3 and 14.2), and every list of calls has one (rule 12.2).
-- This is the claim entire (rule 12.5). The proof is `interface-theorem`, in proofs/Runs.antt.
pub record Theorem : Type 0 where
  pub begins : zeros ≡ memory_of empty_backend
  pub holds : (run : List Step) → Run zeros run → All (λ s. BytesLent s.made) run → Holds run
  pub every : (calls : List Made) → All BytesLent calls → RunOf zeros calls
