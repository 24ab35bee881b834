-- Runs of the four calls, and what holds of every one. (`turn` and, for a list of completions, `complete_many`, in crates of their own, promise this and where in their answers the words stand.) A run is made of
-- calls, one after another on one memory that nobody else writes, with what each left and answered. Guests may write any ring byte between two calls: each call
-- carries the bytes that it is lent.
use Rattle.std.specs.Prelude.{◌≡◌, List, [], ◌∷◌, map, ℕ}
use Rattle.model.specs.Backend.{empty_backend}
use Rattle.model.specs.Calls.{Call, Event}
use Rattle.model.specs.Demand.{All, LendsBytes, Demand3}
use Rattle.model.specs.History.{backend_after}
use Rattle.memory.specs.Backend.{memory_of, Clean}
use Rattle.memory.specs.Promise.{Promised}
use Rattle.memory.specs.Words.{zeros}

-- a call with its effect, and the memory that it left
pub record CodeStep : Type 0 where
  pub event : Event
  pub memory : List ℕ

abbrev pub call_in : CodeStep → Call
call_in s = s.event.call

-- from a memory: each call gets it as the last one left it, and each function keeps its promise
abbrev pub CodeRun : List ℕ → List CodeStep → Type 0
CodeRun m [] = Unit
CodeRun m (s ∷ run) = Promised m (call_in s) s.event.effect s.memory × CodeRun s.memory run

-- the events of a run, after those before them, the latest first
abbrev pub code_history : List Event → List CodeStep → List Event
code_history h [] = h
code_history h (s ∷ run) = code_history (s.event ∷ h) run

-- the memory after a run
abbrev pub code_memory : List ℕ → List CodeStep → List ℕ
code_memory m [] = m
code_memory m (s ∷ run) = code_memory s.memory run

-- What holds of a run from all-zero memory: demand 3 of its history; every word of its memory is the one that the backend after these calls is written as; and
-- closed ports and free tags keep only zeros.
pub record CodeHolds (run : List CodeStep) : Type 0 where
  pub demand3 : Demand3 (code_history [] run)
  pub memory : code_memory zeros run ≡ memory_of (backend_after empty_backend (map call_in run))
  pub clean : Clean (code_memory zeros run)

-- a run from a memory in which these calls are made
pub record CodeRunOf (m : List ℕ) (calls : List Call) : Type 0 where
  pub steps : List CodeStep
  pub run : CodeRun m steps
  pub made : map call_in steps ≡ calls

-- It holds of every run, and every list of calls has one. The proof is `code-theorem`, in proofs/Runs.antt.
pub record CodeTheorem : Type 0 where
  pub holds : (run : List CodeStep) → CodeRun zeros run → All (λ s. LendsBytes (call_in s)) run → CodeHolds run
  pub every : (calls : List Call) → All LendsBytes calls → CodeRunOf zeros calls
