-- THE STATEMENT for the meters: what a host's records hold, of the C functions as they ran. What a host did is a list: calls on one memory, each with the meter
-- function that was handed its answer right after it, if one was, and zeroings of records. The counts are those of the history that was observed (rule 15.6).
use Rattle.std.specs.Prelude.{◌≡◌, cond, List, [], ◌∷◌, map, ℕ, eqb}
use Rattle.std.proofs.Math.Option.{none, some}
use Rattle.model.specs.Counters.{zero_counters, turn_metered, done_metered, many_metered}
use Rattle.model.specs.Counts.{Act, ended, zeroed, WellHanded, KeptWell, Counted}
use Rattle.model.specs.Demand.{All}
use Rattle.model.specs.declared.Counters.{Counters}
use Rattle.memory.specs.Words.{zeros}
use Rattle.kernelharp.specs.Run.{Made, kh_open, kh_close, kh_turn, kh_complete, kh_complete_many, Outcome, Step, memory_left, event_of, Promise, BytesLent}

-- ---- what a host did

-- A call whose answer was handed to no record; one whose answer was handed to a record, with what the meter function left there; and a record zeroed by a store of
-- the host's own (rules 15.3 and 15.5). The record of port k has the number k.
pub data HostStep : Type 0 where
  unmetered : (step : Step) → HostStep
  metered : (step : Step) (port : ℕ) (left : Counters) → HostStep
  zeroing : (port : ℕ) → HostStep

-- the records, by their numbers
abbrev pub Records : Type 0
Records = ℕ → Counters

-- with one of them stored
abbrev pub stored : ℕ → Counters → Records → Records
stored k c records j = cond (eqb j k) c (records j)

-- what kh_meter_turn, kh_meter_completion and kh_meter_many promise of the record that they were lent, by the number returned and the words left: their `ensures`
-- (rules 15.10 to 15.12). Of kh_open and kh_close there is no answer to hand over.
abbrev pub MeterPromise : (c : Made) → Outcome c → (lent left : Counters) → Type 0
MeterPromise (kh_open p sheet) o lent left = ⊥
MeterPromise (kh_close p) o lent left = ⊥
MeterPromise (kh_turn rings grants answer) o lent left = left ≡ turn_metered o.number o.answer lent
MeterPromise (kh_complete rings p t s x answer) o lent left = left ≡ done_metered o.number o.answer lent
MeterPromise (kh_complete_many rings p entries answer) o lent left = left ≡ many_metered o.number o.answer lent

-- From a memory and records: each call gets the memory as the last one left it, each meter function the record as it stands, and each function keeps its promise.
abbrev pub MeteredRun : List ℕ → Records → List HostStep → Type 0
MeteredRun m r [] = Unit
MeteredRun m r (unmetered s ∷ host) = Promise m s.made s.left × MeteredRun (memory_left s.made s.left) r host
MeteredRun m r (metered s k left ∷ host) =
    Promise m s.made s.left × MeterPromise s.made s.left (r k) left × MeteredRun (memory_left s.made s.left) (stored k left r) host
MeteredRun m r (zeroing k ∷ host) = MeteredRun m (stored k zero_counters r) host

-- the records that it left
abbrev pub records_after : Records → List HostStep → Records
records_after r [] = r
records_after r (unmetered s ∷ host) = records_after r host
records_after r (metered s k left ∷ host) = records_after (stored k left r) host
records_after r (zeroing k ∷ host) = records_after (stored k zero_counters r) host

-- ---- the history that was observed, with the zeroings

-- a step with the record that its answer went to: no record's content is read
abbrev pub act_of : HostStep → Act
act_of (unmetered s) = ended (event_of s) none
act_of (metered s k left) = ended (event_of s) (some k)
act_of (zeroing k) = zeroed k

-- the acts, after those before them, the latest first
abbrev pub acts_after : List Act → List HostStep → List Act
acts_after h [] = h
acts_after h (s ∷ host) = acts_after (act_of s ∷ h) host

-- ---- what holds

-- what a host wants done: a call, or a record zeroed
pub data Wish : Type 0 where
  makes : (made : Made) → Wish
  zeroes : (port : ℕ) → Wish

abbrev pub wish_of : HostStep → Wish
wish_of (unmetered s) = makes s.made
wish_of (metered s k left) = makes s.made
wish_of (zeroing k) = zeroes k

-- the bytes that it lends are bytes (rule 12.32)
abbrev pub WishBytes : Wish → Type 0
WishBytes (makes c) = BytesLent c
WishBytes (zeroes k) = Unit

-- an answer that names a port went to the record of that port, and to no other (rules 15.6 and 15.8)
abbrev pub HandedOver : HostStep → Type 0
HandedOver (unmetered s) = (k : ℕ) → WellHanded k (event_of s) none
HandedOver (metered s j left) = (k : ℕ) → WellHanded k (event_of s) (some j)
HandedOver (zeroing j) = Unit

-- a metered run in which just these are done, with each answer handed over
pub record MeteredRunOf (m : List ℕ) (r : Records) (wishes : List Wish) : Type 0 where
  pub host : List HostStep
  pub run : MeteredRun m r host
  pub handed_over : All HandedOver host
  pub done : map wish_of host ≡ wishes

-- Of every metered run from all-zero memory, and of each record that was kept well since it was zeroed: it says the counts of the history since then (rules 15.6, 15.7 and
-- 15.9). And every list of calls and zeroings has such a run, with each answer handed over, whatever the records were. The proof is `meters-theorem`, in
-- proofs/Meters.antt.
pub record MetersTheorem : Type 0 where
  pub holds : (r : Records) (host : List HostStep) → MeteredRun zeros r host → All (λ s. WishBytes (wish_of s)) host
      → (k : ℕ) → KeptWell k (r k) (acts_after [] host) → Counted k (acts_after [] host) (records_after r host k)
  pub every : (r : Records) (wishes : List Wish) → All WishBytes wishes → MeteredRunOf zeros r wishes
