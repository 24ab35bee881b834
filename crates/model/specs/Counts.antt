-- Section 15 of docs/RULES.md, rules 15.3 to 15.9: what the counters hold after every list of calls and zeroings. An answer is handed over before anything else is
-- done, so such a list has calls, each with the record that its answer went to, and zeroings. The counts are read off the history alone: from the answers, and
-- from the pages as the calls left them. The proof is `counted`, in proofs/Counts.antt.
use Rattle.std.specs.Prelude.{ℕ, suc, min, ◌≡◌, ◌⊎◌, Bool, true, false, cond, List, [], ◌∷◌, Result, Ok, Err, eqb}
use Rattle.std.proofs.Math.Option.{Option, none, some}
use Rattle.model.specs.Ring.{status_bits}
use Rattle.model.specs.Calls.{Call, Open, Close, Turn, Complete, CompleteAnswer, none_done, all_done, Effect, Event}
use Rattle.model.specs.Deeds.{Deed, opening, closing, breaking, starting, answering, finishing, port_of, deeds_of}
use Rattle.model.specs.Backend.{Backend, empty_backend, event_on, after_call}
use Rattle.model.specs.History.{Response, Book, said, post, book}
use Rattle.model.specs.Demand.{All, count, LendsBytes}
use Rattle.model.specs.Counters.{zero_counters, most, after_turned, after_completed}
use Rattle.model.specs.declared.Counters.{Counters}
use Rattle.model.specs.declared.Refusal.{Refusal}
use Rattle.model.specs.declared.Status.{Status}
use Rattle.model.specs.declared.Turned.{Turned}

-- ---- what was done

-- A call ended, and its answer went to the record of a port, or to none; or the record of a port was zeroed (rules 15.3 and 15.5).
pub data Act : Type 0 where
  ended : (event : Event) (to : Option ℕ) → Act
  zeroed : (port : ℕ) → Act

-- the history: the events, and no zeroing (rule 12.6)
unfoldable pub events_in : List Act → List Event
events_in [] = []
events_in (ended e to ∷ h) = e ∷ events_in h
events_in (zeroed j ∷ h) = events_in h

-- ---- the counts

-- the requests taken from a port, with one deed of it more (rule 15.7)
abbrev pub count_taken : Deed → ℕ → ℕ
count_taken (opening k p) n = n
count_taken (closing k) n = n
count_taken (breaking k) n = n
count_taken (starting k lent t s x) n = suc n
count_taken (answering k lent left z) n = suc n
count_taken (finishing k left t s z) n = n

-- its responses, the latest first, each as the page left shows it in the slot that the books before it say (rules 12.15 and 15.7)
abbrev pub count_given : Deed → Book → List Response → List Response
count_given (opening k p) b l = l
count_given (closing k) b l = l
count_given (breaking k) b l = l
count_given (starting k lent t s x) b l = l
count_given (answering k lent left z) b l = said k left z b ∷ l
count_given (finishing k left t s z) b l = said k left z b ∷ l

-- the same with deeds of any ports, of which those of port k count
abbrev pub taken_among : ℕ → List Deed → ℕ → ℕ
taken_among k [] n = n
taken_among k (d ∷ ds) n = taken_among k ds (cond (eqb k (port_of d)) (count_taken d n) n)

abbrev pub given_among : ℕ → List Deed → Book → List Response → List Response
given_among k [] b l = l
given_among k (d ∷ ds) b l = given_among k ds (post k d b) (cond (eqb k (port_of d)) (count_given d b l) l)

-- Port k's requests taken since its record was zeroed, and its responses since then. The latest act stands first.
unfoldable pub taken_since : ℕ → List Act → ℕ
taken_since k [] = 0
taken_since k (ended e to ∷ h) = taken_among k (deeds_of e) (taken_since k h)
taken_since k (zeroed j ∷ h) = cond (eqb k j) 0 (taken_since k h)

unfoldable pub given_since : ℕ → List Act → List Response
given_since k [] = []
given_since k (ended e to ∷ h) = given_among k (deeds_of e) (book k (events_in h)) (given_since k h)
given_since k (zeroed j ∷ h) = cond (eqb k j) [] (given_since k h)

-- its 16 bits in the page are those of the status (rules 2.12 and 15.7)
abbrev pub shows : Status → Response → Bool
shows s a = eqb a.status (status_bits s)

-- ---- the records

-- the port that an answer names (rule 15.3); a refusal and an idle turn name none, and open and close have no answer to hand over (rule 15.8)
abbrev pub turn_port : Result Turned Refusal → Option ℕ
turn_port (Err e) = none
turn_port (Ok Turned.Idle) = none
turn_port (Ok (Turned.Overrun p)) = some p.0
turn_port (Ok (Turned.Started p t s plan)) = some p.0
turn_port (Ok (Turned.Answered p f y)) = some p.0

abbrev pub done_port : CompleteAnswer → Option ℕ
done_port (none_done e) = none
done_port (all_done p zs y) = some p.0

abbrev pub answer_port : (c : Call) → Effect c → Option ℕ
answer_port (Open p sheet) e = none
answer_port (Close p) e = none
answer_port (Turn rings grants words) e = turn_port e.answer
answer_port (Complete rings p entries) e = done_port e.answer

-- a record with an answer handed over (rule 15.4)
abbrev pub handed : (c : Call) → Effect c → Counters → Counters
handed (Open p sheet) e c = c
handed (Close p) e c = c
handed (Turn rings grants words) e c = after_turned e.answer c
handed (Complete rings p entries) e c = after_completed e.answer c

-- whether it went to port k's
abbrev pub went : ℕ → Option ℕ → Bool
went k none = false
went k (some j) = eqb k j

-- The record of port k, which was c at first: raised by each answer that goes to it (rule 15.3), zeros at each zeroing (rule 15.5).
unfoldable pub counters_of : ℕ → Counters → List Act → Counters
counters_of k c [] = c
counters_of k c (ended e to ∷ h) = cond (went k to) (handed e.call e.effect (counters_of k c h)) (counters_of k c h)
counters_of k c (zeroed j ∷ h) = cond (eqb k j) zero_counters (counters_of k c h)

-- An answer that names a port goes to the record of port k exactly when k is that port (rule 15.6); one that names none may go there or not (rule 15.8).
abbrev pub WellHanded : ℕ → Event → Option ℕ → Type 0
WellHanded k e to = (p : ℕ) → answer_port e.call e.effect ≡ some p → went k to ≡ went k (some p)

-- So it was with all answers since the record of port k was zeroed, or from the beginning on, if it was zeros then (rules 15.6 and 15.9).
abbrev pub KeptWell : ℕ → Counters → List Act → Type 0
KeptWell k c [] = c ≡ zero_counters
KeptWell k c (ended e to ∷ h) = WellHanded k e to × KeptWell k c h
KeptWell k c (zeroed j ∷ h) = (eqb k j ≡ true) ⊎ KeptWell k c h

-- ---- the claim

-- a record says these counts, each as far as a number goes (rules 15.2 and 15.6)
pub record Counts (taken : ℕ) (given : List Response) (c : Counters) : Type 0 where
  pub taken_said : c.taken ≡ min most taken
  pub okay_said : c.okay ≡ min most (count (shows Status.Okay) given)
  pub error_said : c.error ≡ min most (count (shows Status.Error) given)
  pub unsupported_said : c.unsupported ≡ min most (count (shows Status.NotSupported) given)

-- those since it was zeroed
abbrev pub Counted : ℕ → List Act → Counters → Type 0
Counted k h c = Counts (taken_since k h) (given_since k h) c

-- what a host does: it makes a call and hands the answer to a record, or zeroes one
pub data Doing : Type 0 where
  calls : (call : Call) (to : Option ℕ) → Doing
  zeroes : (port : ℕ) → Doing

-- From backend b and the acts before: each call is made on the backend as the last one left it (rule 12.4).
unfoldable pub acts_from : Backend → List Act → List Doing → List Act
acts_from b h [] = h
acts_from b h (calls c to ∷ ds) = acts_from (after_call b c) (ended (event_on b c) to ∷ h) ds
acts_from b h (zeroes k ∷ ds) = acts_from b (zeroed k ∷ h) ds

-- the bytes lent are bytes (rule 12.32)
abbrev pub DoingBytes : Doing → Type 0
DoingBytes (calls c to) = LendsBytes c
DoingBytes (zeroes k) = Unit

-- for every list of calls and zeroings from the empty backend, whatever guests write into the rings between them, and for every port (rule 15.6)
abbrev pub CountersTheorem : Type 0
CountersTheorem =
    (doings : List Doing)
    → All DoingBytes doings
    → (k : ℕ) (c : Counters)
    → KeptWell k c (acts_from empty_backend [] doings)
    → Counted k (acts_from empty_backend [] doings) (counters_of k c (acts_from empty_backend [] doings))
