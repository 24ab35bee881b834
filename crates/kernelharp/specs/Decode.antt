-- What the C interface's numbers and words say, read back: the answer of each call, from the number returned and the words of its answer alone. Total: every
-- number and every list of words is some answer. The numbers and words are those of rules 14.5 to 14.8 and 14.15; which answer is due, no line here says.
-- A number that no call of a backend returns is read as an answer that is never due of one, so that whoever returns it keeps no promise.
use Rattle.std.specs.Prelude.{Bool, not, List, [], ◌∷◌, map, ℕ, zero, suc, eqb, get_or, take, drop, Result, Ok, Err}
use Rattle.model.specs.Base.{◌⇒◌, first_of}
use Rattle.model.specs.Calls.{Reply, CompleteAnswer, none_done, all_done}
use Rattle.model.specs.Turn.{port_id, tag_id, serial_of}
use Rattle.model.specs.declared.Fault.{Fault}
use Rattle.model.specs.declared.Reason.{Reason}
use Rattle.model.specs.declared.Refusal.{Refusal}
use Rattle.model.specs.declared.Status.{Status}
use Rattle.model.specs.declared.Turned.{Turned}

-- a refusal by its number (rules 7.1 to 7.7, 7.11 to 7.15, 16.3, 16.10 and 17.5 to 17.10)
abbrev pub refusal_of : ℕ → Refusal
refusal_of n =
    first_of
    (eqb n 1 ⇒ Refusal.WrongLength
    ∷ eqb n 2 ⇒ Refusal.NoPort
    ∷ eqb n 3 ⇒ Refusal.NotClosed
    ∷ eqb n 4 ⇒ Refusal.IsClosed
    ∷ eqb n 5 ⇒ Refusal.InFlight
    ∷ eqb n 6 ⇒ Refusal.NotBusy
    ∷ eqb n 7 ⇒ Refusal.TooMany
    ∷ eqb n 8 ⇒ Refusal.TooFewFrames
    ∷ eqb n 9 ⇒ Refusal.TooFewRuns
    ∷ eqb n 10 ⇒ Refusal.NoPlan
    ∷ eqb n 11 ⇒ Refusal.SheetShape
    ∷ eqb n 12 ⇒ Refusal.SheetNodes
    ∷ eqb n 13 ⇒ Refusal.SheetText
    ∷ eqb n 14 ⇒ Refusal.SheetNumber
    ∷ eqb n 15 ⇒ Refusal.SheetMissing
    ∷ eqb n 31 ⇒ Refusal.RingFull
    ∷ eqb n 32 ⇒ Refusal.IdOutstanding
    ∷ eqb n 33 ⇒ Refusal.BadRequest
    ∷ eqb n 34 ⇒ Refusal.BadRspProd
    ∷ [])
    Refusal.NotOutstanding

-- 0 is done, any other number a refusal (rule 14.5)
abbrev pub reply_of : ℕ → Reply
reply_of zero = Ok tt
reply_of (suc n) = Err (refusal_of (suc n))

-- a status by its magnitude (rules 14.7, 14.8 and 14.15)
abbrev pub status_said : ℕ → Status
status_said zero = Status.Okay
status_said (suc zero) = Status.Error
status_said (suc (suc n)) = Status.NotSupported

-- a yes or no: 0 is no (rules 14.7, 14.8 and 14.15)
abbrev pub says_yes : ℕ → Bool
says_yes x = not (eqb x 0)

-- word i of an answer (rules 14.7, 14.8 and 14.15)
abbrev pub word_in : List ℕ → ℕ → ℕ
word_in words i = get_or words i 0

-- why a request was answered at once, by the words of its reason and status (rules 8.21 to 8.29 and 14.7); a number that is no reason's is read with status
-- okay, which no request that fails a check is answered with
abbrev pub fault_said : ℕ → ℕ → Fault
fault_said reason status =
    let said = status_said status in
    first_of
    (eqb reason 21 ⇒ record { reason = Reason.UnknownOperation; status = said }
    ∷ eqb reason 22 ⇒ record { reason = Reason.FeatureOff; status = said }
    ∷ eqb reason 24 ⇒ record { reason = Reason.ReadOnly; status = said }
    ∷ eqb reason 25 ⇒ record { reason = Reason.WrongAmount; status = said }
    ∷ eqb reason 26 ⇒ record { reason = Reason.WrongSegment; status = said }
    ∷ eqb reason 27 ⇒ record { reason = Reason.NotGranted; status = said }
    ∷ eqb reason 28 ⇒ record { reason = Reason.PastEnd; status = said }
    ∷ eqb reason 29 ⇒ record { reason = Reason.Unaligned; status = said }
    ∷ [])
    (record { reason = Reason.UnknownOperation; status = Status.Okay })

-- kh_turn's words, by the first of them (rule 14.7)
abbrev pub turned_kind : ℕ → List ℕ → Turned
turned_kind zero words = Turned.Idle
turned_kind (suc zero) words =
    Turned.Started (port_id (word_in words 1)) (tag_id (word_in words 2)) (serial_of (word_in words 3)) (record {
      operation = word_in words 4;
      start = word_in words 5;
      count = word_in words 6;
      secure = says_yes (word_in words 7);
      extents = word_in words 8;
    })
turned_kind (suc (suc zero)) words = Turned.Answered (port_id (word_in words 1)) (fault_said (word_in words 9) (word_in words 10)) (says_yes (word_in words 11))
turned_kind (suc (suc (suc n))) words = Turned.Overrun (port_id (word_in words 1))

-- kh_turn's number and words (rules 14.5 and 14.7)
abbrev pub turned_of : ℕ → List ℕ → Result Turned Refusal
turned_of zero words = Ok (turned_kind (word_in words 0) words)
turned_of (suc n) words = Err (refusal_of (suc n))

-- kh_complete's: the list has one status (rules 14.5 and 14.8)
abbrev pub completed_of : ℕ → List ℕ → CompleteAnswer
completed_of zero words = all_done (port_id (word_in words 0)) (status_said (word_in words 1) ∷ []) (says_yes (word_in words 2))
completed_of (suc n) words = none_done (refusal_of (suc n))

-- kh_complete_many's: as many as word 1 says, from word 4 on (rules 14.5 and 14.15)
abbrev pub many_of : ℕ → List ℕ → CompleteAnswer
many_of zero words = all_done (port_id (word_in words 0)) (map status_said (take (word_in words 1) (drop 4 words))) (says_yes (word_in words 2))
many_of (suc n) words = none_done (refusal_of (suc n))
