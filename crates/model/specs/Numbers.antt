-- The numbers of refusals and reasons (rules 7.1 to 7.15 and 8.21 to 8.29), as the host and the guest's half are told them.
use Rattle.std.specs.Prelude.{ℕ, [], ◌∷◌, Result, Ok, Err, eqb}
use Rattle.model.specs.Base.{◌⇒◌, first_of}
use Rattle.model.specs.Ring.{read, write, barrier, flush, discard}
use Rattle.model.specs.declared.Fault.{Fault}
use Rattle.model.specs.declared.NumberError.{NumberError}
use Rattle.model.specs.declared.Operation.{Operation}
use Rattle.model.specs.declared.Reason.{Reason}
use Rattle.model.specs.declared.Refusal.{Refusal}
use Rattle.model.specs.declared.Status.{Status}

-- why a call is refused, as its number (rules 7.1 to 7.7, 7.11 to 7.15, 16.3, 16.10 and 17.5 to 17.10)
abbrev pub refusal_number : Refusal → ℕ
refusal_number Refusal.WrongLength = 1
refusal_number Refusal.NoPort = 2
refusal_number Refusal.NotClosed = 3
refusal_number Refusal.IsClosed = 4
refusal_number Refusal.InFlight = 5
refusal_number Refusal.NotBusy = 6
refusal_number Refusal.TooMany = 7
refusal_number Refusal.TooFewFrames = 8
refusal_number Refusal.TooFewRuns = 9
refusal_number Refusal.NoPlan = 10
refusal_number Refusal.SheetShape = 11
refusal_number Refusal.SheetNodes = 12
refusal_number Refusal.SheetText = 13
refusal_number Refusal.SheetNumber = 14
refusal_number Refusal.SheetMissing = 15
refusal_number Refusal.RingFull = 31
refusal_number Refusal.IdOutstanding = 32
refusal_number Refusal.BadRequest = 33
refusal_number Refusal.BadRspProd = 34
refusal_number Refusal.NotOutstanding = 35

-- a body that is no number is 13, one that is too great 14 (rules 7.13 and 7.14)
abbrev pub number_refusal : NumberError → Refusal
number_refusal NumberError.TooBig = Refusal.SheetNumber
number_refusal NumberError.NotANumber = Refusal.SheetText

-- why a request is refused, as the number of the check that it fails; 23 is withdrawn (rules 8.21 to 8.29)
abbrev pub reason_number : Reason → ℕ
reason_number Reason.UnknownOperation = 21
reason_number Reason.FeatureOff = 22
reason_number Reason.ReadOnly = 24
reason_number Reason.WrongAmount = 25
reason_number Reason.WrongSegment = 26
reason_number Reason.NotGranted = 27
reason_number Reason.PastEnd = 28
reason_number Reason.Unaligned = 29

-- and the status that goes with it: not supported for the first two, error for all others (rule 8.13)
abbrev pub reason_status : Reason → Status
reason_status Reason.UnknownOperation = Status.NotSupported
reason_status Reason.FeatureOff = Status.NotSupported
reason_status Reason.ReadOnly = Status.Error
reason_status Reason.WrongAmount = Status.Error
reason_status Reason.WrongSegment = Status.Error
reason_status Reason.NotGranted = Status.Error
reason_status Reason.PastEnd = Status.Error
reason_status Reason.Unaligned = Status.Error

abbrev pub fault_of : Reason → Fault
fault_of reason = record { reason = reason; status = reason_status reason }

-- the operation of a number; any other is unknown (rules 2.14 and 8.21)
abbrev pub operation_of : ℕ → Result Operation Reason
operation_of number =
    first_of
    (eqb number read ⇒ Ok Operation.Read
    ∷ eqb number write ⇒ Ok Operation.Write
    ∷ eqb number barrier ⇒ Ok Operation.Barrier
    ∷ eqb number flush ⇒ Ok Operation.Flush
    ∷ eqb number discard ⇒ Ok Operation.Discard
    ∷ [])
    (Err Reason.UnknownOperation)
