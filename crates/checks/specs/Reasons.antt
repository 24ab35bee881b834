-- What follows from the table of the checks: which reasons there are, and the status of each.
use Rattle.std.specs.Prelude.{◌≡◌, Bool, true, not, cond, ◌&&◌, List, ℕ, Result, Ok, Err, eqb, ltb, leb}
use Rattle.model.specs.Numbers.{reason_number, fault_of}
use Rattle.model.specs.Ring.{Request}
use Rattle.model.specs.Plan.{verdict_of}
use Rattle.model.specs.declared.Fault.{Fault}
use Rattle.model.specs.declared.Params.{Params}
use Rattle.model.specs.declared.Reason.{Reason}
use Rattle.model.specs.declared.Status.{Status}

-- 21 to 29 without 23, which is withdrawn (rules 8.13 and 8.23)
unfoldable pub is_reason : ℕ → Bool
is_reason n = leb 21 n && leb n 29 && not (eqb n 23)

-- not supported for the first two, error for all others (rule 8.13)
abbrev pub status_for : ℕ → Status
status_for n = cond (ltb n 24) Status.NotSupported Status.Error

-- an outcome that is told by its reason, with the status that goes with it (rule 8.13)
abbrev pub with_status : {A : Type 0} → Result A Reason → Result A Fault
with_status (Ok x) = Ok x
with_status (Err reason) = Err (fault_of reason)

-- of every request that is refused, whatever it asks for
abbrev pub OnlyReasons : Type 0
OnlyReasons = (p : Params) (grants : List ℕ) (r : Request) (f : Fault) → verdict_of p grants r ≡ Err f
    → (is_reason (reason_number f.reason) ≡ true) × (f.status ≡ status_for (reason_number f.reason))
