-- What is left of a discard's flag: no check looks at it, and where discard-secure is 0 nothing does (rule 8.14).
use Rattle.std.specs.Prelude.{◌≡◌, true, false, List, ℕ}
use Rattle.model.specs.Ring.{Request, discard}
use Rattle.model.specs.Checks.{is_a, checks, first_failed}
use Rattle.model.specs.Plan.{verdict_of}
use Rattle.model.specs.declared.Params.{Params}

-- two discards of the same sectors
pub record Alike (r s : Request) : Type 0 where
  pub one : is_a discard r ≡ true
  pub other : is_a discard s ≡ true
  pub start : r.start ≡ s.start
  pub sectors : r.sectors ≡ s.sectors

-- both fail the same check, or none
abbrev pub FlagUnchecked : Type 0
FlagUnchecked = (p : Params) (grants : List ℕ) (r s : Request) → Alike r s
    → first_failed (checks p grants r) ≡ first_failed (checks p grants s)

-- and where discard-secure is 0, they have the same plan too
abbrev pub FlagIgnored : Type 0
FlagIgnored = (p : Params) (grants : List ℕ) (r s : Request) → Alike r s → p.secure ≡ false
    → verdict_of p grants r ≡ verdict_of p grants s
