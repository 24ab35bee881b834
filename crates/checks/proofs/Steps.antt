-- The table of the checks taken apart: step after step, and what it says of each check that all pass. Assumes nothing.
use mathlib.Core.Path.{◌≡◌, refl}
use mathlib.Core.Bool.{Bool, true, false, cond}
use mathlib.Core.List.{List, [], ◌∷◌, ◌++◌}
use Prim.Native.Nat.{ℕ, zero, suc}
use native.Mathlib.Omega.{arith}
use lib.ListN.{get_or}
use Rattle.model.specs.Ring.{Request}
use Rattle.std.specs.Prelude.{Ok, Err}
use Rattle.model.specs.Checks.{moves_nothing, count_of, data_segments, Check, check, operation_checks, segment_checks, disk_checks, checks, Checked, fault, first_failed}
use Rattle.model.specs.Plan.{plan_of, decided, verdict_of}
use Rattle.model.specs.declared.Params.{Params}
use Rattle.model.specs.declared.Plan.{Plan}
use Rattle.model.specs.declared.Reason.{Reason}
use Rattle.model.specs.declared.Status.{Status}

-- ---- where all pass, none fails

abbrev passing : Check
passing = check Reason.UnknownOperation Status.Okay false

pub none-fails : (cs : List Check) (k : ℕ) → first_failed cs ≡ Ok tt → (get_or cs k passing).fails ≡ false
none-fails [] k e = refl
none-fails (c ∷ cs) zero e = here c.fails e
  where
    here : (b : Bool) → cond b (Err (fault c)) (first_failed cs) ≡ Ok tt → b ≡ false
    here true z = cc
    here false z = refl
none-fails (c ∷ cs) (suc k) e = none-fails cs k (later c.fails e)
  where
    later : (b : Bool) → cond b (Err (fault c)) (first_failed cs) ≡ Ok tt → first_failed cs ≡ Ok tt
    later true z = cc
    later false z = z

-- a start passed every check, and its plan is the request's
pub all-passed : (p : Params) (grants : List ℕ) (r : Request) (plan : Plan) → verdict_of p grants r ≡ Ok plan
    → (first_failed (checks p grants r) ≡ Ok tt) × (plan_of p r ≡ plan)
unfolding verdict_of
all-passed p grants r plan e = go (first_failed (checks p grants r)) refl e
  where
    go : (k : Checked) → first_failed (checks p grants r) ≡ k → decided (plan_of p r) k ≡ Ok plan
        → (first_failed (checks p grants r) ≡ Ok tt) × (plan_of p r ≡ plan)
    go (Ok passed) h z = (h, cc)
    go (Err f) h z = let y : ◌≡◌ {A = ℕ} 0 1 = cc in absurd (omega arith)

-- ---- one step after another

abbrev pub and_then : Checked → Checked → Checked
and_then (Ok passed) k = k
and_then (Err f) k = Err f

first-append : (xs ys : List Check) → first_failed (xs ++ ys) ≡ and_then (first_failed xs) (first_failed ys)
first-append [] ys = refl
first-append (c ∷ cs) ys = rw (first-append cs ys) (spread c.fails)
  where
    spread : (b : Bool) → cond b (Err (fault c)) (and_then (first_failed cs) (first_failed ys))
        ≡ and_then (cond b (Err (fault c)) (first_failed cs)) (first_failed ys)
    spread true = refl
    spread false = refl

module _ (p : Params) (grants : List ℕ) (r : Request) where
  abbrev steps : Checked
  steps = and_then (first_failed (operation_checks p r)) (and_then (first_failed (segment_checks grants r)) (first_failed (cond (moves_nothing r) [] (disk_checks p r.start (count_of r) (data_segments r)))))

  pub checked-steps : first_failed (checks p grants r) ≡ steps
  unfolding checks
  checked-steps = rw (first-append (operation_checks p r), first-append (segment_checks grants r))

  pub by-steps : verdict_of p grants r ≡ decided (plan_of p r) steps
  unfolding verdict_of
  by-steps = rw checked-steps
