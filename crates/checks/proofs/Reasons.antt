-- The reasons of the table of the checks, and the statuses that go with them. Assumes nothing.
use mathlib.Core.Path.{◌≡◌, refl, ap, sym, ◌∙◌}
use mathlib.Core.Bool.{Bool, true, false, cond}
use mathlib.Core.List.{List, [], ◌∷◌, ◌++◌}
use Prim.Native.Nat.{ℕ}
use native.Mathlib.Omega.{arith}
use Rattle.std.specs.Prelude.{Ok, Err}
use Rattle.model.specs.Numbers.{reason_number, reason_status}
use Rattle.model.specs.Ring.{Request}
use Rattle.model.specs.Checks.{moves_nothing, count_of, data_segments, Check, operation_checks, segment_checks, disk_checks, checks, Checked, fault, first_failed}
use Rattle.model.specs.Plan.{plan_of, decided, verdict_of}
use Rattle.model.specs.declared.Fault.{Fault}
use Rattle.model.specs.declared.Params.{Params}
use Rattle.model.specs.declared.Reason.{Reason}
use Rattle.checks.specs.Reasons.{is_reason, status_for, OnlyReasons}

-- checks whose statuses go with their reasons
data Listed : List Check → Type 0 where
  end : Listed []
  row : {c : Check} {cs : List Check} → c.status ≡ reason_status c.reason → Listed cs → Listed (c ∷ cs)

listed-append : {xs ys : List Check} → Listed xs → Listed ys → Listed (xs ++ ys)
listed-append end hs = hs
listed-append (row a gs) hs = row a (listed-append gs hs)

first-listed : (cs : List Check) → Listed cs → (f : Fault) → first_failed cs ≡ Err f → f.status ≡ reason_status f.reason
first-listed [] end f e = let y : ◌≡◌ {A = ℕ} 0 1 = cc in absurd (omega arith)
first-listed (c ∷ cs) (row a hs) f e = go c.fails (first-listed cs hs f) e
  where
    go : (b : Bool) → (first_failed cs ≡ Err f → f.status ≡ reason_status f.reason) → cond b (Err (fault c)) (first_failed cs) ≡ Err f
        → f.status ≡ reason_status f.reason
    go true later z =
        let same : fault c ≡ f = cc in
        sym (ap (λ (x : Fault). x.status) same) ∙ (a ∙ ap (λ (x : Fault). reason_status x.reason) same)
    go false later z = later z

module _ (p : Params) (grants : List ℕ) (r : Request) where
  operation-listed : Listed (operation_checks p r)
  unfolding operation_checks
  operation-listed = row refl (row refl (row refl (row refl end)))

  segment-listed : Listed (segment_checks grants r)
  unfolding segment_checks
  segment-listed = row refl (row refl end)

  disk-listed : (nothing : Bool) → Listed (cond nothing [] (disk_checks p r.start (count_of r) (data_segments r)))
  unfolding disk_checks
  disk-listed true = end
  disk-listed false = row refl (row refl end)

  all_listed : Listed (checks p grants r)
  unfolding checks
  all_listed = listed-append operation-listed (listed-append segment-listed (disk-listed (moves_nothing r)))

-- each reason has a number of the table, from which its status follows
known : (reason : Reason) → (is_reason (reason_number reason) ≡ true) × (reason_status reason ≡ status_for (reason_number reason))
unfolding is_reason
known Reason.UnknownOperation = (refl, refl)
known Reason.FeatureOff = (refl, refl)
known Reason.ReadOnly = (refl, refl)
known Reason.WrongAmount = (refl, refl)
known Reason.WrongSegment = (refl, refl)
known Reason.NotGranted = (refl, refl)
known Reason.PastEnd = (refl, refl)
known Reason.Unaligned = (refl, refl)

-- so the reason alone tells why a request is refused
refused-as : (p : Params) (grants : List ℕ) (r : Request) (f : Fault) → verdict_of p grants r ≡ Err f → f.status ≡ reason_status f.reason
unfolding verdict_of
refused-as p grants r f e = first-listed (checks p grants r) (all_listed p grants r) f (failed (first_failed (checks p grants r)) e)
  where
    failed : (k : Checked) → decided (plan_of p r) k ≡ Err f → k ≡ Err f
    failed (Ok passed) z = let y : ◌≡◌ {A = ℕ} 0 1 = cc in absurd (omega arith)
    failed (Err g) z = cc

pub only-reasons : OnlyReasons
only-reasons p grants r f e = ((known f.reason).0, refused-as p grants r f e ∙ (known f.reason).1)
