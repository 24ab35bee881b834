-- A plan's expected result fits 32 bits. Assumes nothing.
use borrow.Author.Tests.{ne_eqb, not-false}
use mathlib.Core.Path.{◌≡◌}
use mathlib.Core.Bool.{Bool, true, false, cond}
use mathlib.Core.List.{List}
use Prim.Native.Nat.{ℕ, ◌^◌, ◌<◌, ◌≤◌}
use native.Mathlib.Decide.{ℕ_discrete}
use native.Mathlib.Omega.{arith}
use lib.ListN.{length}
use Rattle.std.specs.Prelude.{Ok}
use Rattle.model.specs.Ring.{Layout, request_of}
use Rattle.model.specs.Checks.{moves_nothing, total_sectors, count_of, unknown_operation, wrong_amount, wrong_segment, operation_checks, segment_checks, checks}
use Rattle.model.specs.Complete.{expected_of}
use Rattle.model.specs.Plan.{plan_of, verdict_of}
use Rattle.model.specs.declared.Params.{Params}
use Rattle.model.specs.declared.Plan.{Plan}
use Rattle.segments.proofs.Slot.{length-segments, within-total}
use Rattle.checks.proofs.Steps.{none-fails, all-passed}
use Rattle.verdicts.proofs.Verdict.{few-segments}

module _ (q : Params) (l : Layout) (grants slot : List ℕ) (plan : Plan) (e : verdict_of q grants (request_of l slot) ≡ Ok plan) where
  pub known : unknown_operation (request_of l slot) ≡ false
  unfolding checks operation_checks
  known = none-fails (checks q grants (request_of l slot)) 0 (all-passed q grants (request_of l slot) plan e).0

  pub amount : wrong_amount (request_of l slot) ≡ false
  unfolding checks operation_checks
  amount = none-fails (checks q grants (request_of l slot)) 3 (all-passed q grants (request_of l slot) plan e).0

  within : wrong_segment (request_of l slot) ≡ false
  unfolding checks operation_checks segment_checks
  within = none-fails (checks q grants (request_of l slot)) 4 (all-passed q grants (request_of l slot) plan e).0

  segment-count : length (request_of l slot).segments ≡ (request_of l slot).n
  unfolding request_of
  segment-count = length-segments _ l slot 0

  few-sectors : ((request_of l slot).pair.operation ≡ 5 → ⊥) → total_sectors (request_of l slot).segments ≤ 88
  unfolding wrong_segment
  few-sectors d =
      let w = within-total (request_of l slot).segments (not-false _ (rw (ne_eqb (request_of l slot).pair.operation 5 d) at within)) in
      omega (arith, w, segment-count, few-segments (request_of l slot) known amount d)

  few-counted : ((request_of l slot).pair.operation ≡ 5 → ⊥) → count_of (request_of l slot) ≤ 88
  unfolding count_of
  few-counted d = rw (ne_eqb (request_of l slot).pair.operation 5 d) (at_most (moves_nothing (request_of l slot)))
    where
      at_most : (b : Bool) → cond b 0 (total_sectors (request_of l slot).segments) ≤ 88
      at_most true = omega arith
      at_most false = few-sectors d

  small : expected_of (plan_of q (request_of l slot)) < 2 ^ 32
  unfolding expected_of plan_of
  small =
      elim (ℕ_discrete (request_of l slot).pair.operation 5) [
        | yes z ↦ rw z (omega arith)
        | no d ↦
            elim (ℕ_discrete (request_of l slot).pair.operation 3) [
              | yes z ↦ rw z (omega arith)
              | no f ↦ rw (ne_eqb (request_of l slot).pair.operation 3 f, ne_eqb (request_of l slot).pair.operation 5 d) (omega (arith, few-counted d))
            ]
      ]

  pub expected-fits : expected_of plan < 2 ^ 32
  expected-fits = rw (all-passed q grants (request_of l slot) plan e).1 at small
