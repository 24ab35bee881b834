-- No check looks at a discard's flag, and where discard-secure is 0 nothing does. Assumes nothing.
use borrow.Author.Tests.{eqb-true}
use mathlib.Core.Path.{◌≡◌, refl, sym, ◌∙◌}
use mathlib.Core.Bool.{false}
use mathlib.Core.List.{List}
use Prim.Native.Nat.{ℕ, ◌%◌}
use lib.Dec.{eqb}
use Rattle.model.specs.Ring.{Request}
use Rattle.std.specs.Prelude.{Ok, Err}
use Rattle.model.specs.Checks.{unknown_operation, feature_off, read_only, wrong_amount, operation_checks, Checked, checks, first_failed}
use Rattle.model.specs.Plan.{plan_of, decided, verdict_of}
use Rattle.model.specs.declared.Params.{Params}
use Rattle.model.proofs.Base.{and-false}
use Rattle.request.specs.FlagIgnored.{Alike, FlagUnchecked, FlagIgnored}
use Rattle.verdicts.proofs.Verdict.{discard-plan, discard-checked}

module _ (p : Params) (grants : List ℕ) (r s : Request) (k : Alike r s) where
  one : r.pair.operation ≡ 5
  one = eqb-true r.pair.operation 5 k.one

  other : s.pair.operation ≡ 5
  other = eqb-true s.pair.operation 5 k.other

  same_operation : first_failed (operation_checks p r) ≡ first_failed (operation_checks p s)
  unfolding operation_checks unknown_operation feature_off read_only wrong_amount
  same_operation = rw (one, other, k.sectors)

  same-checked : first_failed (checks p grants r) ≡ first_failed (checks p grants s)
  same-checked = discard-checked p r one grants ∙ rw (same_operation, k.start, k.sectors) (sym (discard-checked p s other grants))

  module _ (off : p.secure ≡ false) where
    same-plan : plan_of p r ≡ plan_of p s
    same-plan = discard-plan p r one ∙ rw (off, and-false (eqb (r.flag % 2) 1), k.start, k.sectors, and-false (eqb (s.flag % 2) 1)) refl ∙ sym (discard-plan p s other)

    same-decided : (c : Checked) → decided (plan_of p r) c ≡ decided (plan_of p s) c
    same-decided (Ok passed) = rw same-plan
    same-decided (Err f) = refl

    same-verdict : verdict_of p grants r ≡ verdict_of p grants s
    unfolding verdict_of
    same-verdict = rw same-checked (same-decided (first_failed (checks p grants s)))

pub flag-unchecked : FlagUnchecked
flag-unchecked p grants r s k = same-checked p grants r s k

pub flag-ignored : FlagIgnored
flag-ignored p grants r s k off = same-verdict p grants r s k off
