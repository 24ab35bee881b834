-- `digits::value_of` meets its contract. The invariant: what is left to read, after what is read so far, is the whole, and i digits are below 10^i. Assumes nothing.
use Rattle.std.proofs.Common.{◌≡◌, ◌-◌, ◌<◌}
use Rattle.model.specs.NodeSheet.{digits_from}
use Rattle.digits.proofs.value_of.Goals as goal
use mathlib.Core.Path.{sym, ◌∙◌}
use native.Mathlib.Omega.{arith}
use lib.ListN.{length, get_or}
use lib.Seq.{drop-length}
use Rattle.digits.proofs.Digits.{digit_here, digits_left, digit-below, digit-after, value_next, few-fit}

pub overflow_mul-value : goal.overflow_mul-value
overflow_mul-value c =
    omega (arith, few-fit c.loop-byte.byte-index c.loop-byte.value 0 (omega arith) c.loop-byte.invariant.below (omega arith))

pub digit-requires : goal.digit-requires
digit-requires c =
    digit_here c.args.text.now c.loop-byte.byte-index (omega arith) c.loop-byte.invariant.digits

pub overflow_add-value : goal.overflow_add-value
overflow_add-value c =
    let small = digit-below c.args.text.now c.loop-byte.byte-index (omega arith) c.loop-byte.invariant.digits in
    omega (arith, c.digit.ensures, few-fit c.loop-byte.byte-index c.loop-byte.value (get_or c.args.text.now c.loop-byte.byte-index 0 - 48) (omega arith) c.loop-byte.invariant.below small)

pub loop-byte-preserved : goal.loop-byte-preserved
loop-byte-preserved c =
    let h : c.loop-byte.byte-index < length c.args.text.now = omega arith in
    let d = c.loop-byte.invariant.digits in
    record {
      below = rw c.digit.ensures (digit-after c.loop-byte.byte-index c.loop-byte.value _ c.loop-byte.invariant.below (digit-below c.args.text.now c.loop-byte.byte-index h d));
      digits = digits_left c.args.text.now c.loop-byte.byte-index h d;
      value = rw c.digit.ensures (sym (value_next c.args.text.now c.loop-byte.byte-index h c.loop-byte.value) ∙ c.loop-byte.invariant.value);
    }

pub returns-clause-value : goal.returns-clause-value
unfolding digits_from
returns-clause-value c =
    let e : c.loop-byte.byte-index ≡ length c.args.text.now = omega arith in
    rw (e, drop-length c.args.text.now) at c.loop-byte.invariant.value
