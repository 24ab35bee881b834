-- `digits::value_of` meets its contract. The invariant: what is left to read, after what is read so far, is the whole, and i digits are below 10^i. Assumes nothing.
use Rattle.std.proofs.Common.{◌≡◌, true, ◌<◌, ◌^◌}
use Rattle.model.specs.Base.{all}
use Rattle.model.specs.NodeSheet.{is_digit, digits_from}
use Rattle.digits.proofs.value_of.Given as goal
use lib.ListN.{drop}

abbrev pub invariant-loop-byte : goal.invariant-loop-byte
invariant-loop-byte l = record {
  below : l.value < 10 ^ l.byte-index;
  digits : all is_digit (drop l.byte-index l.text) ≡ true;
  value : digits_from l.value (drop l.byte-index l.text) ≡ digits_from 0 l.text;
}
