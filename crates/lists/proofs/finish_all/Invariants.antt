-- The loop of `finish_all`.
use mathlib.Core.Path.{◌≡◌}
use Prim.Native.Nat.{◌/◌}
use lib.ListN.{length}
use Rattle.std.specs.Simd.{first_chunks}
use Rattle.model.specs.Complete.{entry_words}
use Rattle.model.specs.Ring.{ring_of}
use Rattle.lists.proofs.Passes.{Underway}
use Rattle.lists.proofs.finish_all.Given as goal

abbrev pub invariant-loop-i : goal.invariant-loop-i
invariant-loop-i l = record {
  read : l.whole ≡ first_chunks entry_words (length l.entries / entry_words) l.entries;
  done : Underway l.fn.memory l.fn.page l.k.index (ring_of l.p.params) l.p.produced l.entries l.fn.answer l.i l.index l.memory l.page l.answer;
}
