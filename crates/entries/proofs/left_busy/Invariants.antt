-- The loop of `left_busy`: what is left of the pass comes to what the whole of it does, in a ring of either layout.
use mathlib.Core.Path.{◌≡◌}
use Prim.Native.Nat.{◌-◌, ◌/◌}
use lib.ListN.{length}
use Rattle.std.specs.Simd.{first_chunks}
use Rattle.model.specs.Complete.{entry_words, completions_from, completions_in}
use Rattle.model.specs.Ring.{ring_for}
use Rattle.model.specs.declared.Abi.{Abi}
use Rattle.memory.specs.Backend.{backend_of}
use Rattle.entries.specs.Entries.{left_of}
use Rattle.entries.proofs.left_busy.Given as goal

abbrev pub invariant-loop-entry : goal.invariant-loop-entry
invariant-loop-entry l = record {
  read : l.whole ≡ first_chunks entry_words (length l.entries / entry_words) l.entries;
  left :
      (abi : Abi) → left_of (ring_for abi l.pages) ((backend_of l.memory).tag l.k.index) l.left (completions_from (length l.entries / entry_words - l.entry-index) l.entries l.entry-index)
      ≡ left_of (ring_for abi l.pages) ((backend_of l.memory).tag l.k.index) l.busy (completions_in l.entries);
}
