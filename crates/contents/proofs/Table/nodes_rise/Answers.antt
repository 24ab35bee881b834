-- `contents::Table::nodes_rise` meets its contract. The invariant: the entries left rise from the node before if all rise. Assumes nothing.
use Rattle.contents.proofs.Entries.{rising_on}
use Rattle.contents.proofs.Table.nodes_rise.Goals as goal
use mathlib.Core.Path.{sym, ◌∙◌}
use native.Mathlib.Omega.{arith}

pub loop-entry-preserved : goal.loop-entry-preserved
loop-entry-preserved c =
    rw c.node_of-node.ensures
    (sym (rising_on c.args.self.now.entries.now c.loop-entry.entry-index c.loop-entry.before (omega arith) (omega (arith, c.node_of-node.ensures)) (omega (arith, c.node_of-node.ensures))) ∙ c.loop-entry.invariant)
