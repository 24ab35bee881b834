-- `contents::Table::nodes_rise` meets its contract. The invariant: the entries left rise from the node before if all rise. Assumes nothing.
use Rattle.std.proofs.Common.{◌≡◌, []}
use Rattle.model.specs.NodeSheet.{rising}
use Rattle.contents.specs.Contents.{entries_in}
use Rattle.contents.proofs.Table.nodes_rise.Given as goal
use lib.ListN.{drop}

abbrev pub invariant-loop-entry : goal.invariant-loop-entry
invariant-loop-entry l = rising l.before (entries_in (drop l.entry-index l.self.entries.now) []) ≡ rising 0 (entries_in l.self.entries.now [])
