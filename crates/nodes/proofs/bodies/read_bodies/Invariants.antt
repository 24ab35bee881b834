-- `nodes::bodies::read_bodies` meets its contract. The invariant is the walk so far, `Walked`. Assumes nothing.
use Rattle.nodes.proofs.Values.{Walked}
use Rattle.nodes.proofs.bodies.read_bodies.Given as goal

abbrev pub invariant-loop-entry : goal.invariant-loop-entry
invariant-loop-entry l = Walked l.table.entries.now l.table.bodies.now l.values l.rest l.entry-index
