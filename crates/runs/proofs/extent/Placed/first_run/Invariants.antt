use Rattle.runs.proofs.Search.{Reached}
use Rattle.runs.proofs.extent.Placed.first_run.Given as goal

abbrev pub invariant-loop-next : goal.invariant-loop-next
invariant-loop-next l = Reached l.self.extents.words.now l.self.frames.now l.i l.self.extents.n l.next l.run l.last
