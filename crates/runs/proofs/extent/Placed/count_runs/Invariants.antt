use Rattle.std.proofs.Common.{◌≡◌, ◌+◌, ◌-◌, ◌≤◌, length}
use Rattle.runs.specs.Join.{extents_at, runs_of}
use Rattle.runs.proofs.extent.Placed.count_runs.Given as goal

abbrev pub invariant-loop-i : goal.invariant-loop-i
invariant-loop-i l = record {
  few : l.count ≤ l.i;
  left : l.count + length (runs_of (extents_at l.self.extents.words.now l.self.frames.now l.i (l.self.extents.n - l.i))) ≡ length (runs_of (extents_at l.self.extents.words.now l.self.frames.now 0 l.self.extents.n));
}
