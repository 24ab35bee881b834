-- What a pass over the segments before `place` has found.
use Rattle.std.proofs.Common.{◌≡◌, ◌-◌, ◌*◌, ◌/◌, ◌≤◌}
use Rattle.model.specs.Base.{all}
use Rattle.model.specs.Ring.{segments_of}
use Rattle.layout.specs.Copy.{copy_layout}
use Rattle.segments.specs.Segments.{passes}
use Rattle.segments.proofs.Pass.{Upto}
use Rattle.segments.proofs.scan.Given as goal

abbrev pub invariant-loop-place : goal.invariant-loop-place
invariant-loop-place l = record {
  in_range : l.place ≤ 4 * l.n;
  whole : l.place ≡ 4 * (l.place / 4);
  rest : all (passes l.grants l.operation) (segments_of l.n copy_layout l.slot 0) ≡ all (passes l.grants l.operation) (segments_of (l.n - l.place / 4) copy_layout l.slot (l.place / 4));
  upto : Upto l.grants l.operation l.start (segments_of (l.place / 4) copy_layout l.slot 0) l.words l.sector;
}

abbrev pub decreases-loop-place : goal.decreases-loop-place
decreases-loop-place l = 4 * l.n - l.place
