-- All segments are within their frames where those from i on are.
use Rattle.std.proofs.Common.{◌≡◌, ◌-◌}
use Rattle.model.specs.Base.{all}
use Rattle.model.specs.Checks.{is_within_frame}
use Rattle.model.specs.Ring.{segments_of}
use Rattle.layout.specs.Copy.{copy_layout}
use Rattle.segments.proofs.fault_reason.Given as goal

abbrev pub invariant-loop-i : goal.invariant-loop-i
invariant-loop-i l = all is_within_frame (segments_of l.n copy_layout l.slot 0) ≡ all is_within_frame (segments_of (l.n - l.i) copy_layout l.slot l.i)
