-- All segments are on boundaries where those from i on are.
use Rattle.std.proofs.Common.{◌≡◌, ◌-◌}
use Rattle.model.specs.Base.{all}
use Rattle.model.specs.Checks.{is_on_boundaries}
use Rattle.model.specs.Ring.{segments_of}
use Rattle.layout.specs.Copy.{copy_layout}
use Rattle.boundaries.proofs.are_on_boundaries.Given as goal

abbrev pub invariant-loop-i : goal.invariant-loop-i
invariant-loop-i l =
    all (is_on_boundaries l.sector) (segments_of l.n copy_layout l.slot 0) ≡ all (is_on_boundaries l.sector) (segments_of (l.n - l.i) copy_layout l.slot l.i)
