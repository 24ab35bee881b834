use Rattle.std.proofs.Common.{◌≡◌, ◌-◌, []}
use Rattle.runs.specs.Join.{extents_at, are_sound}
use Rattle.runs.proofs.extent.Extents.are_sound.Given as goal

abbrev pub invariant-loop-i : goal.invariant-loop-i
invariant-loop-i l = are_sound (extents_at l.self.words.now [] l.i (l.self.n - l.i)) ≡ are_sound (extents_at l.self.words.now [] 0 l.self.n)
