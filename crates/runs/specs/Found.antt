-- What the search for a run promises: it finds the first run of the extents from i on, and what is left are the runs of those from the next place on.
use Rattle.std.specs.Prelude.{◌≡◌, ℕ, ◌-◌, ◌<◌, ◌≤◌, true, List, ◌∷◌}
use Rattle.runs.specs.Join.{extents_at, are_sound, runs_of}
use Rattle.runs.specs.declared.FirstRun.{FirstRun}

pub record Found (words frames : List ℕ) (i n : ℕ) (r : FirstRun) : Type 0 where
  pub runs : runs_of (extents_at words frames i (n - i)) ≡ r.run ∷ runs_of (extents_at words frames r.next (n - r.next))
  pub onward : i < r.next
  pub within : r.next ≤ n
  pub sound : are_sound (extents_at words frames r.next (n - r.next)) ≡ true
