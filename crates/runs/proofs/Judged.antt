-- The answer by its tests, one after another. Assumes nothing.
use borrow.Author.Tests.{lt-ltb, le-ltb}
use mathlib.Core.Path.{◌≡◌}
use mathlib.Core.Bool.{true, false}
use mathlib.Core.List.{List, []}
use Prim.Native.Nat.{ℕ, ◌/◌, ◌<◌, ◌≤◌}
use lib.ListN.{length}
use Rattle.runs.specs.Answer.{is_no_plan, runs_in, joined}
use Rattle.runs.specs.Join.{extents_at, are_sound, runs_of}
use Rattle.model.specs.declared.Refusal.{Refusal}
use Rattle.std.specs.Prelude.{Ok, Err}

module _ (words : List ℕ) (n : ℕ) (frames : List ℕ) (room : ℕ) where
  pub few-places : length words / 4 < n → Err Refusal.NoPlan ≡ joined words n frames room
  unfolding joined is_no_plan
  few-places p = rw (lt-ltb (length words / 4) n p)

  module _ (p : n ≤ length words / 4) where
    pub unsound : are_sound (extents_at words [] 0 n) ≡ false → Err Refusal.NoPlan ≡ joined words n frames room
    unfolding joined is_no_plan
    unsound s = rw (le-ltb (length words / 4) n p, s)

    module _ (s : are_sound (extents_at words [] 0 n) ≡ true) where
      pub few-frames : length frames < n → Err Refusal.TooFewFrames ≡ joined words n frames room
      unfolding joined is_no_plan
      few-frames f = rw (le-ltb (length words / 4) n p, s, lt-ltb (length frames) n f)

      module _ (f : n ≤ length frames) (k : ℕ) (is : k ≡ length (runs_of (extents_at words frames 0 n))) where
        pub few-runs : room < k → Err Refusal.TooFewRuns ≡ joined words n frames room
        unfolding joined is_no_plan runs_in
        few-runs r = rw (le-ltb (length words / 4) n p, s, le-ltb (length frames) n f, ← is, lt-ltb room k r)

        pub enough : k ≤ room → Ok k ≡ joined words n frames room
        unfolding joined is_no_plan runs_in
        enough r = rw (le-ltb (length words / 4) n p, s, le-ltb (length frames) n f, ← is, le-ltb room k r)

pub ruleset judged = (few-places, unsound, few-frames, few-runs, enough)
