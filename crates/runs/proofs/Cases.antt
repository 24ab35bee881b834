-- Worked cases of joining, computed from the definitions. Assumes nothing.
use mathlib.Core.Path.{◌≡◌, refl}
use mathlib.Core.List.{List, [], ◌∷◌, ◌++◌}
use Prim.Native.Nat.{ℕ, ◌-◌, ◌^◌}
use lib.ListN.{length}
use Rattle.runs.specs.Answer.{Joined, is_no_plan, runs_in, joined}
use Rattle.runs.specs.Join.{extent_at, extents_at, is_sound, follows, followed, are_sound, joins, joins_next, in_first, groups_of, total_length, run_of, runs_of}
use Rattle.model.specs.declared.Refusal.{Refusal}
use Rattle.std.specs.Prelude.{Ok, Err}
use Rattle.runs.specs.declared.Run.{Run}

-- an extent's words, with a frame of its own that nothing looks at
abbrev extent : ℕ → ℕ → ℕ → List ℕ
extent first length sector = 99 ∷ first ∷ length ∷ sector ∷ []

abbrev run : ℕ → ℕ → ℕ → ℕ → Run
run frame first length sector = record { frame = frame; first = first; length = length; sector = sector }

abbrev last : ℕ
last = 2 ^ 64 - 1

-- two extents that follow on the disk: the one from sector 4 to the end of its frame, the other from sector `first` on
abbrev two : ℕ → List ℕ
two first = extent 4 4 10 ++ extent first 2 14

-- which neighbours join (rule 17.11), and the records of their runs (rule 17.13)
neighbours :
    (runs_in (two 0) (7 ∷ 8 ∷ []) 2 ≡ run 7 4 6 10 ∷ [])
    × (runs_in (two 0) (7 ∷ 9 ∷ []) 2 ≡ run 7 4 4 10 ∷ run 9 0 2 14 ∷ [])
    × (runs_in (two 0) (8 ∷ 7 ∷ []) 2 ≡ run 8 4 4 10 ∷ run 7 0 2 14 ∷ [])
    × (runs_in (two 0) (7 ∷ 7 ∷ []) 2 ≡ run 7 4 4 10 ∷ run 7 0 2 14 ∷ [])
    × (runs_in (two 1) (7 ∷ 8 ∷ []) 2 ≡ run 7 4 4 10 ∷ run 8 1 2 14 ∷ [])
    × (runs_in (two 0) ((last - 1) ∷ last ∷ []) 2 ≡ run (last - 1) 4 6 10 ∷ [])
    × (runs_in (two 0) (last ∷ 0 ∷ []) 2 ≡ run last 4 4 10 ∷ run 0 0 2 14 ∷ [])
    × (runs_in (extent 1 2 10 ++ extent 3 2 12) (7 ∷ 7 ∷ []) 2 ≡ run 7 1 4 10 ∷ [])
    × (runs_in (extent 1 2 10 ++ extent 4 2 12) (7 ∷ 7 ∷ []) 2 ≡ run 7 1 2 10 ∷ run 7 4 2 12 ∷ [])
    × (runs_in (extent 1 2 10 ++ extent 3 2 12) (7 ∷ 8 ∷ []) 2 ≡ run 7 1 2 10 ∷ run 8 3 2 12 ∷ [])
    × (runs_in (extent 0 8 0 ++ extent 0 8 8 ++ extent 0 8 16 ++ extent 0 1 24) (5 ∷ 6 ∷ 7 ∷ 7 ∷ []) 4 ≡ run 5 0 24 0 ∷ run 7 0 1 24 ∷ [])
unfolding runs_in runs_of run_of total_length groups_of in_first joins_next joins extents_at extent_at
neighbours = (refl, refl, refl, refl, refl, refl, refl, refl, refl, refl, refl)

-- both sides of refusal 10 (rules 17.5 to 17.8)
abbrev one : List ℕ → ℕ → Joined
one words n = joined words n (7 ∷ 8 ∷ []) 2

plans :
    (one [] 0 ≡ Ok 0) × (one [] 1 ≡ Err Refusal.NoPlan)
    × (one (extent 7 1 0) 1 ≡ Ok 1) × (one (extent 7 2 0) 1 ≡ Err Refusal.NoPlan) × (one (extent 8 0 0) 1 ≡ Err Refusal.NoPlan) × (one (extent 0 0 0) 1 ≡ Err Refusal.NoPlan)
    × (one (extent 0 8 0) 1 ≡ Ok 1) × (one (extent 0 9 0) 1 ≡ Err Refusal.NoPlan) × (one (extent last last 0) 1 ≡ Err Refusal.NoPlan)
    × (one (extent 0 1 (last - 1)) 1 ≡ Ok 1) × (one (extent 0 1 last) 1 ≡ Err Refusal.NoPlan)
    × (one (extent 0 8 0 ++ extent 0 8 8) 2 ≡ Ok 1) × (one (extent 0 8 0 ++ extent 0 8 9) 2 ≡ Err Refusal.NoPlan) × (one (extent 0 8 0 ++ extent 0 8 7) 2 ≡ Err Refusal.NoPlan)
    × (one (extent 0 8 0 ++ extent 0 0 0) 1 ≡ Ok 1) × (one (99 ∷ 0 ∷ 8 ∷ []) 1 ≡ Err Refusal.NoPlan)
    × (one (extent 0 8 0 ++ extent 0 0 8) 2 ≡ Err Refusal.NoPlan) × (one (extent 0 8 0 ++ extent 7 2 8) 2 ≡ Err Refusal.NoPlan) × (joined (extent 0 8 0 ++ extent 0 0 8) 2 (7 ∷ []) 0 ≡ Err Refusal.NoPlan)
unfolding joined is_no_plan are_sound is_sound followed follows runs_in runs_of run_of total_length groups_of in_first joins_next joins extents_at extent_at
plans = (refl, refl, refl, refl, refl, refl, refl, refl, refl, refl, refl, refl, refl, refl, refl, refl, refl, refl, refl)

-- refusals 8 and 9 (rules 17.9 and 17.10), and the order of all three (rule 17.4)
rest :
    (joined (two 0) 2 (7 ∷ []) 2 ≡ Err Refusal.TooFewFrames) × (joined (two 0) 1 (7 ∷ []) 1 ≡ Ok 1)
    × (joined (two 0) 2 (7 ∷ 8 ∷ []) 1 ≡ Ok 1) × (joined (two 0) 2 (7 ∷ 8 ∷ []) 0 ≡ Err Refusal.TooFewRuns) × (joined (two 0) 2 (7 ∷ 9 ∷ []) 1 ≡ Err Refusal.TooFewRuns)
    × (joined (two 0) 2 [] 0 ≡ Err Refusal.TooFewFrames) × (joined (two 0) 3 [] 0 ≡ Err Refusal.NoPlan) × (joined (extent 0 0 0) 1 [] 0 ≡ Err Refusal.NoPlan)
unfolding joined is_no_plan are_sound is_sound followed follows runs_in runs_of run_of total_length groups_of in_first joins_next joins extents_at extent_at
rest = (refl, refl, refl, refl, refl, refl, refl, refl)
