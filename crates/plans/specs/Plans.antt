-- The plans that start a request, by its kind.
use Rattle.std.specs.Prelude.{Bool, false, ℕ}
use Rattle.model.specs.declared.Plan.{Plan}
use Rattle.model.specs.Ring.{discard}

-- the plan of a flush or an empty barrier (rules 5.24 and 5.25)
abbrev pub empty_plan : ℕ → Plan
empty_plan operation = record { operation = operation; start = 0; count = 0; secure = false; extents = 0 }

-- the plan of a request with segments (rules 5.22 to 5.26)
abbrev pub data_plan : ℕ → ℕ → ℕ → ℕ → Plan
data_plan operation start count extents =
    record { operation = operation; start = start; count = count; secure = false; extents = extents }

-- the plan of a discard (rules 5.23, 5.25 and 5.26)
abbrev pub discard_plan : ℕ → ℕ → Bool → Plan
discard_plan start count secure =
    record { operation = discard; start = start; count = count; secure = secure; extents = 0 }
