-- What a turn that finds nothing to serve leaves.
use Rattle.std.specs.Prelude.{◌≡◌, List, ℕ}
use Rattle.model.specs.Backend.{view_of}
use Rattle.model.specs.Buffers.{ports}
use Rattle.model.specs.Plan.{no_words}
use Rattle.model.specs.Turn.{armed}
use Rattle.model.specs.declared.Turned.{Turned}
use Rattle.memory.specs.Backend.{backend_of}

-- nothing to serve: the open ports are armed, and no word of memory changes (rules 5.7 to 5.9)
pub record Rested (m lent : List ℕ) (r : Turned) (pages filled left : List ℕ) : Type 0 where
  pub memory : left ≡ m
  pub answer : r ≡ Turned.Idle
  pub rings : pages ≡ armed (view_of (backend_of m)) lent ports
  pub words : filled ≡ no_words
