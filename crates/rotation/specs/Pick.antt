-- Which port a turn serves, as the code hands it on: with its req_prod.
use Rattle.std.specs.Prelude.{cond, List, ℕ, ltb, Option, Some, None}
use Rattle.model.specs.Buffers.{ports}
use Rattle.model.specs.Port.{View}
use Rattle.model.specs.Ring.{req_prod}
use Rattle.model.specs.declared.port_index.PortIndex.{PortIndex}
use Rattle.model.specs.Turn.{pages_at, has_work, looked_at, passed_over}

-- what is seen of port k: its req_prod, where it has something to serve (rule 4.13)
unfoldable pub look_of : View → List ℕ → ℕ → Option ℕ
look_of v rings k = cond (has_work v rings k) (Some (req_prod (pages_at v rings k))) None

-- the i-th port that the turn looks at (rule 5.2)
abbrev pub pick_at : View → List ℕ → ℕ → Option (ℕ × ℕ)
pick_at v rings i = Some (looked_at v i, req_prod (pages_at v rings (looked_at v i)))

-- the first that has something to serve (rule 5.3)
unfoldable pub picked : View → List ℕ → Option (ℕ × ℕ)
picked v rings = cond (ltb (passed_over v rings) ports) (pick_at v rings (passed_over v rings)) None

-- a pick by the place of its port
abbrev pub placed : Option (PortIndex × ℕ) → Option (ℕ × ℕ)
placed None = None
placed (Some p) = Some (p.0.index, p.1)
