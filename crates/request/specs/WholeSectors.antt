-- What check 29 means for a host: the extents of a plan keep to whole sectors of the disk (rule 8.12).
use Rattle.std.specs.Prelude.{Ok, ◌≡◌, Bool, true, ◌&&◌, List, ℕ}
use Rattle.model.specs.Base.{all}
use Rattle.model.specs.Ring.{Layout, request_of}
use Rattle.model.specs.Checks.{is_aligned}
use Rattle.model.specs.Plan.{Extent, extents_of, verdict_of}
use Rattle.model.specs.declared.Params.{Params}
use Rattle.model.specs.declared.Plan.{Plan}
use Rattle.model.specs.declared.SectorSize.{SectorSize}

-- an extent begins and ends where sectors of the disk do, in its frame and on the disk
unfoldable pub is_whole : SectorSize → Extent → Bool
is_whole z e = is_aligned z e.first && is_aligned z e.count && is_aligned z e.sector

-- of every request that starts, whatever its slot's bytes
abbrev pub WholeSectors : Type 0
WholeSectors = (p : Params) (l : Layout) (grants slot : List ℕ) (plan : Plan)
    → verdict_of p grants (request_of l slot) ≡ Ok plan
    → all (is_whole p.sector) (extents_of (request_of l slot)) ≡ true
