-- One pass over a request's segments: checks 26 and 27 (rules 8.26 and 8.27), and the words of the extents (rules 5.26
-- to 5.28).
use Rattle.std.specs.Prelude.{◌≡◌, ℕ, ◌+◌, ◌*◌, ◌^◌, ◌<◌, Bool, true, cond, ◌&&◌, List, length, take}
use Rattle.std.specs.Prelude.{Option, None, Some}
use Rattle.model.specs.Base.{all}
use Rattle.model.specs.Checks.{is_granted, is_within_frame, total_sectors}
use Rattle.model.specs.Plan.{extents_from, extent_words}
use Rattle.model.specs.declared.Segment.{Segment}

-- a segment that 26 and 27 both let pass
unfoldable pub passes : List ℕ → ℕ → Segment → Bool
passes grants operation s = is_within_frame s && is_granted grants operation s

-- What a pass leaves: the sectors of all segments, or none where one does not pass; and, where the disk sectors stay
-- below 2^64, the words of the extents from `start` on in front. (Check 28 comes after the pass: only a request that
-- passes it is known to stay below.)
pub record Scanned (grants : List ℕ) (operation start : ℕ) (segments : List Segment) (counted : Option ℕ)
    (words : List ℕ) : Type 0 where
  pub found : counted ≡ cond (all (passes grants operation) segments) (Some (total_sectors segments)) None
  pub front :
      all (passes grants operation) segments ≡ true → start + total_sectors segments < 2 ^ 64
      → take (4 * length segments) words ≡ extent_words (length segments) (extents_from start segments)
