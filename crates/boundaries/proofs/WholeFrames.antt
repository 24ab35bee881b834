-- Segments on the boundaries of a disk's sectors, told by how many sectors they have. Assumes nothing.
use borrow.Author.Tests.{eqb-true}
use mathlib.Core.Path.{◌≡◌, refl}
use mathlib.Core.Bool.{Bool, true, false, ◌&&◌}
use mathlib.Core.List.{List, [], ◌∷◌}
use Prim.Native.Nat.{ℕ, ◌+◌, ◌*◌, ◌%◌}
use native.Mathlib.Omega.{arith}
use lib.ListN.{length}
use Rattle.model.specs.Base.{all}
use Rattle.model.specs.Checks.{unit_of, is_aligned, is_on_boundaries, is_within_frame, sectors_in, total_sectors}
use Rattle.model.specs.declared.SectorSize.{SectorSize}
use Rattle.model.specs.declared.Segment.{Segment}
use Rattle.model.proofs.Base.{and_left, and_right}
use Rattle.ranges.proofs.DiskRange.{aligned-one, aligned-all}
use Rattle.segments.proofs.Slot.{all_next, all_end, length-segments, within-ordered, within-last, within-sectors, within-total}

-- every sector is a boundary where the disk's are a request's
pub one-all : (z : SectorSize) (ss : List Segment) → unit_of z ≡ 1 → all (is_on_boundaries z) ss ≡ true
unfolding all is_on_boundaries
one-all z [] h = refl
one-all z (s ∷ ss) h = rw (aligned-one z s.first h, aligned-one z (s.last + 1) h) (one-all z ss h)

by-eight : (z : SectorSize) (x : ℕ) → unit_of z ≡ 8 → is_aligned z x ≡ true → x % 8 ≡ 0
unfolding is_aligned
by-eight z x u h = rw u at (eqb-true (x % unit_of z) 0 h)

-- a segment within its frame
module _ (s : Segment) (w : is_within_frame s ≡ true) where
  -- eight sectors are the whole frame, which suits every sector size
  whole : (z : SectorSize) → sectors_in s ≡ 8 → is_on_boundaries z s ≡ true
  unfolding is_on_boundaries sectors_in
  whole z h = rw (aligned-all z s.first (omega (arith, within-ordered s w, within-last s w, h)), aligned-all z (s.last + 1) (omega (arith, within-ordered s w, within-last s w, h)))

  -- and nothing else suits sectors as large as a frame
  only-whole : (z : SectorSize) → unit_of z ≡ 8 → is_on_boundaries z s ≡ true → sectors_in s ≡ 8
  unfolding is_on_boundaries sectors_in
  only-whole z u h =
      let begin = by-eight z s.first u (and_left (is_aligned z s.first) (is_aligned z (s.last + 1)) h) in
      let end = by-eight z (s.last + 1) u (and_right (is_aligned z s.first) (is_aligned z (s.last + 1)) h) in
      omega (arith, within-ordered s w, within-last s w, begin, end)

module _ (z : SectorSize) where
  pub whole-all : (ss : List Segment) → all is_within_frame ss ≡ true → total_sectors ss ≡ 8 * length ss → all (is_on_boundaries z) ss ≡ true
  unfolding all total_sectors
  whole-all [] w h = refl
  whole-all (s ∷ ss) w h =
      let here = and_left (is_within_frame s) (all is_within_frame ss) w in
      let rest = and_right (is_within_frame s) (all is_within_frame ss) w in
      let one = within-sectors s here in
      let more = within-total ss rest in
      rw (whole s here z (omega arith)) (whole-all ss rest (omega arith))

  only-whole-all : (ss : List Segment) → unit_of z ≡ 8 → all is_within_frame ss ≡ true → all (is_on_boundaries z) ss ≡ true → total_sectors ss ≡ 8 * length ss
  unfolding all total_sectors
  only-whole-all [] u w h = refl
  only-whole-all (s ∷ ss) u w h =
      let one = only-whole s (and_left (is_within_frame s) (all is_within_frame ss) w) z u (and_left (is_on_boundaries z s) (all (is_on_boundaries z) ss) h) in
      let more = only-whole-all ss u (and_right (is_within_frame s) (all is_within_frame ss) w) (and_right (is_on_boundaries z s) (all (is_on_boundaries z) ss) h) in
      omega arith

  -- so fewer sectors than whole frames have do not suit them
  pub not-whole : (ss : List Segment) → unit_of z ≡ 8 → all is_within_frame ss ≡ true → (total_sectors ss ≡ 8 * length ss → ⊥) → all (is_on_boundaries z) ss ≡ false
  not-whole ss u w d = by (all (is_on_boundaries z) ss) refl
    where
      by : (b : Bool) → all (is_on_boundaries z) ss ≡ b → b ≡ false
      by true e = absurd (d (only-whole-all ss u w e))
      by false e = refl

pub ends : (z : SectorSize) (s : Segment) → is_on_boundaries z s ≡ is_aligned z s.first && is_aligned z (s.last + 1)
unfolding is_on_boundaries
ends z s = refl

-- what a loop over the segments tells
pub ruleset by_segment = (all_next, all_end, ends)

-- what a count of the sectors tells, for the automatic steps
pub ruleset by_count = (one-all, whole-all, not-whole, length-segments)
