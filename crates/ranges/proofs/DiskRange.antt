-- The checks 28 and 29, in the order in which the code tests. Assumes nothing.
use borrow.Author.Tests.{lt-ltb, le-ltb, eq-eqb, ltb-false}
use mathlib.Core.Path.{◌≡◌, refl}
use mathlib.Core.Bool.{Bool, true, false, not, cond, ◌&&◌}
use mathlib.Core.List.{List, []}
use Prim.Native.Nat.{ℕ, ◌+◌, ◌-◌, ◌%◌, ◌<◌, ◌≤◌}
use native.Mathlib.Decide.{dec_lt}
use native.Mathlib.Nat.{mod-one}
use native.Mathlib.Omega.{arith}
use lib.Dec.{ltb}
use Rattle.model.specs.Base.{all}
use Rattle.std.specs.Prelude.{Ok, Err}
use Rattle.model.specs.Checks.{unit_of, is_aligned, is_on_boundaries, past_end, unaligned, disk_checks, Checked, first_failed}
use Rattle.model.specs.Numbers.{fault_of}
use Rattle.model.specs.declared.Params.{Params}
use Rattle.model.specs.declared.Reason.{Reason}
use Rattle.model.specs.declared.SectorSize.{SectorSize}
use Rattle.model.specs.declared.Segment.{Segment}
use Rattle.checks.proofs.Steps.{none-fails, and_then}

-- past the end, found by a difference
module _ (p : Params) (start count : ℕ) where
  pub past-count : p.sectors < count → true ≡ past_end p start count
  unfolding past_end
  past-count h = rw (lt-ltb p.sectors (start + count) (omega arith))

  pub past-difference : count ≤ p.sectors → ltb (p.sectors - count) start ≡ past_end p start count
  unfolding past_end
  past-difference h =
      elim (dec_lt p.sectors (start + count)) [
        | yes l ↦ rw (lt-ltb p.sectors (start + count) l) (lt-ltb (p.sectors - count) start (omega arith))
        | no l ↦ rw (le-ltb p.sectors (start + count) (omega arith)) (le-ltb (p.sectors - count) start (omega arith))
      ]

-- every number of sectors is whole on a disk whose sectors are a request's
pub aligned-one : (z : SectorSize) (x : ℕ) → unit_of z ≡ 1 → is_aligned z x ≡ true
unfolding is_aligned
aligned-one z x h = rw (h, mod-one x)

-- what keeps to eight sectors keeps to every sector size
pub aligned-all : (z : SectorSize) (x : ℕ) → x % 8 ≡ 0 → is_aligned z x ≡ true
unfolding is_aligned
aligned-all SectorSize.Bytes512 x h = rw (mod-one x)
aligned-all SectorSize.Bytes1024 x h = eq-eqb (x % 2) 0 (omega arith)
aligned-all SectorSize.Bytes2048 x h = eq-eqb (x % 4) 0 (omega arith)
aligned-all SectorSize.Bytes4096 x h = eq-eqb (x % 8) 0 h

-- 28 and 29 by what they find of the end, of the range and of the segments
abbrev unless_aligned : Bool → Checked
unless_aligned b = cond b (Ok tt) (Err (fault_of Reason.Unaligned))

abbrev found : Bool → Bool → Bool → Bool → Checked
found past start count segments = cond past (Err (fault_of Reason.PastEnd)) (cond (not (start && count && segments)) (Err (fault_of Reason.Unaligned)) (Ok tt))

whole : (s c : Bool) → found false s c true ≡ unless_aligned (s && c)
whole true true = refl
whole true false = refl
whole false c = refl

parts : (past s c k : Bool) → found past s c k ≡ and_then (found past s c true) (unless_aligned k)
parts true s c k = refl
parts false true true true = refl
parts false true true false = refl
parts false true false k = refl
parts false false c k = refl

module _ (p : Params) (start count : ℕ) where
  pub range-past : past_end p start count ≡ true → first_failed (disk_checks p start count []) ≡ Err (fault_of Reason.PastEnd)
  unfolding disk_checks
  range-past h = rw h

  pub range-within : past_end p start count ≡ false
      → first_failed (disk_checks p start count []) ≡ cond (is_aligned p.sector start && is_aligned p.sector count) (Ok tt) (Err (fault_of Reason.Unaligned))
  unfolding disk_checks unaligned all
  range-within h = rw h (whole (is_aligned p.sector start) (is_aligned p.sector count))

  module _ (ss : List Segment) where
    -- a range that passes ends on the disk
    pub passed-within : first_failed (disk_checks p start count ss) ≡ Ok tt → start + count ≤ p.sectors
    unfolding disk_checks past_end
    passed-within e = ltb-false p.sectors (start + count) (none-fails (disk_checks p start count ss) 0 e)

    -- 28 and 29 are those of the range alone, then 29 of the segments
    pub range-then : first_failed (disk_checks p start count ss)
        ≡ and_then (first_failed (disk_checks p start count [])) (cond (all (is_on_boundaries p.sector) ss) (Ok tt) (Err (fault_of Reason.Unaligned)))
    unfolding disk_checks unaligned all
    range-then = parts (past_end p start count) (is_aligned p.sector start) (is_aligned p.sector count) (all (is_on_boundaries p.sector) ss)

-- for the automatic steps
pub ruleset of_range = (range-past, range-within, aligned-one, aligned-all)
