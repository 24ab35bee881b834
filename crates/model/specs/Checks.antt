-- Section 8 of docs/RULES.md: the checks 21 to 29 of a guest's request, with the status of each reason. 23 is withdrawn, and its number is unused (rule 8.23).
use Rattle.std.specs.Prelude.{ℕ, ◌+◌, ◌-◌, ◌%◌, Bool, not, cond, ◌&&◌, ◌||◌, List, [], ◌∷◌, ◌++◌, Result, Ok, Err, eqb, ltb, leb, get_or}
use Rattle.model.specs.Base.{◌⇒◌, first_of, all}
use Rattle.model.specs.Buffers.{grant_share}
use Rattle.model.specs.Ring.{Request, read, write, barrier, flush, discard}
use Rattle.model.specs.declared.Fault.{Fault}
use Rattle.model.specs.declared.Params.{Params}
use Rattle.model.specs.declared.Reason.{Reason}
use Rattle.model.specs.declared.SectorSize.{SectorSize}
use Rattle.model.specs.declared.Segment.{Segment}
use Rattle.model.specs.declared.Status.{Status}

abbrev pub is_a : ℕ → Request → Bool
is_a operation r = eqb r.pair.operation operation

-- blkif.h's BLKIF_MAX_SEGMENTS_PER_REQUEST (rules 1.18 and 2.16)
abbrev pub max_segments : ℕ
max_segments = 11

-- a barrier with n = 0 (rule 5.24)
unfoldable pub is_empty_barrier : Request → Bool
is_empty_barrier r = is_a barrier r && eqb r.n 0

-- a request without sectors: there are no grants and no range to check (rule 8.7)
unfoldable pub moves_nothing : Request → Bool
moves_nothing r = is_a flush r || is_empty_barrier r

-- ---- sectors

-- from first to last, both counted, 512 bytes to each (rules 2.7 and 2.15)
unfoldable pub sectors_in : Segment → ℕ
sectors_in s = s.last + 1 - s.first

-- as a whole number, with no bound (rule 8.10)
unfoldable pub total_sectors : List Segment → ℕ
total_sectors [] = 0
total_sectors (s ∷ ss) = sectors_in s + total_sectors ss

-- the sectors that the request speaks of, as its slot has them (rules 5.25, 8.9 and 11.8)
unfoldable pub count_of : Request → ℕ
count_of r = first_of (is_a discard r ⇒ r.sectors ∷ moves_nothing r ⇒ 0 ∷ []) (total_sectors r.segments)

-- the segments that say where its sectors are: a discard has none (rule 8.8)
unfoldable pub data_segments : Request → List Segment
data_segments r = cond (is_a discard r) [] r.segments

-- how many sectors of 512 bytes one of the disk's has (rule 8.29)
abbrev pub unit_of : SectorSize → ℕ
unit_of SectorSize.Bytes512 = 1
unit_of SectorSize.Bytes1024 = 2
unit_of SectorSize.Bytes2048 = 4
unit_of SectorSize.Bytes4096 = 8

-- a multiple of that (rule 8.29)
unfoldable pub is_aligned : SectorSize → ℕ → Bool
is_aligned z x = eqb (x % unit_of z) 0

-- a segment begins and ends on boundaries of the disk's sectors (rule 8.29)
unfoldable pub is_on_boundaries : SectorSize → Segment → Bool
is_on_boundaries z s = is_aligned z s.first && is_aligned z (s.last + 1)

-- ---- grants

-- what a grant byte allows (rule 8.4)
abbrev pub may_read : ℕ → Bool
may_read b = eqb b 1 || eqb b 2

abbrev pub may_write : ℕ → Bool
may_write b = eqb b 2

-- a read has its frame written, so it needs more than the others; that there is a grant is not enough (rules 8.6 and 10.4)
abbrev pub suffices : ℕ → ℕ → Bool
suffices operation b = cond (eqb operation read) (may_write b) (may_read b)

-- byte g of a port's grants speaks of frame g; no frame past the last byte is granted (rules 8.3 and 8.5)
unfoldable pub is_granted : List ℕ → ℕ → Segment → Bool
is_granted grants operation s = ltb s.frame grant_share && suffices operation (get_or grants s.frame 0)

-- ---- the eight checks: what each finds at fault

-- 21: none of the five operations (rules 2.14 and 8.21)
unfoldable pub unknown_operation : Request → Bool
unknown_operation r = not (is_a read r || is_a write r || is_a barrier r || is_a flush r || is_a discard r)

-- 22: what the operation needs is off (rule 8.22)
unfoldable pub feature_off : Params → Request → Bool
feature_off p r = is_a barrier r && not p.barrier || is_a flush r && not p.flush || is_a discard r && not p.discard

-- 24: the disk would be written, and may not (rule 8.24)
unfoldable pub read_only : Params → Request → Bool
read_only p r = (is_a write r || is_a barrier r || is_a discard r) && not p.writable

-- 25: the number of segments, or of sectors to discard, is out of bounds (rule 8.25)
unfoldable pub wrong_amount : Request → Bool
wrong_amount r =
    (is_a read r || is_a write r) && not (leb 1 r.n && leb r.n max_segments)
    || is_a barrier r && ltb max_segments r.n
    || is_a flush r && not (eqb r.n 0)
    || is_a discard r && eqb r.sectors 0

-- a segment lies in its frame, which has eight sectors (rule 8.26)
unfoldable pub is_within_frame : Segment → Bool
is_within_frame s = leb s.first s.last && leb s.last 7

-- 26, of all segments; a discard has none (rules 8.8 and 8.26)
unfoldable pub wrong_segment : Request → Bool
wrong_segment r = not (is_a discard r) && not (all is_within_frame r.segments)

-- 27, of all segments (rules 8.7, 8.8 and 8.27)
unfoldable pub not_granted : List ℕ → Request → Bool
not_granted grants r = not (is_a discard r || moves_nothing r) && not (all (is_granted grants r.pair.operation) r.segments)

-- 28: the range ends past the disk. The sum is a whole number, and does not wrap (rules 8.10, 8.28 and 10.3).
unfoldable pub past_end : Params → ℕ → ℕ → Bool
past_end p start count = ltb p.sectors (start + count)

-- 29: the range, or one of the segments, does not keep to whole sectors of the disk (rules 8.11 and 8.29)
unfoldable pub unaligned : Params → ℕ → ℕ → List Segment → Bool
unaligned p start count ss = not (is_aligned p.sector start && is_aligned p.sector count && all (is_on_boundaries p.sector) ss)

-- ---- the table of the checks

-- a check: its reason, the status that the guest gets, and whether the request fails it (rules 8.21 to 8.29)
pub record Check : Type 0 where
  pub reason : Reason
  pub status : Status
  pub fails : Bool

abbrev pub check : Reason → Status → Bool → Check
check reason s b = record { reason = reason; status = s; fails = b }

-- what a request asks for (rules 8.21 to 8.25)
unfoldable pub operation_checks : Params → Request → List Check
operation_checks p r =
    check Reason.UnknownOperation Status.NotSupported (unknown_operation r)
    ∷ check Reason.FeatureOff Status.NotSupported (feature_off p r)
    ∷ check Reason.ReadOnly Status.Error (read_only p r)
    ∷ check Reason.WrongAmount Status.Error (wrong_amount r)
    ∷ []

-- its segments, each check over all of them (rules 8.2, 8.26 and 8.27)
unfoldable pub segment_checks : List ℕ → Request → List Check
segment_checks grants r =
    check Reason.WrongSegment Status.Error (wrong_segment r)
    ∷ check Reason.NotGranted Status.Error (not_granted grants r)
    ∷ []

-- where it lies on the disk (rules 8.9, 8.11, 8.28 and 8.29)
unfoldable pub disk_checks : Params → ℕ → ℕ → List Segment → List Check
disk_checks p start count ss =
    check Reason.PastEnd Status.Error (past_end p start count)
    ∷ check Reason.Unaligned Status.Error (unaligned p start count ss)
    ∷ []

-- the eight checks, in number order (rule 8.2); a request that moves nothing has no range (rule 8.7)
unfoldable pub checks : Params → List ℕ → Request → List Check
checks p grants r =
    operation_checks p r ++ (segment_checks grants r ++ cond (moves_nothing r) [] (disk_checks p r.start (count_of r) (data_segments r)))

-- what checks say of a request: it passes them, or fails one (rule 8.2)
abbrev pub Checked : Type 0
Checked = Result (Unit {0}) Fault

abbrev pub fault : Check → Fault
fault c = record { reason = c.reason; status = c.status }

-- the first check of a list that the request fails (rule 8.2)
abbrev pub first_failed : List Check → Checked
first_failed [] = Ok tt
first_failed (c ∷ cs) = cond c.fails (Err (fault c)) (first_failed cs)
