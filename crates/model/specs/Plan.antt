-- Section 5 of docs/RULES.md, plans: that of a request that passed the checks, and the verdict on any request.
use Rattle.std.specs.Prelude.{ℕ, zero, suc, ◌+◌, ◌*◌, ◌%◌, Bool, cond, ◌&&◌, List, [], ◌∷◌, Result, Ok, Err, eqb, length}
use Rattle.model.specs.Ring.{Request, discard}
use Rattle.model.specs.Checks.{is_a, max_segments, moves_nothing, sectors_in, count_of, Checked, checks, first_failed}
use Rattle.model.specs.declared.Fault.{Fault}
use Rattle.model.specs.declared.Params.{Params}
use Rattle.model.specs.declared.Plan.{Plan}
use Rattle.model.specs.declared.Segment.{Segment}

-- An extent (piece): a run of sectors in a frame, and its place on the disk (rule 5.27).
pub record Extent : Type 0 where
  pub frame : ℕ
  pub first : ℕ
  pub count : ℕ
  pub sector : ℕ

-- the extents of segments, from a disk sector on: each begins where the last one ends (rule 5.28)
unfoldable pub extents_from : ℕ → List Segment → List Extent
extents_from at [] = []
extents_from at (s ∷ ss) =
    record { frame = s.frame; first = s.first; count = sectors_in s; sector = at } ∷ extents_from (at + sectors_in s) ss

-- the extents of a request (rule 5.26)
unfoldable pub extents_of : Request → List Extent
extents_of r = cond (is_a discard r) [] (extents_from r.start r.segments)

-- the words of n places for extents, in the order of rule 5.27; zeros in those without one (rule 5.29)
unfoldable pub extent_words : ℕ → List Extent → List ℕ
extent_words zero es = []
extent_words (suc n) [] = 0 ∷ 0 ∷ 0 ∷ 0 ∷ extent_words n []
extent_words (suc n) (e ∷ es) = e.frame ∷ e.first ∷ e.count ∷ e.sector ∷ extent_words n es

-- blkif.h's BLKIF_DISCARD_SECURE, bit 0 of the flag; the others are not looked at (rules 1.18 and 2.9)
unfoldable pub asks_secure : Request → Bool
asks_secure r = is_a discard r && eqb (r.flag % 2) 1

-- the secure mark; a disk without secure discards ignores the bit (rule 5.23)
unfoldable pub is_secure : Params → Request → Bool
is_secure p r = asks_secure r && p.secure

-- what the host is to do for a request (rules 5.22 to 5.26)
unfoldable pub plan_of : Params → Request → Plan
plan_of p r = record {
  operation = r.pair.operation;
  start = cond (moves_nothing r) 0 r.start;
  count = count_of r;
  secure = is_secure p r;
  extents = length (extents_of r);
}

-- what all the checks say: the request's plan, or why it is refused (rule 5.19)
abbrev pub Verdict : Type 0
Verdict = Result Plan Fault

-- a request that passes starts, with its plan (rule 5.19)
abbrev pub decided : Plan → Checked → Verdict
decided plan (Ok passed) = Ok plan
decided plan (Err f) = Err f

-- the verdict on a request, by its own checks and its own plan (rules 5.19, 8.2 and 11.5)
unfoldable pub verdict_of : Params → List ℕ → Request → Verdict
verdict_of p grants r = decided (plan_of p r) (first_failed (checks p grants r))

-- how many words all places have (rule 5.33)
abbrev pub plan_words : ℕ
plan_words = 4 * max_segments

-- the words of all places, where there is no plan (rule 5.34)
abbrev pub no_words : List ℕ
no_words = extent_words max_segments []

-- the words that stand beside a verdict: a plan's extents (rules 5.33 and 5.34)
unfoldable pub words_beside : Request → Verdict → List ℕ
words_beside r (Err f) = no_words
words_beside r (Ok plan) = extent_words max_segments (extents_of r)
