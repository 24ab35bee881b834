-- Section 17 of docs/RULES.md, the rule: which extents of a plan join, and the runs that they come to.
use Rattle.std.specs.Prelude.{ℕ, zero, suc, ◌+◌, ◌*◌, ◌^◌, Bool, true, false, cond, ◌&&◌, ◌||◌, List, [], ◌∷◌, map, eqb, ltb, leb, get_or}
use Rattle.runs.specs.declared.Run.{Run}

-- how many sectors a frame has (rule 8.26)
abbrev pub frame_sectors : ℕ
frame_sectors = 8

-- The extent at place i of a plan's words, in the machine frame that the host names for it (rules 17.2 and 17.3): a run by itself.
unfoldable pub extent_at : List ℕ → List ℕ → ℕ → Run
extent_at words frames i = record {
  frame = get_or frames i 0;
  first = get_or words (4 * i + 1) 0;
  length = get_or words (4 * i + 2) 0;
  sector = get_or words (4 * i + 3) 0;
}

-- n of them, from place i on
unfoldable pub extents_at : List ℕ → List ℕ → ℕ → ℕ → List Run
extents_at words frames i zero = []
extents_at words frames i (suc n) = extent_at words frames i ∷ extents_at words frames (suc i) n

-- ---- what an extent has to be

-- some sectors of one frame, which have their places on a disk (rule 17.6)
unfoldable pub is_sound : Run → Bool
is_sound e = leb 1 e.length && (leb (e.first + e.length) frame_sectors && ltb (e.sector + e.length) (2 ^ 64))

-- f is on the disk right behind e (rule 17.7)
unfoldable pub follows : Run → Run → Bool
follows e f = eqb f.sector (e.sector + e.length)

-- the next of the extents, if there is one, does
unfoldable pub followed : Run → List Run → Bool
followed e [] = true
followed e (f ∷ fs) = follows e f

unfoldable pub are_sound : List Run → Bool
are_sound [] = true
are_sound (e ∷ es) = is_sound e && (followed e es && are_sound es)

-- ---- joining

-- In the machine f begins right where e ends: in the same frame, or e ends with its frame and f begins with the frame of the next number. 2^64 - 1 has none: no word holds the number
-- after it (rule 17.11).
unfoldable pub joins : Run → Run → Bool
joins e f = (eqb f.frame e.frame && eqb f.first (e.first + e.length))
    || (eqb (e.first + e.length) frame_sectors && (eqb f.first 0 && eqb f.frame (suc e.frame)))

-- the next of the extents, if there is one, joins
unfoldable pub joins_next : Run → List Run → Bool
joins_next e [] = false
joins_next e (f ∷ fs) = joins e f

-- an extent put in front of the first group
unfoldable pub in_first : Run → List (List Run) → List (List Run)
in_first e [] = (e ∷ []) ∷ []
in_first e (g ∷ gs) = (e ∷ g) ∷ gs

-- the extents in groups: a group goes on as long as the next extent joins (rule 17.12)
unfoldable pub groups_of : List Run → List (List Run)
groups_of [] = []
groups_of (e ∷ es) = cond (joins_next e es) (in_first e (groups_of es)) ((e ∷ []) ∷ groups_of es)

-- as a whole number, with no bound
unfoldable pub total_length : List Run → ℕ
total_length [] = 0
total_length (e ∷ es) = e.length + total_length es

-- the run of a group: it begins where the first extent does, and is as long as all together (rule 17.13); there is no group without extents
unfoldable pub run_of : List Run → Run
run_of [] = record { frame = 0; first = 0; length = 0; sector = 0 }
run_of (e ∷ es) = record { frame = e.frame; first = e.first; length = total_length (e ∷ es); sector = e.sector }

unfoldable pub runs_of : List Run → List Run
runs_of es = map run_of (groups_of es)
