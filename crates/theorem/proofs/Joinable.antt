-- No plan's extents are refused joining with 10. Assumes nothing.
use borrow.Author.Tests.{le-ltb, lt-ltb, le-leb, eq-eqb, ne_eqb, leb-true, ltb-false, not-false}
use mathlib.Core.Path.{◌≡◌, refl, ◌∙◌, ap, subst}
use mathlib.Core.Bool.{true, false}
use mathlib.Core.List.{List, [], ◌∷◌, map}
use Prim.Native.Nat.{ℕ, zero, suc, ◌+◌, ◌*◌, ◌-◌, ◌<◌, ◌≤◌, ◌^◌}
use native.Mathlib.Decide.{ℕ_discrete}
use native.Mathlib.Omega.{arith}
use lib.Dec.{leb}
use lib.ListN.{length}
use Rattle.model.specs.Base.{all}
use Rattle.model.specs.Checks.{max_segments, is_within_frame, sectors_in, total_sectors, count_of, wrong_segment, past_end, operation_checks, segment_checks, disk_checks, checks, first_failed}
use Rattle.model.specs.Plan.{Extent, extents_from, extents_of, extent_words, plan_of, verdict_of, words_beside}
use Rattle.model.specs.Ring.{Layout, Request, segments_of, request_of}
use Rattle.model.specs.declared.Params.{Params}
use Rattle.model.specs.declared.Plan.{Plan}
use Rattle.model.specs.declared.Segment.{Segment}
use Rattle.std.specs.Prelude.{Ok}
use Rattle.model.proofs.Base.{and_left, and_right}
use Rattle.extents.proofs.Words.{length-extents, length-words}
use Rattle.checks.proofs.Steps.{none-fails, all-passed}
use Rattle.segments.proofs.Slot.{length-segments}
use Rattle.verdicts.proofs.Verdict.{moves, few-segments}
use Rattle.request.proofs.Expected.{known, amount}
use Rattle.runs.specs.Answer.{is_no_plan}
use Rattle.runs.specs.Join.{extent_at, extents_at, is_sound, follows, followed, are_sound}
use Rattle.runs.specs.declared.Run.{Run}
use Rattle.runs.proofs.Extents.{sound_none}
use Rattle.theorem.specs.Joinable.{Joinable}

-- ---- the words of extents, read as joining reads them

-- an extent without its frame
abbrev bare : Extent → Run
bare e = record { frame = 0; first = e.first; length = e.count; sector = e.sector }

one_on : (a b c d : ℕ) (w : List ℕ) (i : ℕ) → extent_at (a ∷ b ∷ c ∷ d ∷ w) [] (suc i) ≡ extent_at w [] i
unfolding extent_at
one_on a b c d w i =
    let one : 4 * suc i + 1 ≡ suc (suc (suc (suc (4 * i + 1)))) = omega arith in
    let two : 4 * suc i + 2 ≡ suc (suc (suc (suc (4 * i + 2)))) = omega arith in
    let three : 4 * suc i + 3 ≡ suc (suc (suc (suc (4 * i + 3)))) = omega arith in
    rw (one, two, three)

all-on : (a b c d : ℕ) (w : List ℕ) (i n : ℕ) → extents_at (a ∷ b ∷ c ∷ d ∷ w) [] (suc i) n ≡ extents_at w [] i n
unfolding extents_at
all-on a b c d w i zero = refl
all-on a b c d w i (suc n) = rw (one_on a b c d w i) (ap (λ (es : List Run). extent_at w [] i ∷ es) (all-on a b c d w (suc i) n))

as_read : (m : ℕ) (es : List Extent) → length es ≤ m → extents_at (extent_words m es) [] 0 (length es) ≡ map bare es
unfolding extents_at extent_at extent_words
as_read m [] h = refl
as_read zero (e ∷ es) h = absurd (omega arith)
as_read (suc m) (e ∷ es) h = ap (λ (rs : List Run). bare e ∷ rs) (all-on e.frame e.first e.count e.sector (extent_words m es) 0 (length es) ∙ as_read m es (omega arith))

-- ---- extents of segments within their frames, on a disk

-- each begins where the one before it ends
next : (at : ℕ) (s : Segment) (ss : List Segment) → followed (record { frame = 0; first = s.first; length = sectors_in s; sector = at }) (map bare (extents_from (at + sectors_in s) ss)) ≡ true
unfolding followed extents_from follows
next at s [] = refl
next at s (t ∷ ts) = eq-eqb (at + sectors_in s) (at + sectors_in s) refl

in_frame : (at : ℕ) (s : Segment) → is_within_frame s ≡ true → at + sectors_in s < 2 ^ 64 → is_sound (record { frame = 0; first = s.first; length = sectors_in s; sector = at }) ≡ true
unfolding is_sound is_within_frame sectors_in
in_frame at s w h =
    let rising = leb-true s.first s.last (and_left (leb s.first s.last) (leb s.last 7) w) in
    let ends = leb-true s.last 7 (and_right (leb s.first s.last) (leb s.last 7) w) in
    rw (le-leb 1 (s.last + 1 - s.first) (omega arith), le-leb (s.first + (s.last + 1 - s.first)) 8 (omega arith), lt-ltb (at + (s.last + 1 - s.first)) (2 ^ 64) h)

sound-from : (at : ℕ) (ss : List Segment) → all is_within_frame ss ≡ true → at + total_sectors ss < 2 ^ 64 → are_sound (map bare (extents_from at ss)) ≡ true
unfolding are_sound extents_from all total_sectors
sound-from at [] w h = refl
sound-from at (s ∷ ss) w h =
    rw (in_frame at s (and_left (is_within_frame s) (all is_within_frame ss) w) (omega arith), next at s ss)
    (sound-from (at + sectors_in s) ss (and_right (is_within_frame s) (all is_within_frame ss) w) (omega arith))

-- ---- a request that starts

-- such extents, no more than there are places, are a plan's
passes : (es : List Extent) → length es ≤ max_segments → are_sound (map bare es) ≡ true → is_no_plan (extent_words max_segments es) (length es) ≡ false
unfolding is_no_plan
passes es h s = rw (length-words max_segments es, as_read max_segments es h, s, le-ltb 11 (length es) h)

module _ (p : Params) (l : Layout) (grants slot : List ℕ) (plan : Plan) (disk : p.sectors < 2 ^ 64) (e : verdict_of p grants (request_of l slot) ≡ Ok plan) where
  abbrev r : Request
  r = request_of l slot

  passed : first_failed (checks p grants r) ≡ Ok tt
  passed = (all-passed p grants r plan e).0

  within : (r.pair.operation ≡ 5 → ⊥) → all is_within_frame r.segments ≡ true
  unfolding checks operation_checks segment_checks wrong_segment
  within d = not-false _ (rw (ne_eqb r.pair.operation 5 d) at (none-fails (checks p grants r) 4 passed))

  on-disk : (r.pair.operation ≡ 5 → ⊥) → (r.n ≡ 0 → ⊥) → r.start + total_sectors r.segments ≤ p.sectors
  unfolding checks operation_checks segment_checks disk_checks past_end count_of
  on-disk d k =
      let idle = moves r (known p l grants slot plan e) (amount p l grants slot plan e) d k in
      ltb-false p.sectors (r.start + total_sectors r.segments) (rw (idle, ne_eqb r.pair.operation 5 d) at (none-fails (checks p grants r) 6 passed))

  none-sound : r.n ≡ 0 → are_sound (map bare (extents_from r.start r.segments)) ≡ true
  unfolding segments_of request_of extents_from are_sound
  none-sound k = rw k

  segment-count : length r.segments ≡ r.n
  unfolding request_of
  segment-count = length-segments _ l slot 0

  few : (r.pair.operation ≡ 5 → ⊥) → length (extents_from r.start r.segments) ≤ max_segments
  few d = omega (arith, length-extents r.start r.segments, segment-count, few-segments r (known p l grants slot plan e) (amount p l grants slot plan e) d)

  -- a discard has no extents, nor has a request without segments
  joins : Dec (r.pair.operation ≡ 5) → Dec (r.n ≡ 0) → is_no_plan (extent_words max_segments (extents_of r)) (length (extents_of r)) ≡ false
  unfolding extents_of
  joins (yes o) k = rw o (passes [] (omega arith) sound_none)
  joins (no d) (yes k) = rw (ne_eqb r.pair.operation 5 d) (passes (extents_from r.start r.segments) (few d) (none-sound k))
  joins (no d) (no k) = rw (ne_eqb r.pair.operation 5 d) (passes (extents_from r.start r.segments) (few d) (sound-from r.start r.segments (within d) (omega (arith, on-disk d k))))

pub joinable : Joinable
unfolding words_beside plan_of
joinable p l grants slot plan disk e =
    let r = request_of l slot in
    subst (λ (n : ℕ). is_no_plan (extent_words max_segments (extents_of r)) n ≡ false) (ap (λ (q : Plan). q.extents) (all-passed p grants r plan e).1)
    (joins p l grants slot plan disk e (ℕ_discrete r.pair.operation 5) (ℕ_discrete r.n 0))
