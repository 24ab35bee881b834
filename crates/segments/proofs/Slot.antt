-- What stands in a slot: its segments and their sectors. Assumes nothing.
use Rattle.std.proofs.Common.{◌≡◌, ℕ, zero, suc, ◌+◌, ◌-◌, ◌*◌, ◌/◌, ◌<◌, ◌≤◌, Bool, true, false, ◌&&◌, leb, List, [], ◌∷◌, ◌++◌, length, refl, ap, add-zero, add-one, zero-add, arith, le-leb, leb-true}
use borrow.Author.Tests.{lt-leb}
use Rattle.model.specs.Base.{all}
use Rattle.model.specs.Ring.{Layout, segment_of, segments_of}
use Rattle.model.specs.Checks.{is_within_frame, sectors_in, total_sectors}
use Rattle.model.specs.declared.Segment.{Segment}
use Rattle.model.proofs.Base.{and_left, and_right, and-false}

-- ---- tests over a list

-- a test of one more element
pub all_snoc : (f : Segment → Bool) (ss : List Segment) (s : Segment) → all f ss ≡ true → f s ≡ true → all f (ss ++ s ∷ []) ≡ true
unfolding all
all_snoc f [] s h e = rw e
all_snoc f (x ∷ ss) s h e = rw (and_left (f x) (all f ss) h, all_snoc f ss s (and_right (f x) (all f ss) h) e)

-- two tests at once are one after the other
pub all-and : (f g : Segment → Bool) (ss : List Segment) → all (λ (s : Segment). f s && g s) ss ≡ all f ss && all g ss
unfolding all
all-and f g [] = refl
all-and f g (s ∷ ss) = rw (all-and f g ss) (mixed (f s) (g s) (all f ss) (all g ss))
  where
    mixed : (a b c d : Bool) → (a && b) && (c && d) ≡ (a && c) && (b && d)
    mixed true true c d = refl
    mixed true false true d = refl
    mixed true false false d = refl
    mixed false b c d = refl

-- ---- segments of a slot

pub length-segments : (n : ℕ) (l : Layout) (slot : List ℕ) (k : ℕ) → length (segments_of n l slot k) ≡ n
unfolding segments_of
length-segments zero l slot k = refl
length-segments (suc n) l slot k = ap suc (length-segments n l slot (suc k))

-- one segment more, at the end
pub segments-snoc : (n : ℕ) (l : Layout) (slot : List ℕ) (k : ℕ) → segments_of (n + 1) l slot k ≡ segments_of n l slot k ++ segment_of l slot (k + n) ∷ []
unfolding segments_of
segments-snoc zero l slot k = rw add-zero
segments-snoc (suc n) l slot k =
    let e : suc n + 1 ≡ suc (n + 1) = omega arith in
    let f : suc k + n ≡ k + suc n = omega arith in
    rw (e, ← f) (ap (λ (r : List Segment). segment_of l slot k ∷ r) (segments-snoc n l slot (suc k)))

-- a test that one of them fails
all-fails : (f : Segment → Bool) (n : ℕ) (l : Layout) (slot : List ℕ) (k i : ℕ) → i < n → f (segment_of l slot (k + i)) ≡ false
    → all f (segments_of n l slot k) ≡ false
unfolding all segments_of
all-fails f zero l slot k i h e = absurd (omega arith)
all-fails f (suc n) l slot k zero h e = rw (rw add-zero at e)
all-fails f (suc n) l slot k (suc i) h e =
    let j : k + suc i ≡ suc k + i = omega arith in
    rw (all-fails f n l slot (suc k) i (omega arith) (rw j at e)) (and-false (f (segment_of l slot k)))

-- from the first on: one more that passes, or one that does not
module _ (f : Segment → Bool) (l : Layout) (slot : List ℕ) where
  pub all_more : (i : ℕ) → all f (segments_of i l slot 0) ≡ true → f (segment_of l slot i) ≡ true → all f (segments_of (i + 1) l slot 0) ≡ true
  all_more i h e = rw (segments-snoc i l slot 0, zero-add i) (all_snoc f (segments_of i l slot 0) (segment_of l slot i) h e)

  pub all_stops : (n i : ℕ) → i < n → f (segment_of l slot i) ≡ false → all f (segments_of n l slot 0) ≡ false
  all_stops n i h e = all-fails f n l slot 0 i h (rw (zero-add i) e)

-- as a loop goes that has i behind it: a test of the rest is one of the next and of those behind it
module _ (f : Segment → Bool) (l : Layout) (slot : List ℕ) where
  pub all_next : (n i : ℕ) → i < n → all f (segments_of (n - i) l slot i) ≡ f (segment_of l slot i) && all f (segments_of (n - (i + 1)) l slot (i + 1))
  unfolding all segments_of
  all_next n i h =
      let e : n - i ≡ suc (n - (i + 1)) = omega arith in
      rw (e, add-one) refl

  -- the same where a loop counts four words to each
  pub four_next : (n place : ℕ) → place < 4 * n → place ≡ 4 * (place / 4)
      → all f (segments_of (n - place / 4) l slot (place / 4)) ≡ f (segment_of l slot (place / 4)) && all f (segments_of (n - (place + 4) / 4) l slot ((place + 4) / 4))
  four_next n place h e =
      let q : (place + 4) / 4 ≡ place / 4 + 1 = omega arith in
      rw q (all_next n (place / 4) (omega arith))

  pub all_end : (n i : ℕ) → n ≤ i → all f (segments_of (n - i) l slot i) ≡ true
  unfolding all segments_of
  all_end n i h = let e : n - i ≡ 0 = omega arith in rw e refl

-- ---- sectors

pub total-snoc : (ss : List Segment) (s : Segment) → total_sectors (ss ++ s ∷ []) ≡ total_sectors ss + sectors_in s
unfolding total_sectors
total-snoc [] s = omega arith
total-snoc (x ∷ ss) s = rw (total-snoc ss s) (omega arith)

-- whether a segment is within its frame, by the code's tests
module _ (s : Segment) where
  pub within-order : s.last < s.first → is_within_frame s ≡ false
  unfolding is_within_frame
  within-order h = rw (lt-leb s.first s.last h)

  pub within_end : s.first ≤ s.last → 7 < s.last → is_within_frame s ≡ false
  unfolding is_within_frame
  within_end a h = rw (le-leb s.first s.last a, lt-leb s.last 7 h)

  pub within-yes : s.first ≤ s.last → s.last ≤ 7 → is_within_frame s ≡ true
  unfolding is_within_frame
  within-yes a h = rw (le-leb s.first s.last a, le-leb s.last 7 h)

-- and what it says
module _ (s : Segment) (w : is_within_frame s ≡ true) where
  pub within-ordered : s.first ≤ s.last
  unfolding is_within_frame
  within-ordered = leb-true s.first s.last (and_left (leb s.first s.last) (leb s.last 7) w)

  pub within-last : s.last ≤ 7
  unfolding is_within_frame
  within-last = leb-true s.last 7 (and_right (leb s.first s.last) (leb s.last 7) w)

  -- it has at most 8 sectors
  pub within-sectors : sectors_in s ≤ 8
  unfolding sectors_in
  within-sectors = omega (arith, within-ordered, within-last)

pub within-total : (ss : List Segment) → all is_within_frame ss ≡ true → total_sectors ss ≤ 8 * length ss
unfolding all total_sectors
within-total [] h = omega arith
within-total (s ∷ ss) h =
    let one = within-sectors s (and_left (is_within_frame s) (all is_within_frame ss) h) in
    let more = within-total ss (and_right (is_within_frame s) (all is_within_frame ss) h) in
    omega arith

-- for the automatic steps
pub ruleset of_frames = (all_next, all_end, within-order, within_end, within-yes)
