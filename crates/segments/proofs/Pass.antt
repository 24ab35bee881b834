-- What a pass over the segments has found so far, and how one more segment is taken in. Assumes nothing.
use Rattle.std.proofs.Common.{◌≡◌, ℕ, ◌+◌, ◌-◌, ◌*◌, ◌%◌, ◌^◌, ◌<◌, ◌≤◌, true, false, ◌&&◌, ltb, List, [], ◌∷◌, ◌++◌, length, get_or, take, sym, refl, ap, ◌∙◌, mod-eq_of_lt, zero-add, arith, length-append, le-ltb, lt-ltb}
use native.Mathlib.Decide.{dec_lt}
use lib.Seq.{sets, length-sets}
use Rattle.model.specs.Base.{all}
use Rattle.model.specs.Buffers.{grant_share}
use Rattle.model.specs.Checks.{suffices, is_granted, is_within_frame, sectors_in, total_sectors}
use Rattle.model.specs.Ring.{Layout, segment_of, segments_of}
use Rattle.model.specs.Plan.{Extent, extents_from, extent_words}
use Rattle.model.specs.declared.Segment.{Segment}
use Rattle.model.proofs.Base.{and_left, and_right, and-false}
use Rattle.segments.specs.Segments.{passes, Scanned}
use Rattle.std.specs.Prelude.{None, Some}
use Rattle.segments.proofs.Slot.{four_next, within-order, within_end, all-and, all_snoc, length-segments, segments-snoc, within-total, total-snoc}
use Rattle.extents.proofs.Words.{length-extents, extents-snoc, words_snoc, words-add, take_put}

-- ---- one segment

module _ (grants : List ℕ) (operation : ℕ) (s : Segment) where
  pub passes-yes : is_within_frame s ≡ true → s.frame < grant_share → suffices operation (get_or grants s.frame 0) ≡ true
      → passes grants operation s ≡ true
  unfolding passes is_granted
  passes-yes w f g = rw (w, lt-ltb s.frame 1024 f, g)

  -- 26
  pub fails_order : s.last < s.first → passes grants operation s ≡ false
  unfolding passes
  fails_order h = rw (within-order s h)

  pub fails_end : s.first ≤ s.last → 7 < s.last → passes grants operation s ≡ false
  unfolding passes
  fails_end a h = rw (within_end s a h)

  -- 27: no such frame is granted
  pub fails-frame : grant_share ≤ s.frame → passes grants operation s ≡ false
  unfolding passes is_granted
  fails-frame h = rw (le-ltb s.frame 1024 h) (and-false (is_within_frame s))

  -- 27: granted as nothing that serves
  pub fails-grant : suffices operation (get_or grants s.frame 0) ≡ false → passes grants operation s ≡ false
  unfolding passes is_granted
  fails-grant h = rw (h, and-false (ltb s.frame 1024)) (and-false (is_within_frame s))

-- segments that pass both checks pass each
pub passes-each : (grants : List ℕ) (operation : ℕ) (ss : List Segment)
    → all (passes grants operation) ss ≡ all is_within_frame ss && all (is_granted grants operation) ss
unfolding passes
passes-each grants operation ss = all-and is_within_frame (is_granted grants operation) ss

pub passes-within : (grants : List ℕ) (operation : ℕ) (ss : List Segment) → all (passes grants operation) ss ≡ true → all is_within_frame ss ≡ true
passes-within grants operation ss h = and_left (all is_within_frame ss) (all (is_granted grants operation) ss) (sym (passes-each grants operation ss) ∙ h)

pub passes-granted : (grants : List ℕ) (operation : ℕ) (ss : List Segment) → all (passes grants operation) ss ≡ true → all (is_granted grants operation) ss ≡ true
passes-granted grants operation ss h = and_right (all is_within_frame ss) (all (is_granted grants operation) ss) (sym (passes-each grants operation ss) ∙ h)

-- a small number is found again after it was added with a wrap
unwrapped : (a b s : ℕ) → a < 2 ^ 64 → b ≤ 88 → s < 2 ^ 64 → (a + s) % 2 ^ 64 ≡ (s + b) % 2 ^ 64 → a ≡ b
unwrapped a b s h k l e =
    elim (dec_lt (a + s) (2 ^ 64)) [
      | yes x ↦ elim (dec_lt (s + b) (2 ^ 64)) [ yes y ↦ omega arith | no y ↦ omega arith ]
      | no x ↦ elim (dec_lt (s + b) (2 ^ 64)) [ yes y ↦ omega arith | no y ↦ omega arith ]
    ]

-- ---- the segments so far

pub record Upto (grants : List ℕ) (operation : ℕ) (start : ℕ) (ss : List Segment) (words : List ℕ) (sector : ℕ) : Type 0 where
  pub passed : all (passes grants operation) ss ≡ true
  pub reached : sector ≡ (start + total_sectors ss) % 2 ^ 64
  pub front : start + total_sectors ss < 2 ^ 64 → take (4 * length ss) words ≡ extent_words (length ss) (extents_from start ss)
  pub long : length words ≡ 44

module _ (grants : List ℕ) (operation : ℕ) (start : ℕ) where
  -- before the first segment
  pub upto-none : (words : List ℕ) → start < 2 ^ 64 → length words ≡ 44 → Upto grants operation start [] words start
  unfolding all total_sectors extents_from extent_words
  upto-none words h l = record {
    passed = refl;
    reached = omega arith;
    front = λ _. refl;
    long = l;
  }

  -- one segment more
  pub upto-more : (ss : List Segment) (s : Segment) (words : List ℕ) (sector : ℕ) → Upto grants operation start ss words sector → length ss < 11
      → passes grants operation s ≡ true
      → Upto grants operation start (ss ++ s ∷ []) (sets words (4 * length ss) (s.frame ∷ s.first ∷ sectors_in s ∷ sector ∷ [])) ((sector + sectors_in s) % 2 ^ 64)
  upto-more ss s words sector u h e = record {
    passed = all_snoc (passes grants operation) ss s u.passed e;
    reached = rw (total-snoc ss s, u.reached) (omega arith);
    front = λ l. more (rw (total-snoc ss s) at l);
    long = length-sets words (4 * length ss) (s.frame ∷ s.first ∷ sectors_in s ∷ sector ∷ []) ∙ u.long;
  }
    where
      x : Extent
      x = record { frame = s.frame; first = s.first; count = sectors_in s; sector = start + total_sectors ss }

      more : start + (total_sectors ss + sectors_in s) < 2 ^ 64
          → take (4 * length (ss ++ s ∷ [])) (sets words (4 * length ss) (s.frame ∷ s.first ∷ sectors_in s ∷ sector ∷ []))
          ≡ extent_words (length (ss ++ s ∷ [])) (extents_from start (ss ++ s ∷ []))
      more l =
          let k : start + total_sectors ss < 2 ^ 64 = omega arith in
          let here : sector ≡ start + total_sectors ss = u.reached ∙ mod-eq_of_lt k in
          let q : length (ss ++ s ∷ []) ≡ length ss + 1 = length-append ss (s ∷ []) in
          rw (q, extents-snoc start ss s, rw (length-extents start ss) at (words_snoc (extents_from start ss) x), take_put words (length ss) s.frame s.first (sectors_in s) sector (omega arith), u.front k, here)

  -- the next segment of a slot, with the words that the code puts for it
  pub upto_next : (l : Layout) (slot : List ℕ) (i : ℕ) (words : List ℕ) (sector : ℕ) → Upto grants operation start (segments_of i l slot 0) words sector → i < 11
      → passes grants operation (segment_of l slot i) ≡ true
      → (frame first len : ℕ) → frame ≡ (segment_of l slot i).frame → first ≡ (segment_of l slot i).first → len ≡ sectors_in (segment_of l slot i)
      → Upto grants operation start (segments_of (i + 1) l slot 0) (sets words (4 * i) (frame ∷ first ∷ len ∷ sector ∷ [])) ((sector + len) % 2 ^ 64)
  upto_next l slot i words sector u h e frame first len a b c =
      rw (a, b, c, segments-snoc i l slot 0, zero-add i)
      (rw (length-segments i l slot 0) at
      (upto-more (segments_of i l slot 0) (segment_of l slot i) words sector u (omega (arith, length-segments i l slot 0)) e))

  -- after the last: the sectors passed over are those of the segments
  pub upto_all : (ss : List Segment) (words : List ℕ) (sector count : ℕ) → Upto grants operation start ss words sector → length ss ≤ 11
      → start < 2 ^ 64 → (count + start) % 2 ^ 64 ≡ sector → count < 2 ^ 64 → Scanned grants operation start ss (Some count) words
  upto_all ss words sector count u h i e l =
      let few : total_sectors ss ≤ 8 * length ss = within-total ss (passes-within grants operation ss u.passed) in
      let same : count ≡ total_sectors ss = unwrapped count (total_sectors ss) start l (omega arith) i (e ∙ u.reached) in
      record { found = rw u.passed (ap (λ (x : ℕ). Some x) same); front = λ _ k. u.front k }

  -- a segment that does not pass
  pub scan_fails : (ss : List Segment) (words : List ℕ) → all (passes grants operation) ss ≡ false → Scanned grants operation start ss None words
  scan_fails ss words h = record { found = rw h; front = λ e. let z : ◌≡◌ {A = ℕ} 0 1 = cc in absurd (omega arith) }

-- ---- the words of all places

-- the words of all places: the extents' in front, zeros behind
pub words-all : (start n : ℕ) (ss : List Segment) (words : List ℕ) → length ss ≡ n → n ≤ 11
    → take (4 * n) words ≡ extent_words n (extents_from start ss) → take (4 * n) words ++ extent_words (11 - n) [] ≡ extent_words 11 (extents_from start ss)
words-all start n ss words l h e =
    let whole : n + (11 - n) ≡ 11 = omega arith in
    rw e (rw whole at (sym (words-add n (11 - n) (extents_from start ss) (omega (arith, length-extents start ss)))))

-- for the automatic steps
pub ruleset of_scan = (four_next, scan_fails, fails_order, fails_end, fails-frame, fails-grant)
