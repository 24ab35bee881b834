-- Extents and their words, one more and one after another. Assumes nothing.
use mathlib.Core.Path.{◌≡◌, refl, ap, ◌∙◌}
use mathlib.Core.List.{List, [], ◌∷◌, ◌++◌}
use Prim.Native.Nat.{ℕ, zero, suc, ◌+◌, ◌-◌, ◌*◌, ◌≤◌}
use native.Mathlib.Nat.{zero-add, suc-add, add-zero, add_assoc}
use native.Mathlib.Omega.{arith}
use lib.ListN.{length, take, drop, replicate, length-append}
use borrow.Rule.Slice.PartMut.{put_mid}
use Rattle.std.proofs.lemmas.List.{append-nil, drop_all, length-drop}
use lib.Seq.{sets, sets-eq, take_at, length-take-le}
use Rattle.model.specs.Checks.{sectors_in, total_sectors}
use Rattle.model.specs.Plan.{Extent, extents_from, extent_words}
use Rattle.model.specs.declared.Segment.{Segment}

-- ---- extents

pub length-extents : (at : ℕ) (ss : List Segment) → length (extents_from at ss) ≡ length ss
unfolding extents_from
length-extents at [] = refl
length-extents at (s ∷ ss) = ap suc (length-extents (at + sectors_in s) ss)

-- one segment more is one extent more, behind all sectors before it
pub extents-snoc : (at : ℕ) (ss : List Segment) (s : Segment)
    → extents_from at (ss ++ s ∷ []) ≡ extents_from at ss ++ record { frame = s.frame; first = s.first; count = sectors_in s; sector = at + total_sectors ss } ∷ []
unfolding extents_from total_sectors
extents-snoc at [] s = rw add-zero
extents-snoc at (x ∷ ss) s = rw (extents-snoc (at + sectors_in x) ss s, add_assoc at (sectors_in x) (total_sectors ss))

-- ---- words

pub length-words : (n : ℕ) (es : List Extent) → length (extent_words n es) ≡ 4 * n
unfolding extent_words
length-words zero es = refl
length-words (suc n) [] = omega (arith, length-words n [])
length-words (suc n) (e ∷ es) = omega (arith, length-words n es)

-- the words of one extent more
pub words_snoc : (es : List Extent) (e : Extent)
    → extent_words (length es + 1) (es ++ e ∷ []) ≡ extent_words (length es) es ++ e.frame ∷ e.first ∷ e.count ∷ e.sector ∷ []
unfolding extent_words
words_snoc [] e = refl
words_snoc (x ∷ es) e =
    let j : suc (length es) + 1 ≡ suc (length es + 1) = omega arith in
    rw (j, words_snoc es e)

-- places beyond the last extent are zero
pub words-add : (n m : ℕ) (es : List Extent) → length es ≤ n → extent_words (n + m) es ≡ extent_words n es ++ extent_words m []
unfolding extent_words
words-add zero m [] h = rw zero-add
words-add zero m (e ∷ es) h = absurd (omega arith)
words-add (suc n) m [] h = rw (suc-add n m, words-add n m [] (omega arith))
words-add (suc n) m (e ∷ es) h = rw (suc-add n m, words-add n m es (omega arith))

-- four words put behind those of i places
pub take_put : (w : List ℕ) (i a b c d : ℕ) → 4 * i + 4 ≤ length w
    → take (4 * (i + 1)) (sets w (4 * i) (a ∷ b ∷ c ∷ d ∷ [])) ≡ take (4 * i) w ++ a ∷ b ∷ c ∷ d ∷ []
take_put w i a b c d h =
    let e : 4 * (i + 1) ≡ 4 * i + 4 = omega arith in
    let front = take (4 * i) w in
    rw (e, sets-eq (a ∷ b ∷ c ∷ d ∷ []) w (4 * i) h)
    (take_at (front ++ a ∷ b ∷ c ∷ d ∷ []) _ (4 * i + 4) (length-append front (a ∷ b ∷ c ∷ d ∷ []) ∙ omega (arith, length-take-le (4 * i) w (omega arith))))

-- places without an extent are zeros, four to each
zeros : (n : ℕ) → extent_words n [] ≡ replicate (4 * n) 0
unfolding extent_words
zeros zero = refl
zeros (suc n) = let j : 4 * suc n ≡ suc (suc (suc (suc (4 * n)))) = omega arith in rw (j, zeros n)

-- zeros put over all words from those of a place on
pub cleared_behind : (w ys : List ℕ) (from : ℕ) → length w ≡ 44 → from ≤ 11 → ys ≡ replicate (44 - 4 * from) 0
    → put_mid (4 * from) (44 - 4 * from) w ys ≡ take (4 * from) w ++ extent_words (11 - from) []
cleared_behind w ys from l h e =
    let k : 4 * (11 - from) ≡ 44 - 4 * from = omega arith in
    let behind : drop (44 - 4 * from) (drop (4 * from) w) ≡ [] = drop_all (44 - 4 * from) (drop (4 * from) w) (omega (arith, length-drop (4 * from) w)) in
    rw (e, behind, zeros (11 - from), k) (ap (λ (x : List ℕ). take (4 * from) w ++ x) (append-nil (replicate (44 - 4 * from) 0)))
