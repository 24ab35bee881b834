-- The extents from a place on: the first of them, how it stands to the next, and whether they are sound. Assumes nothing.
use borrow.Author.Tests.{eqb-true, leb-true, ltb-true}
use mathlib.Core.Path.{◌≡◌, refl, ap, ◌∙◌}
use mathlib.Core.Bool.{Bool, true, false, ◌&&◌}
use mathlib.Core.List.{List, [], ◌∷◌}
use Prim.Native.Nat.{ℕ, zero, suc, ◌+◌, ◌-◌, ◌<◌, ◌≤◌, ◌^◌}
use native.Mathlib.Decide.{dec_lt}
use native.Mathlib.Omega.{arith}
use lib.Dec.{ltb, leb}
use Rattle.model.proofs.Base.{clash, and_left, and_right}
use Rattle.runs.specs.Join.{extent_at, extents_at, is_sound, follows, followed, are_sound, joins, joins_next}
use Rattle.runs.specs.declared.Run.{Run}

module _ (words frames : List ℕ) where
  -- the one there, and those behind it
  pub extents-cons : (i n : ℕ) → i < n → extents_at words frames i (n - i) ≡ extent_at words frames i ∷ extents_at words frames (i + 1) (n - (i + 1))
  unfolding extents_at
  extents-cons i n h =
      let more : n - i ≡ suc (n - (i + 1)) = omega arith in
      let next : i + 1 ≡ suc i = omega arith in
      rw (more, next)

  -- none is left at the end
  pub extents-none : (i n : ℕ) → i ≡ n → extents_at words frames i (n - i) ≡ []
  unfolding extents_at
  extents-none i n h =
      let none : n - i ≡ zero = omega arith in
      rw none

  module _ (e : Run) (i n : ℕ) where
    -- the last is followed by none, and joins none
    pub last-followed : i + 1 ≡ n → followed e (extents_at words frames (i + 1) (n - (i + 1))) ≡ true
    unfolding followed
    last-followed h = rw (extents-none (i + 1) n h)

    pub last-joins : i + 1 ≡ n → joins_next e (extents_at words frames (i + 1) (n - (i + 1))) ≡ false
    unfolding joins_next
    last-joins h = rw (extents-none (i + 1) n h)

    -- the others, as they stand to the next
    pub next-followed : i + 1 < n → followed e (extents_at words frames (i + 1) (n - (i + 1))) ≡ follows e (extent_at words frames (i + 1))
    unfolding followed
    next-followed h = rw (extents-cons (i + 1) n h)

    pub next-joins : i + 1 < n → joins_next e (extents_at words frames (i + 1) (n - (i + 1))) ≡ joins e (extent_at words frames (i + 1))
    unfolding joins_next
    next-joins h = rw (extents-cons (i + 1) n h)

    -- one that joins the next has one
    pub joins-within : i < n → joins_next e (extents_at words frames (i + 1) (n - (i + 1))) ≡ true → i + 1 < n
    joins-within h j = elim (dec_lt (i + 1) n) [
      | yes l ↦ l
      | no l ↦ clash j (last-joins (omega arith))
    ]

-- ---- sound extents

pub sound_none : are_sound [] ≡ true
unfolding are_sound
sound_none = refl

module _ (e : Run) (es : List Run) where
  pub sound-on : is_sound e && followed e es ≡ true → are_sound (e ∷ es) ≡ are_sound es
  unfolding are_sound
  sound-on h = rw (and_left (is_sound e) (followed e es) h, and_right (is_sound e) (followed e es) h)

  pub sound-off : is_sound e && followed e es ≡ false → are_sound (e ∷ es) ≡ false
  unfolding are_sound
  sound-off = off (is_sound e) (followed e es) (are_sound es)
    where
      off : (a b c : Bool) → a && b ≡ false → a && (b && c) ≡ false
      off true b c h = rw h
      off false b c h = refl

  module _ (h : are_sound (e ∷ es) ≡ true) where
    pub sound-first : is_sound e ≡ true
    unfolding are_sound
    sound-first = and_left (is_sound e) (followed e es && are_sound es) h

    pub sound-next : followed e es ≡ true
    unfolding are_sound
    sound-next = and_left (followed e es) (are_sound es) (and_right (is_sound e) (followed e es && are_sound es) h)

    pub sound-rest : are_sound es ≡ true
    unfolding are_sound
    sound-rest = and_right (followed e es) (are_sound es) (and_right (is_sound e) (followed e es && are_sound es) h)

module _ (e : Run) (h : is_sound e ≡ true) where
  abbrev some : Bool
  some = leb 1 e.length

  abbrev framed : Bool
  framed = leb (e.first + e.length) 8

  abbrev placed : Bool
  placed = ltb (e.sector + e.length) (2 ^ 64)

  pub sound-some : 1 ≤ e.length
  unfolding is_sound
  sound-some = leb-true 1 e.length (and_left some (framed && placed) h)

  pub sound-frame : e.first + e.length ≤ 8
  unfolding is_sound
  sound-frame = leb-true (e.first + e.length) 8 (and_left framed placed (and_right some (framed && placed) h))

  pub sound-disk : e.sector + e.length < 2 ^ 64
  unfolding is_sound
  sound-disk = ltb-true (e.sector + e.length) (2 ^ 64) (and_right framed placed (and_right some (framed && placed) h))

pub follows-at : (e f : Run) → follows e f ≡ true → f.sector ≡ e.sector + e.length
unfolding follows
follows-at e f h = eqb-true f.sector (e.sector + e.length) h

pub ruleset neighbours = (last-followed, last-joins, next-followed, next-joins)

-- ---- the extents that are left, as the loops of the code look at them

module _ (words frames : List ℕ) (i n : ℕ) (h : i < n) where
  abbrev here : Run
  here = extent_at words frames i

  abbrev behind : List Run
  behind = extents_at words frames (i + 1) (n - (i + 1))

  pub sound_left_on : is_sound here && followed here behind ≡ true → are_sound (extents_at words frames i (n - i)) ≡ are_sound behind
  sound_left_on s = ap are_sound (extents-cons words frames i n h) ∙ sound-on here behind s

  pub sound_left_off : is_sound here && followed here behind ≡ false → are_sound (extents_at words frames i (n - i)) ≡ false
  sound_left_off s = ap are_sound (extents-cons words frames i n h) ∙ sound-off here behind s

pub sound_left_none : (words frames : List ℕ) (i n : ℕ) → i ≡ n → are_sound (extents_at words frames i (n - i)) ≡ true
sound_left_none words frames i n h = ap are_sound (extents-none words frames i n h) ∙ sound_none

pub ruleset sound_left = (sound_left_on, sound_left_off, sound_left_none)
