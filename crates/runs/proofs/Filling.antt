-- What the loop of `fill` keeps, in lists and numbers.
--     filled_none, filled_next    a list with no run put in front, and with one run more
--     Filling                     where the loop stands: the runs that are found, and the extent from which it goes on
--     start, next                 at the first extent, and behind the run that is found there
--     free, all, full             there is a record for the run that is found; where no extent is left, or no record, all the runs are found
-- Assumes nothing.
use mathlib.Core.Path.{◌≡◌, refl, sym, ap, ◌∙◌}
use Prim.Native.Nat.{ℕ, ◌-◌, ◌<◌, ◌≤◌}
use native.Mathlib.Omega.{arith}
use native.Mathlib.Nat.{sub-zero, sub_self}
use mathlib.Core.Bool.{true}
use mathlib.Core.List.{List, [], ◌∷◌, ◌++◌, append_assoc, append-nil}
use lib.ListN.{length, set, length-append}
use Rattle.runs.specs.Answer.{runs_in, filled}
use Rattle.runs.specs.Found.{Found}
use Rattle.runs.specs.Join.{extents_at, are_sound, runs_of, groups_of}
use Rattle.runs.specs.declared.FirstRun.{FirstRun}
use Rattle.runs.specs.declared.Run.{Run}

-- ---- the list

pub filled_none : (list : List Run) → filled [] list ≡ list
unfolding filled
filled_none list = refl

pub filled_next : (runs list : List Run) (r : Run) → length runs < length list → set (filled runs list) (length runs) r ≡ filled (runs ++ r ∷ []) list
unfolding filled
filled_next [] [] r l = absurd (omega arith)
filled_next [] (x ∷ xs) r l = refl
filled_next (y ∷ ys) [] r l = absurd (omega arith)
filled_next (y ∷ ys) (x ∷ xs) r l = ap (λ (zs : List Run). y ∷ zs) (filled_next ys xs r (omega arith))

-- ---- the loop

pub record Filling (words frames : List ℕ) (n : ℕ) : Type 0 where
  pub found : List Run
  pub from : ℕ
  pub within : from ≤ n
  pub sound : are_sound (extents_at words frames from (n - from)) ≡ true
  pub whole : found ++ runs_of (extents_at words frames from (n - from)) ≡ runs_in words frames n

pub all_left : (words frames : List ℕ) (n : ℕ) → runs_of (extents_at words frames 0 (n - 0)) ≡ runs_in words frames n
unfolding runs_in
all_left words frames n = rw (sub-zero n)

module _ {words frames : List ℕ} {n : ℕ} where
  abbrev pub start : are_sound (extents_at words frames 0 n) ≡ true → Filling words frames n
  start sound = record { found = []; from = 0; within = omega arith; sound = rw (sub-zero n) sound; whole = all_left words frames n }

  module _ (s : Filling words frames n) where
    abbrev pub next : (r : FirstRun) → Found words frames s.from n r → Filling words frames n
    next r f = record {
      found = s.found ++ r.run ∷ [];
      from = r.next;
      within = f.within;
      sound = f.sound;
      whole = append_assoc s.found (r.run ∷ []) _ ∙ ap (λ (rs : List Run). s.found ++ rs) (sym f.runs) ∙ s.whole;
    }

    pub free : (list : List Run) → length (runs_in words frames n) ≤ length list → (r : FirstRun) → Found words frames s.from n r → length s.found < length list
    free list h r f =
        omega (arith, ap (λ (rs : List Run). length rs) s.whole, ap (λ (rs : List Run). length rs) f.runs, length-append s.found (runs_of (extents_at words frames s.from (n - s.from))))

    pub all : s.from ≡ n → s.found ≡ runs_in words frames n
    unfolding extents_at runs_of groups_of
    all e = sym (append-nil s.found) ∙ rw (e, sub_self n) at s.whole

    -- and where there are as many of them
    pub full : length (runs_in words frames n) ≤ length s.found → s.found ≡ runs_in words frames n
    full h = none (runs_of (extents_at words frames s.from (n - s.from))) s.whole
      where
        none : (rest : List Run) → s.found ++ rest ≡ runs_in words frames n → s.found ≡ runs_in words frames n
        none [] e = sym (append-nil s.found) ∙ e
        none (r ∷ rs) e = absurd (omega (arith, ap (λ (xs : List Run). length xs) e, length-append s.found (r ∷ rs)))
