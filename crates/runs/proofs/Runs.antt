-- The runs of extents, one extent at a time from the front. Assumes nothing.
use mathlib.Core.Path.{◌≡◌, refl, sym, ◌∙◌, ap}
use mathlib.Core.Bool.{Bool, true, false, cond}
use mathlib.Core.List.{List, [], ◌∷◌, map}
use Prim.Native.Nat.{ℕ, suc, ◌+◌, ◌-◌, ◌<◌, ◌≤◌}
use native.Mathlib.Nat.{add_assoc, add-zero, zero-add}
use native.Mathlib.Omega.{arith}
use lib.ListN.{length}
use Rattle.model.proofs.Base.{by_cond, clash}
use Rattle.runs.specs.Join.{extent_at, extents_at, joins_next, in_first, groups_of, total_length, run_of, runs_of}
use Rattle.runs.specs.declared.Run.{Run}
use Rattle.runs.proofs.Extents.{extents-cons, extents-none}

-- the first group begins with the first extent
pub record Begun (e : Run) (groups : List (List Run)) : Type 0 where
  pub more : List Run
  pub others : List (List Run)
  pub is : groups ≡ (e ∷ more) ∷ others

pub begun : (e : Run) (es : List Run) → Begun e (groups_of (e ∷ es))
unfolding groups_of in_first
begun e es = by-test (joins_next e es) (groups_of es)
  where
    by-test : (b : Bool) (gs : List (List Run)) → Begun e (cond b (in_first e gs) ((e ∷ []) ∷ gs))
    by-test true [] = record { more = []; others = []; is = refl }
    by-test true (g ∷ gs) = record { more = g; others = gs; is = refl }
    by-test false gs = record { more = []; others = gs; is = refl }

pub in-first : (e : Run) (g : List Run) (gs : List (List Run)) → in_first e (g ∷ gs) ≡ (e ∷ g) ∷ gs
unfolding in_first
in-first e g gs = refl

-- where the next does not join, a run ends
pub runs-apart : (e : Run) (es : List Run) → joins_next e es ≡ false → runs_of (e ∷ es) ≡ run_of (e ∷ []) ∷ runs_of es
unfolding runs_of groups_of
runs-apart e es j = rw j

-- and where it does, the run goes on
pub groups-joined : (e f : Run) (fs : List Run) → joins_next e (f ∷ fs) ≡ true → groups_of (e ∷ f ∷ fs) ≡ (e ∷ f ∷ (begun f fs).more) ∷ (begun f fs).others
unfolding groups_of
groups-joined e f fs j = rw j (ap (in_first e) (begun f fs).is ∙ in-first e (f ∷ (begun f fs).more) (begun f fs).others)

-- ---- how many

pub count-apart : (e : Run) (es : List Run) → joins_next e es ≡ false → length (runs_of (e ∷ es)) ≡ suc (length (runs_of es))
count-apart e es j = ap length (runs-apart e es j)

pub count-joined : (e : Run) (es : List Run) → joins_next e es ≡ true → length (runs_of (e ∷ es)) ≡ length (runs_of es)
unfolding joins_next runs_of
count-joined e [] j = clash j refl
count-joined e (f ∷ fs) j = ap (λ (gs : List (List Run)). length (map run_of gs)) (groups-joined e f fs j) ∙ sym (ap (λ (gs : List (List Run)). length (map run_of gs)) (begun f fs).is)

-- by the test
pub count-on : (e : Run) (es : List Run) → length (runs_of (e ∷ es)) ≡ cond (joins_next e es) 0 1 + length (runs_of es)
count-on e es = by_cond (λ k. length (runs_of (e ∷ es)) ≡ k + length (runs_of es)) (joins_next e es) 0 1
    (λ j. count-joined e es j ∙ sym (zero-add (length (runs_of es))))
    (λ j. count-apart e es j ∙ one_more (length (runs_of es)))
  where
    one_more : (k : ℕ) → suc k ≡ 1 + k
    one_more k = omega arith

-- at most one run ends with an extent
pub ending-one : (b : Bool) → cond b 0 1 ≤ 1
ending-one true = omega arith
ending-one false = omega arith

pub count_none : length (runs_of []) ≡ 0
unfolding runs_of groups_of
count_none = refl

-- of the extents that are left, as the loop of the code looks at them
module _ (words frames : List ℕ) (i n : ℕ) where
  abbrev here : Run
  here = extent_at words frames i

  abbrev rest : List Run
  rest = extents_at words frames (i + 1) (n - (i + 1))

  pub count_left_on : i < n → joins_next here rest ≡ true → length (runs_of (extents_at words frames i (n - i))) ≡ length (runs_of rest)
  count_left_on h j = ap (λ (es : List Run). length (runs_of es)) (extents-cons words frames i n h) ∙ count-joined here rest j

  pub count_left_off : i < n → joins_next here rest ≡ false → length (runs_of (extents_at words frames i (n - i))) ≡ suc (length (runs_of rest))
  count_left_off h j = ap (λ (es : List Run). length (runs_of es)) (extents-cons words frames i n h) ∙ count-apart here rest j

  pub count_left_none : i ≡ n → length (runs_of (extents_at words frames i (n - i))) ≡ 0
  count_left_none h = ap (λ (es : List Run). length (runs_of es)) (extents-none words frames i n h) ∙ count_none

pub ruleset count_left = (count_left_on, count_left_off, count_left_none)

-- ---- the first one

-- The runs, where k sectors from the start of e on stand before the first of them and belong to it.
unfoldable pub behind : Run → ℕ → List Run → List Run
behind e k [] = []
behind e k (r ∷ rs) = record { frame = e.frame; first = e.first; length = k + r.length; sector = e.sector } ∷ rs

pub behind-none : (e : Run) (es : List Run) → runs_of (e ∷ es) ≡ behind e 0 (runs_of (e ∷ es))
unfolding runs_of behind run_of
behind-none e es = rw (begun e es).is (rw zero-add)

module _ (e f : Run) (k : ℕ) where
  pub behind-apart : (fs : List Run) → joins_next f fs ≡ false
      → behind e k (runs_of (f ∷ fs)) ≡ record { frame = e.frame; first = e.first; length = k + f.length; sector = e.sector } ∷ runs_of fs
  unfolding behind run_of total_length
  behind-apart fs j = rw (runs-apart f fs j) (rw add-zero)

  pub behind-joined : (fs : List Run) → joins_next f fs ≡ true → behind e k (runs_of (f ∷ fs)) ≡ behind e (k + f.length) (runs_of fs)
  unfolding joins_next runs_of behind run_of total_length
  behind-joined [] j = clash j refl
  behind-joined (g ∷ gs) j = rw (groups-joined f g gs j, (begun g gs).is) (rw add_assoc)
