-- The whole call is `judge`, then `fill` of as many extents as are `taken`. Assumes nothing.
--     ready    what `fill` asks holds of them: where the call is refused they are none
--     left     what `fill` leaves of them is the list that the call is to leave
use mathlib.Core.Path.{◌≡◌, refl, ◌∙◌}
use Prim.Native.Nat.{ℕ, zero, suc, ◌*◌, ◌/◌, ◌≤◌}
use mathlib.Core.Bool.{Bool, true, false, not, ◌&&◌}
use mathlib.Core.List.{List, []}
use lib.Dec.{ltb}
use lib.ListN.{length}
use native.Mathlib.Omega.{arith}
use borrow.Author.Tests.{ltb-false, not-false}
use Rattle.model.proofs.Base.{by_cond, or_left, or_right}
use Rattle.runs.specs.Join.{extent_at, extents_at, is_sound, follows, followed, are_sound, groups_of, runs_of}
use Rattle.runs.specs.Answer.{Joined, is_no_plan, runs_in, joined, filled, left_list, taken}
use Rattle.std.specs.Prelude.{Ok, Err}
use Rattle.runs.specs.declared.Run.{Run}

-- ---- no machine frame makes an extent sound

same-followed : (words frames frames' : List ℕ) (i n : ℕ)
    → followed (extent_at words frames i) (extents_at words frames (suc i) n) ≡ followed (extent_at words frames' i) (extents_at words frames' (suc i) n)
unfolding followed extents_at follows extent_at
same-followed words frames frames' i zero = refl
same-followed words frames frames' i (suc n) = refl

same-sound : (words frames frames' : List ℕ) (i n : ℕ) → are_sound (extents_at words frames i n) ≡ are_sound (extents_at words frames' i n)
unfolding are_sound extents_at is_sound extent_at
same-sound words frames frames' i zero = refl
same-sound words frames frames' i (suc n) = λ k. is_sound (extent_at words frames i) && (same-followed words frames frames' i n k && same-sound words frames frames' (suc i) n k)

-- ---- what is asked, and what is left

abbrev pub Ready : List ℕ → List ℕ → List Run → ℕ → Type 0
Ready words frames list m = (4 * m ≤ length words) × ((m ≤ length frames) × ((are_sound (extents_at words frames 0 m) ≡ true) × (length (runs_in words frames m) ≤ length list)))

ready-none : (words frames : List ℕ) (list : List Run) → Ready words frames list 0
unfolding are_sound extents_at runs_in runs_of groups_of
ready-none words frames list = (omega arith, (omega arith, (refl, omega arith)))

planned : (words : List ℕ) (n : ℕ) → is_no_plan words n ≡ false → (4 * n ≤ length words) × (are_sound (extents_at words [] 0 n) ≡ true)
unfolding is_no_plan
planned words n e =
    let wrong : Bool = not (are_sound (extents_at words [] 0 n)) in
    let few : n ≤ length words / 4 = ltb-false (length words / 4) n (or_left (ltb (length words / 4) n) wrong e) in
    (omega arith, not-false _ (or_right (ltb (length words / 4) n) wrong e))

pub ready : (words : List ℕ) (n : ℕ) (frames : List ℕ) (list : List Run) → Ready words frames list (taken n (joined words n frames (length list)))
unfolding joined
ready words n frames list =
    by_cond P (is_no_plan words n) _ _ (λ _. ready-none words frames list) (λ plan.
    by_cond P (ltb (length frames) n) _ _ (λ _. ready-none words frames list) (λ enough.
    by_cond P (ltb (length list) (length (runs_in words frames n))) _ _ (λ _. ready-none words frames list) (λ room.
    ((planned words n plan).0, (ltb-false _ n enough, (same-sound words frames [] 0 n ∙ (planned words n plan).1, ltb-false (length list) _ room))))))
  where
    P : Joined → Type 0
    P j = Ready words frames list (taken n j)

pub left : (words : List ℕ) (n : ℕ) (frames : List ℕ) (list : List Run) (j : Joined) → filled (runs_in words frames (taken n j)) list ≡ left_list (runs_in words frames n) list j
unfolding filled runs_in runs_of groups_of extents_at
left words n frames list (Err why) = refl
left words n frames list (Ok k) = refl
