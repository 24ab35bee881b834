-- What holds of every call. Assumes nothing.
use mathlib.Core.Path.{◌≡◌, refl, ◌∙◌, ap, subst}
use mathlib.Core.List.{List}
use Prim.Native.Nat.{ℕ}
use native.Mathlib.Omega.{arith}
use lib.Dec.{ltb}
use lib.ListN.{length, take, drop, set}
use lib.Seq.{take-append_seam, drop-append_seam}
use Rattle.model.proofs.Base.{by_cond}
use Rattle.runs.specs.Answer.{Joined, is_no_plan, runs_in, joined, filled, left_list, joined_number, joined_words, taken, JoinReturned}
use Rattle.runs.specs.Join.{extents_at, runs_of}
use Rattle.runs.specs.Theorems.{JoinHolds, JoinTheorem}
use Rattle.std.specs.Prelude.{Ok, Err}
use Rattle.runs.specs.declared.Run.{Run}
use Rattle.runs.proofs.Answered.{Ready, ready}
use Rattle.runs.proofs.Covers.{neighbours, same, once}
use Rattle.runs.proofs.Fewest.{grouping, fewest}

-- a call that returns 0 has taken all the extents, and filled the list with their runs
done : (words : List ℕ) (n : ℕ) (frames : List ℕ) (list : List Run) (answer : List ℕ) → 0 ≡ joined_number (joined words n frames (length list))
    → (taken n (joined words n frames (length list)) ≡ n) × ((left_list (runs_in words frames n) list (joined words n frames (length list)) ≡ filled (runs_in words frames n) list)
    × (joined_words answer (joined words n frames (length list)) ≡ set answer 0 (length (runs_in words frames n))))
unfolding joined
done words n frames list answer =
    by_cond P (is_no_plan words n) _ _ (λ _ z. absurd (omega arith)) (λ _.
    by_cond P (ltb (length frames) n) _ _ (λ _ z. absurd (omega arith)) (λ _.
    by_cond P (ltb (length list) (length (runs_in words frames n))) _ _ (λ _ z. absurd (omega arith)) (λ _ z. (refl, (refl, refl)))))
  where
    P : Joined → Type 0
    P j = 0 ≡ joined_number j → (taken n j ≡ n) × ((left_list (runs_in words frames n) list j ≡ filled (runs_in words frames n) list) × (joined_words answer j ≡ set answer 0 (length (runs_in words frames n))))

holds : (words : List ℕ) (n : ℕ) (frames : List ℕ) (list : List Run) (answer : List ℕ) (list' : List Run) (answer' : List ℕ)
    → JoinReturned words n frames list answer 0 list' answer' → JoinHolds (extents_at words frames 0 n) list list' answer answer'
unfolding filled runs_in
holds words n frames list answer list' answer' r =
    let es = extents_at words frames 0 n in
    let all = done words n frames list answer r.returned in
    let sound = (subst (Ready words frames list) all.0 (ready words n frames list)).1.1.0 in
    let runs = r.listed ∙ all.1.0 in
    record {
      number = r.answered ∙ all.1.1;
      front = ap (take (length (runs_of es))) runs ∙ take-append_seam (runs_of es) (drop (length (runs_of es)) list);
      back = ap (drop (length (runs_of es))) runs ∙ drop-append_seam (runs_of es) (drop (length (runs_of es)) list);
      grouping = grouping es;
      fewest = fewest es;
      same = same es sound;
      once = once es sound;
    }

-- a call that returns another number has left all as it was
untouched : (runs list : List Run) (answer : List ℕ) (j : Joined) → (joined_number j ≡ 0 → ⊥) → (left_list runs list j ≡ list) × (joined_words answer j ≡ answer)
untouched runs list answer (Err why) z = (refl, refl)
untouched runs list answer (Ok k) z = absurd (z refl)

pub join-theorem : JoinTheorem
join-theorem = record {
  done = holds;
  refused = λ words n frames list answer number list' answer' r z.
      let all = untouched (runs_in words frames n) list answer (joined words n frames (length list)) (λ e. z (r.returned ∙ e)) in
      (r.listed ∙ all.0, r.answered ∙ all.1);
  neighbours = neighbours;
}
