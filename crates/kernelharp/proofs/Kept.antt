-- A refused turn leaves its words as they were, and a list that is done has a status for each entry. Assumes nothing.
use mathlib.Core.Path.{◌≡◌, refl, ◌∙◌}
use mathlib.Core.Bool.{not, ◌&&◌, ◌||◌}
use mathlib.Core.List.{List}
use Prim.Native.Nat.{ℕ, ◌/◌, ◌≤◌}
use native.Mathlib.Omega.{arith}
use lib.Dec.{ltb}
use lib.ListN.{length}
use Rattle.std.specs.Prelude.{Result, Ok, Err}
use borrow.Author.Tests.{ltb-false}
use Rattle.model.specs.Buffers.{ports, are_rings, are_grants}
use Rattle.model.specs.Calls.{TurnEffect, CompleteAnswer, none_done, all_done, CompleteEffect, most_completions}
use Rattle.model.specs.Complete.{entry_words, completions_in, are_entries, completed}
use Rattle.model.specs.Plan.{Verdict}
use Rattle.model.specs.Port.{View, is_closed}
use Rattle.model.specs.Ring.{Request}
use Rattle.model.specs.Rules.{no_port, any_names_none, named_twice, refused_completion, due_turn, due_complete}
use Rattle.model.specs.Turn.{ring_at, idle, settled, overran, served_by, passed_over, turned}
use Rattle.model.specs.declared.Pending.{Pending}
use Rattle.model.specs.declared.PortId.{PortId}
use Rattle.model.specs.declared.Refusal.{Refusal}
use Rattle.model.specs.declared.Turned.{Turned}
use Rattle.model.proofs.Base.{by_cond}
use Rattle.model.proofs.Completions.{length-in, length-statuses}

-- ---- a turn

-- what a refused turn says: why it is refused, and of the words that it was lent and left
abbrev pub WordsKept : List ℕ → List ℕ → Result Turned Refusal → Type 0
WordsKept lent left (Ok did) = Unit
WordsKept lent left (Err e) = (left ≡ lent) × (e ≡ Refusal.WrongLength)

abbrev pub TurnKeeps : List ℕ → TurnEffect → Type 0
TurnKeeps lent e = WordsKept lent e.words e.answer

settled-keeps : (lent : List ℕ) (v : View) (rings : List ℕ) (k : ℕ) (r : Request) (x : Verdict) → TurnKeeps lent (settled v rings k r x)
unfolding settled
settled-keeps lent v rings k r (Err f) = tt
settled-keeps lent v rings k r (Ok plan) = tt

served-keeps : (lent : List ℕ) (v : View) (rings grants : List ℕ) (k : ℕ) (x : Pending) → TurnKeeps lent (served_by v rings grants k x)
unfolding served_by idle overran
served-keeps lent v rings grants k Pending.Nothing = tt
served-keeps lent v rings grants k Pending.Waits = settled-keeps lent v rings k _ _
served-keeps lent v rings grants k Pending.Overrun = tt

pub turn-keeps : (v : View) (rings grants words : List ℕ) → TurnKeeps words (due_turn v rings grants words)
unfolding due_turn turned idle
turn-keeps v rings grants words =
    by_cond (TurnKeeps words) (not (are_rings rings && are_grants grants)) _ _ (λ _. (refl, refl)) (λ _.
    by_cond (TurnKeeps words) (ltb (passed_over v rings) ports) _ _ (λ _. served-keeps words v rings grants _ _) (λ _. tt))

-- ---- a completion

-- of a list of n entries that is done there is a status for each entry, and room for it
abbrev pub Listed : ℕ → CompleteAnswer → Type 0
Listed n (none_done e) = Unit
Listed n (all_done p zs y) = (length zs ≡ n) × (n ≤ most_completions)

abbrev pub ListedIn : ℕ → CompleteEffect → Type 0
ListedIn n e = Listed n e.answer

pub complete-listed : (v : View) (rings : List ℕ) (p : PortId) (entries : List ℕ) → ListedIn (length entries / entry_words) (due_complete v rings p entries)
unfolding due_complete refused_completion completed
complete-listed v rings p entries =
    let cs = completions_in entries in
    let N = ListedIn (length entries / entry_words) in
    by_cond N (not (are_rings rings && are_entries entries)) _ _ (λ _. tt) (λ _.
    by_cond N (no_port p) _ _ (λ _. tt) (λ _.
    by_cond N (is_closed (v.state p.0)) _ _ (λ _. tt) (λ _.
    by_cond N (ltb most_completions (length cs)) _ _ (λ _. tt) (λ few.
    by_cond N (any_names_none (ring_at v p.0) (v.tag p.0) cs || named_twice cs) _ _ (λ _. tt) (λ _.
    (length-statuses (v.tag p.0) cs ∙ length-in entries, omega (arith, ltb-false most_completions (length cs) few, length-in entries)))))))
