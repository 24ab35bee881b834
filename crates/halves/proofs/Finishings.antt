-- The deeds of a list of completions, as the books of a port have them: nothing is taken, and the port's state and its requests stay as many. Assumes nothing.
use mathlib.Core.Path.{◌≡◌, refl, ◌∙◌}
use mathlib.Core.Logic.{◌≢◌}
use mathlib.Core.List.{List, [], ◌∷◌, ◌++◌}
use Prim.Native.Nat.{ℕ}
use lib.Dec.{eqb}
use lib.ListN.{length}
use borrow.Author.Tests.{ne_eqb}
use Rattle.model.specs.Complete.{Completion}
use Rattle.model.specs.Deeds.{finishing, finishings}
use Rattle.model.specs.History.{Book, said, entry, post, posts}
use Rattle.model.specs.declared.Status.{Status}
use Rattle.model.proofs.Base.{by_cond}
use Rattle.model.proofs.Ledger.{length-answer_to}
use Rattle.halves.specs.System.{took_all}

-- books with the state of these, and as many requests
pub record Steady (b c : Book) : Type 0 where
  pub state : c.state ≡ b.state
  pub taken : length c.taken ≡ length b.taken

module _ (k j : ℕ) (left : List ℕ) where
  pub took-none : (cs : List Completion) (zs : List Status) (b : Book) → took_all k (finishings left j cs zs) b ≡ []
  took-none [] zs b = refl
  took-none (c ∷ cs) [] b = refl
  took-none (c ∷ cs) (z ∷ zs) b =
      let rest = took-none cs zs (post k (finishing j left c.tag.0 c.serial.0 z) b) in
      by_cond (λ (l : List (List ℕ)). l ++ took_all k (finishings left j cs zs) (post k (finishing j left c.tag.0 c.serial.0 z) b) ≡ []) (eqb k j) [] []
      (λ _. rest) (λ _. rest)

  -- another port's change nothing
  pub posts-others : k ≢ j → (cs : List Completion) (zs : List Status) (b : Book) → posts k (finishings left j cs zs) b ≡ b
  posts-others ne [] zs b = refl
  posts-others ne (c ∷ cs) [] b = refl
  posts-others ne (c ∷ cs) (z ∷ zs) b =
      let d = finishing j left c.tag.0 c.serial.0 z in
      let none : post k d b ≡ b = rw (ne_eqb k j ne) in
      posts-others ne cs zs (post k d b) ∙ none

  pub posts-steady : (cs : List Completion) (zs : List Status) (b : Book) → Steady b (posts k (finishings left j cs zs) b)
  posts-steady [] zs b = record { state = refl; taken = refl }
  posts-steady (c ∷ cs) [] b = record { state = refl; taken = refl }
  posts-steady (c ∷ cs) (z ∷ zs) b =
      let d = finishing j left c.tag.0 c.serial.0 z in
      let one =
      by_cond (Steady b) (eqb k j) (entry d b) b
      (λ _. record { state = refl; taken = length-answer_to c.tag.0 c.serial.0 (said j left z b) b.taken })
      (λ _. record { state = refl; taken = refl }) in
      let rest = posts-steady cs zs (post k d b) in
      record { state = rest.state ∙ one.state; taken = rest.taken ∙ one.taken }
