-- The second pass over a list of completions, entry by entry: what is left of it comes to what the whole of it does. Assumes nothing.
use mathlib.Core.Path.{◌≡◌, sym, ap, ◌∙◌}
use mathlib.Core.List.{List, [], ◌∷◌}
use Prim.Native.Nat.{ℕ, suc, ◌+◌, ◌-◌, ◌/◌, ◌≤◌, ◌<◌}
use native.Mathlib.Omega.{arith}
use native.Mathlib.Nat.{add-zero}
use Rattle.std.specs.Simd.{first_chunks}
use lib.ListN.{length, get_or, set}
use lib.Seq.{sets}
use mir.Syntax.{w64}
use mir.Val.{to_z}
use Rattle.model.specs.Answers.{magnitude, magnitudes}
use Rattle.model.specs.Backend.{Backend, with_tag}
use Rattle.model.specs.Complete.{Completion, entry_words, completions_from, completions_in}
use Rattle.model.specs.Port.{zero_tag, after}
use Rattle.model.specs.Ring.{Ring, layout_of, ring_for, slot_at, set_response}
use Rattle.model.specs.Turn.{ResponseDue, written}
use Rattle.model.specs.declared.Abi.{Abi}
use Rattle.model.specs.declared.Pages.{Pages}
use Rattle.model.specs.declared.Status.{Status}
use Rattle.model.proofs.Page.{length-set_response}
use Rattle.memory.specs.Backend.{backend_of, Becomes}
use Rattle.memory.proofs.Changes.{unchanged, then, restated}
use Rattle.entries.proofs.FirstPass.{word_of, entry_of, from_next, from-none, from_first}
use Rattle.memory.specs.Layout.{tags}
use Rattle.lists.specs.List.{TagsNamed, due_for, responses_along, emptied, EntryFinished, statuses_at, statuses_of, AllFinished}

abbrev rest : List ℕ → ℕ → List Completion
rest words i = completions_from (length words / entry_words - i) words i

-- every entry names a tag that there is, also as an array of three words
pub tag-named : (words : List ℕ) (whole : List (List ℕ)) → whole ≡ first_chunks entry_words (length words / entry_words) words → TagsNamed words
    → (i : ℕ) → i < length words / entry_words → get_or (get_or whole i []) 0 0 < tags
tag-named words whole r h i l = rw (r, word_of (length words / entry_words) words i 0 l (omega arith), add-zero) (h i l)

-- Before entry i: what the entries from there on will do to the page, the answer and the memory comes to what all of them do to those of the beginning.
pub record Underway (m before : List ℕ) (k : ℕ) (g : Ring) (produced : ℕ) (words lent : List ℕ) (i index : ℕ) (now page answer : List ℕ) : Type 0 where
  pub long : length page ≡ g.bytes
  pub pages : written g page index (responses_along (backend_of now) k (rest words i)) ≡ written g before produced (responses_along (backend_of m) k (completions_in words))
  pub filled :
      sets answer (statuses_at + i) (magnitudes (statuses_of (responses_along (backend_of now) k (rest words i))))
      ≡ sets lent statuses_at (magnitudes (statuses_of (responses_along (backend_of m) k (completions_in words))))
  pub zeroed : emptied (backend_of now) k (rest words i) ≡ emptied (backend_of m) k (completions_in words)
  pub became : Becomes m (backend_of now) now

pub underway-first : (m before : List ℕ) (k : ℕ) (g : Ring) (produced : ℕ) (words lent : List ℕ) → length before ≡ g.bytes
    → Underway m before k g produced words lent 0 produced m before lent
underway-first m before k g produced words lent l =
    let all = ap (responses_along (backend_of m) k) (from_first words) in
    record {
      long = l;
      pages = ap (written g before produced) all;
      filled = ap (λ (xs : List ResponseDue). sets lent statuses_at (magnitudes (statuses_of xs))) all;
      zeroed = ap (emptied (backend_of m) k) (from_first words);
      became = unchanged m;
    }

module _ (abi : Abi) (pages : Pages) {m before : List ℕ} {k : ℕ} {produced : ℕ} {words lent : List ℕ} {i index : ℕ} {now page answer : List ℕ}
    (u : Underway m before k (ring_for abi pages) produced words lent i index now page answer) where
  -- entry i is done
  pub underway-next : i < length words / entry_words → (whole : List (List ℕ)) → whole ≡ first_chunks entry_words (length words / entry_words) words
      → (put : List ℕ) (s : Status) (left : List ℕ)
      → EntryFinished now page k abi pages index (get_or (get_or whole i []) 0 0) (get_or (get_or whole i []) 2 0) put s left
      → Underway m before k (ring_for abi pages) produced words lent (i + 1) (after index) left put (set answer (statuses_at + i) (magnitude s))
  unfolding responses_along emptied written ring_for
  underway-next l whole r put s left e =
      let g = ring_for abi pages in
      let b = backend_of now in
      let t = get_or (get_or whole i []) 0 0 in
      let cs = rest words (i + 1) in
      let x = due_for (b.tag k t) (to_z w64 (get_or (get_or whole i []) 2 0)) in
      let xs = responses_along (with_tag b k t zero_tag) k cs in
      let cut : rest words i ≡ entry_of (get_or whole i []) ∷ cs = rw r (from_next (length words / entry_words) words i l) in
      let these : responses_along b k (rest words i) ≡ x ∷ xs = ap (responses_along b k) cut in
      let those : responses_along (backend_of left) k cs ≡ xs = ap (λ (c : Backend). responses_along c k cs) e.memory.backend in
      let page' : put ≡ set_response (layout_of abi) page (slot_at g index) x.pair x.status =
      e.page ∙ ap (set_response (layout_of abi) page (slot_at g index) x.pair) e.status in
      let place : statuses_at + (i + 1) ≡ suc (statuses_at + i) = omega arith in
      record {
        long = ap (λ (p : List ℕ). length p) page' ∙ length-set_response (layout_of abi) page (slot_at g index) x.pair x.status ∙ u.long;
        pages = (λ j. written g (page' j) (after index) (those j)) ∙ sym (ap (written g page index) these) ∙ u.pages;
        filled =
            (λ j. sets (set answer (statuses_at + i) (magnitude (e.status j))) (place j) (magnitudes (statuses_of (those j))))
            ∙ sym (ap (λ (ys : List ResponseDue). sets answer (statuses_at + i) (magnitudes (statuses_of ys))) these)
            ∙ u.filled;
        zeroed = ap (λ (c : Backend). emptied c k cs) e.memory.backend ∙ sym (ap (emptied b k) cut) ∙ u.zeroed;
        became = restated (then (λ (c : Backend). with_tag c k t zero_tag) u.became e.memory) (sym e.memory.backend);
      }

  -- every entry is done
  pub underway-last : length words / entry_words ≤ i → AllFinished m before k (ring_for abi pages) produced words lent page answer now
  unfolding responses_along emptied written
  underway-last l =
      let b = backend_of now in
      let cut = from-none (length words / entry_words) words i l in
      let none : responses_along b k (rest words i) ≡ [] = ap (responses_along b k) cut in
      record {
        page = sym (ap (written (ring_for abi pages) page index) none) ∙ u.pages;
        answer = sym (ap (λ (ys : List ResponseDue). sets answer (statuses_at + i) (magnitudes (statuses_of ys))) none) ∙ u.filled;
        memory = restated u.became (sym (ap (emptied b k) cut) ∙ u.zeroed);
      }
