-- The first pass over a list of completions, entry by entry: what is left of the pass comes to what the whole of it does, and that is what the rules say of the list
-- as a whole. Assumes nothing.
use mathlib.Core.Path.{◌≡◌, refl, sym, ap, ◌∙◌}
use mathlib.Core.Bool.{Bool, true, false, cond, ◌||◌}
use mathlib.Core.List.{List, [], ◌∷◌}
use Prim.Native.Nat.{ℕ, zero, suc, ◌+◌, ◌-◌, ◌*◌, ◌/◌, ◌≤◌, ◌<◌}
use native.Mathlib.Numerals.{add-one}
use Rattle.std.specs.Prelude.{Some, None}
use Rattle.std.specs.Simd.{first_chunks}
use native.Mathlib.Omega.{arith}
use lib.Dec.{eqb}
use lib.ListN.{length, get_or, drop}
use Rattle.std.proofs.Common.{get_or-take, get_or-drop}
use mir.Syntax.{w64}
use mir.Val.{to_z}
use borrow.Author.Tests.{eqb-true, eqb-false, eq-eqb, ne_eqb}
use Rattle.model.specs.Complete.{Completion, entry_words, completion_at, completions_from, completions_in}
use Rattle.model.specs.Port.{Holder, free, held, is_free, is_busy, clear_busy}
use Rattle.model.specs.Ring.{Ring}
use Rattle.model.specs.Rules.{names_none, any_names_none, any_names, named_twice}
use Rattle.model.specs.Turn.{tag_id, serial_of}
use Rattle.model.specs.declared.Tag.{Tag}
use Rattle.model.proofs.Base.{clash, or-true}
use Rattle.model.proofs.Busy.{busy-clear}
use Rattle.model.proofs.Completions.{names-one, freed}
use Rattle.entries.specs.Entries.{holder_in, left_of}

-- ---- the entries, one after another, as arrays of three words

-- word q of the i-th
pub word_of : (n : ℕ) (words : List ℕ) (i q : ℕ) → i < n → q < entry_words
    → get_or (get_or (first_chunks entry_words n words) i []) q 0 ≡ get_or words (entry_words * i + q) 0
word_of zero words i q l m = absurd (omega arith)
word_of (suc n) words zero q l m = get_or-take entry_words words q 0 m ∙ ap (λ (j : ℕ). get_or words j 0) (omega arith)
word_of (suc n) words (suc i) q l m =
    word_of n (drop entry_words words) i q (omega arith) m
    ∙ get_or-drop entry_words words (entry_words * i + q) 0
    ∙ ap (λ (j : ℕ). get_or words j 0) (omega arith)

abbrev pub entry_of : List ℕ → Completion
entry_of e = record { tag = tag_id (get_or e 0 0); serial = serial_of (get_or e 1 0); result = to_z w64 (get_or e 2 0) }

-- those from the i-th on begin with it
pub from_next : (n : ℕ) (words : List ℕ) (i : ℕ) → i < n
    → completions_from (n - i) words i ≡ entry_of (get_or (first_chunks entry_words n words) i []) ∷ completions_from (n - (i + 1)) words (i + 1)
unfolding completions_from completion_at
from_next n words i l =
    let e : n - i ≡ suc (n - (i + 1)) = omega arith in
    let w = word_of n words i in
    let first : get_or words (entry_words * i) 0 ≡ get_or (get_or (first_chunks entry_words n words) i []) 0 0 =
    sym (w 0 l (omega arith) ∙ ap (λ (j : ℕ). get_or words j 0) (omega arith)) in
    let same : completion_at words i ≡ entry_of (get_or (first_chunks entry_words n words) i []) =
    λ j. record { tag = tag_id (first j); serial = serial_of (sym (w 1 l (omega arith)) j); result = to_z w64 (sym (w 2 l (omega arith)) j) } in
    ap (λ (m : ℕ). completions_from m words i) e ∙ (λ j. same j ∷ completions_from (n - (i + 1)) words (sym (add-one i) j))

-- and behind the last there are none
pub from-none : (n : ℕ) (words : List ℕ) (i : ℕ) → n ≤ i → completions_from (n - i) words i ≡ []
unfolding completions_from
from-none n words i l = let e : n - i ≡ 0 = omega arith in ap (λ (m : ℕ). completions_from m words i) e

-- all of them
pub from_first : (words : List ℕ) → completions_from (length words / entry_words - 0) words 0 ≡ completions_in words
unfolding completions_in
from_first words = let e : length words / entry_words - 0 ≡ length words / entry_words = omega arith in ap (λ (m : ℕ). completions_from m words 0) e

-- ---- the pass, entry by entry

module _ (g : Ring) (keep : ℕ → Tag) (marks : ℕ) (n : ℕ) (words : List ℕ) (whole : List (List ℕ)) (r : whole ≡ first_chunks entry_words n words) (i : ℕ) (l : i < n) where
  abbrev t : ℕ
  t = get_or (get_or whole i []) 0 0

  abbrev none? : Bool
  none? = names_none g (tag_id t) (serial_of (get_or (get_or whole i []) 1 0)) (holder_in marks keep t)

  next : completions_from (n - i) words i ≡ entry_of (get_or whole i []) ∷ completions_from (n - (i + 1)) words (i + 1)
  next = rw r (from_next n words i l)

  pub left-stops : none? ≡ true → None ≡ left_of g keep marks (completions_from (n - i) words i)
  unfolding left_of
  left-stops e = sym (ap (left_of g keep marks) next ∙ rw e)

  pub left-goes : none? ≡ false → left_of g keep (clear_busy marks t) (completions_from (n - (i + 1)) words (i + 1)) ≡ left_of g keep marks (completions_from (n - i) words i)
  unfolding left_of
  left-goes e = sym (ap (left_of g keep marks) next ∙ rw e)

pub left-ends : (g : Ring) (keep : ℕ → Tag) (marks n : ℕ) (words : List ℕ) (i : ℕ) → n ≤ i → Some marks ≡ left_of g keep marks (completions_from (n - i) words i)
unfolding left_of
left-ends g keep marks n words i l = sym (ap (left_of g keep marks) (from-none n words i l))

-- ---- the pass as a whole

or_assoc : (a b c : Bool) → (a || b) || c ≡ a || (b || c)
or_assoc true b c = refl
or_assoc false b c = refl

-- with a tag free, an entry at fault is one that was so before or names that tag
freed-any : (g : Ring) (t : ℕ) (tags : ℕ → Holder) (cs : List Completion) → any_names_none g (freed t tags) cs ≡ any_names_none g tags cs || any_names t cs
unfolding any_names_none any_names names_none
freed-any g t tags [] = refl
freed-any g t tags (c ∷ cs) = go (eqb c.tag.0 t) refl (freed-any g t tags cs)
  where
    go : (d : Bool) → eqb c.tag.0 t ≡ d → any_names_none g (freed t tags) cs ≡ any_names_none g tags cs || any_names t cs
        → any_names_none g (freed t tags) (c ∷ cs) ≡ any_names_none g tags (c ∷ cs) || any_names t (c ∷ cs)
    go true e ih =
        rw (e, or-true, eq-eqb t c.tag.0 (sym (eqb-true c.tag.0 t e)))
        (sym (or-true (names_none g c.tag c.serial (tags c.tag.0) || any_names_none g tags cs)))
    go false e ih =
        rw (e, ne_eqb t c.tag.0 (λ q. eqb-false c.tag.0 t e (sym q)), ih)
        (sym (or_assoc (names_none g c.tag c.serial (tags c.tag.0)) (any_names_none g tags cs) (any_names t cs)))

-- the marks once those of all entries are cleared
unfoldable pub cleared : ℕ → List Completion → ℕ
cleared marks [] = marks
cleared marks (c ∷ cs) = cleared (clear_busy marks c.tag.0) cs

module _ (g : Ring) (keep : ℕ → Tag) where
  -- a tag whose mark is cleared is free
  holders-freed : (marks t : ℕ) → is_busy marks t ≡ true → holder_in (clear_busy marks t) keep ≡ freed t (holder_in marks keep)
  holders-freed marks t b = λ i u. at u i
    where
      by : (d e : Bool) (x : Holder) → cond (cond d false e) x free ≡ cond d free (cond e x free)
      by true e x = refl
      by false e x = refl

      at : (u : ℕ) → holder_in (clear_busy marks t) keep u ≡ freed t (holder_in marks keep) u
      at u = rw (busy-clear t marks b u) (by (eqb u t) (is_busy marks u) (held (keep u)))

  pub busy-named : (marks t : ℕ) (x : Tag) → holder_in marks keep t ≡ held x → is_busy marks t ≡ true
  busy-named marks t x = go (is_busy marks t)
    where
      go : (b : Bool) → cond b (held (keep t)) free ≡ held x → b ≡ true
      go true e = refl
      go false e = clash (sym (ap is_free e)) refl

  -- the first pass finds the list at fault exactly where the rules do
  pub left-of : (cs : List Completion) (marks : ℕ)
      → left_of g keep marks cs ≡ cond (any_names_none g (holder_in marks keep) cs || named_twice cs) None (Some (cleared marks cs))
  unfolding left_of any_names_none named_twice cleared
  left-of [] marks = refl
  left-of (c ∷ cs) marks = go (names_none g c.tag c.serial (tags t)) refl (left-of cs (clear_busy marks t))
    where
      t : ℕ
      t = c.tag.0

      tags : ℕ → Holder
      tags = holder_in marks keep

      go : (d : Bool) → names_none g c.tag c.serial (tags t) ≡ d
          → left_of g keep (clear_busy marks t) cs
          ≡ cond (any_names_none g (holder_in (clear_busy marks t) keep) cs || named_twice cs) None (Some (cleared (clear_busy marks t) cs))
          → cond d None (left_of g keep (clear_busy marks t) cs)
          ≡ cond ((d || any_names_none g tags cs) || (any_names t cs || named_twice cs)) None (Some (cleared (clear_busy marks t) cs))
      go true e ih = refl
      go false e ih =
          let n = names-one g c.tag c.serial (tags t) e in
          let b = busy-named marks t n.holding n.holds in
          let same : any_names_none g (holder_in (clear_busy marks t) keep) cs ≡ any_names_none g tags cs || any_names t cs =
          ap (λ (f : ℕ → Holder). any_names_none g f cs) (holders-freed marks t b) ∙ freed-any g t tags cs in
          ih
          ∙ ap (λ (d : Bool). cond (d || named_twice cs) None (Some (cleared (clear_busy marks t) cs))) same
          ∙ ap (λ (d : Bool). cond d None (Some (cleared (clear_busy marks t) cs))) (or_assoc (any_names_none g tags cs) (any_names t cs) (named_twice cs))
