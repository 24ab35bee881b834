-- Memory in which every word is the one that a write of what it is read as would leave. It holds of all zeros, and every write keeps it. Assumes nothing.
use mathlib.Core.Path.{◌≡◌, refl, sym, ap, ◌∙◌, subst}
use mathlib.Core.List.{List}
use Prim.Native.Nat.{ℕ, ◌+◌, ◌*◌, ◌^◌, ◌<◌}
use native.Mathlib.Decide.{ℕ_discrete}
use native.Mathlib.Nat.{add_assoc}
use native.Mathlib.Omega.{arith}
use lib.ListN.{length, get_or, set}
use lib.Seq.{get_or-set_same, get_or-set_other}
use Rattle.model.specs.Buffers.{ports}
use Rattle.model.specs.declared.Port.{Port}
use Rattle.model.specs.declared.State.{State}
use Rattle.model.specs.declared.Tag.{Tag}
use Rattle.memory.specs.Layout.{port_words, tag_words, tags, stride, pointer_word_of, memory_words, tag_place}
use Rattle.memory.specs.Words.{word, set_word, state_word, state_at, consumed_at, produced_at, busy_at, words_of, port_at, set_port}
use Rattle.memory.specs.Words.{tag_words_of, tag_at, set_tag, pointer_at, set_pointer}
use Rattle.memory.proofs.Lens.{Apart, Ranged, RangedTag, length-set_port, set_port-apart, set_port-word, port-same, length-set_tag, set_tag-apart, set_tag-word, tag_same}
use Rattle.memory.proofs.Lens.{length-set_word, set_word-apart, word_same, word-other, port-state, port-consumed, port-produced, port-busy}
use Rattle.memory.proofs.Lens.{length-set_pointer, set_pointer-apart, pointer-same, port-other, port-tag, port-pointer, tag-port, tag-other, tag-pointer, pointer-port, pointer-tag, own-apart, tags-apart}

-- Memory in which each word is the one that a write of what it is read as would leave: no stray bits. It holds of all zeros, and every write keeps it.
pub record Kept (m : List ℕ) : Type 0 where
  pub long : length m ≡ memory_words
  pub port : (k q : ℕ) → k < ports → q < port_words → word m k q ≡ get_or (words_of (port_at m k)) q 0
  pub tag : (k t q : ℕ) → k < ports → t < tags → q < tag_words → word m k (tag_place t + q) ≡ get_or (tag_words_of (tag_at m k t)) q 0
  pub pointer : get_or m pointer_word_of 0 ≡ pointer_at m

-- ---- every write keeps it

pointer_word : (m : List ℕ) (v : ℕ) → length m ≡ memory_words → get_or (set_pointer m v) pointer_word_of 0 ≡ v
unfolding set_pointer
pointer_word m v n = get_or-set_same m pointer_word_of v 0 (omega arith)

module _ (m left : List ℕ) (o : Kept m) (n : length left ≡ length m) (k : ℕ) (h : k < ports) where
  -- a change within port k's own words that leaves the words of its port
  kept-own : (p : Port) → Apart (stride * k) port_words m left → port_at left k ≡ p → ((q : ℕ) → q < port_words → word left k q ≡ get_or (words_of p) q 0)
      → Kept left
  unfolding word
  kept-own p a e w =
      let own : (j q : ℕ) → j < ports → q < port_words → word left j q ≡ get_or (words_of (port_at left j)) q 0 = λ j q r l.
      elim (ℕ_discrete j k) [
        | yes z ↦ subst (λ (x : ℕ). word left x q ≡ get_or (words_of (port_at left x)) q 0) (sym z) (w q l ∙ ap (λ (x : Port). get_or (words_of x) q 0) (sym e))
        | no d ↦
            a (stride * j + q) (λ v s y. d (omega arith)) ∙ o.port j q r l ∙ ap (λ (x : Port). get_or (words_of x) q 0) (sym (port-other m left k a j d))
      ] in
      record {
        long = n ∙ o.long;
        port = own;
        tag = λ j t q r l u.
            a (stride * j + (tag_place t + q)) (λ v s z. own-apart k j v t q s l u (sym z))
            ∙ o.tag j t q r l u
            ∙ ap (λ (x : Tag). get_or (tag_words_of x) q 0) (sym (port-tag m left k a j t l));
        pointer = a pointer_word_of (λ v s z. omega arith) ∙ o.pointer ∙ sym (port-pointer m left k a h);
      }

  -- a change within a tag's words that leaves the words of its tag
  kept-tagged : (t : ℕ) → t < tags → (x : Tag) → Apart (stride * k + tag_place t) tag_words m left → tag_at left k t ≡ x
      → ((q : ℕ) → q < tag_words → word left k (tag_place t + q) ≡ get_or (tag_words_of x) q 0)
      → Kept left
  unfolding word
  kept-tagged t l x a e w =
      let same : (j u q : ℕ) → j < ports → u < tags → q < tag_words → (j ≡ k → u ≡ t → ⊥)
      → word left j (tag_place u + q) ≡ get_or (tag_words_of (tag_at left j u)) q 0 = λ j u q r v b d.
      a (stride * j + (tag_place u + q)) (λ y s z. let p = tags-apart j k u t q y v l b s (z ∙ add_assoc (stride * k) (tag_place t) y) in d p.0 p.1)
      ∙ o.tag j u q r v b
      ∙ ap (λ (x : Tag). get_or (tag_words_of x) q 0) (sym (tag-other m left k t l a j u v d)) in
      let here : (j u : ℕ) → j ≡ k → u ≡ t → (q : ℕ) → q < tag_words → word left j (tag_place u + q) ≡ get_or (tag_words_of (tag_at left j u)) q 0 = λ j u y z q b.
      subst (λ (v : ℕ). word left v (tag_place u + q) ≡ get_or (tag_words_of (tag_at left v u)) q 0) (sym y)
      (subst (λ (v : ℕ). word left k (tag_place v + q) ≡ get_or (tag_words_of (tag_at left k v)) q 0) (sym z)
      (w q b ∙ ap (λ (x : Tag). get_or (tag_words_of x) q 0) (sym e))) in
      record {
        long = n ∙ o.long;
        port = λ j q r v.
            a (stride * j + q) (λ y s z. own-apart j k q t y v l s (z ∙ add_assoc (stride * k) (tag_place t) y))
            ∙ o.port j q r v
            ∙ ap (λ (x : Port). get_or (words_of x) q 0) (sym (tag-port m left k t l a j));
        tag = λ j u q r v b.
            elim (ℕ_discrete j k) [
              | no d ↦ same j u q r v b (λ y z. d y)
              | yes y ↦
                  elim (ℕ_discrete u t) [
                    | no d ↦ same j u q r v b (λ y z. d z)
                    | yes z ↦ here j u y z q b
                  ]
            ];
        pointer = a pointer_word_of (λ v s z. omega arith) ∙ o.pointer ∙ sym (tag-pointer m left k t l a h);
      }

module _ (m : List ℕ) (o : Kept m) (k : ℕ) (h : k < ports) where
  pub kept-set_port : (p : Port) → Ranged p → Kept (set_port m k p)
  kept-set_port p r =
      kept-own m (set_port m k p) o (length-set_port m k p) k h p (set_port-apart m k p) (port-same m k p o.long h r) (set_port-word m k p o.long h)

  pub kept-set_tag : (t : ℕ) → t < tags → (x : Tag) → RangedTag x → Kept (set_tag m k t x)
  kept-set_tag t l x r =
      kept-tagged m (set_tag m k t x) o (length-set_tag m k t x) k h t l x (set_tag-apart m k t x) (tag_same m k t x o.long h l r)
      (set_tag-word m k t x o.long h l)

  -- one field: its port's words are those of the port before, with one set
  kept_word : (q v : ℕ) (p : Port) → q < port_words → port_at (set_word m k q v) k ≡ p → words_of p ≡ set (words_of (port_at m k)) q v → Kept (set_word m k q v)
  kept_word q v p l e f =
      let ws = words_of (port_at m k) in
      let there : (u : ℕ) → u < port_words → word (set_word m k q v) k u ≡ get_or (set ws q v) u 0 = λ u r.
      elim (ℕ_discrete u q) [
        | yes z ↦
            subst (λ (x : ℕ). word (set_word m k q v) k x ≡ get_or (set ws q v) x 0) (sym z)
            (word_same m k q v o.long h l ∙ sym (get_or-set_same ws q v 0 l))
        | no d ↦ word-other m k q v u d ∙ o.port k u h r ∙ sym (get_or-set_other ws q u v 0 d)
      ] in
      kept-own m (set_word m k q v) o (length-set_word m k q v) k h p (set_word-apart m k q v l) e (λ u r.
      there u r ∙ ap (λ (x : List ℕ). get_or x u 0) (sym f))

  pub kept-state : (s : State) → Kept (set_word m k state_at (state_word s))
  kept-state s = kept_word state_at (state_word s) _ (omega arith) (port-state m o.long k h s) refl

  pub kept-consumed : (v : ℕ) → v < 2 ^ 32 → Kept (set_word m k consumed_at v)
  kept-consumed v l = kept_word consumed_at v _ (omega arith) (port-consumed m o.long k h v l) refl

  pub kept-produced : (v : ℕ) → v < 2 ^ 32 → Kept (set_word m k produced_at v)
  kept-produced v l = kept_word produced_at v _ (omega arith) (port-produced m o.long k h v l) refl

  pub kept-busy : (v : ℕ) → Kept (set_word m k busy_at v)
  kept-busy v = kept_word busy_at v _ (omega arith) (port-busy m o.long k h v) refl

  pub kept-set_pointer : Kept (set_pointer m k)
  unfolding word
  kept-set_pointer =
      let a = set_pointer-apart m k in
      let left = set_pointer m k in
      record {
        long = length-set_pointer m k ∙ o.long;
        port = λ j q r l.
            a (stride * j + q) (λ v s z. omega arith) ∙ o.port j q r l ∙ ap (λ (x : Port). get_or (words_of x) q 0) (sym (pointer-port m left a j r));
        tag = λ j t q r l u.
            a (stride * j + (tag_place t + q)) (λ v s z. omega arith)
            ∙ o.tag j t q r l u
            ∙ ap (λ (x : Tag). get_or (tag_words_of x) q 0) (sym (pointer-tag m left a j t r l));
        pointer = pointer_word m k o.long ∙ sym (pointer-same m k o.long h);
      }
