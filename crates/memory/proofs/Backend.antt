-- The laws of `backend_of`: to change a port, a tag or the pointer in the words is to change it in the abstract backend. Assumes nothing.
use mathlib.Core.Path.{◌≡◌, refl, ap, ◌∙◌}
use mathlib.Core.Bool.{Bool, true, false, cond, ◌&&◌}
use mathlib.Core.List.{List}
use Prim.Native.Nat.{ℕ, ◌+◌, ◌*◌, ◌^◌, ◌≤◌, ◌<◌}
use native.Mathlib.Decide.{dec_lt, ℕ_discrete}
use native.Mathlib.Omega.{arith}
use lib.Dec.{eqb, ltb}
use lib.ListN.{length}
use borrow.Author.Tests.{lt-ltb, le-ltb, eq-eqb, ne_eqb}
use Rattle.model.specs.Buffers.{ports}
use Rattle.model.specs.Backend.{Backend, with_port, with_tag, with_pointer}
use Rattle.model.specs.Port.{closed_port}
use Rattle.model.specs.Ring.{ring_of}
use Rattle.model.specs.declared.Params.{Params}
use Rattle.model.proofs.Ring.{fits}
use Rattle.model.specs.declared.Port.{Port}
use Rattle.model.specs.declared.State.{State}
use Rattle.model.specs.declared.Tag.{Tag}
use Rattle.memory.specs.Layout.{port_words, tag_words, tags, stride, pointer_word_of, memory_words, tag_place}
use Rattle.memory.specs.Words.{set_word, state_word, state_at, consumed_at, produced_at, busy_at, port_at, set_port}
use Rattle.memory.specs.Backend.{with_state, with_consumed, with_produced, with_busy}
use Rattle.memory.specs.Words.{tag_at, set_tag, pointer_at, set_pointer}
use Rattle.memory.specs.Backend.{backend_of}
use Rattle.memory.proofs.Lens.{Apart, Ranged, ranged, RangedTag, set_port-apart, port-same, set_tag-apart, tag_same, set_pointer-apart, pointer-same}
use Rattle.memory.proofs.Lens.{set_word-apart, port-state, port-consumed, port-produced, port-busy}
use Rattle.memory.proofs.Lens.{port-other, port-tag, port-pointer, tag-port, tag-other, tag-pointer, pointer-port, pointer-tag}

-- ---- what the abstract backend shows of a port and a tag that there is

pub backend-port-at : (m : List ℕ) (k : ℕ) → k < ports → (backend_of m).port k ≡ port_at m k
unfolding backend_of
backend-port-at m k h = rw (lt-ltb k ports h)

pub backend-tag-at : (m : List ℕ) (k t : ℕ) → k < ports → t < tags → (backend_of m).tag k t ≡ tag_at m k t
unfolding backend_of
backend-tag-at m k t h l = rw (lt-ltb k ports h, lt-ltb t tags l)

-- both, where a function reads
pub ruleset records = (backend-port-at, backend-tag-at)

pointer-at : (m : List ℕ) → (backend_of m).pointer ≡ pointer_at m
unfolding backend_of
pointer-at m = refl

-- ---- any change, by the words that it leaves alone

module _ (m left : List ℕ) where
  port-is : (j : ℕ) → (j < ports → port_at left j ≡ port_at m j) → (backend_of left).port j ≡ (backend_of m).port j
  unfolding backend_of
  port-is j f = elim (dec_lt j ports) [ yes o ↦ rw (f o) | no o ↦ rw (le-ltb j ports (omega arith)) ]

  tag_is : (j u : ℕ) → (j < ports → u < tags → tag_at left j u ≡ tag_at m j u) → (backend_of left).tag j u ≡ (backend_of m).tag j u
  unfolding backend_of
  tag_is j u f =
      elim (dec_lt j ports) [
        | no o ↦ rw (le-ltb j ports (omega arith))
        | yes o ↦ elim (dec_lt u tags) [ yes r ↦ rw (f o r) | no r ↦ rw (lt-ltb j ports o, le-ltb u tags (omega arith)) ]
      ]

  pointer_is : pointer_at left ≡ pointer_at m → (backend_of left).pointer ≡ (backend_of m).pointer
  unfolding backend_of
  pointer_is e = e

  -- a change within port k's own words
  pub backend-port : (k : ℕ) → k < ports → Apart (stride * k) port_words m left → backend_of left ≡ with_port (backend_of m) k (port_at left k)
  unfolding with_port
  backend-port k h a =
      let there : (j : ℕ) → (backend_of left).port j ≡ cond (eqb j k) (port_at left k) ((backend_of m).port j) = λ j.
      elim (ℕ_discrete j k) [
        | yes e ↦ rw (e, eq-eqb k k refl) (backend-port-at left k h)
        | no d ↦ rw (ne_eqb j k d) (port-is j (λ o. port-other m left k a j d))
      ] in
      λ i. record {
        pointer = pointer_is (port-pointer m left k a h) i;
        port = λ j. there j i;
        tag = λ j u. tag_is j u (λ o r. port-tag m left k a j u r) i;
      }

  -- a change within a tag's words
  pub backend-tag : (k t : ℕ) → k < ports → t < tags → Apart (stride * k + tag_place t) tag_words m left
      → backend_of left ≡ with_tag (backend_of m) k t (tag_at left k t)
  unfolding with_tag
  backend-tag k t h l a =
      let same : (j u : ℕ) → (j ≡ k → u ≡ t → ⊥) → (backend_of left).tag j u ≡ (backend_of m).tag j u = λ j u d.
      tag_is j u (λ o r. tag-other m left k t l a j u r d) in
      let there : (j u : ℕ) → (backend_of left).tag j u ≡ cond (eqb j k && eqb u t) (tag_at left k t) ((backend_of m).tag j u) = λ j u.
      elim (ℕ_discrete j k) [
        | no d ↦ rw (ne_eqb j k d) (same j u (λ e f. d e))
        | yes e ↦
            elim (ℕ_discrete u t) [
              | yes f ↦ rw (e, f, eq-eqb k k refl, eq-eqb t t refl) (backend-tag-at left k t h l)
              | no d ↦ rw (eq-eqb j k e, ne_eqb u t d) (same j u (λ e f. d f))
            ]
      ] in
      λ i. record {
        pointer = pointer_is (tag-pointer m left k t l a h) i;
        port = λ j. port-is j (λ o. tag-port m left k t l a j) i;
        tag = λ j u. there j u i;
      }

  -- a change of the pointer's word
  pub backend-pointer : Apart pointer_word_of 1 m left → backend_of left ≡ with_pointer (backend_of m) (pointer_at left)
  unfolding with_pointer
  backend-pointer a =
      let there = pointer-at left in
      λ i. record {
        pointer = there i;
        port = λ j. port-is j (λ o. pointer-port m left a j o) i;
        tag = λ j u. tag_is j u (λ o r. pointer-tag m left a j u o r) i;
      }

-- ---- a port, a tag or the pointer put

module _ (m : List ℕ) (n : length m ≡ memory_words) where
  pub backend-set_port : (k : ℕ) (p : Port) → k < ports → Ranged p → backend_of (set_port m k p) ≡ with_port (backend_of m) k p
  backend-set_port k p h r =
      backend-port m (set_port m k p) k h (set_port-apart m k p) ∙ ap (with_port (backend_of m) k) (port-same m k p n h r)

  pub backend-set_tag : (k t : ℕ) (x : Tag) → k < ports → t < tags → RangedTag x → backend_of (set_tag m k t x) ≡ with_tag (backend_of m) k t x
  backend-set_tag k t x h l r =
      backend-tag m (set_tag m k t x) k t h l (set_tag-apart m k t x) ∙ ap (with_tag (backend_of m) k t) (tag_same m k t x n h l r)

  pub backend-set_pointer : (k : ℕ) → k < ports → backend_of (set_pointer m k) ≡ with_pointer (backend_of m) k
  backend-set_pointer k h =
      backend-pointer m (set_pointer m k) (set_pointer-apart m k) ∙ ap (with_pointer (backend_of m)) (pointer-same m k n h)

-- ---- one field of a port put

module _ (m : List ℕ) (n : length m ≡ memory_words) (k : ℕ) (h : k < ports) where
  field : (q v : ℕ) (p : Port) → q < port_words → port_at (set_word m k q v) k ≡ p → backend_of (set_word m k q v) ≡ with_port (backend_of m) k p
  field q v p l e = backend-port m (set_word m k q v) k h (set_word-apart m k q v l) ∙ ap (with_port (backend_of m) k) e

  pub backend-state : (s : State) → backend_of (set_word m k state_at (state_word s)) ≡ with_port (backend_of m) k (with_state (port_at m k) s)
  backend-state s = field state_at (state_word s) _ (omega arith) (port-state m n k h s)

  pub backend-consumed : (v : ℕ) → v < 2 ^ 32 → backend_of (set_word m k consumed_at v) ≡ with_port (backend_of m) k (with_consumed (port_at m k) v)
  backend-consumed v l = field consumed_at v _ (omega arith) (port-consumed m n k h v l)

  pub backend-produced : (v : ℕ) → v < 2 ^ 32 → backend_of (set_word m k produced_at v) ≡ with_port (backend_of m) k (with_produced (port_at m k) v)
  backend-produced v l = field produced_at v _ (omega arith) (port-produced m n k h v l)

  pub backend-busy : (v : ℕ) → backend_of (set_word m k busy_at v) ≡ with_port (backend_of m) k (with_busy (port_at m k) v)
  backend-busy v = field busy_at v _ (omega arith) (port-busy m n k h v)

-- a tag put leaves the ports
pub port-with-tag : (b : Backend) (k t : ℕ) (x : Tag) (j : ℕ) → (with_tag b k t x).port j ≡ b.port j
unfolding with_tag
port-with-tag b k t x j = refl

-- one field of a port put after another
pub fields-put : (b : Backend) (k : ℕ) (f g : Port → Port)
    → with_port (with_port b k (f (b.port k))) k (g ((with_port b k (f (b.port k))).port k)) ≡ with_port b k (g (f (b.port k)))
unfolding with_port
fields-put b k f g = rw (eq-eqb k k refl) (λ i. record { pointer = b.pointer; port = λ j. twice (eqb j k) (b.port j) i; tag = b.tag })
  where
    twice : (t : Bool) (o : Port) → cond t (g (f (b.port k))) (cond t (f (b.port k)) o) ≡ cond t (g (f (b.port k))) o
    twice true o = refl
    twice false o = refl

-- the narrow fields of any port are within their types
pub backend-ranged : (m : List ℕ) (k : ℕ) → Ranged ((backend_of m).port k)
unfolding backend_of
backend-ranged m k = either (ltb k ports)
  where
    either : (t : Bool) → Ranged (cond t (port_at m k) closed_port)
    either true = ranged m k
    either false = record { consumed = omega arith; produced = omega arith }

-- every ring has as many tags in memory as it has slots, so each of its tags has a record
pub size-tags : (p : Params) → (ring_of p).size ≤ tags
size-tags p = (fits p).marked
