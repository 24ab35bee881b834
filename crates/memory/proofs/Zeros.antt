-- All zeros are the empty backend, word for word. Assumes nothing.
use mathlib.Core.Path.{◌≡◌, refl, sym, ap, ◌∙◌}
use mathlib.Core.Bool.{Bool, true, false, cond, ◌&&◌}
use mathlib.Core.List.{List}
use Prim.Native.Nat.{ℕ, zero, suc, ◌+◌, ◌-◌, ◌*◌, ◌/◌, ◌%◌, ◌<◌}
use native.Mathlib.Decide.{dec_lt}
use native.Mathlib.Omega.{arith}
use lib.Dec.{ltb}
use lib.ListN.{length, get_or, replicate, length-replicate}
use Rattle.model.specs.Buffers.{ports}
use Rattle.model.specs.Port.{closed_port, zero_tag, is_busy}
use Rattle.model.specs.Backend.{empty_backend}
use Rattle.model.specs.declared.Port.{Port}
use Rattle.model.specs.declared.State.{State}
use Rattle.model.specs.declared.Tag.{Tag}
use Rattle.memory.specs.Layout.{port_words, tag_words, tags, stride, pointer_word_of, memory_words, tag_place}
use Rattle.memory.specs.Words.{word, params_from, port_from, words_of, port_at}
use Rattle.memory.specs.Words.{tag_from, tag_words_of, tag_at, pointer_at, zeros}
use Rattle.memory.specs.Backend.{backend_of, memory_of, Exact, Clean}
use Rattle.memory.proofs.Backend.{backend-port-at, backend-tag-at}
use Rattle.memory.proofs.Kept.{Kept}
use Rattle.memory.proofs.Encoded.{kept-exact, exact-kept}

zero_in : (n i : ℕ) → get_or {A = ℕ} (replicate n 0) i 0 ≡ 0
zero_in zero i = refl
zero_in (suc n) zero = refl
zero_in (suc n) (suc i) = zero_in n i

-- ---- all zeros are the empty backend

pub length-zeros : length zeros ≡ memory_words
unfolding zeros
length-zeros = length-replicate {A = ℕ} memory_words 0

zero-at : (i : ℕ) → get_or zeros i 0 ≡ 0
unfolding zeros
zero-at i = zero_in memory_words i

zero-port : (k : ℕ) → port_at zeros k ≡ closed_port
unfolding port_at port_from params_from word
zero-port k = simp zero-at

zero-tag : (k t : ℕ) → tag_at zeros k t ≡ zero_tag
unfolding tag_at tag_from word
zero-tag k t = simp zero-at

either : {A : Type 0} (b : Bool) (x : A) → cond b x x ≡ x
either true x = refl
either false x = refl

-- eight closed ports, the pointer at 0
pub backend-zeros : backend_of zeros ≡ empty_backend
unfolding backend_of pointer_at
backend-zeros =
    let p : pointer_at zeros ≡ 0 = rw (zero-at pointer_word_of) in
    let c : (k : ℕ) → cond (ltb k ports) (port_at zeros k) closed_port ≡ closed_port = λ k. rw (zero-port k) (either (ltb k ports) closed_port) in
    let x : (k t : ℕ) → cond (ltb k ports && ltb t tags) (tag_at zeros k t) zero_tag ≡ zero_tag = λ k t.
    rw (zero-tag k t) (either (ltb k ports && ltb t tags) zero_tag) in
    λ i. record { pointer = p i; port = λ k. c k i; tag = λ k t. x k t i }

own-words : {p : Port} (q : ℕ) → p ≡ closed_port → get_or (words_of p) q 0 ≡ 0
own-words q e = ap (λ (p : Port). get_or (words_of p) q 0) e ∙ zero_in port_words q

tag-words : {x : Tag} (q : ℕ) → x ≡ zero_tag → get_or (tag_words_of x) q 0 ≡ 0
tag-words q e = ap (λ (x : Tag). get_or (tag_words_of x) q 0) e ∙ zero_in tag_words q

pub kept-zeros : Kept zeros
unfolding pointer_at word
kept-zeros = record {
  long = length-zeros;
  port = λ k q h l. zero-at (stride * k + q) ∙ sym (own-words q (zero-port k));
  tag = λ k t q h l o. zero-at (stride * k + (tag_place t + q)) ∙ sym (tag-words q (zero-tag k t));
  pointer = rw (zero-at pointer_word_of);
}

pub zeros-exact : Exact zeros
zeros-exact = kept-exact zeros kept-zeros

pub zeros-memory : zeros ≡ memory_of empty_backend
zeros-memory = zeros-exact ∙ ap memory_of backend-zeros

-- ---- what keeps nothing keeps only zeros

module _ (m : List ℕ) (x : Exact m) where
  tag-zeros : (k t q : ℕ) → k < ports → t < tags → q < tag_words → (backend_of m).tag k t ≡ zero_tag → word m k (tag_place t + q) ≡ 0
  tag-zeros k t q l r o e = (exact-kept m x).tag k t q l r o ∙ tag-words q (sym (backend-tag-at m k t l r) ∙ e)

  port-zeros : (k q : ℕ) → k < ports → q < stride → (backend_of m).port k ≡ closed_port → ((t : ℕ) → (backend_of m).tag k t ≡ zero_tag) → word m k q ≡ 0
  port-zeros k q l r e f =
      elim (dec_lt q port_words) [
        | yes o ↦ (exact-kept m x).port k q l o ∙ own-words q (sym (backend-port-at m k l) ∙ e)
        | no o ↦
            let t = (q - port_words) / tag_words in
            let u = (q - port_words) % tag_words in
            let z : q ≡ tag_place t + u = omega arith in
            ap (word m k) z ∙ tag-zeros k t u l (omega arith) (omega arith) (f t)
      ]

  -- where the backend's closed ports and free tags are zero, so are their words
  pub clean : ((k : ℕ) → ((backend_of m).port k).state ≡ State.Closed → ((backend_of m).port k ≡ closed_port) × ((t : ℕ) → (backend_of m).tag k t ≡ zero_tag))
      → ((k t : ℕ) → is_busy ((backend_of m).port k).busy t ≡ false → (backend_of m).tag k t ≡ zero_tag)
      → Clean m
  clean c f = record {
    closed = λ k q l r e. port-zeros k q l r (c k e).0 (c k e).1;
    free = λ k t q l r o e. tag-zeros k t q l r o (f k t e);
  }
