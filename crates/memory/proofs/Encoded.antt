-- Memory is word for word the encoding of the backend that it reads as, exactly where every word is the one that a write would leave. Assumes nothing.
use mathlib.Core.Path.{◌≡◌, refl, sym, ap, ◌∙◌}
use mathlib.Core.List.{List, [], ◌∷◌, ◌++◌}
use Prim.Native.Nat.{ℕ, zero, suc, ◌+◌, ◌-◌, ◌*◌, ◌/◌, ◌%◌, ◌≤◌, ◌<◌}
use native.Mathlib.Decide.{dec_lt}
use native.Mathlib.Nat.{mul-suc, mul-le-mul_left}
use native.Mathlib.Omega.{arith}
use lib.ListN.{length, get_or, length-append, get_or-append}
use lib.Seq.{ext_get_or, get_or-append-add}
use Rattle.model.specs.Buffers.{ports}
use Rattle.model.specs.Backend.{Backend}
use Rattle.model.specs.declared.Port.{Port}
use Rattle.model.specs.declared.Tag.{Tag}
use Rattle.memory.specs.Layout.{port_words, tag_words, tags, stride, pointer_word_of, memory_words, tag_place}
use Rattle.memory.specs.Words.{word, words_of, tag_words_of}
use Rattle.memory.specs.Backend.{backend_of}
use Rattle.memory.specs.Backend.{row_of, port_block, memory_of, Exact}
use Rattle.memory.proofs.Backend.{backend-port-at, backend-tag-at}
use Rattle.memory.proofs.Kept.{Kept}

-- ---- lists one after another

module _ (size : ℕ) (f : ℕ → List ℕ) (each : (k : ℕ) → length (f k) ≡ size) where
  length-row : (n : ℕ) → length (row_of n f) ≡ size * n
  unfolding row_of
  length-row zero = omega arith
  length-row (suc n) = length-append (row_of n f) (f n) ∙ omega (arith, length-row n, each n, mul-suc size n)

  get_d-row : (n k q : ℕ) → k < n → q < size → get_or (row_of n f) (size * k + q) 0 ≡ get_or (f k) q 0
  unfolding row_of
  get_d-row zero k q h l = absurd (omega arith)
  get_d-row (suc n) k q h l =
      elim (dec_lt k n) [
        | yes o ↦
            let w : size * k + size ≤ size * n = omega (arith, mul-suc size k, mul-le-mul_left {m = suc k} {n = n} size o) in
            get_or-append (row_of n f) (f n) 0 (size * k + q) (omega (arith, length-row n)) ∙ get_d-row n k q o l
        | no o ↦
            let z : k ≡ n = omega arith in
            rw (z, ← length-row n) (get_or-append-add (row_of n f) (f n) q 0)
      ]

-- ---- the words of the encoding

module _ (b : Backend) where
  tag-row : (k : ℕ) → length (row_of tags (λ t. tag_words_of (b.tag k t))) ≡ tag_words * tags
  tag-row k = length-row tag_words (λ t. tag_words_of (b.tag k t)) (λ t. refl) tags

  length-block : (k : ℕ) → length (port_block b k) ≡ stride
  unfolding port_block
  length-block k = length-append (words_of (b.port k)) (row_of tags (λ t. tag_words_of (b.tag k t))) ∙ omega (arith, tag-row k)

  length-ports : length (row_of ports (port_block b)) ≡ stride * ports
  length-ports = length-row stride (port_block b) length-block ports

  pub length-memory : length (memory_of b) ≡ memory_words
  unfolding memory_of
  length-memory = length-append (row_of ports (port_block b)) (b.pointer ∷ []) ∙ omega (arith, length-ports)

  block-word : (k q : ℕ) → k < ports → q < stride → get_or (memory_of b) (stride * k + q) 0 ≡ get_or (port_block b k) q 0
  unfolding memory_of
  block-word k q h l =
      get_or-append (row_of ports (port_block b)) (b.pointer ∷ []) 0 (stride * k + q) (omega (arith, length-ports))
      ∙ get_d-row stride (port_block b) length-block ports k q h l

  own-word : (k q : ℕ) → k < ports → q < port_words → get_or (memory_of b) (stride * k + q) 0 ≡ get_or (words_of (b.port k)) q 0
  unfolding port_block
  own-word k q h l = block-word k q h (omega arith) ∙ get_or-append (words_of (b.port k)) (row_of tags (λ t. tag_words_of (b.tag k t))) 0 q l

  tag_word : (k t q : ℕ) → k < ports → t < tags → q < tag_words → get_or (memory_of b) (stride * k + (tag_place t + q)) 0 ≡ get_or (tag_words_of (b.tag k t)) q 0
  unfolding port_block
  tag_word k t q h l r =
      let rows = row_of tags (λ u. tag_words_of (b.tag k u)) in
      let z : tag_place t + q ≡ length (words_of (b.port k)) + (tag_words * t + q) = omega arith in
      block-word k (tag_place t + q) h (omega arith)
      ∙ ap (λ (i : ℕ). get_or (words_of (b.port k) ++ rows) i 0) z
      ∙ get_or-append-add (words_of (b.port k)) rows (tag_words * t + q) 0
      ∙ get_d-row tag_words (λ u. tag_words_of (b.tag k u)) (λ u. refl) tags t q l r

  pointer_word : get_or (memory_of b) pointer_word_of 0 ≡ b.pointer
  unfolding memory_of
  pointer_word =
      let z : pointer_word_of ≡ length (row_of ports (port_block b)) + 0 = omega (arith, length-ports) in
      ap (λ (i : ℕ). get_or (row_of ports (port_block b) ++ b.pointer ∷ []) i 0) z ∙ get_or-append-add (row_of ports (port_block b)) (b.pointer ∷ []) 0 0

-- ---- two memories with the same words

module _ (m l : List ℕ)
    (own : (k q : ℕ) → k < ports → q < port_words → get_or m (stride * k + q) 0 ≡ get_or l (stride * k + q) 0)
    (tagged : (k t q : ℕ) → k < ports → t < tags → q < tag_words → get_or m (stride * k + (tag_place t + q)) 0 ≡ get_or l (stride * k + (tag_place t + q)) 0)
    (pointed : get_or m pointer_word_of 0 ≡ get_or l pointer_word_of 0) where
  word_same : (i : ℕ) → i < memory_words → get_or m i 0 ≡ get_or l i 0
  word_same i h =
      elim (dec_lt i pointer_word_of) [
        | no o ↦ let z : i ≡ pointer_word_of = omega arith in rw z pointed
        | yes o ↦
            let k = i / stride in
            let q = i % stride in
            elim (dec_lt q port_words) [
              | yes r ↦ let z : i ≡ stride * k + q = omega arith in rw z (own k q (omega arith) r)
              | no r ↦
                  let t = (q - port_words) / tag_words in
                  let u = (q - port_words) % tag_words in
                  let z : i ≡ stride * k + (tag_place t + u) = omega arith in
                  rw z (tagged k t u (omega arith) (omega arith) (omega arith))
            ]
      ]

  memory-same : length m ≡ memory_words → length l ≡ memory_words → m ≡ l
  memory-same n w = ext_get_or 0 m l (n ∙ sym w) (λ i h. word_same i (omega (arith, n)))

-- ---- exactly where every word is as a write would leave it

pub kept-exact : (m : List ℕ) → Kept m → Exact m
unfolding backend_of word
kept-exact m o =
    let b = backend_of m in
    memory-same m (memory_of b)
    (λ k q h l. o.port k q h l ∙ ap (λ (p : Port). get_or (words_of p) q 0) (sym (backend-port-at m k h)) ∙ sym (own-word b k q h l))
    (λ k t q h l r. o.tag k t q h l r ∙ ap (λ (x : Tag). get_or (tag_words_of x) q 0) (sym (backend-tag-at m k t h l)) ∙ sym (tag_word b k t q h l r))
    (o.pointer ∙ sym (pointer_word b))
    o.long (length-memory b)

pub exact-kept : (m : List ℕ) → Exact m → Kept m
unfolding backend_of word
exact-kept m e =
    let b = backend_of m in
    let at : (i : ℕ) → get_or m i 0 ≡ get_or (memory_of b) i 0 = λ i. ap (λ (x : List ℕ). get_or x i 0) e in
    record {
      long = ap (λ (x : List ℕ). length x) e ∙ length-memory b;
      port = λ k q h l. at (stride * k + q) ∙ own-word b k q h l ∙ ap (λ (p : Port). get_or (words_of p) q 0) (backend-port-at m k h);
      tag = λ k t q h l r. at (stride * k + (tag_place t + q)) ∙ tag_word b k t q h l r ∙ ap (λ (x : Tag). get_or (tag_words_of x) q 0) (backend-tag-at m k t h l);
      pointer = at pointer_word_of ∙ pointer_word b;
    }
