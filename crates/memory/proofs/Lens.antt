-- The lens laws of backend memory: what was put is read back, and every other port, tag and word is as before. Assumes nothing.
use mathlib.Core.Path.{◌≡◌, refl, sym, ap, ◌∙◌}
use mathlib.Core.Bool.{Bool, true, false, cond}
use mathlib.Core.List.{List, [], ◌∷◌}
use Prim.Native.Nat.{ℕ, zero, suc, ◌+◌, ◌*◌, ◌%◌, ◌^◌, ◌<◌, ◌≤◌}
use native.Mathlib.Decide.{ℕ_discrete}
use native.Mathlib.Nat.{add-zero, add_assoc, mod-eq_of_lt}
use native.Mathlib.Omega.{arith}
use lib.Dec.{eqb}
use lib.ListN.{length, get_or, set, length-set}
use lib.Seq.{sets, length-sets, get_or-set_same, get_or-set_other}
use borrow.Author.Tests.{eq-eqb, ne_eqb}
use Rattle.model.specs.Buffers.{ports}
use Rattle.model.specs.declared.Abi.{Abi}
use Rattle.model.specs.declared.Pages.{Pages}
use Rattle.model.specs.declared.Port.{Port}
use Rattle.model.specs.declared.SectorSize.{SectorSize}
use Rattle.model.specs.declared.State.{State}
use Rattle.model.specs.declared.Tag.{Tag}
use Rattle.memory.specs.Layout.{port_words, tag_words, tags, stride, pointer_word_of, memory_words, tag_place}
use Rattle.memory.specs.Words.{word, set_word, state_of, state_word, flag_of, flag_word, sector_of, sector_word, sector_case, abi_of, abi_word, pages_case, pages_from, pages_word}
use Rattle.memory.specs.Words.{state_at, consumed_at, produced_at, busy_at, params_from, port_from, words_of, port_at, set_port}
use Rattle.memory.specs.Backend.{with_state, with_consumed, with_produced, with_busy}
use Rattle.memory.specs.Words.{tag_from, tag_words_of, tag_at, set_tag, pointer_at, set_pointer}

-- ---- single words

pub state-broken : (n : ℕ) → (n ≡ 0 → ⊥) → (n ≡ 1 → ⊥) → State.Broken ≡ state_of n
state-broken zero h l = absurd (h refl)
state-broken (suc zero) h l = absurd (l refl)
state-broken (suc (suc n)) h l = refl

pub sector-last : (n : ℕ) → (n ≡ 0 → ⊥) → (n ≡ 1 → ⊥) → (n ≡ 2 → ⊥) → SectorSize.Bytes4096 ≡ sector_case n
sector-last zero h l o = absurd (h refl)
sector-last (suc zero) h l o = absurd (l refl)
sector-last (suc (suc zero)) h l o = absurd (o refl)
sector-last (suc (suc (suc n))) h l o = refl

pub abi-other : (n : ℕ) → (n ≡ 0 → ⊥) → Abi.Bits32 ≡ abi_of n
abi-other zero h = absurd (h refl)
abi-other (suc n) h = refl

pub pages-other : (n : ℕ) → (n ≡ 0 → ⊥) → Pages.Two ≡ pages_case n
pages-other zero h = absurd (h refl)
pages-other (suc n) h = refl

pub state-back : (s : State) → state_of (state_word s) ≡ s
state-back State.Closed = refl
state-back State.Open = refl
state-back State.Broken = refl

flag-back : (b : Bool) → flag_of (flag_word b) ≡ b
flag-back true = refl
flag-back false = refl

sector-back : (s : SectorSize) → sector_of (sector_word s) ≡ s
sector-back SectorSize.Bytes512 = refl
sector-back SectorSize.Bytes1024 = refl
sector-back SectorSize.Bytes2048 = refl
sector-back SectorSize.Bytes4096 = refl

abi-back : (a : Abi) → abi_of (abi_word a) ≡ a
abi-back Abi.Bits64 = refl
abi-back Abi.Bits32 = refl

pages-back : (n : Pages) → pages_from (pages_word n) ≡ n
pages-back Pages.One = refl
pages-back Pages.Two = refl

-- ---- runs of words

-- two memories agree but for the n words from a place
abbrev pub Apart : ℕ → ℕ → List ℕ → List ℕ → Type 0
Apart from n m left = (i : ℕ) → ((q : ℕ) → q < n → i ≡ from + q → ⊥) → get_or left i 0 ≡ get_or m i 0

-- a run of stores changes no word outside it
pub sets-out : (vs m : List ℕ) (from : ℕ) → Apart from (length vs) m (sets m from vs)
sets-out [] m from i h = refl
sets-out (a ∷ vs) m from i h =
    sets-out vs (set m from a) (suc from) i (λ q k e. h (suc q) (omega arith) (omega arith))
    ∙ get_or-set_other m from i a 0 (λ e. h 0 (omega arith) (omega arith))

-- and is there
pub sets-in : (vs m : List ℕ) (from i q : ℕ) → from + length vs ≤ length m → q < length vs → i ≡ from + q → get_or (sets m from vs) i 0 ≡ get_or vs q 0
sets-in [] m from i q h k e = absurd (omega arith)
sets-in (a ∷ vs) m from i zero h k e =
    sets-out vs (set m from a) (suc from) i (λ q k' e'. omega arith) ∙ rw (e, add-zero) (get_or-set_same m from a 0 (omega arith))
sets-in (a ∷ vs) m from i (suc q) h k e =
    sets-in vs (set m from a) (suc from) i q (rw length-set (omega arith)) (omega arith) (omega arith)

-- ---- a port

-- a port is what its words say
port-agree : (v w : ℕ → ℕ) → ((q : ℕ) → q < port_words → v q ≡ w q) → port_from v ≡ port_from w
unfolding port_from params_from
port-agree v w h =
    rw (
      h 0 (omega arith),
      h 1 (omega arith),
      h 2 (omega arith),
      h 3 (omega arith),
      h 4 (omega arith),
      h 5 (omega arith),
      h 6 (omega arith),
      h 7 (omega arith),
      h 8 (omega arith),
      h 9 (omega arith),
      h 10 (omega arith),
      h 11 (omega arith),
      h 12 (omega arith),
    )

-- the fields of a port that are narrower than their words, within their types
pub record Ranged (p : Port) : Type 0 where
  pub consumed : p.consumed < 2 ^ 32
  pub produced : p.produced < 2 ^ 32

-- a port's words say the port
port-back : (p : Port) → Ranged p → port_from (λ q. get_or (words_of p) q 0) ≡ p
unfolding port_from params_from
port-back p r =
    let c = mod-eq_of_lt r.consumed in
    let d = mod-eq_of_lt r.produced in
    λ i. record {
      state = state-back p.state i;
      params = record {
        writable = flag-back p.params.writable i;
        barrier = flag-back p.params.barrier i;
        flush = flag-back p.params.flush i;
        discard = flag-back p.params.discard i;
        secure = flag-back p.params.secure i;
        sector = sector-back p.params.sector i;
        sectors = p.params.sectors;
        abi = abi-back p.params.abi i;
        pages = pages-back p.params.pages i;
      };
      consumed = c i;
      produced = d i;
      busy = p.busy;
    }

-- a port that was read is within its types
pub ranged : (m : List ℕ) (k : ℕ) → Ranged (port_at m k)
unfolding port_at port_from
ranged m k = record { consumed = omega arith; produced = omega arith }

module _ (m : List ℕ) (k : ℕ) (p : Port) where
  pub length-set_port : length (set_port m k p) ≡ length m
  unfolding set_port
  length-set_port = length-sets m (stride * k) (words_of p)

  pub set_port-apart : Apart (stride * k) port_words m (set_port m k p)
  unfolding set_port
  set_port-apart = sets-out (words_of p) m (stride * k)

  module _ (n : length m ≡ memory_words) (h : k < ports) where
    pub set_port-word : (q : ℕ) → q < port_words → word (set_port m k p) k q ≡ get_or (words_of p) q 0
    unfolding word set_port
    set_port-word q l = sets-in (words_of p) m (stride * k) (stride * k + q) q (omega arith) l refl

    -- what was put is read back
    pub port-same : Ranged p → port_at (set_port m k p) k ≡ p
    unfolding port_at
    port-same r = port-agree (word (set_port m k p) k) (λ q. get_or (words_of p) q 0) set_port-word ∙ port-back p r

-- ---- a tag

tag-agree : (v w : ℕ → ℕ) → ((q : ℕ) → q < tag_words → v q ≡ w q) → tag_from v ≡ tag_from w
unfolding tag_from
tag-agree v w h = rw (h 0 (omega arith), h 1 (omega arith), h 2 (omega arith), h 3 (omega arith))

pub record RangedTag (x : Tag) : Type 0 where
  pub operation : x.pair.operation < 2 ^ 8
  pub serial : x.serial.0 < 2 ^ 32
  pub expected : x.expected < 2 ^ 32

tag_back : (x : Tag) → RangedTag x → tag_from (λ q. get_or (tag_words_of x) q 0) ≡ x
unfolding tag_from
tag_back x r =
    let o = mod-eq_of_lt r.operation in
    let s = mod-eq_of_lt r.serial in
    let e = mod-eq_of_lt r.expected in
    λ i. record { pair = record { id = x.pair.id; operation = o i }; serial = record { 0 = s i }; expected = e i }

module _ (m : List ℕ) (k t : ℕ) (x : Tag) where
  pub length-set_tag : length (set_tag m k t x) ≡ length m
  unfolding set_tag word
  length-set_tag = length-sets m (stride * k + tag_place t) (tag_words_of x)

  pub set_tag-apart : Apart (stride * k + tag_place t) tag_words m (set_tag m k t x)
  unfolding set_tag word
  set_tag-apart = sets-out (tag_words_of x) m (stride * k + tag_place t)

  module _ (n : length m ≡ memory_words) (h : k < ports) (l : t < tags) where
    pub set_tag-word : (q : ℕ) → q < tag_words → word (set_tag m k t x) k (tag_place t + q) ≡ get_or (tag_words_of x) q 0
    unfolding set_tag word
    set_tag-word q o = sets-in (tag_words_of x) m (stride * k + tag_place t) (stride * k + (tag_place t + q)) q (omega arith) o (omega arith)

    -- what was put is read back
    pub tag_same : RangedTag x → tag_at (set_tag m k t x) k t ≡ x
    unfolding tag_at word
    tag_same r =
        tag-agree (λ q. word (set_tag m k t x) k (tag_place t + q)) (λ q. get_or (tag_words_of x) q 0) set_tag-word ∙ tag_back x r

-- ---- a single word of a port

module _ (m : List ℕ) (k q v : ℕ) where
  pub length-set_word : length (set_word m k q v) ≡ length m
  unfolding set_word
  length-set_word = length-set m (stride * k + q) v

  pub set_word-apart : q < port_words → Apart (stride * k) port_words m (set_word m k q v)
  unfolding set_word
  set_word-apart l i h = get_or-set_other m (stride * k + q) i v 0 (h q l)

  pub word_same : length m ≡ memory_words → k < ports → q < port_words → word (set_word m k q v) k q ≡ v
  unfolding word set_word
  word_same n h l = get_or-set_same m (stride * k + q) v 0 (omega arith)

  pub word-other : (u : ℕ) → (u ≡ q → ⊥) → word (set_word m k q v) k u ≡ word m k u
  unfolding word set_word
  word-other u d = get_or-set_other m (stride * k + q) (stride * k + u) v 0 (λ e. d (omega arith))

-- a port whose word is set, by its fields
module _ (m : List ℕ) (n : length m ≡ memory_words) (k : ℕ) (h : k < ports) where
  port-word : (q v : ℕ) → q < port_words → port_at (set_word m k q v) k ≡ port_from (λ u. cond (eqb u q) v (word m k u))
  unfolding port_at
  port-word q v l =
      port-agree (word (set_word m k q v) k) (λ u. cond (eqb u q) v (word m k u)) (λ u o.
      elim (ℕ_discrete u q) [
        | yes e ↦ rw (e, eq-eqb q q refl) (word_same m k q v n h l)
        | no d ↦ rw (ne_eqb u q d) (word-other m k q v u d)
      ])

  pub port-state : (s : State) → port_at (set_word m k state_at (state_word s)) k ≡ with_state (port_at m k) s
  unfolding port_at port_from params_from
  port-state s = port-word state_at (state_word s) (omega arith) ∙ ap (with_state (port_at m k)) (state-back s)

  pub port-consumed : (v : ℕ) → v < 2 ^ 32 → port_at (set_word m k consumed_at v) k ≡ with_consumed (port_at m k) v
  unfolding port_at port_from params_from
  port-consumed v l = port-word consumed_at v (omega arith) ∙ ap (with_consumed (port_at m k)) (mod-eq_of_lt l)

  pub port-produced : (v : ℕ) → v < 2 ^ 32 → port_at (set_word m k produced_at v) k ≡ with_produced (port_at m k) v
  unfolding port_at port_from params_from
  port-produced v l = port-word produced_at v (omega arith) ∙ ap (with_produced (port_at m k)) (mod-eq_of_lt l)

  pub port-busy : (v : ℕ) → port_at (set_word m k busy_at v) k ≡ with_busy (port_at m k) v
  unfolding port_at port_from params_from
  port-busy v = port-word busy_at v (omega arith)

-- ---- the pointer

module _ (m : List ℕ) (v : ℕ) where
  pub length-set_pointer : length (set_pointer m v) ≡ length m
  unfolding set_pointer
  length-set_pointer = length-set m pointer_word_of v

  pub set_pointer-apart : Apart pointer_word_of 1 m (set_pointer m v)
  unfolding set_pointer
  set_pointer-apart i h = get_or-set_other m pointer_word_of i v 0 (λ e. h 0 (omega arith) (omega arith))

  pub pointer-same : length m ≡ memory_words → v < ports → pointer_at (set_pointer m v) ≡ v
  unfolding pointer_at set_pointer
  pointer-same n h = rw (get_or-set_same m pointer_word_of v 0 (omega arith)) (mod-eq_of_lt h)

-- ---- every other port, tag and the pointer, after any change that is apart from them

-- where a word stands settles its port, and which of the port's words it is
pub same_place : (j k a b : ℕ) → a < stride → b < stride → stride * j + a ≡ stride * k + b → (j ≡ k) × (a ≡ b)
same_place j k a b l r e = let p : j ≡ k = omega arith in (p, omega (arith, p))

-- a port's own words are not its tags', and those of two tags are not one
pub own-apart : (j k q t u : ℕ) → q < port_words → t < tags → u < tag_words → stride * j + q ≡ stride * k + (tag_place t + u) → ⊥
own-apart j k q t u l r o e = omega (arith, (same_place j k q (tag_place t + u) (omega arith) (omega arith) e).1)

pub tags-apart : (j k t u q r : ℕ) → t < tags → u < tags → q < tag_words → r < tag_words → stride * j + (tag_place t + q) ≡ stride * k + (tag_place u + r)
    → (j ≡ k) × (t ≡ u)
tags-apart j k t u q r l o v w e =
    let p = same_place j k (tag_place t + q) (tag_place u + r) (omega arith) (omega arith) e in
    (p.0, omega (arith, p.1))

module _ (m left : List ℕ) (k : ℕ) where
  -- a change within port k's own words
  module _ (a : Apart (stride * k) port_words m left) where
    pub port-other : (j : ℕ) → (j ≡ k → ⊥) → port_at left j ≡ port_at m j
    unfolding port_at word
    port-other j d = port-agree (word left j) (word m j) (λ q l. a (stride * j + q) (λ u o e. d (omega arith)))

    pub port-tag : (j t : ℕ) → t < tags → tag_at left j t ≡ tag_at m j t
    unfolding tag_at word
    port-tag j t l =
        tag-agree (λ q. word left j (tag_place t + q)) (λ q. word m j (tag_place t + q)) (λ q o.
        a (stride * j + (tag_place t + q)) (λ u r e. own-apart k j u t q r l o (sym e)))

    pub port-pointer : k < ports → pointer_at left ≡ pointer_at m
    unfolding pointer_at
    port-pointer h = ap (λ x. x % ports) (a pointer_word_of (λ u r e. omega arith))

  -- a change within a tag's words
  module _ (t : ℕ) (h : t < tags) (a : Apart (stride * k + tag_place t) tag_words m left) where
    pub tag-port : (j : ℕ) → port_at left j ≡ port_at m j
    unfolding port_at word
    tag-port j = port-agree (word left j) (word m j) (λ q l. a (stride * j + q) (λ u o e. own-apart j k q t u l h o (e ∙ add_assoc (stride * k) (tag_place t) u)))

    pub tag-other : (j u : ℕ) → u < tags → (j ≡ k → u ≡ t → ⊥) → tag_at left j u ≡ tag_at m j u
    unfolding tag_at word
    tag-other j u l d =
        tag-agree (λ q. word left j (tag_place u + q)) (λ q. word m j (tag_place u + q)) (λ q o.
        a (stride * j + (tag_place u + q)) (λ r s e. let p = tags-apart j k u t q r l h o s (e ∙ add_assoc (stride * k) (tag_place t) r) in d p.0 p.1))

    pub tag-pointer : k < ports → pointer_at left ≡ pointer_at m
    unfolding pointer_at
    tag-pointer l = ap (λ x. x % ports) (a pointer_word_of (λ u r e. omega arith))

-- a change of the pointer's word
module _ (m left : List ℕ) (a : Apart pointer_word_of 1 m left) where
  pub pointer-port : (j : ℕ) → j < ports → port_at left j ≡ port_at m j
  unfolding port_at word
  pointer-port j h = port-agree (word left j) (word m j) (λ q l. a (stride * j + q) (λ u o e. omega arith))

  pub pointer-tag : (j t : ℕ) → j < ports → t < tags → tag_at left j t ≡ tag_at m j t
  unfolding tag_at word
  pointer-tag j t h l =
      tag-agree (λ q. word left j (tag_place t + q)) (λ q. word m j (tag_place t + q)) (λ q o.
      a (stride * j + (tag_place t + q)) (λ u r e. omega arith))
