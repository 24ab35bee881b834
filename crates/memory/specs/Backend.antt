-- Backend memory as the abstract backend, and the abstract backend as memory. Reading is total: every content of the
-- words is some backend (rule 14.3).
use Rattle.std.specs.Prelude.{◌≡◌, false, cond, ◌&&◌, List, [], ◌∷◌, ◌++◌, ℕ, zero, suc, ◌+◌, ◌<◌, ltb}
use Rattle.model.specs.Buffers.{ports}
use Rattle.model.specs.Port.{closed_port, zero_tag, is_busy}
use Rattle.model.specs.Backend.{Backend}
use Rattle.model.specs.declared.Port.{Port}
use Rattle.model.specs.declared.State.{State}
use Rattle.memory.specs.Layout.{stride, tags, tag_words, tag_place}
use Rattle.memory.specs.Words.{word, words_of, port_at, tag_words_of, tag_at, pointer_at}

-- what the words say; a port or a tag past the last, which no rule looks at, is closed or zero
unfoldable pub backend_of : List ℕ → Backend
backend_of m = record {
  pointer = pointer_at m;
  port = λ k. cond (ltb k ports) (port_at m k) closed_port;
  tag = λ k t. cond (ltb k ports && ltb t tags) (tag_at m k t) zero_tag;
}

-- n lists, one after another
unfoldable pub row_of : ℕ → (ℕ → List ℕ) → List ℕ
row_of zero f = []
row_of (suc n) f = row_of n f ++ f n

-- port k's words: its own, then its tags'
unfoldable pub port_block : Backend → ℕ → List ℕ
port_block b k = words_of (b.port k) ++ row_of tags (λ t. tag_words_of (b.tag k t))

-- every word of a backend, in its place: the ports', then the pointer (rule 14.11)
unfoldable pub memory_of : Backend → List ℕ
memory_of b = row_of ports (port_block b) ++ b.pointer ∷ []

-- memory that is word for word what its backend is written as: no bit is there that nobody reads (rule 14.11)
abbrev pub Exact : List ℕ → Type 0
Exact m = m ≡ memory_of (backend_of m)

-- A change of memory: the words say this backend now; and where they were exact, each of them is the one that the
-- backend is written as (rule 14.11).
pub record Becomes (before : List ℕ) (b : Backend) (left : List ℕ) : Type 0 where
  pub backend : backend_of left ≡ b
  pub words : Exact before → left ≡ memory_of b

-- a port with one field changed
abbrev pub with_state : Port → State → Port
with_state p s = record { state = s; params = p.params; consumed = p.consumed; produced = p.produced; busy = p.busy }

abbrev pub with_consumed : Port → ℕ → Port
with_consumed p v = record { state = p.state; params = p.params; consumed = v; produced = p.produced; busy = p.busy }

abbrev pub with_produced : Port → ℕ → Port
with_produced p v = record { state = p.state; params = p.params; consumed = p.consumed; produced = v; busy = p.busy }

abbrev pub with_busy : Port → ℕ → Port
with_busy p v = record { state = p.state; params = p.params; consumed = p.consumed; produced = p.produced; busy = v }

-- a closed port and a free tag keep zeros alone, in the words themselves (rules 4.5, 4.6 and 14.12)
pub record Clean (m : List ℕ) : Type 0 where
  pub closed : (k q : ℕ) → k < ports → q < stride → ((backend_of m).port k).state ≡ State.Closed → word m k q ≡ 0
  pub free : (k t q : ℕ) → k < ports → t < tags → q < tag_words → is_busy ((backend_of m).port k).busy t ≡ false → word m k (tag_place t + q) ≡ 0
