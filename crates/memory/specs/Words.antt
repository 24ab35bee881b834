-- The words of backend memory read as ports, tags and the pointer, whatever they hold (rule 14.3), and written.
use Rattle.std.specs.Prelude.{ℕ, zero, suc, ◌+◌, ◌*◌, ◌/◌, ◌%◌, ◌^◌, Bool, true, false, not, List, [], ◌∷◌, eqb, get_or, set, replicate}
use Rattle.std.proofs.lemmas.List.Edits.{sets}
use Rattle.model.specs.Buffers.{ports}
use Rattle.model.specs.declared.Abi.{Abi}
use Rattle.model.specs.declared.Pages.{Pages}
use Rattle.model.specs.declared.Params.{Params}
use Rattle.model.specs.declared.Port.{Port}
use Rattle.model.specs.declared.SectorSize.{SectorSize}
use Rattle.model.specs.declared.State.{State}
use Rattle.model.specs.declared.Tag.{Tag}
use Rattle.memory.specs.Layout.{stride, pointer_word_of, memory_words, tag_place}

-- ---- single words

-- word q of port k
unfoldable pub word : List ℕ → ℕ → ℕ → ℕ
word m k q = get_or m (stride * k + q) 0

unfoldable pub set_word : List ℕ → ℕ → ℕ → ℕ → List ℕ
set_word m k q v = set m (stride * k + q) v

-- a state: 0 closed, 1 open, anything else broken (rule 14.3)
abbrev pub state_of : ℕ → State
state_of zero = State.Closed
state_of (suc zero) = State.Open
state_of (suc (suc n)) = State.Broken

abbrev pub state_word : State → ℕ
state_word State.Closed = 0
state_word State.Open = 1
state_word State.Broken = 2

-- a flag: 0 is false, anything else true (rule 14.3)
abbrev pub flag_of : ℕ → Bool
flag_of x = not (eqb x 0)

abbrev pub flag_word : Bool → ℕ
flag_word false = 0
flag_word true = 1

-- a sector size: 512 times 2 to the word modulo 4 (rule 14.3)
abbrev pub sector_case : ℕ → SectorSize
sector_case zero = SectorSize.Bytes512
sector_case (suc zero) = SectorSize.Bytes1024
sector_case (suc (suc zero)) = SectorSize.Bytes2048
sector_case (suc (suc (suc n))) = SectorSize.Bytes4096

abbrev pub sector_of : ℕ → SectorSize
sector_of x = sector_case (x % 4)

abbrev pub sector_word : SectorSize → ℕ
sector_word SectorSize.Bytes512 = 0
sector_word SectorSize.Bytes1024 = 1
sector_word SectorSize.Bytes2048 = 2
sector_word SectorSize.Bytes4096 = 3

-- a layout: 0 is the 64-bit one, anything else the 32-bit one (rule 14.3)
abbrev pub abi_of : ℕ → Abi
abi_of zero = Abi.Bits64
abi_of (suc n) = Abi.Bits32

abbrev pub abi_word : Abi → ℕ
abi_word Abi.Bits64 = 0
abi_word Abi.Bits32 = 1

-- a ring's pages: a second one where bit 5 is set, which is worth as much as the second page has slots (rule 14.3)
abbrev pub pages_case : ℕ → Pages
pages_case zero = Pages.One
pages_case (suc n) = Pages.Two

abbrev pub pages_from : ℕ → Pages
pages_from x = pages_case (x / 32 % 2)

abbrev pub pages_word : Pages → ℕ
pages_word Pages.One = 0
pages_word Pages.Two = 32

-- a number of 8 or 32 bits: modulo its width (rule 14.3)
abbrev pub narrow8 : ℕ → ℕ
narrow8 x = x % 2 ^ 8

abbrev pub narrow32 : ℕ → ℕ
narrow32 x = x % 2 ^ 32

-- ---- a port

-- which of a port's words holds the fields that are read and written singly
abbrev pub state_at : ℕ
state_at = 0

abbrev pub consumed_at : ℕ
consumed_at = 10

abbrev pub produced_at : ℕ
produced_at = 11

abbrev pub busy_at : ℕ
busy_at = 12

-- the params in words 1 to 9 of a port
unfoldable pub params_from : (ℕ → ℕ) → Params
params_from w = record {
  writable = flag_of (w 1);
  barrier = flag_of (w 2);
  flush = flag_of (w 3);
  discard = flag_of (w 4);
  secure = flag_of (w 5);
  sector = sector_of (w 6);
  sectors = w 7;
  abi = abi_of (w 8);
  pages = pages_from (w 9);
}

-- a port, by its words
unfoldable pub port_from : (ℕ → ℕ) → Port
port_from w = record {
  state = state_of (w state_at);
  params = params_from w;
  consumed = narrow32 (w consumed_at);
  produced = narrow32 (w produced_at);
  busy = w busy_at;
}

-- the words of a port
abbrev pub words_of : Port → List ℕ
words_of p =
    state_word p.state
    ∷ flag_word p.params.writable
    ∷ flag_word p.params.barrier
    ∷ flag_word p.params.flush
    ∷ flag_word p.params.discard
    ∷ flag_word p.params.secure
    ∷ sector_word p.params.sector
    ∷ p.params.sectors
    ∷ abi_word p.params.abi
    ∷ pages_word p.params.pages
    ∷ p.consumed
    ∷ p.produced
    ∷ p.busy
    ∷ []

-- port k of the words
unfoldable pub port_at : List ℕ → ℕ → Port
port_at m k = port_from (word m k)

-- and of the words with p as port k
unfoldable pub set_port : List ℕ → ℕ → Port → List ℕ
set_port m k p = sets m (stride * k) (words_of p)

-- ---- a tag

-- a tag, by its words
unfoldable pub tag_from : (ℕ → ℕ) → Tag
tag_from w = record {
  pair = record { id = w 0; operation = narrow8 (w 1) };
  serial = record { 0 = narrow32 (w 2) };
  expected = narrow32 (w 3);
}

-- the words of a tag
abbrev pub tag_words_of : Tag → List ℕ
tag_words_of x = x.pair.id ∷ x.pair.operation ∷ x.serial.0 ∷ x.expected ∷ []

-- tag t of port k
unfoldable pub tag_at : List ℕ → ℕ → ℕ → Tag
tag_at m k t = tag_from (λ q. word m k (tag_place t + q))

unfoldable pub set_tag : List ℕ → ℕ → ℕ → Tag → List ℕ
set_tag m k t x = sets m (stride * k + tag_place t) (tag_words_of x)

-- ---- the pointer: modulo the number of ports (rule 14.3)

unfoldable pub pointer_at : List ℕ → ℕ
pointer_at m = get_or m pointer_word_of 0 % ports

unfoldable pub set_pointer : List ℕ → ℕ → List ℕ
set_pointer m k = set m pointer_word_of k

-- ---- all zeros: the empty backend (rule 14.2)

unfoldable pub zeros : List ℕ
zeros = replicate memory_words 0
