-- Section 4 of docs/RULES.md: a port's state, its tags, and what its req_prod says; and the view that all rules look at.
use Rattle.std.specs.Prelude.{ℕ, zero, suc, ◌+◌, ◌-◌, ◌/◌, ◌%◌, ◌^◌, Bool, true, false, [], ◌∷◌, eqb, leb}
use Rattle.model.specs.Base.{◌⇒◌, first_of, least, tally, modulus}
use Rattle.model.specs.declared.Abi.{Abi}
use Rattle.model.specs.declared.Pages.{Pages}
use Rattle.model.specs.declared.Params.{Params}
use Rattle.model.specs.declared.Pending.{Pending}
use Rattle.model.specs.declared.Port.{Port}
use Rattle.model.specs.declared.SectorSize.{SectorSize}
use Rattle.model.specs.declared.State.{State}
use Rattle.model.specs.declared.Tag.{Tag}

-- which of the three states it is (rule 4.1)
abbrev pub is_closed : State → Bool
is_closed State.Closed = true
is_closed State.Open = false
is_closed State.Broken = false

abbrev pub is_open : State → Bool
is_open State.Closed = false
is_open State.Open = true
is_open State.Broken = false

-- What a closed port keeps, and a free tag: in each field what a word of 0 says there (rules 4.5, 4.6 and 14.3).
abbrev pub zero_params : Params
zero_params = record {
  writable = false;
  barrier = false;
  flush = false;
  discard = false;
  secure = false;
  sector = SectorSize.Bytes512;
  sectors = 0;
  abi = Abi.Bits64;
  pages = Pages.One;
}

abbrev pub closed_port : Port
closed_port = record { state = State.Closed; params = zero_params; consumed = 0; produced = 0; busy = 0 }

abbrev pub zero_tag : Tag
zero_tag = record { pair = record { id = 0; operation = 0 }; serial = record { 0 = 0 }; expected = 0 }

-- a port as opening leaves it (rules 4.2 and 4.3)
abbrev pub open_port : Params → Port
open_port p = record { state = State.Open; params = p; consumed = 0; produced = 0; busy = 0 }

-- The tags are marked in one word, busy (marks). It has so many bits, of which a ring uses as many as it has slots (rules 4.7 and 14.4).
abbrev pub busy_bits : ℕ
busy_bits = 64

-- mark t of the word m (rule 4.7)
unfoldable pub is_busy : ℕ → ℕ → Bool
is_busy m zero = eqb (m % 2) 1
is_busy m (suc t) = is_busy (m / 2) t

-- the word with mark t set, where it was clear
abbrev pub set_busy : ℕ → ℕ → ℕ
set_busy m t = m + 2 ^ t

-- the word with mark t clear, where it was set
abbrev pub clear_busy : ℕ → ℕ → ℕ
clear_busy m t = m - 2 ^ t

-- In flight, by the marks (rules 4.8 and 11.9). That this is req_cons - rsp_prod_pvt modulo 2^32 is proved, of every history (rule 4.9).
unfoldable pub in_flight_of : ℕ → ℕ
in_flight_of m = tally busy_bits (is_busy m)

-- A tag as the rules see it: free, or held by a started request (rule 4.7).
pub data Holder : Type 0 where
  free : Holder
  held : Tag → Holder

abbrev pub is_free : Holder → Bool
is_free free = true
is_free (held x) = false

-- what a held tag keeps (rule 5.20)
abbrev pub tag_of : Holder → Tag
tag_of free = zero_tag
tag_of (held x) = x

-- the tag that a start gets, of as many as the ring has slots (rule 4.10)
unfoldable pub lowest_free : ℕ → (ℕ → Holder) → ℕ
lowest_free size tags = least size (λ t. is_free (tags t))

-- how far req_prod is ahead of req_cons (rule 4.11)
unfoldable pub distance : ℕ → ℕ → ℕ
distance req_prod consumed = (req_prod + (modulus - consumed)) % modulus

-- what a distance d says, in a ring of this size (rule 4.12)
unfoldable pub pending_of : ℕ → ℕ → ℕ → Pending
pending_of size in_flight d = first_of (eqb d 0 ⇒ Pending.Nothing ∷ leb d (size - in_flight) ⇒ Pending.Waits ∷ []) Pending.Overrun

-- the index n after i (rule 4.14)
abbrev pub further : ℕ → ℕ → ℕ
further i n = (i + n) % modulus

-- and the one after it
abbrev pub after : ℕ → ℕ
after i = further i 1

-- What the rules look at: each port's state, params, req_cons, rsp_prod_pvt, number in flight and tags, and the pointer. The backend shows one view of
-- itself; the history of its calls shows another (rule 12.27).
pub record View : Type 0 where
  pub state : ℕ → State
  pub params : ℕ → Params
  pub consumed : ℕ → ℕ
  pub produced : ℕ → ℕ
  pub in_flight : ℕ → ℕ
  pub tag : ℕ → ℕ → Holder
  pub pointer : ℕ

-- there is something to serve (rule 4.13)
abbrev pub is_work : Pending → Bool
is_work Pending.Nothing = false
is_work Pending.Waits = true
is_work Pending.Overrun = true
