-- The invariants that tie the backend's fields to the history. That every call keeps them stands in Refinement. Assumes nothing.
use mathlib.Core.Path.{◌≡◌}
use mathlib.Core.List.{List}
use mathlib.Core.Bool.{not}
use Prim.Native.Nat.{ℕ, ◌%◌}
use lib.ListN.{length}
use Rattle.model.specs.Base.{modulus}
use Rattle.model.specs.Port.{is_busy, is_free, tag_of}
use Rattle.model.specs.Calls.{Event}
use Rattle.model.specs.Backend.{Backend}
use Rattle.model.specs.History.{Book, book, holder, pointer, standing}
use Rattle.model.specs.declared.Port.{Port}
use Rattle.model.specs.declared.Tag.{Tag}

-- A port's fields and its tags, against books that stand (rule 12.27): the params are the sheet's; req_cons and rsp_prod_pvt count the requests taken and
-- the answers given, modulo 2^32; a tag's mark is set exactly while its request is unfinished; and a tag keeps that request's pair, serial and expected
-- result, or zeros.
pub record Shape (p : Port) (tags : ℕ → Tag) (b : Book) : Type 0 where
  pub params : p.params ≡ b.params
  pub consumed : p.consumed ≡ length b.taken % modulus
  pub produced : p.produced ≡ length b.answered % modulus
  pub busy : (t : ℕ) → is_busy p.busy t ≡ not (is_free (holder t b.taken))
  pub keeps : (t : ℕ) → tags t ≡ tag_of (holder t b.taken)

-- A port against its books: its state is theirs, and a closed port is as if there were none.
pub record PortTied (p : Port) (tags : ℕ → Tag) (b : Book) : Type 0 where
  pub state : p.state ≡ b.state
  pub shape : Shape p tags (standing b)

abbrev pub PortsTied : Backend → (ℕ → Book) → Type 0
PortsTied b books = (k : ℕ) → PortTied (b.port k) (b.tag k) (books k)

-- The backend against the history: the pointer is the port after the one served last, and each port is tied to its books.
pub record Tied (b : Backend) (h : List Event) : Type 0 where
  pub place : b.pointer ≡ pointer h
  pub ports : PortsTied b (λ k. book k h)
