-- Rule 1.20: of a port's share a call reads and writes the bytes of the port's ring and no others, and of a closed port's share none. So the second half of a
-- one-page port's is never read or written. The proof is `untouched`, in proofs/SecondHalf.antt.
use Rattle.std.specs.Prelude.{ℕ, ◌+◌, ◌*◌, ◌≤◌, ◌<◌, ◌≡◌, false, List, length, get_or}
use Rattle.model.specs.Buffers.{ports, ring_share, rings_length}
use Rattle.model.specs.Port.{View, is_closed}
use Rattle.model.specs.Rules.{due_turn, due_complete}
use Rattle.model.specs.Turn.{ring_at, pages_at}
use Rattle.model.specs.declared.Pages.{Pages}
use Rattle.model.specs.declared.PortId.{PortId}

-- two buffers of rings with the same bytes in the ring of every port that is open or broken; in all others they may differ
pub record SameRings (v : View) (a b : List ℕ) : Type 0 where
  pub long : length a ≡ rings_length
  pub also_long : length b ≡ rings_length
  pub same : (k : ℕ) → k < ports → is_closed (v.state k) ≡ false → pages_at v a k ≡ pages_at v b k

-- a place of the rings that lies in the ring of no such port
abbrev pub InNoRing : View → ℕ → Type 0
InNoRing v m = (k : ℕ) → k < ports → is_closed (v.state k) ≡ false → ring_share * k ≤ m → m < ring_share * k + (ring_at v k).bytes → ⊥

-- a place of the second half of port k's share
abbrev pub InSecondHalf : ℕ → ℕ → Type 0
InSecondHalf k m = (ring_share * k + 4096 ≤ m) × (m < ring_share * k + 8192)

pub record Untouched (v : View) : Type 0 where
  -- Not read: what a turn or a completion answers, and the words beside a turn's answer, are the same,
  pub turn_answer : (a b grants words : List ℕ) → SameRings v a b → (due_turn v a grants words).answer ≡ (due_turn v b grants words).answer
  pub turn_words : (a b grants words : List ℕ) → SameRings v a b → (due_turn v a grants words).words ≡ (due_turn v b grants words).words
  pub complete_answer : (a b : List ℕ) (p : PortId) (entries : List ℕ) → SameRings v a b
      → (due_complete v a p entries).answer ≡ (due_complete v b p entries).answer
  -- and so is what they leave in each ring.
  pub turn_rings : (a b grants words : List ℕ) → SameRings v a b → SameRings v (due_turn v a grants words).rings (due_turn v b grants words).rings
  pub complete_rings : (a b : List ℕ) (p : PortId) (entries : List ℕ) → SameRings v a b
      → SameRings v (due_complete v a p entries).rings (due_complete v b p entries).rings
  -- Each place of the second half of a one-page port's share lies in no ring,
  pub second_half : (k m : ℕ) → k < ports → (v.params k).pages ≡ Pages.One → InSecondHalf k m → InNoRing v m
  -- and is not written: such a place has the byte that it had.
  pub turn_keeps : (rings grants words : List ℕ) (m : ℕ) → InNoRing v m → get_or (due_turn v rings grants words).rings m 0 ≡ get_or rings m 0
  pub complete_keeps : (rings : List ℕ) (p : PortId) (entries : List ℕ) (m : ℕ) → InNoRing v m
      → get_or (due_complete v rings p entries).rings m 0 ≡ get_or rings m 0
