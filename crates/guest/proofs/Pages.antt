-- The guest's page: where its slots lie, a slot put whole, and what of the header that leaves. Assumes nothing.
use mathlib.Core.Path.{◌≡◌, ap, ◌∙◌}
use mathlib.Core.List.{List, ◌++◌}
use Prim.Native.Nat.{ℕ, ◌+◌, ◌≤◌}
use native.Mathlib.Omega.{arith}
use lib.ListN.{length, take, drop}
use Rattle.wire.specs.Part.{set_part}
use Rattle.wire.proofs.LittleEndian.{load-agree, load-store-above}
use Rattle.wire.proofs.Part.{length-set_part, get_d-set_part-below}
use Rattle.model.specs.Port.{after}
use Rattle.model.specs.Ring.{header_size, slot_bytes, ring_for, slot_at, set_req_prod, req_event}
use Rattle.model.specs.declared.Abi.{Abi}
use Rattle.model.specs.declared.Pages.{Pages}
use Rattle.model.proofs.Ring.{fits-for, slot_at-room, slot_at-header}
use Rattle.guest.specs.Guest.{guest_page, guest_ring, put_page}

pub slot_room : (i : ℕ) → slot_at guest_ring i + slot_bytes ≤ guest_page
unfolding ring_for
slot_room i = slot_at-room guest_ring (fits-for Abi.Bits64 Pages.One) i

pub slot-header : (i : ℕ) → header_size ≤ slot_at guest_ring i
slot-header i = slot_at-header guest_ring (fits-for Abi.Bits64 Pages.One) i

-- n bytes put in the place of those from `at` on are a part put
pub part_put : (page : List ℕ) (at n : ℕ) (slot : List ℕ) → n ≡ slot_bytes → take at page ++ (slot ++ drop n (drop at page)) ≡ set_part slot_bytes page at slot
unfolding set_part
part_put page at n slot e = ap (λ (k : ℕ). take at page ++ (slot ++ drop k (drop at page))) e

-- a slot and req_prod leave req_event
module _ (page : List ℕ) (sized : length page ≡ guest_page) (i : ℕ) (slot : List ℕ) (whole : length slot ≡ slot_bytes) where
  abbrev at : ℕ
  at = slot_at guest_ring i

  fits : at + slot_bytes ≤ length page
  fits = omega (arith, slot_room i)

  pub length-put : length (set_part slot_bytes page at slot) ≡ guest_page
  length-put = length-set_part slot_bytes page at slot fits whole ∙ sized

  pub event-put : req_event (put_page page i slot) ≡ req_event page
  unfolding req_event put_page set_req_prod
  event-put =
      load-store-above 4 4 (set_part slot_bytes page at slot) 0 (after i) 4 (omega arith)
      ∙ load-agree 4 (set_part slot_bytes page at slot) page 4
      (λ q l. get_d-set_part-below slot_bytes page at slot fits whole (4 + q) (omega (arith, slot-header i)))
