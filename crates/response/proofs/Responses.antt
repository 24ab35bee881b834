-- What the ring adds to the model's laws of a response: no other byte of the page changes but rsp_prod. Assumes nothing.
use mathlib.Core.Path.{◌≡◌, sym, ◌∙◌}
use mathlib.Core.List.{List}
use Prim.Native.Nat.{ℕ, ◌+◌, ◌-◌, ◌≤◌, ◌<◌}
use native.Mathlib.Omega.{arith}
use lib.ListN.{length, get_or, length-take, length-drop}
use lib.Seq.{ext_get_or}
use Rattle.wire.specs.Part.{part}
use Rattle.wire.proofs.LittleEndian.{get_d-store-outside, load-agree}
use Rattle.wire.proofs.Part.{get_d_part}
use Rattle.model.specs.Ring.{Ring, Layout, layout_of, ring_for, header_size, rsp_prod_at, rsp_event_at, rsp_event, set_rsp_prod, slot_at, response_operation_at, response_status_at, response_padding_at, status_bits, set_response}
use Rattle.model.specs.Turn.{written, responded_all, responded}
use Rattle.model.specs.declared.Abi.{Abi}
use Rattle.model.specs.declared.Pages.{Pages}
use Rattle.model.specs.declared.Pair.{Pair}
use Rattle.model.specs.declared.Status.{Status}
use Rattle.model.proofs.Ring.{Fits, fits-for, header-room, slot_at-header}
use Rattle.model.proofs.Page.{length-responded}

-- ---- a byte that no store of a response reaches

-- the response's stores from the eighth byte on, over any page
module _ (l : Layout) (room : response_padding_at ≤ l.response_size) (page : List ℕ) (at : ℕ) (q : Pair) (s : Status) where
  pub response-outside : (j : ℕ) → ((i : ℕ) → i < l.response_size → j ≡ at + i → ⊥) → get_or (set_response l page at q s) j 0 ≡ get_or page j 0
  unfolding set_response
  response-outside j h =
      get_d-store-outside (l.response_size - response_padding_at) _ (at + response_padding_at) 0 j (λ i k e. h (response_padding_at + i) (omega arith) (omega arith))
      ∙ get_d-store-outside 2 _ (at + response_status_at) (status_bits s) j (λ i k e. h (response_status_at + i) (omega arith) (omega arith))
      ∙ get_d-store-outside 1 _ (at + (response_operation_at + 1)) 0 j (λ i k e. h (response_operation_at + 1 + i) (omega arith) (omega arith))
      ∙ get_d-store-outside 1 _ (at + response_operation_at) q.operation j (λ i k e. h (response_operation_at + i) (omega arith) (omega arith))
      ∙ get_d-store-outside 8 page at q.id j (λ i k e. h i (omega arith) e)

  -- rsp_event stands before any slot
  pub event-response : rsp_event_at + 4 ≤ at → rsp_event (set_response l page at q s) ≡ rsp_event page
  unfolding rsp_event
  event-response h = load-agree 4 (set_response l page at q s) page rsp_event_at (λ i k. response-outside (rsp_event_at + i) (λ u v e. omega arith))

-- in a ring of any layout: the slot lies behind the header, so rsp_event is as it was
pub event_left : (abi : Abi) (pages : Pages) (page : List ℕ) (produced : ℕ) (q : Pair) (s : Status)
    → rsp_event (set_response (layout_of abi) page (slot_at (ring_for abi pages) produced) q s) ≡ rsp_event page
unfolding ring_for
event_left abi pages page produced q s =
    let g = ring_for abi pages in
    let f = fits-for abi pages in
    let behind = slot_at-header g f produced in
    event-response g.layout f.status_room page (slot_at g produced) q s (omega arith)

-- and the ring has room for the header
pub header_fits : (abi : Abi) (pages : Pages) → header_size ≤ (ring_for abi pages).bytes
header_fits abi pages = omega (arith, header-room (ring_for abi pages) (fits-for abi pages))

-- ---- the page after a response of a ring

-- parts of two lists of one length that agree byte for byte
part-agree : (m : ℕ) (a b : List ℕ) (j : ℕ) → length a ≡ length b → ((i : ℕ) → i < m → get_or a (j + i) 0 ≡ get_or b (j + i) 0) → part m a j ≡ part m b j
unfolding part
part-agree m a b j e h =
    ext_get_or 0 _ _ (simp (length-take, length-drop, e)) (λ i k.
    let r : i < m = omega (arith, simp (length-take, length-drop) at k) in
    get_d_part m a j i r ∙ h i r ∙ sym (get_d_part m b j i r))

module _ (g : Ring) (f : Fits g) (page : List ℕ) (n : length page ≡ g.bytes) (produced : ℕ) (q : Pair) (s : Status) where
  -- a byte of neither the response nor rsp_prod stays
  pub responded-outside : (j : ℕ) → ((i : ℕ) → i < g.layout.response_size → j ≡ slot_at g produced + i → ⊥) → ((i : ℕ) → i < 4 → j ≡ rsp_prod_at + i → ⊥)
      → get_or (responded g page produced q s) j 0 ≡ get_or page j 0
  unfolding responded responded_all written set_rsp_prod
  responded-outside j h k =
      get_d-store-outside 4 _ rsp_prod_at _ j k ∙ response-outside g.layout f.status_room page (slot_at g produced) q s j h

  -- what lies in the slot behind the response stays
  pub responded-rest : let rest = g.layout.slot_size - g.layout.response_size in
      part rest (responded g page produced q s) (slot_at g produced + g.layout.response_size) ≡ part rest page (slot_at g produced + g.layout.response_size)
  responded-rest =
      part-agree (g.layout.slot_size - g.layout.response_size) (responded g page produced q s) page (slot_at g produced + g.layout.response_size)
      (length-responded g f page produced q s n ∙ sym n)
      (λ i k. responded-outside (slot_at g produced + g.layout.response_size + i) (λ u v e. omega arith) (λ u v e. omega (arith, slot_at-header g f produced)))
