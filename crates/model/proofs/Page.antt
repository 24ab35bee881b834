-- The laws of a port's pages: what was put is there, and a response reads back as the pair and the status that it was given. Assumes nothing.
use mathlib.Core.Path.{◌≡◌, sym, ap, ◌∙◌}
use mathlib.Core.List.{List}
use mathlib.Core.Logic.{◌≢◌}
use Prim.Native.Nat.{ℕ, ◌+◌, ◌-◌, ◌*◌, ◌^◌, ◌≤◌, ◌<◌}
use native.Mathlib.Decide.{dec_lt}
use native.Mathlib.Omega.{arith}
use lib.ListN.{length, get_or}
use Rattle.wire.specs.LittleEndian.{load, store}
use Rattle.wire.proofs.LittleEndian.{length-store, get_d-store-outside, get_d-store-inside, load-store-below, load-store-above, load-store-lt, load_lt, bytes-store}
use Rattle.wire.proofs.Part.{length_part, length-set_part, part-set_part, get_d-set_part-below, get_d-set_part-above, part-set_part-below, part-set_part-above, load_part, set_part-store, bytes-part, bytes-set_part}
use Rattle.model.specs.Buffers.{ports, ring_share, rings_length, pages_of, set_pages}
use Rattle.model.specs.Ring.{Layout, Ring, header_size, req_prod_at, req_event_at, req_prod, set_req_event, set_rsp_prod, rsp_prod, slot_at, slot_of, request_of, set_response, status_bits, response_pair, response_status}
use Rattle.model.specs.Port.{after}
use Rattle.model.specs.Turn.{written, responded_all, responded}
use Rattle.model.specs.declared.Pair.{Pair}
use Rattle.model.specs.declared.Status.{Status}
use Rattle.model.proofs.Ring.{Fits, slot_at-room, slot_at-header}

-- ---- pages of the rings

module _ (g : Ring) (f : Fits g) (rings : List ℕ) (k : ℕ) (sized : length rings ≡ rings_length) (small : k < ports) where
  fit : ring_share * k + g.bytes ≤ length rings
  fit = omega (arith, f.within)

  pub length-pages_of : length (pages_of g rings k) ≡ g.bytes
  unfolding pages_of
  length-pages_of = length_part g.bytes rings (ring_share * k) fit

  -- the pages that were put are there
  pub pages_of-set_pages : (pages : List ℕ) → length pages ≡ g.bytes → pages_of g (set_pages g rings k pages) k ≡ pages
  unfolding pages_of set_pages
  pages_of-set_pages pages l = part-set_part g.bytes rings (ring_share * k) pages fit l

  pub length-set_pages : (pages : List ℕ) → length pages ≡ g.bytes → length (set_pages g rings k pages) ≡ length rings
  unfolding set_pages
  length-set_pages pages l = length-set_part g.bytes rings (ring_share * k) pages fit l

  -- and every other port's are as before, whatever its ring
  pub pages_of-other : (pages : List ℕ) → length pages ≡ g.bytes → (h : Ring) → Fits h → (j : ℕ) → j < ports → j ≢ k
      → pages_of h (set_pages g rings k pages) j ≡ pages_of h rings j
  unfolding pages_of set_pages
  pages_of-other pages l h e j here ne =
      elim (dec_lt j k) [
        | yes o ↦ part-set_part-below g.bytes rings (ring_share * k) pages fit l h.bytes (ring_share * j) (omega (arith, e.within, o))
        | no o ↦ part-set_part-above g.bytes rings (ring_share * k) pages fit l h.bytes (ring_share * j) (omega (arith, e.within, f.within, o, ne))
      ]

  -- and every byte outside them
  pub get_d-set_pages : (pages : List ℕ) → length pages ≡ g.bytes → (m : ℕ) → (ring_share * k ≤ m → m < ring_share * k + g.bytes → ⊥)
      → get_or (set_pages g rings k pages) m 0 ≡ get_or rings m 0
  unfolding set_pages
  get_d-set_pages pages l m out =
      elim (dec_lt m (ring_share * k)) [
        | yes o ↦ get_d-set_part-below g.bytes rings (ring_share * k) pages fit l m o
        | no o ↦
            elim (dec_lt m (ring_share * k + g.bytes)) [
              | yes u ↦ absurd (out (omega (arith, o)) u)
              | no u ↦ get_d-set_part-above g.bytes rings (ring_share * k) pages fit l m (omega (arith, u))
            ]
      ]

pub bytes-set_pages : (g : Ring) (rings : List ℕ) (k : ℕ) (pages : List ℕ) → ((j : ℕ) → get_or rings j 0 < 256) → ((j : ℕ) → get_or pages j 0 < 256)
    → (j : ℕ) → get_or (set_pages g rings k pages) j 0 < 256
unfolding set_pages
bytes-set_pages g rings k pages h p = bytes-set_part g.bytes rings (ring_share * k) pages h p

-- The header is reached in the rings at the same place, whatever the port's ring: req_prod read,
module _ (g : Ring) (room : header_size ≤ g.bytes) (within : g.bytes ≤ ring_share) (rings : List ℕ) (k : ℕ) (sized : length rings ≡ rings_length) (small : k < ports) where
  pub req-prod-at : load 4 rings (ring_share * k + req_prod_at) ≡ req_prod (pages_of g rings k)
  unfolding req_prod pages_of
  req-prod-at = sym (load_part 4 g.bytes rings (ring_share * k) req_prod_at (omega arith))

  -- and req_event written
  pub req-event-at : (v : ℕ) → store 4 rings (ring_share * k + req_event_at) v ≡ set_pages g rings k (set_req_event (pages_of g rings k) v)
  unfolding set_pages set_req_event pages_of
  req-event-at v = sym (set_part-store 4 g.bytes rings (ring_share * k) req_event_at v (omega arith) (omega arith))

-- ---- requests

-- a pair within its bytes
abbrev pub FitsPair : Pair → Type 0
FitsPair q = (q.id < 2 ^ 64) × (q.operation < 256)

-- a request read from bytes
pub request-fits : (l : Layout) (slot : List ℕ) → ((i : ℕ) → get_or slot i 0 < 256) → FitsPair (request_of l slot).pair
unfolding request_of
request-fits l slot h = (load_lt 8 slot l.id_at h, h 0)

pub slot-bytes : (g : Ring) (rings : List ℕ) (k i : ℕ) → ((j : ℕ) → get_or rings j 0 < 256) → (j : ℕ) → get_or (slot_of g (pages_of g rings k) i) j 0 < 256
unfolding slot_of pages_of
slot-bytes g rings k i h = bytes-part _ _ _ (bytes-part g.bytes rings (ring_share * k) h)

-- ---- responses

-- a status has 16 bits
pub status_bits-lt : (s : Status) → status_bits s < 256 ^ 2
status_bits-lt Status.Okay = omega arith
status_bits-lt Status.Error = omega arith
status_bits-lt Status.NotSupported = omega arith

module _ (l : Layout) (page : List ℕ) (at : ℕ) (q : Pair) (s : Status) where
  pub length-set_response : length (set_response l page at q s) ≡ length page
  unfolding set_response
  length-set_response =
      length-store (l.response_size - 12) _ (at + 12) 0
      ∙ length-store 2 _ (at + 10) (status_bits s)
      ∙ length-store 1 _ (at + 9) 0
      ∙ length-store 1 _ (at + 8) q.operation
      ∙ length-store 8 page at q.id

  module _ (whole : 12 ≤ l.response_size) (room : at + l.response_size ≤ length page) where
    -- a response reads back as its pair
    pub pair-set_response : FitsPair q → response_pair (set_response l page at q s) at ≡ q
    unfolding response_pair set_response
    pair-set_response fit =
        let a = store 8 page at q.id in
        let b = store 1 a (at + 8) q.operation in
        let c = store 1 b (at + 9) 0 in
        let d = store 2 c (at + 10) (status_bits s) in
        let e = store (l.response_size - 12) d (at + 12) 0 in
        let id : load 8 e at ≡ q.id =
        load-store-below 8 (l.response_size - 12) d (at + 12) 0 at (omega arith)
        ∙ load-store-below 8 2 c (at + 10) (status_bits s) at (omega arith)
        ∙ load-store-below 8 1 b (at + 9) 0 at (omega arith)
        ∙ load-store-below 8 1 a (at + 8) q.operation at (omega arith)
        ∙ load-store-lt 8 page at q.id (omega arith) fit.0 in
        let operation : get_or e (at + 8) 0 ≡ q.operation =
        get_d-store-outside (l.response_size - 12) d (at + 12) 0 (at + 8) (λ i h k. omega arith)
        ∙ get_d-store-outside 2 c (at + 10) (status_bits s) (at + 8) (λ i h k. omega arith)
        ∙ get_d-store-outside 1 b (at + 9) 0 (at + 8) (λ i h k. omega arith)
        ∙ ap (λ (i : ℕ). get_or b i 0) (omega arith)
        ∙ get_d-store-inside 1 a (at + 8) q.operation 0 (omega arith) (omega (arith, length-store 8 page at q.id))
        ∙ omega (arith, fit.1) in
        λ i. record { id = id i; operation = operation i }

    -- and its status
    pub status-set_response : response_status (set_response l page at q s) at ≡ status_bits s
    unfolding response_status set_response
    status-set_response =
        let a = store 8 page at q.id in
        let b = store 1 a (at + 8) q.operation in
        let c = store 1 b (at + 9) 0 in
        let d = store 2 c (at + 10) (status_bits s) in
        load-store-below 2 (l.response_size - 12) d (at + 12) 0 (at + 10) (omega arith)
        ∙ load-store-lt
        2
        c
        (at + 10)
        (status_bits s)
        (omega (arith, length-store 1 b (at + 9) 0, length-store 1 a (at + 8) q.operation, length-store 8 page at q.id))
        (status_bits-lt s)

-- a response in the slot of an index, with rsp_prod after it
module _ (g : Ring) (f : Fits g) (page : List ℕ) (produced : ℕ) (q : Pair) (s : Status) (sized : length page ≡ g.bytes) where
  pub length-responded : length (responded g page produced q s) ≡ g.bytes
  unfolding responded responded_all written set_rsp_prod
  length-responded = length-store 4 _ 8 _ ∙ length-set_response g.layout page (slot_at g produced) q s ∙ sized

  room : slot_at g produced + g.layout.response_size ≤ length page
  room = omega (arith, slot_at-room g f produced, f.response_room)

  -- rsp_prod stands before every slot
  pub pair-responded : FitsPair q → response_pair (responded g page produced q s) (slot_at g produced) ≡ q
  unfolding response_pair responded responded_all written set_rsp_prod
  pair-responded fit =
      let at = slot_at g produced in
      let b = set_response g.layout page at q s in
      let id = load-store-above 8 4 b 8 (after produced) at (omega (arith, slot_at-header g f produced)) in
      let operation = get_d-store-outside 4 b 8 (after produced) (at + 8) (λ i h e. omega (arith, slot_at-header g f produced)) in
      (λ i. record { id = id i; operation = operation i }) ∙ pair-set_response g.layout page at q s f.status_room room fit

  pub status-responded : response_status (responded g page produced q s) (slot_at g produced) ≡ status_bits s
  unfolding response_status responded responded_all written set_rsp_prod
  status-responded =
      let at = slot_at g produced in
      load-store-above 2 4 (set_response g.layout page at q s) 8 (after produced) (at + 10) (omega (arith, slot_at-header g f produced))
      ∙ status-set_response g.layout page at q s f.status_room room

  -- rsp_prod says so
  pub rsp_prod-responded : rsp_prod (responded g page produced q s) ≡ after produced
  unfolding rsp_prod responded responded_all written set_rsp_prod
  rsp_prod-responded =
      let long = length-set_response g.layout page (slot_at g produced) q s in
      load-store-lt 4 _ 8 (after produced) (omega (arith, f.room)) (omega arith)

  -- only rsp_prod and the slot are written,
  pub get_d-responded : (m : ℕ) → (8 ≤ m → m < 12 → ⊥) → (slot_at g produced ≤ m → m < slot_at g produced + g.layout.slot_size → ⊥)
      → get_or (responded g page produced q s) m 0 ≡ get_or page m 0
  unfolding responded responded_all written set_rsp_prod set_response
  get_d-responded m x y =
      let at = slot_at g produced in
      let n = f.response_room in
      let w = f.status_room in
      get_d-store-outside 4 _ 8 _ m (λ i h e. x (omega arith) (omega arith))
      ∙ get_d-store-outside (g.layout.response_size - 12) _ (at + 12) 0 m (λ i h e. y (omega arith) (omega arith))
      ∙ get_d-store-outside 2 _ (at + 10) _ m (λ i h e. y (omega arith) (omega arith))
      ∙ get_d-store-outside 1 _ (at + 9) 0 m (λ i h e. y (omega arith) (omega arith))
      ∙ get_d-store-outside 1 _ (at + 8) _ m (λ i h e. y (omega arith) (omega arith))
      ∙ get_d-store-outside 8 page at _ m (λ i h e. y (omega arith) (omega arith))

  -- and with bytes
  pub bytes-responded : ((j : ℕ) → get_or page j 0 < 256) → (j : ℕ) → get_or (responded g page produced q s) j 0 < 256
  unfolding responded responded_all written set_rsp_prod set_response
  bytes-responded h =
      bytes-store 4 _ 8 _ (bytes-store _ _ _ 0 (bytes-store 2 _ _ _ (bytes-store 1 _ _ 0 (bytes-store 1 _ _ _ (bytes-store 8 page _ _ h)))))
