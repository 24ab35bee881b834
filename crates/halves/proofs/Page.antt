-- What a page holds while the two halves of its ring use it, and that each half's writes keep that. Neither guest nor backend is in sight: only counts, slots
-- and responses. Assumes nothing.
use mathlib.Core.Path.{◌≡◌, refl, sym, ap, ◌∙◌}
use mathlib.Core.List.{List}
use Prim.Native.Nat.{ℕ, zero, suc, ◌+◌, ◌%◌, ◌^◌, ◌≤◌, ◌<◌}
use native.Mathlib.Decide.{dec_lt, ℕ_discrete}
use native.Mathlib.Nat.{mod-lt, zero-mul}
use native.Mathlib.Omega.{arith}
use lib.ListN.{length, get_or, replicate, length-replicate, get_or-replicate, get_or-eq_default}
use Rattle.wire.specs.LittleEndian.{load, store}
use Rattle.wire.specs.Part.{set_part}
use Rattle.wire.proofs.LittleEndian.{length-store, get_d-store-outside, load-agree, load-store-lt, bytes-store}
use Rattle.wire.proofs.Part.{part-agree, length-set_part, part-set_part, get_d-set_part-below, get_d-set_part-above, bytes-set_part}
use Rattle.model.specs.Base.{modulus}
use Rattle.model.specs.Demand.{IsBytes}
use Rattle.model.specs.Port.{after}
use Rattle.model.specs.Ring.{slot_bytes, ring_for, req_prod, set_req_event, set_req_prod, rsp_prod, set_rsp_event, slot_at, slot_of, request_of, status_bits, response_pair, response_status}
use Rattle.model.specs.Turn.{responded}
use Rattle.model.specs.declared.Abi.{Abi}
use Rattle.model.specs.declared.Pages.{Pages}
use Rattle.model.specs.declared.Pair.{Pair}
use Rattle.model.specs.declared.Status.{Status}
use Rattle.model.proofs.Page.{length-responded, status-responded, rsp_prod-responded, get_d-responded, bytes-responded}
use Rattle.model.proofs.Ring.{Fits, fits-for, slot_at-modulus, slot_of-modulus}
use Rattle.guest.proofs.Pages.{slot_room, slot-header}
use Rattle.guest.specs.Guest.{guest_page, guest_ring, put_page}
use Rattle.halves.specs.Claim.{read_slot}
use Rattle.halves.specs.System.{Gathered}

-- ---- zeros

zero-at : (n j : ℕ) → ◌≡◌ {A = ℕ} (get_or (replicate n 0) j 0) 0
zero-at n j =
    elim (dec_lt j n) [
      | yes l ↦ get_or-replicate {A = ℕ} n j 0 0 l
      | no l ↦ get_or-eq_default {A = ℕ} (replicate n 0) 0 {n = j} (omega (arith, length-replicate {A = ℕ} n 0))
    ]

pub bytes-zeros : (n : ℕ) → IsBytes (replicate n 0)
bytes-zeros n j = omega (arith, zero-at n j)

load-zeros : (w n i : ℕ) → load w (replicate n 0) i ≡ 0
unfolding load
load-zeros zero n i = refl
load-zeros (suc w) n i = rw (load-zeros w n i, zero-at n (i + w), zero-mul (256 ^ w)) refl

-- ---- slots

-- a slot is read in the guest's layout
pub guest-reads : (slot : List ℕ) → request_of guest_ring.layout slot ≡ read_slot slot
unfolding ring_for
guest-reads slot = refl

pub guest-fits : Fits guest_ring
guest-fits = fits-for Abi.Bits64 Pages.One

-- its ring has the bytes of a page
pub guest-bytes : (page : List ℕ) → length page ≡ guest_page → length page ≡ guest_ring.bytes
unfolding ring_for
guest-bytes page e = e

abbrev at : ℕ → ℕ
at i = slot_at guest_ring i

-- of two different indices in a row of 32, no byte is in both slots
apart : (i j m : ℕ) → i < j → j < i + 32 → at i ≤ m → m < at i + slot_bytes → at j ≤ m → m < at j + slot_bytes → ⊥
unfolding slot_at ring_for
apart i j m a b c d e f = omega arith

-- the response in the slot of index i
unfoldable pub response_at : List ℕ → ℕ → Gathered
response_at page i = record { pair = response_pair page (at i); status = response_status page (at i) }

-- ---- pages that agree on a slot

abbrev Agree : List ℕ → List ℕ → ℕ → Type 0
Agree a b i = (m : ℕ) → at i ≤ m → m < at i + slot_bytes → get_or b m 0 ≡ get_or a m 0

slot-agree : (a b : List ℕ) (i : ℕ) → length b ≡ length a → Agree a b i → slot_of guest_ring b i ≡ slot_of guest_ring a i
unfolding slot_of ring_for
slot-agree a b i e f = part-agree slot_bytes b a (at i) e (λ q l. f (at i + q) (omega arith) (omega arith))

response-agree : (a b : List ℕ) (i : ℕ) → Agree a b i → response_at b i ≡ response_at a i
unfolding response_at response_pair response_status
response-agree a b i f =
    let id = load-agree 8 b a (at i) (λ q l. f (at i + q) (omega arith) (omega arith)) in
    let operation = f (at i + 8) (omega arith) (omega arith) in
    let status = load-agree 2 b a (at i + 10) (λ q l. f (at i + 10 + q) (omega arith) (omega arith)) in
    λ z. record { pair = record { id = id z; operation = operation z }; status = status z }

pub response-modulus : (page : List ℕ) (i : ℕ) → response_at page (i % modulus) ≡ response_at page i
unfolding response_at
response-modulus page i = rw (slot_at-modulus guest_ring guest-fits i)

-- ---- the page

-- Of the requests, P were put and T of them taken; of the responses, A were given and Q of them collected. The page says P and A; the slots of the requests that
-- wait hold them, and the slots of the responses that were not collected hold those.
pub record PageHolds (page : List ℕ) (T P Q A : ℕ) (slots : ℕ → List ℕ) (answers : ℕ → Gathered) : Type 0 where
  pub sized : length page ≡ guest_page
  pub bytes : IsBytes page
  pub asked : req_prod page ≡ P % modulus
  pub answered : rsp_prod page ≡ A % modulus
  pub waiting : (i : ℕ) → T ≤ i → i < P → slot_of guest_ring page i ≡ slots i
  pub unread : (i : ℕ) → Q ≤ i → i < A → response_at page i ≡ answers i

-- a page of zeros, before all
pub page-first : (slots : ℕ → List ℕ) (answers : ℕ → Gathered) → PageHolds (replicate guest_page 0) 0 0 0 0 slots answers
unfolding req_prod rsp_prod
page-first slots answers = record {
  sized = length-replicate {A = ℕ} guest_page 0;
  bytes = bytes-zeros guest_page;
  asked = load-zeros 4 guest_page 0;
  answered = load-zeros 4 guest_page 8;
  waiting = λ i x y. absurd (omega arith);
  unread = λ i x y. absurd (omega arith);
}

-- only the two events were written
pub record Quiet (a b : List ℕ) : Type 0 where
  pub long : length b ≡ length a
  pub bytes : IsBytes a → IsBytes b
  pub same : (m : ℕ) → (4 ≤ m → m < 8 → ⊥) → (12 ≤ m → m < 16 → ⊥) → get_or b m 0 ≡ get_or a m 0

pub quiet-refl : (a : List ℕ) → Quiet a a
quiet-refl a = record { long = refl; bytes = λ h. h; same = λ m x y. refl }

pub quiet-trans : {a b c : List ℕ} → Quiet a b → Quiet b c → Quiet a c
quiet-trans p q = record { long = q.long ∙ p.long; bytes = λ h. q.bytes (p.bytes h); same = λ m x y. q.same m x y ∙ p.same m x y }

pub quiet-req_event : (a : List ℕ) (v : ℕ) → Quiet a (set_req_event a v)
unfolding set_req_event
quiet-req_event a v = record {
  long = length-store 4 a 4 v;
  bytes = bytes-store 4 a 4 v;
  same = λ m x y. get_d-store-outside 4 a 4 v m (λ q l e. x (omega arith) (omega arith));
}

pub quiet-rsp_event : (a : List ℕ) (v : ℕ) → Quiet a (set_rsp_event a v)
unfolding set_rsp_event
quiet-rsp_event a v = record {
  long = length-store 4 a 12 v;
  bytes = bytes-store 4 a 12 v;
  same = λ m x y. get_d-store-outside 4 a 12 v m (λ q l e. y (omega arith) (omega arith));
}

quiet-slot : (a b : List ℕ) → Quiet a b → (i : ℕ) → Agree a b i
quiet-slot a b q i m l r = q.same m (λ x y. omega (arith, slot-header i)) (λ x y. omega (arith, slot-header i))

module _ {a : List ℕ} {T P Q A : ℕ} {slots : ℕ → List ℕ} {answers : ℕ → Gathered} (h : PageHolds a T P Q A slots answers) where
  pub page-quiet : {b : List ℕ} → Quiet a b → PageHolds b T P Q A slots answers
  unfolding req_prod rsp_prod
  page-quiet {b} q = record {
    sized = q.long ∙ h.sized;
    bytes = q.bytes h.bytes;
    asked = load-agree 4 b a 0 (λ m l. q.same (0 + m) (λ x y. omega arith) (λ x y. omega arith)) ∙ h.asked;
    answered = load-agree 4 b a 8 (λ m l. q.same (8 + m) (λ x y. omega arith) (λ x y. omega arith)) ∙ h.answered;
    waiting = λ i x y. slot-agree a b i q.long (quiet-slot a b q i) ∙ h.waiting i x y;
    unread = λ i x y. response-agree a b i (quiet-slot a b q i) ∙ h.unread i x y;
  }

  -- one request more is taken
  pub page-taken : PageHolds a (suc T) P Q A slots answers
  page-taken = record {
    sized = h.sized;
    bytes = h.bytes;
    asked = h.asked;
    answered = h.answered;
    waiting = λ i x y. h.waiting i (omega arith) y;
    unread = h.unread;
  }

  -- one response more is collected
  pub page-collected : PageHolds a T P (suc Q) A slots answers
  page-collected = record {
    sized = h.sized;
    bytes = h.bytes;
    asked = h.asked;
    answered = h.answered;
    waiting = h.waiting;
    unread = λ i x y. h.unread i (omega arith) y;
  }

-- ---- a request is put

module _ (a : List ℕ) (sized : length a ≡ guest_page) (i : ℕ) (slot : List ℕ) (long : length slot ≡ slot_bytes) where
  abbrev slotted : List ℕ
  slotted = set_part slot_bytes a (at i) slot

  put-length : length (put_page a i slot) ≡ length a
  unfolding put_page set_req_prod
  put-length = length-store 4 slotted 0 _ ∙ length-set_part slot_bytes a (at i) slot (omega (arith, slot_room i)) long

  put-bytes : IsBytes a → IsBytes slot → IsBytes (put_page a i slot)
  unfolding put_page set_req_prod
  put-bytes h k = bytes-store 4 slotted 0 (after i) (bytes-set_part slot_bytes a (at i) slot h k)

  pub put-outside : (m : ℕ) → 4 ≤ m → (at i ≤ m → m < at i + slot_bytes → ⊥) → get_or (put_page a i slot) m 0 ≡ get_or a m 0
  unfolding put_page set_req_prod
  put-outside m l o =
      get_d-store-outside 4 slotted 0 (after i) m (λ q k e. omega arith)
      ∙ elim (dec_lt m (at i)) [
        | yes b ↦ get_d-set_part-below slot_bytes a (at i) slot (omega (arith, slot_room i)) long m b
        | no b ↦
            get_d-set_part-above slot_bytes a (at i) slot (omega (arith, slot_room i)) long m
            (elim (dec_lt m (at i + slot_bytes)) [ yes c ↦ absurd (o (omega arith) c) | no c ↦ omega arith ])
      ]

  put-req_prod : req_prod (put_page a i slot) ≡ after i
  unfolding put_page set_req_prod req_prod
  put-req_prod =
      load-store-lt 4 slotted 0 (after i) (omega (arith, length-set_part slot_bytes a (at i) slot (omega (arith, slot_room i)) long)) (mod-lt (i + 1) (omega arith))

  put-slot : slot_of guest_ring (put_page a i slot) i ≡ slot
  unfolding put_page set_req_prod slot_of ring_for
  put-slot =
      part-agree slot_bytes (store 4 slotted 0 (after i)) slotted (at i) (length-store 4 slotted 0 _)
      (λ q l. get_d-store-outside 4 slotted 0 (after i) (at i + q) (λ p k e. omega (arith, slot-header i)))
      ∙ part-set_part slot_bytes a (at i) slot (omega (arith, slot_room i)) long

pub page-put : {a : List ℕ} {T P Q A : ℕ} {slots : ℕ → List ℕ} {answers : ℕ → Gathered} → PageHolds a T P Q A slots answers
    → Q ≤ A → A ≤ T → T ≤ P → P < Q + 32
    → (slot : List ℕ) → length slot ≡ slot_bytes → IsBytes slot
    → (more : ℕ → List ℕ) → ((i : ℕ) → i < P → more i ≡ slots i) → more P ≡ slot
    → PageHolds (put_page a (P % modulus) slot) T (suc P) Q A more answers
unfolding rsp_prod
page-put {a} {T} {P} {Q} {A} {slots} {answers} h QA AT TP few slot long y more old new =
    let j = P % modulus in
    let b = put_page a j slot in
    let same : at j ≡ at P = slot_at-modulus guest_ring guest-fits P in
    let longer : length b ≡ length a = put-length a h.sized j slot long in
    let out : (m : ℕ) → 4 ≤ m → (at P ≤ m → m < at P + slot_bytes → ⊥) → get_or b m 0 ≡ get_or a m 0 =
    λ m l o. put-outside a h.sized j slot long m l (λ x z. o (omega arith) (omega arith)) in
    let other : (i : ℕ) → Q ≤ i → i < P → Agree a b i = λ i x z m l r. out m (omega (arith, slot-header i)) (λ u v. apart i P m z (omega arith) l r u v) in
    record {
      sized = longer ∙ h.sized;
      bytes = put-bytes a h.sized j slot long h.bytes y;
      asked = put-req_prod a h.sized j slot long ∙ omega arith;
      answered = load-agree 4 b a 8 (λ m l. out (8 + m) (omega arith) (λ u v. omega (arith, slot-header P))) ∙ h.answered;
      waiting = λ i x z.
          elim (ℕ_discrete i P) [
            | yes e ↦ rw e (sym (slot_of-modulus guest_ring guest-fits b P) ∙ put-slot a h.sized j slot long ∙ sym new)
            | no e ↦ slot-agree a b i longer (other i (omega arith) (omega arith)) ∙ h.waiting i x (omega arith) ∙ sym (old i (omega arith))
          ];
      unread = λ i x z. response-agree a b i (other i x (omega arith)) ∙ h.unread i x z;
    }

-- ---- a response is given

pub page-responded : {a : List ℕ} {T P Q A : ℕ} {slots : ℕ → List ℕ} {answers : ℕ → Gathered} → PageHolds a T P Q A slots answers
    → Q ≤ A → A < T → T ≤ P → P ≤ Q + 32
    → (q : Pair) (z : Status) (b : List ℕ) → b ≡ responded guest_ring a (A % modulus) q z
    → (more : ℕ → Gathered) → ((i : ℕ) → i < A → more i ≡ answers i) → more A ≡ record { pair = response_pair b (at A); status = status_bits z }
    → PageHolds b T P Q (suc A) slots more
unfolding req_prod response_at ring_for
page-responded {a} {T} {P} {Q} {A} {slots} {answers} h QA AT TP few q z b is more old new =
    let j = A % modulus in
    let same : at j ≡ at A = slot_at-modulus guest_ring guest-fits A in
    let longer : length b ≡ guest_page = rw is (length-responded guest_ring guest-fits a j q z h.sized) in
    let out : (m : ℕ) → (8 ≤ m → m < 12 → ⊥) → (at A ≤ m → m < at A + slot_bytes → ⊥) → get_or b m 0 ≡ get_or a m 0 =
    λ m x o. rw is (get_d-responded guest_ring guest-fits a j q z h.sized m x (λ u v. o (omega arith) (omega arith))) in
    let lower : (i : ℕ) → Q ≤ i → i < A → Agree a b i =
    λ i x y m l r. out m (λ u v. omega (arith, slot-header i)) (λ u v. apart i A m y (omega arith) l r u v) in
    let upper : (i : ℕ) → T ≤ i → i < P → Agree a b i =
    λ i x y m l r. out m (λ u v. omega (arith, slot-header i)) (λ u v. apart A i m (omega arith) (omega arith) u v l r) in
    let status : response_status b (at A) ≡ status_bits z = rw (is, ← same) (status-responded guest_ring guest-fits a j q z h.sized) in
    record {
      sized = longer;
      bytes = rw is (bytes-responded guest_ring guest-fits a j q z h.sized h.bytes);
      asked = load-agree 4 b a 0 (λ m l. out (0 + m) (λ u v. omega arith) (λ u v. omega (arith, slot-header A))) ∙ h.asked;
      answered = rw is (rsp_prod-responded guest_ring guest-fits a j q z h.sized ∙ omega arith);
      waiting = λ i x y. slot-agree a b i (longer ∙ sym h.sized) (upper i x y) ∙ h.waiting i x y;
      unread = λ i x y.
          elim (ℕ_discrete i A) [
            | yes e ↦ rw (e, new) (ap (λ (n : ℕ). record { pair = response_pair b (at A); status = n }) status)
            | no e ↦ response-agree a b i (lower i x (omega arith)) ∙ h.unread i x (omega arith) ∙ sym (old i (omega arith))
          ];
    }
