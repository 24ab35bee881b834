-- The laws of responses that are given together: they leave what they would one by one, and each is read where it was written. Assumes nothing.
use mathlib.Core.Path.{◌≡◌, refl, sym, ap, subst, ◌∙◌}
use mathlib.Core.List.{List, [], ◌∷◌}
use Prim.Native.Nat.{ℕ, suc, ◌+◌, ◌-◌, ◌%◌, ◌≤◌, ◌<◌}
use native.Mathlib.Nat.{add-zero}
use native.Mathlib.Omega.{arith}
use lib.ListN.{length, get_or}
use Rattle.wire.specs.LittleEndian.{store}
use Rattle.wire.proofs.LittleEndian.{store-store, store-comm, load-agree}
use Rattle.wire.proofs.Part.{set_part-part}
use Rattle.model.specs.Base.{modulus}
use Rattle.model.specs.Buffers.{pages_of, set_pages}
use Rattle.model.specs.Ring.{Layout, Ring, set_rsp_prod, slot_at, set_response, status_bits, response_pair, response_status}
use Rattle.model.specs.Port.{View, further, after}
use Rattle.model.specs.Turn.{ResponseDue, written, responded_all, responded_all_at, responded}
use Rattle.model.specs.declared.Pair.{Pair}
use Rattle.model.specs.declared.Status.{Status}
use Rattle.model.proofs.Ring.{Fits, slot_at-modulus, slot_at-header, slots_apart}
use Rattle.model.proofs.Page.{FitsPair, length-responded, pair-responded, status-responded, get_d-responded}

-- ---- one by one

-- rsp_prod stands before every slot, so it may be stored before a response or after it
prod-response : (l : Layout) (page : List ℕ) (at : ℕ) (q : Pair) (s : Status) (v : ℕ) → 12 ≤ at
    → set_response l (set_rsp_prod page v) at q s ≡ set_rsp_prod (set_response l page at q s) v
unfolding set_response set_rsp_prod
prod-response l page at q s v h =
    let a = store 8 page at q.id in
    let b = store 1 a (at + 8) q.operation in
    let c = store 1 b (at + 9) 0 in
    let d = store 2 c (at + 10) (status_bits s) in
    rw (
      store-comm 4 8 page 8 v at q.id (λ i j x y e. omega arith),
      store-comm 4 1 a 8 v (at + 8) q.operation (λ i j x y e. omega arith),
      store-comm 4 1 b 8 v (at + 9) 0 (λ i j x y e. omega arith),
      store-comm 4 2 c 8 v (at + 10) (status_bits s) (λ i j x y e. omega arith),
    )
    (store-comm 4 (l.response_size - 12) d 8 v (at + 12) 0 (λ i j x y e. omega arith))

-- and of two stores the later one stays
prod-prod : (page : List ℕ) (v w : ℕ) → set_rsp_prod (set_rsp_prod page v) w ≡ set_rsp_prod page w
unfolding set_rsp_prod
prod-prod page v w = store-store 4 page 8 v w

module _ (g : Ring) (f : Fits g) where
  written-prod : (xs : List ResponseDue) (page : List ℕ) (i v : ℕ) → written g (set_rsp_prod page v) i xs ≡ set_rsp_prod (written g page i xs) v
  unfolding written
  written-prod [] page i v = refl
  written-prod (x ∷ xs) page i v =
      ap (λ (p : List ℕ). written g p (after i) xs)
      (prod-response g.layout page (slot_at g i) x.pair x.status v (omega (arith, slot_at-header g f i)))
      ∙ written-prod xs (set_response g.layout page (slot_at g i) x.pair x.status) (after i) v

  -- a list of responses is the first of them, and then the others, rsp_prod too
  pub one_by_one : (x : ResponseDue) (xs : List ResponseDue) (page : List ℕ) (i : ℕ)
      → responded_all g page i (x ∷ xs) ≡ responded_all g (responded g page i x.pair x.status) (after i) xs
  unfolding responded_all responded written
  one_by_one x [] page i = refl
  one_by_one x (y ∷ ys) page i =
      let one = set_response g.layout page (slot_at g i) x.pair x.status in
      let two = set_response g.layout one (slot_at g (after i)) y.pair y.status in
      let n = length (y ∷ ys) in
      let ends : further i (suc n) ≡ further (after i) n = omega arith in
      let first : set_response g.layout (set_rsp_prod one (after i)) (slot_at g (after i)) y.pair y.status ≡ set_rsp_prod two (after i) =
      prod-response g.layout one (slot_at g (after i)) y.pair y.status (after i) (omega (arith, slot_at-header g f (after i))) in
      ap (λ (v : ℕ). set_rsp_prod (written g two (after (after i)) ys) v) ends
      ∙ sym (prod-prod (written g two (after (after i)) ys) (after i) (further (after i) n))
      ∙ sym (ap (λ (p : List ℕ). set_rsp_prod p (further (after i) n)) (ap (λ (p : List ℕ). written g p (after (after i)) ys) first ∙ written-prod ys two (after (after i)) (after i)))

  -- ---- what they leave, where the first goes to the slot of index n

  -- the index after the n-th, as a remainder
  after-mod : (n : ℕ) → after (n % modulus) ≡ suc n % modulus
  after-mod n = omega arith

  abbrev first : List ℕ → ℕ → ResponseDue → List ℕ
  first page n x = responded g page (n % modulus) x.pair x.status

  next : (x : ResponseDue) (xs : List ResponseDue) (page : List ℕ) (n : ℕ)
      → responded_all g page (n % modulus) (x ∷ xs) ≡ responded_all g (first page n x) (suc n % modulus) xs
  next x xs page n = one_by_one x xs page (n % modulus) ∙ ap (λ (i : ℕ). responded_all g (first page n x) i xs) (after-mod n)

  -- by induction: what holds of the page before, and of every page after one response more, holds of the last
  pub by-responses : (P : ℕ → List ℕ → Type 0) → ((n : ℕ) (page : List ℕ) (x : ResponseDue) → P n page → P (suc n) (first page n x))
      → (xs : List ResponseDue) (n : ℕ) (page : List ℕ) → P n page → P (n + length xs) (responded_all g page (n % modulus) xs)
  unfolding responded_all
  by-responses P step [] n page p = rw add-zero p
  by-responses P step (x ∷ xs) n page p =
      let count : n + suc (length xs) ≡ suc n + length xs = omega arith in
      rw (next x xs page n, count) (by-responses P step xs (suc n) (first page n x) (step n page x p))

  pub length-all : (xs : List ResponseDue) (n : ℕ) (page : List ℕ) → length page ≡ g.bytes → length (responded_all g page (n % modulus) xs) ≡ g.bytes
  length-all = by-responses (λ _ l. length l ≡ g.bytes) (λ n page x h. length-responded g f page (n % modulus) x.pair x.status h)

  -- a byte that is neither rsp_prod's nor in one of their slots stays
  pub get_d-all : (m : ℕ) → (8 ≤ m → m < 12 → ⊥) → (xs : List ResponseDue) (n : ℕ) (page : List ℕ) → length page ≡ g.bytes
      → ((i : ℕ) → i < length xs → slot_at g (n + i) ≤ m → m < slot_at g (n + i) + g.layout.slot_size → ⊥)
      → get_or (responded_all g page (n % modulus) xs) m 0 ≡ get_or page m 0
  unfolding responded_all
  get_d-all m x [] n page sized y = refl
  get_d-all m x (r ∷ xs) n page sized y =
      let same : slot_at g (n % modulus) ≡ slot_at g (n + 0) = slot_at-modulus g f n ∙ ap (slot_at g) (sym (add-zero n)) in
      ap (λ (l : List ℕ). get_or l m 0) (next r xs page n)
      ∙ get_d-all m x xs (suc n) (first page n r) (length-responded g f page (n % modulus) r.pair r.status sized)
      (λ i l. subst (λ (j : ℕ). slot_at g j ≤ m → m < slot_at g j + g.layout.slot_size → ⊥) (omega arith) (y (suc i) (omega arith)))
      ∙ get_d-responded g f page (n % modulus) r.pair r.status sized m x
      (rw same (y 0 (omega arith)))

  -- ---- each is read where it was written

  -- the responses that stand in a page from the slot of index n on
  abbrev pub AllRead : List ResponseDue → List ℕ → ℕ → Type 0
  AllRead [] page n = Unit
  AllRead (x ∷ xs) page n =
      (response_pair page (slot_at g n) ≡ x.pair) × (response_status page (slot_at g n) ≡ status_bits x.status) × AllRead xs page (suc n)

  abbrev pub AllFit : List ResponseDue → Type 0
  AllFit [] = Unit
  AllFit (x ∷ xs) = FitsPair x.pair × AllFit xs

  -- later ones, fewer than there are slots, leave it: every byte of its slot,
  slot_kept : (xs : List ResponseDue) (n : ℕ) (page : List ℕ) → length page ≡ g.bytes → suc (length xs) ≤ g.size
      → (q : ℕ) → q < g.layout.slot_size → get_or (responded_all g page (suc n % modulus) xs) (slot_at g n + q) 0 ≡ get_or page (slot_at g n + q) 0
  slot_kept xs n page sized few q l =
      get_d-all (slot_at g n + q) (λ u v. omega (arith, slot_at-header g f n)) xs (suc n) page sized
      (λ i r. subst (λ (j : ℕ). slot_at g j ≤ slot_at g n + q → slot_at g n + q < slot_at g j + g.layout.slot_size → ⊥) (omega arith)
      (slots_apart g f n (suc i) (slot_at g n + q) (omega arith) (omega arith) (omega arith) (omega arith)))

  -- its pair,
  pair-kept : (xs : List ResponseDue) (n : ℕ) (page : List ℕ) → length page ≡ g.bytes → suc (length xs) ≤ g.size
      → response_pair (responded_all g page (suc n % modulus) xs) (slot_at g n) ≡ response_pair page (slot_at g n)
  unfolding response_pair
  pair-kept xs n page sized few =
      let same = slot_kept xs n page sized few in
      let id = load-agree 8 (responded_all g page (suc n % modulus) xs) page (slot_at g n) (λ q l. same q (omega (arith, f.status_room, f.response_room))) in
      let operation = same 8 (omega (arith, f.status_room, f.response_room)) in
      λ i. record { id = id i; operation = operation i }

  -- and its status
  status-kept : (xs : List ResponseDue) (n : ℕ) (page : List ℕ) → length page ≡ g.bytes → suc (length xs) ≤ g.size
      → response_status (responded_all g page (suc n % modulus) xs) (slot_at g n) ≡ response_status page (slot_at g n)
  unfolding response_status
  status-kept xs n page sized few =
      load-agree 2 (responded_all g page (suc n % modulus) xs) page (slot_at g n + 10) (λ q l.
      subst (λ (j : ℕ). get_or (responded_all g page (suc n % modulus) xs) j 0 ≡ get_or page j 0) (omega arith)
      (slot_kept xs n page sized few (10 + q) (omega (arith, f.status_room, f.response_room))))

  pub all_read : (xs : List ResponseDue) (n : ℕ) (page : List ℕ) → length page ≡ g.bytes → length xs ≤ g.size → AllFit xs
      → AllRead xs (responded_all g page (n % modulus) xs) n
  all_read [] n page sized few fit = tt
  all_read (x ∷ xs) n page sized few fit =
      let one = first page n x in
      let long : length one ≡ g.bytes = length-responded g f page (n % modulus) x.pair x.status sized in
      let place : slot_at g (n % modulus) ≡ slot_at g n = slot_at-modulus g f n in
      rw (next x xs page n) (
        pair-kept xs n one long few ∙ (rw place at (pair-responded g f page (n % modulus) x.pair x.status sized fit.0)),
        status-kept xs n one long few ∙ (rw place at (status-responded g f page (n % modulus) x.pair x.status sized)),
        all_read xs (suc n) one long (omega arith) fit.1,
      )

-- none are given: no byte of the rings changes (rule 6.21)
pub none-responded : (v : View) (rings : List ℕ) (k : ℕ) → responded_all_at v rings k [] ≡ rings
unfolding responded_all_at responded_all set_pages pages_of
none-responded v rings k = set_part-part _ rings _
