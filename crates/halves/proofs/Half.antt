-- A guest with its page against the books of its port: what is kept, and that each step of either half keeps it. Of the backend only the books are in sight,
-- none of its rules. Assumes nothing.
use mathlib.Core.Path.{◌≡◌, refl, sym, ap, ◌∙◌, subst}
use mathlib.Core.Bool.{Bool, true, false}
use mathlib.Core.List.{List, [], ◌∷◌, ◌++◌, map, reverse, reverse-cons, map-append}
use Prim.Native.Nat.{ℕ, ◌+◌, ◌-◌, ◌%◌, ◌≤◌, ◌<◌}
use native.Mathlib.Omega.{arith}
use lib.ListN.{length, get_or, take, replicate, length-map, length-reverse, get_or-append}
use lib.Seq.{take-suc, take-append-le, get_or_at}
use Rattle.model.specs.Base.{modulus}
use Rattle.model.specs.Buffers.{pages_of}
use Rattle.model.specs.Demand.{All, count}
use Rattle.model.specs.History.{Named, Response, Taken, Book, ring_in, asked, in_state, with_lines, pairs_of, pairs_said}
use Rattle.model.specs.Port.{distance, after}
use Rattle.model.specs.Ring.{Ring, Request, ring_of, slot_at, slot_of, request_of, status_bits, response_pair}
use Rattle.model.specs.Turn.{responded}
use Rattle.model.specs.declared.Pair.{Pair}
use Rattle.model.specs.declared.Params.{Params}
use Rattle.model.specs.declared.State.{State}
use Rattle.model.proofs.Conservation.{Sound, numbers}
use Rattle.model.proofs.Order.{one, count-nil, count-cons, count-all, is_pair-self}
use Rattle.asking.specs.Slot.{slot_for}
use Rattle.guest.specs.Guest.{guest_page, guest_ring, Guest, fresh_guest, most_outstanding, place_of, has, same_id, same_pair, without, puts, ahead, next_pair, next_status, collects}
use Rattle.halves.specs.Claim.{AsPut, read_slot}
use Rattle.halves.specs.System.{Gathered}
use Rattle.halves.proofs.Page.{guest-reads, response_at, response-modulus, PageHolds, page-first, Quiet, page-quiet, page-taken, page-collected, page-put, page-responded}
use Rattle.halves.proofs.Slot.{slot-length, slot-bytes}
use Rattle.halves.proofs.Lists.{length-snoc, all_snoc, count-snoc, count-reverse, count-take, count_next, count_map, has-counted, ended-count, ended-length, Apart, ended-apart, apart_snoc}

-- ---- what was given

abbrev none : Gathered
none = record { pair = record { id = 0; operation = 0 }; status = 0 }

-- an answer as a guest should find it
abbrev to_gather : Response → Gathered
to_gather a = record { pair = a.pair; status = status_bits a.told }

-- what the books say was answered, the oldest first
abbrev pub given_in : Book → List Gathered
given_in b = reverse (map to_gather b.answered)

given-length : (b : Book) → length (given_in b) ≡ length b.answered
given-length b = length-reverse (map to_gather b.answered) ∙ length-map b.answered to_gather

given-pairs : (f : Pair → Bool) (b : Book) → count (λ (x : Gathered). f x.pair) (given_in b) ≡ count f (pairs_said b.answered)
given-pairs f b =
    count-reverse (λ (x : Gathered). f x.pair) (map to_gather b.answered)
    ∙ count_map (λ (x : Gathered). f x.pair) to_gather b.answered
    ∙ sym (count_map f (λ (a : Response). a.pair) b.answered)

-- ---- what is kept

-- The guest against what it put and collected; the backend has no part in it. Every test passes as often on what was put as on the outstanding and what was
-- collected together.
pub record Mine (g : Guest) (put : List Request) (collected : List Gathered) : Type 0 where
  pub index : g.put ≡ length put % modulus
  pub place : g.collected ≡ length collected % modulus
  pub outstanding : (f : Pair → Bool) → count (λ (r : Request). f r.pair) put ≡ count f g.outstanding + count (λ (x : Gathered). f x.pair) collected
  pub few : length g.outstanding ≤ most_outstanding
  pub apart : Apart g.outstanding
  pub as_put : All (λ (r : Request). AsPut r (read_slot (slot_for r))) put

-- And with its page, against its port's books and the slots taken.
pub record Half (g : Guest) (page : List ℕ) (put : List Request) (collected : List Gathered) (b : Book) (slots : List (List ℕ)) : Type 0 where
  pub mine : Mine g put collected
  pub holds : PageHolds page (length b.taken) (length put) (length collected) (length b.answered) (λ i. get_or (map slot_for put) i []) (λ i. get_or (given_in b) i none)
  pub ring : ring_in b ≡ guest_ring
  pub behind : length b.taken ≤ length put
  pub unread : length collected ≤ length b.answered
  pub taken : slots ≡ take (length b.taken) (map slot_for put)
  pub taken_pairs : (f : Pair → Bool) → count f (pairs_of b.taken) ≡ count (λ (s : List ℕ). f (read_slot s).pair) slots
  pub collects : collected ≡ take (length collected) (given_in b)

-- a fresh guest on a page of zeros, and the books of a port just opened
pub half-first : (p : Params) → ring_of p ≡ guest_ring
    → Half fresh_guest (replicate guest_page 0) [] [] (record { state = State.Open; params = p; taken = []; answered = [] }) []
unfolding count
half-first p e = record {
  mine = record { index = refl; place = refl; outstanding = λ f. refl; few = omega arith; apart = λ n. omega arith; as_put = tt };
  holds = page-first _ _;
  ring = e;
  behind = omega arith;
  unread = omega arith;
  taken = refl;
  taken_pairs = λ f. refl;
  collects = refl;
}

-- put less collected are outstanding
pub put_count : {g : Guest} {put : List Request} {collected : List Gathered} → Mine g put collected → length put ≡ length g.outstanding + length collected
put_count {g} {put} {collected} m = omega (arith, m.outstanding (λ _. true), count-all put, count-all g.outstanding, count-all collected)

-- ---- the backend's deeds

module _ {g : Guest} {page : List ℕ} {put : List Request} {collected : List Gathered} {b : Book} {slots : List (List ℕ)}
    (h : Half g page put collected b slots) where
  pub half-quiet : (other : List ℕ) → Quiet page other → Half g other put collected b slots
  half-quiet other q = record {
    mine = h.mine;
    holds = page-quiet h.holds q;
    ring = h.ring;
    behind = h.behind;
    unread = h.unread;
    taken = h.taken;
    taken_pairs = h.taken_pairs;
    collects = h.collects;
  }

  pub half-state : (s : State) → Half g page put collected (in_state s b) slots
  half-state s = record {
    mine = h.mine;
    holds = h.holds;
    ring = h.ring;
    behind = h.behind;
    unread = h.unread;
    taken = h.taken;
    taken_pairs = h.taken_pairs;
    collects = h.collects;
  }

  -- the next slot is taken
  pub half-take : (k : ℕ) (lent : List ℕ) (w : Named) (a : List Response) → pages_of guest_ring lent k ≡ page → length b.taken < length put
      → Half g page put collected (with_lines (record { pair = asked k lent b; named = w; answers = a } ∷ b.taken) b.answered b)
      (slots ++ (slot_of (ring_in b) (pages_of (ring_in b) lent k) (length b.taken) ∷ []))
  unfolding asked
  half-take k lent w a here l =
      let T = length b.taken in
      let all = map slot_for put in
      let slot = slot_of (ring_in b) (pages_of (ring_in b) lent k) T in
      let is : slot ≡ get_or all T [] = rw (h.ring, here) (h.holds.waiting T (omega arith) l) in
      let reads : request_of (ring_in b).layout slot ≡ read_slot slot = ap (λ (r : Ring). request_of r.layout slot) h.ring ∙ guest-reads slot in
      record {
        mine = h.mine;
        holds = page-taken h.holds;
        ring = h.ring;
        behind = omega arith;
        unread = h.unread;
        taken = rw (take-suc all T [] (omega (arith, length-map put slot_for)), ← h.taken, is);
        taken_pairs = λ f.
            omega (
              arith,
              h.taken_pairs f,
              count-cons f (request_of (ring_in b).layout slot).pair (pairs_of b.taken),
              count-snoc (λ (s : List ℕ). f (read_slot s).pair) slots slot,
              ap (λ (r : Request). one (f r.pair)) reads,
            );
        collects = h.collects;
      }

  -- A response is given: it stands in the page, and the books have its pair as it stands there.
  pub half-respond : (new : List ℕ) (a : Response) (q : Pair) (l : List Taken) → length l ≡ length b.taken → pairs_of l ≡ pairs_of b.taken
      → new ≡ responded guest_ring page (length b.answered % modulus) q a.told → a.pair ≡ response_pair new (slot_at guest_ring (length b.answered))
      → length b.answered < length b.taken → Half g new put collected (with_lines l (a ∷ b.answered) b) slots
  half-respond new a q l long pairs here reads low =
      let A = length b.answered in
      let c = with_lines l (a ∷ b.answered) b in
      let x = to_gather a in
      let same : x ≡ record { pair = response_pair new (slot_at guest_ring A); status = status_bits a.told } = λ i. record { pair = reads i; status = status_bits a.told } in
      let more : given_in c ≡ given_in b ++ (x ∷ []) = reverse-cons x (map to_gather b.answered) in
      let page' =
      page-responded h.holds h.unread low h.behind (omega (arith, put_count h.mine, h.mine.few)) q a.told new here
      (λ i. get_or (given_in c) i none)
      (λ i m. ap (λ (s : List Gathered). get_or s i none) more ∙ get_or-append (given_in b) (x ∷ []) none i (omega (arith, given-length b)))
      (ap (λ (s : List Gathered). get_or s A none) more ∙ get_or_at (given_in b) x [] none A (given-length b) ∙ same) in
      record {
        mine = h.mine;
        holds = rw long page';
        ring = h.ring;
        behind = rw long h.behind;
        unread = omega (arith, h.unread);
        taken = rw long h.taken;
        taken_pairs = λ f. ap (count f) pairs ∙ h.taken_pairs f;
        collects =
            h.collects
            ∙ sym (take-append-le (length collected) (given_in b) (x ∷ []) (omega (arith, given-length b, h.unread)))
            ∙ ap (λ (s : List Gathered). take (length collected) s) (sym more);
      }

-- ---- the guest's steps

-- the pairs in the slots are those put
put-pairs : (f : Pair → Bool) (put : List Request) → All (λ (r : Request). AsPut r (read_slot (slot_for r))) put
    → count (λ (s : List ℕ). f (read_slot s).pair) (map slot_for put) ≡ count (λ (r : Request). f r.pair) put
put-pairs f [] h = count-nil (λ (s : List ℕ). f (read_slot s).pair) ∙ sym (count-nil (λ (r : Request). f r.pair))
put-pairs f (r ∷ put) h =
    omega (
      arith,
      count-cons (λ (s : List ℕ). f (read_slot s).pair) (slot_for r) (map slot_for put),
      count-cons (λ (x : Request). f x.pair) r put,
      put-pairs f put h.1,
      ap (λ (q : Pair). one (f q)) h.0.pair,
    )

-- how far one count is ahead of another, by their remainders
pub modular : (a q : ℕ) → q ≤ a → a ≤ q + 32 → (a % modulus + (modulus - q % modulus)) % modulus ≡ a - q
modular a q l m = omega arith

module _ {g : Guest} {page : List ℕ} {put : List Request} {collected : List Gathered} {b : Book} {slots : List (List ℕ)}
    (h : Half g page put collected b slots) (sound : Sound b) where
  pub answered-le : length b.answered ≤ length b.taken
  answered-le = omega (arith, numbers b sound)

  pub half-put : (r : Request) → length g.outstanding < most_outstanding → has (same_id r.pair.id) g.outstanding ≡ false → AsPut r (read_slot (slot_for r))
      → Half (puts g page r).guest (puts g page r).page (put ++ (r ∷ [])) collected b slots
  unfolding puts
  half-put r few new fit =
      let m = h.mine in
      let long : length (map slot_for put) ≡ length put = length-map put slot_for in
      let more : map slot_for (put ++ (r ∷ [])) ≡ map slot_for put ++ (slot_for r ∷ []) = map-append slot_for put (r ∷ []) in
      let page' =
      page-put h.holds h.unread answered-le h.behind (omega (arith, put_count m)) (slot_for r) (slot-length r) (slot-bytes r)
      (λ i. get_or (map slot_for put ++ (slot_for r ∷ [])) i [])
      (λ i l. get_or-append (map slot_for put) (slot_for r ∷ []) [] i (omega arith))
      (get_or_at (map slot_for put) (slot_for r) [] [] (length put) long) in
      record {
        mine = record {
          index = rw (m.index, length-snoc put r) (omega arith);
          place = m.place;
          outstanding = λ f. omega (arith, m.outstanding f, count-snoc (λ (x : Request). f x.pair) put r, count-snoc f g.outstanding r.pair);
          few = omega (arith, length-snoc g.outstanding r.pair);
          apart = apart_snoc r.pair g.outstanding new m.apart;
          as_put = all_snoc (λ (x : Request). AsPut x (read_slot (slot_for x))) put r m.as_put fit;
        };
        holds = rw (m.index, more, length-snoc put r) page';
        ring = h.ring;
        behind = omega (arith, h.behind, length-snoc put r);
        unread = h.unread;
        taken = h.taken ∙ rw (more, take-append-le (length b.taken) (map slot_for put) (slot_for r ∷ []) (omega (arith, h.behind)));
        taken_pairs = h.taken_pairs;
        collects = h.collects;
      }

  -- rsp_prod is ahead by the responses that were given and not collected
  pub ahead-is : ahead g page ≡ length b.answered - length collected
  unfolding ahead distance
  ahead-is =
      rw (h.holds.answered, h.mine.place)
      (modular (length b.answered) (length collected) h.unread (omega (arith, put_count h.mine, answered-le, h.behind, h.mine.few)))

  module _ (some : length collected < length b.answered) where
    abbrev next : Gathered
    next = get_or (given_in b) (length collected) none

    -- what stands in the next slot is what was given
    next-is : response_at page g.collected ≡ next
    next-is = rw h.mine.place (response-modulus page (length collected) ∙ h.holds.unread (length collected) (omega arith) some)

    -- and a request with its pair is outstanding: more of them were answered, so taken and put, than collected
    next-has : has (same_pair next.pair) g.outstanding ≡ true
    next-has =
        let q = next.pair in
        let f = same_pair q in
        let fs : List ℕ → Bool = λ s. f (read_slot s).pair in
        let fx : Gathered → Bool = λ x. f x.pair in
        has-counted f g.outstanding (omega (
          arith,
          h.mine.outstanding f,
          put-pairs f put h.mine.as_put,
          count-take fs (length b.taken) (map slot_for put),
          ap (count fs) h.taken,
          h.taken_pairs f,
          sound.kept f,
          given-pairs f b,
          count-take fx (length collected) (given_in b),
          ap (count fx) h.collects,
          count_next fx (length collected) (given_in b) none (omega (arith, given-length b)),
          ap one (is_pair-self q),
        ))

    pub collect-has : has (same_pair (next_pair g page)) g.outstanding ≡ true
    unfolding response_at
    collect-has = rw (ap (λ (x : Gathered). x.pair) next-is) next-has

    -- the guest once it has collected x
    abbrev collecting : Gathered → Guest
    collecting x =
        record { put = g.put; collected = after g.collected; outstanding = without (place_of (same_pair x.pair) g.outstanding) g.outstanding }

    half-next : Half (collecting next) page put (collected ++ (next ∷ [])) b slots
    half-next =
        let m = h.mine in
        let q = next.pair in
        let long = length-snoc collected next in
        record {
          mine = record {
            index = m.index;
            place = rw (m.place, long) (omega arith);
            outstanding = λ f. omega (arith, m.outstanding f, ended-count q g.outstanding next-has f, count-snoc (λ (y : Gathered). f y.pair) collected next);
            few = omega (arith, m.few, ended-length q g.outstanding next-has);
            apart = ended-apart q g.outstanding next-has m.apart;
            as_put = m.as_put;
          };
          holds = rw long (page-collected h.holds);
          ring = h.ring;
          behind = h.behind;
          unread = omega arith;
          taken = h.taken;
          taken_pairs = h.taken_pairs;
          collects = rw (long, take-suc (given_in b) (length collected) none (omega (arith, given-length b)), ← h.collects);
        }

    pub half-collect : Half (collects g page).guest page put (collected ++ (record { pair = next_pair g page; status = next_status g page } ∷ [])) b slots
    unfolding collects response_at
    half-collect = subst (λ (x : Gathered). Half (collecting x) page put (collected ++ (x ∷ [])) b slots) (sym next-is) half-next
