-- What is due of a put and of a collect, by the tests that decide it, and the promise that an outcome then keeps. Assumes nothing.
use mathlib.Core.Path.{◌≡◌, refl, sym, ap, ◌∙◌}
use mathlib.Core.Bool.{Bool, true, false, not, cond}
use mathlib.Core.List.{List}
use Prim.Native.Nat.{ℕ, ◌+◌, ◌-◌, ◌≤◌, ◌<◌}
use native.Mathlib.Omega.{arith}
use lib.Dec.{eqb, ltb, leb}
use lib.ListN.{length, set, length-set}
use borrow.Author.Tests.{eqb-true, eqb-false, eq-eqb, ne_eqb, ltb-true, ltb-false, lt-ltb, le-ltb, leb-false, le-leb, lt-leb, not-false}
use Rattle.std.specs.Prelude.{Result, Option, Ok, Err, Some, None}
use Rattle.model.specs.Port.{after}
use Rattle.model.specs.Ring.{Request, req_event, set_rsp_event}
use Rattle.model.specs.declared.Collected.{Collected}
use Rattle.model.specs.declared.Pair.{Pair}
use Rattle.model.specs.declared.Refusal.{Refusal}
use Rattle.model.proofs.Base.{by_cond}
use Rattle.asking.specs.Request.{is_bad}
use Rattle.asking.specs.Slot.{slot_for}
use Rattle.guest.specs.Guest.{Guest, guest_page, is_page, most_outstanding, place_of, has, found, same_id, same_pair, PutEffect, not_put, put_page, puts, put_due, CollectEffect, not_collected, ahead, next_pair, next_status, waits, collects, collect_due}
use Rattle.outstanding.specs.Words.{put_at, collected_at, count_at, ids_at, operations_at, guest_words, index_in, count_in, pair_at, guest_of, set_pair, words_put, words_ended}
use Rattle.frontend.specs.Promise.{put_words_left, collect_words_left, PutPromise, Placed, CollectPromise}
use Rattle.outstanding.proofs.Words.{length_outstanding, guest-put, guest-ended}

-- ---- putting

module _ (g : Guest) (page : List ℕ) (r : Request) where
  put_1 : (length page ≡ guest_page → ⊥) → put_due g page r ≡ not_put g page Refusal.WrongLength
  unfolding put_due
  put_1 a = rw (ne_eqb (length page) guest_page a)

  module _ (a : length page ≡ guest_page) where
    put-31 : most_outstanding ≤ length g.outstanding → put_due g page r ≡ not_put g page Refusal.RingFull
    unfolding put_due
    put-31 b = rw (eq-eqb (length page) guest_page a, le-leb most_outstanding (length g.outstanding) b)

    module _ (b : length g.outstanding < most_outstanding) where
      put_32 : has (same_id r.pair.id) g.outstanding ≡ true → put_due g page r ≡ not_put g page Refusal.IdOutstanding
      unfolding put_due
      put_32 c = rw (eq-eqb (length page) guest_page a, lt-leb most_outstanding (length g.outstanding) b, c)

      module _ (c : has (same_id r.pair.id) g.outstanding ≡ false) where
        put-33 : is_bad r ≡ true → put_due g page r ≡ not_put g page Refusal.BadRequest
        unfolding put_due
        put-33 d = rw (eq-eqb (length page) guest_page a, lt-leb most_outstanding (length g.outstanding) b, c, d)

        put-passed : is_bad r ≡ false → put_due g page r ≡ puts g page r
        unfolding put_due
        put-passed d = rw (eq-eqb (length page) guest_page a, lt-leb most_outstanding (length g.outstanding) b, c, d)

module _ (w page : List ℕ) (r : Request) where
  put_refused : (why : Refusal) → put_due (guest_of w) page r ≡ not_put (guest_of w) page why → PutPromise w page r (Err why) w page
  put_refused why e = record {
    answered = ap (λ (x : PutEffect). x.answer) (sym e);
    page_due = ap (λ (x : PutEffect). x.page) (sym e);
    guest_due = ap (λ (x : PutEffect). x.guest) (sym e);
    words = refl;
  }

  pub refused-1 : (length page ≡ guest_page → ⊥) → PutPromise w page r (Err Refusal.WrongLength) w page
  refused-1 a = put_refused Refusal.WrongLength (put_1 (guest_of w) page r a)

  pub refused-31 : length page ≡ guest_page → most_outstanding ≤ length (guest_of w).outstanding → PutPromise w page r (Err Refusal.RingFull) w page
  refused-31 a b = put_refused Refusal.RingFull (put-31 (guest_of w) page r a b)

  module _ (a : length page ≡ guest_page) (b : length (guest_of w).outstanding < most_outstanding) where
    pub refused-32 : has (same_id r.pair.id) (guest_of w).outstanding ≡ true → PutPromise w page r (Err Refusal.IdOutstanding) w page
    refused-32 c = put_refused Refusal.IdOutstanding (put_32 (guest_of w) page r a b c)

    pub refused-33 : has (same_id r.pair.id) (guest_of w).outstanding ≡ false → is_bad r ≡ true → PutPromise w page r (Err Refusal.BadRequest) w page
    refused-33 c d = put_refused Refusal.BadRequest (put-33 (guest_of w) page r a b c d)

    -- the guest that the words left say
    guest-left : length w ≡ guest_words → guest_of (words_put w r.pair) ≡ (puts (guest_of w) page r).guest
    unfolding puts guest_of
    guest-left sized = guest-put w sized (omega (arith, length_outstanding w)) r.pair

    page-left : (puts (guest_of w) page r).page ≡ put_page page (guest_of w).put (slot_for r)
    unfolding puts
    page-left = refl

    answer-left : (puts (guest_of w) page r).answer ≡ Ok (eqb (req_event page) (after (guest_of w).put))
    unfolding puts
    answer-left = refl

    -- a put that passed, with its slot
    pub put-done : has (same_id r.pair.id) (guest_of w).outstanding ≡ false → is_bad r ≡ false → (slot : List ℕ) → slot ≡ slot_for r
        → (answer : Bool) (left bytes : List ℕ) → Placed w page r.pair slot answer left bytes → PutPromise w page r (Ok answer) left bytes
    put-done c d slot is answer left bytes p =
        let e = put-passed (guest_of w) page r a b c d in
        record {
          answered = ap Ok p.answered ∙ sym answer-left ∙ ap (λ (x : PutEffect). x.answer) (sym e);
          page_due = p.page_put ∙ ap (put_page page (guest_of w).put) is ∙ sym page-left ∙ ap (λ (x : PutEffect). x.page) (sym e);
          guest_due = ap guest_of p.words ∙ guest-left p.sized ∙ ap (λ (x : PutEffect). x.guest) (sym e);
          words = p.words;
        }

-- ---- collecting

-- where none is found none is there, and where one is it stands in its place
none-there : (b : Bool) (i : ℕ) → cond b (Some i) None ≡ None → b ≡ false
none-there true i e = cc
none-there false i e = refl

one-there : (b : Bool) (i j : ℕ) → cond b (Some i) None ≡ Some j → (b ≡ true) × (j ≡ i)
one-there true i j e = (refl, cc)
one-there false i j e = cc

pub found-none : (f : Pair → Bool) (l : List Pair) → found f l ≡ None → has f l ≡ false
found-none f l e = none-there (has f l) (place_of f l) e

pub found-some : (f : Pair → Bool) (l : List Pair) (j : ℕ) → found f l ≡ Some j → (has f l ≡ true) × (j ≡ place_of f l)
found-some f l j e = one-there (has f l) (place_of f l) j e

module _ (g : Guest) (page : List ℕ) where
  collect-1 : (length page ≡ guest_page → ⊥) → collect_due g page ≡ not_collected g page Refusal.WrongLength
  unfolding collect_due
  collect-1 a = rw (ne_eqb (length page) guest_page a)

  module _ (a : length page ≡ guest_page) where
    collect-34 : length g.outstanding < ahead g page → collect_due g page ≡ not_collected g page Refusal.BadRspProd
    unfolding collect_due
    collect-34 b = rw (eq-eqb (length page) guest_page a, lt-ltb (length g.outstanding) (ahead g page) b)

    module _ (b : ahead g page ≤ length g.outstanding) where
      collect-none : ahead g page ≡ 0 → collect_due g page ≡ waits g page
      unfolding collect_due
      collect-none c = rw (eq-eqb (length page) guest_page a, le-ltb (length g.outstanding) (ahead g page) b, eq-eqb (ahead g page) 0 c)

      module _ (c : ahead g page ≡ 0 → ⊥) where
        collect-35 : has (same_pair (next_pair g page)) g.outstanding ≡ false → collect_due g page ≡ not_collected g page Refusal.NotOutstanding
        unfolding collect_due
        collect-35 d = rw (eq-eqb (length page) guest_page a, le-ltb (length g.outstanding) (ahead g page) b, ne_eqb (ahead g page) 0 c, d)

        collect-passed : has (same_pair (next_pair g page)) g.outstanding ≡ true → collect_due g page ≡ collects g page
        unfolding collect_due
        collect-passed d = rw (eq-eqb (length page) guest_page a, le-ltb (length g.outstanding) (ahead g page) b, ne_eqb (ahead g page) 0 c, d)

module _ (w page : List ℕ) where
  collect-refused : (why : Refusal) → collect_due (guest_of w) page ≡ not_collected (guest_of w) page why → CollectPromise w page (Err why) w page
  collect-refused why e = record {
    answered = ap (λ (x : CollectEffect). x.answer) (sym e);
    page_due = ap (λ (x : CollectEffect). x.page) (sym e);
    guest_due = ap (λ (x : CollectEffect). x.guest) (sym e);
    words = refl;
  }

  pub not-a-page : (length page ≡ guest_page → ⊥) → CollectPromise w page (Err Refusal.WrongLength) w page
  not-a-page a = collect-refused Refusal.WrongLength (collect-1 (guest_of w) page a)

  module _ (a : length page ≡ guest_page) where
    pub refused-34 : length (guest_of w).outstanding < ahead (guest_of w) page → CollectPromise w page (Err Refusal.BadRspProd) w page
    refused-34 b = collect-refused Refusal.BadRspProd (collect-34 (guest_of w) page a b)

    module _ (b : ahead (guest_of w) page ≤ length (guest_of w).outstanding) where
      pub none_yet : ahead (guest_of w) page ≡ 0 → (bytes : List ℕ) → bytes ≡ set_rsp_event page (after (guest_of w).collected)
          → CollectPromise w page (Ok None) w bytes
      unfolding waits
      none_yet c bytes paged =
          let e = collect-none (guest_of w) page a b c in
          record {
            answered = ap (λ (x : CollectEffect). x.answer) (sym e);
            page_due = paged ∙ ap (λ (x : CollectEffect). x.page) (sym e);
            guest_due = ap (λ (x : CollectEffect). x.guest) (sym e);
            words = refl;
          }

      module _ (c : ahead (guest_of w) page ≡ 0 → ⊥) where
        abbrev here : ℕ
        here = place_of (same_pair (next_pair (guest_of w) page)) (guest_of w).outstanding

        abbrev known : Bool
        known = has (same_pair (next_pair (guest_of w) page)) (guest_of w).outstanding

        pub refused-35 : known ≡ false → CollectPromise w page (Err Refusal.NotOutstanding) w page
        refused-35 d = collect-refused Refusal.NotOutstanding (collect-35 (guest_of w) page a b c d)

        guest-less : length w ≡ guest_words → here < length (guest_of w).outstanding → guest_of (words_ended w here) ≡ (collects (guest_of w) page).guest
        unfolding collects guest_of
        guest-less sized d = guest-ended w sized here (omega (arith, length_outstanding w))

        answer-here : (collects (guest_of w) page).answer ≡ Ok (Some (record { pair = next_pair (guest_of w) page; status = next_status (guest_of w) page }))
        unfolding collects
        answer-here = refl

        page-here : (collects (guest_of w) page).page ≡ page
        unfolding collects
        page-here = refl

        pub collect-done : length w ≡ guest_words → known ≡ true → (left : List ℕ) → left ≡ words_ended w here
            → CollectPromise w page (Ok (Some (record { pair = next_pair (guest_of w) page; status = next_status (guest_of w) page }))) left page
        collect-done sized d left words =
            let e = collect-passed (guest_of w) page a b c d in
            record {
              answered = sym answer-here ∙ ap (λ (x : CollectEffect). x.answer) (sym e);
              page_due = sym page-here ∙ ap (λ (x : CollectEffect). x.page) (sym e);
              guest_due = ap guest_of words ∙ guest-less sized (ltb-true _ _ d) ∙ ap (λ (x : CollectEffect). x.guest) (sym e);
              words = words;
            }

-- ---- the words left say the guest that is due, whatever the answer

record PutSays (w : List ℕ) (q : Pair) (e : PutEffect) : Type 0 where
  says : guest_of (put_words_left w q e.answer) ≡ e.guest

put-left : (w page : List ℕ) (r : Request) → length page ≡ guest_page → length (guest_of w).outstanding < most_outstanding → length w ≡ guest_words
    → PutSays w r.pair (puts (guest_of w) page r)
unfolding puts
put-left w page r a b sized = record { says = guest-left w page r a b sized }

refused_says : (w page : List ℕ) (q : Pair) (why : Refusal) → PutSays w q (not_put (guest_of w) page why)
refused_says w page q why = record { says = refl }

put-says : (w page : List ℕ) (r : Request) → length w ≡ guest_words → PutSays w r.pair (put_due (guest_of w) page r)
unfolding put_due
put-says w page r sized =
    let g = guest_of w in
    by_cond (PutSays w r.pair) (not (is_page page)) _ _ (λ _. refused_says w page r.pair Refusal.WrongLength) (λ a.
    by_cond (PutSays w r.pair) (leb most_outstanding (length g.outstanding)) _ _ (λ _. refused_says w page r.pair Refusal.RingFull) (λ b.
    by_cond (PutSays w r.pair) (has (same_id r.pair.id) g.outstanding) _ _ (λ _. refused_says w page r.pair Refusal.IdOutstanding) (λ _.
    by_cond (PutSays w r.pair) (is_bad r) _ _ (λ _. refused_says w page r.pair Refusal.BadRequest) (λ _.
    put-left w page r (eqb-true (length page) guest_page (not-false _ a)) (leb-false most_outstanding (length g.outstanding) b) sized))))

pub put-guest : (w page : List ℕ) (r : Request) → length w ≡ guest_words
    → guest_of (put_words_left w r.pair (put_due (guest_of w) page r).answer) ≡ (put_due (guest_of w) page r).guest
put-guest w page r sized = (put-says w page r sized).says

record CollectSays (w : List ℕ) (e : CollectEffect) : Type 0 where
  says : guest_of (collect_words_left w e.answer) ≡ e.guest

wait-left : (w page : List ℕ) → CollectSays w (waits (guest_of w) page)
unfolding waits
wait-left w page = record { says = refl }

collect-left : (w page : List ℕ) (a : length page ≡ guest_page) (b : ahead (guest_of w) page ≤ length (guest_of w).outstanding) (c : ahead (guest_of w) page ≡ 0 → ⊥)
    → length w ≡ guest_words → place_of (same_pair (next_pair (guest_of w) page)) (guest_of w).outstanding < length (guest_of w).outstanding
    → CollectSays w (collects (guest_of w) page)
unfolding collects
collect-left w page a b c sized d = record { says = guest-less w page a b c sized d }

not-collected-says : (w page : List ℕ) (why : Refusal) → CollectSays w (not_collected (guest_of w) page why)
not-collected-says w page why = record { says = refl }

collect-says : (w page : List ℕ) → length w ≡ guest_words → CollectSays w (collect_due (guest_of w) page)
unfolding collect_due
collect-says w page sized =
    let g = guest_of w in
    by_cond (CollectSays w) (not (is_page page)) _ _ (λ _. not-collected-says w page Refusal.WrongLength) (λ a.
    by_cond (CollectSays w) (ltb (length g.outstanding) (ahead g page)) _ _ (λ _. not-collected-says w page Refusal.BadRspProd) (λ b.
    by_cond (CollectSays w) (eqb (ahead g page) 0) _ _ (λ _. wait-left w page) (λ c.
    by_cond (CollectSays w) (not (has (same_pair (next_pair g page)) g.outstanding)) _ _ (λ _. not-collected-says w page Refusal.NotOutstanding) (λ d.
    collect-left w page (eqb-true (length page) guest_page (not-false _ a)) (ltb-false (length g.outstanding) (ahead g page) b) (eqb-false (ahead g page) 0 c) sized
    (ltb-true _ _ (not-false _ d))))))

pub collect-guest : (w page : List ℕ) → length w ≡ guest_words → guest_of (collect_words_left w (collect_due (guest_of w) page).answer) ≡ (collect_due (guest_of w) page).guest
collect-guest w page sized = (collect-says w page sized).says

-- and are as many
length-set_pair : (w : List ℕ) (i : ℕ) (q : Pair) → length (set_pair w i q) ≡ length w
unfolding set_pair
length-set_pair w i q = length-set (set w (ids_at + i) q.id) (operations_at + i) q.operation ∙ length-set w (ids_at + i) q.id

pub length-put : (w : List ℕ) (q : Pair) (r : Result Bool Refusal) → length (put_words_left w q r) ≡ length w
unfolding words_put
length-put w q (Err why) = refl
length-put w q (Ok y) =
    let next = after (index_in w put_at) in
    length-set_pair (set (set w put_at next) count_at (count_in w + 1)) (count_in w) q ∙ length-set (set w put_at next) count_at (count_in w + 1) ∙ length-set w put_at next

pub length-collect : (w : List ℕ) (r : Result (Option Collected) Refusal) → length (collect_words_left w r) ≡ length w
unfolding words_ended
length-collect w (Err why) = refl
length-collect w (Ok None) = refl
length-collect w (Ok (Some c)) =
    let next = after (index_in w collected_at) in
    let last = count_in w - 1 in
    length-set_pair (set (set w collected_at next) count_at last) (place_of (same_pair c.pair) (guest_of w).outstanding) (pair_at w last)
    ∙ length-set (set w collected_at next) count_at last
    ∙ length-set w collected_at next
