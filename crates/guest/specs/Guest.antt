-- Section 16 of docs/RULES.md: the guest's half. Its page is that of the backend's rules, with the 64-bit layout: what stands in a response and the header is
-- said in model's Ring, and only there.
use Rattle.std.specs.Prelude.{ℕ, ◌-◌, Bool, not, cond, Result, Option, Ok, Err, Some, None, ◌&&◌, List, [], ◌∷◌, ◌++◌, eqb, ltb, leb, length, get_or, set, take, replicate}
use Rattle.wire.specs.Part.{set_part}
use Rattle.model.specs.Base.{◌⇒◌, first_of, least}
use Rattle.model.specs.Ring.{Ring, Request, ring_for, page_bytes, page_slots, slot_bytes, slot_at, set_req_prod, req_event, rsp_prod, set_rsp_event, response_pair, response_status}
use Rattle.model.specs.Port.{distance, after}
use Rattle.model.specs.declared.Abi.{Abi}
use Rattle.model.specs.declared.Collected.{Collected}
use Rattle.model.specs.declared.Pages.{Pages}
use Rattle.model.specs.declared.Pair.{Pair}
use Rattle.model.specs.declared.Refusal.{Refusal}
use Rattle.asking.specs.Request.{is_bad}
use Rattle.asking.specs.Slot.{slot_for}

-- ---- the page

-- its bytes: a guest's ring has one page, whatever a backend's rings may have; and the ring in it (rule 16.1)
abbrev pub guest_page : ℕ
guest_page = page_bytes

abbrev pub guest_ring : Ring
guest_ring = ring_for Abi.Bits64 Pages.One

-- a page as a guest begins with (rule 16.1)
abbrev pub zero_page : List ℕ
zero_page = replicate guest_page 0

abbrev pub is_page : List ℕ → Bool
is_page page = eqb (length page) guest_page

-- ---- the guest

-- The index of the next request and that of the next response, both its own, and the requests that have no response yet (rule 16.2).
pub record Guest : Type 0 where
  pub put : ℕ
  pub collected : ℕ
  pub outstanding : List Pair

abbrev pub fresh_guest : Guest
fresh_guest = record { put = 0; collected = 0; outstanding = [] }

-- as many requests may be outstanding as the ring has slots (rule 16.2)
abbrev pub most_outstanding : ℕ
most_outstanding = page_slots

abbrev pub no_pair : Pair
no_pair = record { id = 0; operation = 0 }

-- where the first that passes stands; their number where none does
unfoldable pub place_of : (Pair → Bool) → List Pair → ℕ
place_of f l = least (length l) (λ i. f (get_or l i no_pair))

abbrev pub has : (Pair → Bool) → List Pair → Bool
has f l = ltb (place_of f l) (length l)

-- the place of the first that passes, if one does
abbrev pub found : (Pair → Bool) → List Pair → Option ℕ
found f l = cond (has f l) (Some (place_of f l)) None

-- the id is the same (rule 16.5), or id and operation are (rule 16.13)
abbrev pub same_id : ℕ → Pair → Bool
same_id n q = eqb n q.id

abbrev pub same_pair : Pair → Pair → Bool
same_pair p q = eqb p.id q.id && eqb p.operation q.operation

-- the outstanding without the one at place i: the last takes its place (rule 16.15)
unfoldable pub without : ℕ → List Pair → List Pair
without i l = let last = length l - 1 in take last (set l i (get_or l last no_pair))

-- ---- putting

-- what is left of guest and page, and the answer
pub record PutEffect : Type 0 where
  pub guest : Guest
  pub page : List ℕ
  pub answer : Result Bool Refusal

abbrev pub not_put : Guest → List ℕ → Refusal → PutEffect
not_put g page why = record { guest = g; page = page; answer = Err why }

-- the slot of our own index, then req_prod, and no other byte (rule 16.8)
unfoldable pub put_page : List ℕ → ℕ → List ℕ → List ℕ
put_page page i slot = set_req_prod (set_part slot_bytes page (slot_at guest_ring i) slot) (after i)

-- the backend is notified exactly where its req_event is the new req_prod (rule 16.9)
unfoldable pub puts : Guest → List ℕ → Request → PutEffect
puts g page r = record {
  guest = record { put = after g.put; collected = g.collected; outstanding = g.outstanding ++ r.pair ∷ [] };
  page = put_page page g.put (slot_for r);
  answer = Ok (eqb (req_event page) (after g.put));
}

-- putting, refusals first, the lowest number of those that apply (rules 16.3 to 16.7)
unfoldable pub put_due : Guest → List ℕ → Request → PutEffect
put_due g page r =
    first_of
    (not (is_page page) ⇒ not_put g page Refusal.WrongLength
    ∷ leb most_outstanding (length g.outstanding) ⇒ not_put g page Refusal.RingFull
    ∷ has (same_id r.pair.id) g.outstanding ⇒ not_put g page Refusal.IdOutstanding
    ∷ is_bad r ⇒ not_put g page Refusal.BadRequest
    ∷ [])
    (puts g page r)

-- ---- collecting

-- what is left of guest and page, and the answer
pub record CollectEffect : Type 0 where
  pub guest : Guest
  pub page : List ℕ
  pub answer : Result (Option Collected) Refusal

abbrev pub not_collected : Guest → List ℕ → Refusal → CollectEffect
not_collected g page why = record { guest = g; page = page; answer = Err why }

-- how far rsp_prod is ahead of our own index (rule 16.11)
unfoldable pub ahead : Guest → List ℕ → ℕ
ahead g page = distance (rsp_prod page) g.collected

-- id and operation of the response in the slot of our own index, and its status (rules 16.13 and 16.14)
abbrev pub next_pair : Guest → List ℕ → Pair
next_pair g page = response_pair page (slot_at guest_ring g.collected)

abbrev pub next_status : Guest → List ℕ → ℕ
next_status g page = response_status page (slot_at guest_ring g.collected)

-- nothing to collect: the next response will notify (rule 16.12)
unfoldable pub waits : Guest → List ℕ → CollectEffect
waits g page = record { guest = g; page = set_rsp_event page (after g.collected); answer = Ok None }

-- a response: its request has ended, and no byte changes (rules 16.14 and 16.15)
unfoldable pub collects : Guest → List ℕ → CollectEffect
collects g page = record {
  guest = record {
    put = g.put;
    collected = after g.collected;
    outstanding = without (place_of (same_pair (next_pair g page)) g.outstanding) g.outstanding;
  };
  page = page;
  answer = Ok (Some (record { pair = next_pair g page; status = next_status g page }));
}

-- collecting: rsp_prod is judged before any response is looked at (rules 16.10 to 16.13)
unfoldable pub collect_due : Guest → List ℕ → CollectEffect
collect_due g page =
    first_of
    (not (is_page page) ⇒ not_collected g page Refusal.WrongLength
    ∷ ltb (length g.outstanding) (ahead g page) ⇒ not_collected g page Refusal.BadRspProd
    ∷ eqb (ahead g page) 0 ⇒ waits g page
    ∷ not (has (same_pair (next_pair g page)) g.outstanding) ⇒ not_collected g page Refusal.NotOutstanding
    ∷ [])
    (collects g page)
