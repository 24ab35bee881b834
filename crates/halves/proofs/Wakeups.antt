-- Nobody sleeps over work: whoever waits and was not told has armed its event for the very next count, and has nothing to do. Each step of either half keeps
-- that, beside what the theorem of both halves keeps. Assumes nothing but what the theorem states.
use mathlib.Core.Path.{◌≡◌, refl, sym, ap, ◌∙◌, subst}
use mathlib.Core.Logic.{◌≢◌}
use mathlib.Core.Bool.{Bool, true, false, not, ◌&&◌, ◌||◌}
use mathlib.Core.List.{List, [], ◌∷◌, ◌++◌, append-nil}
use Prim.Native.Nat.{ℕ, ◌+◌, ◌-◌, ◌%◌, ◌<◌}
use native.Mathlib.Decide.{ℕ_discrete}
use native.Mathlib.Omega.{arith}
use lib.Dec.{eqb, ltb, leb}
use lib.ListN.{length, length-map}
use borrow.Author.Tests.{eqb-true, eqb-false, eq-eqb, ne_eqb, lt-ltb, not-false}
use Rattle.std.specs.Prelude.{Result, Ok, Err}
use Rattle.model.specs.declared.Refusal.{Refusal}
use Rattle.model.specs.Backend.{event_on}
use Rattle.model.specs.Base.{modulus}
use Rattle.model.specs.Buffers.{ports, rings_length, pages_of, set_pages}
use Rattle.model.specs.Calls.{Open, Close, CompleteAnswer, none_done, all_done}
use Rattle.model.specs.Complete.{Completion, completions_in, response_for, responses_for}
use Rattle.model.specs.Deeds.{closing, answering, open_deeds, close_deeds, turn_deeds, finishings, complete_deeds}
use Rattle.model.specs.Demand.{All, IsBytes}
use Rattle.model.specs.History.{Book, entry, posts, book, unfinished, view_at}
use Rattle.model.specs.Port.{View, is_closed, is_open, is_work, distance, further, after}
use Rattle.model.specs.Ring.{Request, Ring, req_event, rsp_event}
use Rattle.model.specs.Turn.{pages_at, pending_at, has_work, looked_at, armed, ResponseDue, responded_all_at, tells, notifies_all}
use Rattle.model.specs.declared.PortId.{PortId}
use Rattle.model.specs.Calls.{Reply}
use Rattle.model.specs.declared.Status.{Status}
use Rattle.model.specs.declared.Turned.{Turned}
use Rattle.model.proofs.Base.{by_cond, clash, or_left, or_right}
use Rattle.model.proofs.DueFacts.{Chosen, chosen-lt, Finished, TurnFacts, CompleteFacts, facts-due}
use Rattle.model.proofs.Fairness.{work-is}
use Rattle.model.proofs.Permitted.{open-not-closed, view-ring, view-consumed, view-produced, view-state, chosen-open}
use Rattle.model.proofs.Refinement.{told-step}
use Rattle.model.proofs.Responses.{none-responded}
use Rattle.asking.specs.Request.{is_bad}
use Rattle.asking.specs.Slot.{slot_for}
use Rattle.guest.specs.Guest.{guest_page, guest_ring, is_page, most_outstanding, has, same_id, same_pair, PutEffect, put_due, puts, ahead, next_pair, CollectEffect, collect_due, collects, waits}
use Rattle.halves.specs.Claim.{Lends}
use Rattle.halves.specs.System.{System, Step, putting, collecting, turning, completing, opening_other, closing_any, log_put, log_collected, turn_on, complete_on, step, at_opening}
use Rattle.halves.specs.Wakeups.{Waits, nobody_waits, after_put, after_collect, after_turn, after_completion, waits_after, Rests, RestsAfter, WakeupTheorem}
use Rattle.halves.proofs.Slot.{slot-length}
use Rattle.halves.proofs.Half.{ahead-is}
use Rattle.halves.proofs.Finishings.{posts-others, posts-steady}
use Rattle.halves.proofs.Left.{TurnLeft, CompleteLeft, left-due, answered-left, responded-other}
use Rattle.halves.proofs.Events.{TurnTold, CompleteTold, rsp_set, req-left, rsp-put, req-responded, rsp-armed, req-armed, idle-page, idle-all, tells-due}
use Rattle.halves.proofs.Steps.{pending-is, responded-here}
use Rattle.halves.proofs.Before.{before-all}
use Rattle.halves.proofs.Together.{Kept, kept-first, sound-here, lent-bytes, lent-sized, lent-here, kept_step}

-- ---- what is kept

-- Of who waits and was not told: its event in the page is that of the next response or request, and it has collected or taken all. P were put, Q collected.
record Armed (page : List ℕ) (P Q : ℕ) (b : Book) (z : Waits) : Type 0 where
  guest : z.guest ≡ true → z.guest_told ≡ false → (rsp_event page ≡ (Q + 1) % modulus) × (Q ≡ length b.answered)
  backend : z.backend ≡ true → z.backend_told ≡ false → is_open b.state ≡ true
      → (req_event page ≡ (length b.taken + 1) % modulus) × (length b.taken ≡ P)

abbrev ArmedIn : ℕ → System → Waits → Type 0
ArmedIn k w z = Armed w.page (length w.put) (length w.collected) (book k w.events) z

-- the next index by its remainder
after-mod : (n : ℕ) → after (n % modulus) ≡ (n + 1) % modulus
after-mod n = omega arith

-- the index after the last is among those of the next responses, however many there are
tells-next : (n m : ℕ) → 0 < m → m < modulus → tells (n % modulus) m ((n + 1) % modulus) ≡ true
unfolding tells distance
tells-next n m some few =
    let old = n % modulus in
    let new = further old m in
    let all : distance new old ≡ m = omega arith in
    let rest : distance new ((n + 1) % modulus) + 1 ≡ m = omega arith in
    lt-ltb (distance new ((n + 1) % modulus)) (distance new old) (omega (arith, all, rest))

-- ---- the guest's steps

module _ (k : ℕ) (small : k < ports) (w : System) (h : Kept k w) (z : Waits) (a : ArmedIn k w z) where
  abbrev b : Book
  b = book k w.events

  abbrev sized : length w.page ≡ guest_page
  sized = h.half.holds.sized

  abbrev PutArmed : Request → PutEffect → Type 0
  PutArmed r e = Armed e.page (length (w.put ++ log_put e.answer r)) (length w.collected) b (after_put z e.answer)

  not-put : Armed w.page (length (w.put ++ [])) (length w.collected) b z
  not-put = rw (append-nil w.put) a

  -- a backend that waits untold has armed for this very put
  put-tells : z.backend ≡ true → z.backend_told ≡ false → is_open b.state ≡ true → eqb (req_event w.page) (after w.guest.put) ≡ false → ⊥
  put-tells x y o e =
      let c = a.backend x y o in
      eqb-false _ _ e (c.0 ∙ sym (rw (h.half.mine.index, ← c.1) (after-mod (length b.taken))))

  put-done : (r : Request) → PutArmed r (puts w.guest w.page r)
  unfolding puts
  put-done r = record {
    guest = λ x y. (rsp-put w.page sized w.guest.put (slot_for r) (slot-length r) ∙ (a.guest x y).0, (a.guest x y).1);
    backend = λ x y o. absurd (put-tells x (or_left _ _ y) o (or_right z.backend_told _ y));
  }

  put-armed : (r : Request) → PutArmed r (put_due w.guest w.page r)
  unfolding put_due
  put-armed r =
      by_cond (PutArmed r) (not (is_page w.page)) _ _ (λ _. not-put) (λ _.
      by_cond (PutArmed r) (leb most_outstanding (length w.guest.outstanding)) _ _ (λ _. not-put) (λ _.
      by_cond (PutArmed r) (has (same_id r.pair.id) w.guest.outstanding) _ _ (λ _. not-put) (λ _.
      by_cond (PutArmed r) (is_bad r) _ _ (λ _. not-put) (λ _. put-done r))))

  abbrev CollectArmed : CollectEffect → Type 0
  CollectArmed e = Armed e.page (length w.put) (length (w.collected ++ log_collected e.answer)) b (after_collect z e.answer)

  not-collected : Armed w.page (length w.put) (length (w.collected ++ [])) b z
  not-collected = rw (append-nil w.collected) a

  waits-armed : eqb (ahead w.guest w.page) 0 ≡ true → CollectArmed (waits w.guest w.page)
  unfolding waits
  waits-armed e =
      rw (append-nil w.collected)
      record {
        guest = λ _ _. (
          rsp_set w.page sized w.guest.collected ∙ rw h.half.mine.place (after-mod (length w.collected)),
          omega (arith, eqb-true (ahead w.guest w.page) 0 e, ahead-is h.half (sound-here k small w h), h.half.unread),
        );
        backend = λ x y o. (req-left w.page sized (after w.guest.collected) ∙ (a.backend x y o).0, (a.backend x y o).1);
      }

  collects-armed : CollectArmed (collects w.guest w.page)
  unfolding collects
  collects-armed = record { guest = λ x y. clash x refl; backend = a.backend }

  collect-armed : CollectArmed (collect_due w.guest w.page)
  unfolding collect_due
  collect-armed =
      by_cond CollectArmed (not (is_page w.page)) _ _ (λ _. not-collected) (λ _.
      by_cond CollectArmed (ltb (length w.guest.outstanding) (ahead w.guest w.page)) _ _ (λ _. not-collected) (λ _.
      by_cond CollectArmed (eqb (ahead w.guest w.page) 0) _ _ waits-armed (λ _.
      by_cond CollectArmed (not (has (same_pair (next_pair w.guest w.page)) w.guest.outstanding)) _ _ (λ _. not-collected) (λ _. collects-armed))))

  -- ---- the backend's

  -- where all that counts stays
  module _ (page : List ℕ) (same : page ≡ w.page) where
    armed-same : Armed page (length w.put) (length w.collected) b z
    armed-same = rw same a

    -- the guest's part, of a turn that is done, while the answers stay; the backend waits no more
    armed-guest : (c : Book) → length c.answered ≡ length b.answered
        → Armed page (length w.put) (length w.collected) c (record { guest = z.guest; guest_told = z.guest_told; backend = false; backend_told = false })
    armed-guest c e = record { guest = λ x y. rw (same, e) (a.guest x y); backend = λ x y o. clash x refl }

  module _ (others : List ℕ) (bytes : IsBytes others) (long : length others ≡ rings_length) where
    abbrev v : View
    v = view_at w.events

    abbrev rings : List ℕ
    rings = set_pages guest_ring others k w.page

    here : pages_of guest_ring rings k ≡ w.page
    here = lent-here k small w h others bytes long

    whole : length rings ≡ rings_length
    whole = lent-sized k small w h others bytes long

    same-rings : (left : List ℕ) → left ≡ rings → pages_of guest_ring left k ≡ w.page
    same-rings left e = ap (λ (x : List ℕ). pages_of guest_ring x k) e ∙ here

    -- nothing is left to take of a port that is open and has no work
    none-waits : is_open b.state ≡ true → has_work v rings k ≡ false → length b.taken ≡ length w.put
    unfolding has_work
    none-waits o e =
        let u = length (unfinished b.taken) in
        let d = length w.put - length b.taken in
        let opened : is_open (v.state k) ≡ true = rw view-state o in
        let quiet : is_work (pending_at v rings k) ≡ false = rw opened at e in
        let is = pending-is k small w.events h.half (sound-here k small w h) rings here (open-not-closed b.state o) in
        let n : not (eqb d 0) ≡ false = sym (work-is guest_ring.size u d) ∙ ap is_work (sym is) ∙ quiet in
        omega (arith, eqb-true d 0 (not-false (eqb d 0) n), h.half.behind)

    idle-armed : ((i : ℕ) → i < ports → has_work v rings (looked_at v i) ≡ false)
        → Armed (pages_of guest_ring (armed v rings ports) k) (length w.put) (length w.collected) b
        (record { guest = z.guest; guest_told = z.guest_told; backend = true; backend_told = false })
    idle-armed f =
        let is = idle-page v rings k small whole in
        let size : length (pages_of guest_ring rings k) ≡ guest_page = ap (λ (x : List ℕ). length x) here ∙ h.half.holds.sized in
        record {
          guest = λ x y. (
            ap rsp_event is ∙ rsp-armed (pages_of guest_ring rings k) size (v.consumed k) (v.state k) ∙ ap rsp_event here ∙ (a.guest x y).0,
            (a.guest x y).1,
          );
          backend = λ x y o. (
            ap req_event is
                ∙ req-armed (pages_of guest_ring rings k) size (v.consumed k) (v.state k) (rw view-state o)
                ∙ ap after (view-consumed k w.events (open-not-closed b.state o))
                ∙ after-mod (length b.taken),
            none-waits o (idle-all v rings k small f),
          );
        }

    -- a guest that waits untold has armed for the first of these responses
    response-tells : (n : ℕ) → 0 < n → n < modulus → is_closed b.state ≡ false → z.guest ≡ true → z.guest_told ≡ false → notifies_all v rings k n ≡ false → ⊥
    unfolding notifies_all
    response-tells n some few o x y e =
        let c = a.guest x y in
        let same : pages_at v rings k ≡ w.page = ap (λ (g : Ring). pages_of g rings k) (view-ring k w.events o ∙ h.half.ring) ∙ here in
        let told : tells (v.produced k) n (rsp_event (pages_at v rings k)) ≡ true =
        rw (view-produced k w.events o, same, c.0, c.1) (tells-next (length b.answered) n some few) in
        clash told e

    -- the page is as it was, and as much is answered
    abbrev Still : List ℕ → Book → Type 0
    Still left c = (pages_of guest_ring left k ≡ w.page) × (length c.answered ≡ length b.answered)

    -- so after n responses of port j it was told, or they were another port's, or none
    guest-armed : (left : List ℕ) (j n : ℕ) (c : Book) (y : Bool) → y ≡ notifies_all v rings j n → n < modulus → (k ≡ j → is_closed b.state ≡ false)
        → (k ≢ j → Still left c) → (n ≡ 0 → Still left c) → z.guest ≡ true → z.guest_told || eqb k j && y ≡ false
        → (rsp_event (pages_of guest_ring left k) ≡ (length w.collected + 1) % modulus) × (length w.collected ≡ length c.answered)
    guest-armed left j n c y told few own other none x t =
        let untold : z.guest_told ≡ false = or_left z.guest_told (eqb k j && y) t in
        let quiet : eqb k j && y ≡ false = or_right z.guest_told (eqb k j && y) t in
        let still : Still left c → (rsp_event (pages_of guest_ring left k) ≡ (length w.collected + 1) % modulus) × (length w.collected ≡ length c.answered) =
        λ s. (ap rsp_event s.0 ∙ (a.guest x untold).0, (a.guest x untold).1 ∙ sym s.1) in
        elim (ℕ_discrete k j) [
          | yes e ↦
              elim (ℕ_discrete n 0) [
                | yes i ↦ still (none i)
                | no i ↦
                    absurd (response-tells n (omega arith) few (own e) x untold
                    (ap (λ (u : ℕ). notifies_all v rings u n) e ∙ sym told ∙ (rw (eq-eqb k j e) at quiet)))
              ]
          | no e ↦ still (other e)
        ]

    -- another port's responses
    other-page : (left : List ℕ) (j : ℕ) (xs : List ResponseDue) → j < ports → k ≢ j → left ≡ responded_all_at v rings j xs → pages_of guest_ring left k ≡ w.page
    other-page left j xs there ne e = ap (λ (x : List ℕ). pages_of guest_ring x k) e ∙ responded-other w.events rings k j small whole xs there ne ∙ here

    turn-armed : (left : List ℕ) (x : Result Turned Refusal) → TurnFacts v rings left x → TurnLeft v rings left x → TurnTold v rings x
        → Armed (pages_of guest_ring left k) (length w.put) (length w.collected) (posts k (turn_deeds rings left x) b) (after_turn k z x)
    turn-armed left (Err why) f e t = armed-same (pages_of guest_ring left k) (same-rings left e)
    turn-armed left (Ok Turned.Idle) f e t = rw e (idle-armed f)
    turn-armed left (Ok (Turned.Overrun p)) f e t =
        armed-guest (pages_of guest_ring left k) (same-rings left e.0) _
        (by_cond (λ (c : Book). length c.answered ≡ length b.answered) (eqb k p.0) _ _ (λ _. refl) (λ _. refl))
    turn-armed left (Ok (Turned.Started p t s plan)) f e y =
        armed-guest (pages_of guest_ring left k) (same-rings left e) _
        (by_cond (λ (c : Book). length c.answered ≡ length b.answered) (eqb k p.0) _ _ (λ _. refl) (λ _. refl))
    turn-armed left (Ok (Turned.Answered p fault y)) f e t = record {
      guest =
          guest-armed left p.0 1 (posts k (answering p.0 rings left fault.status ∷ []) b) y t (omega arith)
          (λ q. chosen-open k w.events (sound-here k small w h) rings (subst (λ (j : ℕ). Chosen v rings j) (sym q) f.choice))
          (λ ne. (
            other-page left p.0 _ (chosen-lt f.choice) ne (answered-left v rings left p.0 fault f),
            rw (ne_eqb k p.0 ne),
          ))
          (λ q. absurd (omega arith));
      backend = λ x y o. clash x refl;
    }

    module _ (left : List ℕ) (p : PortId) (cs : List Completion) (zs : List Status) (f : Finished v rings left p.0 cs zs) where
      -- the books after its deeds
      abbrev new : Book
      new = posts k (finishings left p.0 cs zs) b

      left_other : k ≢ p.0 → pages_of guest_ring left k ≡ w.page
      left_other ne = other-page left p.0 _ f.small ne f.written

      own : k ≡ p.0 → Finished v rings left k cs zs
      own e = subst (λ (j : ℕ). Finished v rings left j cs zs) (sym e) f

      opened : k ≡ p.0 → is_closed b.state ≡ false
      opened e = rw view-state at (own e).opened

      req-own : k ≡ p.0 → req_event (pages_of guest_ring left k) ≡ req_event w.page
      req-own e =
          ap req_event
          (responded-here k small w.events h.half (sound-here k small w h) rings here left _ (opened e) whole (own e).written)
          ∙ req-responded w.page sized _ _

      req-kept : req_event (pages_of guest_ring left k) ≡ req_event w.page
      req-kept = elim (ℕ_discrete k p.0) [ yes e ↦ req-own e | no e ↦ ap req_event (left_other e) ]

      -- what the backend waits for is as it was
      backend-armed : z.backend ≡ true → z.backend_told ≡ false → is_open new.state ≡ true
          → (req_event (pages_of guest_ring left k) ≡ (length new.taken + 1) % modulus) × (length new.taken ≡ length w.put)
      backend-armed x u o =
          let same = posts-steady k p.0 left cs zs b in
          let c = a.backend x u (rw same.state at o) in
          rw same.taken (req-kept ∙ c.0, c.1)

      still-other : k ≢ p.0 → Still left new
      still-other ne = (left_other ne, ap (λ (c : Book). length c.answered) (posts-others k p.0 left ne cs zs b))

    -- as many statuses as entries
    statuses-many : (left : List ℕ) (p : PortId) (cs : List Completion) (zs : List Status) → Finished v rings left p.0 cs zs → length zs ≡ length cs
    unfolding responses_for
    statuses-many left p cs zs f =
        let xs = responses_for (v.tag p.0) cs in
        rw f.statuses (length-map xs (λ (x : ResponseDue). x.status) ∙ length-map cs (response_for (v.tag p.0)))

    -- an empty list changes nothing
    still-none : (left : List ℕ) (p : PortId) (cs : List Completion) (zs : List Status) → Finished v rings left p.0 cs zs → length cs ≡ 0
        → Still left (posts k (finishings left p.0 cs zs) b)
    unfolding responses_for
    still-none left p [] zs f e = (same-rings left (f.written ∙ none-responded v rings p.0), refl)
    still-none left p (c ∷ cs) zs f e = absurd (omega arith)

    complete-armed : (left : List ℕ) (p : PortId) (cs : List Completion) (x : CompleteAnswer) → CompleteFacts v rings left p cs x → CompleteLeft rings left x
        → CompleteTold v rings p x
        → Armed (pages_of guest_ring left k) (length w.put) (length w.collected) (posts k (complete_deeds left p.0 cs x) b) (after_completion k z x)
    complete-armed left p cs (none_done n) f e y = armed-same (pages_of guest_ring left k) (same-rings left e)
    complete-armed left p cs (all_done q zs y) f e o =
        let many = statuses-many left p cs zs f in
        record {
          guest =
              rw o.0
              (guest-armed left p.0 (length zs) (new left p cs zs f) y o.1 (omega (arith, f.few)) (opened left p cs zs f) (still-other left p cs zs f)
              (λ n. still-none left p cs zs f (sym many ∙ n)));
          backend = backend-armed left p cs zs f;
        }

  open-armed : (p : PortId) (sheet : List ℕ) (e : Reply) → k ≢ p.0
      → Armed w.page (length w.put) (length w.collected) (posts k (open_deeds p.0 sheet e) b) z
  open-armed p sheet (Err why) ne = a
  open-armed p sheet (Ok done) ne = rw (ne_eqb k p.0 ne) a

  close-armed : (p : PortId) (e : Reply) → Armed w.page (length w.put) (length w.collected) (posts k (close_deeds p.0 e) b) z
  close-armed p (Err why) = a
  close-armed p (Ok done) =
      by_cond (λ (c : Book). Armed w.page (length w.put) (length w.collected) c z) (eqb k p.0) (entry (closing p.0) b) b
      (λ _. record { guest = a.guest; backend = λ x y o. clash o refl }) (λ _. a)

  -- ---- a step

  armed_step : (s : Step) → Lends k s → ArmedIn k (step k w s) (waits_after k w s z)
  unfolding step book
  armed_step (putting r) y = put-armed r
  armed_step collecting y = collect-armed
  armed_step (turning others grants words) y =
      let x = event_on w.backend (turn_on k w.page others grants words) in
      let u = view_at w.events in
      let t = told-step w.backend w.events (turn_on k w.page others grants words) (lent-bytes k small w h others y.0 y.1) h.told in
      turn-armed others y.0 y.1 x.effect.rings x.effect.answer (facts-due u x t.as_due.0) (left-due u x t.as_due.0) (tells-due u x t.as_due.0)
  armed_step (completing others p entries) y =
      let x = event_on w.backend (complete_on k w.page others p entries) in
      let u = view_at w.events in
      let n = told-step w.backend w.events (complete_on k w.page others p entries) (lent-bytes k small w h others y.0 y.1) h.told in
      complete-armed others y.0 y.1 x.effect.rings p (completions_in entries) x.effect.answer (facts-due u x n.as_due.0) (left-due u x n.as_due.0) (tells-due u x n.as_due.0)
  armed_step (opening_other p sheet) y = open-armed p sheet (event_on w.backend (Open p sheet)).effect y
  armed_step (closing_any p) y = close-armed p (event_on w.backend (Close p)).effect

  rests : Rests k w z
  rests = record {
    guest = λ x y. (a.guest x y).1;
    backend = λ x y o. (a.backend x y (rw (h.told.tied.ports k).state at o)).1;
  }

-- ---- every list of steps

rests-after : (k : ℕ) → k < ports → (w : System) → Kept k w → (z : Waits) → ArmedIn k w z → (steps : List Step) → All (Lends k) steps → RestsAfter k w z steps
rests-after k l w h z a [] y = rests k l w h z a
rests-after k l w h z a (s ∷ steps) y =
    rests-after k l (step k w s) (kept_step k l w h s y.0) (waits_after k w s z) (armed_step k l w h z a s y.0) steps y.1

pub wakeups : WakeupTheorem
wakeups k sheet g before bytes others steps y =
    rests-after k g.small (at_opening k before sheet) (kept-first k sheet g _ _ (before-all k before bytes others)) nobody_waits
    (record { guest = λ x _. clash x refl; backend = λ x _ _. clash x refl }) steps y
