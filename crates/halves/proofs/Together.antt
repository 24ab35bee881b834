-- The theorem of both halves: what every step of either half keeps, and what follows from it. Assumes nothing but what the theorem states.
use mathlib.Core.Path.{◌≡◌, refl, sym, ap, ◌∙◌, subst}
use mathlib.Core.Logic.{◌≢◌}
use mathlib.Core.Bool.{false, not, true}
use mathlib.Core.List.{List, [], ◌∷◌, ◌++◌, map, append-nil}
use Prim.Native.Nat.{ℕ, ◌<◌}
use native.Mathlib.Omega.{arith}
use lib.Dec.{eqb, ltb, leb}
use lib.ListN.{length, get_or, take, length-map}
use lib.Seq.{length-take-le}
use borrow.Author.Tests.{ltb-true, leb-false, eqb-false, eq-eqb, lt-leb, not-true}
use Rattle.std.specs.Prelude.{Result, Ok}
use Rattle.model.specs.declared.Refusal.{Refusal}
use Rattle.model.specs.Backend.{view_of, event_on, Backend}
use Rattle.model.specs.Buffers.{ports, rings_length, pages_of, set_pages}
use Rattle.model.specs.Calls.{Open, Close, Event}
use Rattle.model.specs.Complete.{completions_in}
use Rattle.model.specs.Deeds.{params_in}
use Rattle.model.specs.Demand.{All, Reordered, IsBytes}
use Rattle.model.specs.History.{Book, book, view_at}
use Rattle.model.specs.NodeSheet.{sheet_of}
use Rattle.model.specs.Port.{is_closed}
use Rattle.model.specs.Ring.{Request, ring_of}
use Rattle.model.specs.Rules.{opened_by, due_open, effect_due}
use Rattle.model.specs.Turn.{port_id, request_at}
use Rattle.model.specs.declared.PortId.{PortId}
use Rattle.model.specs.NodeSheet.{Sheet}
use Rattle.model.specs.declared.Turned.{Turned}
use Rattle.model.proofs.Base.{by_cond, clash}
use Rattle.model.proofs.Conservation.{Sound}
use Rattle.model.proofs.DueFacts.{TurnFacts, facts-due}
use Rattle.model.proofs.Order.{count-append, is_pair, reordered}
use Rattle.model.proofs.Page.{length-set_pages, pages_of-set_pages, bytes-set_pages}
use Rattle.model.proofs.Demand3.{demanded}
use Rattle.model.proofs.Permitted.{sound, view-ring, view-consumed}
use Rattle.model.proofs.Refinement.{Told, told-step}
use Rattle.model.proofs.Ring.{slot_of-modulus}
use Rattle.asking.specs.Request.{is_bad}
use Rattle.asking.specs.Slot.{slot_for}
use Rattle.guest.specs.Guest.{guest_page, guest_ring, is_page, most_outstanding, has, same_id, same_pair, PutEffect, put_due, puts, ahead, next_pair, CollectEffect, collect_due, collects, waits}
use Rattle.halves.specs.Claim.{read_slot, NotOverrun, Holds, Fit, Lends, ForGuest, HalvesTheorem}
use Rattle.halves.specs.System.{Gathered, System, Step, putting, collecting, turning, completing, opening_other, closing_any, log_put, log_collected, log_refused, turn_on, complete_on, slots_taken, step, run, opened, at_opening}
use Rattle.halves.proofs.Page.{guest-bytes, guest-reads, guest-fits, quiet-rsp_event}
use Rattle.halves.proofs.Slot.{as-put}
use Rattle.halves.proofs.Lists.{count_map}
use Rattle.halves.proofs.Before.{Before, before-all}
use Rattle.halves.proofs.Half.{Half, half-first, put_count, half-quiet, answered-le, half-put, ahead-is, collect-has, half-collect}
use Rattle.halves.proofs.Left.{TurnLeft, left-due}
use Rattle.halves.proofs.Steps.{never-overruns, after_open, after-close, after_turn, after-complete}

-- What is kept: the backend and its history are as demand 3 has them; no turn found an overrun and no collecting was refused; and the two halves are together.
pub record Kept (k : ℕ) (w : System) : Type 0 where
  pub told : Told w.backend w.events
  pub clean : All (λ (e : Event). NotOverrun k e.call e.effect) w.events
  pub unrefused : w.refusals ≡ []
  pub half : Half w.guest w.page w.put w.collected (book k w.events) (slots_taken k w.events)

-- ---- the beginning

opens : (k : ℕ) (sheet : List ℕ) → ForGuest k sheet → (b : Backend) → is_closed (b.port k).state ≡ true → (event_on b (Open (port_id k) sheet)).effect ≡ Ok tt
unfolding effect_due due_open opened_by view_of
opens k sheet g b c = rw (lt-leb ports k g.small, c, g.says)

pub kept-first : (k : ℕ) (sheet : List ℕ) → ForGuest k sheet → (b : Backend) (h : List Event) → Before k b h → Kept k (opened k b h sheet)
unfolding book slots_taken
kept-first k sheet g b h w =
    let c : is_closed (b.port k).state ≡ true = rw (w.told.tied.ports k).state w.closed in
    record {
      told = told-step b h (Open (port_id k) sheet) tt w.told;
      clean = (tt, w.clean);
      unrefused = refl;
      half = rw (opens k sheet g b c, eq-eqb k k refl, w.none) (half-first (params_in (sheet_of sheet)) (ap (λ (x : Sheet). ring_of (params_in x)) g.says ∙ g.ring));
    }

module _ (k : ℕ) (small : k < ports) (w : System) (h : Kept k w) where
  abbrev b : Book
  b = book k w.events

  abbrev slots : List (List ℕ)
  slots = slots_taken k w.events

  pub sound-here : Sound b
  sound-here = sound k w.events h.told.as_due h.told.bytes

  -- ---- the guest's steps

  abbrev PutKept : Request → PutEffect → Type 0
  PutKept r e = Half e.guest e.page (w.put ++ log_put e.answer r) w.collected b slots

  not-put : Half w.guest w.page (w.put ++ []) w.collected b slots
  not-put = rw (append-nil w.put) h.half

  put-kept : (r : Request) → Fit r → PutKept r (put_due w.guest w.page r)
  unfolding put_due puts
  put-kept r fit =
      by_cond (PutKept r) (not (is_page w.page)) _ _ (λ _. not-put) (λ _.
      by_cond (PutKept r) (leb most_outstanding (length w.guest.outstanding)) _ _ (λ _. not-put) (λ few.
      by_cond (PutKept r) (has (same_id r.pair.id) w.guest.outstanding) _ _ (λ _. not-put) (λ new.
      by_cond (PutKept r) (is_bad r) _ _ (λ _. not-put) (λ e.
      half-put h.half sound-here r (leb-false most_outstanding (length w.guest.outstanding) few) new (as-put r fit e)))))

  -- a collecting that is not refused
  abbrev CollectKept : CollectEffect → Type 0
  CollectKept e = Half e.guest e.page w.put (w.collected ++ log_collected e.answer) b slots × (log_refused e.answer ≡ [])

  some-given : eqb (ahead w.guest w.page) 0 ≡ false → length w.collected < length b.answered
  some-given e =
      let n : ahead w.guest w.page ≢ 0 = eqb-false _ 0 e in
      omega (arith, ahead-is h.half sound-here, h.half.unread)

  collect-kept : CollectKept (collect_due w.guest w.page)
  unfolding collect_due collects waits
  collect-kept =
      let few = length w.guest.outstanding in
      let far = ahead w.guest w.page in
      by_cond CollectKept (not (is_page w.page)) _ _
      (λ e. clash (eq-eqb (length w.page) guest_page h.half.holds.sized) (not-true _ e)) (λ _.
      by_cond CollectKept (ltb few far) _ _
      (λ e. absurd (omega (arith, ltb-true few far e, ahead-is h.half sound-here, put_count h.half.mine, answered-le h.half sound-here, h.half.behind))) (λ _.
      by_cond CollectKept (eqb far 0) _ _
      (λ _. (rw (append-nil w.collected) (half-quiet h.half _ (quiet-rsp_event w.page _)), refl)) (λ n.
      by_cond CollectKept (not (has (same_pair (next_pair w.guest w.page)) w.guest.outstanding)) _ _
      (λ e. clash (collect-has h.half sound-here (some-given n)) (not-true _ e)) (λ _.
      (half-collect h.half sound-here (some-given n), refl)))))

  -- ---- the backend's

  module _ (others : List ℕ) (bytes : IsBytes others) (sized : length others ≡ rings_length) where
    abbrev lent : List ℕ
    lent = set_pages guest_ring others k w.page

    pub lent-bytes : IsBytes lent
    lent-bytes = bytes-set_pages guest_ring others k w.page bytes h.half.holds.bytes

    pub lent-sized : length lent ≡ rings_length
    lent-sized = length-set_pages guest_ring guest-fits others k sized small w.page (guest-bytes w.page h.half.holds.sized) ∙ sized

    pub lent-here : pages_of guest_ring lent k ≡ w.page
    lent-here = pages_of-set_pages guest_ring guest-fits others k sized small w.page (guest-bytes w.page h.half.holds.sized)

    turn-kept : (grants words : List ℕ) → Kept k (step k w (turning others grants words))
    unfolding step book slots_taken
    turn-kept grants words =
        let v = view_at w.events in
        let x = event_on w.backend (turn_on k w.page others grants words) in
        let left = x.effect.rings in
        let t = told-step w.backend w.events (turn_on k w.page others grants words) lent-bytes h.told in
        let f : TurnFacts v lent left x.effect.answer = facts-due v x t.as_due.0 in
        let l : TurnLeft v lent left x.effect.answer = left-due v x t.as_due.0 in
        let overruns : x.effect.answer ≢ Ok (Turned.Overrun (port_id k)) =
        λ e.
        never-overruns k small w.events h.half sound-here lent lent-here
        (subst (λ (y : Result Turned Refusal). TurnFacts v lent left y) e f) (subst (λ (y : Result Turned Refusal). TurnLeft v lent left y) e l).1 in
        record {
          told = t;
          clean = (overruns, h.clean);
          unrefused = h.unrefused;
          half = after_turn k small w.events h.half sound-here lent lent-sized lent-here left x.effect.answer f l;
        }

    complete-kept : (p : PortId) (entries : List ℕ) → Kept k (step k w (completing others p entries))
    unfolding step book slots_taken
    complete-kept p entries =
        let v = view_at w.events in
        let x = event_on w.backend (complete_on k w.page others p entries) in
        let n = told-step w.backend w.events (complete_on k w.page others p entries) lent-bytes h.told in
        record {
          told = n;
          clean = (tt, h.clean);
          unrefused = h.unrefused;
          half =
              after-complete k small w.events h.half sound-here lent lent-sized lent-here x.effect.rings p (completions_in entries) x.effect.answer
              (facts-due v x n.as_due.0) (left-due v x n.as_due.0);
        }

  pub kept_step : (s : Step) → Lends k s → Kept k (step k w s)
  unfolding step book slots_taken
  kept_step (putting r) y = record { told = h.told; clean = h.clean; unrefused = h.unrefused; half = put-kept r y }
  kept_step collecting y = record { told = h.told; clean = h.clean; unrefused = rw h.unrefused collect-kept.1; half = collect-kept.0 }
  kept_step (turning others grants words) y = turn-kept others y.0 y.1 grants words
  kept_step (completing others p entries) y = complete-kept others y.0 y.1 p entries
  kept_step (opening_other p sheet) y = record {
    told = told-step w.backend w.events (Open p sheet) tt h.told;
    clean = (tt, h.clean);
    unrefused = h.unrefused;
    half = after_open k small w.events h.half sound-here p sheet (event_on w.backend (Open p sheet)).effect y;
  }
  kept_step (closing_any p) y = record {
    told = told-step w.backend w.events (Close p) tt h.told;
    clean = (tt, h.clean);
    unrefused = h.unrefused;
    half = after-close k small w.events h.half sound-here p (event_on w.backend (Close p)).effect;
  }

  -- ---- what follows

  taken-long : length slots ≡ length b.taken
  taken-long =
      ap (λ (l : List (List ℕ)). length l) h.half.taken
      ∙ length-take-le (length b.taken) (map slot_for w.put) (omega (arith, h.half.behind, length-map w.put slot_for))

  next-is : (others : List ℕ) → IsBytes others → length others ≡ rings_length → is_closed b.state ≡ false
      → length b.taken < length w.put
      → request_at (view_at w.events) (set_pages guest_ring others k w.page) k ≡ read_slot (get_or (map slot_for w.put) (length b.taken) [])
  unfolding request_at
  next-is others bytes sized o l =
      rw (view-ring k w.events o, h.half.ring, view-consumed k w.events o, lent-here others bytes sized, slot_of-modulus guest_ring guest-fits w.page (length b.taken))
      (guest-reads _ ∙ ap read_slot (h.half.holds.waiting (length b.taken) (omega arith) l))

  all-kept : Reordered (map (λ (r : Request). r.pair) w.put) (w.guest.outstanding ++ map (λ (x : Gathered). x.pair) w.collected)
  all-kept =
      reordered _ _ (λ q.
      omega (
        arith,
        h.half.mine.outstanding (is_pair q),
        count_map (is_pair q) (λ (r : Request). r.pair) w.put,
        count_map (is_pair q) (λ (x : Gathered). x.pair) w.collected,
        count-append (is_pair q) w.guest.outstanding (map (λ (x : Gathered). x.pair) w.collected),
      ))

  pub holds : Holds k w
  holds = record {
    taken = h.half.taken ∙ ap (λ (n : ℕ). take n (map slot_for w.put)) (sym taken-long);
    as_put = h.half.mine.as_put;
    next = λ others bytes sized o l. rw taken-long (next-is others bytes sized o (omega (arith, taken-long)));
    no_overrun = h.clean;
    collected = h.half.collects;
    no_refusal = h.unrefused;
    kept = all-kept;
    apart = h.half.mine.apart;
    demand = demanded w.backend w.events h.told;
  }

-- ---- every list of steps

pub kept_run : (k : ℕ) → k < ports → (w : System) → Kept k w → (steps : List Step) → All (Lends k) steps → Kept k (run k w steps)
unfolding run
kept_run k l w h [] y = h
kept_run k l w h (s ∷ steps) y = kept_run k l (step k w s) (kept_step k l w h s y.0) steps y.1

pub together : HalvesTheorem
together k sheet g before bytes others steps y =
    let w = at_opening k before sheet in
    holds k g.small (run k w steps) (kept_run k g.small w (kept-first k sheet g _ _ (before-all k before bytes others)) steps y)
