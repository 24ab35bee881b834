-- What a turn and a completion leave of the rings, by their answers, and what an idle turn and another port's responses leave of one port's page. Assumes
-- nothing.
use mathlib.Core.Path.{◌≡◌, refl, sym, ◌∙◌, subst}
use mathlib.Core.Logic.{◌≢◌}
use mathlib.Core.Bool.{not, ◌&&◌, ◌||◌}
use mathlib.Core.List.{List, [], ◌∷◌}
use Prim.Native.Nat.{ℕ, zero, suc, ◌≤◌, ◌<◌}
use native.Mathlib.Decide.{ℕ_discrete}
use native.Mathlib.Omega.{arith}
use lib.Dec.{ltb}
use lib.ListN.{length}
use Rattle.std.specs.Prelude.{Result, Ok, Err}
use Rattle.model.specs.declared.Fault.{Fault}
use Rattle.model.specs.declared.Refusal.{Refusal}
use Rattle.model.specs.Buffers.{ports, rings_length, are_rings, are_grants, pages_of, set_pages}
use Rattle.model.specs.Calls.{Call, Open, Close, Turn, Complete, TurnEffect, CompleteAnswer, none_done, all_done, CompleteEffect, Effect, Event, most_completions}
use Rattle.model.specs.Complete.{completions_in, are_entries, completed}
use Rattle.model.specs.History.{standing, book, view_at}
use Rattle.model.specs.Port.{View, is_closed, after}
use Rattle.model.specs.Ring.{set_req_event, ring_of}
use Rattle.model.specs.Rules.{no_port, due_turn, any_names_none, named_twice, refused_completion, due_complete, effect_due, due}
use Rattle.model.specs.Turn.{ring_at, pending_at, passed_over, armed_port, armed, idle, ResponseDue, due_to, responded_all_at, responded_at, request_at, settled, overran, served_by, turned}
use Rattle.model.specs.declared.Params.{Params}
use Rattle.model.specs.declared.Pending.{Pending}
use Rattle.model.specs.declared.PortId.{PortId}
use Rattle.model.specs.declared.State.{State}
use Rattle.model.specs.declared.Turned.{Turned}
use Rattle.model.specs.Plan.{Verdict}
use Rattle.model.proofs.Base.{by_cond}
use Rattle.model.proofs.DueFacts.{AnsweredNow}
use Rattle.model.proofs.Page.{length-pages_of, pages_of-set_pages, length-set_pages, pages_of-other, req-event-at}
use Rattle.model.proofs.Responses.{length-all}
use Rattle.model.proofs.Ring.{fits, header-room}
use Rattle.guest.specs.Guest.{guest_ring}
use Rattle.halves.proofs.Page.{guest-fits, Quiet, quiet-refl, quiet-trans, quiet-req_event}

-- ---- the rings

-- where no response is given
abbrev pub TurnLeft : View → List ℕ → List ℕ → Result Turned Refusal → Type 0
TurnLeft v rings left (Err why) = left ≡ rings
TurnLeft v rings left (Ok Turned.Idle) = left ≡ armed v rings ports
TurnLeft v rings left (Ok (Turned.Overrun p)) = (left ≡ rings) × (pending_at v rings p.0 ≡ Pending.Overrun)
TurnLeft v rings left (Ok (Turned.Started p t s plan)) = left ≡ rings
TurnLeft v rings left (Ok (Turned.Answered p fault y)) = Unit

abbrev pub CompleteLeft : List ℕ → List ℕ → CompleteAnswer → Type 0
CompleteLeft rings left (none_done n) = left ≡ rings
CompleteLeft rings left (all_done p zs y) = Unit

abbrev TL : View → List ℕ → TurnEffect → Type 0
TL v rings e = TurnLeft v rings e.rings e.answer

settled-left : (v : View) (rings : List ℕ) (k : ℕ) (x : Verdict) → TL v rings (settled v rings k (request_at v rings k) x)
unfolding settled
settled-left v rings k (Err a) = tt
settled-left v rings k (Ok plan) = refl

served-left : (v : View) (rings grants : List ℕ) (k : ℕ) (d : Pending) → pending_at v rings k ≡ d → TL v rings (served_by v rings grants k d)
unfolding served_by overran idle
served-left v rings grants k Pending.Nothing e = refl
served-left v rings grants k Pending.Waits e = settled-left v rings k _
served-left v rings grants k Pending.Overrun e = (refl, e)

turn-left : (v : View) (rings grants words : List ℕ) → TL v rings (due_turn v rings grants words)
unfolding due_turn turned idle
turn-left v rings grants words =
    by_cond (TL v rings) (not (are_rings rings && are_grants grants)) _ _ (λ _. refl) (λ _.
    by_cond (TL v rings) (ltb (passed_over v rings) ports) _ _ (λ _. served-left v rings grants _ _ refl) (λ _. refl))

abbrev CL : List ℕ → CompleteEffect → Type 0
CL rings e = CompleteLeft rings e.rings e.answer

complete-left : (v : View) (rings : List ℕ) (p : PortId) (entries : List ℕ) → CL rings (due_complete v rings p entries)
unfolding due_complete refused_completion completed
complete-left v rings p entries =
    let cs = completions_in entries in
    by_cond (CL rings) (not (are_rings rings && are_entries entries)) _ _ (λ _. refl) (λ _.
    by_cond (CL rings) (no_port p) _ _ (λ _. refl) (λ _.
    by_cond (CL rings) (is_closed (v.state p.0)) _ _ (λ _. refl) (λ _.
    by_cond (CL rings) (ltb most_completions (length cs)) _ _ (λ _. refl) (λ _.
    by_cond (CL rings) (any_names_none (ring_at v p.0) (v.tag p.0) cs || named_twice cs) _ _ (λ _. refl) (λ _. tt)))))

abbrev pub Left : View → (c : Call) → Effect c → Type 0
Left v (Open p sheet) e = Unit
Left v (Close p) e = Unit
Left v (Turn rings grants words) e = TurnLeft v rings e.rings e.answer
Left v (Complete rings p entries) e = CompleteLeft rings e.rings e.answer

left-facts : (v : View) (c : Call) → Left v c (effect_due v c)
unfolding effect_due
left-facts v (Open p sheet) = tt
left-facts v (Close p) = tt
left-facts v (Turn rings grants words) = turn-left v rings grants words
left-facts v (Complete rings p entries) = complete-left v rings p entries

-- of an event that is as due
pub left-due : (v : View) (e : Event) → e ≡ due v e.call → Left v e.call e.effect
left-due v e q = subst (λ (x : Event). Left v x.call x.effect) (sym q) (left-facts v e.call)

-- the one response of an answer at once, as its facts have it
pub answered-left : (v : View) (rings left : List ℕ) (k : ℕ) (fault : Fault) → AnsweredNow v rings left k fault
    → left ≡ responded_all_at v rings k (due_to (request_at v rings k).pair fault.status ∷ [])
unfolding settled responded_at
answered-left v rings left k fault f = f.written

-- ---- one port's page

-- a port is armed alike, whatever its ring: its header stands where every header does
pub armed-alike : (p : Params) (left : List ℕ) (j c : ℕ) → length left ≡ rings_length → j < ports
    → armed_port guest_ring State.Open left j c ≡ armed_port (ring_of p) State.Open left j c
armed-alike p left j c long there =
    let f = fits p in
    sym (req-event-at guest_ring (header-room guest_ring guest-fits) guest-fits.within left j long there (after c))
    ∙ req-event-at (ring_of p) (header-room (ring_of p) f) f.within left j long there (after c)

-- another port's responses leave it
pub responded-other : (h : List Event) (rings : List ℕ) (k j : ℕ) → k < ports → length rings ≡ rings_length → (xs : List ResponseDue) → j < ports → k ≢ j
    → pages_of guest_ring (responded_all_at (view_at h) rings j xs) k ≡ pages_of guest_ring rings k
unfolding responded_all_at view_at
responded-other h rings k j small sized xs there ne =
    let g = ring_at (view_at h) j in
    let f = fits ((view_at h).params j) in
    let long = length-all g f xs (length (standing (book j h)).answered) (pages_of g rings j) (length-pages_of g f rings j sized there) in
    pages_of-other g f rings j sized there _ long guest_ring guest-fits k small ne

module _ (v : View) (rings : List ℕ) (k : ℕ) (small : k < ports) (sized : length rings ≡ rings_length) where
  -- rings in which the port's page has other events
  pub record Armed (left : List ℕ) : Type 0 where
    pub long : length left ≡ rings_length
    quiet : Quiet (pages_of guest_ring rings k) (pages_of guest_ring left k)

  armed-port : (left : List ℕ) (j c : ℕ) → j < ports → Armed left → (s : State) → Armed (armed_port (ring_at v j) s left j c)
  armed-port left j c there a State.Closed = a
  armed-port left j c there a State.Broken = a
  armed-port left j c there a State.Open =
      let new = set_req_event (pages_of guest_ring left j) (after c) in
      let q : Quiet (pages_of guest_ring left j) new = quiet-req_event (pages_of guest_ring left j) (after c) in
      let size : length new ≡ guest_ring.bytes = q.long ∙ length-pages_of guest_ring guest-fits left j a.long there in
      subst Armed (armed-alike (v.params j) left j c a.long there)
      (record {
        long = length-set_pages guest_ring guest-fits left j a.long there new size ∙ a.long;
        quiet =
            elim (ℕ_discrete k j) [
              | yes e ↦
                  quiet-trans a.quiet (subst (λ (i : ℕ). Quiet (pages_of guest_ring left i) (pages_of guest_ring (set_pages guest_ring left j new) i)) (sym e)
                  (rw (pages_of-set_pages guest_ring guest-fits left j a.long there new size) q))
              | no e ↦ rw (pages_of-other guest_ring guest-fits left j a.long there new size guest_ring guest-fits k small e) a.quiet
            ];
      })

  pub armed-all : (n : ℕ) → n ≤ ports → Armed (armed v rings n)
  unfolding armed
  armed-all zero l = record { long = sized; quiet = quiet-refl (pages_of guest_ring rings k) }
  armed-all (suc n) l = armed-port (armed v rings n) n (v.consumed n) (omega arith) (armed-all n (omega arith)) (v.state n)

  -- an idle turn writes its req_event alone
  pub idle-quiet : Quiet (pages_of guest_ring rings k) (pages_of guest_ring (armed v rings ports) k)
  idle-quiet = (armed-all ports (omega arith)).quiet
