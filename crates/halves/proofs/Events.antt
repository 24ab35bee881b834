-- The two events of a page: which steps leave them and which set them; that an idle turn sets req_event where the port is open, and has looked at every port;
-- and when an answer tells its guest. Assumes nothing.
use mathlib.Core.Path.{◌≡◌, refl, sym, ap, ◌∙◌, subst}
use mathlib.Core.Logic.{◌≢◌}
use mathlib.Core.Bool.{true, false, not, ◌&&◌, ◌||◌}
use mathlib.Core.List.{List}
use Prim.Native.Nat.{ℕ, zero, suc, ◌+◌, ◌-◌, ◌%◌, ◌≤◌, ◌<◌}
use native.Mathlib.Decide.{ℕ_discrete}
use native.Mathlib.Nat.{mod-lt}
use native.Mathlib.Omega.{arith}
use lib.Dec.{ltb}
use lib.ListN.{length, length-map}
use Rattle.std.specs.Prelude.{Result, Ok, Err}
use Rattle.wire.proofs.LittleEndian.{load-agree, load-store-below, load-store-above, load-store-lt}
use Rattle.model.specs.declared.Refusal.{Refusal}
use Rattle.model.specs.Base.{modulus}
use Rattle.model.specs.Buffers.{ports, rings_length, are_rings, are_grants, pages_of}
use Rattle.model.specs.Calls.{Call, Open, Close, Turn, Complete, TurnEffect, CompleteAnswer, none_done, all_done, CompleteEffect, Effect, Event, most_completions}
use Rattle.model.specs.Complete.{completions_in, are_entries, responses_for, completed}
use Rattle.model.specs.Port.{View, is_closed, is_open, after}
use Rattle.model.specs.Ring.{Request, slot_bytes, req_event, set_req_event, rsp_event, set_rsp_event}
use Rattle.model.specs.Rules.{no_port, due_turn, any_names_none, named_twice, refused_completion, due_complete, effect_due, due}
use Rattle.model.specs.Turn.{ring_at, has_work, looked_at, passed_over, armed_port, armed, idle, ResponseDue, responded_all, notifies_all, notifies, settled, overran, served_by, turned}
use Rattle.model.specs.declared.Pending.{Pending}
use Rattle.model.specs.declared.PortId.{PortId}
use Rattle.model.specs.declared.State.{State}
use Rattle.model.specs.declared.Turned.{Turned}
use Rattle.model.specs.Plan.{Verdict}
use Rattle.model.proofs.Base.{by_cond, clash}
use Rattle.model.proofs.Page.{length-pages_of, pages_of-set_pages, pages_of-other}
use Rattle.model.proofs.Responses.{get_d-all}
use Rattle.model.proofs.Ring.{fits}
use Rattle.guest.specs.Guest.{guest_page, guest_ring, put_page}
use Rattle.guest.proofs.Pages.{slot-header}
use Rattle.halves.proofs.Page.{guest-fits, guest-bytes, put-outside, quiet-req_event}
use Rattle.halves.proofs.Left.{armed-alike, armed-all}

-- ---- the two events in a page

module _ (page : List ℕ) (sized : length page ≡ guest_page) where
  -- each is what was set, and setting one leaves the other
  req-set : (i : ℕ) → req_event (set_req_event page (after i)) ≡ after i
  unfolding req_event set_req_event
  req-set i = load-store-lt 4 page 4 (after i) (omega arith) (mod-lt (i + 1) (omega arith))

  pub rsp_set : (i : ℕ) → rsp_event (set_rsp_event page (after i)) ≡ after i
  unfolding rsp_event set_rsp_event
  rsp_set i = load-store-lt 4 page 12 (after i) (omega arith) (mod-lt (i + 1) (omega arith))

  rsp-left : (n : ℕ) → rsp_event (set_req_event page n) ≡ rsp_event page
  unfolding rsp_event set_req_event
  rsp-left n = load-store-above 4 4 page 4 n 12 (omega arith)

  pub req-left : (n : ℕ) → req_event (set_rsp_event page n) ≡ req_event page
  unfolding req_event set_rsp_event
  req-left n = load-store-below 4 4 page 12 n 4 (omega arith)

  -- a put leaves rsp_event
  pub rsp-put : (i : ℕ) (slot : List ℕ) → length slot ≡ slot_bytes → rsp_event (put_page page i slot) ≡ rsp_event page
  unfolding rsp_event
  rsp-put i slot long =
      load-agree 4 (put_page page i slot) page 12 (λ q l. put-outside page sized i slot long (12 + q) (omega arith) (λ u v. omega (arith, slot-header i)))

  -- responses leave req_event
  pub req-responded : (n : ℕ) (xs : List ResponseDue) → req_event (responded_all guest_ring page (n % modulus) xs) ≡ req_event page
  unfolding req_event
  req-responded n xs =
      load-agree 4 (responded_all guest_ring page (n % modulus) xs) page 4
      (λ m l. get_d-all guest_ring guest-fits (4 + m) (λ u v. omega arith) xs n page (guest-bytes page sized) (λ i r u v. omega (arith, slot-header (n + i))))

-- ---- an idle turn

-- a port's page, armed where the port is open
abbrev pub armed_page : State → List ℕ → ℕ → List ℕ
armed_page State.Closed page c = page
armed_page State.Open page c = set_req_event page (after c)
armed_page State.Broken page c = page

module _ (page : List ℕ) (sized : length page ≡ guest_page) (c : ℕ) where
  pub rsp-armed : (s : State) → rsp_event (armed_page s page c) ≡ rsp_event page
  rsp-armed State.Closed = refl
  rsp-armed State.Open = rsp-left page sized (after c)
  rsp-armed State.Broken = refl

  pub req-armed : (s : State) → is_open s ≡ true → req_event (armed_page s page c) ≡ after c
  req-armed State.Closed e = clash e refl
  req-armed State.Open e = req-set page sized c
  req-armed State.Broken e = clash e refl

module _ (v : View) (rings : List ℕ) (k : ℕ) (small : k < ports) (sized : length rings ≡ rings_length) where
  -- another port's arming leaves the page
  arm-other : (left : List ℕ) (j c : ℕ) → j < ports → length left ≡ rings_length → k ≢ j → (s : State)
      → pages_of guest_ring (armed_port (ring_at v j) s left j c) k ≡ pages_of guest_ring left k
  arm-other left j c there long ne State.Closed = refl
  arm-other left j c there long ne State.Open =
      let g = ring_at v j in
      let f = fits (v.params j) in
      pages_of-other g f left j long there _ ((quiet-req_event (pages_of g left j) (after c)).long ∙ length-pages_of g f left j long there) guest_ring guest-fits k small ne
  arm-other left j c there long ne State.Broken = refl

  arm-own : (left : List ℕ) (c : ℕ) → length left ≡ rings_length → (s : State)
      → pages_of guest_ring (armed_port (ring_at v k) s left k c) k ≡ armed_page s (pages_of guest_ring left k) c
  arm-own left c long State.Closed = refl
  arm-own left c long State.Open =
      ap (λ (x : List ℕ). pages_of guest_ring x k) (sym (armed-alike (v.params k) left k c long small))
      ∙ pages_of-set_pages guest_ring guest-fits left k long small _ ((quiet-req_event (pages_of guest_ring left k) (after c)).long ∙ length-pages_of guest_ring guest-fits left k long small)
  arm-own left c long State.Broken = refl

  -- before its turn to be armed, and after
  arm-before : (n : ℕ) → n ≤ k → pages_of guest_ring (armed v rings n) k ≡ pages_of guest_ring rings k
  unfolding armed
  arm-before zero l = refl
  arm-before (suc n) l =
      arm-other (armed v rings n) n (v.consumed n) (omega arith) (armed-all v rings k small sized n (omega arith)).long (λ e. omega arith) (v.state n)
      ∙ arm-before n (omega arith)

  arm-after : (n : ℕ) → n ≤ ports → k < n → pages_of guest_ring (armed v rings n) k ≡ armed_page (v.state k) (pages_of guest_ring rings k) (v.consumed k)
  unfolding armed
  arm-after zero l r = absurd (omega arith)
  arm-after (suc n) l r =
      let long = (armed-all v rings k small sized n (omega arith)).long in
      elim (ℕ_discrete k n) [
        | yes e ↦
            subst (λ (j : ℕ). pages_of guest_ring (armed_port (ring_at v j) (v.state j) (armed v rings j) j (v.consumed j)) k ≡ armed_page (v.state k) (pages_of guest_ring rings k) (v.consumed k)) e
            (arm-own (armed v rings k) (v.consumed k) (armed-all v rings k small sized k (omega arith)).long (v.state k)
            ∙ ap (λ (x : List ℕ). armed_page (v.state k) x (v.consumed k)) (arm-before k (omega arith)))
        | no e ↦ arm-other (armed v rings n) n (v.consumed n) (omega arith) long e (v.state n) ∙ arm-after n (omega arith) (omega arith)
      ]

  -- the page that an idle turn leaves
  pub idle-page : pages_of guest_ring (armed v rings ports) k ≡ armed_page (v.state k) (pages_of guest_ring rings k) (v.consumed k)
  idle-page = arm-after ports (omega arith) small

-- an idle turn looked at every port
pub idle-all : (v : View) (rings : List ℕ) (k : ℕ) → k < ports → ((i : ℕ) → i < ports → has_work v rings (looked_at v i) ≡ false) → has_work v rings k ≡ false
idle-all v rings k l f =
    let i = (k + (ports - v.pointer % ports)) % ports in
    let e : looked_at v i ≡ k = omega arith in
    subst (λ (j : ℕ). has_work v rings j ≡ false) e (f i (omega arith))

-- ---- what an answer tells the guest

-- of an answer at once and of a completion: whether its port's guest is to be notified
abbrev pub TurnTold : View → List ℕ → Result Turned Refusal → Type 0
TurnTold v rings (Err why) = Unit
TurnTold v rings (Ok Turned.Idle) = Unit
TurnTold v rings (Ok (Turned.Overrun p)) = Unit
TurnTold v rings (Ok (Turned.Started p t s plan)) = Unit
TurnTold v rings (Ok (Turned.Answered p fault y)) = y ≡ notifies_all v rings p.0 1

abbrev pub CompleteTold : View → List ℕ → PortId → CompleteAnswer → Type 0
CompleteTold v rings p (none_done n) = Unit
CompleteTold v rings p (all_done q zs y) = (q.0 ≡ p.0) × (y ≡ notifies_all v rings p.0 (length zs))

abbrev TT : View → List ℕ → TurnEffect → Type 0
TT v rings e = TurnTold v rings e.answer

settled-told : (v : View) (rings : List ℕ) (k : ℕ) (r : Request) (x : Verdict) → TT v rings (settled v rings k r x)
unfolding settled notifies
settled-told v rings k r (Err a) = refl
settled-told v rings k r (Ok plan) = tt

served-told : (v : View) (rings grants : List ℕ) (k : ℕ) (d : Pending) → TT v rings (served_by v rings grants k d)
unfolding served_by overran idle
served-told v rings grants k Pending.Nothing = tt
served-told v rings grants k Pending.Waits = settled-told v rings k _ _
served-told v rings grants k Pending.Overrun = tt

turn-told : (v : View) (rings grants words : List ℕ) → TT v rings (due_turn v rings grants words)
unfolding due_turn turned idle
turn-told v rings grants words =
    by_cond (TT v rings) (not (are_rings rings && are_grants grants)) _ _ (λ _. tt) (λ _.
    by_cond (TT v rings) (ltb (passed_over v rings) ports) _ _ (λ _. served-told v rings grants _ _) (λ _. tt))

abbrev CT : View → List ℕ → PortId → CompleteEffect → Type 0
CT v rings p e = CompleteTold v rings p e.answer

complete-told : (v : View) (rings : List ℕ) (p : PortId) (entries : List ℕ) → CT v rings p (due_complete v rings p entries)
unfolding due_complete refused_completion completed
complete-told v rings p entries =
    let cs = completions_in entries in
    let xs = responses_for (v.tag p.0) cs in
    by_cond (CT v rings p) (not (are_rings rings && are_entries entries)) _ _ (λ _. tt) (λ _.
    by_cond (CT v rings p) (no_port p) _ _ (λ _. tt) (λ _.
    by_cond (CT v rings p) (is_closed (v.state p.0)) _ _ (λ _. tt) (λ _.
    by_cond (CT v rings p) (ltb most_completions (length cs)) _ _ (λ _. tt) (λ _.
    by_cond (CT v rings p) (any_names_none (ring_at v p.0) (v.tag p.0) cs || named_twice cs) _ _ (λ _. tt) (λ _.
    (refl, ap (notifies_all v rings p.0) (sym (length-map xs (λ (x : ResponseDue). x.status)))))))))

abbrev pub Tells : View → (c : Call) → Effect c → Type 0
Tells v (Open p sheet) e = Unit
Tells v (Close p) e = Unit
Tells v (Turn rings grants words) e = TurnTold v rings e.answer
Tells v (Complete rings p entries) e = CompleteTold v rings p e.answer

tells : (v : View) (c : Call) → Tells v c (effect_due v c)
unfolding effect_due
tells v (Open p sheet) = tt
tells v (Close p) = tt
tells v (Turn rings grants words) = turn-told v rings grants words
tells v (Complete rings p entries) = complete-told v rings p entries

-- of an event that is as due
pub tells-due : (v : View) (e : Event) → e ≡ due v e.call → Tells v e.call e.effect
tells-due v e q = subst (λ (x : Event). Tells v x.call x.effect) (sym q) (tells v e.call)
