-- What an event that the rules give says of the view: the tests of `due` taken apart once, for fairness, conservation and the tie alike. Assumes nothing.
use mathlib.Core.Path.{◌≡◌, refl, sym, ap, subst}
use mathlib.Core.Bool.{true, false, not, ◌&&◌, ◌||◌}
use mathlib.Core.List.{List, map}
use Rattle.std.specs.Prelude.{Result, Ok, Err}
use Prim.Native.Nat.{ℕ, ◌-◌, ◌<◌, ◌≤◌}
use native.Mathlib.Omega.{arith}
use lib.Dec.{eqb, ltb, leb}
use lib.ListN.{length}
use borrow.Author.Tests.{ltb-true, ltb-false, leb-true, leb-false, eqb-true, eqb-false, not-false}
use Rattle.model.specs.Buffers.{ports, rings_length, are_rings, are_grants}
use Rattle.model.specs.NodeSheet.{Sheet, sheet_of}
use Rattle.model.specs.Port.{is_closed, is_open, View, lowest_free, pending_of, is_work}
use Rattle.model.specs.Calls.{Reply, Call, Open, Close, Turn, Complete, TurnEffect, CompleteAnswer, none_done, all_done, CompleteEffect, Effect, Event, most_completions}
use Rattle.model.specs.Turn.{ring_at, pending_at, has_work, looked_at, passed_over, idle, responded_all_at, request_at, settled, overran, served_by, turned}
use Rattle.model.specs.Complete.{Completion, completions_in, are_entries, responses_for, completed}
use Rattle.model.specs.Rules.{no_port, opened_by, due_open, due_close, due_turn, any_names_none, named_twice, refused_completion, due_complete, effect_due, due}
use Rattle.model.specs.Deeds.{Round, no_turn, unserved, served, turn_round, round, round_of}
use Rattle.model.specs.Plan.{Verdict}
use Rattle.model.specs.declared.Fault.{Fault}
use Rattle.model.specs.declared.Pending.{Pending}
use Rattle.model.specs.declared.PortId.{PortId}
use Rattle.model.specs.declared.Refusal.{Refusal}
use Rattle.model.specs.declared.Status.{Status}
use Rattle.model.specs.declared.Turned.{Turned}
use Rattle.model.proofs.Base.{by_cond, clash, and_left, and_right, or_left, or_right, least-is, least-before}

-- ---- the facts

-- port k is the first with something to serve, among those looked at
pub record Chosen (v : View) (rings : List ℕ) (k : ℕ) : Type 0 where
  pub sized : length rings ≡ rings_length
  pub offset : ℕ
  pub near : offset < ports
  pub place : k ≡ looked_at v offset
  pub works : has_work v rings k ≡ true
  pub before : (i : ℕ) → i < offset → has_work v rings (looked_at v i) ≡ false

-- whom a turn serves is a port
pub chosen-lt : {v : View} {rings : List ℕ} {k : ℕ} → Chosen v rings k → k < ports
chosen-lt f = omega (arith, f.place)

-- a request of port k was started
pub record Started (v : View) (rings : List ℕ) (k t s : ℕ) : Type 0 where
  pub choice : Chosen v rings k
  pub waits : pending_at v rings k ≡ Pending.Waits
  pub lowest : t ≡ lowest_free (ring_at v k).size (v.tag k)
  pub serial : s ≡ v.consumed k

-- a request of port k was answered at once
pub record AnsweredNow (v : View) (rings left : List ℕ) (k : ℕ) (f : Fault) : Type 0 where
  pub choice : Chosen v rings k
  pub written : left ≡ (settled v rings k (request_at v rings k) (Err f)).rings

-- the requests of port k that these entries name were completed, with these statuses
pub record Finished (v : View) (rings left : List ℕ) (k : ℕ) (cs : List Completion) (zs : List Status) : Type 0 where
  pub sized : length rings ≡ rings_length
  pub small : k < ports
  pub opened : is_closed (v.state k) ≡ false
  pub few : length cs ≤ most_completions
  pub named : any_names_none (ring_at v k) (v.tag k) cs ≡ false
  pub apart : named_twice cs ≡ false
  pub written : left ≡ responded_all_at v rings k (responses_for (v.tag k) cs)
  pub statuses : zs ≡ map (λ x. x.status) (responses_for (v.tag k) cs)

abbrev pub OpenFacts : View → PortId → Reply → Type 0
OpenFacts v p (Err why) = Unit
OpenFacts v p (Ok done) = (p.0 < ports) × (is_closed (v.state p.0) ≡ true)

abbrev pub CloseFacts : View → PortId → Reply → Type 0
CloseFacts v p (Err why) = Unit
CloseFacts v p (Ok done) = (p.0 < ports) × (is_closed (v.state p.0) ≡ false) × (v.in_flight p.0 ≡ 0)

abbrev pub TurnFacts : View → List ℕ → List ℕ → Result Turned Refusal → Type 0
TurnFacts v rings left (Err why) = Unit
TurnFacts v rings left (Ok Turned.Idle) = (i : ℕ) → i < ports → has_work v rings (looked_at v i) ≡ false
TurnFacts v rings left (Ok (Turned.Overrun p)) = Chosen v rings p.0
TurnFacts v rings left (Ok (Turned.Started p t s plan)) = Started v rings p.0 t.0 s.0
TurnFacts v rings left (Ok (Turned.Answered p f y)) = AnsweredNow v rings left p.0 f

abbrev pub CompleteFacts : View → List ℕ → List ℕ → PortId → List Completion → CompleteAnswer → Type 0
CompleteFacts v rings left p cs (none_done e) = Unit
CompleteFacts v rings left p cs (all_done q zs y) = Finished v rings left p.0 cs zs

abbrev pub Facts : View → (c : Call) → Effect c → Type 0
Facts v (Open p sheet) e = OpenFacts v p e
Facts v (Close p) e = CloseFacts v p e
Facts v (Turn rings grants words) e = TurnFacts v rings e.rings e.answer
Facts v (Complete rings p entries) e = CompleteFacts v rings e.rings p (completions_in entries) e.answer

abbrev pub FactsOf : View → Event → Type 0
FactsOf v e = Facts v e.call e.effect

-- ---- what the tests say

-- a request waits only where a tag is free
pub waits-room : (size n d : ℕ) → pending_of size n d ≡ Pending.Waits → n < size
unfolding pending_of
waits-room size n d =
    by_cond (λ (p : Pending). p ≡ Pending.Waits → n < size) (eqb d 0) _ _ (λ _ h. clash (ap is_work h) refl) (λ z.
    by_cond
    (λ (p : Pending). p ≡ Pending.Waits → n < size)
    (leb d (size - n))
    _
    _
    (λ l h. omega (arith, leb-true d (size - n) l, eqb-false d 0 z))
    (λ l h. let bad : ◌≡◌ {A = ℕ} 0 1 = cc in absurd (omega arith)))

-- ---- open, close

opened-facts : (v : View) (p : PortId) (x : Sheet) → p.0 < ports → is_closed (v.state p.0) ≡ true → OpenFacts v p (opened_by x)
unfolding opened_by
opened-facts v p (Ok q) l e = (l, e)
opened-facts v p (Err why) l e = tt

open-facts : (v : View) (p : PortId) (sheet : List ℕ) → OpenFacts v p (due_open v p sheet)
unfolding due_open
open-facts v p sheet =
    by_cond (OpenFacts v p) (no_port p) _ _ (λ _. tt) (λ l.
    by_cond (OpenFacts v p) (not (is_closed (v.state p.0))) _ _ (λ _. tt) (λ e.
    opened-facts v p (sheet_of sheet) (leb-false _ _ l) (not-false _ e)))

close_facts : (v : View) (p : PortId) → CloseFacts v p (due_close v p)
unfolding due_close
close_facts v p =
    by_cond (CloseFacts v p) (no_port p) _ _ (λ _. tt) (λ l.
    by_cond (CloseFacts v p) (is_closed (v.state p.0)) _ _ (λ _. tt) (λ o.
    by_cond (CloseFacts v p) (not (eqb (v.in_flight p.0) 0)) _ _ (λ _. tt) (λ e.
    (leb-false _ _ l, o, eqb-true _ 0 (not-false _ e)))))

-- ---- turn

abbrev TF : View → List ℕ → TurnEffect → Type 0
TF v rings e = TurnFacts v rings e.rings e.answer

settled-facts : (v : View) (rings : List ℕ) (k : ℕ) → Chosen v rings k → pending_at v rings k ≡ Pending.Waits → (x : Verdict)
    → TF v rings (settled v rings k (request_at v rings k) x)
unfolding settled
settled-facts v rings k c w (Err f) = record { choice = c; written = refl }
settled-facts v rings k c w (Ok plan) = record { choice = c; waits = w; lowest = refl; serial = refl }

served-facts : (v : View) (rings grants : List ℕ) (k : ℕ) → Chosen v rings k → (d : Pending) → pending_at v rings k ≡ d → TF v rings (served_by v rings grants k d)
unfolding served_by overran has_work
served-facts v rings grants k c Pending.Nothing e = clash (and_right (is_open (v.state k)) _ c.works) (ap is_work e)
served-facts v rings grants k c Pending.Waits e = settled-facts v rings k c e _
served-facts v rings grants k c Pending.Overrun e = c

first-chosen : (v : View) (rings : List ℕ) → length rings ≡ rings_length → passed_over v rings < ports → Chosen v rings (looked_at v (passed_over v rings))
unfolding passed_over
first-chosen v rings z h = record {
  sized = z;
  offset = passed_over v rings;
  near = h;
  place = refl;
  works = least-is ports (λ i. has_work v rings (looked_at v i)) h;
  before = least-before ports (λ i. has_work v rings (looked_at v i));
}

idle-facts : (v : View) (rings : List ℕ) → ports ≤ passed_over v rings → TF v rings (idle v rings)
unfolding idle passed_over
idle-facts v rings h i l = least-before ports (λ i. has_work v rings (looked_at v i)) i (omega arith)

turn_facts : (v : View) (rings grants words : List ℕ) → TF v rings (due_turn v rings grants words)
unfolding due_turn turned
turn_facts v rings grants words =
    by_cond (TF v rings) (not (are_rings rings && are_grants grants)) _ _ (λ _. tt) (λ z.
    by_cond
    (TF v rings)
    (ltb (passed_over v rings) ports)
    _
    _
    (λ h. served-facts v rings grants _ (first-chosen v rings (eqb-true _ _ (and_left _ _ (not-false _ z))) (ltb-true _ _ h)) _ refl)
    (λ h. idle-facts v rings (ltb-false _ _ h)))

-- ---- complete

abbrev CF : View → List ℕ → PortId → List Completion → CompleteEffect → Type 0
CF v rings p cs e = CompleteFacts v rings e.rings p cs e.answer

complete-facts : (v : View) (rings : List ℕ) (p : PortId) (entries : List ℕ) → CF v rings p (completions_in entries) (due_complete v rings p entries)
unfolding due_complete refused_completion completed
complete-facts v rings p entries =
    let cs = completions_in entries in
    let k = p.0 in
    by_cond (CF v rings p cs) (not (are_rings rings && are_entries entries)) _ _ (λ _. tt) (λ z.
    by_cond (CF v rings p cs) (no_port p) _ _ (λ _. tt) (λ l.
    by_cond (CF v rings p cs) (is_closed (v.state k)) _ _ (λ _. tt) (λ o.
    by_cond (CF v rings p cs) (ltb most_completions (length cs)) _ _ (λ _. tt) (λ few.
    by_cond (CF v rings p cs) (any_names_none (ring_at v k) (v.tag k) cs || named_twice cs) _ _ (λ _. tt) (λ n. record {
      sized = eqb-true _ _ (and_left _ _ (not-false _ z));
      small = leb-false _ _ l;
      opened = o;
      few = ltb-false _ _ few;
      named = or_left _ _ n;
      apart = or_right (any_names_none (ring_at v k) (v.tag k) cs) _ n;
      written = refl;
      statuses = refl;
    })))))

pub facts : (v : View) (c : Call) → FactsOf v (due v c)
unfolding effect_due
facts v (Open p sheet) = open-facts v p sheet
facts v (Close p) = close_facts v p
facts v (Turn rings grants words) = turn_facts v rings grants words
facts v (Complete rings p entries) = complete-facts v rings p entries

-- of an event that is as due
pub facts-due : (v : View) (e : Event) → e ≡ due v e.call → FactsOf v e
facts-due v e q = subst (λ (x : Event). FactsOf v x) (sym q) (facts v e.call)

-- ---- the turns alone

abbrev pub RoundFacts : View → Round → Type 0
RoundFacts v no_turn = Unit
RoundFacts v (unserved rings) = (i : ℕ) → i < ports → has_work v rings (looked_at v i) ≡ false
RoundFacts v (served rings k) = Chosen v rings k

turn-round : (v : View) (rings left : List ℕ) (x : Result Turned Refusal) → TurnFacts v rings left x → RoundFacts v (turn_round rings x)
turn-round v rings left (Err why) f = tt
turn-round v rings left (Ok Turned.Idle) f = f
turn-round v rings left (Ok (Turned.Overrun p)) f = f
turn-round v rings left (Ok (Turned.Started p t s plan)) f = f.choice
turn-round v rings left (Ok (Turned.Answered p a y)) f = f.choice

round-of : (v : View) (c : Call) (e : Effect c) → Facts v c e → RoundFacts v (round c e)
round-of v (Open p sheet) e f = tt
round-of v (Close p) e f = tt
round-of v (Turn rings grants words) e f = turn-round v rings e.rings e.answer f
round-of v (Complete rings p entries) e f = tt

pub round-facts : (v : View) (e : Event) → FactsOf v e → RoundFacts v (round_of e)
round-facts v e f = round-of v e.call e.effect f
