-- Calls before the port's opening: it is closed, and nothing is taken from it. Assumes nothing.
use mathlib.Core.Path.{◌≡◌, refl, sym, subst}
use mathlib.Core.Logic.{◌≢◌}
use mathlib.Core.Bool.{true, false}
use mathlib.Core.List.{List, [], ◌∷◌}
use Prim.Native.Nat.{ℕ}
use native.Mathlib.Decide.{ℕ_discrete}
use borrow.Author.Tests.{eq-eqb, ne_eqb}
use Rattle.std.specs.Prelude.{Result, Ok, Err}
use Rattle.model.specs.declared.Refusal.{Refusal}
use Rattle.model.specs.Backend.{Backend, empty_backend, event_on, after_call}
use Rattle.model.specs.Calls.{Call, Open, Close, Turn, Complete, CompleteAnswer, none_done, all_done, Effect, Event}
use Rattle.model.specs.Complete.{Completion, completions_in, expected_of}
use Rattle.model.specs.Deeds.{Deed, opening, closing, breaking, starting, answering, port_of, params_in, turn_deeds, complete_deeds, deeds}
use Rattle.model.specs.Demand.{All, LendsBytes}
use Rattle.model.specs.History.{posts, book, view_at, history_from, history, backend_after}
use Rattle.model.specs.NodeSheet.{sheet_of}
use Rattle.model.specs.Port.{is_closed}
use Rattle.model.specs.declared.Turned.{Turned}
use Rattle.model.proofs.Base.{clash}
use Rattle.model.proofs.Conservation.{Sound}
use Rattle.model.proofs.DueFacts.{Chosen, Facts, TurnFacts, CompleteFacts, facts-due}
use Rattle.model.proofs.Permitted.{sound, chosen-open}
use Rattle.model.proofs.Refinement.{Told, told-empty, told-step}
use Rattle.halves.specs.Claim.{NotOverrun, NotOpening}
use Rattle.halves.specs.System.{took_all, slots_taken}
use Rattle.halves.proofs.Finishings.{took-none, posts-others}

-- what is kept until then
pub record Before (k : ℕ) (b : Backend) (h : List Event) : Type 0 where
  pub told : Told b h
  pub clean : All (λ (e : Event). NotOverrun k e.call e.effect) h
  pub closed : is_closed (book k h).state ≡ true
  pub none : slots_taken k h ≡ []

module _ (k : ℕ) (h : List Event) (o : Sound (book k h)) (closed : is_closed (book k h).state ≡ true) where
  -- deeds that leave the port closed, and take nothing from it
  abbrev Silent : List Deed → Type 0
  Silent ds = (is_closed (posts k ds (book k h)).state ≡ true) × (took_all k ds (book k h) ≡ [])

  other : (d : Deed) → k ≢ port_of d → Silent (d ∷ [])
  other d ne = rw (ne_eqb k (port_of d) ne) (closed, refl)

  not_chosen : (rings : List ℕ) (j : ℕ) → Chosen (view_at h) rings j → k ≢ j
  not_chosen rings j c e = clash closed (chosen-open k h o rings (subst (λ (i : ℕ). Chosen (view_at h) rings i) (sym e) c))

  silent-call : (c : Call) (e : Effect c) → NotOpening k c → Facts (view_at h) c e → Silent (deeds c e)
  unfolding view_at
  silent-call (Open p sheet) (Err why) ne f = (closed, refl)
  silent-call (Open p sheet) (Ok done) ne f = other (opening p.0 (params_in (sheet_of sheet))) ne
  silent-call (Close p) (Err why) ne f = (closed, refl)
  silent-call (Close p) (Ok done) ne f =
      elim (ℕ_discrete k p.0) [ yes e ↦ rw (eq-eqb k p.0 e) (refl, refl) | no d ↦ other (closing p.0) d ]
  silent-call (Turn rings grants words) e ne f = go e.rings e.answer f
    where
      go : (left : List ℕ) (x : Result Turned Refusal) → TurnFacts (view_at h) rings left x → Silent (turn_deeds rings left x)
      go left (Err why) f = (closed, refl)
      go left (Ok Turned.Idle) f = (closed, refl)
      go left (Ok (Turned.Overrun p)) f = other (breaking p.0) (not_chosen rings p.0 f)
      go left (Ok (Turned.Started p t s plan)) f = other (starting p.0 rings t.0 s.0 (expected_of plan)) (not_chosen rings p.0 f.choice)
      go left (Ok (Turned.Answered p fault y)) f = other (answering p.0 rings left fault.status) (not_chosen rings p.0 f.choice)
  silent-call (Complete rings p entries) e ne f = go e.rings e.answer f
    where
      cs : List Completion
      cs = completions_in entries

      go : (left : List ℕ) (y : CompleteAnswer) → CompleteFacts (view_at h) rings left p cs y → Silent (complete_deeds left p.0 cs y)
      go left (none_done n) f = (closed, refl)
      go left (all_done q zs y) f =
          let ne : k ≢ p.0 = λ d. clash closed (subst (λ (j : ℕ). is_closed (book j h).state ≡ false) (sym d) f.opened) in
          rw (posts-others k p.0 left ne cs zs (book k h), took-none k p.0 left cs zs (book k h)) (closed, refl)

  quiet-call : (c : Call) (e : Effect c) → Facts (view_at h) c e → NotOverrun k c e
  quiet-call (Open p sheet) e f = tt
  quiet-call (Close p) e f = tt
  quiet-call (Complete rings p entries) e f = tt
  quiet-call (Turn rings grants words) e f = λ q. not_chosen rings k (subst (λ (y : Result Turned Refusal). TurnFacts (view_at h) rings e.rings y) q f) refl

pub before-step : (k : ℕ) (b : Backend) (h : List Event) (c : Call) → LendsBytes c → NotOpening k c → Before k b h → Before k (after_call b c) (event_on b c ∷ h)
unfolding book slots_taken
before-step k b h c y ne w =
    let o = sound k h w.told.as_due w.told.bytes in
    let t = told-step b h c y w.told in
    let f = facts-due (view_at h) (event_on b c) t.as_due.0 in
    let s = silent-call k h o w.closed c (event_on b c).effect ne f in
    record {
      told = t;
      clean = (quiet-call k h o w.closed c (event_on b c).effect f, w.clean);
      closed = s.0;
      none = rw w.none s.1;
    }

before-from : (k : ℕ) (cs : List Call) → All LendsBytes cs → All (NotOpening k) cs → (b : Backend) (h : List Event) → Before k b h
    → Before k (backend_after b cs) (history_from b h cs)
unfolding history_from
before-from k [] y n b h w = w
before-from k (c ∷ cs) y n b h w = before-from k cs y.1 n.1 _ _ (before-step k b h c y.0 n.0 w)

-- no call yet
pub before-none : (k : ℕ) → Before k empty_backend []
unfolding book slots_taken
before-none k = record { told = told-empty; clean = tt; closed = refl; none = refl }

pub before-all : (k : ℕ) (cs : List Call) → All LendsBytes cs → All (NotOpening k) cs → Before k (backend_after empty_backend cs) (history cs)
before-all k cs y n = before-from k cs y n empty_backend [] (before-none k)
