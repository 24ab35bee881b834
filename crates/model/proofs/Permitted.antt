-- The deeds of a call that answers as due may be done: what the rules say on the history's view, read as what the books must say. So the books of every
-- history whose calls answer as due are sound. The backend is not in sight. Assumes nothing.
use mathlib.Core.Path.{◌≡◌, refl, sym, ap, ◌∙◌, subst}
use mathlib.Core.List.{List, [], ◌∷◌}
use mathlib.Core.Bool.{Bool, true, false, not}
use Prim.Native.Nat.{ℕ, ◌%◌, ◌≤◌, ◌<◌}
use native.Mathlib.Decide.{ℕ_discrete}
use native.Mathlib.Nat.{le_refl}
use native.Mathlib.Omega.{arith}
use lib.ListN.{length, length-map}
use Rattle.std.specs.Prelude.{Result, Ok, Err}
use Rattle.model.specs.Base.{least, tally, modulus}
use Rattle.model.specs.Buffers.{ports, rings_length, pages_of, set_pages}
use Rattle.model.specs.Ring.{Ring}
use Rattle.model.specs.Port.{is_closed, is_open, Holder, free, held, is_free, lowest_free}
use Rattle.model.specs.Calls.{Reply, Call, Open, Close, Turn, Complete, CompleteAnswer, none_done, all_done, Effect, Event}
use Rattle.model.specs.Turn.{ring_at, pending_at, has_work, ResponseDue, due_to, responded_all, responded_all_at, responded_at, request_at, settled}
use Rattle.model.specs.Complete.{Completion, completions_in, response_for, responses_for}
use Rattle.model.specs.Rules.{any_names_none}
use Rattle.model.specs.Deeds.{open_deeds, close_deeds, turn_deeds, finishings, complete_deeds, deeds, deeds_of}
use Rattle.model.specs.History.{ring_in, asked, said, book, unfinished, holder, view_at}
use Rattle.model.specs.Demand.{All, AsDue, IsBytes, LendsBytes}
use Rattle.model.specs.declared.Fault.{Fault}
use Rattle.model.specs.declared.Pair.{Pair}
use Rattle.model.specs.declared.PortId.{PortId}
use Rattle.model.specs.declared.Refusal.{Refusal}
use Rattle.model.specs.declared.State.{State}
use Rattle.model.specs.declared.Status.{Status}
use Rattle.model.specs.declared.Turned.{Turned}
use Rattle.model.proofs.Base.{clash, and_left, least-is, least-some, tally-le}
use Rattle.model.proofs.Ring.{Fits, fits, slot_of-modulus}
use Rattle.model.proofs.Page.{length-pages_of, pages_of-set_pages, FitsPair, request-fits, slot-bytes}
use Rattle.model.proofs.Responses.{AllRead, AllFit, length-all, all_read}
use Rattle.model.proofs.DueFacts.{Chosen, chosen-lt, Started, AnsweredNow, Finished, OpenFacts, CloseFacts, TurnFacts, CompleteFacts, Facts, FactsOf, facts-due, waits-room}
use Rattle.model.proofs.Ledger.{held-count, busy}
use Rattle.model.proofs.Conservation.{Sound, Carries, MayClose, MayStart, MayAnswer, MayAll, sound_none, sound-posts}
use Rattle.model.proofs.Completions.{HeldAs, entries-few, responses-fit, may-finish-all, may-others}

-- ---- what the history's view says of a port that is not closed

module _ (k : ℕ) (h : List Event) (opened : is_closed (book k h).state ≡ false) where
  pub view-ring : ring_at (view_at h) k ≡ ring_in (book k h)
  unfolding view_at
  view-ring = rw opened

  pub view-consumed : (view_at h).consumed k ≡ length (book k h).taken % modulus
  unfolding view_at
  view-consumed = rw opened

  pub view-produced : (view_at h).produced k ≡ length (book k h).answered % modulus
  unfolding view_at
  view-produced = rw opened

  pub view-in_flight : (view_at h).in_flight k ≡ length (unfinished (book k h).taken)
  unfolding view_at
  view-in_flight = rw opened

  view-tag : (t : ℕ) → (view_at h).tag k t ≡ holder t (book k h).taken
  unfolding view_at
  view-tag t = rw opened

pub view-state : (k : ℕ) (h : List Event) → (view_at h).state k ≡ (book k h).state
unfolding view_at
view-state k h = refl

pub open-not-closed : (s : State) → is_open s ≡ true → is_closed s ≡ false
open-not-closed State.Closed e = clash e refl
open-not-closed State.Open e = refl
open-not-closed State.Broken e = refl

free-holder : (x : Holder) → is_free x ≡ true → x ≡ free
free-holder free e = refl
free-holder (held x) e = clash e refl

-- ---- the deeds, port by port

module _ (k : ℕ) (h : List Event) (o : Sound (book k h)) where
  -- the lowest free tag, where the unfinished leave room
  start-free : (rings : List ℕ) (t s : ℕ) → is_closed (book k h).state ≡ false → Started (view_at h) rings k t s
      → (t < (ring_in (book k h)).size) × (holder t (book k h).taken ≡ free)
  unfolding lowest_free pending_at
  start-free rings t s opened f =
      let n = (ring_in (book k h)).size in
      let same : (ring_at (view_at h) k).size ≡ n = ap (λ (g : Ring). g.size) (view-ring k h opened) in
      let room : (view_at h).in_flight k < (ring_at (view_at h) k).size = waits-room _ _ _ f.waits in
      let free? : ℕ → Bool = λ u. is_free ((view_at h).tag k u) in
      let counted = held-count n n (le_refl n) (book k h).taken o.good in
      let few : tally n (λ u. not (free? u)) < n = simp (view-tag k h opened) (omega (arith, view-in_flight k h opened)) in
      let low = least-some n free? few in
      let lowest : t ≡ least n free? = f.lowest ∙ ap (λ m. least m free?) same in
      let is : is_free (holder t (book k h).taken) ≡ true = sym (ap is_free (view-tag k h opened t)) ∙ rw lowest (least-is n free? low) in
      (omega arith, free-holder _ is)

  -- What responses in the slots from rsp_prod_pvt on read as: the pairs that they were given, (e) and (g), and the statuses, (h).
  reads-responses : (rings left : List ℕ) (xs : List ResponseDue) → is_closed (book k h).state ≡ false → length rings ≡ rings_length → k < ports
      → length xs ≤ (ring_in (book k h)).size → AllFit (ring_in (book k h)) (fits (book k h).params) xs → left ≡ responded_all_at (view_at h) rings k xs
      → AllRead (ring_in (book k h)) (fits (book k h).params) xs (pages_of (ring_in (book k h)) left k) (length (book k h).answered)
  unfolding responded_all_at
  reads-responses rings left xs opened sized small few fit e =
      let g = ring_in (book k h) in
      let f : Fits g = fits (book k h).params in
      let n = length (book k h).answered in
      let before = pages_of g rings k in
      let page = responded_all g before (n % modulus) xs in
      let long = length-pages_of g f rings k sized small in
      let put : left ≡ set_pages g rings k page = rw (view-ring k h opened, view-produced k h opened) at e in
      let there : pages_of g left k ≡ page =
      ap (λ (x : List ℕ). pages_of g x k) put ∙ pages_of-set_pages g f rings k sized small page (length-all g f xs n before long) in
      rw there (all_read g f xs n before long few fit)

  -- and of one
  reads-response : (rings left : List ℕ) (q : Pair) (z : Status) → is_closed (book k h).state ≡ false → length rings ≡ rings_length → k < ports → FitsPair q
      → left ≡ responded_at (view_at h) rings k q z → Carries (said k left z (book k h)) q
  unfolding said responded_at
  reads-response rings left q z opened sized small fit e =
      let r = reads-responses rings left (due_to q z ∷ []) opened sized small (fits (book k h).params).some (fit, tt) e in
      record { pair = r.0; status = r.1 }

  -- the request that the rules look at is the one that the history reads
  request-asked : (rings : List ℕ) → is_closed (book k h).state ≡ false → (request_at (view_at h) rings k).pair ≡ asked k rings (book k h)
  unfolding request_at asked
  request-asked rings opened =
      rw (view-ring k h opened, view-consumed k h opened, slot_of-modulus (ring_in (book k h)) (fits (book k h).params) (pages_of (ring_in (book k h)) rings k))

  asked-fits : (rings : List ℕ) → IsBytes rings → FitsPair (asked k rings (book k h))
  unfolding asked
  asked-fits rings y = request-fits _ _ (slot-bytes (ring_in (book k h)) rings k _ y)

  pub chosen-open : (rings : List ℕ) → Chosen (view_at h) rings k → is_closed (book k h).state ≡ false
  unfolding has_work
  chosen-open rings f = rw view-state at (open-not-closed ((view_at h).state k) (and_left _ _ f.works))

  may-start : (rings : List ℕ) (t s : ℕ) → IsBytes rings → Started (view_at h) rings k t s → MayStart k rings t (book k h)
  may-start rings t s y f =
      let opened = chosen-open rings f.choice in
      let got = start-free rings t s opened f in
      record { opened = opened; small = got.0; unheld = got.1; narrow = asked-fits rings y }

  may-answer : (rings left : List ℕ) (a : Fault) → IsBytes rings → AnsweredNow (view_at h) rings left k a → MayAnswer k rings left a.status (book k h)
  unfolding settled
  may-answer rings left a y f =
      let opened = chosen-open rings f.choice in
      let q = request-asked rings opened in
      record {
        opened = opened;
        narrow = asked-fits rings y;
        reads = reads-response rings left _ a.status opened f.choice.sized (chosen-lt f.choice) (asked-fits rings y) (f.written ∙ ap (λ (p : Pair). responded_at (view_at h) rings k p a.status) q);
      }

  may-finish : (rings left : List ℕ) (cs : List Completion) (zs : List Status) → Finished (view_at h) rings left k cs zs → MayAll k (finishings left k cs zs) (book k h)
  unfolding responses_for
  may-finish rings left cs zs f =
      let b = book k h in
      let g = ring_in b in
      let tags = (view_at h).tag k in
      let xs = responses_for tags cs in
      let opened : is_closed b.state ≡ false = rw view-state at f.opened in
      let holds : HeldAs tags b.taken = λ u. sym (view-tag k h opened u) in
      let named : any_names_none g tags cs ≡ false = rw (view-ring k h opened) at f.named in
      let few = entries-few g tags cs b.taken o.good holds named f.apart in
      let held = held-count g.size g.size (le_refl g.size) b.taken o.good in
      let room : length xs ≤ g.size = omega (arith, length-map cs (response_for tags), tally-le g.size (busy b.taken)) in
      let fit = responses-fit g tags (fits b.params) cs b.taken o.good holds named in
      let reads = reads-responses rings left xs opened f.sized f.small room fit f.written in
      subst (λ (z : List Status). MayAll k (finishings left k cs z) b) (sym f.statuses)
      (may-finish-all k f.small left cs tags b opened o holds named f.apart reads)

  -- ---- the calls

  may-open : (p : PortId) (sheet : List ℕ) (e : Reply) → OpenFacts (view_at h) p e → MayAll k (open_deeds p.0 sheet e) (book k h)
  may-open p sheet (Err why) f = tt
  may-open p sheet (Ok done) f =
      (f.0, λ q. subst (λ (j : ℕ). is_closed (book j h).state ≡ true) (sym q) (rw view-state at f.1), tt)

  may-close : (p : PortId) (e : Reply) → CloseFacts (view_at h) p e → MayAll k (close_deeds p.0 e) (book k h)
  may-close p (Err why) f = tt
  may-close p (Ok done) f = (f.0, λ q. go (subst (λ (j : ℕ). (is_closed ((view_at h).state j) ≡ false) × ((view_at h).in_flight j ≡ 0)) (sym q) (f.1, f.2)), tt)
    where
      go : (is_closed ((view_at h).state k) ≡ false) × ((view_at h).in_flight k ≡ 0) → MayClose (book k h)
      go g =
          let opened : is_closed (book k h).state ≡ false = rw view-state at g.0 in
          record { opened = opened; idle = sym (view-in_flight k h opened) ∙ g.1 }

  may-turn : (rings left : List ℕ) (e : Result Turned Refusal) → IsBytes rings → TurnFacts (view_at h) rings left e → MayAll k (turn_deeds rings left e) (book k h)
  may-turn rings left (Err why) y f = tt
  may-turn rings left (Ok Turned.Idle) y f = tt
  may-turn rings left (Ok (Turned.Overrun p)) y f =
      (chosen-lt f, λ q. chosen-open rings (subst (λ (j : ℕ). Chosen (view_at h) rings j) (sym q) f), tt)
  may-turn rings left (Ok (Turned.Started p t s plan)) y f = (
    chosen-lt f.choice,
    λ q. subst (λ (j : ℕ). MayStart j rings t.0 (book k h)) q (may-start rings t.0 s.0 y (subst (λ (j : ℕ). Started (view_at h) rings j t.0 s.0) (sym q) f)),
    tt,
  )
  may-turn rings left (Ok (Turned.Answered p a x)) y f = (
    chosen-lt f.choice,
    λ q. subst (λ (j : ℕ). MayAnswer j rings left a.status (book k h)) q (may-answer rings left a y (subst (λ (j : ℕ). AnsweredNow (view_at h) rings left j a) (sym q) f)),
    tt,
  )

  may-complete : (rings left : List ℕ) (p : PortId) (cs : List Completion) (e : CompleteAnswer) → CompleteFacts (view_at h) rings left p cs e
      → MayAll k (complete_deeds left p.0 cs e) (book k h)
  may-complete rings left p cs (none_done n) f = tt
  may-complete rings left p cs (all_done q zs x) f =
      elim (ℕ_discrete k p.0) [
        | yes e ↦
            subst (λ (j : ℕ). MayAll k (finishings left j cs zs) (book k h)) e
            (may-finish rings left cs zs (subst (λ (j : ℕ). Finished (view_at h) rings left j cs zs) (sym e) f))
        | no e ↦ may-others k p.0 left cs zs (book k h) f.small e
      ]

  may-call : (c : Call) (e : Effect c) → LendsBytes c → Facts (view_at h) c e → MayAll k (deeds c e) (book k h)
  may-call (Open p sheet) e y f = may-open p sheet e f
  may-call (Close p) e y f = may-close p e f
  may-call (Turn rings grants words) e y f = may-turn rings e.rings e.answer y f
  may-call (Complete rings p entries) e y f = may-complete rings e.rings p (completions_in entries) e.answer f

  pub may : (e : Event) → LendsBytes e.call → FactsOf (view_at h) e → MayAll k (deeds_of e) (book k h)
  may e y f = may-call e.call e.effect y f

-- ---- every history whose calls answer as due

abbrev pub LentBytes : List Event → Type 0
LentBytes h = All (λ (e : Event). LendsBytes e.call) h

pub sound : (k : ℕ) (h : List Event) → AsDue h → LentBytes h → Sound (book k h)
unfolding book
sound k [] d y = sound_none
sound k (e ∷ h) d y =
    let o : Sound (book k h) = sound k h d.1 y.1 in
    sound-posts k (deeds_of e) (book k h) (may k h o e y.0 (facts-due (view_at h) e d.0)) o
