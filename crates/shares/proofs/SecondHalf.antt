-- Rule 1.20: rings that differ only outside the ports' rings get the same answers and are left alike, and what lies there stays. Assumes nothing.
use mathlib.Core.Path.{◌≡◌, refl, sym, ap, ◌∙◌, subst}
use mathlib.Core.Bool.{Bool, true, false, not, cond, ◌&&◌, ◌||◌}
use mathlib.Core.List.{List, [], ◌∷◌, map}
use Prim.Native.Nat.{ℕ, zero, suc, ◌≤◌, ◌<◌}
use native.Mathlib.Omega.{arith}
use lib.Dec.{eqb, ltb}
use lib.ListN.{length, get_or}
use borrow.Author.Tests.{ltb-true, leb-false, eqb-true, eqb-false, not-false}
use Rattle.std.specs.Prelude.{Ok, Err}
use Rattle.model.specs.declared.Refusal.{Refusal}
use Rattle.model.specs.Base.{least}
use Rattle.model.specs.Buffers.{ports, rings_length, are_rings, are_grants, pages_of, set_pages, grants_of}
use Rattle.model.specs.Calls.{TurnEffect, all_done, CompleteEffect, most_completions}
use Rattle.model.specs.Complete.{completions_in, are_entries, responses_for, completed}
use Rattle.model.specs.Plan.{verdict_of}
use Rattle.model.specs.Port.{View, is_closed, is_open, is_work, distance, pending_of, after}
use Rattle.model.specs.Ring.{Ring, Request, ring_for, req_prod, set_req_event, rsp_event, slot_of, request_of}
use Rattle.model.specs.Rules.{no_port, any_names_none, named_twice, refused_completion, due_turn, due_complete}
use Rattle.model.specs.Turn.{port_id, ring_at, pages_at, pending_at, has_work, looked_at, passed_over, armed_port, armed, idle, ResponseDue, due_to, responded_all, responded_all_at, tells, notifies_all, responded, responded_at, notifies, request_at, settled, overran, served_by, turned}
use Rattle.model.specs.declared.Pages.{Pages}
use Rattle.model.specs.declared.Pending.{Pending}
use Rattle.model.specs.declared.PortId.{PortId}
use Rattle.model.specs.declared.State.{State}
use Rattle.model.specs.declared.Turned.{Turned}
use Rattle.model.specs.Plan.{Verdict}
use Rattle.wire.proofs.LittleEndian.{length-store}
use Rattle.model.proofs.Base.{by_cond, and_left, least-is}
use Rattle.model.proofs.Page.{length-pages_of, pages_of-set_pages, pages_of-other, length-set_pages, get_d-set_pages, length-responded}
use Rattle.model.proofs.Permitted.{open-not-closed}
use Rattle.model.proofs.Responses.{one_by_one}
use Rattle.model.proofs.Ring.{Fits, fits}
use Rattle.shares.specs.SecondHalf.{SameRings, InNoRing, InSecondHalf, Untouched}

-- ---- not read

-- what a test chooses between, in two effects
alike : (R : CompleteEffect → CompleteEffect → Type 0) (t : Bool) (x y z w : CompleteEffect) → (t ≡ true → R x y) → (t ≡ false → R z w)
    → R (cond t x z) (cond t y w)
alike R true x y z w f g = f refl
alike R false x y z w f g = g refl

-- two effects that answer the same
record Agrees (x y : TurnEffect) : Type 0 where
  answer : x.answer ≡ y.answer
  words : x.words ≡ y.words

module _ (v : View) (a b : List ℕ) (s : SameRings v a b) where
  pending-same : (k : ℕ) → pages_at v a k ≡ pages_at v b k → pending_at v a k ≡ pending_at v b k
  unfolding pending_at
  pending-same k e = ap (λ (p : List ℕ). pending_of (ring_at v k).size (v.in_flight k) (distance (req_prod p) (v.consumed k))) e

  work-same : (k : ℕ) → k < ports → has_work v a k ≡ has_work v b k
  unfolding has_work
  work-same k l = go (v.state k) refl
    where
      go : (t : State) → v.state k ≡ t → has_work v a k ≡ has_work v b k
      go State.Closed e = rw e
      go State.Open e = ap (λ (d : Pending). is_open (v.state k) && is_work d) (pending-same k (s.same k l (ap is_closed e)))
      go State.Broken e = rw e

  passed-same : passed_over v a ≡ passed_over v b
  unfolding passed_over
  passed-same = λ i. least ports (λ j. work-same (looked_at v j) (omega arith) i)

  settled_same : (k : ℕ) → pages_at v a k ≡ pages_at v b k → (r : Request) (x : Verdict) → Agrees (settled v a k r x) (settled v b k r x)
  unfolding settled notifies notifies_all
  settled_same k e r (Err fault) = record {
    answer = ap (λ (p : List ℕ). Ok (Turned.Answered (port_id k) fault (tells (v.produced k) 1 (rsp_event p)))) e;
    words = refl;
  }
  settled_same k e r (Ok plan) = record { answer = refl; words = refl }

  module _ (grants : List ℕ) where
    served-same : (k : ℕ) → pages_at v a k ≡ pages_at v b k → (d : Pending) → Agrees (served_by v a grants k d) (served_by v b grants k d)
    unfolding served_by idle overran request_at
    served-same k e Pending.Nothing = record { answer = refl; words = refl }
    served-same k e Pending.Waits =
        let g = ring_at v k in
        let judged : Request → Verdict = λ r. verdict_of (v.params k) (grants_of grants k) r in
        let asked : request_at v a k ≡ request_at v b k = ap (λ (p : List ℕ). request_of g.layout (slot_of g p (v.consumed k))) e in
        subst (λ (r : Request). Agrees (settled v a k (request_at v a k) (judged (request_at v a k))) (settled v b k r (judged r))) asked
        (settled_same k e (request_at v a k) (judged (request_at v a k)))
    served-same k e Pending.Overrun = record { answer = refl; words = refl }

    -- the port that both turns come to
    abbrev met : ℕ
    met = looked_at v (passed_over v b)

    met-same : ltb (passed_over v b) ports ≡ true → pages_at v a met ≡ pages_at v b met
    unfolding passed_over has_work
    met-same l =
        let works = least-is ports (λ i. has_work v b (looked_at v i)) (ltb-true _ _ l) in
        s.same met (omega arith) (open-not-closed (v.state met) (and_left _ _ works))

    turned_same : Agrees (turned v a grants) (turned v b grants)
    unfolding turned idle
    turned_same = rw passed-same (go (ltb (passed_over v b) ports) refl)
      where
        go : (c : Bool) → ltb (passed_over v b) ports ≡ c
            → Agrees (cond c (served_by v a grants met (pending_at v a met)) (idle v a)) (cond c (served_by v b grants met (pending_at v b met)) (idle v b))
        go true l = rw (pending-same met (met-same l)) (served-same met (met-same l) (pending_at v b met))
        go false l = record { answer = refl; words = refl }

    due-same : (words : List ℕ) → Agrees (due_turn v a grants words) (due_turn v b grants words)
    unfolding due_turn
    due-same words = rw (s.long, s.also_long) (go (are_grants grants))
      where
        go : (c : Bool) → Agrees (cond (not c) (record { rings = a; words = words; answer = Err Refusal.WrongLength }) (turned v a grants)) (cond (not c) (record { rings = b; words = words; answer = Err Refusal.WrongLength }) (turned v b grants))
        go true = turned_same
        go false = record { answer = refl; words = refl }

  -- what holds of both effects where they are refused alike and where they are done holds of what is due
  completion-alike : (R : CompleteEffect → CompleteEffect → Type 0) (p : PortId) (entries : List ℕ)
      → ((why : Refusal) → R (refused_completion a why) (refused_completion b why))
      → (p.0 < ports → is_closed (v.state p.0) ≡ false → R (completed v a p.0 (completions_in entries)) (completed v b p.0 (completions_in entries)))
      → R (due_complete v a p entries) (due_complete v b p entries)
  unfolding due_complete
  completion-alike R p entries refused done =
      let cs = completions_in entries in
      rw (s.long, s.also_long)
      (alike R (not (are_entries entries)) _ _ _ _ (λ _. refused Refusal.WrongLength) (λ _.
      alike R (no_port p) _ _ _ _ (λ _. refused Refusal.NoPort) (λ l.
      alike R (is_closed (v.state p.0)) _ _ _ _ (λ _. refused Refusal.IsClosed) (λ o.
      alike R (ltb most_completions (length cs)) _ _ _ _ (λ _. refused Refusal.TooMany) (λ _.
      alike R (any_names_none (ring_at v p.0) (v.tag p.0) cs || named_twice cs) _ _ _ _ (λ _. refused Refusal.NotBusy) (λ _.
      done (leb-false _ _ l) o))))))

  completion-same : (p : PortId) (entries : List ℕ) → (due_complete v a p entries).answer ≡ (due_complete v b p entries).answer
  unfolding refused_completion completed notifies_all
  completion-same p entries =
      let xs = responses_for (v.tag p.0) (completions_in entries) in
      completion-alike (λ x y. x.answer ≡ y.answer) p entries
      (λ why. refl)
      (λ small o.
      ap (λ (r : List ℕ). all_done (port_id p.0) (map (λ x. x.status) xs) (tells (v.produced p.0) (length xs) (rsp_event r))) (s.same p.0 small o))

-- ---- the rings left

-- responses leave a ring as long as it was, wherever they begin
length-responses : (g : Ring) (f : Fits g) (xs : List ResponseDue) (page : List ℕ) (i : ℕ) → length page ≡ g.bytes → length (responded_all g page i xs) ≡ g.bytes
unfolding responded_all
length-responses g f [] page i sized = sized
length-responses g f (x ∷ xs) page i sized =
    let one = responded g page i x.pair x.status in
    ap (λ (l : List ℕ). length l) (one_by_one g f x xs page i)
    ∙ length-responses g f xs one (after i) (length-responded g f page i x.pair x.status sized)

module _ (v : View) where
  -- the same new pages of a port, in both
  put_same : (a b : List ℕ) → SameRings v a b → (k : ℕ) → k < ports → (pages : List ℕ) → length pages ≡ (ring_at v k).bytes
      → SameRings v (set_pages (ring_at v k) a k pages) (set_pages (ring_at v k) b k pages)
  put_same a b s k small pages l =
      record {
        long = length-set_pages g f a k s.long small pages l ∙ s.long;
        also_long = length-set_pages g f b k s.also_long small pages l ∙ s.also_long;
        same = λ j here o. go j here o (eqb j k) refl;
      }
    where
      g : Ring
      g = ring_at v k

      f : Fits g
      f = fits (v.params k)

      own : pages_of g (set_pages g a k pages) k ≡ pages_of g (set_pages g b k pages) k
      own = pages_of-set_pages g f a k s.long small pages l ∙ sym (pages_of-set_pages g f b k s.also_long small pages l)

      go : (j : ℕ) → j < ports → is_closed (v.state j) ≡ false → (c : Bool) → eqb j k ≡ c → pages_at v (set_pages g a k pages) j ≡ pages_at v (set_pages g b k pages) j
      go j here o true e = subst (λ (i : ℕ). pages_at v (set_pages g a k pages) i ≡ pages_at v (set_pages g b k pages) i) (sym (eqb-true j k e)) own
      go j here o false e =
          pages_of-other g f a k s.long small pages l (ring_at v j) (fits (v.params j)) j here (eqb-false j k e)
          ∙ s.same j here o
          ∙ sym (pages_of-other g f b k s.also_long small pages l (ring_at v j) (fits (v.params j)) j here (eqb-false j k e))

  respond-same : (a b : List ℕ) → SameRings v a b → (k : ℕ) → k < ports → is_closed (v.state k) ≡ false → (xs : List ResponseDue)
      → SameRings v (responded_all_at v a k xs) (responded_all_at v b k xs)
  unfolding responded_all_at
  respond-same a b s k small opened xs =
      let g = ring_at v k in
      let f = fits (v.params k) in
      let page = responded_all g (pages_at v b k) (v.produced k) xs in
      let l = length-responses g f xs (pages_at v b k) (v.produced k) (length-pages_of g f b k s.also_long small) in
      rw (s.same k small opened) (put_same a b s k small page l)

  arm_same : (a b : List ℕ) → SameRings v a b → (k : ℕ) → k < ports → (t : State) → v.state k ≡ t
      → SameRings v (armed_port (ring_at v k) t a k (v.consumed k)) (armed_port (ring_at v k) t b k (v.consumed k))
  unfolding set_req_event
  arm_same a b s k small State.Closed e = s
  arm_same a b s k small State.Open e =
      let g = ring_at v k in
      let f = fits (v.params k) in
      let page = set_req_event (pages_of g b k) (after (v.consumed k)) in
      let l : length page ≡ g.bytes = length-store 4 (pages_of g b k) 4 (after (v.consumed k)) ∙ length-pages_of g f b k s.also_long small in
      rw (s.same k small (ap is_closed e)) (put_same a b s k small page l)
  arm_same a b s k small State.Broken e = s

  armed-same : (a b : List ℕ) → SameRings v a b → (n : ℕ) → n ≤ ports → SameRings v (armed v a n) (armed v b n)
  unfolding armed
  armed-same a b s zero l = s
  armed-same a b s (suc n) l = arm_same (armed v a n) (armed v b n) (armed-same a b s n (omega arith)) n (omega arith) (v.state n) refl

  settle-same : (a b : List ℕ) → SameRings v a b → (k : ℕ) → k < ports → is_closed (v.state k) ≡ false → (r : Request) (x : Verdict)
      → SameRings v (settled v a k r x).rings (settled v b k r x).rings
  unfolding settled responded_at
  settle-same a b s k small opened r (Err fault) = respond-same a b s k small opened (due_to r.pair fault.status ∷ [])
  settle-same a b s k small opened r (Ok plan) = s

  serve-same : (a b grants : List ℕ) → SameRings v a b → (k : ℕ) → k < ports → is_closed (v.state k) ≡ false → (d : Pending)
      → SameRings v (served_by v a grants k d).rings (served_by v b grants k d).rings
  unfolding served_by idle overran request_at
  serve-same a b grants s k small opened Pending.Nothing = armed-same a b s ports (omega arith)
  serve-same a b grants s k small opened Pending.Waits =
      let g = ring_at v k in
      let judged : Request → Verdict = λ r. verdict_of (v.params k) (grants_of grants k) r in
      let asked : request_at v a k ≡ request_at v b k = ap (λ (p : List ℕ). request_of g.layout (slot_of g p (v.consumed k))) (s.same k small opened) in
      subst (λ (r : Request). SameRings v (settled v a k (request_at v a k) (judged (request_at v a k))).rings (settled v b k r (judged r)).rings) asked
      (settle-same a b s k small opened (request_at v a k) (judged (request_at v a k)))
  serve-same a b grants s k small opened Pending.Overrun = s

  rings-same : (a b grants : List ℕ) → SameRings v a b → SameRings v (turned v a grants).rings (turned v b grants).rings
  unfolding turned idle passed_over has_work
  rings-same a b grants s = rw (passed-same v a b s) (go (ltb (passed_over v b) ports) refl)
    where
      k : ℕ
      k = looked_at v (passed_over v b)

      go : (c : Bool) → ltb (passed_over v b) ports ≡ c
          → SameRings v (cond c (served_by v a grants k (pending_at v a k)) (idle v a)).rings (cond c (served_by v b grants k (pending_at v b k)) (idle v b)).rings
      go true l =
          let works = least-is ports (λ i. has_work v b (looked_at v i)) (ltb-true _ _ l) in
          rw (pending-same v a b s k (met-same v a b s grants l)) (serve-same a b grants s k (omega arith) (open-not-closed (v.state k) (and_left _ _ works)) (pending_at v b k))
      go false l = armed-same a b s ports (omega arith)

  due-rings : (a b grants words : List ℕ) → SameRings v a b → SameRings v (due_turn v a grants words).rings (due_turn v b grants words).rings
  unfolding due_turn
  due-rings a b grants words s = rw (s.long, s.also_long) (go (are_grants grants))
    where
      go : (c : Bool) → SameRings v (cond (not c) (record { rings = a; words = words; answer = Err Refusal.WrongLength }) (turned v a grants)).rings (cond (not c) (record { rings = b; words = words; answer = Err Refusal.WrongLength }) (turned v b grants)).rings
      go true = rings-same a b grants s
      go false = s

  complete-rings : (a b : List ℕ) (p : PortId) (entries : List ℕ) → SameRings v a b
      → SameRings v (due_complete v a p entries).rings (due_complete v b p entries).rings
  unfolding refused_completion completed
  complete-rings a b p entries s =
      completion-alike v a b s (λ x y. SameRings v x.rings y.rings) p entries (λ n. s) (λ small o. respond-same a b s p.0 small o _)

-- ---- not written

module _ (v : View) (rings : List ℕ) (sized : length rings ≡ rings_length) (m : ℕ) (out : InNoRing v m) where
  responded-keeps : (k : ℕ) → k < ports → is_closed (v.state k) ≡ false → (xs : List ResponseDue) → get_or (responded_all_at v rings k xs) m 0 ≡ get_or rings m 0
  unfolding responded_all_at
  responded-keeps k small opened xs =
      let g = ring_at v k in
      let f = fits (v.params k) in
      let long = length-responses g f xs (pages_of g rings k) (v.produced k) (length-pages_of g f rings k sized small) in
      get_d-set_pages g f rings k sized small _ long m (out k small opened)

  -- rings as long as before, with that byte as it was
  record Kept (left : List ℕ) : Type 0 where
    long : length left ≡ rings_length
    same : get_or left m 0 ≡ get_or rings m 0

  armed-port : (left : List ℕ) (k : ℕ) → k < ports → Kept left → (t : State) → v.state k ≡ t → Kept (armed_port (ring_at v k) t left k (v.consumed k))
  unfolding set_req_event
  armed-port left k small h State.Closed e = h
  armed-port left k small h State.Open e =
      let g = ring_at v k in
      let f = fits (v.params k) in
      let new = set_req_event (pages_of g left k) (after (v.consumed k)) in
      let size : length new ≡ g.bytes = length-store 4 (pages_of g left k) 4 (after (v.consumed k)) ∙ length-pages_of g f left k h.long small in
      record {
        long = length-set_pages g f left k h.long small new size ∙ h.long;
        same = get_d-set_pages g f left k h.long small new size m (out k small (ap is_closed e)) ∙ h.same;
      }
  armed-port left k small h State.Broken e = h

  armed-keeps : (n : ℕ) → n ≤ ports → Kept (armed v rings n)
  unfolding armed
  armed-keeps zero l = record { long = sized; same = refl }
  armed-keeps (suc n) l = armed-port (armed v rings n) n (omega arith) (armed-keeps n (omega arith)) (v.state n) refl

  -- what an effect leaves
  abbrev Keeps : TurnEffect → Type 0
  Keeps e = get_or e.rings m 0 ≡ get_or rings m 0

  settled-keeps : (k : ℕ) → k < ports → is_closed (v.state k) ≡ false → (r : Request) (x : Verdict) → Keeps (settled v rings k r x)
  unfolding settled responded_at
  settled-keeps k small opened r (Err fault) = responded-keeps k small opened (due_to r.pair fault.status ∷ [])
  settled-keeps k small opened r (Ok plan) = refl

  served-keeps : (grants : List ℕ) (k : ℕ) → k < ports → is_closed (v.state k) ≡ false → (d : Pending) → Keeps (served_by v rings grants k d)
  unfolding served_by idle overran
  served-keeps grants k small opened Pending.Nothing = (armed-keeps ports (omega arith)).same
  served-keeps grants k small opened Pending.Waits = settled-keeps k small opened _ _
  served-keeps grants k small opened Pending.Overrun = refl

  turned-keeps : (grants : List ℕ) → Keeps (turned v rings grants)
  unfolding turned idle passed_over has_work
  turned-keeps grants =
      let k = looked_at v (passed_over v rings) in
      by_cond Keeps (ltb (passed_over v rings) ports) _ _
      (λ l.
      let works : is_open (v.state k) && is_work (pending_at v rings k) ≡ true = least-is ports (λ i. has_work v rings (looked_at v i)) (ltb-true _ _ l) in
      served-keeps grants k (omega arith) (open-not-closed (v.state k) (and_left (is_open (v.state k)) (is_work (pending_at v rings k)) works)) (pending_at v rings k))
      (λ _. (armed-keeps ports (omega arith)).same)

turn-keeps : (v : View) (rings grants words : List ℕ) (m : ℕ) → InNoRing v m → get_or (due_turn v rings grants words).rings m 0 ≡ get_or rings m 0
unfolding due_turn
turn-keeps v rings grants words m out =
    by_cond (λ (e : TurnEffect). get_or e.rings m 0 ≡ get_or rings m 0) (not (are_rings rings && are_grants grants)) _ _
    (λ _. refl)
    (λ z. turned-keeps v rings (eqb-true _ _ (and_left _ _ (not-false _ z))) m out grants)

abbrev Left : List ℕ → ℕ → CompleteEffect → Type 0
Left rings m e = get_or e.rings m 0 ≡ get_or rings m 0

complete-keeps : (v : View) (rings : List ℕ) (p : PortId) (entries : List ℕ) (m : ℕ) → InNoRing v m → get_or (due_complete v rings p entries).rings m 0 ≡ get_or rings m 0
unfolding due_complete refused_completion completed
complete-keeps v rings p entries m out =
    let cs = completions_in entries in
    by_cond (Left rings m) (not (are_rings rings && are_entries entries)) _ _ (λ _. refl) (λ z.
    by_cond (Left rings m) (no_port p) _ _ (λ _. refl) (λ l.
    by_cond (Left rings m) (is_closed (v.state p.0)) _ _ (λ _. refl) (λ o.
    by_cond (Left rings m) (ltb most_completions (length cs)) _ _ (λ _. refl) (λ _.
    by_cond (Left rings m) (any_names_none (ring_at v p.0) (v.tag p.0) cs || named_twice cs) _ _ (λ _. refl) (λ _.
    responded-keeps v rings (eqb-true _ _ (and_left _ _ (not-false _ z))) m out p.0 (leb-false _ _ l) o _)))))

-- ---- the second half

one-bytes : (v : View) (k : ℕ) → (v.params k).pages ≡ Pages.One → (ring_at v k).bytes ≡ 4096
unfolding ring_for
one-bytes v k e = ap (λ (n : Pages). (ring_for (v.params k).abi n).bytes) e

second-half : (v : View) (k m : ℕ) → k < ports → (v.params k).pages ≡ Pages.One → InSecondHalf k m → InNoRing v m
second-half v k m small one within j here o low high = go (eqb j k) refl
  where
    go : (c : Bool) → eqb j k ≡ c → ⊥
    go true e = let bytes : (ring_at v j).bytes ≡ 4096 = one-bytes v j (subst (λ (i : ℕ). (v.params i).pages ≡ Pages.One) (sym (eqb-true j k e)) one) in omega (arith, bytes, eqb-true j k e, within.0, high)
    go false e = omega (arith, (fits (v.params j)).within, eqb-false j k e, within.0, within.1, low, high)

pub untouched : (v : View) → Untouched v
untouched v = record {
  turn_answer = λ a b grants words s. (due-same v a b s grants words).answer;
  turn_words = λ a b grants words s. (due-same v a b s grants words).words;
  complete_answer = λ a b p entries s. completion-same v a b s p entries;
  turn_rings = λ a b grants words s. due-rings v a b grants words s;
  complete_rings = complete-rings v;
  second_half = second-half v;
  turn_keeps = turn-keeps v;
  complete_keeps = complete-keeps v;
}
