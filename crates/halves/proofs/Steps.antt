-- Each call of the backend keeps a guest and its page together with the books of its port: by the call's deeds, and by what it leaves of the page. Assumes
-- nothing.
use mathlib.Core.Path.{◌≡◌, refl, sym, ap, ◌∙◌, subst}
use mathlib.Core.Logic.{◌≢◌}
use mathlib.Core.Bool.{Bool, true, false}
use mathlib.Core.List.{List, [], ◌∷◌, ◌++◌, append-nil}
use Prim.Native.Nat.{ℕ, ◌+◌, ◌-◌, ◌%◌, ◌≤◌, ◌<◌}
use native.Mathlib.Omega.{arith}
use lib.Dec.{eqb, leb}
use lib.ListN.{length, length-map}
use borrow.Author.Tests.{leb-false, eqb-true, eqb-false, eq-eqb, ne_eqb}
use Rattle.std.specs.Prelude.{Result, Ok, Err}
use Rattle.model.specs.declared.Fault.{Fault}
use Rattle.model.specs.declared.Refusal.{Refusal}
use Rattle.model.specs.Base.{modulus}
use Rattle.model.specs.Buffers.{ports, rings_length, pages_of, set_pages}
use Rattle.model.specs.Calls.{CompleteAnswer, none_done, all_done, Event}
use Rattle.model.specs.Complete.{Completion, expected_of, response_for, responses_for}
use Rattle.model.specs.Deeds.{Deed, opening, closing, breaking, starting, answering, finishing, port_of, params_in, open_deeds, close_deeds, turn_deeds, finishings, complete_deeds}
use Rattle.model.specs.History.{at_once, started, Book, said, answer_to, entry, posts, book, unfinished, view_at}
use Rattle.model.specs.NodeSheet.{sheet_of}
use Rattle.model.specs.Port.{is_closed, is_open, Holder, after, distance, pending_of, is_work}
use Rattle.model.specs.Ring.{Ring, Request, ring_for, slot_at, response_pair}
use Rattle.model.specs.Rules.{any_names_none}
use Rattle.model.specs.Turn.{pending_at, has_work, ResponseDue, responded_all, responded_all_at, responded}
use Rattle.model.specs.declared.Pending.{Pending}
use Rattle.model.specs.declared.PortId.{PortId}
use Rattle.model.specs.Calls.{Reply}
use Rattle.model.specs.declared.State.{State}
use Rattle.model.specs.declared.Status.{Status}
use Rattle.model.specs.declared.Turned.{Turned}
use Rattle.model.proofs.Base.{by_cond, clash, and_right}
use Rattle.model.proofs.Completions.{HeldAs, entries-few, responses-fit, statuses_of}
use Rattle.model.proofs.Conservation.{Sound, numbers}
use Rattle.model.proofs.DueFacts.{Chosen, chosen-lt, AnsweredNow, Finished, TurnFacts, CompleteFacts}
use Rattle.model.proofs.Ledger.{Good, length-answer_to, pairs-answer_to}
use Rattle.model.proofs.Page.{length-pages_of, pages_of-set_pages, pair-responded}
use Rattle.model.proofs.Permitted.{view-ring, view-consumed, view-produced, view-in_flight, view-state, chosen-open}
use Rattle.model.proofs.Responses.{one_by_one, length-all, AllRead, AllFit, all_read}
use Rattle.model.proofs.Ring.{slot_at-modulus}
use Rattle.guest.specs.Guest.{guest_ring, Guest}
use Rattle.halves.specs.System.{Gathered, took, took_all}
use Rattle.halves.proofs.Page.{guest-fits, guest-bytes, Quiet, quiet-refl}
use Rattle.halves.proofs.Half.{Half, put_count, half-quiet, half-state, half-take, half-respond, modular, answered-le}
use Rattle.halves.proofs.Finishings.{took-none, posts-others}
use Rattle.halves.proofs.Left.{TurnLeft, CompleteLeft, answered-left, responded-other, idle-quiet}

-- ---- what req_prod says

work-some : (size u d : ℕ) → is_work (pending_of size u d) ≡ true → 0 < d
unfolding pending_of
work-some size u d =
    by_cond (λ (p : Pending). is_work p ≡ true → 0 < d) (eqb d 0) _ _ (λ _ e. clash e refl) (λ z _.
    let n : d ≢ 0 = eqb-false d 0 z in
    omega arith)

no-overrun : (size u d : ℕ) → d + u ≤ size → pending_of size u d ≢ Pending.Overrun
unfolding pending_of
no-overrun size u d l =
    by_cond (λ (p : Pending). p ≢ Pending.Overrun) (eqb d 0) _ _ (λ _ e. let bad : ◌≡◌ {A = ℕ} 0 1 = cc in omega arith) (λ _.
    by_cond (λ (p : Pending). p ≢ Pending.Overrun) (leb d (size - u)) _ _ (λ _ e. let bad : ◌≡◌ {A = ℕ} 0 1 = cc in omega arith) (λ f e.
    let m : size - u < d = leb-false d (size - u) f in
    omega arith))

-- ---- a list of completions

-- Entry after entry: the books of each read its response from the page that the call left, where it stands as it does in the page with it and those before it.
finish-all : (k : ℕ) (left : List ℕ) (tags : ℕ → Holder) {g : Guest} {put : List Request} {collected : List Gathered} {slots : List (List ℕ)}
    (cs : List Completion) (page : List ℕ) (b : Book) → Half g page put collected b slots → length b.answered + length cs ≤ length b.taken
    → AllFit guest_ring guest-fits (responses_for tags cs)
    → AllRead guest_ring guest-fits (responses_for tags cs) (pages_of guest_ring left k) (length b.answered)
    → Half g (responded_all guest_ring page (length b.answered % modulus) (responses_for tags cs)) put collected
    (posts k (finishings left k cs (statuses_of (responses_for tags cs))) b) slots
unfolding responses_for responded_all said
finish-all k left tags [] page b w room fit reads = w
finish-all k left tags {g} {put} {collected} {slots} (c ∷ cs) page b w room fit reads =
    let x = response_for tags c in
    let xs = responses_for tags cs in
    let n = length b.answered in
    let a = said k left x.status b in
    let deed = finishing k left c.tag.0 c.serial.0 x.status in
    let one = responded guest_ring page (n % modulus) x.pair x.status in
    let long = length-answer_to c.tag.0 c.serial.0 a b.taken in
    let own : a.pair ≡ x.pair = rw w.ring reads.0 in
    let stands : response_pair one (slot_at guest_ring n) ≡ x.pair =
    rw (slot_at-modulus guest_ring guest-fits n) at
    (pair-responded guest_ring guest-fits page (n % modulus) x.pair x.status (guest-bytes page w.holds.sized) fit.0) in
    let next : Half g one put collected (entry deed b) slots =
    half-respond w one a x.pair (answer_to c.tag.0 c.serial.0 a b.taken) long (pairs-answer_to c.tag.0 c.serial.0 a b.taken) refl
    (own ∙ sym stands) (omega arith) in
    let index : after (n % modulus) ≡ length (entry deed b).answered % modulus = omega arith in
    let pages : responded_all guest_ring page (n % modulus) (x ∷ xs) ≡ responded_all guest_ring one (length (entry deed b).answered % modulus) xs =
    one_by_one guest_ring guest-fits x xs page (n % modulus) ∙ ap (λ (i : ℕ). responded_all guest_ring one i xs) index in
    rw (eq-eqb k k refl)
    (subst (λ (p : List ℕ). Half g p put collected (posts k (finishings left k cs (statuses_of xs)) (entry deed b)) slots) (sym pages)
    (finish-all k left tags cs one (entry deed b) next (omega arith) fit.1 reads.2))

-- ---- deeds

module _ (k : ℕ) (small : k < ports) (h : List Event) {g : Guest} {page : List ℕ} {put : List Request} {collected : List Gathered}
    {slots : List (List ℕ)} (w : Half g page put collected (book k h) slots) (sound : Sound (book k h)) where
  -- guest, page and books after deeds that leave this page
  abbrev pub After : List ℕ → List Deed → Type 0
  After new ds = Half g new put collected (posts k ds (book k h)) (slots ++ took_all k ds (book k h))

  -- none
  after_none : (new : List ℕ) → Quiet page new → After new []
  after_none new q = rw (append-nil slots) (half-quiet w new q)

  -- one of another port
  after-other : (new : List ℕ) (d : Deed) → k ≢ port_of d → Quiet page new → After new (d ∷ [])
  after-other new d e q = rw (ne_eqb k (port_of d) e) (after_none new q)

  -- one of its own
  after-own : (new : List ℕ) (d : Deed) → k ≡ port_of d → Half g new put collected (entry d (book k h)) (slots ++ took d (book k h)) → After new (d ∷ [])
  after-own new d e a = rw (eq-eqb k (port_of d) e, append-nil (took d (book k h))) a

  -- the port is this one or another
  by-port : (P : ℕ → Type 0) (j : ℕ) → P k → (k ≢ j → P j) → P j
  by-port P j own other = go (eqb k j) refl
    where
      go : (c : Bool) → eqb k j ≡ c → P j
      go true c = subst P (eqb-true k j c) own
      go false c = other (eqb-false k j c)

  unmoved : (left rings : List ℕ) → pages_of guest_ring rings k ≡ page → pages_of guest_ring left k ≡ pages_of guest_ring rings k → Quiet page (pages_of guest_ring left k)
  unmoved left rings here e = rw (e, here) (quiet-refl page)

  same-rings : (left rings : List ℕ) → pages_of guest_ring rings k ≡ page → left ≡ rings → Quiet page (pages_of guest_ring left k)
  same-rings left rings here e = unmoved left rings here (ap (λ (x : List ℕ). pages_of guest_ring x k) e)

  -- ---- what the rules see of the port

  module _ (rings : List ℕ) (here : pages_of guest_ring rings k ≡ page) where
    -- the distance is that of the counts
    pub pending-is : is_closed (book k h).state ≡ false
        → pending_at (view_at h) rings k ≡ pending_of guest_ring.size (length (unfinished (book k h).taken)) (length put - length (book k h).taken)
    unfolding pending_at distance
    pending-is opened =
        rw (view-ring k h opened, w.ring, view-consumed k h opened, view-in_flight k h opened, here, w.holds.asked)
        (ap (λ (d : ℕ). pending_of guest_ring.size (length (unfinished (book k h).taken)) d)
        (modular (length put) (length (book k h).taken) w.behind
        (omega (arith, put_count w.mine, w.mine.few, w.unread, answered-le w sound))))

    chosen-some : Chosen (view_at h) rings k → length (book k h).taken < length put
    unfolding has_work
    chosen-some f =
        let x : is_work (pending_at (view_at h) rings k) ≡ true = and_right (is_open ((view_at h).state k)) _ f.works in
        omega (arith, work-some _ _ _ (rw (pending-is (chosen-open k h sound rings f)) at x))

    pub never-overruns : Chosen (view_at h) rings k → pending_at (view_at h) rings k ≢ Pending.Overrun
    unfolding ring_for
    never-overruns f e =
        no-overrun guest_ring.size (length (unfinished (book k h).taken)) (length put - length (book k h).taken)
        (omega (arith, put_count w.mine, w.mine.few, w.unread, w.behind, numbers (book k h) sound))
        (sym (pending-is (chosen-open k h sound rings f)) ∙ e)

    -- the page after responses of its own
    pub responded-here : (left : List ℕ) (xs : List ResponseDue) → is_closed (book k h).state ≡ false → length rings ≡ rings_length
        → left ≡ responded_all_at (view_at h) rings k xs → pages_of guest_ring left k ≡ responded_all guest_ring page (length (book k h).answered % modulus) xs
    unfolding responded_all_at
    responded-here left xs opened sized e =
        let n = length (book k h).answered in
        let new = responded_all guest_ring (pages_of guest_ring rings k) (n % modulus) xs in
        let long = length-all guest_ring guest-fits xs n (pages_of guest_ring rings k) (length-pages_of guest_ring guest-fits rings k sized small) in
        let put : left ≡ set_pages guest_ring rings k new = rw (view-ring k h opened, w.ring, view-produced k h opened) at e in
        ap (λ (x : List ℕ). pages_of guest_ring x k) put
        ∙ pages_of-set_pages guest_ring guest-fits rings k sized small new long
        ∙ ap (λ (x : List ℕ). responded_all guest_ring x (n % modulus) xs) here

    -- ---- its own deeds

    own-start : (t s x : ℕ) → Chosen (view_at h) rings k → (left : List ℕ) → left ≡ rings → After (pages_of guest_ring left k) (starting k rings t s x ∷ [])
    own-start t s x f left e =
        after-own (pages_of guest_ring left k) (starting k rings t s x) refl
        (half-quiet (half-take w k rings (started t s x) [] here (chosen-some f)) (pages_of guest_ring left k) (same-rings left rings here e))

    own-answer : (left : List ℕ) (fault : Fault) → AnsweredNow (view_at h) rings left k fault → After (pages_of guest_ring left k) (answering k rings left fault.status ∷ [])
    unfolding said responded
    own-answer left fault f =
        let a = said k left fault.status (book k h) in
        after-own (pages_of guest_ring left k) (answering k rings left fault.status) refl
        (half-respond
        (half-take w k rings at_once (a ∷ []) here (chosen-some f.choice))
        (pages_of guest_ring left k) a _ _ refl refl
        (responded-here left _ (chosen-open k h sound rings f.choice) f.choice.sized (answered-left (view_at h) rings left k fault f))
        (rw w.ring)
        (omega (arith, answered-le w sound)))

    -- the tags that the rules see are those of the books
    held-as : is_closed (book k h).state ≡ false → HeldAs ((view_at h).tag k) (book k h).taken
    unfolding view_at
    held-as opened u = rw opened

    own-finish : (left : List ℕ) (cs : List Completion) (zs : List Status) → Finished (view_at h) rings left k cs zs → After (pages_of guest_ring left k) (finishings left k cs zs)
    unfolding responses_for ring_for
    own-finish left cs zs f =
        let b = book k h in
        let tags = (view_at h).tag k in
        let xs = responses_for tags cs in
        let opened : is_closed b.state ≡ false = rw view-state at f.opened in
        let good : Good guest_ring.size b.taken = subst (λ (r : Ring). Good r.size b.taken) w.ring sound.good in
        let named : any_names_none guest_ring tags cs ≡ false =
        subst (λ (r : Ring). any_names_none r tags cs ≡ false) (view-ring k h opened ∙ w.ring) f.named in
        let few = entries-few guest_ring tags cs b.taken good (held-as opened) named f.apart in
        let fit = responses-fit guest_ring tags guest-fits cs b.taken good (held-as opened) named in
        let counts = numbers b sound in
        let slotted : length xs ≤ guest_ring.size =
        omega (arith, length-map cs (response_for tags), put_count w.mine, w.mine.few, w.unread, w.behind) in
        let there = responded-here left xs opened f.sized f.written in
        let reads = all_read guest_ring guest-fits xs (length b.answered) page (guest-bytes page w.holds.sized) slotted fit in
        rw (f.statuses, took-none k k left cs (statuses_of xs) b, append-nil slots, there)
        (finish-all k left tags cs page b w (omega arith) fit (rw there reads))

  -- ---- calls

  pub after_open : (p : PortId) (sheet : List ℕ) (e : Reply) → k ≢ p.0 → After page (open_deeds p.0 sheet e)
  after_open p sheet (Err why) ne = after_none page (quiet-refl page)
  after_open p sheet (Ok done) ne = after-other page (opening p.0 (params_in (sheet_of sheet))) ne (quiet-refl page)

  pub after-close : (p : PortId) (e : Reply) → After page (close_deeds p.0 e)
  after-close p (Err why) = after_none page (quiet-refl page)
  after-close p (Ok done) =
      by-port (λ j. After page (closing j ∷ [])) p.0
      (after-own page (closing k) refl (rw (append-nil slots) (half-state w State.Closed)))
      (λ ne. after-other page (closing p.0) ne (quiet-refl page))

  module _ (rings : List ℕ) (sized : length rings ≡ rings_length) (here : pages_of guest_ring rings k ≡ page) where
    -- another port's responses
    other-quiet : (left : List ℕ) (j : ℕ) (xs : List ResponseDue) → j < ports → k ≢ j → left ≡ responded_all_at (view_at h) rings j xs → Quiet page (pages_of guest_ring left k)
    other-quiet left j xs there ne e =
        unmoved left rings here (ap (λ (x : List ℕ). pages_of guest_ring x k) e ∙ responded-other h rings k j small sized xs there ne)

    pub after_turn : (left : List ℕ) (x : Result Turned Refusal) → TurnFacts (view_at h) rings left x → TurnLeft (view_at h) rings left x
        → After (pages_of guest_ring left k) (turn_deeds rings left x)
    after_turn left (Err why) f e = after_none _ (same-rings left rings here e)
    after_turn left (Ok Turned.Idle) f e =
        after_none _ (subst (λ (y : List ℕ). Quiet y (pages_of guest_ring left k)) here (rw e (idle-quiet (view_at h) rings k small sized)))
    after_turn left (Ok (Turned.Overrun p)) f e =
        by-port
        (λ j. Chosen (view_at h) rings j → pending_at (view_at h) rings j ≡ Pending.Overrun → After (pages_of guest_ring left k) (breaking j ∷ []))
        p.0
        (λ c o. absurd (never-overruns rings here c o))
        (λ ne c o. after-other _ (breaking p.0) ne (same-rings left rings here e.0))
        f
        e.1
    after_turn left (Ok (Turned.Started p t s plan)) f e =
        by-port
        (λ j. Chosen (view_at h) rings j → After (pages_of guest_ring left k) (starting j rings t.0 s.0 (expected_of plan) ∷ []))
        p.0
        (λ c. own-start rings here t.0 s.0 (expected_of plan) c left e)
        (λ ne c. after-other _ (starting p.0 rings t.0 s.0 (expected_of plan)) ne (same-rings left rings here e))
        f.choice
    after_turn left (Ok (Turned.Answered p fault y)) f e =
        by-port
        (λ j. AnsweredNow (view_at h) rings left j fault → After (pages_of guest_ring left k) (answering j rings left fault.status ∷ []))
        p.0
        (λ a. own-answer rings here left fault a)
        (λ ne a.
        after-other _ (answering p.0 rings left fault.status) ne
        (other-quiet left p.0 _ (chosen-lt a.choice) ne (answered-left (view_at h) rings left p.0 fault a)))
        f

    pub after-complete : (left : List ℕ) (p : PortId) (cs : List Completion) (x : CompleteAnswer) → CompleteFacts (view_at h) rings left p cs x
        → CompleteLeft rings left x → After (pages_of guest_ring left k) (complete_deeds left p.0 cs x)
    after-complete left p cs (none_done n) f e = after_none _ (same-rings left rings here e)
    after-complete left p cs (all_done q zs y) f e =
        by-port
        (λ j. Finished (view_at h) rings left j cs zs → After (pages_of guest_ring left k) (finishings left j cs zs))
        p.0
        (λ a. own-finish rings here left cs zs a)
        (λ ne a.
        rw (posts-others k p.0 left ne cs zs (book k h), took-none k p.0 left cs zs (book k h))
        (after_none _ (other-quiet left p.0 _ a.small ne a.written)))
        f
