-- What holds of every run of the C functions of both halves: each step shows what the rules of its half make of what was shown before. Assumes nothing but what the
-- theorem states.
use mathlib.Core.Path.{◌≡◌, refl, sym, ap, ◌∙◌, subst, subst₂}
use mathlib.Core.Bool.{not, cond}
use mathlib.Core.List.{List, [], ◌∷◌, ◌++◌}
use Prim.Native.Nat.{ℕ, ◌<◌}
use lib.Dec.{eqb, ltb, leb}
use lib.ListN.{length, length-replicate}
use Rattle.wire.proofs.Part.{set_part-part}
use Rattle.model.specs.Answers.{put_number, collected_number, put_left, collected_left, extents_in}
use Rattle.model.specs.Backend.{Backend, event_on, after_call}
use Rattle.model.specs.Buffers.{ports, rings_length, pages_of, set_pages}
use Rattle.model.specs.Calls.{Turn, Effect, Event}
use Rattle.model.specs.Complete.{the_one}
use Rattle.model.specs.Ring.{Request}
use Rattle.model.specs.Turn.{port_id, tag_id, serial_of}
use Rattle.model.specs.Demand.{All, IsBytes}
use Rattle.model.proofs.Base.{by_cond}
use Rattle.model.proofs.Page.{pages_of-set_pages, length-set_pages, bytes-set_pages}
use Rattle.memory.specs.Backend.{backend_of, Exact}
use Rattle.memory.specs.Words.{zeros}
use Rattle.memory.proofs.Changes.{becomes-exact}
use Rattle.memory.proofs.Zeros.{backend-zeros, zeros-exact}
use Rattle.theorem.proofs.Every.{outcome}
use Rattle.theorem.proofs.Runs.{zeros-told}
use Rattle.asking.specs.Request.{request_in, is_bad}
use Rattle.guest.specs.Guest.{guest_ring, Guest, guest_page, zero_page, is_page, most_outstanding, has, same_id, same_pair, fresh_guest, PutEffect, put_due, puts, CollectEffect, ahead, next_pair, collect_due, collects, waits}
use Rattle.outstanding.specs.Words.{guest_words, pairs_in, guest_of, guest_zeros}
use Rattle.frontend.specs.Promise.{put_words_left, collect_words_left}
use Rattle.frontend.proofs.Promises.{put-guest, collect-guest, length-put, length-collect}
use Rattle.halves.specs.System.{System, putting, collecting, turning, completing, opening_other, closing_any, log_put, log_collected, log_refused, called, step, opened}
use Rattle.halves.proofs.Page.{guest-fits, guest-bytes}
use Rattle.halves.proofs.Slot.{words-fit}
use Rattle.halves.specs.Claim.{NotOpening}
use Rattle.halves.proofs.Before.{Before, before-none, before-step}
use Rattle.halves.proofs.Together.{Kept, kept-first, kept_step, holds}
use Rattle.kernelharp.specs.Guest.{GuestLeft, put_due_on, collect_due_on, PutReturned, CollectReturned}
use Rattle.kernelharp.specs.Promise.{due_on, list_call}
use Rattle.kernelharp.specs.Halves.{HalfStep, put, collect, backend, page_left, LendsPage, AreWords, HalvesRun, Log, now_put, now_collected, now_refused, logged, shown, shown_after, opened_log, Wish, makes_put, makes_collect, makes_call, with_page, MayWish, HalvesRunOf, HalvesTheorem}
use Rattle.kernelharp.specs.Run.{Made, kh_open, kh_close, kh_turn, kh_complete, kh_complete_many, Outcome, Left, Step, memory_left, memory_after, call_of, effect_of, event_of, events_after, history_of, Promise, Run, BytesLent}
use Rattle.kernelharp.proofs.Runs.{effect-due, step-returned, run-after, call-done}

-- ---- the guest's calls

-- what a put logs, by the number that it returned
put-logged : (g : Guest) (page : List ℕ) (r : Request) → log_put (put_due g page r).answer r ≡ cond (eqb (put_number (put_due g page r).answer) 0) (r ∷ []) []
unfolding put_due puts
put-logged g page r =
    let P : PutEffect → Type 0 = λ e. log_put e.answer r ≡ cond (eqb (put_number e.answer) 0) (r ∷ []) [] in
    by_cond P (not (is_page page)) _ _ (λ _. refl) (λ _.
    by_cond P (leb most_outstanding (length g.outstanding)) _ _ (λ _. refl) (λ _.
    by_cond P (has (same_id r.pair.id) g.outstanding) _ _ (λ _. refl) (λ _.
    by_cond P (is_bad r) _ _ (λ _. refl) (λ _. refl))))

-- what a collect logs, by the number and the words that it left
abbrev Logs : List ℕ → CollectEffect → Type 0
Logs answer e =
    (log_collected e.answer ≡ now_collected (collected_number e.answer) (collected_left e.answer answer))
    × (log_refused e.answer ≡ now_refused (collected_number e.answer))

collect-logged : (g : Guest) (page answer : List ℕ) → Logs answer (collect_due g page)
unfolding collect_due collects waits
collect-logged g page answer =
    by_cond (Logs answer) (not (is_page page)) _ _ (λ _. (refl, refl)) (λ _.
    by_cond (Logs answer) (ltb (length g.outstanding) (ahead g page)) _ _ (λ _. (refl, refl)) (λ _.
    by_cond (Logs answer) (eqb (ahead g page) 0) _ _ (λ _. (refl, refl)) (λ _.
    by_cond (Logs answer) (not (has (same_pair (next_pair g page)) g.outstanding)) _ _ (λ _. (refl, refl)) (λ _. (refl, refl)))))

-- ---- a call on the backend is the one that the rules give

module _ (m : List ℕ) (c : Made) (o : Outcome c) (r : Promise m c o) where
  event-due : event_on (backend_of m) (call_of c) ≡ record { call = call_of c; effect = effect_of c o }
  event-due = ap (λ (e : Effect (call_of c)). record { call = call_of c; effect = e }) (sym (effect-due m c o r))

  after-due : after_call (backend_of m) (call_of c) ≡ backend_of (memory_left c o)
  after-due = sym (step-returned m c o r).becomes.backend

  called-shown : (w page left : List ℕ) (l : Log) → called (shown m w page l) (call_of c) left ≡ shown (memory_left c o) w left (logged l (backend (record { made = c; left = o })))
  called-shown w page left l = λ i. record {
    guest = guest_of w;
    page = left;
    backend = after-due i;
    events = event-due i ∷ l.events;
    put = l.put;
    collected = l.collected;
    refusals = l.refusals;
  }

-- the page that is lent is where it was
lent_same : (k : ℕ) (rings page : List ℕ) → pages_of guest_ring rings k ≡ page → set_pages guest_ring rings k page ≡ rings
unfolding set_pages pages_of
lent_same k rings page e = rw (← e) (set_part-part _ rings _)

-- ---- every step

module _ (k : ℕ) (small : k < ports) (m w page : List ℕ) (l : Log) (h : Kept k (shown m w page l)) where
  put-shown : (request answer : List ℕ) (o : GuestLeft) → PutReturned w page request answer o
      → step k (shown m w page l) (putting (request_in request)) ≡ shown m o.guest o.page (logged l (put request answer o))
  unfolding step
  put-shown request answer o r =
      let log : log_put (put_due_on w page request).answer (request_in request) ≡ now_put o.number request =
      put-logged (guest_of w) page (request_in request) ∙ ap (λ (n : ℕ). now_put n request) (sym r.number) in
      λ i. record {
        guest = sym r.guest_due i;
        page = sym r.page_due i;
        backend = backend_of m;
        events = l.events;
        put = l.put ++ log i;
        collected = l.collected;
        refusals = l.refusals;
      }

  put-kept : (request answer : List ℕ) (o : GuestLeft) → PutReturned w page request answer o → AreWords request
      → Kept k (shown m o.guest o.page (logged l (put request answer o)))
  put-kept request answer o r y =
      subst (Kept k) (put-shown request answer o r) (kept_step k small (shown m w page l) h (putting (request_in request)) (words-fit request y))

  collect-shown : (answer : List ℕ) (o : GuestLeft) → CollectReturned w page answer o
      → step k (shown m w page l) collecting ≡ shown m o.guest o.page (logged l (collect answer o))
  unfolding step
  collect-shown answer o r =
      let e = (collect_due_on w page).answer in
      let log = collect-logged (guest_of w) page answer in
      let found : log_collected e ≡ now_collected o.number o.answer = log.0 ∙ (λ i. now_collected (sym r.number i) (sym r.answer_due i)) in
      let refused : log_refused e ≡ now_refused o.number = log.1 ∙ ap now_refused (sym r.number) in
      λ i. record {
        guest = sym r.guest_due i;
        page = sym r.page_due i;
        backend = backend_of m;
        events = l.events;
        put = l.put;
        collected = l.collected ++ found i;
        refusals = l.refusals ++ refused i;
      }

  collect-kept : (answer : List ℕ) (o : GuestLeft) → CollectReturned w page answer o → Kept k (shown m o.guest o.page (logged l (collect answer o)))
  collect-kept answer o r = subst (Kept k) (collect-shown answer o r) (kept_step k small (shown m w page l) h collecting tt)

  -- a list of completions, whichever function it was
  list-kept : (rings : List ℕ) (p : ℕ) (entries left : List ℕ) → left ≡ (due_on m (list_call rings p entries)).rings → IsBytes rings → length rings ≡ rings_length
      → pages_of guest_ring rings k ≡ page → (x : System) → called (shown m w page l) (list_call rings p entries) (pages_of guest_ring left k) ≡ x → Kept k x
  unfolding step
  list-kept rings p entries left due bytes sized here x e =
      let S : List ℕ → System =
      λ z. called (shown m w page l) (list_call z p entries) (pages_of guest_ring (event_on (backend_of m) (list_call z p entries)).effect.rings k) in
      subst
      (Kept k)
      (ap S (lent_same k rings page here)
      ∙ ap (λ (z : List ℕ). called (shown m w page l) (list_call rings p entries) (pages_of guest_ring z k)) (sym due)
      ∙ e)
      (kept_step k small (shown m w page l) h (completing rings (port_id p) entries) (bytes, sized))

  -- a call that lends the page: what it leaves of the page, and the system that it shows
  backend-kept : (c : Made) (o : Outcome c) → Promise m c o → LendsPage k page c
      → Kept k (shown (memory_left c o) w (page_left k page c o) (logged l (backend (record { made = c; left = o }))))
  unfolding step
  backend-kept (kh_open p sheet) o r y =
      subst (Kept k) (called-shown m (kh_open p sheet) o r w page page l) (kept_step k small (shown m w page l) h (opening_other (port_id p) sheet) y)
  backend-kept (kh_close p) o r y =
      subst (Kept k) (called-shown m (kh_close p) o r w page page l) (kept_step k small (shown m w page l) h (closing_any (port_id p)) tt)
  backend-kept (kh_turn rings grants answer) o r y =
      let words = extents_in answer in
      let S : List ℕ → System =
      λ x. called (shown m w page l) (Turn x grants words) (pages_of guest_ring (event_on (backend_of m) (Turn x grants words)).effect.rings k) in
      subst
      (Kept k)
      (ap S (lent_same k rings page y.2)
      ∙ ap (λ (x : List ℕ). called (shown m w page l) (Turn rings grants words) (pages_of guest_ring x k)) (sym r.rings_due)
      ∙ called-shown m (kh_turn rings grants answer) o r w page (pages_of guest_ring o.rings k) l)
      (kept_step k small (shown m w page l) h (turning rings grants words) (y.0, y.1))
  backend-kept (kh_complete rings p t s x answer) o r y =
      list-kept rings p (the_one (tag_id t) (serial_of s) x) o.rings r.rings_due y.0 y.1 y.2 _ (called-shown m (kh_complete rings p t s x answer) o r w page (pages_of guest_ring o.rings k) l)
  backend-kept (kh_complete_many rings p entries answer) o r y =
      list-kept rings p entries o.rings r.rings_due y.0 y.1 y.2 _ (called-shown m (kh_complete_many rings p entries answer) o r w page (pages_of guest_ring o.rings k) l)

run-kept : (k : ℕ) → k < ports → (m w page : List ℕ) (l : Log) → Kept k (shown m w page l) → (run : List HalfStep) → HalvesRun k m w page run
    → Kept k (shown_after k m w page l run)
run-kept k small m w page l h [] r = h
run-kept k small m w page l h (put request answer o ∷ run) r =
    run-kept k small m o.guest o.page _ (put-kept k small m w page l h request answer o r.0 r.1) run r.2
run-kept k small m w page l h (collect answer o ∷ run) r =
    run-kept k small m o.guest o.page _ (collect-kept k small m w page l h answer o r.0) run r.1
run-kept k small m w page l h (backend s ∷ run) r =
    run-kept k small (memory_left s.made s.left) w _ _ (backend-kept k small m w page l h s.made s.left r.0 r.1) run r.2

-- ---- from the opening

fresh : guest_of guest_zeros ≡ fresh_guest
unfolding guest_of pairs_in
fresh = refl

-- the calls before it leave the port closed
before-run : (k : ℕ) (m : List ℕ) (h : List Event) → Before k (backend_of m) h → (run : List Step) → Run m run → All (λ s. BytesLent s.made) run
    → All (λ s. NotOpening k (call_of s.made)) run → Before k (backend_of (memory_after m run)) (events_after h run)
before-run k m h w [] r y n = w
before-run k m h w (s ∷ run) r y n =
    let b = before-step k (backend_of m) h (call_of s.made) y.0 n.0 w in
    let next : Before k (backend_of (memory_left s.made s.left)) (event_of s ∷ h) =
    subst₂ (λ (x : Backend) (e : Event). Before k x (e ∷ h)) (after-due m s.made s.left r.0) (event-due m s.made s.left r.0) b in
    before-run k (memory_left s.made s.left) _ next run r.1 y.1 n.1

module _ (k : ℕ) (before : List Step) (sheet : List ℕ) (m : List ℕ) (o : Left) (r : Promise m (kh_open k sheet) o) where
  opened-shown : opened k (backend_of m) (history_of before) sheet ≡ shown o.memory guest_zeros zero_page (opened_log k before sheet o)
  opened-shown = λ i. record {
    guest = sym fresh i;
    page = zero_page;
    backend = after-due m (kh_open k sheet) o r i;
    events = event-due m (kh_open k sheet) o r i ∷ history_of before;
    put = [];
    collected = [];
    refusals = [];
  }

-- ---- every list of wishes has a run

-- what a put leaves, and what a collect leaves
put-outcome : (w page request answer : List ℕ) → GuestLeft
put-outcome w page request answer =
    let e = put_due_on w page request in
    record { number = put_number e.answer; guest = put_words_left w (request_in request).pair e.answer; page = e.page; answer = put_left e.answer answer }

collect-outcome : (w page answer : List ℕ) → GuestLeft
collect-outcome w page answer =
    let e = collect_due_on w page in
    record { number = collected_number e.answer; guest = collect_words_left w e.answer; page = e.page; answer = collected_left e.answer answer }

put-done : (w page request answer : List ℕ) → length w ≡ guest_words → PutReturned w page request answer (put-outcome w page request answer)
unfolding put-outcome
put-done w page request answer sized =
    record { number = refl; page_due = refl; answer_due = refl; guest_due = put-guest w page (request_in request) sized; words = refl }

collect-done : (w page answer : List ℕ) → length w ≡ guest_words → CollectReturned w page answer (collect-outcome w page answer)
unfolding collect-outcome
collect-done w page answer sized =
    record { number = refl; page_due = refl; answer_due = refl; guest_due = collect-guest w page sized; words = refl }

-- the call that lends the page
page-lent : (k : ℕ) → k < ports → (page : List ℕ) → IsBytes page → length page ≡ guest_page → (c : Made) → MayWish k (makes_call c) → LendsPage k page (with_page k page c)
page-lent k small page b z (kh_open p sheet) y = y
page-lent k small page b z (kh_close p) y = tt
page-lent k small page b z (kh_turn rings grants answer) y =
    (bytes-set_pages guest_ring rings k page y.0 b, length-set_pages guest_ring guest-fits rings k y.1 small page (guest-bytes page z) ∙ y.1, pages_of-set_pages guest_ring guest-fits rings k y.1 small page (guest-bytes page z))
page-lent k small page b z (kh_complete rings p t s x answer) y =
    (bytes-set_pages guest_ring rings k page y.0 b, length-set_pages guest_ring guest-fits rings k y.1 small page (guest-bytes page z) ∙ y.1, pages_of-set_pages guest_ring guest-fits rings k y.1 small page (guest-bytes page z))
page-lent k small page b z (kh_complete_many rings p entries answer) y =
    (bytes-set_pages guest_ring rings k page y.0 b, length-set_pages guest_ring guest-fits rings k y.1 small page (guest-bytes page z) ∙ y.1, pages_of-set_pages guest_ring guest-fits rings k y.1 small page (guest-bytes page z))

lent-bytes : (k : ℕ) (page : List ℕ) (c : Made) → LendsPage k page c → BytesLent c
lent-bytes k page (kh_open p sheet) y = tt
lent-bytes k page (kh_close p) y = tt
lent-bytes k page (kh_turn rings grants answer) y = y.0
lent-bytes k page (kh_complete rings p t s x answer) y = y.0
lent-bytes k page (kh_complete_many rings p entries answer) y = y.0

run-every : (k : ℕ) → k < ports → (m w page : List ℕ) (l : Log) → Kept k (shown m w page l) → Exact m → length w ≡ guest_words
    → (wishes : List Wish) → All (MayWish k) wishes → HalvesRunOf k m w page wishes
run-every k small m w page l h x z [] y = record { run = []; ran = tt; as_wished = tt }
run-every k small m w page l h x z (makes_put request answer ∷ wishes) y =
    let o = put-outcome w page request answer in
    let d = put-done w page request answer z in
    let rest =
    run-every k small m o.guest o.page (logged l (put request answer o)) (put-kept k small m w page l h request answer o d y.0) x
    (ap (λ (v : List ℕ). length v) d.words ∙ length-put w (request_in request).pair (put_due_on w page request).answer ∙ z) wishes y.1 in
    record { run = put request answer o ∷ rest.run; ran = (d, y.0, rest.ran); as_wished = (refl, refl, rest.as_wished) }
run-every k small m w page l h x z (makes_collect answer ∷ wishes) y =
    let o = collect-outcome w page answer in
    let d = collect-done w page answer z in
    let rest =
    run-every k small m o.guest o.page (logged l (collect answer o)) (collect-kept k small m w page l h answer o d) x
    (ap (λ (v : List ℕ). length v) d.words ∙ length-collect w (collect_due_on w page).answer ∙ z) wishes y.1 in
    record { run = collect answer o ∷ rest.run; ran = (d, rest.ran); as_wished = (refl, rest.as_wished) }
run-every k small m w page l h x z (makes_call made ∷ wishes) y =
    let c = with_page k page made in
    let lends = page-lent k small page h.half.holds.bytes h.half.holds.sized made y.0 in
    let d = call-done m c (outcome m x (call_of c) (lent-bytes k page c lends)) in
    let s : Step = record { made = c; left = d.left } in
    let exact = becomes-exact (step-returned m c d.left d.promise).becomes x in
    let rest =
    run-every k small (memory_left c d.left) w (page_left k page c d.left) (logged l (backend s))
    (backend-kept k small m w page l h c d.left d.promise lends) exact z wishes y.1 in
    record { run = backend s ∷ rest.run; ran = (d.promise, lends, rest.ran); as_wished = (refl, rest.as_wished) }

pub halves-theorem : HalvesTheorem
halves-theorem k sheet g before ran bytes others o r =
    let m = memory_after zeros before in
    let l = opened_log k before sheet o in
    let closed = before-run k zeros [] (subst (λ (b : Backend). Before k b []) (sym backend-zeros) (before-none k)) before ran bytes others in
    let first = subst (Kept k) (opened-shown k before sheet m o r) (kept-first k sheet g (backend_of m) (history_of before) closed) in
    let exact = becomes-exact r.becomes (run-after zeros [] before ran bytes zeros-told zeros-exact).exact in
    record {
      holds =
          λ run w.
          holds k g.small (shown_after k o.memory guest_zeros zero_page l run) (run-kept k g.small o.memory guest_zeros zero_page l first run w);
      every = λ wishes y. run-every k g.small o.memory guest_zeros zero_page l first exact (length-replicate {A = ℕ} guest_words 0) wishes y;
    }
