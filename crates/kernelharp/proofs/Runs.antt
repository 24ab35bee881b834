-- What holds of every run of the C functions, and that every list of calls has one. Assumes nothing but what the theorem states, that lent bytes are bytes.
use mathlib.Core.Path.{◌≡◌, refl, sym, ap, subst, ◌∙◌}
use mathlib.Core.List.{List, [], ◌∷◌}
use Prim.Native.Nat.{ℕ}
use lib.ListN.{length}
use Rattle.std.specs.Prelude.{Result, Ok, Err}
use Rattle.model.specs.Answers.{refusal, turned_number, completed_number, extents_in, turn_left, done_left, many_left}
use Rattle.model.specs.Backend.{Backend, view_of, next, after_call}
use Rattle.model.specs.Calls.{Effect, TurnEffect, CompleteAnswer, CompleteEffect, Event}
use Rattle.model.specs.Complete.{the_one}
use Rattle.model.specs.Demand.{All}
use Rattle.model.specs.History.{view_at}
use Rattle.model.specs.Port.{View}
use Rattle.model.specs.Rules.{effect_due}
use Rattle.model.specs.Turn.{port_id, tag_id, serial_of}
use Rattle.model.specs.declared.Refusal.{Refusal}
use Rattle.model.specs.declared.Turned.{Turned}
use Rattle.model.proofs.Demand3.{demanded}
use Rattle.model.proofs.Refinement.{Told, told-view}
use Rattle.memory.specs.Backend.{backend_of, memory_of, Exact}
use Rattle.memory.specs.Promise.{Promised}
use Rattle.memory.specs.Words.{zeros}
use Rattle.memory.proofs.Changes.{becomes-exact}
use Rattle.memory.proofs.Zeros.{backend-zeros, zeros-exact, zeros-memory}
use Rattle.theorem.proofs.Every.{CallOutcome, outcome}
use Rattle.theorem.proofs.Runs.{promised-told, told-clean, zeros-told}
use Rattle.kernelharp.specs.Decode.{reply_of, turned_of, completed_of, many_of}
use Rattle.kernelharp.specs.Promise.{due_on, Returned, turn_call, list_call, complete_call}
use Rattle.kernelharp.specs.Run.{Made, kh_open, kh_close, kh_turn, kh_complete, kh_complete_many, Outcome, Step, memory_left, memory_after, call_of, effect_of, event_of, events_after, history_of, Promise, Run, BytesLent, outcome_of, WordForWord, Holds, RunOf, Theorem}
use Rattle.kernelharp.proofs.Kept.{WordsKept, TurnKeeps, turn-keeps, complete-listed}
use Rattle.kernelharp.proofs.Decode.{reply-decoded, turned-decoded, completed-decoded, many-decoded, Long, turn-long, extents-decoded}
use Rattle.kernelharp.proofs.Returns.{returned, list-returned}

-- ---- what is decoded is what is due

-- a refusal's words are those lent, and those of a turn that was done are its answer's
extents-left : (r : Result Turned Refusal) (xs answer words : List ℕ) → WordsKept (extents_in answer) xs r
    → (turned_number r ≡ 0 → length xs ≡ 44) → words ≡ turn_left r answer xs → extents_in words ≡ xs
extents-left (Ok did) xs answer words k l w = rw w (extents-decoded did xs (l refl))
extents-left (Err e) xs answer words k l w = ap extents_in w ∙ sym k.0

turn-effect : (e : TurnEffect) (answer : List ℕ) (n : ℕ) (pages words : List ℕ) → TurnKeeps (extents_in answer) e → Long e → n ≡ turned_number e.answer
    → pages ≡ e.rings → words ≡ turn_left e.answer answer e.words
    → ◌≡◌ {A = TurnEffect} (record { rings = pages; words = extents_in words; answer = turned_of n words }) e
turn-effect e answer n pages words k l h p w =
    let a : turned_of n words ≡ e.answer = ap (λ (z : ℕ). turned_of z words) h ∙ turned-decoded e.answer answer e.words words w in
    let x : extents_in words ≡ e.words = extents-left e.answer e.words answer words k l w in
    λ i. record { rings = p i; words = x i; answer = a i }

-- whatever the function's words are
list-effect : (decoded : ℕ → List ℕ → CompleteAnswer) (e : CompleteEffect) (n : ℕ) (pages words : List ℕ) → n ≡ completed_number e.answer → pages ≡ e.rings
    → decoded (completed_number e.answer) words ≡ e.answer → ◌≡◌ {A = CompleteEffect} (record { rings = pages; answer = decoded n words }) e
list-effect decoded e n pages words h p w =
    let a : decoded n words ≡ e.answer = ap (λ (z : ℕ). decoded z words) h ∙ w in
    λ i. record { rings = p i; answer = a i }

-- so the step's own event is the one due
pub effect-due : (m : List ℕ) (c : Made) (o : Outcome c) → Promise m c o → effect_of c o ≡ due_on m (call_of c)
unfolding effect_due
effect-due m (kh_open p sheet) o r = ap reply_of r.number ∙ reply-decoded _
effect-due m (kh_close p) o r = ap reply_of r.number ∙ reply-decoded _
effect-due m (kh_turn rings grants answer) o r =
    turn-effect (due_on m (turn_call rings grants answer)) answer o.number o.rings o.answer
    (turn-keeps (view_of (backend_of m)) rings grants (extents_in answer)) (turn-long (view_of (backend_of m)) rings grants (extents_in answer))
    r.returned.number r.rings_due r.answer_due
effect-due m (kh_complete rings p t s x answer) o r =
    let e = due_on m (complete_call rings p t s x) in
    list-effect completed_of e o.number o.rings o.answer r.returned.number r.rings_due
    (completed-decoded e.answer answer o.answer (complete-listed (view_of (backend_of m)) rings (port_id p) (the_one (tag_id t) (serial_of s) x)) r.answer_due)
effect-due m (kh_complete_many rings p entries answer) o r =
    let e = due_on m (list_call rings p entries) in
    list-effect many_of e o.number o.rings o.answer r.returned.number r.rings_due
    (many-decoded _ e.answer answer o.answer (complete-listed (view_of (backend_of m)) rings (port_id p) entries) r.answer_due)

-- what every function returned
pub number_of : (c : Made) → Outcome c → ℕ
number_of (kh_open p sheet) o = o.number
number_of (kh_close p) o = o.number
number_of (kh_turn rings grants answer) o = o.number
number_of (kh_complete rings p t s x answer) o = o.number
number_of (kh_complete_many rings p entries answer) o = o.number

pub step-returned : (m : List ℕ) (c : Made) (o : Outcome c) → Promise m c o → Returned m (call_of c) (number_of c o) (memory_left c o)
unfolding number_of
step-returned m (kh_open p sheet) o r = r
step-returned m (kh_close p) o r = r
step-returned m (kh_turn rings grants answer) o r = r.returned
step-returned m (kh_complete rings p t s x answer) o r = r.returned
step-returned m (kh_complete_many rings p entries answer) o r = r.returned

-- a promise of the C function is the promise of the call, with the effect decoded
step-promised : (m : List ℕ) (c : Made) (o : Outcome c) → Promise m c o → Promised m (call_of c) (effect_of c o) (memory_left c o)
step-promised m c o r =
    let p = step-returned m c o r in
    subst (λ (e : Effect (call_of c)). Promised m (call_of c) e (memory_left c o)) (sym (effect-due m c o r)) (record {
      effect = refl;
      memory = p.becomes;
      still = p.still;
    })

-- the outcome is that of the effect due
left-due : (m : List ℕ) (c : Made) (o : Outcome c) → Promise m c o → Exact m → o ≡ outcome_of c (due_on m (call_of c)) (memory_of (after_call (backend_of m) (call_of c)))
left-due m (kh_open p sheet) o r x = λ i. record { number = r.number i; memory = r.becomes.words x i }
left-due m (kh_close p) o r x = λ i. record { number = r.number i; memory = r.becomes.words x i }
left-due m (kh_turn rings grants answer) o r x =
    λ i. record { number = r.returned.number i; rings = r.rings_due i; answer = r.answer_due i; memory = r.returned.becomes.words x i }
left-due m (kh_complete rings p t s x answer) o r y =
    λ i. record { number = r.returned.number i; rings = r.rings_due i; answer = r.answer_due i; memory = r.returned.becomes.words y i }
left-due m (kh_complete_many rings p entries answer) o r y =
    λ i. record { number = r.returned.number i; rings = r.rings_due i; answer = r.answer_due i; memory = r.returned.becomes.words y i }

-- what the step's own event makes of the backend is what the one due makes
step-next : (m : List ℕ) (s : Step) → Promise m s.made s.left → next (backend_of m) (event_of s) ≡ after_call (backend_of m) (call_of s.made)
step-next m s r =
    ap (λ (e : Effect (call_of s.made)). next (backend_of m) (record { call = call_of s.made; effect = e })) (effect-due m s.made s.left r)

-- ---- of every run

module _ (m : List ℕ) (h : List Event) (s : Step) (y : BytesLent s.made) (r : Promise m s.made s.left) (w : Told (backend_of m) h) where
  pub step-told : Told (backend_of (memory_left s.made s.left)) (event_of s ∷ h)
  step-told =
      promised-told m h (call_of s.made) (effect_of s.made s.left) (memory_left s.made s.left) y w (step-promised m s.made s.left r)

  -- what is due on the memory is due on the history
  step-exact : Exact m
      → s.left ≡ outcome_of s.made (effect_due (view_at h) (call_of s.made)) (memory_of (next (backend_of m) (event_of s)))
  step-exact x =
      left-due m s.made s.left r x
      ∙ ap (λ (v : View). outcome_of s.made (effect_due v (call_of s.made)) (memory_of (after_call (backend_of m) (call_of s.made)))) (told-view (backend_of m) h w)
      ∙ ap (λ (b : Backend). outcome_of s.made (effect_due (view_at h) (call_of s.made)) (memory_of b)) (sym (step-next m s r))

  step-backend : backend_of (memory_left s.made s.left) ≡ next (backend_of m) (event_of s)
  step-backend = (step-returned m s.made s.left r).becomes.backend ∙ sym (step-next m s r)

-- all that is known after a run
pub record After (m : List ℕ) (h : List Event) (run : List Step) : Type 0 where
  pub told : Told (backend_of (memory_after m run)) (events_after h run)
  pub exact : Exact (memory_after m run)
  pub words : WordForWord h (backend_of m) run

pub run-after : (m : List ℕ) (h : List Event) (run : List Step) → Run m run → All (λ s. BytesLent s.made) run → Told (backend_of m) h → Exact m → After m h run
run-after m h [] r y w x = record { told = w; exact = x; words = tt }
run-after m h (s ∷ run) r y w x =
    let left = memory_left s.made s.left in
    let p = step-returned m s.made s.left r.0 in
    let rest = run-after left (event_of s ∷ h) run r.1 y.1 (step-told m h s y.0 r.0 w) (becomes-exact p.becomes x) in
    record {
      told = rest.told;
      exact = rest.exact;
      words = (
        step-exact m h s y.0 r.0 w x,
        subst (λ (b : Backend). WordForWord (event_of s ∷ h) b run) (step-backend m h s y.0 r.0 w) rest.words,
      );
    }

run_holds : (run : List Step) → Run zeros run → All (λ s. BytesLent s.made) run → Holds run
run_holds run r y =
    let a = run-after zeros [] run r y zeros-told zeros-exact in
    record {
      demand3 = demanded (backend_of (memory_after zeros run)) (history_of run) a.told;
      word_for_word = subst (λ (b : Backend). WordForWord [] b run) backend-zeros a.words;
      shown = told-view (backend_of (memory_after zeros run)) (history_of run) a.told;
      clean = told-clean (memory_after zeros run) (history_of run) a.exact a.told;
    }

-- ---- every list of calls has a run

-- one call, with all that its function leaves
pub record Done (m : List ℕ) (c : Made) : Type 0 where
  pub left : Outcome c
  pub promise : Promise m c left

pub call-done : (m : List ℕ) (c : Made) → CallOutcome m (call_of c) → Done m c
call-done m (kh_open p sheet) o =
    let c = call_of (kh_open p sheet) in
    record { left = record { number = refusal c (due_on m c); memory = o.left }; promise = returned m c (due_on m c) o.left _ o.promised refl }
call-done m (kh_close p) o =
    let c = call_of (kh_close p) in
    record { left = record { number = refusal c (due_on m c); memory = o.left }; promise = returned m c (due_on m c) o.left _ o.promised refl }
call-done m (kh_turn rings grants answer) o =
    let c = turn_call rings grants answer in
    let e = due_on m c in
    record {
      left = outcome_of (kh_turn rings grants answer) e o.left;
      promise = record { returned = returned m c e o.left _ o.promised refl; rings_due = refl; answer_due = refl };
    }
call-done m (kh_complete rings p t s x answer) o =
    let e = due_on m (complete_call rings p t s x) in
    record {
      left = outcome_of (kh_complete rings p t s x answer) e o.left;
      promise = list-returned done_left m rings p (the_one (tag_id t) (serial_of s) x) answer e o.left _ _ o.promised (refl, refl);
    }
call-done m (kh_complete_many rings p entries answer) o =
    let e = due_on m (list_call rings p entries) in
    record {
      left = outcome_of (kh_complete_many rings p entries answer) e o.left;
      promise = list-returned many_left m rings p entries answer e o.left _ _ o.promised (refl, refl);
    }

run-every : (m : List ℕ) → Exact m → (calls : List Made) → All BytesLent calls → RunOf m calls
run-every m x [] y = record { steps = []; run = tt; made = refl }
run-every m x (c ∷ calls) y =
    let d = call-done m c (outcome m x (call_of c) y.0) in
    let left = memory_left c d.left in
    let rest = run-every left (becomes-exact (step-returned m c d.left d.promise).becomes x) calls y.1 in
    let s : Step = record { made = c; left = d.left } in
    record { steps = s ∷ rest.steps; run = (d.promise, rest.run); made = ap (λ (l : List Made). c ∷ l) rest.made }

pub interface-theorem : Theorem
interface-theorem = record { begins = zeros-memory; holds = run_holds; every = run-every zeros zeros-exact }
