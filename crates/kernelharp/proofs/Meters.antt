-- What holds of every metered run of the C functions, and that every list of calls and zeroings has one. Assumes nothing but what the theorem states.
use mathlib.Core.Path.{◌≡◌, refl, sym, ap, subst, ◌∙◌}
use mathlib.Core.Bool.{Bool, true, false, cond, true≢false}
use mathlib.Core.List.{List, [], ◌∷◌, map}
use mathlib.Core.Option.{none, some}
use Rattle.std.specs.Prelude.{Result, Option, Ok, Err, Some}
use Prim.Native.Nat.{ℕ, min}
use native.Mathlib.Omega.{arith}
use lib.Dec.{eqb}
use lib.ListN.{length, take}
use borrow.Author.Tests.{eqb-true}
use Rattle.model.specs.Answers.{turned_number, completed_number, magnitude, magnitudes, status_words, turn_left, done_left, many_left}
use Rattle.model.specs.Backend.{view_of}
use Rattle.model.specs.Calls.{CompleteAnswer, none_done, all_done, Effect, most_completions}
use Rattle.model.specs.Complete.{the_one}
use Rattle.model.specs.Counters.{zero_counters, raised_by, raised_by_all, status_counter, word_counter, after_turned, after_completed, turn_metered, done_metered, many_metered}
use Rattle.model.specs.Counts.{Act, zeroed, events_in, answer_port, handed, went, KeptWell, Counted}
use Rattle.model.specs.Demand.{All}
use Rattle.model.specs.Rules.{effect_due}
use Rattle.model.specs.Turn.{port_id, tag_id, serial_of}
use Rattle.model.specs.declared.Counter.{Counter}
use Rattle.model.specs.declared.Counters.{Counters}
use Rattle.model.specs.declared.Refusal.{Refusal}
use Rattle.model.specs.declared.Status.{Status}
use Rattle.model.specs.declared.Turned.{Turned}
use Rattle.model.proofs.Counts.{counted-event, counted-zeroed, counted-new, zeroed-kept}
use Rattle.model.proofs.Refinement.{Told}
use Rattle.memory.specs.Backend.{backend_of, Exact}
use Rattle.memory.specs.Words.{zeros}
use Rattle.memory.proofs.Changes.{becomes-exact}
use Rattle.memory.proofs.Zeros.{zeros-exact}
use Rattle.theorem.proofs.Every.{outcome}
use Rattle.theorem.proofs.Runs.{zeros-told}
use Rattle.kernelharp.specs.Promise.{due_on, turn_call, list_call, complete_call}
use Rattle.kernelharp.specs.Run.{Made, kh_open, kh_close, kh_turn, kh_complete, kh_complete_many, Outcome, Step, memory_left, call_of, effect_of, event_of, Promise, BytesLent}
use Rattle.kernelharp.specs.Meters.{HostStep, unmetered, metered, zeroing, Records, stored, MeterPromise, MeteredRun, records_after, act_of, acts_after, Wish, makes, zeroes, wish_of, WishBytes, MeteredRunOf, MetersTheorem}
use Rattle.kernelharp.proofs.Kept.{Listed, complete-listed}
use Rattle.kernelharp.proofs.Decode.{numbered, statuses-in}
use Rattle.kernelharp.proofs.Runs.{effect-due, step-returned, step-told, Done, call-done}

-- ---- the words that a call left raise what its answer raises

status-word : (z : Status) → word_counter (magnitude z) ≡ Some (status_counter z)
status-word Status.Okay = refl
status-word Status.Error = refl
status-word Status.NotSupported = refl

turn-words : (r : Result Turned Refusal) (answer extents words : List ℕ) (n : ℕ) (c : Counters) → n ≡ turned_number r → words ≡ turn_left r answer extents
    → turn_metered n words c ≡ after_turned r c
turn-words (Err why) answer extents words n c e w = rw (e, (numbered why).1) refl
turn-words (Ok Turned.Idle) answer extents words n c e w = rw (e, w)
turn-words (Ok (Turned.Overrun p)) answer extents words n c e w = rw (e, w)
turn-words (Ok (Turned.Started p t s plan)) answer extents words n c e w = rw (e, w)
turn-words (Ok (Turned.Answered p f y)) answer extents words n c e w =
    rw (e, w) (ap (λ (x : Option Counter). raised_by x (raised_by (Some Counter.Taken) c)) (status-word f.status))

done-words : (r : CompleteAnswer) (answer words : List ℕ) (n : ℕ) (c : Counters) → Listed 1 r → n ≡ completed_number r → words ≡ done_left r answer
    → done_metered n words c ≡ after_completed r c
done-words (none_done why) answer words n c h e w = rw (e, (numbered why).1) refl
done-words (all_done p [] y) answer words n c h e w = absurd (omega (arith, h.0))
done-words (all_done p (z ∷ []) y) answer words n c h e w = rw (e, w) (ap (λ (x : Option Counter). raised_by x c) (status-word z))
done-words (all_done p (z ∷ x ∷ zs) y) answer words n c h e w = absurd (omega (arith, h.0))

status-words : (zs : List Status) → map word_counter (magnitudes zs) ≡ map (λ z. Some (status_counter z)) zs
status-words [] = refl
status-words (z ∷ zs) = λ i. status-word z i ∷ status-words zs i

many-words : (k : ℕ) (r : CompleteAnswer) (answer words : List ℕ) (n : ℕ) (c : Counters) → Listed k r → n ≡ completed_number r → words ≡ many_left r answer
    → many_metered n words c ≡ after_completed r c
many-words k (none_done why) answer words n c h e w = rw (e, (numbered why).1) refl
many-words k (all_done p zs y) answer words n c h e w =
    let few : min most_completions (length zs) ≡ length zs = omega (arith, h.0, h.1) in
    rw (e, w)
    (ap (λ (l : List (Option Counter)). raised_by_all l c)
    (ap (λ (j : ℕ). map word_counter (take j (status_words zs))) few ∙ ap (map word_counter) (statuses-in zs) ∙ status-words zs))

-- so the record is left as the step's own event raises it
left-handed : (m : List ℕ) (c : Made) (o : Outcome c) (lent left : Counters) → Promise m c o → MeterPromise c o lent left → left ≡ handed (call_of c) (effect_of c o) lent
unfolding effect_due
left-handed m (kh_open p sheet) o lent left r q = absurd q
left-handed m (kh_close p) o lent left r q = absurd q
left-handed m (kh_turn rings grants answer) o lent left r q =
    let e = due_on m (turn_call rings grants answer) in
    q
    ∙ turn-words e.answer answer e.words o.answer o.number lent r.returned.number r.answer_due
    ∙ ap (λ (x : Effect (turn_call rings grants answer)). after_turned x.answer lent) (sym (effect-due m (kh_turn rings grants answer) o r))
left-handed m (kh_complete rings p t s x answer) o lent left r q =
    let e = due_on m (complete_call rings p t s x) in
    q
    ∙ done-words e.answer answer o.answer o.number lent (complete-listed (view_of (backend_of m)) rings (port_id p) (the_one (tag_id t) (serial_of s) x)) r.returned.number r.answer_due
    ∙ ap (λ (y : Effect (complete_call rings p t s x)). after_completed y.answer lent) (sym (effect-due m (kh_complete rings p t s x answer) o r))
left-handed m (kh_complete_many rings p entries answer) o lent left r q =
    let e = due_on m (list_call rings p entries) in
    q
    ∙ many-words _ e.answer answer o.answer o.number lent (complete-listed (view_of (backend_of m)) rings (port_id p) entries) r.returned.number r.answer_due
    ∙ ap (λ (y : Effect (list_call rings p entries)). after_completed y.answer lent) (sym (effect-due m (kh_complete_many rings p entries answer) o r))

-- ---- every metered run

-- all that is known on the way, of records that were `first` at the beginning
record Known (first : Records) (m : List ℕ) (h : List Act) (r : Records) : Type 0 where
  told : Told (backend_of m) (events_in h)
  counted : (k : ℕ) → KeptWell k (first k) h → Counted k h (r k)

-- one record was raised, and the others stayed
raised-one : (k j : ℕ) (f : Counters → Counters) (r : Records) (left : Counters) (P : Counters → Type 0) → left ≡ f (r j)
    → P (cond (eqb k j) (f (r k)) (r k)) → P (stored j left r k)
raised-one k j f r left P e = go (eqb k j) refl
  where
    go : (b : Bool) → eqb k j ≡ b → P (cond b (f (r k)) (r k)) → P (cond b left (r k))
    go true q p = subst P (ap (λ (i : ℕ). f (r i)) (eqb-true k j q) ∙ sym e) p
    go false q p = p

module _ (first : Records) (m : List ℕ) (h : List Act) (r : Records) (known : Known first m h r) where
  known-unmetered : (s : Step) → BytesLent s.made → Promise m s.made s.left → Known first (memory_left s.made s.left) (act_of (unmetered s) ∷ h) r
  unfolding events_in
  known-unmetered s y p =
      let t = step-told m (events_in h) s y p known.told in
      record { told = t; counted = λ k w. counted-event _ k h (event_of s) none (r k) t w.0 (known.counted k w.1) }

  known-metered : (s : Step) (j : ℕ) (left : Counters) → BytesLent s.made → Promise m s.made s.left → MeterPromise s.made s.left (r j) left
      → Known first (memory_left s.made s.left) (act_of (metered s j left) ∷ h) (stored j left r)
  unfolding events_in
  known-metered s j left y p q =
      let t = step-told m (events_in h) s y p known.told in
      let e = left-handed m s.made s.left (r j) left p q in
      record {
        told = t;
        counted =
            λ k w. raised-one k j (handed (call_of s.made) (effect_of s.made s.left)) r left (Counted k (act_of (metered s j left) ∷ h)) e
            (counted-event _ k h (event_of s) (some j) (r k) t w.0 (known.counted k w.1));
      }

  known-zeroed : (j : ℕ) → Known first m (zeroed j ∷ h) (stored j zero_counters r)
  unfolding events_in
  known-zeroed j = record { told = known.told; counted = λ k w. counted-zeroed k j h (r k) (zeroed-kept (known.counted k) w) }

run-counted : (first : Records) (m : List ℕ) (h : List Act) (r : Records) → Known first m h r → (host : List HostStep) → MeteredRun m r host
    → All (λ s. WishBytes (wish_of s)) host → (k : ℕ) → KeptWell k (first k) (acts_after h host) → Counted k (acts_after h host) (records_after r host k)
run-counted first m h r known [] run y = known.counted
run-counted first m h r known (unmetered s ∷ host) run y =
    run-counted first (memory_left s.made s.left) _ r (known-unmetered first m h r known s y.0 run.0) host run.1 y.1
run-counted first m h r known (metered s j left ∷ host) run y =
    run-counted first (memory_left s.made s.left) _ _ (known-metered first m h r known s j left y.0 run.0 run.1) host run.2 y.1
run-counted first m h r known (zeroing j ∷ host) run y = run-counted first m _ _ (known-zeroed first m h r known j) host run y.1

none-known : (r : Records) → Known r zeros [] r
unfolding events_in
none-known r = record { told = zeros-told; counted = λ k. counted-new k (r k) }

-- ---- every list of calls and zeroings has one

-- what the meter function leaves of a record
record Raised (c : Made) (o : Outcome c) (lent : Counters) : Type 0 where
  left : Counters
  promise : MeterPromise c o lent left

is_some : mathlib.Core.Option.Option ℕ → Bool
is_some none = false
is_some (some k) = true

no-port : {A : Type 0} (k : ℕ) → none ≡ some k → A
unfolding is_some
no-port k e = absurd (true≢false (sym (ap is_some e)))

-- an answer that names a port is a turn's or a completion's
meter-raised : (c : Made) (o : Outcome c) (k : ℕ) → answer_port (call_of c) (effect_of c o) ≡ some k → (lent : Counters) → Raised c o lent
meter-raised (kh_open p sheet) o k e lent = no-port k e
meter-raised (kh_close p) o k e lent = no-port k e
meter-raised (kh_turn rings grants answer) o k e lent = record { left = turn_metered o.number o.answer lent; promise = refl }
meter-raised (kh_complete rings p t s x answer) o k e lent = record { left = done_metered o.number o.answer lent; promise = refl }
meter-raised (kh_complete_many rings p entries answer) o k e lent = record { left = many_metered o.number o.answer lent; promise = refl }

-- one call more: its answer goes to the record of the port that it names, if it names one
run_call : (m : List ℕ) (r : Records) (c : Made) (d : Done m c) (wishes : List Wish) → ((records : Records) → MeteredRunOf (memory_left c d.left) records wishes)
    → (to : mathlib.Core.Option.Option ℕ) → answer_port (call_of c) (effect_of c d.left) ≡ to → MeteredRunOf m r (makes c ∷ wishes)
run_call m r c d wishes after none e =
    let rest = after r in
    record {
      host = unmetered (record { made = c; left = d.left }) ∷ rest.host;
      run = (d.promise, rest.run);
      handed_over = (λ k p q. ap (went k) (sym e ∙ q), rest.handed_over);
      done = ap (λ (l : List Wish). makes c ∷ l) rest.done;
    }
run_call m r c d wishes after (some j) e =
    let raised = meter-raised c d.left j e (r j) in
    let rest = after (stored j raised.left r) in
    record {
      host = metered (record { made = c; left = d.left }) j raised.left ∷ rest.host;
      run = (d.promise, raised.promise, rest.run);
      handed_over = (λ k p q. ap (went k) (sym e ∙ q), rest.handed_over);
      done = ap (λ (l : List Wish). makes c ∷ l) rest.done;
    }

run-every : (m : List ℕ) (r : Records) → Exact m → (wishes : List Wish) → All WishBytes wishes → MeteredRunOf m r wishes
run-every m r x [] y = record { host = []; run = tt; handed_over = tt; done = refl }
run-every m r x (makes c ∷ wishes) y =
    let d = call-done m c (outcome m x (call_of c) y.0) in
    let exact = becomes-exact (step-returned m c d.left d.promise).becomes x in
    run_call m r c d wishes (λ records. run-every (memory_left c d.left) records exact wishes y.1) _ refl
run-every m r x (zeroes k ∷ wishes) y =
    let rest = run-every m (stored k zero_counters r) x wishes y.1 in
    record {
      host = zeroing k ∷ rest.host;
      run = rest.run;
      handed_over = (tt, rest.handed_over);
      done = ap (λ (l : List Wish). zeroes k ∷ l) rest.done;
    }

pub meters-theorem : MetersTheorem
meters-theorem = record { holds = λ r. run-counted r zeros [] r (none-known r); every = λ r. run-every zeros r zeros-exact }
