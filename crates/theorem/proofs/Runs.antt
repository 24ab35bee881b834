-- What holds of every run of the functions, and that every list of calls has one. Assumes nothing but what the theorem states, that lent bytes are bytes.
use mathlib.Core.Path.{◌≡◌, refl, sym, ap, subst, ◌∙◌}
use mathlib.Core.List.{List, [], ◌∷◌, map}
use Prim.Native.Nat.{ℕ}
use Rattle.model.specs.Backend.{Backend, view_of, after_call}
use Rattle.model.specs.Calls.{Call, Effect, Event}
use Rattle.model.specs.Demand.{All, LendsBytes}
use Rattle.model.specs.History.{book, backend_after}
use Rattle.model.specs.Rules.{effect_due}
use Rattle.model.proofs.Clean.{free-zero, closed-zero, closed-tags}
use Rattle.model.proofs.Demand3.{demanded}
use Rattle.model.proofs.Refinement.{Told, told-empty, told-step}
use Rattle.memory.specs.Backend.{backend_of, memory_of, Exact, Clean}
use Rattle.memory.specs.Promise.{Promised}
use Rattle.memory.specs.Words.{zeros}
use Rattle.memory.proofs.Changes.{becomes-exact}
use Rattle.memory.proofs.Zeros.{backend-zeros, zeros-exact, clean}
use Rattle.theorem.specs.Run.{CodeStep, call_in, CodeRun, code_history, code_memory, CodeHolds, CodeRunOf, CodeTheorem}
use Rattle.theorem.proofs.Every.{outcome}

-- ---- of every run

-- a call that kept its promise leaves the backend tied to the history, with the call's own event in it
pub promised-told : (m : List ℕ) (h : List Event) (c : Call) (e : Effect c) (left : List ℕ) → LendsBytes c → Told (backend_of m) h → Promised m c e left
    → Told (backend_of left) (record { call = c; effect = e } ∷ h)
promised-told m h c e left y w p =
    let event : (x : Effect c) → Event = λ x. record { call = c; effect = x } in
    subst (λ (b : Backend). Told b (event e ∷ h)) (sym p.memory.backend)
    (subst (λ (x : Effect c). Told (after_call (backend_of m) c) (event x ∷ h)) (sym p.effect) (told-step (backend_of m) h c y w))

run-told : (m : List ℕ) (h : List Event) (run : List CodeStep) → CodeRun m run → All (λ s. LendsBytes (call_in s)) run → Told (backend_of m) h
    → Told (backend_of (code_memory m run)) (code_history h run)
run-told m h [] r y w = w
run-told m h (s ∷ run) r y w =
    run-told s.memory (s.event ∷ h) run r.1 y.1 (promised-told m h (call_in s) s.event.effect s.memory y.0 w r.0)

run-exact : (m : List ℕ) (run : List CodeStep) → CodeRun m run → Exact m → Exact (code_memory m run)
run-exact m [] r x = x
run-exact m (s ∷ run) r x = run-exact s.memory run r.1 (becomes-exact r.0.memory x)

run-backend : (m : List ℕ) (run : List CodeStep) → CodeRun m run → backend_of (code_memory m run) ≡ backend_after (backend_of m) (map call_in run)
run-backend m [] r = refl
run-backend m (s ∷ run) r = run-backend s.memory run r.1 ∙ ap (λ (b : Backend). backend_after b (map call_in run)) r.0.memory.backend

-- memory that is exact and tied to a history keeps only zeros for what is closed or free
pub told-clean : (m : List ℕ) (h : List Event) → Exact m → Told (backend_of m) h → Clean m
told-clean m h x w =
    let b = backend_of m in
    clean m x
    (λ k c. (closed-zero (b.port k) (b.tag k) (book k h) (w.tied.ports k) c, closed-tags (b.port k) (b.tag k) (book k h) (w.tied.ports k) c))
    (λ k t f. free-zero (b.port k) (b.tag k) (book k h) (w.tied.ports k) t f)

pub zeros-told : Told (backend_of zeros) []
zeros-told = subst (λ (b : Backend). Told b []) (sym backend-zeros) told-empty

run_holds : (run : List CodeStep) → CodeRun zeros run → All (λ s. LendsBytes (call_in s)) run → CodeHolds run
run_holds run r y =
    let w = run-told zeros [] run r y zeros-told in
    let x = run-exact zeros run r zeros-exact in
    record {
      demand3 = demanded (backend_of (code_memory zeros run)) (code_history [] run) w;
      memory = x ∙ ap memory_of (run-backend zeros run r ∙ ap (λ (b : Backend). backend_after b (map call_in run)) backend-zeros);
      clean = told-clean (code_memory zeros run) (code_history [] run) x w;
    }

-- ---- every list of calls has a run

run-every : (m : List ℕ) → Exact m → (calls : List Call) → All LendsBytes calls → CodeRunOf m calls
run-every m x [] y = record { steps = []; run = tt; made = refl }
run-every m x (c ∷ calls) y =
    let o = outcome m x c y.0 in
    let rest = run-every o.left (becomes-exact o.promised.memory x) calls y.1 in
    let s : CodeStep = record { event = record { call = c; effect = effect_due (view_of (backend_of m)) c }; memory = o.left } in
    record { steps = s ∷ rest.steps; run = (o.promised, rest.run); made = ap (λ (l : List Call). c ∷ l) rest.made }

pub code-theorem : CodeTheorem
code-theorem = record { holds = run_holds; every = run-every zeros zeros-exact }
