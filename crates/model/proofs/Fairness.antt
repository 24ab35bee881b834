-- Fairness, parts (a) and (b) of demand 3, on a history alone: turns serve the first port with something to serve, in ring order from the pointer. Neither the
-- books' conservation nor the backend is in sight. Assumes nothing.
use mathlib.Core.Path.{◌≡◌, refl, sym, ap, ◌∙◌, subst}
use mathlib.Core.Logic.{◌⊎◌, inl, inr, ◌≢◌}
use mathlib.Core.List.{List, [], ◌∷◌, ◌++◌}
use mathlib.Core.Bool.{Bool, true, false, not, cond, ◌&&◌}
use mathlib.Core.Option.{some}
use Prim.Native.Nat.{ℕ, ◌+◌, ◌-◌, ◌%◌, ◌≤◌, ◌<◌}
use native.Mathlib.Decide.{dec_lt}
use native.Mathlib.Omega.{arith}
use lib.Dec.{eqb, leb}
use lib.ListN.{length, length-append}
use borrow.Author.Tests.{eqb-true, eqb-false, eq-eqb, ne_eqb, not-true}
use Rattle.model.specs.Base.{modulus}
use Rattle.model.specs.Buffers.{ports, pages_of}
use Rattle.model.specs.Ring.{req_prod}
use Rattle.model.specs.Port.{distance, pending_of, is_work}
use Rattle.model.specs.Calls.{Event}
use Rattle.model.specs.Turn.{pending_at, has_work, looked_at}
use Rattle.model.specs.Deeds.{Round, no_turn, unserved, served, round_of, port_after, moved}
use Rattle.model.specs.History.{ring_in, book, pointer, view_at, has_to_serve, Seen, seen, turns_of}
use Rattle.model.specs.Demand.{All, Any, count, serves, InARow, AsDue}
use Rattle.model.specs.declared.Pending.{Pending}
use Rattle.model.specs.declared.State.{State}
use Rattle.model.proofs.Base.{clash, and_left, and_right}
use Rattle.model.proofs.Order.{one, count-nil, count-cons, count-append}
use Rattle.model.proofs.DueFacts.{Chosen, facts-due, RoundFacts, round-facts}

-- ---- ports in ring order

-- how many ports are looked at before k, from the pointer p
ahead : ℕ → ℕ → ℕ
ahead p k = (k + (ports - p)) % ports

ahead-lt : (p k : ℕ) → ahead p k < ports
unfolding ahead
ahead-lt p k = omega arith

ahead-place : (p k : ℕ) → p < ports → k < ports → (p + ahead p k) % ports ≡ k
unfolding ahead
ahead-place p k a b = omega arith

ahead-back : (p i : ℕ) → p < ports → i < ports → ahead p ((p + i) % ports) ≡ i
unfolding ahead
ahead-back p i a b = omega arith

-- the port served is the last to be looked at next
ahead-served : (p i : ℕ) → p < ports → i < ports → ahead (((p + i) % ports + 1) % ports) ((p + i) % ports) ≡ 7
unfolding ahead
ahead-served p i a b = omega arith

wrap : (n : ℕ) → n < 16 → (n % ports ≡ n) ⊎ (n % ports + ports ≡ n)
wrap n h = go (dec_lt n ports)
  where
    go : Dec (n < ports) → (n % ports ≡ n) ⊎ (n % ports + ports ≡ n)
    go (yes c) = inl (omega arith)
    go (no c) = inr (omega arith)

ahead-move : (p m q k : ℕ) → p < ports → q < ports → k < ports → (q ≡ p + m) ⊎ (q + ports ≡ p + m) → m ≤ ahead p k → ahead q k + m ≡ ahead p k
unfolding ahead
ahead-move p m q k a b c (inl e) d = omega arith
ahead-move p m q k a b c (inr e) d = omega arith

after-place : (p i : ℕ) → ((p + i) % ports + 1) % ports ≡ (p + (i + 1)) % ports
after-place p i = omega arith

-- one that stands past the served port comes nearer by what was passed
ahead-next : (p i k : ℕ) → p < ports → i < ports → k < ports → i < ahead p k → ahead (((p + i) % ports + 1) % ports) k + (i + 1) ≡ ahead p k
ahead-next p i k a b c d =
    rw after-place (ahead-move p (i + 1) ((p + (i + 1)) % ports) k a (omega arith) c (wrap (p + (i + 1)) (omega arith)) (omega arith))

-- one that then stands before k is not the served one, and stood before k already
ahead-order : (p i k j : ℕ) → p < ports → i < ports → k < ports → j < ports → i < ahead p k
    → ahead (((p + i) % ports + 1) % ports) j ≤ ahead (((p + i) % ports + 1) % ports) k → ((p + i) % ports ≢ j) × (ahead p j ≤ ahead p k)
ahead-order p i k j a b c d e le = (other, go (dec_lt i (ahead p j)))
  where
    near : ahead (((p + i) % ports + 1) % ports) k + (i + 1) ≡ ahead p k
    near = ahead-next p i k a b c e

    other : (p + i) % ports ≢ j
    other q =
        let s : ahead (((p + i) % ports + 1) % ports) j ≡ 7 = subst (λ (x : ℕ). ahead (((p + i) % ports + 1) % ports) x ≡ 7) q (ahead-served p i a b) in
        omega (arith, near, ahead-lt p k)

    go : Dec (i < ahead p j) → ahead p j ≤ ahead p k
    go (yes l) = omega (arith, near, ahead-next p i j a b d l)
    go (no l) = omega arith

moved-lt : (x : Round) (p : ℕ) → p < ports → moved x p < ports
moved-lt no_turn p h = h
moved-lt (unserved lent) p h = h
moved-lt (served lent k) p h = omega arith

pointer-lt : (h : List Event) → pointer h < ports
unfolding pointer
pointer-lt [] = omega arith
pointer-lt (e ∷ h) = moved-lt (round_of e) (pointer h) (pointer-lt h)

-- ---- a port has something to serve by the history exactly where it has by the rules

pub work-is : (size n d : ℕ) → is_work (pending_of size n d) ≡ not (eqb d 0)
unfolding pending_of
work-is size n d = go (eqb d 0) (leb d (size - n))
  where
    go : (a b : Bool) → is_work (cond a Pending.Nothing (cond b Pending.Waits Pending.Overrun)) ≡ not a
    go true b = refl
    go false true = refl
    go false false = refl

differ : (x c : ℕ) → c < modulus → eqb (x % modulus) c ≡ eqb (distance x c) 0
unfolding distance
differ x c l = go (eqb (x % modulus) c) refl
  where
    go : (t : Bool) → eqb (x % modulus) c ≡ t → t ≡ eqb ((x + (modulus - c)) % modulus) 0
    go true e =
        let q : x % modulus ≡ c = eqb-true _ c e in
        let z : (x + (modulus - c)) % modulus ≡ 0 = omega arith in
        sym (eq-eqb _ 0 z)
    go false e =
        let q : x % modulus ≢ c = eqb-false _ c e in
        let z : (x + (modulus - c)) % modulus ≢ 0 = omega arith in
        sym (ne_eqb _ 0 z)

serve-work : (k : ℕ) (h : List Event) (lent : List ℕ) → has_to_serve k h lent ≡ has_work (view_at h) lent k
unfolding has_to_serve has_work pending_at view_at
serve-work k h lent = go (book k h).state refl
  where
    go : (s : State) → (book k h).state ≡ s → has_to_serve k h lent ≡ has_work (view_at h) lent k
    go State.Closed e = rw e
    go State.Open e =
        rw e
        (ap not (differ (req_prod (pages_of (ring_in (book k h)) lent k)) (length (book k h).taken % modulus) (omega arith))
        ∙ sym (work-is _ _ (distance (req_prod (pages_of (ring_in (book k h)) lent k)) (length (book k h).taken % modulus))))
    go State.Broken e = rw e

-- ---- a run of waiting

abbrev waits : ℕ → Seen → Bool
waits k x = x.wanted && not (serves k x)

-- the latest turns in a row at which port k had something to serve and wasn't served
run : ℕ → List Seen → List Seen
run k [] = []
run k (x ∷ ts) = cond (waits k x) (x ∷ run k ts) []

-- The invariant, with the pointer at p: each turn of the run brought the pointer nearer to k; what stands before k from there was not served in the run; and
-- nobody was served twice in it.
record Waiting (k p : ℕ) (ts : List Seen) : Type 0 where
  few : length (run k ts) + ahead p k ≤ 7
  behind : (j : ℕ) → j < ports → ahead p j ≤ ahead p k → count (serves j) (run k ts) ≡ 0
  single : (j : ℕ) → count (serves j) (run k ts) ≤ 1

waiting_none : (k p : ℕ) (ts : List Seen) → run k ts ≡ [] → Waiting k p ts
waiting_none k p ts e = record {
  few = rw e (omega (arith, ahead-lt p k));
  behind = λ j _ _. rw e (count-nil (serves j));
  single = λ j. rw e (omega (arith, count-nil (serves j)));
}

waiting-reset : (k p : ℕ) (x : Seen) (ts : List Seen) → waits k x ≡ false → Waiting k p (x ∷ ts)
unfolding run
waiting-reset k p x ts e = waiting_none k p (x ∷ ts) (rw e)

abbrev turn : Bool → ℕ → Seen
turn w j = record { wanted = w; chosen = some j }

waiting-on : (k p i : ℕ) (w : Bool) (ts : List Seen) → p < ports → i < ports → k < ports → i < ahead p k → waits k (turn w ((p + i) % ports)) ≡ true
    → Waiting k p ts → Waiting k (((p + i) % ports + 1) % ports) (turn w ((p + i) % ports) ∷ ts)
unfolding run
waiting-on k p i w ts a b c d e m = record {
  few = rw e (omega (arith, m.few, ahead-next p i k a b c d));
  behind = λ j l o.
      let q = ahead-order p i k j a b c l d o in
      rw (e, count-cons (serves j) (turn w ((p + i) % ports)) (run k ts), ne_eqb _ j q.0, m.behind j l q.1);
  single = λ j. rw (e, count-cons (serves j) (turn w ((p + i) % ports)) (run k ts)) (one_more j (eqb ((p + i) % ports) j) refl);
}
  where
    one_more : (j : ℕ) (t : Bool) → eqb ((p + i) % ports) j ≡ t → one t + count (serves j) (run k ts) ≤ 1
    one_more j true f =
        let q : (p + i) % ports ≡ j = eqb-true _ j f in
        let y : ahead p j ≡ i = subst (λ (x : ℕ). ahead p x ≡ i) q (ahead-back p i a b) in
        let z : count (serves j) (run k ts) ≡ 0 = m.behind j (omega arith) (omega arith) in
        omega arith
    one_more j false f = omega (arith, m.single j)

-- ---- each turn keeps it

-- port k has something to serve and another is chosen: that one stands nearer to the pointer
chosen-near : (k j : ℕ) (h : List Event) (lent : List ℕ) (f : Chosen (view_at h) lent j) → k < ports → has_to_serve k h lent ≡ true → eqb j k ≡ false
    → f.offset < ahead (pointer h) k
unfolding view_at
chosen-near k j h lent f l w ne = go (dec_lt f.offset (ahead (pointer h) k)) (dec_lt (ahead (pointer h) k) f.offset)
  where
    place : looked_at (view_at h) (ahead (pointer h) k) ≡ k
    place = ahead-place (pointer h) k (pointer-lt h) l

    go : Dec (f.offset < ahead (pointer h) k) → Dec (ahead (pointer h) k < f.offset) → f.offset < ahead (pointer h) k
    go (yes c) d = c
    go (no c) (yes d) =
        clash (sym (serve-work k h lent) ∙ w) (subst (λ (x : ℕ). has_work (view_at h) lent x ≡ false) place (f.before (ahead (pointer h) k) d))
    go (no c) (no d) =
        let e : f.offset ≡ ahead (pointer h) k = omega arith in
        absurd (eqb-false j k ne (f.place ∙ ap (λ (n : ℕ). looked_at (view_at h) n) e ∙ place))

-- at an idle turn no port has something to serve
idle-serves : (k : ℕ) (h : List Event) (lent : List ℕ) → k < ports → ((i : ℕ) → i < ports → has_work (view_at h) lent (looked_at (view_at h) i) ≡ false)
    → has_to_serve k h lent ≡ false
unfolding view_at
idle-serves k h lent l d =
    serve-work k h lent
    ∙ subst
    (λ (x : ℕ). has_work (view_at h) lent x ≡ false)
    (ahead-place (pointer h) k (pointer-lt h) l)
    (d (ahead (pointer h) k) (ahead-lt (pointer h) k))

waiting-served : (k j : ℕ) (h : List Event) (lent : List ℕ) → Chosen (view_at h) lent j → k < ports → Waiting k (pointer h) (turns_of k h)
    → Waiting k (port_after j) (turn (has_to_serve k h lent) j ∷ turns_of k h)
unfolding view_at
waiting-served k j h lent f l m = go (waits k (turn (has_to_serve k h lent) j)) refl
  where
    go : (t : Bool) → waits k (turn (has_to_serve k h lent) j) ≡ t → Waiting k (port_after j) (turn (has_to_serve k h lent) j ∷ turns_of k h)
    go false e = waiting-reset k _ _ (turns_of k h) e
    go true e =
        let w : has_to_serve k h lent ≡ true = and_left _ _ e in
        let ne : eqb j k ≡ false = not-true (eqb j k) (and_right (has_to_serve k h lent) _ e) in
        let near : f.offset < ahead (pointer h) k = chosen-near k j h lent f l w ne in
        let place : j ≡ (pointer h + f.offset) % ports = f.place in
        subst
        (λ (x : ℕ). Waiting k (port_after x) (turn (has_to_serve k h lent) x ∷ turns_of k h))
        (sym place)
        (waiting-on
        k
        (pointer h)
        f.offset
        (has_to_serve k h lent)
        (turns_of k h)
        (pointer-lt h)
        f.near
        l
        near
        (subst (λ (x : ℕ). waits k (turn (has_to_serve k h lent) x) ≡ true) place e)
        m)

waiting-round : (k : ℕ) → k < ports → (h : List Event) (x : Round) → RoundFacts (view_at h) x → Waiting k (pointer h) (turns_of k h)
    → Waiting k (moved x (pointer h)) (seen k h x (turns_of k h))
waiting-round k l h no_turn d m = m
waiting-round k l h (unserved lent) d m = waiting-reset k _ _ (turns_of k h) (rw (idle-serves k h lent l d))
waiting-round k l h (served lent j) d m = waiting-served k j h lent d l m

waiting : (k : ℕ) → k < ports → (h : List Event) → AsDue h → Waiting k (pointer h) (turns_of k h)
unfolding pointer turns_of run
waiting k l [] d = waiting_none k 0 [] refl
waiting k l (e ∷ h) d = waiting-round k l h (round_of e) (round-facts (view_at h) e (facts-due (view_at h) e d.0)) (waiting k l h d.1)

-- ---- rows of turns

abbrev Short : ℕ → List Seen → Type 0
Short k ts = (length (run k ts) ≤ 7) × ((j : ℕ) → count (serves j) (run k ts) ≤ 1)

-- after each turn the run was short
abbrev Fine : ℕ → List Seen → Type 0
Fine k [] = Unit
Fine k (x ∷ ts) = Short k (x ∷ ts) × Fine k ts

short-of : (k p : ℕ) (ts : List Seen) → Waiting k p ts → Short k ts
short-of k p ts w = (omega (arith, w.few), w.single)

fine-round : (k : ℕ) (h : List Event) (x : Round) → Short k (seen k h x (turns_of k h)) → Fine k (turns_of k h) → Fine k (seen k h x (turns_of k h))
fine-round k h no_turn s f = f
fine-round k h (unserved lent) s f = (s, f)
fine-round k h (served lent j) s f = (s, f)

fine : (k : ℕ) → k < ports → (h : List Event) → AsDue h → Fine k (turns_of k h)
unfolding turns_of
fine k l [] d = tt
fine k l (e ∷ h) d = fine-round k h (round_of e) (short-of k _ _ (waiting k l (e ∷ h) d)) (fine k l h d.1)

fine-drop : (k : ℕ) (later rest : List Seen) → Fine k (later ++ rest) → Fine k rest
fine-drop k [] rest f = f
fine-drop k (x ∷ later) rest f = fine-drop k later rest f.1

fine-short : (k : ℕ) (ts : List Seen) → Fine k ts → Short k ts
unfolding run
fine-short k [] f = (omega arith, λ j. omega (arith, count-nil (serves j)))
fine-short k (x ∷ ts) f = f.0

run_row : (k : ℕ) (row earlier : List Seen) → All (λ x. waits k x ≡ true) row → run k (row ++ earlier) ≡ row ++ run k earlier
unfolding run
run_row k [] earlier w = refl
run_row k (x ∷ row) earlier w = rw (w.0, run_row k row earlier w.1)

row-short : (k : ℕ) (ts row : List Seen) → Fine k ts → InARow row ts → All (λ x. waits k x ≡ true) row → (length row ≤ 7) × ((j : ℕ) → count (serves j) row ≤ 1)
row-short k ts row f r w =
    let g : Short k (row ++ r.earlier) = fine-short k _ (fine-drop k r.later (row ++ r.earlier) (rw r.is at f)) in
    let s = rw (run_row k row r.earlier w) at g in
    (omega (arith, s.0, length-append row (run k r.earlier)), λ j. omega (arith, s.1 j, count-append (serves j) row (run k r.earlier)))

either : (k : ℕ) (row : List Seen) → All (λ x. x.wanted ≡ true) row → Any (λ x. serves k x ≡ true) row ⊎ All (λ x. waits k x ≡ true) row
either k [] w = inr tt
either k (x ∷ row) w = go (serves k x) refl (either k row w.1)
  where
    go : (b : Bool) → serves k x ≡ b → Any (λ y. serves k y ≡ true) row ⊎ All (λ y. waits k y ≡ true) row
        → (serves k x ≡ true ⊎ Any (λ y. serves k y ≡ true) row) ⊎ ((waits k x ≡ true) × All (λ y. waits k y ≡ true) row)
    go true e r = inl (inl e)
    go false e (inl r) = inl (inr r)
    go false e (inr r) = inr (rw (w.0, e), r)

-- (a)
pub served-in-eight : (k : ℕ) → k < ports → (h : List Event) → AsDue h
    → (row : List Seen) → InARow row (turns_of k h) → length row ≡ 8 → All (λ x. x.wanted ≡ true) row → Any (λ x. serves k x ≡ true) row
served-in-eight k l h d row r n w = go (either k row w)
  where
    go : Any (λ x. serves k x ≡ true) row ⊎ All (λ x. waits k x ≡ true) row → Any (λ x. serves k x ≡ true) row
    go (inl s) = s
    go (inr s) = absurd (omega (arith, n, (row-short k _ row (fine k l h d) r s).0))

waiting-row : (k : ℕ) (row : List Seen) → All (λ x. (x.wanted ≡ true) × (serves k x ≡ false)) row → All (λ x. waits k x ≡ true) row
waiting-row k [] w = tt
waiting-row k (x ∷ row) w = (rw (w.0.0, w.0.1), waiting-row k row w.1)

-- (b)
pub none-twice : (k : ℕ) → k < ports → (h : List Event) → AsDue h
    → (row : List Seen) → InARow row (turns_of k h) → All (λ x. (x.wanted ≡ true) × (serves k x ≡ false)) row → (j : ℕ) → count (serves j) row ≤ 1
none-twice k l h d row r w = (row-short k _ row (fine k l h d) r (waiting-row k row w)).1
