-- The backend's own fields are what the history says, call after call: so its answers are as due, part (f) of demand 3. Assumes nothing.
use mathlib.Core.Path.{◌≡◌, refl, sym, ap, ◌∙◌, subst}
use mathlib.Core.List.{List, [], ◌∷◌}
use mathlib.Core.Bool.{Bool, true, false, not, cond, ◌&&◌}
use Prim.Native.Nat.{ℕ}
use native.Mathlib.Omega.{arith}
use lib.Dec.{eqb}
use lib.ListN.{length}
use borrow.Author.Tests.{eqb-true, eqb-false, eq-eqb}
use Rattle.model.specs.Buffers.{pages_of}
use Rattle.model.specs.Port.{is_closed, zero_tag, busy_bits, is_busy, closed_port, in_flight_of, Holder, free, held, is_free, View, tag_of}
use Rattle.model.specs.Calls.{Call, Event}
use Rattle.model.specs.Turn.{serial_of, request_at}
use Rattle.model.specs.Rules.{due}
use Rattle.model.specs.Deeds.{Deed, opening, closing, breaking, starting, answering, finishing, port_of, deeds_of, round_of, moved}
use Rattle.model.specs.Backend.{Backend, empty_backend, holder_of, view_of, with_port, with_tag, with_pointer, broken_port, started_port, answered_port, finished_port, does, does_all, next, event_on, after_call}
use Rattle.model.specs.History.{backend_after, Response, Taken, Book, no_book, ring_in, asked, said, in_state, entry, post, posts, book, unfinished, holder, pointer, standing, view_at, history_from, history}
use Rattle.model.specs.Demand.{All, AsDue, LendsBytes}
use Rattle.model.specs.declared.Pair.{Pair}
use Rattle.model.specs.declared.Params.{Params}
use Rattle.model.specs.declared.Port.{Port}
use Rattle.model.specs.declared.State.{State}
use Rattle.model.specs.declared.Tag.{Tag}
use Rattle.model.proofs.Base.{by_cond, clash, tally-same}
use Rattle.model.proofs.Ring.{fits, slot_of-modulus}
use Rattle.model.proofs.Busy.{none-busy, busy-set, busy-clear}
use Rattle.model.proofs.DueFacts.{FactsOf, facts-due}
use Rattle.model.proofs.Ledger.{Good, held-count, none-held, Marked, marked, length-answer_to}
use Rattle.model.proofs.Conservation.{Sound, May, MayAll, sound-post}
use Rattle.model.proofs.Permitted.{may, LentBytes, sound}
use Rattle.model.proofs.Invariants.{Shape, PortTied, PortsTied, Tied}
use Rattle.model.proofs.Clean.{closed-tags}

-- ---- the empty backend

shape-new : (s : State) (p : Params) (tags : ℕ → Tag) (b : Book) → p ≡ b.params → b.taken ≡ [] → b.answered ≡ [] → ((t : ℕ) → tags t ≡ zero_tag)
    → Shape (record { state = s; params = p; consumed = 0; produced = 0; busy = 0 }) tags b
unfolding holder
shape-new s p tags b e f g z = record {
  params = e;
  consumed = rw f;
  produced = rw g;
  busy = λ t. none-busy t ∙ rw f;
  keeps = λ t. z t ∙ rw f;
}

-- a closed port, whatever its books were
closed-tied : (tags : ℕ → Tag) (b : Book) → is_closed b.state ≡ true → State.Closed ≡ b.state → ((t : ℕ) → tags t ≡ zero_tag) → PortTied closed_port tags b
closed-tied tags b c e z = record { state = e; shape = rw c (shape-new State.Closed _ tags no_book refl refl refl z) }

empty-tied : Tied empty_backend []
unfolding pointer book
empty-tied = record { place = refl; ports = λ k. closed-tied _ no_book refl refl (λ t. refl) }

-- ---- the two views

standing-good : (b : Book) → Good (ring_in b).size b.taken → Good (ring_in b).size (standing b).taken
standing-good b g = go (is_closed b.state)
  where
    go : (t : Bool) → Good (ring_in b).size (cond t no_book b).taken
    go true = tt
    go false = g

in-flight-tied : (p : Port) (tags : ℕ → Tag) (b : Book) → Sound b → Shape p tags (standing b) → in_flight_of p.busy ≡ length (unfinished (standing b).taken)
unfolding in_flight_of
in-flight-tied p tags b o s =
    tally-same busy_bits _ (λ t. not (is_free (holder t (standing b).taken))) (λ t _. s.busy t)
    ∙ held-count busy_bits (ring_in b).size (fits b.params).marked (standing b).taken (standing-good b o.good)

-- what a tag keeps, read by its mark, is what holds it
tag_back : (x : Holder) → cond (not (is_free x)) (held (tag_of x)) free ≡ x
tag_back free = refl
tag_back (held x) = refl

tags-tied : (p : Port) (tags : ℕ → Tag) (b : Book) → Shape p tags b → (t : ℕ) → holder_of p t (tags t) ≡ holder t b.taken
tags-tied p tags b s t = rw (s.busy t, s.keeps t) (tag_back (holder t b.taken))

-- the backend's view of itself is the history's
views : (b : Backend) (h : List Event) → Tied b h → ((k : ℕ) → Sound (book k h)) → view_of b ≡ view_at h
unfolding view_of view_at
views b h w o = λ i. record {
  state = λ k. (w.ports k).state i;
  params = λ k. (w.ports k).shape.params i;
  consumed = λ k. (w.ports k).shape.consumed i;
  produced = λ k. (w.ports k).shape.produced i;
  in_flight = λ k. in-flight-tied (b.port k) (b.tag k) (book k h) (o k) (w.ports k).shape i;
  tag = λ k t. tags-tied (b.port k) (b.tag k) (standing (book k h)) (w.ports k).shape t i;
  pointer = w.place i;
}

-- ---- a deed keeps the tie

-- a port that is not closed: its books stand
standing-open : (b : Book) → is_closed b.state ≡ false → standing b ≡ b
standing-open b e = rw e

open-shape : (p : Port) (tags : ℕ → Tag) (b : Book) → is_closed b.state ≡ false → PortTied p tags b → Shape p tags b
open-shape p tags b o w = subst (λ (x : Book). Shape p tags x) (standing-open b o) w.shape

open-tied : (p : Port) (tags : ℕ → Tag) (b : Book) → is_closed b.state ≡ false → p.state ≡ b.state → Shape p tags b → PortTied p tags b
open-tied p tags b o e s = record { state = e; shape = subst (λ (x : Book). Shape p tags x) (sym (standing-open b o)) s }

-- the tags with another one at t
abbrev put : (ℕ → Tag) → ℕ → Tag → ℕ → Tag
put tags t x u = cond (eqb u t) x (tags u)

shape-start : (p : Port) (tags : ℕ → Tag) (b : Book) (k : ℕ) (lent : List ℕ) (t s x : ℕ) → holder t b.taken ≡ free → Shape p tags b
    → Shape (started_port p t) (put tags t (record { pair = asked k lent b; serial = serial_of s; expected = x })) (entry (starting k lent t s x) b)
unfolding holder
shape-start p tags b k lent t s x unheld w = record {
  params = w.params;
  consumed = rw w.consumed (omega arith);
  produced = w.produced;
  busy = λ u. busy-set t p.busy (w.busy t ∙ rw unheld) u ∙ mark u (eqb u t) refl;
  keeps = λ u. kept u (eqb u t) refl;
}
  where
    new : Tag
    new = record { pair = asked k lent b; serial = serial_of s; expected = x }

    mark : (u : ℕ) (c : Bool) → eqb u t ≡ c → cond c true (is_busy p.busy u) ≡ not (is_free (cond (eqb u t && true) (held new) (holder u b.taken)))
    mark u true e = rw e
    mark u false e = rw e (w.busy u)

    kept : (u : ℕ) (c : Bool) → eqb u t ≡ c → cond (eqb u t) new (tags u) ≡ tag_of (cond (eqb u t && true) (held new) (holder u b.taken))
    kept u true e = rw e
    kept u false e = rw e (w.keeps u)

shape-answer : (p : Port) (tags : ℕ → Tag) (b : Book) (taken : Taken) (answer : Response) → Shape p tags b → ((t : ℕ) → holder t (taken ∷ b.taken) ≡ holder t b.taken)
    → Shape (answered_port p) tags (record { state = b.state; params = b.params; taken = taken ∷ b.taken; answered = answer ∷ b.answered })
shape-answer p tags b r a w same = record {
  params = w.params;
  consumed = rw w.consumed (omega arith);
  produced = rw w.produced (omega arith);
  busy = λ t. rw (same t) (w.busy t);
  keeps = λ t. rw (same t) (w.keeps t);
}

shape-finish : (p : Port) (tags : ℕ → Tag) (b : Book) (n : ℕ) (x : Tag) (t : ℕ) (l : List Taken) (answer : Response) → holder t b.taken ≡ held x → Shape p tags b
    → length l ≡ length b.taken → Marked n t answer b.taken l
    → Shape (finished_port p t) (put tags t zero_tag) (record { state = b.state; params = b.params; taken = l; answered = answer ∷ b.answered })
shape-finish p tags b n x t l a holds w same m = record {
  params = w.params;
  consumed = rw (w.consumed, same) refl;
  produced = rw w.produced (omega arith);
  busy = λ u. busy-clear t p.busy (w.busy t ∙ rw holds) u ∙ mark u (eqb u t) refl;
  keeps = λ u. kept u (eqb u t) refl;
}
  where
    freed : (u : ℕ) → eqb u t ≡ true → holder u l ≡ free
    freed u e = subst (λ (v : ℕ). holder v l ≡ free) (sym (eqb-true u t e)) m.freed

    other : (u : ℕ) → eqb u t ≡ false → holder u l ≡ holder u b.taken
    other u e = m.others u (eqb-false u t e)

    mark : (u : ℕ) (c : Bool) → eqb u t ≡ c → cond c false (is_busy p.busy u) ≡ not (is_free (holder u l))
    mark u true e = rw (freed u e)
    mark u false e = rw (other u e) (w.busy u)

    kept : (u : ℕ) (c : Bool) → eqb u t ≡ c → cond (eqb u t) zero_tag (tags u) ≡ tag_of (holder u l)
    kept u true e = rw (e, freed u e)
    kept u false e = rw (e, other u e) (w.keeps u)

closed_is : (s : State) → is_closed s ≡ true → s ≡ State.Closed
closed_is State.Closed e = refl
closed_is State.Open e = clash e refl
closed_is State.Broken e = clash e refl

-- the request that the backend looks at is the one that the history reads
tied-asked : (b : Backend) (k : ℕ) (c : Book) (lent : List ℕ) → Shape (b.port k) (b.tag k) c → (request_at (view_of b) lent k).pair ≡ asked k lent c
unfolding request_at view_of asked
tied-asked b k c lent w = rw (w.params, w.consumed, slot_of-modulus (ring_in c) (fits c.params) (pages_of (ring_in c) lent k))

-- what is put is read back, and the others stay
pub own-port : (b : Backend) (k : ℕ) (p : Port) → (with_port b k p).port k ≡ p
unfolding with_port
own-port b k p = rw (eq-eqb k k refl)

other-port : (b : Backend) (j k : ℕ) (p : Port) → eqb k j ≡ false → (with_port b j p).port k ≡ b.port k
unfolding with_port
other-port b j k p e = rw e

own-tags : (b : Backend) (k t : ℕ) (x : Tag) → (with_tag b k t x).tag k ≡ put (b.tag k) t x
unfolding with_tag
own-tags b k t x =
    let at : (u : ℕ) → cond (eqb k k && eqb u t) x (b.tag k u) ≡ cond (eqb u t) x (b.tag k u) = λ u. rw (eq-eqb k k refl) in
    λ i u. at u i

other-tags : (b : Backend) (j k t : ℕ) (x : Tag) → eqb k j ≡ false → (with_tag b j t x).tag k ≡ b.tag k
unfolding with_tag
other-tags b j k t x e =
    let at : (u : ℕ) → cond (eqb k j && eqb u t) x (b.tag k u) ≡ b.tag k u = λ u. rw e in
    λ i u. at u i

-- an equal port with equal tags is tied alike
retied : {p q : Port} {f g : ℕ → Tag} {c : Book} → p ≡ q → f ≡ g → PortTied q g c → PortTied p f c
retied {p} {q} {f} {g} {c} a b w = rw (a, b) w

-- the port whose deed it is
own_tied : (b : Backend) (d : Deed) (c : Book) → Sound c → May d c → PortTied (b.port (port_of d)) (b.tag (port_of d)) c
    → PortTied ((does b d).port (port_of d)) ((does b d).tag (port_of d)) (entry d c)
unfolding does with_port with_tag holder
own_tied b (opening k p) c o m w =
    let z = closed-tags (b.port k) (b.tag k) c w (w.state ∙ closed_is c.state m) in
    retied (own-port b k _) refl (record { state = refl; shape = shape-new State.Open p (b.tag k) _ refl refl refl z })
own_tied b (closing k) c o m w =
    let z = open-shape (b.port k) (b.tag k) c m.opened w in
    retied (own-port b k _) refl (closed-tied (b.tag k) (in_state State.Closed c) refl refl (λ t. z.keeps t ∙ ap tag_of (none-held t c.taken m.idle)))
own_tied b (breaking k) c o m w =
    let z = open-shape (b.port k) (b.tag k) c m w in
    retied (own-port b k _) refl (open-tied (broken_port (b.port k)) (b.tag k) (in_state State.Broken c) refl refl (record {
      params = z.params;
      consumed = z.consumed;
      produced = z.produced;
      busy = z.busy;
      keeps = z.keeps;
    }))
own_tied b (starting k lent t s x) c o m w =
    let z = open-shape (b.port k) (b.tag k) c m.opened w in
    let new : Pair → Tag = λ q. record { pair = q; serial = serial_of s; expected = x } in
    retied
    (own-port b k _)
    (own-tags b k t _ ∙ ap (λ (q : Pair). put (b.tag k) t (new q)) (tied-asked b k c lent z))
    (open-tied _ _ (entry (starting k lent t s x) c) m.opened w.state (shape-start (b.port k) (b.tag k) c k lent t s x m.unheld z))
own_tied b (answering k lent left y) c o m w =
    let z = open-shape (b.port k) (b.tag k) c m.opened w in
    retied
    (own-port b k _)
    refl
    (open-tied _ _ (entry (answering k lent left y) c) m.opened w.state (shape-answer (b.port k) (b.tag k) c _ _ z (λ t. refl)))
own_tied b (finishing k left t s y) c o m w =
    let z = open-shape (b.port k) (b.tag k) c m.opened w in
    let a = said k left y c in
    let n = marked (ring_in c).size t s m.holding a m.serial m.reads.pair c.taken o.good m.holds in
    let long = length-answer_to t s a c.taken in
    retied
    (own-port b k _)
    (own-tags b k t zero_tag)
    (open-tied _ _ (entry (finishing k left t s y) c) m.opened w.state (shape-finish (b.port k) (b.tag k) c _ m.holding t _ _ m.holds z long n))

-- the others
other-tied : (b : Backend) (d : Deed) (k : ℕ) (c : Book) → eqb k (port_of d) ≡ false → PortTied (b.port k) (b.tag k) c → PortTied ((does b d).port k) ((does b d).tag k) c
unfolding does with_port with_tag
other-tied b (opening j p) k c e w = retied (other-port b j k _ e) refl w
other-tied b (closing j) k c e w = retied (other-port b j k _ e) refl w
other-tied b (breaking j) k c e w = retied (other-port b j k _ e) refl w
other-tied b (starting j lent t s x) k c e w = retied (other-port b j k _ e) (other-tags b j k t _ e) w
other-tied b (answering j lent left z) k c e w = retied (other-port b j k _ e) refl w
other-tied b (finishing j left t s z) k c e w = retied (other-port b j k _ e) (other-tags b j k t zero_tag e) w

does-tied : (b : Backend) (books : ℕ → Book) (d : Deed) → PortsTied b books → Sound (books (port_of d)) → May d (books (port_of d))
    → PortsTied (does b d) (λ k. post k d (books k))
does-tied b books d w o m k =
    by_cond
    (λ (c : Book). PortTied ((does b d).port k) ((does b d).tag k) c)
    (eqb k (port_of d))
    (entry d (books k))
    (books k)
    (λ e.
    subst
    (λ (j : ℕ). PortTied ((does b d).port j) ((does b d).tag j) (entry d (books j)))
    (sym (eqb-true k (port_of d) e))
    (own_tied b d (books (port_of d)) o m (w (port_of d))))
    (λ e. other-tied b d k (books k) e (w k))

does_all-tied : (ds : List Deed) (b : Backend) (books : ℕ → Book) → PortsTied b books → ((k : ℕ) → Sound (books k)) → ((k : ℕ) → MayAll k ds (books k))
    → PortsTied (does_all b ds) (λ k. posts k ds (books k))
does_all-tied [] b books w o m = w
does_all-tied (d ∷ ds) b books w o m =
    does_all-tied
    ds
    (does b d)
    (λ k. post k d (books k))
    (does-tied b books d w (o (port_of d)) ((m (port_of d)).1 refl))
    (λ k. sound-post k d (books k) (m k).1 (o k))
    (λ k. (m k).2)

-- ---- a call keeps the tie

next-tied : (b : Backend) (h : List Event) (e : Event) → Tied b h → ((k : ℕ) → Sound (book k h)) → LendsBytes e.call → FactsOf (view_at h) e → Tied (next b e) (e ∷ h)
unfolding next with_pointer pointer book
next-tied b h e w o y f = record {
  place = ap (moved (round_of e)) w.place;
  ports = does_all-tied (deeds_of e) b (λ k. book k h) w.ports o (λ k. may k h (o k) e y f);
}

-- ---- every list of calls

-- a backend and a history that a list of calls leads to: they are tied, the calls answered as due, and they were lent bytes
pub record Told (b : Backend) (h : List Event) : Type 0 where
  pub tied : Tied b h
  pub as_due : AsDue h
  pub bytes : LentBytes h

-- what the backend shows is what the history says
pub told-view : (b : Backend) (h : List Event) → Told b h → view_of b ≡ view_at h
told-view b h w = views b h w.tied (λ k. sound k h w.as_due w.bytes)

-- before any call
pub told-empty : Told empty_backend []
told-empty = record { tied = empty-tied; as_due = tt; bytes = tt }

-- one call more
pub told-step : (b : Backend) (h : List Event) (c : Call) → LendsBytes c → Told b h → Told (after_call b c) (event_on b c ∷ h)
told-step b h c y w =
    let o : (k : ℕ) → Sound (book k h) = λ k. sound k h w.as_due w.bytes in
    let e : event_on b c ≡ due (view_at h) c = ap (λ (v : View). due v c) (told-view b h w) in
    record {
      tied = next-tied b h (event_on b c) w.tied o y (facts-due (view_at h) (event_on b c) e);
      as_due = (e, w.as_due);
      bytes = (y, w.bytes);
    }

told-from : (cs : List Call) → All LendsBytes cs → (b : Backend) (h : List Event) → Told b h → Told (backend_after b cs) (history_from b h cs)
unfolding history_from
told-from [] y b h w = w
told-from (c ∷ cs) y b h w = told-from cs y.1 _ _ (told-step b h c y.0 w)

pub told : (cs : List Call) → All LendsBytes cs → Told (backend_after empty_backend cs) (history cs)
told cs y = told-from cs y empty_backend [] told-empty
