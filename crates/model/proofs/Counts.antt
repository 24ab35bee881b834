-- The counters hold the counts of the history, for every list of calls and zeroings. Assumes nothing but what the theorem states.
use mathlib.Core.Path.{◌≡◌, refl, sym, subst}
use mathlib.Core.Logic.{◌⊎◌, inl, inr}
use mathlib.Core.Bool.{Bool, true, false, not, cond, ◌&&◌, ◌||◌}
use mathlib.Core.List.{List, [], ◌∷◌, map}
use mathlib.Core.Option.{Option}
use Prim.Native.Nat.{ℕ, suc, min}
use native.Mathlib.Omega.{arith}
use lib.Dec.{eqb, ltb}
use lib.ListN.{length}
use Rattle.std.specs.Prelude.{Result, Ok, Err, Some}
use Rattle.model.specs.Buffers.{are_rings}
use Rattle.model.specs.Ring.{status_bits}
use Rattle.model.specs.Port.{is_closed, View}
use Rattle.model.specs.Calls.{Reply, Call, Open, Close, Turn, Complete, CompleteAnswer, none_done, all_done, CompleteEffect, Effect, Event, most_completions}
use Rattle.model.specs.Turn.{ring_at}
use Rattle.model.specs.Complete.{Completion, completions_in, are_entries, completed}
use Rattle.model.specs.Rules.{no_port, any_names_none, named_twice, refused_completion, due_complete, effect_due, due}
use Rattle.model.specs.Deeds.{answering, finishing, finishings}
use Rattle.model.specs.Backend.{Backend, empty_backend, event_on, after_call}
use Rattle.model.specs.History.{Response, Book, said, entry, post, posts, book, view_at}
use Rattle.model.specs.Demand.{All, count}
use Rattle.model.specs.Counters.{zero_counters, most, one_more_of, raised_by, raised_by_all, status_counter}
use Rattle.model.specs.Counts.{Act, ended, zeroed, events_in, taken_among, given_among, taken_since, given_since, handed, went, counters_of, WellHanded, KeptWell, Counts, Counted, Doing, calls, zeroes, acts_from, DoingBytes, CountersTheorem}
use Rattle.model.specs.declared.Counter.{Counter}
use Rattle.model.specs.declared.Counters.{Counters}
use Rattle.model.specs.declared.PortId.{PortId}
use Rattle.model.specs.declared.Refusal.{Refusal}
use Rattle.model.specs.declared.Status.{Status}
use Rattle.model.specs.declared.Turned.{Turned}
use Rattle.model.proofs.Base.{by_cond, clash}
use Rattle.model.proofs.Conservation.{AsTold}
use Rattle.model.proofs.Completions.{length-statuses}
use Rattle.model.proofs.Permitted.{sound}
use Rattle.model.proofs.Refinement.{Told, told-empty, told-step}

-- ---- a number rises with its count

more-said : (n c : ℕ) → n ≡ min most c → one_more_of n ≡ min most (suc c)
unfolding one_more_of
more-said n c e = omega (arith, e)

take-one : (t : ℕ) (l : List Response) (c : Counters) → Counts t l c → Counts (suc t) l (raised_by (Some Counter.Taken) c)
take-one t l c h = record {
  taken_said = more-said c.taken t h.taken_said;
  okay_said = h.okay_said;
  error_said = h.error_said;
  unsupported_said = h.unsupported_said;
}

-- a response counts for the status that it shows, and for no other
give-one : (z : Status) (t : ℕ) (l : List Response) (a : Response) (c : Counters) → a.status ≡ status_bits z → Counts t l c → Counts t (a ∷ l) (raised_by (Some (status_counter z)) c)
unfolding count
give-one Status.Okay t l a c e h = record {
  taken_said = h.taken_said;
  okay_said = rw e (more-said c.okay _ h.okay_said);
  error_said = rw e h.error_said;
  unsupported_said = rw e h.unsupported_said;
}
give-one Status.Error t l a c e h = record {
  taken_said = h.taken_said;
  okay_said = rw e h.okay_said;
  error_said = rw e (more-said c.error _ h.error_said);
  unsupported_said = rw e h.unsupported_said;
}
give-one Status.NotSupported t l a c e h = record {
  taken_said = h.taken_said;
  okay_said = rw e h.okay_said;
  error_said = rw e h.error_said;
  unsupported_said = rw e (more-said c.unsupported _ h.unsupported_said);
}

-- ---- an event: nothing counted, a request taken, one taken and answered, one answered; of this port, or of another

module _ (t : ℕ) (l : List Response) (c : Counters) (h : Counts t l c) where
  quiet : (b d e : Bool) → Counts (cond b t t) (cond d l l) (cond e c c)
  quiet true true true = h
  quiet true true false = h
  quiet true false true = h
  quiet true false false = h
  quiet false true true = h
  quiet false true false = h
  quiet false false true = h
  quiet false false false = h

  took : (b : Bool) → Counts (cond b (suc t) t) (cond b l l) (cond b (raised_by (Some Counter.Taken) c) c)
  took true = take-one t l c h
  took false = h

  module _ (z : Status) (a : Response) where
    answered : (b : Bool) → (b ≡ true → a.status ≡ status_bits z)
        → Counts (cond b (suc t) t) (cond b (a ∷ l) l) (cond b (raised_by (Some (status_counter z)) (raised_by (Some Counter.Taken) c)) c)
    answered true e = give-one z (suc t) l a (raised_by (Some Counter.Taken) c) (e refl) (take-one t l c h)
    answered false e = h

-- a completion that is done names the port that the call named, and has a status for each entry
abbrev NamesCalled : PortId → List Completion → CompleteAnswer → Type 0
NamesCalled p cs (none_done n) = Unit
NamesCalled p cs (all_done q zs y) = (q.0 ≡ p.0) × (length zs ≡ length cs)

abbrev NC : PortId → List Completion → CompleteEffect → Type 0
NC p cs e = NamesCalled p cs e.answer

names-called : (v : View) (rings : List ℕ) (p : PortId) (entries : List ℕ) → NC p (completions_in entries) (due_complete v rings p entries)
unfolding due_complete refused_completion completed
names-called v rings p entries =
    let cs = completions_in entries in
    let tags = v.tag p.0 in
    by_cond (NC p cs) (not (are_rings rings && are_entries entries)) _ _ (λ _. tt) (λ _.
    by_cond (NC p cs) (no_port p) _ _ (λ _. tt) (λ _.
    by_cond (NC p cs) (is_closed (v.state p.0)) _ _ (λ _. tt) (λ _.
    by_cond (NC p cs) (ltb most_completions (length cs)) _ _ (λ _. tt) (λ _.
    by_cond (NC p cs) (any_names_none (ring_at v p.0) tags cs || named_twice cs) _ _ (λ _. tt) (λ _.
    (refl, length-statuses tags cs))))))

abbrev NamesIn : (c : Call) → Effect c → Type 0
NamesIn (Open p sheet) e = Unit
NamesIn (Close p) e = Unit
NamesIn (Turn rings grants words) e = Unit
NamesIn (Complete rings p entries) e = NamesCalled p (completions_in entries) e.answer

names-due : (v : View) (c : Call) → NamesIn c (effect_due v c)
unfolding effect_due
names-due v (Open p sheet) = tt
names-due v (Close p) = tt
names-due v (Turn rings grants words) = tt
names-due v (Complete rings p entries) = names-called v rings p entries

names-event : (v : View) (e : Event) → e ≡ due v e.call → NamesIn e.call e.effect
names-event v e q = subst (λ (x : Event). NamesIn x.call x.effect) (sym q) (names-due v e.call)

-- the newest response of the books, where the deed is this port's
newest : (b : Bool) (x y : Book) (a : Response) (l : List Response) → x.answered ≡ a ∷ l → All AsTold (cond b x y).answered → b ≡ true → AsTold a
newest true x y a l e s q = (subst (All AsTold) e s).0
newest false x y a l e s q = clash q refl

-- ---- the entries of a list

-- those of another port count for nothing
finishings-other : (k j : ℕ) (left : List ℕ) (cs : List Completion) (zs : List Status) (b : Book) (t : ℕ) (l : List Response) → eqb k j ≡ false
    → (taken_among k (finishings left j cs zs) t ≡ t) × (given_among k (finishings left j cs zs) b l ≡ l)
finishings-other k j left [] zs b t l e = (refl, refl)
finishings-other k j left (c ∷ cs) [] b t l e = (refl, refl)
finishings-other k j left (c ∷ cs) (z ∷ zs) b t l e =
    let deed = finishing j left c.tag.0 c.serial.0 z in
    let ds = finishings left j cs zs in
    subst (λ (d : Bool). (taken_among k ds (cond d t t) ≡ t) × (given_among k ds (cond d (entry deed b) b) (cond d (said j left z b ∷ l) l) ≡ l)) (sym e)
    (finishings-other k j left cs zs b t l e)

-- the responses that stood in the books before are among those after
told-since : (k j : ℕ) (left : List ℕ) (cs : List Completion) (zs : List Status) (b : Book) → All AsTold (posts k (finishings left j cs zs) b).answered → All AsTold b.answered
told-since k j left [] zs b s = s
told-since k j left (c ∷ cs) [] b s = s
told-since k j left (c ∷ cs) (z ∷ zs) b s =
    let deed = finishing j left c.tag.0 c.serial.0 z in
    let t = told-since k j left cs zs (post k deed b) s in
    go (eqb k j) t
  where
    go : (d : Bool) → All AsTold (cond d (entry (finishing j left c.tag.0 c.serial.0 z) b) b).answered → All AsTold b.answered
    go true t = t.1
    go false t = t

-- the port's own raise the number of each status
finishings-own : (k j : ℕ) (left : List ℕ) (cs : List Completion) (zs : List Status) (b : Book) (t : ℕ) (l : List Response) (c : Counters) → eqb k j ≡ true
    → length zs ≡ length cs → All AsTold (posts k (finishings left j cs zs) b).answered → Counts t l c
    → Counts (taken_among k (finishings left j cs zs) t) (given_among k (finishings left j cs zs) b l) (raised_by_all (map (λ y. Some (status_counter y)) zs) c)
unfolding said
finishings-own k j left [] [] b t l c e n s h = h
finishings-own k j left [] (z ∷ zs) b t l c e n s h = absurd (omega arith)
finishings-own k j left (d ∷ cs) [] b t l c e n s h = absurd (omega arith)
finishings-own k j left (d ∷ cs) (z ∷ zs) b t l c e n s h =
    let a = said j left z b in
    let ds = finishings left j cs zs in
    let next = entry (finishing j left d.tag.0 d.serial.0 z) b in
    let later : All AsTold (posts k ds next).answered = subst (λ (x : Bool). All AsTold (posts k ds (cond x next b)).answered) e s in
    let told : AsTold a = (told-since k j left cs zs next later).0 in
    subst
    (λ (x : Bool). Counts (taken_among k ds (cond x t t)) (given_among k ds (cond x next b) (cond x (a ∷ l) l)) (raised_by_all (map (λ y. Some (status_counter y)) zs) (raised_by (Some (status_counter z)) c)))
    (sym e)
    (finishings-own k j left cs zs next t (a ∷ l) (raised_by (Some (status_counter z)) c) e (omega arith) later (give-one z t l a c told h))

-- ---- one call more

module _ (k : ℕ) (h : List Act) (c : Counters) (i : Counted k h c) where
  abbrev After : Event → Option ℕ → Type 0
  After e to = Counted k (ended e to ∷ h) (cond (went k to) (handed e.call e.effect c) c)

  abbrev AllTold : Event → Type 0
  AllTold e = All AsTold (book k (e ∷ events_in h)).answered

  counted-open : (p : PortId) (sheet : List ℕ) (r : Reply) (to : Option ℕ) → After (record { call = Open p sheet; effect = r }) to
  unfolding taken_since given_since
  counted-open p sheet (Err why) to = quiet _ _ c i true true (went k to)
  counted-open p sheet (Ok done) to = quiet _ _ c i (eqb k p.0) (eqb k p.0) (went k to)

  counted-close : (p : PortId) (r : Reply) (to : Option ℕ) → After (record { call = Close p; effect = r }) to
  unfolding taken_since given_since
  counted-close p (Err why) to = quiet _ _ c i true true (went k to)
  counted-close p (Ok done) to = quiet _ _ c i (eqb k p.0) (eqb k p.0) (went k to)

  counted-turn : (rings grants words pages left : List ℕ) (r : Result Turned Refusal) (to : Option ℕ)
      → let e : Event = record { call = Turn rings grants words; effect = record { rings = pages; words = left; answer = r } } in
      AllTold e → WellHanded k e to → After e to
  unfolding taken_since given_since book said
  counted-turn rings grants words pages left (Err why) to s w = quiet _ _ c i true true (went k to)
  counted-turn rings grants words pages left (Ok Turned.Idle) to s w = quiet _ _ c i true true (went k to)
  counted-turn rings grants words pages left (Ok (Turned.Overrun p)) to s w = quiet _ _ c i (eqb k p.0) (eqb k p.0) (went k to)
  counted-turn rings grants words pages left (Ok (Turned.Started p t n plan)) to s w = rw (w p.0 refl) (took _ _ c i (eqb k p.0))
  counted-turn rings grants words pages left (Ok (Turned.Answered p f y)) to s w =
      let b = book k (events_in h) in
      rw (w p.0 refl) (answered _ _ c i f.status _ (eqb k p.0) (newest (eqb k p.0) (entry (answering p.0 rings pages f.status) b) b _ _ refl s))

  counted-complete : (rings : List ℕ) (p : PortId) (entries pages : List ℕ) (r : CompleteAnswer) (to : Option ℕ)
      → let e : Event = record { call = Complete rings p entries; effect = record { rings = pages; answer = r } } in
      NamesCalled p (completions_in entries) r → AllTold e → WellHanded k e to → After e to
  unfolding taken_since given_since book
  counted-complete rings p entries pages (none_done m) to q s w = quiet _ _ c i true true (went k to)
  counted-complete rings p entries pages (all_done j zs y) to q s w =
      rw (w j.0 refl, q.0)
      (go (eqb k p.0) refl)
    where
      cs : List Completion
      cs = completions_in entries

      b : Book
      b = book k (events_in h)

      go : (d : Bool) → eqb k p.0 ≡ d
          → Counts (taken_among k (finishings pages p.0 cs zs) (taken_since k h)) (given_among k (finishings pages p.0 cs zs) b (given_since k h))
          (cond d (raised_by_all (map (λ y. Some (status_counter y)) zs) c) c)
      go true e = finishings-own k p.0 pages cs zs b _ _ c e q.1 s i
      go false e = let o = finishings-other k p.0 pages cs zs b (taken_since k h) (given_since k h) e in rw (o.0, o.1) i

  counted-call : (f : Call) (x : Effect f) (to : Option ℕ)
      → let e : Event = record { call = f; effect = x } in
      NamesIn f x → AllTold e → WellHanded k e to → After e to
  counted-call (Open p sheet) x to q s w = counted-open p sheet x to
  counted-call (Close p) x to q s w = counted-close p x to
  counted-call (Turn rings grants words) x to q s w = counted-turn rings grants words x.rings x.words x.answer to s w
  counted-call (Complete rings p entries) x to q s w = counted-complete rings p entries x.rings x.answer to q s w

-- of an event in a history whose calls were all as due
pub counted-event : (b : Backend) (k : ℕ) (h : List Act) (e : Event) (to : Option ℕ) (c : Counters) → Told b (e ∷ events_in h) → WellHanded k e to → Counted k h c
    → Counted k (ended e to ∷ h) (cond (went k to) (handed e.call e.effect c) c)
counted-event b k h e to c t w i =
    counted-call k h c i e.call e.effect to (names-event (view_at (events_in h)) e t.as_due.0)
    (sound k (e ∷ events_in h) t.as_due t.bytes).statuses w

-- no counts at all
counts-none : Counts 0 [] zero_counters
unfolding count
counts-none = record { taken_said = refl; okay_said = refl; error_said = refl; unsupported_said = refl }

-- a record that is zeroed begins anew, whatever it held; another goes on
pub counted-zeroed : (k j : ℕ) (h : List Act) (c : Counters) → (eqb k j ≡ true) ⊎ Counted k h c → Counted k (zeroed j ∷ h) (cond (eqb k j) zero_counters c)
unfolding taken_since given_since
counted-zeroed k j h c = go (eqb k j)
  where
    go : (b : Bool) → (b ≡ true) ⊎ Counted k h c → Counts (cond b 0 (taken_since k h)) (cond b [] (given_since k h)) (cond b zero_counters c)
    go true i = counts-none
    go false (inl e) = clash e refl
    go false (inr i) = i

-- one that is zeros at first
pub counted-new : (k : ℕ) (c : Counters) → c ≡ zero_counters → Counted k [] c
unfolding taken_since given_since
counted-new k c e = subst (Counts 0 []) (sym e) counts-none

-- ---- every list of calls and zeroings

pub zeroed-kept : {A P Q : Type 0} → (P → Q) → A ⊎ P → A ⊎ Q
zeroed-kept f (inl a) = inl a
zeroed-kept f (inr p) = inr (f p)

counted-from : (ds : List Doing) → All DoingBytes ds → (b : Backend) (h : List Act) → Told b (events_in h) → (k : ℕ) (c : Counters)
    → (KeptWell k c h → Counted k h (counters_of k c h)) → KeptWell k c (acts_from b h ds) → Counted k (acts_from b h ds) (counters_of k c (acts_from b h ds))
unfolding acts_from events_in counters_of
counted-from [] y b h t k c i = i
counted-from (calls f to ∷ ds) y b h t k c i =
    let t' = told-step b (events_in h) f y.0 t in
    counted-from ds y.1 (after_call b f) (ended (event_on b f) to ∷ h) t' k c
    (λ w. counted-event (after_call b f) k h (event_on b f) to (counters_of k c h) t' w.0 (i w.1))
counted-from (zeroes j ∷ ds) y b h t k c i =
    counted-from ds y.1 b (zeroed j ∷ h) t k c (λ w. counted-zeroed k j h (counters_of k c h) (zeroed-kept i w))

pub counted : CountersTheorem
unfolding events_in counters_of
counted ds y k c = counted-from ds y empty_backend [] told-empty k c (counted-new k c)
