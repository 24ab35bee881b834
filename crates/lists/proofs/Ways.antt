-- The ways that completing a list ends. Assumes nothing.
use mathlib.Core.Path.{◌≡◌, refl, sym, ap, ◌∙◌, subst}
use mathlib.Core.Bool.{Bool, true, false, cond, ◌||◌}
use mathlib.Core.List.{List, [], ◌∷◌, ◌++◌, append-nil}
use Prim.Native.Nat.{ℕ, zero, suc, ◌+◌, ◌-◌, ◌*◌, ◌/◌, ◌%◌, ◌≤◌, ◌<◌}
use native.Mathlib.Nat.{add-zero, zero-add}
use native.Mathlib.Omega.{arith}
use lib.Dec.{ltb}
use Rattle.std.specs.Prelude.{Option, Some, None, Result, Ok, Err}
use lib.ListN.{length, get_or, take, drop, set, replicate, length-append, length-map, length-replicate, drop_of_length-le}
use lib.Seq.{sets, sets-eq}
use borrow.Author.Tests.{le-leb, lt-leb, leb-true, leb-false, lt-ltb, le-ltb, eq-eqb, ne_eqb}
use Rattle.model.specs.Answers.{magnitude, magnitudes, status_words}
use Rattle.model.specs.Backend.{Backend, view_of, with_port, with_pointer, does_all, next}
use Rattle.model.specs.Base.{modulus}
use Rattle.model.specs.Buffers.{ports, rings_length, pages_of, set_pages}
use Rattle.model.specs.Calls.{Reply, Call, Complete, none_done, all_done, CompleteEffect, most_completions}
use Rattle.model.specs.Complete.{Completion, entry_words, completion_at, completions_from, completions_in, responses_for, completed}
use Rattle.model.specs.Deeds.{deeds, finishings}
use Rattle.model.specs.Port.{is_closed, Holder, free, held, is_free, tag_of, is_busy, distance, further}
use Rattle.model.specs.Ring.{Ring, rsp_event, set_rsp_prod, slot_at, ring_of}
use Rattle.model.specs.Rules.{no_port, names_none, any_names_none, named_twice, refused_completion, due_complete, effect_due}
use Rattle.model.specs.Turn.{port_id, ring_at, ResponseDue, written, responded_all, responded_all_at, tells, notifies_all}
use Rattle.model.specs.declared.CompletedMany.{CompletedMany}
use Rattle.model.specs.declared.Port.{Port}
use Rattle.model.specs.declared.PortId.{PortId}
use Rattle.model.specs.declared.Refusal.{Refusal}
use Rattle.model.specs.declared.Status.{Status}
use Rattle.model.specs.declared.Tag.{Tag}
use Rattle.model.proofs.Base.{clash, or_left, or_right}
use Rattle.model.proofs.Completions.{names-one, length-in, length-statuses}
use Rattle.model.proofs.Responses.{none-responded}
use Rattle.model.proofs.Ring.{Fits, slot_at-header}
use Rattle.model.proofs.View.{view-state, view-responded-all, view-notifies-all}
use Rattle.response.proofs.Responses.{event-response}
use Rattle.memory.specs.Backend.{backend_of, Becomes, with_produced, with_busy}
use Rattle.memory.specs.Layout.{tags}
use Rattle.memory.specs.Promise.{Promised}
use Rattle.memory.proofs.Backend.{backend-ranged}
use Rattle.memory.proofs.Changes.{then, restated, fields-become, promised, nothing-done}
use Rattle.completion.specs.Steps.{in_use_due}
use Rattle.completion.proofs.Completions.{does-pointer, pointer-kept}
use Rattle.entries.specs.Entries.{holder_in, left_of}
use Rattle.entries.proofs.FirstPass.{cleared, left-of}
use Rattle.lists.specs.List.{responses_along, emptied, TagsNamed, statuses_at, statuses_of, port_with, ListFinished, many_of, many_filled, ManyPromised}
use Rattle.lists.proofs.Lists.{responses-along, emptied-ports, does-list}

-- ---- published

-- a response for each entry
pub length-along : (cs : List Completion) (b : Backend) (k : ℕ) → length (responses_along b k cs) ≡ length cs
unfolding responses_along
length-along [] b k = refl
length-along (c ∷ cs) b k = ap suc (length-along cs _ k)

-- some responses, and then rsp_prod
pub published : (g : Ring) (page : List ℕ) (i n : ℕ) (xs : List ResponseDue) → length xs ≡ n → 0 < n → set_rsp_prod (written g page i xs) (further i n) ≡ responded_all g page i xs
unfolding responded_all
published g page i n [] e l = absurd (omega arith)
published g page i n (x ∷ xs) e l = ap (λ (m : ℕ). set_rsp_prod (written g page i (x ∷ xs)) (further i m)) (sym e)

-- rsp_event stands before every slot
pub event-written : (g : Ring) → Fits g → (xs : List ResponseDue) (page : List ℕ) (i : ℕ) → rsp_event (written g page i xs) ≡ rsp_event page
unfolding written
event-written g f [] page i = refl
event-written g f (x ∷ xs) page i =
    event-written g f xs _ _
    ∙ event-response g.layout f.status_room page (slot_at g i) x.pair x.status (omega (arith, slot_at-header g f i))

-- ---- the words of the answer

sets-append : (vs ws l : List ℕ) (i : ℕ) → sets (sets l i vs) (i + length vs) ws ≡ sets l i (vs ++ ws)
sets-append [] ws l i = ap (λ (j : ℕ). sets l j ws) (add-zero i)
sets-append (v ∷ vs) ws l i = ap (λ (j : ℕ). sets (sets (set l i v) (suc i) vs) j ws) (omega arith) ∙ sets-append vs ws (set l i v) (suc i)

-- the statuses, and zeros behind them
pub filled-words : (lent : List ℕ) (zs : List Status) (n : ℕ) → length lent ≡ 68 → length zs ≡ n → n ≤ most_completions
    → sets (sets lent statuses_at (magnitudes zs)) (statuses_at + n) (replicate (most_completions - n) 0) ≡ take statuses_at lent ++ status_words zs
unfolding status_words
filled-words lent zs n l e h =
    let vs = magnitudes zs in
    let ws = replicate {A = ℕ} (most_completions - n) 0 in
    let count : length vs ≡ n = length-map zs magnitude ∙ e in
    let whole : length (vs ++ ws) ≡ 64 = simp (length-append, length-replicate) (omega arith) in
    let none : drop (statuses_at + length (vs ++ ws)) lent ≡ [] = drop_of_length-le lent {i = statuses_at + length (vs ++ ws)} (omega arith) in
    ap (λ (j : ℕ). sets (sets lent statuses_at vs) (statuses_at + j) ws) (sym count)
    ∙ sets-append vs ws lent statuses_at
    ∙ sets-eq (vs ++ ws) lent statuses_at (omega arith)
    ∙ ap (λ (r : List ℕ). take statuses_at lent ++ (vs ++ ws) ++ r) none
    ∙ append-nil (take statuses_at lent ++ (vs ++ ws))
    ∙ (ap (λ (j : ℕ). take statuses_at lent ++ (vs ++ replicate {A = ℕ} (most_completions - j) 0)) (sym e))

-- ---- the port's fields

-- R raised and the marks left, once the tags are zeroed
pub fields-left : {m m1 m2 m3 : List ℕ} (k : ℕ) (cs : List Completion) (p : Port) (n v marks : ℕ) → p ≡ (backend_of m).port k → v ≡ further p.produced n
    → Becomes m (emptied (backend_of m) k cs) m1
    → Becomes m1 (with_port (backend_of m1) k (with_produced ((backend_of m1).port k) v)) m2
    → Becomes m2 (with_port (backend_of m2) k (with_busy ((backend_of m2).port k) marks)) m3
    → Becomes m (with_port (emptied (backend_of m) k cs) k (port_with ((backend_of m).port k) n marks)) m3
fields-left {m = m} k cs p n v marks e f a b c =
    let gave = then (λ (o : Backend). with_port o k (with_produced (o.port k) v)) a b in
    let both = fields-become (emptied (backend_of m) k cs) k (λ q. with_produced q v) (λ q. with_busy q marks) gave c in
    restated both (rw (emptied-ports cs (backend_of m) k k, f, e))

-- ---- what the first pass found

no-left : {A : Type 0} {marks : ℕ} → ◌≡◌ {A = Option ℕ} None (Some marks) → A
no-left e = let bad : ◌≡◌ {A = ℕ} 0 1 = cc in absurd (omega arith)

-- entries that are not at fault name tags of the ring
tags-from : (g : Ring) (holders : ℕ → Holder) (n : ℕ) (words : List ℕ) (j : ℕ) → g.size ≤ tags → any_names_none g holders (completions_from n words j) ≡ false
    → (i : ℕ) → i < n → get_or words (entry_words * (j + i)) 0 < tags
unfolding completions_from completion_at any_names_none
tags-from g holders zero words j l e i h = absurd (omega arith)
tags-from g holders (suc n) words j l e zero h =
    let small = (names-one g (completion_at words j).tag (completion_at words j).serial (holders (get_or words (entry_words * j) 0)) (or_left _ _ e)).small in
    rw (add-zero j) (omega (arith, small))
tags-from g holders (suc n) words j l e (suc i) h =
    let later = or_right (names_none g (completion_at words j).tag (completion_at words j).serial (holders (get_or words (entry_words * j) 0))) _ e in
    subst (λ (x : ℕ). get_or words (entry_words * x) 0 < tags) (omega arith) (tags-from g holders n words (suc j) l later i (omega arith))

module _ (g : Ring) (keep : ℕ → Tag) (busy : ℕ) (cs : List Completion) where
  abbrev fault : Bool
  fault = any_names_none g (holder_in busy keep) cs || named_twice cs

  -- an entry at fault, where it said so,
  pub left-fault : None ≡ left_of g keep busy cs → fault ≡ true
  left-fault e = go fault (e ∙ left-of g keep cs busy)
    where
      go : (d : Bool) → None ≡ cond d None (Some (cleared busy cs)) → d ≡ true
      go true q = refl
      go false q = no-left q

  -- and none where it gave the marks that are left
  pub left-marks : (marks : ℕ) → Some marks ≡ left_of g keep busy cs → (fault ≡ false) × (marks ≡ cleared busy cs)
  left-marks marks e = go fault (e ∙ left-of g keep cs busy)
    where
      go : (d : Bool) → Some marks ≡ cond d None (Some (cleared busy cs)) → (d ≡ false) × (marks ≡ cleared busy cs)
      go true q = no-left (sym q)
      go false q = (refl, cc)

-- the entries then name tags that there are
pub named-tags : (g : Ring) (keep : ℕ → Tag) (busy marks : ℕ) (words : List ℕ) → g.size ≤ tags → Some marks ≡ left_of g keep busy (completions_in words) → TagsNamed words
unfolding completions_in
named-tags g keep busy marks words l e i h =
    rw (zero-add i) at (tags-from g (holder_in busy keep) (length words / entry_words) words 0 l (or_left _ _ (left-marks g keep busy (completions_in words) marks e).0) i h)

-- ---- the ways that it ends

-- no words are no entries
no-entries : (words : List ℕ) → length words ≡ 0 → completions_in words ≡ []
unfolding completions_in completions_from
no-entries words z = ap (λ (n : ℕ). completions_from (n / entry_words) words 0) z

-- no responses are told to nobody
tells_none : (old event : ℕ) → old < modulus → tells old 0 event ≡ false
unfolding tells distance
tells_none old event l =
    let z : distance (further old 0) old ≡ 0 = omega arith in
    ap (ltb (distance (further old 0) event)) z ∙ le-ltb (distance (further old 0) event) 0 (omega arith)

-- what holds a tag in the backend's view is what its memory keeps of it
kept : (b : Backend) (k u : ℕ) (x : Tag) → (view_of b).tag k u ≡ held x → x ≡ b.tag k u
unfolding view_of
kept b k u x = go (is_busy (b.port k).busy u)
  where
    go : (d : Bool) → cond d (held (b.tag k u)) free ≡ held x → x ≡ b.tag k u
    go true e = ap tag_of (sym e)
    go false e = clash (sym (ap is_free e)) refl

-- some entries do something
some-deeds : (cs : List Completion) (zs : List Status) (left : List ℕ) (k : ℕ) → length zs ≡ length cs → 0 < length cs → finishings left k cs zs ≡ [] → ⊥
some-deeds [] zs left k e l d = omega arith
some-deeds (c ∷ cs) [] left k e l d = omega arith
some-deeds (c ∷ cs) (z ∷ zs) left k e l d = let bad : ◌≡◌ {A = ℕ} 0 1 = cc in omega arith

module _ (m rings : List ℕ) (p : PortId) (words lent : List ℕ) where
  abbrev call : Call
  call = Complete rings p words

  abbrev b : Backend
  b = backend_of m

  abbrev cs : List Completion
  cs = completions_in words

  -- as every call promises, with the answer in two parts
  many : (e : CompleteEffect) (left : List ℕ) → Promised m call e left → (r : Result CompletedMany Refusal) (after : List ℕ) → r ≡ many_of e.answer → after ≡ many_filled e.answer lent
      → ManyPromised m rings p words lent e.rings r after left
  many e left q r after x y = record {
    rings = ap (λ (o : CompleteEffect). o.rings) q.effect;
    answer = x ∙ ap (λ (o : CompleteEffect). many_of o.answer) q.effect;
    filled = y ∙ ap (λ (o : CompleteEffect). many_filled o.answer lent) q.effect;
    memory = q.memory;
    still = λ d. q.still (subst (λ (o : CompleteEffect). deeds call o ≡ []) (sym q.effect) d);
  }

  abbrev Refused : Refusal → Type 0
  Refused why = ManyPromised m rings p words lent rings (Err why) lent m

  refused : (why : Refusal) → due_complete (view_of b) rings p words ≡ refused_completion rings why → Refused why
  unfolding effect_due refused_completion
  refused why e = many (record { rings = rings; answer = none_done why }) m (nothing-done m call (record { rings = rings; answer = none_done why }) (sym e) refl refl) _ lent refl refl

  pub list-wrong-rings : (length rings ≡ rings_length → ⊥) → Refused Refusal.WrongLength
  unfolding due_complete
  list-wrong-rings n = refused Refusal.WrongLength (rw (ne_eqb _ _ n))

  module _ (n : length rings ≡ rings_length) where
    pub list-wrong-words : (length words % entry_words ≡ 0 → ⊥) → Refused Refusal.WrongLength
    unfolding due_complete
    list-wrong-words w = refused Refusal.WrongLength (rw (eq-eqb _ _ n, ne_eqb _ _ w))

    module _ (w : length words % entry_words ≡ 0) where
      list-no-port : ports ≤ p.0 → Refused Refusal.NoPort
      unfolding due_complete
      list-no-port h = refused Refusal.NoPort (rw (eq-eqb _ _ n, eq-eqb _ _ w, le-leb ports p.0 h))

      module _ (h : p.0 < ports) where
        list-closed : is_closed (b.port p.0).state ≡ true → Refused Refusal.IsClosed
        unfolding due_complete
        list-closed c = refused Refusal.IsClosed (rw (eq-eqb _ _ n, eq-eqb _ _ w, lt-leb ports p.0 h, view-state b p.0, c))

      -- no such port, or a closed one
      pub list-unused : (why : Refusal) → in_use_due b p ≡ Err why → Refused why
      list-unused why = go (no_port p) (is_closed (b.port p.0).state) refl refl
        where
          go : (d e : Bool) → no_port p ≡ d → is_closed (b.port p.0).state ≡ e
              → ◌≡◌ {A = Reply} (cond d (Err Refusal.NoPort) (cond e (Err Refusal.IsClosed) (Ok tt))) (Err why) → Refused why
          go true e none closed q =
              let z : why ≡ Refusal.NoPort = cc in
              rw z (list-no-port (leb-true ports p.0 none))
          go false true none closed q =
              let z : why ≡ Refusal.IsClosed = cc in
              rw z (list-closed (omega (arith, leb-false ports p.0 none)) closed)
          go false false none closed q = let z : ◌≡◌ {A = ℕ} 0 1 = cc in absurd (omega arith)

      module _ (h : p.0 < ports) where
        module _ (c : is_closed (b.port p.0).state ≡ false) where
          pub list-too-long : entry_words * most_completions < length words → Refused Refusal.TooMany
          unfolding due_complete
          list-too-long l =
              refused Refusal.TooMany (rw (eq-eqb _ _ n, eq-eqb _ _ w, lt-leb ports p.0 h, view-state b p.0, c, lt-ltb most_completions (length cs) (omega (arith, length-in words))))

          module _ (few : length words ≤ entry_words * most_completions) where
            count : length cs ≤ most_completions
            count = omega (arith, length-in words)

            -- the rules' test, on what the memory keeps
            faulty : (d : Bool) → fault (ring_of (b.port p.0).params) (b.tag p.0) (b.port p.0).busy cs ≡ d
                → any_names_none (ring_at (view_of b) p.0) ((view_of b).tag p.0) cs || named_twice cs ≡ d
            unfolding view_of
            faulty d e = e

            pub list-at-fault : None ≡ left_of (ring_of (b.port p.0).params) (b.tag p.0) (b.port p.0).busy cs → Refused Refusal.NotBusy
            unfolding due_complete
            list-at-fault e =
                refused Refusal.NotBusy (rw (eq-eqb _ _ n, eq-eqb _ _ w, lt-leb ports p.0 h, view-state b p.0, c, le-ltb most_completions (length cs) count, faulty true (left-fault _ _ _ cs e)))

            done-due : fault (ring_of (b.port p.0).params) (b.tag p.0) (b.port p.0).busy cs ≡ false
                → due_complete (view_of b) rings p words ≡ completed (view_of b) rings p.0 cs
            unfolding due_complete
            done-due e = rw (eq-eqb _ _ n, eq-eqb _ _ w, lt-leb ports p.0 h, view-state b p.0, c, le-ltb most_completions (length cs) count, faulty false e)

            -- with no entries nothing is done but the words of the answer
            pub list-empty : length words ≡ 0 → length lent ≡ 68
                → ManyPromised m rings p words lent rings (Ok (record { port = p; notify = false })) (sets lent (statuses_at + 0) (replicate most_completions 0)) m
            unfolding effect_due completed responses_for any_names_none named_twice
            list-empty z l =
                let k = p.0 in
                let no : cs ≡ [] = no-entries words z in
                let e : CompleteEffect = record { rings = rings; answer = all_done p [] false } in
                let quiet : notifies_all (view_of b) rings k 0 ≡ false = view-notifies-all b k rings 0 ∙ tells_none (b.port k).produced _ (backend-ranged m k).produced in
                let right : due_complete (view_of b) rings p words ≡ e =
                done-due (rw no) ∙ rw no (λ i. record { rings = none-responded (view_of b) rings k i; answer = all_done (port_id k) [] (quiet i) }) in
                many e m (nothing-done m call e (sym right) (rw no) refl) (Ok (record { port = p; notify = false })) (sets lent (statuses_at + 0) (replicate most_completions 0)) refl
                (filled-words lent [] 0 l refl (omega arith))

            -- a list that is answered, and leaves these marks
            pub list_done : (marks : ℕ) → 0 < length words / entry_words
                → Some marks ≡ left_of (ring_of (b.port p.0).params) (b.tag p.0) (b.port p.0).busy cs
                → (put : List ℕ) (r : CompletedMany) (after left : List ℕ) → ListFinished m rings p marks words lent put r after left
                → ManyPromised m rings p words lent put (Ok r) after left
            unfolding effect_due completed next
            list_done marks some found put r after left z =
                let k = p.0 in
                let v = view_of b in
                let f = left-marks (ring_of (b.port k).params) (b.tag k) (b.port k).busy cs marks found in
                let test = faulty false f.0 in
                let xs = responses_for (v.tag k) cs in
                let zs = statuses_of xs in
                let along : responses_along b k cs ≡ xs =
                responses-along (ring_at v k) cs b k (v.tag k) (kept b k) (or_left _ _ test) (or_right (any_names_none (ring_at v k) (v.tag k) cs) _ test) in
                let count : length words / entry_words ≡ length xs = sym (length-in words) ∙ sym (length-along cs b k) ∙ ap (λ (l : List ResponseDue). length l) along in
                let e : CompleteEffect = record { rings = responded_all_at v rings k xs; answer = all_done p zs (notifies_all v rings k (length xs)) } in
                let rings' : put ≡ responded_all_at v rings k xs =
                z.rings
                ∙ ap (λ (l : List ResponseDue). let g = ring_of (b.port k).params in set_pages g rings k (responded_all g (pages_of g rings k) (b.port k).produced l)) along
                ∙ sym (view-responded-all b k rings xs) in
                let done_with : Bool → CompletedMany = λ y. record { port = p; notify = y } in
                let told : r ≡ done_with (notifies_all v rings k (length xs)) =
                z.answer
                ∙ ap (λ (n : ℕ). done_with (tells (b.port k).produced n (rsp_event (pages_of (ring_of (b.port k).params) rings k)))) count
                ∙ ap done_with (sym (view-notifies-all b k rings (length xs))) in
                let same : with_port (emptied b k cs) k (port_with (b.port k) (length words / entry_words) marks) ≡ with_pointer (does_all b (finishings e.rings k cs zs)) b.pointer =
                (λ i. with_port (emptied b k cs) k (port_with (b.port k) (sym (length-in words) i) (f.1 i)))
                ∙ sym (does-list cs zs b k e.rings (length-statuses (v.tag k) cs) (backend-ranged m k).produced)
                ∙ sym (pointer-kept _ b.pointer (does-pointer cs zs b k e.rings)) in
                let done = promised m call e left (sym (done-due f.0)) (restated z.memory same) (λ d. absurd (some-deeds cs zs e.rings k (length-statuses (v.tag k) cs) (omega (arith, length-in words)) d)) in
                subst (λ (l : List ℕ). ManyPromised m rings p words lent l (Ok r) after left) (sym rings')
                (many e left done (Ok r) after (ap (λ (c : CompletedMany). Ok c) told) (z.filled ∙ ap (λ (l : List ResponseDue). take statuses_at lent ++ status_words (statuses_of l)) along))
