-- Lists of completions: what the tests of a list say of its entries, one after another, and that its deeds may be done. The backend is not in sight. Assumes
-- nothing.
use mathlib.Core.Path.{◌≡◌, refl, sym, ap, subst, ◌∙◌}
use mathlib.Core.Logic.{◌≢◌}
use mathlib.Core.Bool.{true, false, cond}
use mathlib.Core.List.{List, [], ◌∷◌, map}
use Prim.Native.Nat.{ℕ, zero, suc, ◌/◌, ◌≤◌, ◌<◌}
use native.Mathlib.Decide.{ℕ_discrete}
use native.Mathlib.Omega.{arith}
use lib.Dec.{eqb, leb}
use lib.ListN.{length, length-map}
use borrow.Author.Tests.{leb-false, eqb-true, eqb-false, eq-eqb, ne_eqb, not-false}
use Rattle.model.specs.Buffers.{ports, pages_of}
use Rattle.model.specs.Ring.{Ring}
use Rattle.model.specs.Port.{is_closed, Holder, free, held, tag_of}
use Rattle.model.specs.Turn.{ResponseDue}
use Rattle.model.specs.Complete.{Completion, entry_words, completions_from, completions_in, response_for, responses_for}
use Rattle.model.specs.Rules.{names_none, any_names_none, any_names, named_twice}
use Rattle.model.specs.Deeds.{finishing, finishings}
use Rattle.model.specs.History.{Response, Taken, Book, ring_in, said, answer_to, entry, unfinished, holder, pairs_of}
use Rattle.model.specs.declared.Serial.{Serial}
use Rattle.model.specs.declared.Status.{Status}
use Rattle.model.specs.declared.Tag.{Tag}
use Rattle.model.specs.declared.TagId.{TagId}
use Rattle.model.proofs.Base.{clash, or_left, or_right}
use Rattle.model.proofs.Ring.{Fits, fits}
use Rattle.model.proofs.Order.{count-all}
use Rattle.model.proofs.Ledger.{Good, held_fits, Marked, marked}
use Rattle.model.proofs.Responses.{AllRead, AllFit}
use Rattle.model.proofs.Conservation.{Sound, MayFinish, MayAll, sound-post}

-- An entry that is not refused names a request, and one without an answer: its tag is one of the ring's, it is held, and by that serial. So an answer is given to
-- somebody, (c), and to nobody twice, (d).
pub record Names (g : Ring) (t : TagId) (s : Serial) (x : Holder) : Type 0 where
  pub holding : Tag
  pub holds : x ≡ held holding
  pub small : t.0 < g.size
  pub serial : holding.serial.0 ≡ s.0

pub names-one : (g : Ring) (t : TagId) (s : Serial) (x : Holder) → names_none g t s x ≡ false → Names g t s x
unfolding names_none
names-one g t s free e = clash refl (or_right (leb g.size t.0) _ e)
names-one g t s (held x) e = record {
  holding = x;
  holds = refl;
  small = leb-false _ _ (or_left _ _ e);
  serial = eqb-true _ _ (not-false _ (or_right (leb g.size t.0) _ e));
}

-- ---- how many there are

pub length_from : (n : ℕ) (words : List ℕ) (i : ℕ) → length (completions_from n words i) ≡ n
unfolding completions_from
length_from zero words i = refl
length_from (suc n) words i = ap suc (length_from n words (suc i))

-- one for each three words
pub length-in : (words : List ℕ) → length (completions_in words) ≡ length words / entry_words
unfolding completions_in
length-in words = length_from (length words / entry_words) words 0

-- a status for each
pub length-statuses : (tags : ℕ → Holder) (cs : List Completion) → length (map (λ x. x.status) (responses_for tags cs)) ≡ length cs
unfolding responses_for
length-statuses tags cs = length-map (map (response_for tags) cs) (λ (x : ResponseDue). x.status) ∙ length-map cs (response_for tags)

-- ---- the tags, once one of them is free

abbrev pub freed : ℕ → (ℕ → Holder) → ℕ → Holder
freed t tags u = cond (eqb u t) free (tags u)

module _ (g : Ring) where
  -- the first entry, and what is left of the tests for the others
  pub record Head (tags : ℕ → Holder) (c : Completion) (cs : List Completion) : Type 0 where
    pub names : Names g c.tag c.serial (tags c.tag.0)
    pub rest : any_names_none g tags cs ≡ false
    pub alone : any_names c.tag.0 cs ≡ false
    pub others : named_twice cs ≡ false

  pub head : (tags : ℕ → Holder) (c : Completion) (cs : List Completion) → any_names_none g tags (c ∷ cs) ≡ false → named_twice (c ∷ cs) ≡ false → Head tags c cs
  unfolding any_names_none named_twice
  head tags c cs e d = record {
    names = names-one g c.tag c.serial _ (or_left _ _ e);
    rest = or_right (names_none g c.tag c.serial (tags c.tag.0)) _ e;
    alone = or_left _ _ d;
    others = or_right (any_names c.tag.0 cs) _ d;
  }

-- entries that do not name the tag see no difference
unnamed : (t : ℕ) (c : Completion) (cs : List Completion) → any_names t (c ∷ cs) ≡ false → (eqb c.tag.0 t ≡ false) × (any_names t cs ≡ false)
unfolding any_names
unnamed t c cs e = (ne_eqb _ _ (λ q. eqb-false t c.tag.0 (or_left _ _ e) (sym q)), or_right (eqb t c.tag.0) _ e)

pub freed-names : (g : Ring) (t : ℕ) (tags : ℕ → Holder) (cs : List Completion) → any_names t cs ≡ false
    → any_names_none g (freed t tags) cs ≡ any_names_none g tags cs
unfolding any_names_none
freed-names g t tags [] e = refl
freed-names g t tags (c ∷ cs) e = let u = unnamed t c cs e in rw (u.0, freed-names g t tags cs u.1)

pub freed-responses : (t : ℕ) (tags : ℕ → Holder) (cs : List Completion) → any_names t cs ≡ false → responses_for (freed t tags) cs ≡ responses_for tags cs
unfolding responses_for response_for
freed-responses t tags [] e = refl
freed-responses t tags (c ∷ cs) e = let u = unnamed t c cs e in rw (u.0, freed-responses t tags cs u.1)

-- ---- against the requests taken

-- the tags as the ledger has them
abbrev pub HeldAs : (ℕ → Holder) → List Taken → Type 0
HeldAs tags l = (u : ℕ) → holder u l ≡ tags u

-- once the request of tag t is answered, it is free, and the others are held as before
held_after : (n t : ℕ) (b : Response) (tags : ℕ → Holder) (l m : List Taken) → HeldAs tags l → Marked n t b l m → HeldAs (freed t tags) m
held_after n t b tags l m a k u =
    elim (ℕ_discrete u t) [
      | yes e ↦ rw (eq-eqb u t e, e) k.freed
      | no e ↦ rw (ne_eqb u t e) (k.others u e ∙ a u)
    ]

module _ (g : Ring) where
  -- an entry's request, answered in whatever way
  answers : (tags : ℕ → Holder) (c : Completion) (l : List Taken) → Good g.size l → HeldAs tags l → (n : Names g c.tag c.serial (tags c.tag.0))
      → (b : Response) → b.pair ≡ n.holding.pair → Marked g.size c.tag.0 b l (answer_to c.tag.0 c.serial.0 b l)
  answers tags c l good a n b own = marked g.size c.tag.0 c.serial.0 n.holding b n.serial own l good (a c.tag.0 ∙ n.holds)

  -- there are no more entries than unfinished requests
  pub entries-few : (tags : ℕ → Holder) (cs : List Completion) (l : List Taken) → Good g.size l → HeldAs tags l
      → any_names_none g tags cs ≡ false → named_twice cs ≡ false → length cs ≤ length (unfinished l)
  entries-few tags [] l good a e d = omega arith
  entries-few tags (c ∷ cs) l good a e d =
      let h = head g tags c cs e d in
      let b : Response = record { pair = h.names.holding.pair; status = 0; told = Status.Okay } in
      let m = answers tags c l good a h.names b refl in
      let rest =
      entries-few (freed c.tag.0 tags) cs (answer_to c.tag.0 c.serial.0 b l) m.good (held_after g.size c.tag.0 b tags l _ a m)
      (freed-names g c.tag.0 tags cs h.alone ∙ h.rest) h.others in
      omega (
        arith,
        m.counts (λ _. true),
        count-all (pairs_of (unfinished l)),
        count-all (pairs_of (unfinished (answer_to c.tag.0 c.serial.0 b l))),
        length-map (unfinished l) (λ (r : Taken). r.pair),
        length-map (unfinished (answer_to c.tag.0 c.serial.0 b l)) (λ (r : Taken). r.pair),
      )

  -- and their pairs fit
  pub responses-fit : (tags : ℕ → Holder) (f : Fits g) (cs : List Completion) (l : List Taken) → Good g.size l → HeldAs tags l → any_names_none g tags cs ≡ false
      → AllFit g f (responses_for tags cs)
  unfolding responses_for response_for any_names_none
  responses-fit tags f [] l good a e = tt
  responses-fit tags f (c ∷ cs) l good a e =
      let n = names-one g c.tag c.serial _ (or_left _ _ e) in
      let rest = or_right (names_none g c.tag c.serial (tags c.tag.0)) _ e in
      (rw n.holds (held_fits g.size c.tag.0 n.holding l good (a c.tag.0 ∙ n.holds)), responses-fit tags f cs l good a rest)

-- ---- the deeds

-- the statuses of responses
abbrev pub statuses_of : List ResponseDue → List Status
statuses_of xs = map (λ x. x.status) xs

-- Entry after entry: each request is held under its tag and serial until its own deed, and its response stands in the page that the call left.
pub may-finish-all : (k : ℕ) → k < ports → (left : List ℕ) (cs : List Completion) (tags : ℕ → Holder) (b : Book) → is_closed b.state ≡ false → Sound b
    → HeldAs tags b.taken → any_names_none (ring_in b) tags cs ≡ false → named_twice cs ≡ false
    → AllRead (ring_in b) (fits b.params) (responses_for tags cs) (pages_of (ring_in b) left k) (length b.answered)
    → MayAll k (finishings left k cs (statuses_of (responses_for tags cs))) b
unfolding responses_for response_for said
may-finish-all k small left [] tags b o s a e d r = tt
may-finish-all k small left (c ∷ cs) tags b o s a e d r =
    let g = ring_in b in
    let t = c.tag.0 in
    let h = head g tags c cs e d in
    let x = h.names.holding in
    let z = (response_for tags c).status in
    let own : (tag_of (tags t)).pair ≡ x.pair = ap (λ (y : Holder). (tag_of y).pair) h.names.holds in
    let may : MayFinish k left t c.serial.0 z b = record {
      opened = o;
      holding = x;
      holds = a t ∙ h.names.holds;
      serial = h.names.serial;
      reads = record { pair = r.0 ∙ own; status = r.1 };
    } in
    let deed = finishing k left t c.serial.0 z in
    let m = answers g tags c b.taken s.good a h.names (said k left z b) (r.0 ∙ own) in
    let same = freed-responses t tags cs h.alone in
    let next : Sound (entry deed b) = rw (eq-eqb k k refl) at (sound-post k deed b (λ _. may) s) in
    let rest : MayAll k (finishings left k cs (statuses_of (responses_for (freed t tags) cs))) (entry deed b) =
    may-finish-all k small left cs (freed t tags) (entry deed b) o next (held_after g.size t (said k left z b) tags b.taken _ a m)
    (freed-names g t tags cs h.alone ∙ h.rest) h.others
    (subst (λ (xs : List ResponseDue). AllRead g (fits b.params) xs (pages_of g left k) (suc (length b.answered))) (sym same) r.2) in
    (small, λ _. may, rw (eq-eqb k k refl) (subst (λ (xs : List ResponseDue). MayAll k (finishings left k cs (statuses_of xs)) (entry deed b)) same rest))

-- another port's deeds
pub may-others : (k j : ℕ) (left : List ℕ) (cs : List Completion) (zs : List Status) (b : Book) → j < ports → k ≢ j → MayAll k (finishings left j cs zs) b
may-others k j left [] zs b small ne = tt
may-others k j left (c ∷ cs) [] b small ne = tt
may-others k j left (c ∷ cs) (z ∷ zs) b small ne = (small, λ e. absurd (ne e), rw (ne_eqb k j ne) (may-others k j left cs zs b small ne))
