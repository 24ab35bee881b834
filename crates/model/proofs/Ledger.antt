-- The requests taken, as a list of their own: each has at most one answer, a tag is held by at most one of them, and a completion's answer goes to the one
-- that holds its tag. Assumes nothing.
use mathlib.Core.Path.{◌≡◌, refl, sym, ap, ◌∙◌, subst}
use mathlib.Core.Logic.{◌≢◌}
use mathlib.Core.List.{List, [], ◌∷◌}
use mathlib.Core.Bool.{Bool, true, false, not, cond, ◌&&◌, and-false}
use Prim.Native.Nat.{ℕ, suc, ◌+◌, ◌≤◌, ◌<◌}
use native.Mathlib.Omega.{arith}
use lib.Dec.{eqb}
use lib.ListN.{length}
use borrow.Author.Tests.{eqb-true, eqb-false, eq-eqb, ne_eqb}
use Rattle.model.specs.Base.{tally}
use Rattle.model.specs.Port.{Holder, free, held, is_free, tag_of}
use Rattle.model.specs.Turn.{serial_of}
use Rattle.model.specs.History.{Named, at_once, started, Response, Taken, names, answer_to, is_unfinished, unfinished, pairs_of, holder}
use Rattle.model.specs.Demand.{All, count}
use Rattle.model.specs.declared.Pair.{Pair}
use Rattle.model.specs.declared.Tag.{Tag}
use Rattle.model.proofs.Base.{by_cond, clash, tally-put, tally-same, tally-none}
use Rattle.model.proofs.Page.{FitsPair}
use Rattle.model.proofs.Order.{one}

-- ---- each request

abbrev pub line : Pair → Named → List Response → Taken
line q w a = record { pair = q; named = w; answers = a }

abbrev tag : Pair → ℕ → ℕ → Tag
tag q s x = record { pair = q; serial = serial_of s; expected = x }

-- at most one answer, and that with the request's own pair
abbrev pub Own : Pair → List Response → Type 0
Own q a = (length a ≤ 1) × All (λ (x : Response). x.pair ≡ q) a

-- What was answered at once is finished. What was started got one of the n tags, which was free.
abbrev pub Fresh : ℕ → Named → List Response → List Taken → Type 0
Fresh n at_once a earlier = is_unfinished a ≡ false
Fresh n (started t s x) a earlier = (t < n) × (holder t earlier ≡ free)

-- every request taken is so, against those before it, and its pair fits its bytes
abbrev pub Good : ℕ → List Taken → Type 0
Good n [] = Unit
Good n (r ∷ l) = Own r.pair r.answers × Fresh n r.named r.answers l × Good n l × FitsPair r.pair

-- (d)
pub answered-once : (n : ℕ) (l : List Taken) → Good n l → All (λ (r : Taken). length r.answers ≤ 1) l
answered-once n [] g = tt
answered-once n (r ∷ l) g = (g.0.0, answered-once n l g.2)

-- (g)
pub answered-own : (n : ℕ) (l : List Taken) → Good n l → All (λ (r : Taken). All (λ (a : Response). a.pair ≡ r.pair) r.answers) l
answered-own n [] g = tt
answered-own n (r ∷ l) g = (g.0.1, answered-own n l g.2)

pub unfinished-cons : (f : Pair → Bool) (r : Taken) (l : List Taken)
    → count f (pairs_of (unfinished (r ∷ l))) ≡ one (is_unfinished r.answers && f r.pair) + count f (pairs_of (unfinished l))
unfolding unfinished count
unfinished-cons f r l = go (is_unfinished r.answers) (f r.pair) refl
  where
    go : (b c : Bool) → f r.pair ≡ c → count f (pairs_of (cond b (r ∷ unfinished l) (unfinished l))) ≡ one (b && c) + count f (pairs_of (unfinished l))
    go true true e = rw e (omega arith)
    go true false e = rw e (omega arith)
    go false c e = omega arith

-- ---- the tags held are as many as the unfinished

abbrev pub busy : List Taken → ℕ → Bool
busy l t = not (is_free (holder t l))

-- counted over m places, where tags are below n ≤ m
module _ (m n : ℕ) (n≤m : n ≤ m) where
  held-started : (q : Pair) (u s x : ℕ) (a : List Response) (l : List Taken) → u < n → holder u l ≡ free → tally m (busy l) ≡ length (unfinished l)
      → (b : Bool) → is_unfinished a ≡ b → tally m (busy (line q (started u s x) a ∷ l)) ≡ length (unfinished (line q (started u s x) a ∷ l))
  unfolding holder unfinished
  held-started q u s x a l small fr ih true e =
      tally-put
      m
      (busy l)
      (busy (line q (started u s x) a ∷ l))
      u
      (omega arith)
      (rw fr)
      (rw (eq-eqb u u refl, e))
      (λ i ne. rw (ne_eqb i u ne))
      ∙ rw e (ap suc ih)
  held-started q u s x a l small fr ih false e =
      tally-same m (busy (line q (started u s x) a ∷ l)) (busy l) (λ i _. rw (e, and-false (eqb i u))) ∙ rw e ih

  held_cons : (q : Pair) (w : Named) (a : List Response) (l : List Taken) → Fresh n w a l → tally m (busy l) ≡ length (unfinished l)
      → tally m (busy (line q w a ∷ l)) ≡ length (unfinished (line q w a ∷ l))
  unfolding holder unfinished
  held_cons q at_once a l f ih = rw f ih
  held_cons q (started u s x) a l f ih = held-started q u s x a l f.0 f.1 ih (is_unfinished a) refl

  pub held-count : (l : List Taken) → Good n l → tally m (λ t. not (is_free (holder t l))) ≡ length (unfinished l)
  unfolding holder unfinished
  held-count [] g = tally-none m (busy []) (λ i l. refl)
  held-count (r ∷ l) g = held_cons r.pair r.named r.answers l g.1 (held-count l g.2)

-- with none unfinished, no tag is held
none-held-cons : (t : ℕ) (q : Pair) (w : Named) (a : List Response) (l : List Taken) → is_unfinished a ≡ false → holder t (line q w a ∷ l) ≡ holder t l
unfolding holder
none-held-cons t q at_once a l e = refl
none-held-cons t q (started u s x) a l e = rw (e, and-false (eqb t u))

pub none-held : (t : ℕ) (l : List Taken) → length (unfinished l) ≡ 0 → holder t l ≡ free
unfolding unfinished holder
none-held t [] e = refl
none-held t (r ∷ l) e = go (is_unfinished r.answers) refl (none-held t l)
  where
    go : (b : Bool) → is_unfinished r.answers ≡ b → (length (unfinished l) ≡ 0 → holder t l ≡ free) → holder t (r ∷ l) ≡ free
    go true u ih = absurd (omega (arith, rw u at e))
    go false u ih = none-held-cons t r.pair r.named r.answers l u ∙ ih (rw u at e)

-- what holds a tag has a pair that fits its bytes
held-fits-cons : (t : ℕ) (x : Tag) (q : Pair) (w : Named) (a : List Response) (l : List Taken) → FitsPair q → (holder t l ≡ held x → FitsPair x.pair)
    → holder t (line q w a ∷ l) ≡ held x → FitsPair x.pair
unfolding holder
held-fits-cons t x q at_once a l f ih h = ih h
held-fits-cons t x q (started u s y) a l f ih h = go (eqb t u && is_unfinished a) refl
  where
    go : (c : Bool) → eqb t u && is_unfinished a ≡ c → FitsPair x.pair
    go true e = subst FitsPair (ap (λ (v : Holder). (tag_of v).pair) (rw e at h)) f
    go false e = ih (rw e at h)

pub held_fits : (n t : ℕ) (x : Tag) (l : List Taken) → Good n l → holder t l ≡ held x → FitsPair x.pair
unfolding holder
held_fits n t x [] g h = clash (sym (ap is_free h)) refl
held_fits n t x (r ∷ l) g h = held-fits-cons t x r.pair r.named r.answers l g.3 (held_fits n t x l g.2) h

-- ---- what a completion does to the requests taken

-- m is l with answer b to the request that held tag t
pub record Marked (n t : ℕ) (b : Response) (l m : List Taken) : Type 0 where
  pub good : Good n m
  pub freed : holder t m ≡ free
  pub others : (u : ℕ) → u ≢ t → holder u m ≡ holder u l
  pub counts : (f : Pair → Bool) → count f (pairs_of (unfinished l)) ≡ one (f b.pair) + count f (pairs_of (unfinished m))

-- the newest is the one
marked-hit : (n t : ℕ) (b : Response) (p : Pair) (u z y : ℕ) (l : List Taken) → u ≡ t → b.pair ≡ p → Good n (line p (started u z y) [] ∷ l)
    → Marked n t b (line p (started u z y) [] ∷ l) (line p (started u z y) (b ∷ []) ∷ l)
unfolding holder
marked-hit n t b p u z y l ut bp g = record {
  good = ((omega arith, (bp, tt)), g.1, g.2, g.3);
  freed = rw (and-false (eqb t u)) (subst (λ (x : ℕ). holder x l ≡ free) ut g.1.1);
  others = λ w ne. rw (ne_eqb w u (λ wu. ne (wu ∙ ut)));
  counts = λ f. rw (unfinished-cons f (line p (started u z y) []) l, unfinished-cons f (line p (started u z y) (b ∷ [])) l, bp) (omega arith);
}

-- the newest has another tag
marked-miss : (n t : ℕ) (b : Response) (p : Pair) (u z y : ℕ) (a : List Response) (l m : List Taken) → eqb t u ≡ false → Good n (line p (started u z y) a ∷ l) → Marked n t b l m
    → Marked n t b (line p (started u z y) a ∷ l) (line p (started u z y) a ∷ m)
unfolding holder
marked-miss n t b p u z y a l m e g k = record {
  good = (g.0, (g.1.0, k.others u (λ q. eqb-false t u e (sym q)) ∙ g.1.1), k.good, g.3);
  freed = rw e k.freed;
  others = λ w ne. rw (k.others w ne);
  counts = λ f. omega (arith, unfinished-cons f (line p (started u z y) a) l, unfinished-cons f (line p (started u z y) a) m, k.counts f);
}

-- the newest was answered at once
marked-skip : (n t : ℕ) (b : Response) (p : Pair) (a : List Response) (l m : List Taken) → Good n (line p at_once a ∷ l) → Marked n t b l m → Marked n t b (line p at_once a ∷ l) (line p at_once a ∷ m)
unfolding holder
marked-skip n t b p a l m g k = record {
  good = (g.0, g.1, k.good, g.3);
  freed = k.freed;
  others = k.others;
  counts = λ f. omega (arith, unfinished-cons f (line p at_once a) l, unfinished-cons f (line p at_once a) m, k.counts f);
}

-- A completion of tag t and serial s, where x holds that tag, with an answer that carries the pair of x: it goes to the request that holds the tag.
module _ (n t s : ℕ) (x : Tag) (b : Response) (xs : x.serial.0 ≡ s) (own : b.pair ≡ x.pair) where
  -- the newest has tag t: it is the one, for those with that tag before it are finished
  marked-head : (p : Pair) (u z y : ℕ) (a : List Response) (l : List Taken) → u ≡ t → Good n (line p (started u z y) a ∷ l)
      → holder t (line p (started u z y) a ∷ l) ≡ held x → Marked n t b (line p (started u z y) a ∷ l) (answer_to t s b (line p (started u z y) a ∷ l))
  unfolding holder answer_to
  marked-head p u z y [] l ut g h =
      let same : tag p z y ≡ x = ap tag_of (rw (eq-eqb t u (sym ut)) at h) in
      let zs : z ≡ s = ap (λ (w : Tag). w.serial.0) same ∙ xs in
      rw (eq-eqb t u (sym ut), eq-eqb s z (sym zs)) (marked-hit n t b p u z y l ut (own ∙ sym (ap (λ (w : Tag). w.pair) same)) g)
  marked-head p u z y (c ∷ a) l ut g h =
      let one : holder t l ≡ held x = rw (and-false (eqb t u)) at h in
      let other : holder t l ≡ free = subst (λ (w : ℕ). holder w l ≡ free) ut g.1.1 in
      clash (ap is_free other) (ap is_free one)

  marked-cons : (p : Pair) (w : Named) (a : List Response) (l : List Taken) → Good n (line p w a ∷ l) → (holder t l ≡ held x → Marked n t b l (answer_to t s b l))
      → holder t (line p w a ∷ l) ≡ held x → Marked n t b (line p w a ∷ l) (answer_to t s b (line p w a ∷ l))
  unfolding holder answer_to
  marked-cons p at_once a l g ih h = marked-skip n t b p a l (answer_to t s b l) g (ih h)
  marked-cons p (started u z y) a l g ih h = go (eqb t u) refl
    where
      go : (c : Bool) → eqb t u ≡ c → Marked n t b (line p (started u z y) a ∷ l) (answer_to t s b (line p (started u z y) a ∷ l))
      go true e = marked-head p u z y a l (sym (eqb-true t u e)) g h
      go false e = rw e (marked-miss n t b p u z y a l (answer_to t s b l) e g (ih (rw e at h)))

  pub marked : (l : List Taken) → Good n l → holder t l ≡ held x → Marked n t b l (answer_to t s b l)
  unfolding holder
  marked [] g h = clash (sym (ap is_free h)) refl
  marked (r ∷ l) g h = marked-cons r.pair r.named r.answers l g (marked l g.2) h

-- an answer adds no request and changes no pair
pub pairs-answer_to : (t s : ℕ) (b : Response) (l : List Taken) → pairs_of (answer_to t s b l) ≡ pairs_of l
unfolding answer_to
pairs-answer_to t s b [] = refl
pairs-answer_to t s b (r ∷ l) =
    by_cond (λ m. pairs_of m ≡ pairs_of (r ∷ l)) (names t s r.named) _ _ (λ _. refl) (λ _. ap {B = List Pair} (λ m. r.pair ∷ m) (pairs-answer_to t s b l))

pub length-answer_to : (t s : ℕ) (b : Response) (l : List Taken) → length (answer_to t s b l) ≡ length l
unfolding answer_to
length-answer_to t s b [] = refl
length-answer_to t s b (r ∷ l) =
    by_cond (λ (m : List Taken). length m ≡ suc (length l)) (names t s r.named) _ _ (λ _. refl) (λ _. ap suc (length-answer_to t s b l))
