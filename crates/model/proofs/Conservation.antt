-- Conservation, parts (c), (d), (e), (g) and (h) of demand 3, on a port's books alone: each deed that may be done keeps them sound. Neither the rules nor the
-- backend are in sight; that the deeds of a call may be done stands in Permitted. Assumes nothing.
use mathlib.Core.Path.{◌≡◌, refl, sym, ap, ◌∙◌, subst}
use mathlib.Core.List.{List, [], ◌∷◌, ◌++◌, append-nil}
use mathlib.Core.Bool.{Bool, true, false}
use Prim.Native.Nat.{ℕ, ◌+◌, ◌-◌, ◌%◌, ◌≤◌, ◌<◌}
use native.Mathlib.Omega.{arith}
use lib.Dec.{eqb}
use lib.ListN.{length, length-map}
use borrow.Author.Tests.{eqb-true}
use Rattle.model.specs.Base.{modulus}
use Rattle.model.specs.Buffers.{ports}
use Rattle.model.specs.Ring.{status_bits}
use Rattle.model.specs.Port.{busy_bits, is_closed, free, held, distance}
use Rattle.model.specs.Deeds.{Deed, opening, closing, breaking, starting, answering, finishing, port_of}
use Rattle.model.specs.History.{at_once, started, Response, Taken, Book, no_book, ring_in, asked, said, in_state, entry, post, posts, unfinished, pairs_of, pairs_said, holder}
use Rattle.model.specs.Demand.{All, count, Reordered}
use Rattle.model.specs.declared.Pair.{Pair}
use Rattle.model.specs.declared.Params.{Params}
use Rattle.model.specs.declared.State.{State}
use Rattle.model.specs.declared.Status.{Status}
use Rattle.model.specs.declared.Tag.{Tag}
use Rattle.model.proofs.Base.{by_cond, tally-le}
use Rattle.model.proofs.Ring.{fits}
use Rattle.model.proofs.Page.{FitsPair}
use Rattle.model.proofs.Order.{count-cons, count-append, count-all, is_pair, reordered}
use Rattle.model.proofs.Ledger.{line, Good, answered-once, answered-own, unfinished-cons, busy, held-count, marked, pairs-answer_to}

-- ---- the books

-- an answer's status in the page is the one that the call told
abbrev pub AsTold : Response → Type 0
AsTold a = a.status ≡ status_bits a.told

-- What is kept of a port's books: each request as in Ledger; every test passes as often on the pairs taken as on those answered and those unfinished together;
-- and each answer's status is as told.
pub record Sound (b : Book) : Type 0 where
  pub good : Good (ring_in b).size b.taken
  pub kept : (f : Pair → Bool) → count f (pairs_of b.taken) ≡ count f (pairs_said b.answered) + count f (pairs_of (unfinished b.taken))
  pub statuses : All AsTold b.answered

-- an answer that carries pair q, with its status as told
pub record Carries (a : Response) (q : Pair) : Type 0 where
  pub pair : a.pair ≡ q
  pub status : AsTold a

-- When a deed may be done: what the books of its port must say before it.
pub record MayClose (b : Book) : Type 0 where
  pub opened : is_closed b.state ≡ false
  pub idle : length (unfinished b.taken) ≡ 0

pub record MayStart (k : ℕ) (lent : List ℕ) (t : ℕ) (b : Book) : Type 0 where
  pub opened : is_closed b.state ≡ false
  pub small : t < (ring_in b).size
  pub unheld : holder t b.taken ≡ free
  pub narrow : FitsPair (asked k lent b)

pub record MayAnswer (k : ℕ) (lent left : List ℕ) (z : Status) (b : Book) : Type 0 where
  pub opened : is_closed b.state ≡ false
  pub narrow : FitsPair (asked k lent b)
  pub reads : Carries (said k left z b) (asked k lent b)

pub record MayFinish (k : ℕ) (left : List ℕ) (t s : ℕ) (z : Status) (b : Book) : Type 0 where
  pub opened : is_closed b.state ≡ false
  pub holding : Tag
  pub holds : holder t b.taken ≡ held holding
  pub serial : holding.serial.0 ≡ s
  pub reads : Carries (said k left z b) holding.pair

abbrev pub May : Deed → Book → Type 0
May (opening k p) b = is_closed b.state ≡ true
May (closing k) b = MayClose b
May (breaking k) b = is_closed b.state ≡ false
May (starting k lent t s x) b = MayStart k lent t b
May (answering k lent left z) b = MayAnswer k lent left z b
May (finishing k left t s z) b = MayFinish k left t s z b

-- the deeds may be done one after another, as port k sees it
abbrev pub MayAll : ℕ → List Deed → Book → Type 0
MayAll k [] b = Unit
MayAll k (d ∷ ds) b = (port_of d < ports) × (k ≡ port_of d → May d b) × MayAll k ds (post k d b)

-- ---- each deed keeps the books sound

-- no request and no answer
sound-new : (state : State) (p : Params) → Sound (record { state = state; params = p; taken = []; answered = [] })
unfolding count unfinished
sound-new state p = record { good = tt; kept = λ f. refl; statuses = tt }

pub sound_none : Sound no_book
sound_none = sound-new _ _

sound-state : (state : State) (b : Book) → Sound b → Sound (in_state state b)
sound-state state b o = record { good = o.good; kept = o.kept; statuses = o.statuses }

sound-start : (k : ℕ) (lent : List ℕ) (t s x : ℕ) (b : Book) → MayStart k lent t b → Sound b → Sound (entry (starting k lent t s x) b)
sound-start k lent t s x b m o = record {
  good = ((omega arith, tt), (m.small, m.unheld), o.good, m.narrow);
  kept = λ f.
      rw (unfinished-cons f (line (asked k lent b) (started t s x) []) b.taken)
      (omega (arith, o.kept f, count-cons f (asked k lent b) (pairs_of b.taken)));
  statuses = o.statuses;
}

sound-answer : (k : ℕ) (lent left : List ℕ) (z : Status) (b : Book) → MayAnswer k lent left z b → Sound b → Sound (entry (answering k lent left z) b)
sound-answer k lent left z b m o =
    let q = asked k lent b in
    let a = said k left z b in
    record {
      good = ((omega arith, (m.reads.pair, tt)), refl, o.good, m.narrow);
      kept = λ f.
          rw (unfinished-cons f (line q at_once (a ∷ [])) b.taken, m.reads.pair)
          (omega (arith, o.kept f, count-cons f q (pairs_of b.taken), count-cons f q (pairs_said b.answered)));
      statuses = (m.reads.status, o.statuses);
    }

sound-finish : (k : ℕ) (left : List ℕ) (t s : ℕ) (z : Status) (b : Book) → MayFinish k left t s z b → Sound b → Sound (entry (finishing k left t s z) b)
sound-finish k left t s z b m o =
    let a = said k left z b in
    let n = marked (ring_in b).size t s m.holding a m.serial m.reads.pair b.taken o.good m.holds in
    record {
      good = n.good;
      kept = λ f. rw (pairs-answer_to t s a b.taken) (omega (arith, o.kept f, n.counts f, count-cons f a.pair (pairs_said b.answered)));
      statuses = (m.reads.status, o.statuses);
    }

sound-entry : (d : Deed) (b : Book) → May d b → Sound b → Sound (entry d b)
sound-entry (opening k p) b m o = sound-new _ _
sound-entry (closing k) b m o = sound-state _ b o
sound-entry (breaking k) b m o = sound-state _ b o
sound-entry (starting k lent t s x) b m o = sound-start k lent t s x b m o
sound-entry (answering k lent left z) b m o = sound-answer k lent left z b m o
sound-entry (finishing k left t s z) b m o = sound-finish k left t s z b m o

pub sound-post : (k : ℕ) (d : Deed) (b : Book) → (k ≡ port_of d → May d b) → Sound b → Sound (post k d b)
sound-post k d b m o = by_cond Sound (eqb k (port_of d)) (entry d b) b (λ e. sound-entry d b (m (eqb-true _ _ e)) o) (λ _. o)

pub sound-posts : (k : ℕ) (ds : List Deed) (b : Book) → MayAll k ds b → Sound b → Sound (posts k ds b)
sound-posts k [] b m o = o
sound-posts k (d ∷ ds) b m o = sound-posts k ds (post k d b) m.2 (sound-post k d b m.1 o)

-- ---- what sound books say

module _ (b : Book) (o : Sound b) where
  -- (c)
  pub numbers : length b.taken ≡ length b.answered + length (unfinished b.taken)
  numbers =
      omega (
        arith,
        o.kept (λ _. true),
        count-all (pairs_of b.taken),
        count-all (pairs_said b.answered),
        count-all (pairs_of (unfinished b.taken)),
        length-map b.taken (λ (r : Taken). r.pair),
        length-map b.answered (λ (a : Response). a.pair),
        length-map (unfinished b.taken) (λ (r : Taken). r.pair),
      )

  -- (d)
  pub once : All (λ (r : Taken). length r.answers ≤ 1) b.taken
  once = answered-once (ring_in b).size b.taken o.good

  -- (e)
  pub kept : Reordered (pairs_of b.taken) (pairs_said b.answered ++ pairs_of (unfinished b.taken))
  kept = reordered _ _ (λ q. o.kept (is_pair q) ∙ sym (count-append (is_pair q) (pairs_said b.answered) (pairs_of (unfinished b.taken))))

  pub all-answered : unfinished b.taken ≡ [] → Reordered (pairs_of b.taken) (pairs_said b.answered)
  all-answered e =
      subst
      (λ (l : List Pair). Reordered (pairs_of b.taken) l)
      (ap (λ (l : List Taken). pairs_said b.answered ++ pairs_of l) e ∙ append-nil (pairs_said b.answered))
      kept

  -- (g)
  pub carried : All (λ (r : Taken). All (λ (a : Response). a.pair ≡ r.pair) r.answers) b.taken
  carried = answered-own (ring_in b).size b.taken o.good

  -- the unfinished hold tags, so they are few
  pub in-flight : length (unfinished b.taken) ≡ distance (length b.taken % modulus) (length b.answered % modulus)
  unfolding distance
  in-flight =
      modular _ _ _ numbers (omega (arith, held-count busy_bits (ring_in b).size (fits b.params).marked b.taken o.good, tally-le busy_bits (busy b.taken)))
    where
      modular : (n a u : ℕ) → n ≡ a + u → u ≤ busy_bits → u ≡ (n % modulus + (modulus - a % modulus)) % modulus
      modular n a u e l = omega arith
