-- What the library promises of a call, as the C interface returns it. Assumes nothing.
use mathlib.Core.Path.{◌≡◌, refl, sym, ap, subst, ◌∙◌}
use mathlib.Core.List.{List, ◌∷◌, ◌++◌}
use Prim.Native.Nat.{ℕ, ◌/◌}
use native.Mathlib.Omega.{arith}
use lib.ListN.{length, take, drop}
use lib.Seq.{drop_at, length-take-le}
use Rattle.std.specs.Prelude.{Bool, Result, Option, Ok, Err}
use Rattle.wire.specs.Part.{set_part}
use Rattle.wire.proofs.Part.{set_part-part}
use Rattle.model.specs.Answers.{refusal, turned_number, completed_number, yes_no, status_words, extents_at, extents_in, turn_left, many_left, put_number, collected_number, put_left, collected_left}
use Rattle.model.specs.Backend.{view_of}
use Rattle.model.specs.Calls.{Call, TurnEffect, CompleteAnswer, none_done, all_done, CompleteEffect, Effect}
use Rattle.model.specs.Complete.{entry_words}
use Rattle.model.specs.Deeds.{deeds}
use Rattle.model.specs.Plan.{plan_words}
use Rattle.model.specs.Rules.{effect_due}
use Rattle.model.specs.Turn.{port_id}
use Rattle.model.specs.declared.Collected.{Collected}
use Rattle.model.specs.declared.CompletedMany.{CompletedMany}
use Rattle.model.specs.declared.Refusal.{Refusal}
use Rattle.model.specs.declared.Turned.{Turned}
use Rattle.asking.specs.Request.{request_in}
use Rattle.frontend.specs.Promise.{put_words_left, collect_words_left, PutPromise, CollectPromise}
use Rattle.completion_answers.specs.Many.{many_number, many_put}
use Rattle.memory.specs.Backend.{backend_of}
use Rattle.memory.specs.Promise.{Promised}
use Rattle.lists.specs.List.{many_of, many_filled, ManyPromised}
use Rattle.turn.specs.Promise.{TurnPromised}
use Rattle.kernelharp.specs.Guest.{PutReturned, CollectReturned}
use Rattle.kernelharp.specs.Promise.{due_on, Returned, turn_call, TurnReturned, list_call, ListReturned, ManyReturned}
use Rattle.kernelharp.proofs.Kept.{WordsKept, TurnKeeps, turn-keeps, Listed, complete-listed}

-- the number and the memory
pub returned : (m : List ℕ) (c : Call) (e : Effect c) (left : List ℕ) (n : ℕ) → Promised m c e left → n ≡ refusal c e → Returned m c n left
returned m c e left n p h = record {
  number = h ∙ ap (refusal c) p.effect;
  becomes = p.memory;
  still = λ z. p.still (ap (deeds c) p.effect ∙ z);
}

-- ---- kh_turn

module _ (m rings grants answer pages left : List ℕ) where
  -- a refused turn left the words as they were lent
  left_alone : (r : Result Turned Refusal) (words : List ℕ) → words ≡ set_part plan_words answer extents_at (extents_in words) → WordsKept (extents_in answer) (extents_in words) r
      → turn_left r words (extents_in words) ≡ turn_left r answer (extents_in words)
  left_alone (Ok did) words w k = refl
  left_alone (Err e) words w k = w ∙ ap (set_part plan_words answer extents_at) k.0 ∙ set_part-part plan_words answer extents_at

  pub turn-returned : (r : Result Turned Refusal) (words : List ℕ) (n : ℕ) (written : List ℕ) → TurnPromised m rings grants answer r pages words left
      → (n ≡ turned_number r) × (written ≡ turn_left r words (extents_in words)) → TurnReturned m rings grants answer n pages written left
  unfolding effect_due
  turn-returned r words n written w h =
      let p = w.promised in
      let k : TurnKeeps (extents_in answer) (record { rings = pages; words = extents_in words; answer = r }) =
      subst (TurnKeeps (extents_in answer)) (sym p.effect) (turn-keeps _ rings grants (extents_in answer))
      in
      record {
        returned = returned m (turn_call rings grants answer) _ left n p h.0;
        rings_due = ap (λ (e : TurnEffect). e.rings) p.effect;
        answer_due = h.1 ∙ left_alone r words w.around k ∙ ap (λ (e : TurnEffect). turn_left e.answer answer e.words) p.effect;
      }

-- ---- kh_complete and kh_complete_many

module _ (filled : CompleteAnswer → List ℕ → List ℕ) (m rings : List ℕ) (port : ℕ) (entries answer : List ℕ) where
  -- by the whole effect
  pub list-returned : (e : CompleteEffect) (left : List ℕ) (n : ℕ) (written : List ℕ) → Promised m (list_call rings port entries) e left
      → (n ≡ completed_number e.answer) × (written ≡ filled e.answer answer)
      → ListReturned filled m rings port entries answer n e.rings written left
  list-returned e left n written p h = record {
    returned = returned m (list_call rings port entries) e left n p h.0;
    rings_due = ap (λ (o : CompleteEffect). o.rings) p.effect;
    answer_due = h.1 ∙ ap (λ (o : CompleteEffect). filled o.answer answer) p.effect;
  }

-- the four words before the statuses, over those that the list left
put-before : (a : CompleteAnswer) (n : ℕ) (lent : List ℕ) → Listed n a → length lent ≡ 68 → many_put (many_of a) n (many_filled a lent) ≡ many_left a lent
put-before (none_done i) n lent h l = refl
put-before (all_done p zs y) n lent h l =
    let four : drop 4 (take 4 lent ++ status_words zs) ≡ status_words zs = drop_at (take 4 lent) (status_words zs) 4 (length-take-le 4 lent (omega arith)) in
    λ i. p.0 ∷ sym h.0 i ∷ yes_no y ∷ 0 ∷ four i

many-number : (a : CompleteAnswer) → many_number (many_of a) ≡ completed_number a
many-number (none_done i) = refl
many-number (all_done p zs y) = refl

pub many-returned : (m rings : List ℕ) (port : ℕ) (entries answer pages filled left : List ℕ) (r : Result CompletedMany Refusal) (n : ℕ) (written : List ℕ) → length answer ≡ 68
    → ManyPromised m rings (port_id port) entries answer pages r filled left
    → (n ≡ many_number r) × (written ≡ many_put r (length entries / entry_words) filled)
    → ManyReturned m rings port entries answer n pages written left
unfolding effect_due
many-returned m rings port entries answer pages filled left r n written l p h =
    let a = (due_on m (list_call rings port entries)).answer in
    let d = complete-listed (view_of (backend_of m)) rings (port_id port) entries in
    record {
      returned = record { number = h.0 ∙ ap many_number p.answer ∙ many-number a; becomes = p.memory; still = p.still };
      rings_due = p.rings;
      answer_due = h.1 ∙ (λ i. many_put (p.answer i) (length entries / entry_words) (p.filled i)) ∙ put-before a (length entries / entry_words) answer d l;
    }

-- ---- kh_guest_put and kh_guest_collect

pub put-returned : (w page request answer left bytes : List ℕ) (r : Result Bool Refusal) (n : ℕ) (written : List ℕ) → PutPromise w page (request_in request) r left bytes
    → (n ≡ put_number r) × (written ≡ put_left r answer)
    → PutReturned w page request answer (record { number = n; guest = left; page = bytes; answer = written })
put-returned w page request answer left bytes r n written p h = record {
  number = h.0 ∙ ap put_number p.answered;
  page_due = p.page_due;
  answer_due = h.1 ∙ ap (λ (x : Result Bool Refusal). put_left x answer) p.answered;
  guest_due = p.guest_due;
  words = p.words ∙ ap (put_words_left w (request_in request).pair) p.answered;
}

pub collect-returned : (w page answer left bytes : List ℕ) (r : Result (Option Collected) Refusal) (n : ℕ) (written : List ℕ) → CollectPromise w page r left bytes
    → (n ≡ collected_number r) × (written ≡ collected_left r answer)
    → CollectReturned w page answer (record { number = n; guest = left; page = bytes; answer = written })
collect-returned w page answer left bytes r n written p h = record {
  number = h.0 ∙ ap collected_number p.answered;
  page_due = p.page_due;
  answer_due = h.1 ∙ ap (λ (x : Result (Option Collected) Refusal). collected_left x answer) p.answered;
  guest_due = p.guest_due;
  words = p.words ∙ ap (collect_words_left w) p.answered;
}

-- ---- as the functions' proofs name them

pub ruleset returns = (returned, turn-returned, list-returned, many-returned, put-returned, collect-returned)
