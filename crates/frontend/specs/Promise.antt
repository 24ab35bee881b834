-- What `put` and `collect` promise, for all that they can be lent: the answer, every byte of the page and every word of the guest's memory.
use Rattle.std.specs.Prelude.{◌≡◌, Bool, List, ℕ, Result, Option, Ok, Err, Some, None, eqb, length}
use Rattle.model.specs.Port.{after}
use Rattle.model.specs.Ring.{Request, req_event}
use Rattle.model.specs.declared.Collected.{Collected}
use Rattle.model.specs.declared.Pair.{Pair}
use Rattle.model.specs.declared.Refusal.{Refusal}
use Rattle.guest.specs.Guest.{put_page, put_due, collect_due, place_of, same_pair}
use Rattle.outstanding.specs.Words.{guest_words, guest_of, words_put, words_ended}

-- the words that an answer leaves: a refusal and a wait leave them as they are (rules 16.3, 16.10 and 16.12)
abbrev pub put_words_left : List ℕ → Pair → Result Bool Refusal → List ℕ
put_words_left w q (Ok y) = words_put w q
put_words_left w q (Err why) = w

abbrev pub collect_words_left : List ℕ → Result (Option Collected) Refusal → List ℕ
collect_words_left w (Ok None) = w
collect_words_left w (Ok (Some c)) = words_ended w (place_of (same_pair c.pair) (guest_of w).outstanding)
collect_words_left w (Err why) = w

-- Of a guest's words w, a page and a request: the answer and the page are those due; the words left say the guest that is due, and each of them is fixed.
pub record PutPromise (w page : List ℕ) (r : Request) (answer : Result Bool Refusal) (left bytes : List ℕ) : Type 0 where
  pub answered : answer ≡ (put_due (guest_of w) page r).answer
  pub page_due : bytes ≡ (put_due (guest_of w) page r).page
  pub guest_due : guest_of left ≡ (put_due (guest_of w) page r).guest
  pub words : left ≡ put_words_left w r.pair answer

-- Of a request that passed all tests, by its pair and its slot: the step that carries it out.
pub record Placed (w page : List ℕ) (q : Pair) (slot : List ℕ) (answer : Bool) (left bytes : List ℕ) : Type 0 where
  pub answered : answer ≡ eqb (req_event page) (after (guest_of w).put)
  pub page_put : bytes ≡ put_page page (guest_of w).put slot
  pub words : left ≡ words_put w q
  pub sized : length w ≡ guest_words

-- and of a collecting
pub record CollectPromise (w page : List ℕ) (answer : Result (Option Collected) Refusal) (left bytes : List ℕ) : Type 0 where
  pub answered : answer ≡ (collect_due (guest_of w) page).answer
  pub page_due : bytes ≡ (collect_due (guest_of w) page).page
  pub guest_due : guest_of left ≡ (collect_due (guest_of w) page).guest
  pub words : left ≡ collect_words_left w answer
