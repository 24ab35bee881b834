-- What kh_guest_put and kh_guest_collect promise, for all that C can hand in: the number returned, and every byte and word left (rules 16.3 to 16.19). All of it is what
-- the guest's rules make due on what its memory says.
use Rattle.std.specs.Prelude.{◌≡◌, List, ℕ}
use Rattle.model.specs.Answers.{put_number, collected_number, put_left, collected_left}
use Rattle.asking.specs.Request.{request_in}
use Rattle.guest.specs.Guest.{PutEffect, put_due, CollectEffect, collect_due}
use Rattle.frontend.specs.Promise.{put_words_left, collect_words_left}
use Rattle.outstanding.specs.Words.{guest_of}

-- what each of the two leaves
pub record GuestLeft : Type 0 where
  pub number : ℕ
  pub guest : List ℕ
  pub page : List ℕ
  pub answer : List ℕ

-- what is due of a put, and of a collect
abbrev pub put_due_on : (w page request : List ℕ) → PutEffect
put_due_on w page request = put_due (guest_of w) page (request_in request)

abbrev pub collect_due_on : (w page : List ℕ) → CollectEffect
collect_due_on w page = collect_due (guest_of w) page

-- kh_guest_put, lent a guest's words, a page, a request's words and a word for the answer (rules 16.3 to 16.9 and 16.16 to 16.18)
pub record PutReturned (w page request answer : List ℕ) (o : GuestLeft) : Type 0 where
  pub number : o.number ≡ put_number (put_due_on w page request).answer
  pub page_due : o.page ≡ (put_due_on w page request).page
  pub answer_due : o.answer ≡ put_left (put_due_on w page request).answer answer
  pub guest_due : guest_of o.guest ≡ (put_due_on w page request).guest
  pub words : o.guest ≡ put_words_left w (request_in request).pair (put_due_on w page request).answer

-- kh_guest_collect, lent a guest's words, a page and words for the answer (rules 16.10 to 16.16 and 16.19)
pub record CollectReturned (w page answer : List ℕ) (o : GuestLeft) : Type 0 where
  pub number : o.number ≡ collected_number (collect_due_on w page).answer
  pub page_due : o.page ≡ (collect_due_on w page).page
  pub answer_due : o.answer ≡ collected_left (collect_due_on w page).answer answer
  pub guest_due : guest_of o.guest ≡ (collect_due_on w page).guest
  pub words : o.guest ≡ collect_words_left w (collect_due_on w page).answer
