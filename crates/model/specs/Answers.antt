-- What each case of an answer means, its number and its values (rule 11.4), as the words of the C interface (rules 14.5 to 14.8).
use Rattle.std.specs.Prelude.{ℕ, ◌-◌, Bool, cond, List, [], ◌∷◌, ◌++◌, map, nat_abs, length, replicate, Result, Option, Ok, Err, Some, None}
use Rattle.wire.specs.Part.{part}
use Rattle.model.specs.Ring.{status_number}
use Rattle.model.specs.Numbers.{reason_number, refusal_number}
use Rattle.model.specs.Calls.{Reply, Call, Open, Close, Turn, Complete, CompleteAnswer, none_done, all_done, Effect, most_completions}
use Rattle.model.specs.Plan.{plan_words}
use Rattle.model.specs.declared.Collected.{Collected}
use Rattle.model.specs.declared.Refusal.{Refusal}
use Rattle.model.specs.declared.Status.{Status}
use Rattle.model.specs.declared.Turned.{Turned}

-- the number that a call is refused with; 0 where it is done (rules 1.14 and 14.5)
abbrev pub reply_number : Reply → ℕ
reply_number (Ok done) = 0
reply_number (Err e) = refusal_number e

abbrev pub turned_number : Result Turned Refusal → ℕ
turned_number (Ok did) = 0
turned_number (Err e) = refusal_number e

abbrev pub completed_number : CompleteAnswer → ℕ
completed_number (none_done e) = refusal_number e
completed_number (all_done p zs y) = 0

-- and of any call
abbrev pub refusal : (c : Call) → Effect c → ℕ
refusal (Open p sheet) e = reply_number e
refusal (Close p) e = reply_number e
refusal (Turn rings grants words) e = turned_number e.answer
refusal (Complete rings p entries) e = completed_number e.answer

-- a status without its sign (rules 14.7, 14.8 and 14.15)
abbrev pub magnitude : Status → ℕ
magnitude s = nat_abs (status_number s)

abbrev pub yes_no : Bool → ℕ
yes_no b = cond b 1 0

-- The values of a turn's answer, a word each, 0 where it has no use (rule 14.7): case (0 idle, 1 started, 2 answered, 3 overrun), port; tag, serial,
-- operation, start, count, secure mark, number of extents; reason, status, notify. A refused call has no values (rule 1.14).
abbrev pub turned_words : Turned → List ℕ
turned_words Turned.Idle = replicate 12 0
turned_words (Turned.Overrun p) = 3 ∷ p.0 ∷ replicate 10 0
turned_words (Turned.Started p t s plan) =
    1 ∷ p.0 ∷ t.0 ∷ s.0 ∷ plan.operation ∷ plan.start ∷ plan.count ∷ yes_no plan.secure ∷ plan.extents ∷ replicate 3 0
turned_words (Turned.Answered p f y) = 2 ∷ p.0 ∷ replicate 7 0 ++ (reason_number f.reason ∷ magnitude f.status ∷ yes_no y ∷ [])

-- how many words a turn's answer has, and where those of its extents stand, four to each of eleven places (rules 5.33 and 14.7)
abbrev pub turn_words : ℕ
turn_words = 64

abbrev pub extents_at : ℕ
extents_at = 16

abbrev pub extents_in : List ℕ → List ℕ
extents_in answer = part plan_words answer extents_at

-- a turn's 64 words: twelve values, four zeros, the extents, four zeros (rule 14.7)
abbrev pub turn_answer : List ℕ → List ℕ → List ℕ
turn_answer values extents = values ++ replicate 4 0 ++ extents ++ replicate 4 0

-- the statuses of a list, a word each (rule 14.15)
abbrev pub magnitudes : List Status → List ℕ
magnitudes zs = map magnitude zs

-- in the words that there are for them: the rest are zeros (rule 14.15)
unfoldable pub status_words : List Status → List ℕ
status_words zs = magnitudes zs ++ replicate (most_completions - length zs) 0

-- The words lent for a turn's answer, after it (rules 14.6 and 14.7): a refusal leaves them, and no refusal has the number 0.
abbrev pub turn_left : Result Turned Refusal → (lent extents : List ℕ) → List ℕ
turn_left (Ok did) lent extents = turn_answer (turned_words did) extents
turn_left (Err e) lent extents = lent

-- and those lent for a completion's: four of kh_complete, whose list has one status: port, status, notify, 0 (rules 6.13, 14.6 and 14.8);
abbrev pub done_left : CompleteAnswer → (lent : List ℕ) → List ℕ
done_left (none_done e) lent = lent
done_left (all_done p zs y) lent = p.0 ∷ magnitudes zs ++ (yes_no y ∷ 0 ∷ [])

-- and of kh_complete_many 68: port, how many, notify, 0, and the statuses (rules 6.22, 14.6 and 14.15)
abbrev pub many_left : CompleteAnswer → (lent : List ℕ) → List ℕ
many_left (none_done e) lent = lent
many_left (all_done p zs y) lent = p.0 ∷ length zs ∷ yes_no y ∷ 0 ∷ status_words zs

-- ---- the guest's half

-- what putting and collecting return (rules 16.3 and 16.10)
abbrev pub put_number : Result Bool Refusal → ℕ
put_number (Ok y) = 0
put_number (Err e) = refusal_number e

abbrev pub collected_number : Result (Option Collected) Refusal → ℕ
collected_number (Ok found) = 0
collected_number (Err e) = refusal_number e

-- The words lent for their answers, after them; a refusal leaves them. Putting answers one: whether to notify (rule 16.18).
abbrev pub put_left : Result Bool Refusal → (lent : List ℕ) → List ℕ
put_left (Ok y) lent = yes_no y ∷ []
put_left (Err e) lent = lent

-- Collecting answers four: whether there is a response, its id, operation and status, or zeros (rule 16.19).
abbrev pub collected_left : Result (Option Collected) Refusal → (lent : List ℕ) → List ℕ
collected_left (Ok None) lent = replicate 4 0
collected_left (Ok (Some c)) lent = 1 ∷ c.pair.id ∷ c.pair.operation ∷ c.status ∷ []
collected_left (Err e) lent = lent
