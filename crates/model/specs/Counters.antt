-- Section 15 of docs/RULES.md: a port's counters, and what an answer raises. Of all that is here, nothing looks at the backend.
use Rattle.std.specs.Prelude.{ℕ, zero, suc, ◌-◌, ◌^◌, min, List, [], ◌∷◌, map, get_or, take, drop, Result, Option, Ok, Err, Some, None}
use Rattle.model.specs.Calls.{CompleteAnswer, none_done, all_done, most_completions}
use Rattle.model.specs.declared.Counter.{Counter}
use Rattle.model.specs.declared.Counters.{Counters}
use Rattle.model.specs.declared.Refusal.{Refusal}
use Rattle.model.specs.declared.Status.{Status}
use Rattle.model.specs.declared.Turned.{Turned}

-- ---- a record

-- a new one (rule 15.1)
abbrev pub zero_counters : Counters
zero_counters = record { taken = 0; okay = 0; error = 0; unsupported = 0 }

-- where a number stays (rule 15.2)
abbrev pub most : ℕ
most = 2 ^ 64 - 1

-- one more, as far as it goes (rule 15.2)
unfoldable pub one_more_of : ℕ → ℕ
one_more_of n = min most (suc n)

-- the record with one of its numbers raised, or none (rules 15.2 and 15.4)
abbrev pub raised_by : Option Counter → Counters → Counters
raised_by (Some Counter.Taken) c = record { taken = one_more_of c.taken; okay = c.okay; error = c.error; unsupported = c.unsupported }
raised_by (Some Counter.Okay) c = record { taken = c.taken; okay = one_more_of c.okay; error = c.error; unsupported = c.unsupported }
raised_by (Some Counter.Error) c = record { taken = c.taken; okay = c.okay; error = one_more_of c.error; unsupported = c.unsupported }
raised_by (Some Counter.NotSupported) c = record { taken = c.taken; okay = c.okay; error = c.error; unsupported = one_more_of c.unsupported }
raised_by None c = c

-- and with several raised, one after another
abbrev pub raised_by_all : List (Option Counter) → Counters → Counters
raised_by_all [] c = c
raised_by_all (x ∷ xs) c = raised_by_all xs (raised_by x c)

-- ---- what an answer raises (rule 15.4)

-- the number of a status
abbrev pub status_counter : Status → Counter
status_counter Status.Okay = Counter.Okay
status_counter Status.Error = Counter.Error
status_counter Status.NotSupported = Counter.NotSupported

-- a turn that took a request raises taken
abbrev pub turn_taken : Result Turned Refusal → Option Counter
turn_taken (Err e) = None
turn_taken (Ok Turned.Idle) = None
turn_taken (Ok (Turned.Overrun p)) = None
turn_taken (Ok (Turned.Started p t s plan)) = Some Counter.Taken
turn_taken (Ok (Turned.Answered p f y)) = Some Counter.Taken

-- and one that answered it, the number of the status
abbrev pub turn_status : Result Turned Refusal → Option Counter
turn_status (Err e) = None
turn_status (Ok Turned.Idle) = None
turn_status (Ok (Turned.Overrun p)) = None
turn_status (Ok (Turned.Started p t s plan)) = None
turn_status (Ok (Turned.Answered p f y)) = Some (status_counter f.status)

-- a completion that is done, the number of each of its statuses
abbrev pub completed_statuses : CompleteAnswer → List (Option Counter)
completed_statuses (none_done e) = []
completed_statuses (all_done p zs y) = map (λ z. Some (status_counter z)) zs

-- a record, with the answer of a turn handed over
abbrev pub after_turned : Result Turned Refusal → Counters → Counters
after_turned r c = raised_by (turn_status r) (raised_by (turn_taken r) c)

-- and with that of a completion
abbrev pub after_completed : CompleteAnswer → Counters → Counters
after_completed r c = raised_by_all (completed_statuses r) c

-- ---- the same by the number that a C function returned and the words of its answer, whatever they are (rules 15.10 and 15.11)

-- by a turn's kind
abbrev pub kind_taken : ℕ → Option Counter
kind_taken zero = None
kind_taken (suc zero) = Some Counter.Taken
kind_taken (suc (suc zero)) = Some Counter.Taken
kind_taken (suc (suc (suc n))) = None

-- by a status without its sign
abbrev pub word_counter : ℕ → Option Counter
word_counter zero = Some Counter.Okay
word_counter (suc zero) = Some Counter.Error
word_counter (suc (suc zero)) = Some Counter.NotSupported
word_counter (suc (suc (suc n))) = None

-- by a turn's kind and its status
abbrev pub kind_status : ℕ → ℕ → Option Counter
kind_status zero status = None
kind_status (suc zero) status = None
kind_status (suc (suc zero)) status = word_counter status
kind_status (suc (suc (suc n))) status = None

-- where the number is a refusal's, nothing
abbrev pub if_done : ℕ → Option Counter → Option Counter
if_done zero which = which
if_done (suc n) which = None

-- a turn's words: the kind is word 0, the status word 10 (rule 14.7)
abbrev pub taken_in : ℕ → List ℕ → Option Counter
taken_in number words = if_done number (kind_taken (get_or words 0 0))

abbrev pub status_in : ℕ → List ℕ → Option Counter
status_in number words = if_done number (kind_status (get_or words 0 0) (get_or words 10 0))

-- a completion's words: the status is word 1 (rule 14.8)
abbrev pub done_in : ℕ → List ℕ → Option Counter
done_in number words = if_done number (word_counter (get_or words 1 0))

-- a record, with what kh_turn returned and left handed over
abbrev pub turn_metered : ℕ → List ℕ → Counters → Counters
turn_metered number words c = raised_by (status_in number words) (raised_by (taken_in number words) c)

-- and with what kh_complete did
abbrev pub done_metered : ℕ → List ℕ → Counters → Counters
done_metered number words c = raised_by (done_in number words) c

-- those that kh_complete_many's words say: word 1 is how many they are, 64 at most, and they stand from word 4 on (rules 14.15 and 15.12)
abbrev pub listed_in : List ℕ → List (Option Counter)
listed_in words = map word_counter (take (min most_completions (get_or words 1 0)) (drop 4 words))

-- a record, with what kh_complete_many returned and left handed over
abbrev pub many_metered : ℕ → List ℕ → Counters → Counters
many_metered zero words c = raised_by_all (listed_in words) c
many_metered (suc n) words c = c
