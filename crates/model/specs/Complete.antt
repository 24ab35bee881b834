-- Section 6 of docs/RULES.md, completions.
use Rattle.std.specs.Prelude.{ℕ, zero, suc, ◌+◌, ◌*◌, ◌/◌, ◌%◌, Bool, cond, ◌||◌, List, [], ◌∷◌, map, Result, Ok, Err, eqb, ℤ, pos, negsuc, length, get_or}
use Rattle.std.specs.Int.{w64}
use Rattle.std.proofs.Common.{of_z, to_z}
use Rattle.model.specs.Ring.{flush, discard}
use Rattle.model.specs.Port.{View, Holder, tag_of}
use Rattle.model.specs.Calls.{CompleteAnswer, none_done, all_done, CompleteEffect}
use Rattle.model.specs.Turn.{port_id, tag_id, serial_of, ResponseDue, due_to, responded_all_at, notifies_all}
use Rattle.model.specs.declared.Completed.{Completed}
use Rattle.model.specs.declared.Plan.{Plan}
use Rattle.model.specs.declared.Refusal.{Refusal}
use Rattle.model.specs.declared.Serial.{Serial}
use Rattle.model.specs.declared.Status.{Status}
use Rattle.model.specs.declared.TagId.{TagId}

-- ---- the list

-- An entry: which request it completes, and with what result (rules 6.8 and 6.17).
pub record Completion : Type 0 where
  pub tag : TagId
  pub serial : Serial
  pub result : ℤ

-- its words, and how many they are (rule 14.14)
abbrev pub entry_words : ℕ
entry_words = 3

-- entry i of the words lent; its result is a number of 64 bits, in two's complement (rule 14.14)
unfoldable pub completion_at : List ℕ → ℕ → Completion
completion_at words i = record {
  tag = tag_id (get_or words (entry_words * i) 0);
  serial = serial_of (get_or words (entry_words * i + 1) 0);
  result = to_z w64 (get_or words (entry_words * i + 2) 0);
}

-- n entries, from number i on
unfoldable pub completions_from : ℕ → List ℕ → ℕ → List Completion
completions_from zero words i = []
completions_from (suc n) words i = completion_at words i ∷ completions_from n words (suc i)

-- the whole list (rule 6.16)
unfoldable pub completions_in : List ℕ → List Completion
completions_in words = completions_from (length words / entry_words) words 0

-- the words are those of whole entries: a call that is lent others is refused (rule 7.1)
abbrev pub are_entries : List ℕ → Bool
are_entries words = eqb (length words % entry_words) 0

-- The list of one, which is what `complete` stands for (rule 6.23): its words, and its answer by that call's.
abbrev pub the_one : TagId → Serial → ℤ → List ℕ
the_one t s result = t.0 ∷ s.0 ∷ of_z w64 result ∷ []

abbrev pub of_one : Result Completed Refusal → CompleteAnswer
of_one (Ok c) = all_done c.port (c.status ∷ []) c.notify
of_one (Err e) = none_done e

-- ---- what is due

-- the result that is expected of a plan (rule 6.9)
unfoldable pub expected_of : Plan → ℕ
expected_of plan = cond (eqb plan.operation flush || eqb plan.operation discard) 0 plan.count

-- the status that a result comes to (rule 6.10); `negsuc 94` is -95, and no result expected is negative
unfoldable pub status_of : ℕ → ℤ → Status
status_of expected (pos n) = cond (eqb n expected) Status.Okay Status.Error
status_of expected (negsuc n) = cond (eqb n 94) Status.NotSupported Status.Error

-- the response that an entry comes to: the id and operation that its tag keeps, and the status of its result (rules 6.10 and 6.11)
unfoldable pub response_for : (ℕ → Holder) → Completion → ResponseDue
response_for tags c =
    let x = tag_of (tags c.tag.0) in
    due_to x.pair (status_of x.expected c.result)

-- those of a list, in its order (rule 6.18)
unfoldable pub responses_for : (ℕ → Holder) → List Completion → List ResponseDue
responses_for tags cs = map (response_for tags) cs

-- A completion that is not refused: every entry gets its response (rules 6.15, 6.18 and 6.22). A broken port's is like any other (rule 5.13).
unfoldable pub completed : View → List ℕ → ℕ → List Completion → CompleteEffect
completed v rings k cs =
    let xs = responses_for (v.tag k) cs in
    record { rings = responded_all_at v rings k xs; answer = all_done (port_id k) (map (λ x. x.status) xs) (notifies_all v rings k (length xs)) }
