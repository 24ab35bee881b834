-- Section 17 of docs/RULES.md, the call: its refusals, its answer, and the list of runs that it leaves.
use Rattle.std.specs.Prelude.{◌≡◌, ℕ, ◌/◌, Bool, not, ◌||◌, List, [], ◌∷◌, ◌++◌, Result, Ok, Err, ltb, length, drop, set}
use Rattle.model.specs.Base.{◌⇒◌, first_of}
use Rattle.model.specs.Numbers.{refusal_number}
use Rattle.runs.specs.Join.{extents_at, are_sound, runs_of}
use Rattle.model.specs.declared.Refusal.{Refusal}
use Rattle.runs.specs.declared.Run.{Run}

-- more extents than the plan has places, or one that no plan has; no machine frame is looked at (rules 17.5 to 17.8)
unfoldable pub is_no_plan : List ℕ → ℕ → Bool
is_no_plan words n = ltb (length words / 4) n || not (are_sound (extents_at words [] 0 n))

-- the runs of the first n extents
unfoldable pub runs_in : List ℕ → List ℕ → ℕ → List Run
runs_in words frames n = runs_of (extents_at words frames 0 n)

-- what joining answers: the number of runs, or a refusal (rules 17.4 and 17.14)
abbrev pub Joined : Type 0
Joined = Result ℕ Refusal

-- the answer, where the list has room for so many runs (rules 17.4 to 17.10 and 17.14)
unfoldable pub joined : List ℕ → ℕ → List ℕ → ℕ → Joined
joined words n frames room = first_of
    (is_no_plan words n ⇒ Err Refusal.NoPlan
    ∷ ltb (length frames) n ⇒ Err Refusal.TooFewFrames
    ∷ ltb room (length (runs_in words frames n)) ⇒ Err Refusal.TooFewRuns
    ∷ [])
    (Ok (length (runs_in words frames n)))

-- the list with runs at its front; what is behind them stays (rule 17.15)
unfoldable pub filled : List Run → List Run → List Run
filled runs list = runs ++ drop (length runs) list

-- the list that the call leaves: a refusal leaves it alone (rules 17.4 and 17.15)
abbrev pub left_list : List Run → List Run → Joined → List Run
left_list runs list (Err why) = list
left_list runs list (Ok k) = filled runs list

-- the number that is returned, and the answer's word (rule 17.16)
abbrev pub joined_number : Joined → ℕ
joined_number (Err why) = refusal_number why
joined_number (Ok k) = 0

abbrev pub joined_words : List ℕ → Joined → List ℕ
joined_words answer (Err why) = answer
joined_words answer (Ok k) = set answer 0 k

-- how many extents are joined: none where the call is refused
abbrev pub taken : ℕ → Joined → ℕ
taken n (Err why) = 0
taken n (Ok k) = n

-- What the call promises, of all that it is lent: the number returned, every record of the list and the answer's word.
pub record JoinReturned (words : List ℕ) (n : ℕ) (frames : List ℕ) (list : List Run) (answer : List ℕ) (number : ℕ) (list' : List Run) (answer' : List ℕ) : Type 0 where
  pub returned : number ≡ joined_number (joined words n frames (length list))
  pub listed : list' ≡ left_list (runs_in words frames n) list (joined words n frames (length list))
  pub answered : answer' ≡ joined_words answer (joined words n frames (length list))
