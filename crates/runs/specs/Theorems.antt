-- Section 17 of docs/RULES.md, what holds of the runs: none fewer will do, and they are the extents' sectors, no more and no less.
use Rattle.std.specs.Prelude.{◌≡◌, ℕ, zero, suc, ◌+◌, ◌*◌, ◌≤◌, true, List, [], ◌∷◌, ◌++◌, map, eqb, length, take, drop, set}
use Rattle.runs.specs.Answer.{JoinReturned}
use Rattle.runs.specs.Join.{frame_sectors, extents_at, is_sound, joins, groups_of, runs_of, total_length}
use Rattle.runs.specs.declared.Run.{Run}

-- lists one behind another
unfoldable pub concat : {A : Type 0} → List (List A) → List A
concat [] = []
concat (xs ∷ xss) = xs ++ concat xss

-- ---- none fewer will do

-- each of them joins the one before
unfoldable pub Chained : List Run → Type 0
Chained [] = Unit
Chained (e ∷ []) = Unit
Chained (e ∷ f ∷ fs) = (joins e f ≡ true) × Chained (f ∷ fs)

unfoldable pub AllChained : List (List Run) → Type 0
AllChained [] = Unit
AllChained (g ∷ gs) = Chained g × AllChained gs

-- A way to group extents: groups one behind another are the extents, so that their order is kept and none is split or left out; and in each group neighbours join (rule 17.17).
-- Groups without extents may be among them: that only makes the claim stronger.
pub record Grouping (es : List Run) (groups : List (List Run)) : Type 0 where
  pub ordered : concat groups ≡ es
  pub chained : AllChained groups

-- ---- the same sectors

-- a sector of the machine's memory, counted over all frames, and the disk's sector that goes with it
pub record Move : Type 0 where
  pub machine : ℕ
  pub disk : ℕ

-- n sectors from one of the machine's and one of the disk's on
unfoldable pub moves_from : ℕ → ℕ → ℕ → List Move
moves_from zero machine disk = []
moves_from (suc n) machine disk = record { machine = machine; disk = disk } ∷ moves_from n (suc machine) (suc disk)

-- the sector of the machine's memory that an extent or a run begins with
abbrev pub starts_at : Run → ℕ
starts_at r = frame_sectors * r.frame + r.first

-- what it moves (rule 17.18)
unfoldable pub moves : Run → List Move
moves r = moves_from r.length (starts_at r) r.sector

unfoldable pub moves_of : List Run → List Move
moves_of rs = concat (map moves rs)

-- n numbers from one on
unfoldable pub count_from : ℕ → ℕ → List ℕ
count_from zero k = []
count_from (suc n) k = k ∷ count_from n (suc k)

-- the disk sector of the first
abbrev pub start_of : List Run → ℕ
start_of [] = 0
start_of (e ∷ es) = e.sector

-- ---- of every call

-- What holds of a call that returned 0 (es are the extents): its answer is how many runs there are (rule 17.14); the first records of its list are the runs, and those behind them are as they were
-- (rule 17.15); the groups whose runs they are keep to the rules of grouping, and no other way has fewer (rule 17.17); the runs move the very sectors that the extents do, in the same order,
-- each as often (rule 17.18); and the disk's sectors among them go up by one from the first to the last, so none comes twice (rule 17.19).
pub record JoinHolds (es : List Run) (list list' : List Run) (answer answer' : List ℕ) : Type 0 where
  pub number : answer' ≡ set answer 0 (length (runs_of es))
  pub front : take (length (runs_of es)) list' ≡ runs_of es
  pub back : drop (length (runs_of es)) list' ≡ drop (length (runs_of es)) list
  pub grouping : Grouping es (groups_of es)
  pub fewest : (groups : List (List Run)) → Grouping es groups → length (runs_of es) ≤ length groups
  pub same : moves_of (runs_of es) ≡ moves_of es
  pub once : map (λ (m : Move). m.disk) (moves_of (runs_of es)) ≡ count_from (total_length es) (start_of es)

-- Of all that a call can be lent: where it returned 0, that holds; where it returned a refusal, list and answer are as they were (rule 17.4). And of any two extents that are sound: they join
-- exactly where the second begins with the sector of machine memory behind the first one's last, counted over all frames (rule 17.11). The proof is `join-theorem`, in proofs/Theorem.antt.
pub record JoinTheorem : Type 0 where
  pub done : (words : List ℕ) (n : ℕ) (frames : List ℕ) (list : List Run) (answer : List ℕ) (list' : List Run) (answer' : List ℕ)
      → JoinReturned words n frames list answer 0 list' answer' → JoinHolds (extents_at words frames 0 n) list list' answer answer'
  pub refused : (words : List ℕ) (n : ℕ) (frames : List ℕ) (list : List Run) (answer : List ℕ) (number : ℕ) (list' : List Run) (answer' : List ℕ)
      → JoinReturned words n frames list answer number list' answer' → (number ≡ 0 → ⊥) → (list' ≡ list) × (answer' ≡ answer)
  pub neighbours : (e f : Run) → is_sound e ≡ true → is_sound f ≡ true → joins e f ≡ eqb (starts_at f) (starts_at e + e.length)
