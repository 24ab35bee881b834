-- Demand 3: for every list of calls from the empty backend, what holds of its history (rules 12.19 to 12.33). The proof is `demand3`, in proofs/Demand3.antt.
use Rattle.std.specs.Prelude.{ℕ, zero, suc, ◌+◌, ◌%◌, ◌≤◌, ◌<◌, ◌≡◌, ◌⊎◌, Bool, true, false, cond, List, [], ◌∷◌, ◌++◌, eqb, length, get_or}
use Rattle.std.proofs.Math.Option.{none, some}
use Rattle.model.specs.Base.{modulus}
use Rattle.model.specs.Buffers.{ports}
use Rattle.model.specs.Port.{distance}
use Rattle.model.specs.Calls.{Call, Open, Close, Turn, Complete, Event}
use Rattle.model.specs.Rules.{due}
use Rattle.model.specs.Ring.{status_bits}
use Rattle.model.specs.History.{Response, Taken, book, unfinished, pairs_of, pairs_said, view_at, Seen, turns_of, history}

-- ---- words

module _ {A : Type 0} where
  -- each one is so
  abbrev pub All : (A → Type 0) → List A → Type 0
  All P [] = Unit
  All P (x ∷ l) = P x × All P l

  -- one of them is so
  abbrev pub Any : (A → Type 0) → List A → Type 0
  Any P [] = ⊥
  Any P (x ∷ l) = P x ⊎ Any P l

  -- how many pass
  unfoldable pub count : (A → Bool) → List A → ℕ
  count f [] = zero
  count f (x ∷ l) = cond (f x) (suc (count f l)) (count f l)

  -- One list in another order, each element as often: the second is made of the first one's elements, each put in once, anywhere (rule 12.24).
  pub data Reordered : List A → List A → Type 0 where
    nothing : Reordered [] []
    put_in : {x : A} {xs : List A} (front back : List A) → Reordered xs (front ++ back) → Reordered (x ∷ xs) (front ++ x ∷ back)

-- a turn serves port k (rule 12.10)
abbrev pub serves : ℕ → Seen → Bool
serves k x = elim x.chosen [ none ↦ false | some j ↦ eqb j k ]

-- turns in a row, the latest first: they stand together in all the turns, between later ones and earlier ones (rule 12.18)
pub record InARow (row turns : List Seen) : Type 0 where
  pub later : List Seen
  pub earlier : List Seen
  pub is : turns ≡ later ++ (row ++ earlier)

-- ---- the claim

-- of port k, after these events (rule 12.19)
pub record PortDemand (k : ℕ) (h : List Event) : Type 0 where
  -- (a) of eight turns in a row at which the port has something to serve, one serves it (rules 11.6 and 12.20)
  pub served_in_time : (row : List Seen) → InARow row (turns_of k h) → length row ≡ 8 → All (λ x. x.wanted ≡ true) row → Any (λ x. serves k x ≡ true) row
  -- (b) while it has something to serve and waits, each other port is served at most once (rule 12.21)
  pub none_twice : (row : List Seen) → InARow row (turns_of k h) → All (λ x. (x.wanted ≡ true) × (serves k x ≡ false)) row
      → (j : ℕ) → count (serves j) row ≤ 1
  -- (c) each request taken since the opening was answered or is unfinished: the numbers agree (rule 12.22)
  pub numbers : length (book k h).taken ≡ length (book k h).answered + length (unfinished (book k h).taken)
  -- (d) no request has two answers (rule 12.23)
  pub once : All (λ (r : Taken). length r.answers ≤ 1) (book k h).taken
  -- (e) the pairs taken are those answered and those unfinished, in some order (rule 12.24),
  pub kept : Reordered (pairs_of (book k h).taken) (pairs_said (book k h).answered ++ pairs_of (unfinished (book k h).taken))
  -- and where none is unfinished, those answered (rule 12.25)
  pub all_answered : unfinished (book k h).taken ≡ [] → Reordered (pairs_of (book k h).taken) (pairs_said (book k h).answered)
  -- (g) an answer carries the pair of the very request that it answers (rule 12.28)
  pub carried : All (λ (r : Taken). All (λ (a : Response). a.pair ≡ r.pair) r.answers) (book k h).taken
  -- (h) an answer's status in the page is the one that the call told (rules 5.32, 6.2, 6.13 and 12.33)
  pub statuses : All (λ (a : Response). a.status ≡ status_bits a.told) (book k h).answered
  -- the unfinished are as many as req_cons is ahead of rsp_prod_pvt, modulo 2^32 (rules 4.9 and 11.9)
  pub in_flight : length (unfinished (book k h).taken) ≡ distance (length (book k h).taken % modulus) (length (book k h).answered % modulus)

-- (f) Every event, with its answer and every byte that it left, is the one that the rules give on what the history before it says (rules 12.26 and 12.31).
abbrev pub AsDue : List Event → Type 0
AsDue [] = Unit
AsDue (e ∷ h) = (e ≡ due (view_at h) e.call) × AsDue h

-- the whole claim: (a) to (e), (g) and (h) of each port, and (f) (rules 12.1 and 12.19)
pub record Demand3 (h : List Event) : Type 0 where
  pub each_port : (k : ℕ) → k < ports → PortDemand k h
  pub as_due : AsDue h

-- ---- for every list of calls

-- a list of bytes: numbers below 256 (rule 12.32)
abbrev pub IsBytes : List ℕ → Type 0
IsBytes b = (i : ℕ) → get_or b i 0 < 256

-- The rings that a call is lent hold bytes (rule 12.32). A slice of u8 does; a list of numbers, which stands for one here, might not.
abbrev pub LendsBytes : Call → Type 0
LendsBytes (Open p sheet) = Unit
LendsBytes (Close p) = Unit
LendsBytes (Turn rings grants words) = IsBytes rings
LendsBytes (Complete rings p entries) = IsBytes rings

-- for every list of calls, whatever guests write into the rings between them (rules 12.1, 12.2 and 12.32)
abbrev pub HistoryTheorem : Type 0
HistoryTheorem = (calls : List Call) → All LendsBytes calls → Demand3 (history calls)
