-- The words that a guest lends: its own memory, read as a guest whatever they hold (rule 16.16).
use Rattle.std.specs.Prelude.{ℕ, zero, suc, ◌+◌, ◌-◌, ◌%◌, ◌^◌, min, List, [], ◌∷◌, ◌++◌, get_or, set, replicate}
use Rattle.model.specs.Port.{after}
use Rattle.model.specs.declared.Pair.{Pair}
use Rattle.guest.specs.Guest.{Guest, most_outstanding}

-- two indices, how many are outstanding, their ids, their operations (rule 16.16)
abbrev pub put_at : ℕ
put_at = 0

abbrev pub collected_at : ℕ
collected_at = 1

abbrev pub count_at : ℕ
count_at = 2

abbrev pub ids_at : ℕ
ids_at = 3

abbrev pub operations_at : ℕ
operations_at = ids_at + most_outstanding

abbrev pub guest_words : ℕ
guest_words = operations_at + most_outstanding

-- an index: modulo 2^32 (rule 16.16)
abbrev pub index_in : List ℕ → ℕ → ℕ
index_in w q = get_or w q 0 % 2 ^ 32

-- how many are outstanding: 32 at most (rule 16.16)
abbrev pub count_in : List ℕ → ℕ
count_in w = min (get_or w count_at 0) most_outstanding

unfoldable pub pair_at : List ℕ → ℕ → Pair
pair_at w i = record { id = get_or w (ids_at + i) 0; operation = get_or w (operations_at + i) 0 }

-- the first n
unfoldable pub pairs_in : List ℕ → ℕ → List Pair
pairs_in w zero = []
pairs_in w (suc n) = pairs_in w n ++ pair_at w n ∷ []

-- what the words say (rule 16.16)
unfoldable pub guest_of : List ℕ → Guest
guest_of w = record { put = index_in w put_at; collected = index_in w collected_at; outstanding = pairs_in w (count_in w) }

-- all zeros: a fresh guest (rule 16.16)
abbrev pub guest_zeros : List ℕ
guest_zeros = replicate guest_words 0

-- the words with a pair at place i
unfoldable pub set_pair : List ℕ → ℕ → Pair → List ℕ
set_pair w i q = set (set w (ids_at + i) q.id) (operations_at + i) q.operation

-- a request was put: the index after it, and its pair behind the others (rules 16.8 and 16.16)
unfoldable pub words_put : List ℕ → Pair → List ℕ
words_put w q = set_pair (set (set w put_at (after (index_in w put_at))) count_at (count_in w + 1)) (count_in w) q

-- the request at place i ended: the index after it, and the last pair in its place (rules 16.15 and 16.16)
unfoldable pub words_ended : List ℕ → ℕ → List ℕ
words_ended w i = set_pair (set (set w collected_at (after (index_in w collected_at))) count_at (count_in w - 1)) i (pair_at w (count_in w - 1))
