-- A guest's memory: the outstanding requests that its words say, where one of them stands, and what a put and an end make of the words. Assumes nothing.
use mathlib.Core.Path.{◌≡◌, refl, sym, ap, ◌∙◌}
use mathlib.Core.Logic.{◌≢◌}
use mathlib.Core.Bool.{Bool, true, false, not, cond, ◌||◌}
use mathlib.Core.List.{List, [], ◌∷◌, ◌++◌}
use Prim.Native.Nat.{ℕ, zero, suc, ◌+◌, ◌-◌, ◌%◌, ◌^◌, ◌≤◌, ◌<◌, min}
use native.Mathlib.Decide.{dec_lt, ℕ_discrete}
use native.Mathlib.Omega.{arith}
use lib.ListN.{length, get_or, set, take, length-append, length-set, get_or-append}
use lib.Seq.{ext_get_or, get_or-append-add, get_or-set_same, get_or-set_other, get_or-take, length-take-le}
use borrow.Author.Tests.{lt-ltb, le-ltb, ne_eqb}
use lib.Dec.{ltb}
use Rattle.std.proofs.Common.{◌&&◌, eqb, drop, length-take, length-drop, get_or-drop}
use Rattle.std.proofs.lemmas.Slice.Zip.{length-zip, get_or-zip}
use Rattle.std.specs.Prelude.{Some, None}
use Rattle.std.specs.List.{list_any, position_or_len, position, zip}
use Rattle.model.specs.Base.{least}
use Rattle.model.specs.Port.{after}
use Rattle.model.specs.declared.Pair.{Pair}
use Rattle.model.proofs.Base.{least-before, least-none}
use Rattle.guest.specs.Guest.{found, most_outstanding, no_pair, place_of, has, same_id, same_pair, without}
use Rattle.outstanding.specs.Words.{put_at, collected_at, count_at, ids_at, operations_at, guest_words, index_in, count_in, pair_at, pairs_in, guest_of, set_pair, words_put, words_ended}

-- ---- the outstanding

pub length_pairs : (w : List ℕ) (n : ℕ) → length (pairs_in w n) ≡ n
unfolding pairs_in
length_pairs w zero = refl
length_pairs w (suc n) = omega (arith, length-append (pairs_in w n) (pair_at w n ∷ []), length_pairs w n)

pub get_d-pairs : (w : List ℕ) (n i : ℕ) → i < n → get_or (pairs_in w n) i no_pair ≡ pair_at w i
unfolding pairs_in
get_d-pairs w zero i h = absurd (omega arith)
get_d-pairs w (suc n) i h =
    let l = pairs_in w n in
    elim (ℕ_discrete i n) [
      | yes e ↦
          rw e
          (ap (λ (j : ℕ). get_or (l ++ pair_at w n ∷ []) j no_pair) (omega (arith, length_pairs w n)) ∙ get_or-append-add l (pair_at w n ∷ []) 0 no_pair)
      | no d ↦ get_or-append l (pair_at w n ∷ []) no_pair i (omega (arith, length_pairs w n)) ∙ get_d-pairs w n i (omega arith)
    ]

pairs-agree : (v w : List ℕ) (n : ℕ) → ((i : ℕ) → i < n → pair_at v i ≡ pair_at w i) → pairs_in v n ≡ pairs_in w n
unfolding pairs_in
pairs-agree v w zero h = refl
pairs-agree v w (suc n) h = λ z. pairs-agree v w n (λ i k. h i (omega arith)) z ++ h n (omega arith) z ∷ []

pairs_next : (v w : List ℕ) (n : ℕ) (q : Pair) → pairs_in v n ≡ pairs_in w n → pair_at v n ≡ q → pairs_in v (suc n) ≡ pairs_in w n ++ q ∷ []
unfolding pairs_in
pairs_next v w n q before last = λ z. before z ++ last z ∷ []

pub outstanding-is : (w : List ℕ) → (guest_of w).outstanding ≡ pairs_in w (count_in w)
unfolding guest_of
outstanding-is w = refl

pub length_outstanding : (w : List ℕ) → length (guest_of w).outstanding ≡ count_in w
length_outstanding w = ap (λ (l : List Pair). length l) (outstanding-is w) ∙ length_pairs w (count_in w)

-- ---- where one of them stands: the definition's least index is the place that a walk over a list finds

any_step : (b c : Bool) (m k : ℕ) → c ≡ ltb m k → b || c ≡ ltb (cond (not b) (1 + m) 0) (suc k)
any_step true c m k e = sym (lt-ltb 0 (suc k) (omega arith))
any_step false c m k e =
    e ∙ elim (dec_lt m k) [ yes l ↦ rw (lt-ltb m k l, lt-ltb (1 + m) (suc k) (omega arith)) | no l ↦ rw (le-ltb m k (omega (arith, l)), le-ltb (1 + m) (suc k) (omega (arith, l))) ]

any-position : {X : Type 0} (t : X → Bool) (xs : List X) → list_any t xs ≡ ltb (position_or_len t xs) (length xs)
any-position t [] = refl
any-position t (x ∷ xs) = any_step (t x) (list_any t xs) (position_or_len t xs) (length xs) (any-position t xs)

least_step : (b : Bool) (m k : ℕ) → m ≡ k → cond (not b) (1 + m) 0 ≡ cond b 0 (suc k)
least_step true m k e = refl
least_step false m k e = omega (arith, e)

position-least : {X : Type 0} (t : X → Bool) (d : X) (xs : List X) (n : ℕ) (f : ℕ → Bool) → length xs ≡ n → ((i : ℕ) → i < n → t (get_or xs i d) ≡ f i)
    → position_or_len t xs ≡ least n f
unfolding least
position-least t d [] zero f e h = refl
position-least t d [] (suc n) f e h = absurd (omega arith)
position-least t d (x ∷ xs) zero f e h = absurd (omega arith)
position-least t d (x ∷ xs) (suc n) f e h =
    rw (h 0 (omega arith))
    (least_step (f 0) (position_or_len t xs) (least n (λ i. f (suc i))) (position-least t d xs n (λ i. f (suc i)) (omega arith) (λ i l. h (suc i) (omega arith))))

-- a list whose elements pass where the pairs of the words do
module _ {X : Type 0} (t : X → Bool) (d : X) (xs : List X) (f : Pair → Bool) (w : List ℕ) (long : length xs ≡ count_in w)
    (same : (i : ℕ) → i < count_in w → t (get_or xs i d) ≡ f (pair_at w i)) where
  abbrev l : List Pair
  l = (guest_of w).outstanding

  place-is : position_or_len t xs ≡ place_of f l
  unfolding place_of
  place-is =
      position-least t d xs (length l) (λ i. f (get_or l i no_pair)) (long ∙ sym (length_outstanding w)) (λ i h.
      let h' : i < count_in w = omega (arith, length_outstanding w) in
      same i h' ∙ ap f (sym (ap (λ (ps : List Pair). get_or ps i no_pair) (outstanding-is w) ∙ get_d-pairs w (count_in w) i h')))

  tests : ltb (position_or_len t xs) (length xs) ≡ has f l
  tests = λ z. ltb (place-is z) ((long ∙ sym (length_outstanding w)) z)

  pub has-any : list_any t xs ≡ has f l
  has-any = any-position t xs ∙ tests

  pub found-position : position t xs ≡ found f l
  found-position = λ z. cond (tests z) (Some (place-is z)) None

-- a place that is not past the last is one of theirs
pub place-lt : (f : Pair → Bool) (l : List Pair) → place_of f l ≢ length l → place_of f l < length l
unfolding place_of
place-lt f l d = go (dec_lt (least (length l) (λ i. f (get_or l i no_pair))) (length l))
  where
    go : Dec (least (length l) (λ i. f (get_or l i no_pair)) < length l) → least (length l) (λ i. f (get_or l i no_pair)) < length l
    go (yes h) = h
    go (no h) =
        absurd (d (least-none (length l) (λ i. f (get_or l i no_pair)) (λ i k. least-before (length l) (λ j. f (get_or l j no_pair)) i (omega (arith, h)))))

-- a run of the words
length-run : (w : List ℕ) (a k : ℕ) → a + k ≤ length w → length (take k (drop a w)) ≡ k
length-run w a k l = omega (arith, length-take k (drop a w), length-drop a w)

run-word : (w : List ℕ) (a k i : ℕ) → i < k → get_or (take k (drop a w)) i 0 ≡ get_or w (a + i) 0
run-word w a k i l = get_or-take k (drop a w) i 0 l ∙ get_or-drop a w i 0

eqb-swap : (m n : ℕ) → eqb m n ≡ eqb n m
eqb-swap m n = elim (ℕ_discrete m n) [ yes e ↦ rw e | no d ↦ rw (ne_eqb m n d, ne_eqb n m (λ e. d (sym e))) ]

module _ (w : List ℕ) (sized : length w ≡ guest_words) where
  -- among their ids
  pub has-ids : (k id : ℕ) → k ≡ count_in w → list_any (λ y. eqb y id) (take k (drop ids_at w)) ≡ has (same_id id) (guest_of w).outstanding
  unfolding pair_at
  has-ids k id e =
      has-any (λ y. eqb y id) 0 (take k (drop ids_at w)) (same_id id) w (length-run w ids_at k (omega arith) ∙ e)
      (λ i l. ap (λ (v : ℕ). eqb v id) (run-word w ids_at k i (omega arith)) ∙ eqb-swap (get_or w (ids_at + i) 0) id)

  -- among their ids and operations side by side
  pub found-pairs : (j k : ℕ) (q : Pair) → j ≡ count_in w → k ≡ count_in w
      → position (λ (p : ℕ × ℕ). eqb q.id p.0 && eqb q.operation p.1) (zip (take j (drop ids_at w)) (take k (drop operations_at w))) ≡ found (same_pair q) (guest_of w).outstanding
  unfolding pair_at
  found-pairs j k q e f =
      let ids = take j (drop ids_at w) in
      let operations = take k (drop operations_at w) in
      let ids-long = length-run w ids_at j (omega arith) in
      let operations-long = length-run w operations_at k (omega arith) in
      let t = λ (p : ℕ × ℕ). eqb q.id p.0 && eqb q.operation p.1 in
      found-position t (0, 0) (zip ids operations) (same_pair q) w (omega (arith, length-zip ids operations))
      (λ i l. ap t (get_or-zip ids operations i (0, 0) (omega arith) (omega arith) ∙ λ z. (run-word w ids_at j i (omega arith) z, run-word w operations_at k i (omega arith) z)))

-- ---- the words with another pair

module _ (w : List ℕ) (sized : length w ≡ guest_words) (i : ℕ) (small : i < most_outstanding) (q : Pair) where
  pair_at-same : pair_at (set_pair w i q) i ≡ q
  unfolding pair_at set_pair
  pair_at-same =
      let v = set w (ids_at + i) q.id in
      let id : get_or (set v (operations_at + i) q.operation) (ids_at + i) 0 ≡ q.id =
      get_or-set_other v (operations_at + i) (ids_at + i) q.operation 0 (λ e. omega arith) ∙ get_or-set_same w (ids_at + i) q.id 0 (omega arith) in
      let operation : get_or (set v (operations_at + i) q.operation) (operations_at + i) 0 ≡ q.operation =
      get_or-set_same v (operations_at + i) q.operation 0 (omega (arith, length-set w (ids_at + i) q.id)) in
      λ z. record { id = id z; operation = operation z }

  pair_at-other : (j : ℕ) → j < most_outstanding → j ≢ i → pair_at (set_pair w i q) j ≡ pair_at w j
  unfolding pair_at set_pair
  pair_at-other j l d =
      let v = set w (ids_at + i) q.id in
      let at : (k : ℕ) → k ≢ ids_at + i → k ≢ operations_at + i → get_or (set v (operations_at + i) q.operation) k 0 ≡ get_or w k 0 =
      λ k x y. get_or-set_other v (operations_at + i) k q.operation 0 y ∙ get_or-set_other w (ids_at + i) k q.id 0 x in
      let id = at (ids_at + j) (λ e. d (omega arith)) (λ e. omega arith) in
      let operation = at (operations_at + j) (λ e. omega arith) (λ e. d (omega arith)) in
      λ z. record { id = id z; operation = operation z }

  get_d-set_pair : (k : ℕ) → k < ids_at → get_or (set_pair w i q) k 0 ≡ get_or w k 0
  unfolding set_pair
  get_d-set_pair k l =
      get_or-set_other (set w (ids_at + i) q.id) (operations_at + i) k q.operation 0 (λ e. omega arith)
      ∙ get_or-set_other w (ids_at + i) k q.id 0 (λ e. omega arith)

-- an index and the count, put before the pairs
module _ (w : List ℕ) (sized : length w ≡ guest_words) (at v n : ℕ) (first : at < count_at) where
  abbrev counted : List ℕ
  counted = set (set w at v) count_at n

  length-counted : length counted ≡ guest_words
  length-counted = length-set (set w at v) count_at n ∙ length-set w at v ∙ sized

  counted-pair : (i : ℕ) → pair_at counted i ≡ pair_at w i
  unfolding pair_at
  counted-pair i =
      let same : (k : ℕ) → count_at < k → get_or counted k 0 ≡ get_or w k 0 =
      λ k l. get_or-set_other (set w at v) count_at k n 0 (λ e. omega arith) ∙ get_or-set_other w at k v 0 (λ e. omega arith) in
      let id = same (ids_at + i) (omega arith) in
      let operation = same (operations_at + i) (omega arith) in
      λ z. record { id = id z; operation = operation z }

  counted-at : get_or counted at 0 ≡ v
  counted-at =
      get_or-set_other (set w at v) count_at at n 0 (λ e. omega arith) ∙ get_or-set_same w at v 0 (omega arith)

  counted-other : (k : ℕ) → k < count_at → k ≢ at → get_or counted k 0 ≡ get_or w k 0
  counted-other k l d = get_or-set_other (set w at v) count_at k n 0 (λ e. omega arith) ∙ get_or-set_other w at k v 0 d

  counted-count : get_or counted count_at 0 ≡ n
  counted-count = get_or-set_same (set w at v) count_at n 0 (omega (arith, length-set w at v))

-- ---- a put, and an end

pub guest-put : (w : List ℕ) → length w ≡ guest_words → count_in w < most_outstanding → (q : Pair)
    → guest_of (words_put w q) ≡ record { put = after (index_in w put_at); collected = index_in w collected_at; outstanding = (guest_of w).outstanding ++ q ∷ [] }
unfolding guest_of words_put
guest-put w sized few q =
    let n = count_in w in
    let next = after (index_in w put_at) in
    let v = counted w sized put_at next (n + 1) (omega arith) in
    let long = length-counted w sized put_at next (n + 1) (omega arith) in
    let left = set_pair v n q in
    let put : get_or left put_at 0 ≡ next = get_d-set_pair v long n few q put_at (omega arith) ∙ counted-at w sized put_at next (n + 1) (omega arith) in
    let collected : get_or left collected_at 0 ≡ get_or w collected_at 0 =
    get_d-set_pair v long n few q collected_at (omega arith) ∙ counted-other w sized put_at next (n + 1) (omega arith) collected_at (omega arith) (λ e. omega arith) in
    let count : get_or left count_at 0 ≡ n + 1 = get_d-set_pair v long n few q count_at (omega arith) ∙ counted-count w sized put_at next (n + 1) (omega arith) in
    let more : min (n + 1) most_outstanding ≡ suc n = omega arith in
    let before : pairs_in left n ≡ pairs_in w n =
    pairs-agree left w n (λ i l. pair_at-other v long n few q i (omega arith) (λ e. omega arith) ∙ counted-pair w sized put_at next (n + 1) (omega arith) i) in
    let last : pair_at left n ≡ q = pair_at-same v long n few q in
    let index : get_or left put_at 0 % 2 ^ 32 ≡ next = omega (arith, put) in
    let all : pairs_in left (count_in left) ≡ pairs_in w n ++ q ∷ [] =
    ap (λ (m : ℕ). pairs_in left m) (ap (λ (m : ℕ). min m most_outstanding) count ∙ more) ∙ pairs_next left w n q before last in
    λ z. record { put = index z; collected = collected z % 2 ^ 32; outstanding = all z }

-- the last takes the place of the one that ended
module _ (v w : List ℕ) (n i : ℕ) (small : i ≤ n) (here : pair_at v i ≡ pair_at w n) (other : (j : ℕ) → j < n → j ≢ i → pair_at v j ≡ pair_at w j) where
  abbrev all : List Pair
  all = pairs_in w (suc n)

  abbrev last : Pair
  last = get_or all (length all - 1) no_pair

  last-is : last ≡ pair_at w n
  last-is = ap (λ (m : ℕ). get_or all m no_pair) (omega (arith, length_pairs w (suc n))) ∙ get_d-pairs w (suc n) n (omega arith)

  place_is : (j : ℕ) → j < n → pair_at v j ≡ get_or (set all i last) j no_pair
  place_is j l =
      elim (ℕ_discrete j i) [
        | yes e ↦ rw e (here ∙ sym last-is ∙ sym (get_or-set_same all i last no_pair (omega (arith, length_pairs w (suc n)))))
        | no d ↦ other j l d ∙ sym (get_d-pairs w (suc n) j (omega arith)) ∙ sym (get_or-set_other all i j last no_pair d)
      ]

  pairs-without : pairs_in v n ≡ without i all
  unfolding without
  pairs-without =
      let m : length all - 1 ≡ n = omega (arith, length_pairs w (suc n)) in
      let long : length (take (length all - 1) (set all i last)) ≡ n =
      length-take-le (length all - 1) (set all i last) (omega (arith, length-set all i last)) ∙ m in
      ext_get_or no_pair _ _ (length_pairs v n ∙ sym long) (λ j l.
      let l' : j < n = omega (arith, length_pairs v n) in
      get_d-pairs v n j l' ∙ place_is j l' ∙ sym (get_or-take (length all - 1) (set all i last) j no_pair (omega arith)))

pub guest-ended : (w : List ℕ) → length w ≡ guest_words → (i : ℕ) → i < count_in w
    → guest_of (words_ended w i) ≡ record { put = index_in w put_at; collected = after (index_in w collected_at); outstanding = without i (guest_of w).outstanding }
unfolding guest_of words_ended
guest-ended w sized i l =
    let n = count_in w - 1 in
    let next = after (index_in w collected_at) in
    let v = counted w sized collected_at next n (omega arith) in
    let long = length-counted w sized collected_at next n (omega arith) in
    let last = pair_at w n in
    let low : i < most_outstanding = omega arith in
    let left = set_pair v i last in
    let put : get_or left put_at 0 ≡ get_or w put_at 0 =
    get_d-set_pair v long i low last put_at (omega arith) ∙ counted-other w sized collected_at next n (omega arith) put_at (omega arith) (λ e. omega arith) in
    let collected : get_or left collected_at 0 ≡ next = get_d-set_pair v long i low last collected_at (omega arith) ∙ counted-at w sized collected_at next n (omega arith) in
    let count : get_or left count_at 0 ≡ n = get_d-set_pair v long i low last count_at (omega arith) ∙ counted-count w sized collected_at next n (omega arith) in
    let index : get_or left collected_at 0 % 2 ^ 32 ≡ next = omega (arith, collected) in
    let few : min n most_outstanding ≡ n = omega arith in
    let some : suc n ≡ count_in w = omega arith in
    let all : pairs_in left (count_in left) ≡ without i (pairs_in w (count_in w)) =
    ap (λ (m : ℕ). pairs_in left m) (ap (λ (m : ℕ). min m most_outstanding) count ∙ few)
    ∙ pairs-without left w n i (omega arith) (pair_at-same v long i low last)
    (λ j k d. pair_at-other v long i low last j (omega arith) d ∙ counted-pair w sized collected_at next n (omega arith) j)
    ∙ ap (λ (m : ℕ). without i (pairs_in w m)) some in
    λ z. record { put = put z % 2 ^ 32; collected = index z; outstanding = all z }
