-- The segments of a request as the chunks of three words that say them: check 26, and frames that fit. Assumes nothing.
use Rattle.std.proofs.Common.{◌≡◌, refl, ap, ◌∙◌, ℕ, zero, suc, ◌+◌, ◌*◌, ◌^◌, ◌≤◌, ◌<◌, Bool, true, false, ◌&&◌, List, [], take, drop, get_or, get_or-take, get_or-drop, drop-drop, length, length-take, length-drop, ◌/◌, arith}
use Rattle.std.specs.List.{list_all}
use Rattle.std.specs.Simd.{first_chunks}
use lib.Dec.{ltb, leb}
use Rattle.model.specs.Base.{all}
use Rattle.model.specs.Checks.{is_within_frame}
use Rattle.model.specs.declared.Segment.{Segment}
use Rattle.asking.specs.Request.{segment_in, segments_in, is_narrow}
use Rattle.asking.proofs.Asking.{good}

-- the words of one segment pass
abbrev pub passes : List ℕ → Bool
passes x = (leb (get_or x 1 0) (get_or x 2 0) && leb (get_or x 2 0) 7) && ltb (get_or x 0 0) (2 ^ 32)

regroup : (a b c d : Bool) → (a && c) && (b && d) ≡ (a && b) && (c && d)
regroup true true c d = refl
regroup true false true d = refl
regroup true false false d = refl
regroup false b c d = refl

-- n chunks of words that are those of the segments from number i on
pub all-pass : (w xs : List ℕ) (n i k : ℕ) → n ≤ k → ((j : ℕ) → j < 3 * n → get_or xs j 0 ≡ get_or w (8 + 3 * i + j) 0)
    → list_all passes (take n (first_chunks 3 k xs)) ≡ good w n i
unfolding all segments_in is_within_frame is_narrow segment_in
all-pass w xs zero i k l f = refl
all-pass w xs (suc n) i zero l f = absurd (omega arith)
all-pass w xs (suc n) i (suc k) l f =
    let word : (j : ℕ) → j < 3 → get_or (take 3 xs) j 0 ≡ get_or w (8 + 3 * i + j) 0 = λ j b. get_or-take 3 xs j 0 b ∙ f j (omega arith) in
    let frame : get_or (take 3 xs) 0 0 ≡ get_or w (8 + 3 * i) 0 = word 0 (omega arith) ∙ ap (λ (q : ℕ). get_or w q 0) (omega arith) in
    let next : (j : ℕ) → j < 3 * n → get_or (drop 3 xs) j 0 ≡ get_or w (8 + 3 * suc i + j) 0 =
    λ j b. get_or-drop 3 xs j 0 ∙ f (3 + j) (omega arith) ∙ ap (λ (q : ℕ). get_or w q 0) (omega arith) in
    let s = segment_in w i in
    rw (frame, word 1 (omega arith), word 2 (omega arith), all-pass w (drop 3 xs) n (suc i) k (omega arith) next)
    (regroup (is_within_frame s) (all is_within_frame (segments_in n w (suc i))) (is_narrow s) (all is_narrow (segments_in n w (suc i))))

-- ---- one of the chunks

chunk : (k i : ℕ) (xs : List ℕ) → i < k → get_or (first_chunks 3 k xs) i [] ≡ take 3 (drop (3 * i) xs)
chunk zero i xs l = absurd (omega arith)
chunk (suc k) zero xs l = refl
chunk (suc k) (suc i) xs l = chunk k i (drop 3 xs) (omega arith) ∙ ap (take 3) (drop-drop (3 * i) 3 xs ∙ ap (λ (q : ℕ). drop q xs) (omega arith))

-- its words are those of the segment
pub chunk_word : (w : List ℕ) (n k i j : ℕ) → i < n → n ≤ k → n ≤ 11 → j < 3
    → get_or (get_or (take n (first_chunks 3 k (take 33 (drop 8 w)))) i []) j 0 ≡ get_or w (8 + 3 * i + j) 0
chunk_word w n k i j a b c d =
    let xs = take 33 (drop 8 w) in
    ap (λ (x : List ℕ). get_or x j 0) (get_or-take n (first_chunks 3 k xs) i [] a ∙ chunk k i xs (omega arith))
    ∙ get_or-take 3 (drop (3 * i) xs) j 0 d
    ∙ get_or-drop (3 * i) xs j 0
    ∙ get_or-take 33 (drop 8 w) (3 * i + j) 0 (omega arith)
    ∙ get_or-drop 8 w (3 * i + j) 0
    ∙ ap (λ (q : ℕ). get_or w q 0) (omega arith)

abbrev pub segment_of : List ℕ → Segment
segment_of x = record { frame = get_or x 0 0; first = get_or x 1 0; last = get_or x 2 0 }

pub chunk_segment : (w : List ℕ) (xs : List (List ℕ)) (n i : ℕ) → xs ≡ first_chunks 3 (length (take 33 (drop 8 w)) / 3) (take 33 (drop 8 w)) → length w ≡ 41 → i < n → n ≤ 11
    → segment_of (get_or (take n xs) i []) ≡ segment_in w i
unfolding segment_in
chunk_segment w xs n i front long a b =
    let k = length (take 33 (drop 8 w)) / 3 in
    let room : n ≤ k = omega (arith, length-take 33 (drop 8 w), length-drop 8 w) in
    let word : (j : ℕ) → j < 3 → get_or (get_or (take n xs) i []) j 0 ≡ get_or w (8 + 3 * i + j) 0 =
    λ j l. ap (λ (ys : List (List ℕ)). get_or (get_or (take n ys) i []) j 0) front ∙ chunk_word w n k i j a room b l in
    let frame : get_or (get_or (take n xs) i []) 0 0 ≡ get_or w (8 + 3 * i) 0 = word 0 (omega arith) ∙ ap (λ (q : ℕ). get_or w q 0) (omega arith) in
    let first = word 1 (omega arith) in
    let last = word 2 (omega arith) in
    λ z. record { frame = frame z; first = first z; last = last z }
