-- The laws of a table of contents: its entries are the model's, and what is said of all of them is said one by one. Assumes nothing.
use mathlib.Core.Path.{◌≡◌, refl, sym, ap, ◌∙◌}
use mathlib.Core.Bool.{Bool, true, false, cond, ◌&&◌, ◌||◌}
use mathlib.Core.List.{List, [], ◌∷◌}
use Prim.Native.Nat.{ℕ, zero, suc, ◌+◌, ◌-◌, ◌/◌, ◌*◌, ◌<◌, ◌≤◌}
use native.Mathlib.Nat.{add-zero, add_assoc}
use native.Mathlib.Numerals.{add-one}
use native.Mathlib.Omega.{arith}
use lib.Dec.{eqb, ltb, leb}
use lib.ListN.{length, get_or, take, drop, drop_of_length-le}
use lib.Seq.{drop-cons, drop-drop, get_or-take, get_or-drop}
use borrow.Author.Tests.{lt-ltb, le-ltb, le-leb, lt-leb, ne_eqb, ltb-true, leb-true, eqb-true}
use Rattle.std.proofs.lemmas.Bool.Decides.{nat_tests}
use Rattle.std.specs.List.{list_all, list_any, sum_by}
use Rattle.std.specs.Simd.{first_chunks}
use Rattle.std.proofs.lemmas.List.{take_rest}
use Rattle.std.proofs.lemmas.List.Sums.{sum_by-cons}
use Rattle.wire.specs.Part.{part}
use Rattle.wire.proofs.LittleEndian.{load-shift}
use Rattle.model.specs.Base.{all}
use Rattle.model.specs.NodeSheet.{entry_at, body_length, entries_from, entry_count, entries_of, bodies_end, well_formed, rising, present}
use Rattle.model.proofs.Base.{and-false, and_left, and_right}
use Rattle.contents.specs.Contents.{Contents, is_clear, length_of, entries_in}

-- ---- the entries that the code reads, by four bytes each, are the model's

-- the bytes of n entries, which stand in the sheet from entry i on
module _ (s : List ℕ) where
  abbrev StandAt : ℕ → List ℕ → ℕ → Type 0
  StandAt n xs i = (j : ℕ) → j < 4 * n → get_or xs j 0 ≡ get_or s (entry_at i + j) 0

  stand-next : (n : ℕ) (xs : List ℕ) (i : ℕ) → StandAt (suc n) xs i → StandAt n (drop 4 xs) (suc i)
  unfolding entry_at
  stand-next n xs i h j l =
      let place : entry_at i + (4 + j) ≡ entry_at (suc i) + j = omega arith in
      get_or-drop 4 xs j 0 ∙ h (4 + j) (omega arith) ∙ ap (λ p. get_or s p 0) place

  module _ (n : ℕ) (xs : List ℕ) (i : ℕ) (h : StandAt (suc n) xs i) where
    byte_of : (j : ℕ) → j < 4 → get_or (take 4 xs) j 0 ≡ get_or s (entry_at i + j) 0
    byte_of j l = get_or-take 4 xs j 0 l ∙ h j (omega arith)

    length-read : length_of (take 4 xs) ≡ body_length s i
    unfolding body_length
    length-read = load-shift 2 (take 4 xs) s 2 (entry_at i + 2) (λ q l. byte_of (2 + q) (omega arith) ∙ rw (add_assoc (entry_at i) 2 q))

  entries-read : (n : ℕ) (xs : List ℕ) (i at : ℕ) → StandAt n xs i → entries_in (first_chunks 4 n xs) (drop at s) ≡ entries_from n s i at
  unfolding entries_in entries_from part
  entries-read zero xs i at h = refl
  entries-read (suc n) xs i at h =
      let l = length-read n xs i h in
      let rest = entries-read n (drop 4 xs) (suc i) (at + body_length s i) (stand-next n xs i h) in
      rw (l, drop-drop (body_length s i) at s, byte_of n xs i h 0 (omega arith), byte_of n xs i h 1 (omega arith), add-zero (entry_at i), rest)

  ends-read : (n : ℕ) (xs : List ℕ) (i at : ℕ) → StandAt n xs i → at + sum_by length_of (first_chunks 4 n xs) ≡ bodies_end n s i at
  unfolding bodies_end
  ends-read zero xs i at h = omega arith
  ends-read (suc n) xs i at h =
      let l = length-read n xs i h in
      let rest = ends-read n (drop 4 xs) (suc i) (at + body_length s i) (stand-next n xs i h) in
      rw (sum_by-cons length_of (take 4 xs) (first_chunks 4 n (drop 4 xs)), l) (sym (add_assoc at (body_length s i) _) ∙ rest)

  -- the j-th byte of each entry stands where the model reads it
  entry-byte : (n : ℕ) (xs : List ℕ) (k i j : ℕ) → StandAt n xs k → i < n → j < 4
      → get_or (get_or (first_chunks 4 n xs) i []) j 0 ≡ get_or s (entry_at (k + i) + j) 0
  entry-byte zero xs k i j h l m = absurd (omega arith)
  entry-byte (suc n) xs k zero j h l m =
      let here : k ≡ k + 0 = omega arith in
      byte_of n xs k h j m ∙ ap (λ p. get_or s (entry_at p + j) 0) here
  entry-byte (suc n) xs k (suc i) j h l m =
      let there : suc k + i ≡ k + suc i = omega arith in
      entry-byte n (drop 4 xs) (suc k) i j (stand-next n xs k h) (omega arith) m ∙ ap (λ p. get_or s (entry_at p + j) 0) there

-- what `Table::of` reads, of a sheet that has n entries: the table of contents, the bodies, and the entries
module _ (s table bodies : List ℕ) (entries : List (List ℕ)) (n : ℕ) (count : n ≡ entry_count s)
    (front : table ≡ take (4 * n) (take (length s - 1) (drop 1 s))) (front-length : length table ≡ 4 * n)
    (chunks : entries ≡ first_chunks 4 (length table / 4) table) where
  entries-are : entries ≡ first_chunks 4 n (take (4 * n) (drop 1 s))
  entries-are =
      let four : 4 * n / 4 ≡ n = omega arith in
      chunks ∙ rw (front-length, four, front, take_rest s 1)

  stands : StandAt s n (take (4 * n) (drop 1 s)) 0
  unfolding entry_at
  stands j l = get_or-take (4 * n) (drop 1 s) j 0 l ∙ get_or-drop 1 s j 0

  pub table_entries : bodies ≡ drop (4 * n) (take (length s - 1) (drop 1 s)) → entries_in entries bodies ≡ entries_of s
  unfolding entry_at entries_of
  table_entries back =
      rw (back, take_rest s 1, drop-drop (4 * n) 1 s, entries-are, ← count) (entries-read s n (take (4 * n) (drop 1 s)) 0 (1 + 4 * n) stands)

  pub table_ends : entry_at (entry_count s) + sum_by length_of entries ≡ bodies_end (entry_count s) s 0 (entry_at (entry_count s))
  table_ends = rw (entries-are, ← count) (ends-read s n (take (4 * n) (drop 1 s)) 0 (entry_at n) stands)

  pub table_bytes : (i j : ℕ) → i < entry_count s → j < 4 → get_or (get_or entries i []) j 0 ≡ get_or s (entry_at i + j) 0
  table_bytes i j l m =
      let place : 0 + i ≡ i = omega arith in
      rw entries-are (entry-byte s n (take (4 * n) (drop 1 s)) 0 i j stands (rw count l) m ∙ ap (λ p. get_or s (entry_at p + j) 0) place)

-- ---- what is said of all entries

pub all_clear : (es : List (List ℕ)) (bodies : List ℕ) → list_all (λ e. eqb (get_or e 1 0) 0) es ≡ all is_clear (entries_in es bodies)
unfolding all entries_in
all_clear [] bodies = refl
all_clear (e ∷ es) bodies = rw (all_clear es (drop (length_of e) bodies))

either : (a b : Bool) → a || b ≡ cond a true b
either true b = refl
either false b = refl

pub any_present : (node : ℕ) (es : List (List ℕ)) (bodies : List ℕ) → list_any (λ e. eqb (get_or e 0 0) node) es ≡ present node (entries_in es bodies)
unfolding present entries_in
any_present node [] bodies = refl
any_present node (e ∷ es) bodies = rw (any_present node es (drop (length_of e) bodies)) (either (eqb (get_or e 0 0) node) _)

-- whether the nodes rise has nothing to do with the bodies
pub rising_alone : (before : ℕ) (es : List (List ℕ)) (bodies : List ℕ) → rising before (entries_in es bodies) ≡ rising before (entries_in es [])
unfolding rising entries_in
rising_alone before [] bodies = refl
rising_alone before (e ∷ es) bodies =
    rw (rising_alone (get_or e 0 0) es (drop (length_of e) bodies), rising_alone (get_or e 0 0) es (drop (length_of e) []))

module _ (es : List (List ℕ)) (i before : ℕ) (h : i < length es) where
  pub rising_on : before < get_or (get_or es i []) 0 0 → get_or (get_or es i []) 0 0 ≤ 9
      → rising before (entries_in (drop i es) []) ≡ rising (get_or (get_or es i []) 0 0) (entries_in (drop (i + 1) es) [])
  unfolding rising entries_in
  rising_on l m =
      rw (add-one, drop-cons es i [] h, lt-ltb before _ l, le-leb _ 9 m) (rising_alone _ (drop (suc i) es) (drop (length_of (get_or es i [])) []))

  pub rising_stop : get_or (get_or es i []) 0 0 ≤ before → rising before (entries_in (drop i es) []) ≡ false
  unfolding rising entries_in
  rising_stop l = rw (drop-cons es i [] h, le-ltb before _ l)

  pub rising_past : before < get_or (get_or es i []) 0 0 → 9 < get_or (get_or es i []) 0 0 → rising before (entries_in (drop i es) []) ≡ false
  unfolding rising entries_in
  rising_past l m = rw (drop-cons es i [] h, lt-ltb before _ l, lt-leb _ 9 m)

pub rising_end : (es : List (List ℕ)) (i before : ℕ) → length es ≤ i → rising before (entries_in (drop i es) []) ≡ true
unfolding rising entries_in
rising_end es i before h =
    let e : drop i es ≡ [] = drop_of_length-le es h in
    rw e

pub ruleset rises = (rising_alone, rising_on, rising_stop, rising_past, rising_end)

-- ---- what `well_formed` tests

-- bodies end no earlier than they begin
pub ends-least : (n : ℕ) (s : List ℕ) (i at : ℕ) → at ≤ bodies_end n s i at
unfolding bodies_end
ends-least zero s i at = omega arith
ends-least (suc n) s i at = omega (arith, ends-least n s (suc i) (at + body_length s i))

eqb-after : (a x y : ℕ) → eqb (a + x) (a + y) ≡ eqb x y
eqb-after a x y = grind (arith, nat_tests)

pub formed-empty : (s : List ℕ) → length s ≡ 0 → well_formed s ≡ false
unfolding well_formed
formed-empty s h = rw (le-ltb 0 (length s) (omega arith))

module _ (s : List ℕ) (h : 0 < length s) where
  pub formed-many : 9 < entry_count s → well_formed s ≡ false
  unfolding well_formed
  formed-many m = rw (lt-ltb 0 (length s) h, lt-leb (entry_count s) 9 m)

  -- no body can make up for a table of contents that is cut short
  pub formed-cut : length s < 1 + 4 * entry_count s → well_formed s ≡ false
  unfolding well_formed entry_at
  formed-cut l =
      let at = 1 + 4 * entry_count s in
      rw (ne_eqb (bodies_end (entry_count s) s 0 at) (length s) (λ e. omega (arith, ends-least (entry_count s) s 0 at)))
      (and-false (ltb 0 (length s) && leb (entry_count s) 9 && all is_clear (entries_of s)))

  module _ (m : entry_count s ≤ 9) where
    pub formed-unclear : all is_clear (entries_of s) ≡ false → well_formed s ≡ false
    unfolding well_formed
    formed-unclear e = rw (lt-ltb 0 (length s) h, le-leb (entry_count s) 9 m, e)

    -- the bodies end the sheet if they are as long as all behind the table of contents
    pub formed-ends : (total behind : ℕ) → all is_clear (entries_of s) ≡ true
        → entry_at (entry_count s) + total ≡ bodies_end (entry_count s) s 0 (entry_at (entry_count s)) → entry_at (entry_count s) + behind ≡ length s
        → eqb total behind ≡ well_formed s
    unfolding well_formed
    formed-ends total behind e t b =
        rw (lt-ltb 0 (length s) h, le-leb (entry_count s) 9 m, e, ← t, ← b) (sym (eqb-after (entry_at (entry_count s)) total behind))

pub ruleset formed = (formed-empty, formed-many, formed-cut, formed-unclear)

-- a well-formed sheet has its table of contents, and its bodies end it
pub formed-parts : (s : List ℕ) → well_formed s ≡ true → Contents s × (bodies_end (entry_count s) s 0 (entry_at (entry_count s)) ≡ length s)
unfolding well_formed entry_at
formed-parts s h =
    let a = ltb 0 (length s) in
    let b = leb (entry_count s) 9 in
    let c = all is_clear (entries_of s) in
    let place = bodies_end (entry_count s) s 0 (1 + 4 * entry_count s) in
    let ab = and_left (a && b) c (and_left (a && b && c) (eqb place (length s)) h) in
    let end : place ≡ length s = eqb-true place (length s) (and_right (a && b && c) (eqb place (length s)) h) in
    let some : 0 < length s = ltb-true 0 (length s) (and_left a b ab) in
    let few : entry_count s ≤ 9 = leb-true (entry_count s) 9 (and_right a b ab) in
    (record { some = some; few = few; whole = omega (arith, ends-least (entry_count s) s 0 (1 + 4 * entry_count s)) }, end)
