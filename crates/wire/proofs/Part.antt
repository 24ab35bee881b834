-- The laws of `part` and `set_part`. Assumes nothing.
use mathlib.Core.Path.{◌≡◌, sym, ap, ◌∙◌}
use mathlib.Core.List.{List, [], ◌∷◌, ◌++◌}
use Prim.Native.Nat.{ℕ, zero, suc, ◌+◌, ◌-◌, ◌/◌, ◌%◌, ◌^◌, ◌<◌, ◌≤◌}
use native.Mathlib.Decide.{dec_lt}
use native.Mathlib.Nat.{zero-add, suc-add, add_assoc}
use native.Mathlib.Omega.{arith}
use lib.ListN.{length, get_or, set, take, drop, length-append, length-take, length-drop, take-append-drop, get_or-append, get_or-eq_default}
use lib.Seq.{length-take-le, take_at, drop_at, get_or-take, get_or-drop, get_or-append-add, set-append_left, ext_get_or}
use Rattle.wire.specs.LittleEndian.{load, store}
use Rattle.wire.specs.Part.{part, set_part}
use Rattle.wire.proofs.LittleEndian.{load-shift, length-store}

-- ---- a part

-- a part of n bytes has n bytes
pub length_part : (n : ℕ) (b : List ℕ) (i : ℕ) → i + n ≤ length b → length (part n b i) ≡ n
unfolding part
length_part n b i h = simp (length-take, length-drop) (omega arith)

-- byte j of a part
pub get_d_part : (n : ℕ) (b : List ℕ) (i j : ℕ) → j < n → get_or (part n b i) j 0 ≡ get_or b (i + j) 0
unfolding part
get_d_part n b i j l = get_or-take n (drop i b) j 0 l ∙ get_or-drop i b j 0

-- a number in a part, read in the whole
pub load_part : (w n : ℕ) (b : List ℕ) (i j : ℕ) → j + w ≤ n → load w (part n b i) j ≡ load w b (i + j)
load_part w n b i j h = load-shift w (part n b i) b j (i + j) (λ q l. get_d_part n b i (j + q) (omega arith) ∙ rw (add_assoc i j q))

-- a part of a part
pub part-part : (m n : ℕ) (b : List ℕ) (i j : ℕ) → j + m ≤ n → part m (part n b i) j ≡ part m b (i + j)
unfolding part
part-part m n b i j h =
    ext_get_or 0 _ _ (simp (length-take, length-drop) (omega arith)) (λ q l.
    let r : q < m = omega (arith, simp (length-take, length-drop) at l) in
    get_d_part m (part n b i) j q r ∙ get_d_part n b i (j + q) (omega arith) ∙ rw (← add_assoc i j q) (sym (get_d_part m b (i + j) q r)))

-- the same part of two lists that agree on its bytes
pub part-agree : (n : ℕ) (a b : List ℕ) (i : ℕ) → length a ≡ length b → ((q : ℕ) → q < n → get_or a (i + q) 0 ≡ get_or b (i + q) 0) → part n a i ≡ part n b i
unfolding part
part-agree n a b i e f =
    ext_get_or 0 _ _ (simp (length-take, length-drop, e)) (λ q k.
    let r : q < n = omega (arith, simp (length-take, length-drop) at k) in
    get_d_part n a i q r ∙ f q r ∙ sym (get_d_part n b i q r))

-- ---- a part put back

-- a part put in place of as many bytes
module _ (n : ℕ) (b : List ℕ) (i : ℕ) (p : List ℕ) (h : i + n ≤ length b) (l : length p ≡ n) where
  -- it keeps the length
  pub length-set_part : length (set_part n b i p) ≡ length b
  unfolding set_part
  length-set_part = simp (length-append, length-take, length-drop) (omega arith)

  -- what was put is there
  pub part-set_part : part n (set_part n b i p) i ≡ p
  unfolding part set_part
  part-set_part = rw (drop_at (take i b) (p ++ drop n (drop i b)) i (length-take-le i b (omega arith))) (take_at p _ n l)

  -- a byte below it is unchanged
  pub get_d-set_part-below : (j : ℕ) → j < i → get_or (set_part n b i p) j 0 ≡ get_or b j 0
  unfolding set_part
  get_d-set_part-below j o =
      get_or-append (take i b) (p ++ drop n (drop i b)) 0 j (simp length-take (omega arith)) ∙ get_or-take i b j 0 o

  -- a byte above it is unchanged
  pub get_d-set_part-above : (j : ℕ) → i + n ≤ j → get_or (set_part n b i p) j 0 ≡ get_or b j 0
  unfolding set_part
  get_d-set_part-above j o =
      let y = j - (i + n) in
      let front = take i b in
      let rest = drop n (drop i b) in
      let e : j ≡ length front + (length p + y) = omega (arith, length-take-le i b (omega arith)) in
      let f : i + (n + y) ≡ j = omega arith in
      ap (λ (z : ℕ). get_or (front ++ (p ++ rest)) z 0) e
      ∙ get_or-append-add front (p ++ rest) (length p + y) 0
      ∙ get_or-append-add p rest y 0
      ∙ get_or-drop n (drop i b) y 0
      ∙ get_or-drop i b (n + y) 0
      ∙ ap (λ (z : ℕ). get_or b z 0) f

  -- a part that ends where it begins, or before, is as before
  pub part-set_part-below : (m j : ℕ) → j + m ≤ i → part m (set_part n b i p) j ≡ part m b j
  part-set_part-below m j o = part-agree m (set_part n b i p) b j length-set_part (λ q k. get_d-set_part-below (j + q) (omega arith))

  -- a part that begins where it ends, or after, is as before
  pub part-set_part-above : (m j : ℕ) → i + n ≤ j → part m (set_part n b i p) j ≡ part m b j
  part-set_part-above m j o = part-agree m (set_part n b i p) b j length-set_part (λ q k. get_d-set_part-above (j + q) (omega arith))

-- putting back what was taken changes nothing
pub set_part-part : (n : ℕ) (b : List ℕ) (i : ℕ) → set_part n b i (part n b i) ≡ b
unfolding part set_part
set_part-part n b i = simp take-append-drop

-- an element set behind the seam of two lists
set-append-add : (s t : List ℕ) (k x : ℕ) → set (s ++ t) (length s + k) x ≡ s ++ set t k x
set-append-add [] t k x = rw (zero-add k)
set-append-add (y ∷ s) t k x = rw (suc-add (length s) k) (ap (λ (r : List ℕ). y ∷ r) (set-append-add s t k x))

-- a byte set in a part and put back is set in the whole
set_part-set : (n : ℕ) (b : List ℕ) (o : ℕ) (p : List ℕ) (k x : ℕ) → o ≤ length b → k < length p
    → set_part n b o (set p k x) ≡ set (set_part n b o p) (o + k) x
unfolding set_part
set_part-set n b o p k x h l =
    let front = take o b in
    let rest = drop n (drop o b) in
    let e : o + k ≡ length front + k = omega (arith, length-take-le o b h) in
    rw (e, set-append-add front (p ++ rest) k x, set-append_left p rest k x l)

-- storing in a part and putting it back is storing in the whole
pub set_part-store : (w n : ℕ) (b : List ℕ) (o i v : ℕ) → i + w ≤ n → o + n ≤ length b
    → set_part n b o (store w (part n b o) i v) ≡ store w b (o + i) v
unfolding store
set_part-store zero n b o i v l h = set_part-part n b o
set_part-store (suc w) n b o i v l h =
    set_part-set n b o (store w (part n b o) i v) (i + w) (v / 256 ^ w % 256) (omega arith) (omega (arith, length-store w (part n b o) i v, length_part n b o h))
    ∙ rw (set_part-store w n b o i v (omega arith) h, add_assoc o i w)

-- ---- bytes below 256

bytes-append : (s t : List ℕ) → ((j : ℕ) → get_or s j 0 < 256) → ((j : ℕ) → get_or t j 0 < 256) → (j : ℕ) → get_or (s ++ t) j 0 < 256
bytes-append s t hs ht j =
    elim (dec_lt j (length s)) [
      | yes o ↦ rw (get_or-append s t 0 j o) (hs j)
      | no o ↦
          let e : j ≡ length s + (j - length s) = omega arith in
          rw e (rw (get_or-append-add s t (j - length s) 0) (ht (j - length s)))
    ]

bytes_take : (n : ℕ) (b : List ℕ) → ((j : ℕ) → get_or b j 0 < 256) → (j : ℕ) → get_or (take n b) j 0 < 256
bytes_take n b h j =
    elim (dec_lt j n) [
      | yes o ↦ rw (get_or-take n b j 0 o) (h j)
      | no o ↦ rw (get_or-eq_default (take n b) 0 {n = j} (simp length-take (omega arith))) (omega arith)
    ]

bytes_drop : (n : ℕ) (b : List ℕ) → ((j : ℕ) → get_or b j 0 < 256) → (j : ℕ) → get_or (drop n b) j 0 < 256
bytes_drop n b h j = rw (get_or-drop n b j 0) (h (n + j))

-- a part's bytes are below 256 where the whole's are
pub bytes-part : (n : ℕ) (b : List ℕ) (i : ℕ) → ((j : ℕ) → get_or b j 0 < 256) → (j : ℕ) → get_or (part n b i) j 0 < 256
unfolding part
bytes-part n b i h = bytes_take n (drop i b) (bytes_drop i b h)

-- and the whole's after a part is put, where the part's are too
pub bytes-set_part : (n : ℕ) (b : List ℕ) (i : ℕ) (p : List ℕ) → ((j : ℕ) → get_or b j 0 < 256) → ((j : ℕ) → get_or p j 0 < 256)
    → (j : ℕ) → get_or (set_part n b i p) j 0 < 256
unfolding set_part
bytes-set_part n b i p h k =
    bytes-append (take i b) (p ++ drop n (drop i b)) (bytes_take i b h) (bytes-append p (drop n (drop i b)) k (bytes_drop n (drop i b) (bytes_drop i b h)))
