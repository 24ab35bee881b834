-- The laws of `load` and `store`, over the width n. Assumes nothing.
use mathlib.Core.Path.{◌≡◌, refl, sym, ap₂, ◌∙◌}
use mathlib.Core.List.{List}
use Prim.Native.Nat.{ℕ, zero, suc, ◌+◌, ◌-◌, ◌*◌, ◌/◌, ◌%◌, ◌^◌, ◌<◌, ◌≤◌}
use native.Mathlib.Decide.{dec_lt, ℕ_discrete}
use native.Mathlib.Nat.{pow-suc, pow-succ', one-le-pow, mod-one, mod-lt, mod-eq_of_lt, mod-mod_of_dvd, dvd-mul_left, div-div-eq-div-mul}
use native.Mathlib.Nat.{add-zero, add-suc, add_comm, add_assoc, add-mul, mul_assoc, mul_comm}
use native.Mathlib.Omega.{arith}
use lib.ListN.{length, get_or, set, length-set}
use lib.Seq.{set_out, set-set, set_comm, get_or-set_same, get_or-set_other}
use lib.Arith.{digits_lt, digits_div, mod-mul}
use lib.Pow.{pow-add}
use Rattle.wire.specs.LittleEndian.{load, store}

pos : (n : ℕ) → 0 < 256 ^ n
pos n = one-le-pow n 256 (omega arith)

-- ---- widths joined and cut

-- adjacent loads joined: n bytes, and then m more
pub load-add : (n m : ℕ) (b : List ℕ) (i : ℕ) → load (n + m) b i ≡ load n b i + load m b (i + n) * 256 ^ n
unfolding load
load-add n zero b i = rw add-zero (omega arith)
load-add n (suc m) b i =
    simp (add-suc, load-add n m b i, add_assoc, pow-add 256 n m, add-mul, mul_assoc, mul_comm (256 ^ m) (256 ^ n))

-- adjacent stores joined: n bytes, and then m more
pub store-add : (n m : ℕ) (b : List ℕ) (i v : ℕ) → store (n + m) b i v ≡ store m (store n b i v) (i + n) (v / 256 ^ n)
unfolding store
store-add n zero b i v = rw add-zero refl
store-add n (suc m) b i v = simp (add-suc, store-add n m b i v, add_assoc, pow-add 256 n m, div-div-eq-div-mul)

-- two numbers with the same n low bytes are stored alike
store-alike : (n : ℕ) (b : List ℕ) (i v w : ℕ) → ((q : ℕ) → q < n → v / 256 ^ q % 256 ≡ w / 256 ^ q % 256) → store n b i v ≡ store n b i w
unfolding store
store-alike zero b i v w h = refl
store-alike (suc n) b i v w h =
    ap₂ (λ (s : List ℕ) (x : ℕ). set s (i + n) x) (store-alike n b i v w (λ q l. h q (omega arith))) (h n (omega arith))

-- byte q of a number, cut to n bytes or not
digit-mod : (n v q : ℕ) → q < n → v % 256 ^ n / 256 ^ q % 256 ≡ v / 256 ^ q % 256
digit-mod n v q l =
    let k = n - suc q in
    let e : n ≡ suc k + q = omega arith in
    rw (e, pow-add 256 (suc k) q, mod-mul v {m = 256 ^ suc k} {c = 256 ^ q} (pos (suc k)) (pos q), digits_div (v / 256 ^ q % 256 ^ suc k) (mod-lt v (pos q)))
    (mod-mod_of_dvd 256 (v / 256 ^ q) (rw (pow-suc 256 k) (dvd-mul_left 256 (256 ^ k))))

-- only the n low bytes of a number are stored
pub store-mod : (n : ℕ) (b : List ℕ) (i v : ℕ) → store n b i (v % 256 ^ n) ≡ store n b i v
store-mod n b i v = store-alike n b i (v % 256 ^ n) v (digit-mod n v)

-- ---- single bytes

-- a store keeps the length
pub length-store : (n : ℕ) (b : List ℕ) (i v : ℕ) → length (store n b i v) ≡ length b
unfolding store
length-store zero b i v = refl
length-store (suc n) b i v = length-set (store n b i v) (i + n) (v / 256 ^ n % 256) ∙ length-store n b i v

-- a byte set elsewhere may be set before or after
store-set : (n : ℕ) (b : List ℕ) (i v j a : ℕ) → ((q : ℕ) → q < n → j ≡ i + q → ⊥) → store n (set b j a) i v ≡ set (store n b i v) j a
unfolding store
store-set zero b i v j a h = refl
store-set (suc n) b i v j a h =
    rw (store-set n b i v j a (λ q l. h q (omega arith))) (set_comm (store n b i v) j (i + n) a (v / 256 ^ n % 256) (h n (omega arith)))

-- a store leaves nothing of one before it at the same place
pub store-store : (n : ℕ) (b : List ℕ) (i v w : ℕ) → store n (store n b i v) i w ≡ store n b i w
unfolding store
store-store zero b i v w = refl
store-store (suc n) b i v w =
    rw (store-set n (store n b i v) i w (i + n) (v / 256 ^ n % 256) (λ q l e. omega arith), store-store n b i v w)
    (set-set (store n b i w) (i + n) (v / 256 ^ n % 256) (w / 256 ^ n % 256))

-- stores that are apart may change places
pub store-comm : (m n : ℕ) (b : List ℕ) (i v j w : ℕ) → ((p q : ℕ) → p < m → q < n → i + p ≡ j + q → ⊥)
    → store n (store m b i v) j w ≡ store m (store n b j w) i v
unfolding store
store-comm zero n b i v j w h = refl
store-comm (suc m) n b i v j w h =
    rw (
      store-set n (store m b i v) j w (i + m) (v / 256 ^ m % 256) (λ q l. h m q (omega arith) l),
      store-comm m n b i v j w (λ p q l. h p q (omega arith)),
    )

-- a byte outside the n is unchanged
pub get_d-store-outside : (n : ℕ) (b : List ℕ) (i v j : ℕ) → ((q : ℕ) → q < n → j ≡ i + q → ⊥) → get_or (store n b i v) j 0 ≡ get_or b j 0
unfolding store
get_d-store-outside zero b i v j h = refl
get_d-store-outside (suc n) b i v j h =
    get_or-set_other (store n b i v) (i + n) j (v / 256 ^ n % 256) 0 (h n (omega arith)) ∙ get_d-store-outside n b i v j (λ q l. h q (omega arith))

-- byte q of the n is byte q of the number
pub get_d-store-inside : (n : ℕ) (b : List ℕ) (i v q : ℕ) → q < n → i + n ≤ length b → get_or (store n b i v) (i + q) 0 ≡ v / 256 ^ q % 256
unfolding store
get_d-store-inside zero b i v q l h = absurd (omega arith)
get_d-store-inside (suc n) b i v q l h =
    let s = store n b i v in
    let x = v / 256 ^ n % 256 in
    elim (ℕ_discrete q n) [
      | yes e ↦ rw e (get_or-set_same s (i + n) x 0 (omega (arith, length-store n b i v)))
      | no e ↦
          get_or-set_other s (i + n) (i + q) x 0 (λ z. e (omega arith))
          ∙ get_d-store-inside n b i v q (elim (dec_lt q n) [ yes k ↦ k | no k ↦ absurd (e (omega arith)) ]) (omega arith)
    ]

-- ---- loads of other lists, and after a store

-- the same bytes at an offset in another list
pub load-shift : (n : ℕ) (a b : List ℕ) (i j : ℕ) → ((q : ℕ) → q < n → get_or a (i + q) 0 ≡ get_or b (j + q) 0) → load n a i ≡ load n b j
unfolding load
load-shift zero a b i j h = refl
load-shift (suc n) a b i j h =
    ap₂ (λ (x y : ℕ). x + y * 256 ^ n) (load-shift n a b i j (λ q l. h q (omega arith))) (h n (omega arith))

-- two lists that agree on the n bytes
pub load-agree : (n : ℕ) (a b : List ℕ) (i : ℕ) → ((q : ℕ) → q < n → get_or a (i + q) 0 ≡ get_or b (i + q) 0) → load n a i ≡ load n b i
load-agree n a b i h = load-shift n a b i i h

-- a load that ends where the store begins, or before
pub load-store-below : (m n : ℕ) (b : List ℕ) (i v j : ℕ) → j + m ≤ i → load m (store n b i v) j ≡ load m b j
load-store-below m n b i v j h = load-agree m _ b j (λ q l. get_d-store-outside n b i v (j + q) (λ p k e. omega arith))

-- a load that begins where the store ends, or after
pub load-store-above : (m n : ℕ) (b : List ℕ) (i v j : ℕ) → i + n ≤ j → load m (store n b i v) j ≡ load m b j
load-store-above m n b i v j h = load-agree m _ b j (λ q l. get_d-store-outside n b i v (j + q) (λ p k e. omega arith))

-- what was stored is loaded
pub load_store : (n : ℕ) (b : List ℕ) (i v : ℕ) → i + n ≤ length b → load n (store n b i v) i ≡ v % 256 ^ n
unfolding load store
load_store zero b i v h = sym (mod-one v)
load_store (suc n) b i v h =
    let s = store n b i v in
    let x = v / 256 ^ n % 256 in
    let in-s : i + n < length s = omega (arith, length-store n b i v) in
    ap₂ (λ (p q : ℕ). p + q * 256 ^ n)
    (load-agree n (set s (i + n) x) s i (λ q l. get_or-set_other s (i + n) (i + q) x 0 (λ e. omega arith)) ∙ load_store n b i v (omega arith))
    (get_or-set_same s (i + n) x 0 in-s)
    ∙ rw (pow-succ' 256 n, mod-mul v {m = 256} {c = 256 ^ n} (omega arith) (pos n)) (add_comm _ _)

-- the same, of a number that fits
pub load-store-lt : (n : ℕ) (b : List ℕ) (i v : ℕ) → i + n ≤ length b → v < 256 ^ n → load n (store n b i v) i ≡ v
load-store-lt n b i v h l = load_store n b i v h ∙ mod-eq_of_lt l

-- ---- bounds

-- bytes below 256 spell a number below 256 ^ n
pub load_lt : (n : ℕ) (b : List ℕ) (i : ℕ) → ((j : ℕ) → get_or b j 0 < 256) → load n b i < 256 ^ n
unfolding load
load_lt zero b i h = omega arith
load_lt (suc n) b i h = rw (add_comm (load n b i), pow-succ' 256 n) (digits_lt (h (i + n)) (load_lt n b i h))

-- a byte put into bytes below 256
bytes-set : (b : List ℕ) (i x : ℕ) → ((j : ℕ) → get_or b j 0 < 256) → x < 256 → (j : ℕ) → get_or (set b i x) j 0 < 256
bytes-set b i x h l j =
    elim (dec_lt i (length b)) [
      | no o ↦ rw (set_out b i x (omega arith)) (h j)
      | yes o ↦
          elim (ℕ_discrete j i) [
            | yes e ↦ rw (e, get_or-set_same b i x 0 o) l
            | no e ↦ rw (get_or-set_other b i j x 0 e) (h j)
          ]
    ]

-- a store keeps every byte below 256
pub bytes-store : (n : ℕ) (b : List ℕ) (i v : ℕ) → ((j : ℕ) → get_or b j 0 < 256) → (j : ℕ) → get_or (store n b i v) j 0 < 256
unfolding store
bytes-store zero b i v h j = h j
bytes-store (suc n) b i v h j = bytes-set (store n b i v) (i + n) (v / 256 ^ n % 256) (bytes-store n b i v h) (mod-lt (v / 256 ^ n) (omega arith)) j
