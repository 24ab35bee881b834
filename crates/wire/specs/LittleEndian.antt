-- Little-endian numbers of n bytes in a list of bytes: one load and one store, over the width n.
use Rattle.std.specs.Prelude.{ℕ, zero, suc, ◌+◌, ◌*◌, ◌/◌, ◌%◌, ◌^◌, List, get_or, set}

-- the number that the n bytes from i spell, the lowest first
unfoldable pub load : ℕ → List ℕ → ℕ → ℕ
load zero b i = 0
load (suc n) b i = load n b i + get_or b (i + n) 0 * 256 ^ n

-- b with the n low bytes of v from i, the lowest first
unfoldable pub store : ℕ → List ℕ → ℕ → ℕ → List ℕ
store zero b i v = b
store (suc n) b i v = set (store n b i v) (i + n) (v / 256 ^ n % 256)
