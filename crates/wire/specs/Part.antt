-- Parts of a buffer: a port's ring in the ring buffer, a slot in a ring.
use Rattle.std.specs.Prelude.{ℕ, List, ◌++◌, take, drop}

-- the n bytes of b from i
unfoldable pub part : ℕ → List ℕ → ℕ → List ℕ
part n b i = take n (drop i b)

-- b with p in place of the n bytes from i
unfoldable pub set_part : ℕ → List ℕ → ℕ → List ℕ → List ℕ
set_part n b i p = take i b ++ (p ++ drop n (drop i b))
