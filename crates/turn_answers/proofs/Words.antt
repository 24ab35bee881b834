-- The words of a turn's answer: zeros around the extents. Assumes nothing.
use mathlib.Core.Path.{◌≡◌}
use mathlib.Core.List.{List, []}
use Prim.Native.Nat.{ℕ}
use native.Mathlib.Omega.{arith}
use lib.ListN.{length, drop, replicate, length-drop, drop_of_length-le}
use borrow.Rule.Slice.PartMut.{put_mid}
use Rattle.wire.specs.Part.{part}
use Rattle.model.specs.Answers.{extents_in, turn_answer}

pub cleared : (xs front back : List ℕ) (m n : ℕ) → length xs ≡ 64 → m ≡ 16 → n ≡ 4 → front ≡ replicate m 0 → back ≡ replicate n 0
    → put_mid 60 4 (put_mid 0 16 xs front) back ≡ turn_answer (replicate 12 0) (extents_in xs)
unfolding part
cleared xs front back m n l p q e f =
    let none : drop 4 (drop 44 (drop 16 xs)) ≡ [] = drop_of_length-le (drop 44 (drop 16 xs)) {i = 4} (simp length-drop (omega arith)) in
    rw (e, f, p, q, none)
