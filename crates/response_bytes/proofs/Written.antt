-- A response as the code writes it. Assumes nothing.
use mathlib.Core.Path.{◌≡◌, refl}
use mathlib.Core.List.{List}
use Prim.Native.Nat.{ℕ, ◌+◌, ◌/◌, ◌^◌, ◌<◌}
use native.Mathlib.Omega.{arith}
use mir.Syntax.{w16}
use mir.Val.{of_z, to_z}
use Rattle.wire.specs.LittleEndian.{store}
use Rattle.wire.proofs.LittleEndian.{store-add}
use Rattle.model.specs.Ring.{response_operation_at, status_number, status_bits}
use Rattle.model.specs.declared.Status.{Status}

-- a byte and the zero behind it are one store of two bytes
pub byte_zero : (b : List ℕ) (at v : ℕ) → v < 256 → store 2 b (at + response_operation_at) v ≡ store 1 (store 1 b (at + response_operation_at) v) (at + (response_operation_at + 1)) 0
byte_zero b at v h =
    let e : at + response_operation_at + 1 ≡ at + (response_operation_at + 1) = omega arith in
    let z : v / 256 ^ 1 ≡ 0 = omega arith in
    rw (store-add 1 1 b (at + response_operation_at) v, e, z)

-- the bits of a status' number, as a callee takes it
pub passed : (s : Status) → of_z w16 (to_z w16 (of_z w16 (status_number s))) ≡ status_bits s
passed Status.Okay = refl
passed Status.Error = refl
passed Status.NotSupported = refl
