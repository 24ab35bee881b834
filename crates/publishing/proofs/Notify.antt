-- When responses are told, as the code decides it. Assumes nothing.
use mathlib.Core.Path.{◌≡◌, ap}
use mathlib.Core.List.{List}
use Prim.Native.Nat.{ℕ, ◌<◌}
use native.Mathlib.Omega.{arith}
use lib.Dec.{ltb}
use Rattle.wire.specs.LittleEndian.{load, store}
use Rattle.wire.proofs.LittleEndian.{load-store-above}
use Rattle.model.specs.Base.{modulus}
use Rattle.model.specs.Port.{distance, further}
use Rattle.model.specs.Ring.{rsp_prod_at, rsp_event_at}
use Rattle.model.specs.Turn.{tells}

-- rsp_prod_pvt is n behind the new index, so n is what the distance to rsp_event is compared with
pub tells_few : (old n event : ℕ) → old < modulus → n < modulus → tells old n event ≡ ltb (distance (further old n) event) n
unfolding tells distance
tells_few old n event o l = ap (λ (m : ℕ). ltb (distance (further old n) event) m) (omega arith)

-- rsp_event lies behind rsp_prod, so the store leaves it as it was
pub event_kept : (page : List ℕ) (v : ℕ) → load 4 (store 4 page rsp_prod_at v) rsp_event_at ≡ load 4 page rsp_event_at
event_kept page v = load-store-above 4 4 page rsp_prod_at v rsp_event_at (omega arith)
