-- What the steps of a close and of a completion ask of the port that they name.
use Rattle.std.specs.Prelude.{◌≡◌, false, ◌<◌}
use Rattle.model.specs.Backend.{Backend}
use Rattle.model.specs.Buffers.{ports}
use Rattle.model.specs.Port.{is_closed}
use Rattle.model.specs.declared.PortId.{PortId}

-- the port is open or broken
pub record InUse (b : Backend) (port : PortId) : Type 0 where
  pub small : port.0 < ports
  pub opened : is_closed (b.port port.0).state ≡ false
