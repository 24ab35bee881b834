-- `idle::arm_ports`: the ports passed are armed.
use Rattle.std.proofs.Common.{◌≡◌}
use Rattle.model.specs.Backend.{view_of}
use Rattle.model.specs.Turn.{armed}
use Rattle.memory.specs.Backend.{backend_of}
use Rattle.idle.proofs.arm_ports.Given as goal

abbrev pub invariant-loop-k : goal.invariant-loop-k
invariant-loop-k l = l.rings ≡ armed (view_of (backend_of l.memory)) l.fn.rings l.k
