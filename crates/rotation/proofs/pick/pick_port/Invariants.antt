-- `rotation::pick::pick_port`: none of the ports passed over has anything to serve.
use Rattle.std.proofs.Common.{◌≡◌, ◌-◌, ◌<◌}
use Rattle.model.specs.Backend.{view_of}
use Rattle.model.specs.Buffers.{ports}
use Rattle.memory.specs.Backend.{backend_of}
use Rattle.rotation.proofs.Search.{gone, Passed}
use Rattle.rotation.proofs.pick.pick_port.Given as goal

abbrev pub invariant-loop-published : goal.invariant-loop-published
invariant-loop-published l = record {
  first_small : l.first.index < ports;
  small : l.k.index < ports;
  first_is : l.first.index ≡ (backend_of l.memory).pointer;
  passed : Passed (view_of (backend_of l.memory)) l.rings (gone l.first.index l.k.index);
}

abbrev pub decreases-loop-published : goal.decreases-loop-published
decreases-loop-published l = ports - gone l.first.index l.k.index
