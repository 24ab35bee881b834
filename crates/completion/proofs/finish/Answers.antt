-- `completion::finish` meets its contract, by the response given and the tag released.
use mathlib.Core.Path.{ap, ◌∙◌}
use mir.Syntax.{w32, w64}
use mir.ValLaws.{to_z-of_z}
use Rattle.model.specs.Complete.{status_of}
use Rattle.model.specs.Turn.{port_id}
use Rattle.memory.specs.Backend.{backend_of}
use Rattle.completion.proofs.Completions.{finished-effect}
use Rattle.completion.proofs.finish.Goals as goal

pub returns : goal.returns
returns c =
    let a = c.args in
    record {
      effect =
          rw c.id.ensures
          (finished-effect (backend_of a.memory.now) (port_id a.k.index) a.rings.now a.p a.x a.res _ c.status_of-status.result c.respond-notify.result c.requires.read
          (c.status_of-status.ensures ∙ ap (status_of a.x.expected) (to_z-of_z w64 c.from.result (record { sfits = c.from.type_inv }) ∙ c.from.ensures ∙ to_z-of_z w32 a.res c.ranges.res)) (rw (c.format.ensures.0, c.format.ensures.1) at c.respond-notify.ensures));
      released = c.release.ensures;
    }
