-- `serve::port_grants` meets its contract: the k-th chunk is port k's part (Chunks).
use Rattle.std.proofs.Common.{arith}
use Rattle.wire.specs.Part.{part}
use Rattle.model.specs.Buffers.{grant_share, grants_of}
use Rattle.serve.proofs.Chunks.{chunk-at}
use Rattle.serve.proofs.port_grants.Goals as goal

pub returns : goal.returns
unfolding grants_of part
returns c =
    let a = c.args in
    rw (c.as_chunks.ensures.front, c.get.ensures) (chunk-at grant_share _ a.k.index a.grants.now (omega arith))
