use Rattle.std.proofs.Common.{◌∙◌, length}
use Rattle.runs.specs.Answer.{joined}
use Rattle.runs.proofs.Answered.{ready, left}
use Rattle.kernelharp.proofs.joining.kh_join_extents.Goals as goal

pub fill-requires : goal.fill-requires
fill-requires c =
    let a = c.args in
    rw (c.taken.ensures, c.judge-joined.ensures) (ready a.extents.now a.pieces a.frames.now a.list.now)

pub returns : goal.returns
returns c =
    let a = c.args in
    record {
      returned = rw c.judge-joined.ensures at c.put_joined.ensures.0;
      listed = rw (c.taken.ensures, c.judge-joined.ensures) at c.fill.ensures ∙ left a.extents.now a.pieces a.frames.now a.list.now (joined a.extents.now a.pieces a.frames.now (length a.list.now));
      answered = rw c.judge-joined.ensures at c.put_joined.ensures.1;
    }
