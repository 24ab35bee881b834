use Rattle.std.proofs.Common.{sym, arith}
use Rattle.runs.proofs.Search.{reached_first, reached_off, reached_end, reached_fits, reached_next}
use Rattle.runs.proofs.extent.Placed.first_run.Goals as goal

pub loop-next-init : goal.loop-next-init
loop-next-init c = rw c.get-run.ensures (reached_first c.args.self.now.extents.words.now c.args.self.now.frames.now c.args.i c.args.self.now.extents.n (omega arith) c.requires.1)

pub loop-next-preserved : goal.loop-next-preserved
loop-next-preserved c =
    let l = c.loop-next in
    let joined = rw c.get-e.ensures at (sym c.if-not-joins.ensures) in
    rw c.get-e.ensures (reached_next c.args.self.now.extents.words.now c.args.self.now.frames.now c.args.i c.args.self.now.extents.n l.next l.run l.last l.invariant c.loop-next-test.true joined)

pub overflow_add-run : goal.overflow_add-run
overflow_add-run c =
    let l = c.loop-next in
    let joined = rw c.get-e.ensures at (sym c.if-not-joins.ensures) in
    record { fits = rw c.get-e.ensures (reached_fits c.args.self.now.extents.words.now c.args.self.now.frames.now c.args.i c.args.self.now.extents.n l.next l.run l.last l.invariant c.loop-next-test.true joined) }

pub returns-then-not-joins : goal.returns-then-not-joins
returns-then-not-joins c =
    let l = c.loop-next in
    let apart = rw c.get-e.ensures at (sym c.if-not-joins.ensures) in
    reached_off c.args.self.now.extents.words.now c.args.self.now.frames.now c.args.i c.args.self.now.extents.n l.next l.run l.last l.invariant c.loop-next-test.true apart

pub returns : goal.returns
returns c =
    let l = c.loop-next in
    reached_end c.args.self.now.extents.words.now c.args.self.now.frames.now c.args.i c.args.self.now.extents.n l.next l.run l.last l.invariant c.loop-next-test.false
