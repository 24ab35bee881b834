-- `nodes::bodies::read_bodies` meets its contract. The invariant is the walk so far, `Walked`. Assumes nothing.
use Rattle.nodes.proofs.Values.{walked_start, walked_next, walked-node, walked-within, walked_stop, walked-done}
use Rattle.nodes.proofs.bodies.read_bodies.Goals as goal
use native.Mathlib.Omega.{arith}

pub loop-entry-init : goal.loop-entry-init
loop-entry-init c = walked_start c.args.table.now.entries.now c.args.table.now.bodies.now c.requires

pub split_at-requires : goal.split_at-requires
split_at-requires c =
    rw c.length_of.ensures.value (walked-within _ _ _ _ _ c.loop-entry.invariant (omega arith))

pub returns-in_default : goal.returns-in_default
returns-in_default c =
    let front = rw c.length_of.ensures.value at c.split_at.ensures.front in
    rw (c.and.ensures, c.in_default.is)
    (walked_stop _ _ _ _ _ c.loop-entry.invariant (omega arith) c.split_at.result.0.now front c.in_default.field-0 (rw c.node_of-node.ensures at c.in_default.ensures))

pub offset_bounds-values-node : goal.offset_bounds-values-node
offset_bounds-values-node c =
    omega (arith, c.node_of-node.ensures, walked-node _ _ _ _ _ c.loop-entry.invariant (omega arith))

pub bounds-values-node : goal.bounds-values-node
bounds-values-node c =
    omega (arith, c.node_of-node.ensures, walked-node _ _ _ _ _ c.loop-entry.invariant (omega arith))

pub loop-entry-preserved : goal.loop-entry-preserved
loop-entry-preserved c =
    let front = rw c.length_of.ensures.value at c.split_at.ensures.front in
    rw (c.node_of-node.ensures, c.split_at.ensures.back, c.length_of.ensures.value)
    (walked_next _ _ _ _ _ c.loop-entry.invariant (omega arith) c.split_at.result.0.now front c.in-Ok.value (rw c.node_of-node.ensures at c.in-Ok.ensures))

pub returns : goal.returns
returns c = walked-done _ _ _ _ _ c.loop-entry.invariant (omega arith)
