-- `lists::finish_all` meets its contract. The loop's invariant: what the entries that are left will do comes to what all of them do (Passes).
use native.Mathlib.Omega.{arith}
use Rattle.model.specs.Ring.{ring_of}
use Rattle.lists.proofs.Passes.{tag-named, underway-first, underway-next, underway-last}
use Rattle.lists.proofs.finish_all.Goals as goal

pub loop-i-init : goal.loop-i-init
loop-i-init c =
    let a = c.args in
    record {
      read = c.as_chunks.ensures.front;
      done = underway-first a.memory.now a.page.now a.k.index (ring_of a.p.params) a.p.produced a.entries.now a.answer.now c.requires.0;
    }

pub loop-i-preserved : goal.loop-i-preserved
loop-i-preserved c =
    let a = c.args in
    record {
      read = c.loop-i.invariant.read;
      done =
          rw (c.next_index-index.ensures, c.magnitude.ensures)
          (underway-next a.p.params.abi a.p.params.pages c.loop-i.invariant.done (omega (arith, c.as_chunks.ensures.front_len)) _ c.loop-i.invariant.read
          _ c.finish_entry-status.result _ (rw c.new.ensures at c.finish_entry-status.ensures));
    }

pub returns : goal.returns
returns c =
    let a = c.args in
    underway-last a.p.params.abi a.p.params.pages c.loop-i.invariant.done (omega (arith, c.as_chunks.ensures.front_len))

pub overflow_cast-tag : goal.overflow_cast-tag
overflow_cast-tag c =
    record { fits = omega (arith, tag-named c.args.entries.now _ c.loop-i.invariant.read c.requires.2 c.loop-i.i (omega (arith, c.as_chunks.ensures.front_len))) }

pub new-requires : goal.new-requires
new-requires c = tag-named c.args.entries.now _ c.loop-i.invariant.read c.requires.2 c.loop-i.i (omega (arith, c.as_chunks.ensures.front_len))

pub finish_entry-status-requires : goal.finish_entry-status-requires
finish_entry-status-requires c =
    c.loop-i.invariant.done.long
