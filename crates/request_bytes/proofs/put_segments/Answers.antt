-- `request_bytes::put_segments` meets its contract. Assumes nothing.
use Rattle.std.proofs.Common.{◌≡◌, ◌<◌, sym, ap, ◌∙◌, arith, length-take}
use Rattle.asking.proofs.Segments.{chunk_segment}
use Rattle.asking.specs.Request.{segment_in}
use Rattle.asking.specs.Slot.{set_segment}
use Rattle.request_bytes.proofs.put_segments.Goals as goal
use Rattle.request_bytes.proofs.Segments.{put_next, put-end}

pub loop-i-preserved : goal.loop-i-preserved
loop-i-preserved c =
    let w = c.args.request.now in
    let i = c.loop-i.i in
    let below : i < c.args.n = omega (arith, length-take c.args.n c.as_chunks.result.0.now, c.loop-i-test.true) in
    let put : c.put_segment.new.slot ≡ set_segment c.loop-i.slot i (segment_in w i) =
    c.put_segment.ensures ∙ ap (set_segment c.loop-i.slot i) (chunk_segment w c.as_chunks.result.0.now c.args.n i c.as_chunks.ensures.front c.told-request below (omega arith)) in
    rw put (put_next w c.args.n i c.loop-i.slot below ∙ c.loop-i.invariant)

pub returns : goal.returns
returns c =
    sym (put-end c.args.request.now c.args.n c.loop-i.i c.loop-i.slot
    (omega (arith, length-take c.args.n c.as_chunks.result.0.now, c.as_chunks.ensures.front_len))) ∙ c.loop-i.invariant
