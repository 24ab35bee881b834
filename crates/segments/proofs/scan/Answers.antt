-- What a pass over the segments has found, one segment more (Pass).
use Rattle.std.proofs.Common.{◌≡◌, ◌+◌, ◌*◌, ◌/◌, ◌<◌, ◌≤◌, sym, ◌∙◌, arith}
use Rattle.model.specs.Checks.{sectors_in}
use Rattle.model.specs.Ring.{segment_of, segments_of}
use Rattle.layout.specs.Copy.{copy_layout}
use Rattle.segments.specs.Segments.{passes}
use Rattle.segments.proofs.Slot.{four_next, length-segments, within-yes}
use Rattle.segments.proofs.Pass.{upto-none, upto_next, upto_all, passes-yes}
use Rattle.segments.proofs.scan.Goals as goal

pub loop-place-init : goal.loop-place-init
unfolding segments_of
loop-place-init c =
    let a = c.args in
    record {
      in_range = omega arith;
      whole = omega arith;
      rest = search arith;
      upto = upto-none a.grants.now a.operation a.start a.words.now (omega arith) (omega arith);
    }

pub loop-place-preserved : goal.loop-place-preserved
unfolding segment_of sectors_in
loop-place-preserved c =
    let a = c.args in
    let l = c.loop-place in
    let s = segment_of copy_layout a.slot.now (l.place / 4) in
    let whole : l.place ≡ 4 * (l.place / 4) = l.invariant.whole in
    let here : 24 + 2 * l.place ≡ 24 + 8 * (l.place / 4) = omega arith in
    let next : (l.place + 4) / 4 ≡ l.place / 4 + 1 = omega arith in
    let frame : c.load-frame.result ≡ s.frame = rw here at c.load-frame.ensures in
    let low : s.first ≤ s.last = rw here at c.if-last-first.false in
    let high : s.last ≤ 7 = rw here at c.if-last-gt-LAST_IN_FRAME.false in
    let near : s.frame < 1024 = rw frame at c.if-frame-ge-FRAMES.false in
    let right = rw frame at (sym c.if-not-suffices.ensures) in
    let wide : c.into.result ≡ s.frame = c.into.ensures ∙ frame in
    let first : c.into-in-loop-place.result ≡ s.first = rw here at c.into-in-loop-place.ensures in
    let sum = rw here at c.from-len.ensures in
    let len : c.from-len.result ≡ sectors_in s = omega arith in
    let one = passes-yes a.grants.now a.operation s (within-yes s low high) near right in
    record {
      in_range = omega (arith, c.loop-place-test.true, whole);
      whole = omega (arith, next, whole);
      rest = l.invariant.rest ∙ (rw one at (four_next (passes a.grants.now a.operation) copy_layout a.slot.now a.n l.place c.loop-place-test.true whole));
      upto =
          rw (c.put.ensures, next)
          (rw (← whole) at
          (upto_next a.grants.now a.operation a.start copy_layout a.slot.now (l.place / 4) l.words l.sector l.invariant.upto (omega arith) one _ _ _ wide first len));
    }

pub returns : goal.returns
returns c =
    let a = c.args in
    let l = c.loop-place in
    let e : l.place / 4 ≡ a.n = omega arith in
    upto_all a.grants.now a.operation a.start (segments_of a.n copy_layout a.slot.now 0) l.words l.sector _
    (rw e at l.invariant.upto) (omega (arith, length-segments a.n copy_layout a.slot.now 0)) (omega arith) (omega arith) (omega arith)
