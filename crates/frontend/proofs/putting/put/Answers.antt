-- `frontend::putting::put` meets its contract: each refusal by its test, and a put whole (Promises). Assumes nothing.
use Rattle.asking.specs.Request.{request_in}
use Rattle.frontend.proofs.putting.put.Goals as goal
use mathlib.Core.Path.{sym, ◌∙◌}
use native.Mathlib.Omega.{arith}
use Rattle.asking.proofs.Asking.{few-segments, bad-asking, bad-discard, bad-segments, slot-discard, slot-segments}
use Rattle.frontend.proofs.Promises.{refused-1, refused-31, refused-32, refused-33, put-done}

pub returns-in_default : goal.returns-in_default
returns-in_default c = refused-1 c.args.guest.now c.args.page.now (request_in c.args.request.now) c.in_default.ensures.cases

pub returns-then-outstanding-ge-MOST : goal.returns-then-outstanding-ge-MOST
returns-then-outstanding-ge-MOST c =
    rw c.in-Some.ensures.cases.same
    (refused-31 c.args.guest.now c.args.page.now (request_in c.args.request.now) c.in-Some.ensures.cases.long (omega (arith, c.outstanding.ensures.0)))

pub returns-then-has_id : goal.returns-then-has_id
unfolding request_in
returns-then-has_id c =
    rw c.in-Some.ensures.cases.same
    (refused-32 c.args.guest.now c.args.page.now (request_in c.args.request.now) c.in-Some.ensures.cases.long (omega (arith, c.outstanding.ensures.0))
    (sym c.has_id.ensures ∙ c.if-has_id.true))

pub returns-then-wrong_asking : goal.returns-then-wrong_asking
unfolding request_in
returns-then-wrong_asking c =
    rw c.in-Some.ensures.cases.same
    (refused-33 c.args.guest.now c.args.page.now (request_in c.args.request.now) c.in-Some.ensures.cases.long (omega (arith, c.outstanding.ensures.0))
    (sym c.has_id.ensures ∙ c.if-has_id.false) (bad-asking c.args.request.now (sym c.wrong_asking.ensures ∙ c.if-wrong_asking.true)))

pub returns-then-request-eq-DISCARD : goal.returns-then-request-eq-DISCARD
unfolding request_in
returns-then-request-eq-DISCARD c =
    put-done c.args.guest.now c.args.page.now (request_in c.args.request.now) c.in-Some.ensures.cases.long (omega (arith, c.outstanding.ensures.0))
    (sym c.has_id.ensures ∙ c.if-has_id.false)
    (bad-discard c.args.request.now (sym c.wrong_asking.ensures ∙ c.if-wrong_asking.false) c.if-request-eq-DISCARD.true)
    _ (c.discard_slot.ensures ∙ sym (slot-discard c.args.request.now c.if-request-eq-DISCARD.true)) _ _ _ (rw c.in-Some.ensures.cases.same at c.place.ensures)

pub wrong_segments-requires : goal.wrong_segments-requires
unfolding request_in
wrong_segments-requires c =
    few-segments (request_in c.args.request.now)
    (sym c.wrong_asking.ensures ∙ c.if-wrong_asking.false) c.if-request-eq-DISCARD.false

pub returns-then-wrong_segments : goal.returns-then-wrong_segments
unfolding request_in
returns-then-wrong_segments c =
    rw c.in-Some.ensures.cases.same
    (refused-33 c.args.guest.now c.args.page.now (request_in c.args.request.now) c.in-Some.ensures.cases.long (omega (arith, c.outstanding.ensures.0))
    (sym c.has_id.ensures ∙ c.if-has_id.false)
    (bad-segments c.args.request.now (sym c.wrong_asking.ensures ∙ c.if-wrong_asking.false) c.if-request-eq-DISCARD.false ∙ sym c.wrong_segments.ensures ∙ c.if-wrong_segments.true))

pub segments_slot-requires : goal.segments_slot-requires
unfolding request_in
segments_slot-requires c =
    few-segments (request_in c.args.request.now)
    (sym c.wrong_asking.ensures ∙ c.if-wrong_asking.false) c.if-request-eq-DISCARD.false

pub returns : goal.returns
unfolding request_in
returns c =
    put-done c.args.guest.now c.args.page.now (request_in c.args.request.now) c.in-Some.ensures.cases.long (omega (arith, c.outstanding.ensures.0))
    (sym c.has_id.ensures ∙ c.if-has_id.false)
    (bad-segments c.args.request.now (sym c.wrong_asking.ensures ∙ c.if-wrong_asking.false) c.if-request-eq-DISCARD.false ∙ sym c.wrong_segments.ensures ∙ c.if-wrong_segments.false)
    _ (c.segments_slot.ensures ∙ sym (slot-segments c.args.request.now c.if-request-eq-DISCARD.false)) _ _ _ (rw c.in-Some.ensures.cases.same at c.place-2.ensures)
