-- `frontend::collecting::collect` meets its contract: each refusal by its test, a wait, and a response (Promises). Assumes nothing.
use Rattle.std.proofs.Common.{◌≡◌, Err, rules}
use Rattle.frontend.proofs.collecting.collect.Goals as goal
use mathlib.Core.Path.{sym, ◌∙◌}
use native.Mathlib.Omega.{arith}
use borrow.Author.Tests.{ltb-true}
use Rattle.guest.specs.Guest.{next_pair, ahead}
use Rattle.model.specs.declared.Refusal.{Refusal}
use Rattle.outstanding.specs.Words.{guest_of}
use Rattle.frontend.proofs.Promises.{not-a-page, refused-34, none_yet, refused-35, collect-done, found-none, found-some}

pub returns-in_default : goal.returns-in_default
returns-in_default c = not-a-page c.args.guest.now c.args.page.now c.in_default.ensures.cases

pub returns-then-outstanding-ahead : goal.returns-then-outstanding-ahead
unfolding ahead guest_of
returns-then-outstanding-ahead c =
    rw c.in-Some.ensures.cases.same
    (refused-34 c.args.guest.now c.args.page.now c.in-Some.ensures.cases.long
    (rw (← c.index_at-index.ensures, ← c.in-Some.ensures.cases.same, ← c.rsp_prod.ensures, ← c.distance-ahead.ensures, ← c.outstanding.ensures.0) c.if-outstanding-ahead.true))

pub returns-then-ahead-eq0 : goal.returns-then-ahead-eq0
unfolding ahead guest_of
returns-then-ahead-eq0 c =
    let same = c.in-Some.ensures.cases.same in
    let e : ahead (guest_of c.args.guest.now) c.args.page.now ≡ c.distance-ahead.result =
    rw (← c.index_at-index.ensures, ← same, ← c.rsp_prod.ensures, ← c.distance-ahead.ensures) in
    none_yet c.args.guest.now c.args.page.now c.in-Some.ensures.cases.long (omega (arith, e, c.outstanding.ensures.0)) (omega (arith, e)) _
    (rw (← c.index_at-index.ensures, ← same) c.arm.ensures)

pub returns-in_err-place : goal.returns-in_err-place
unfolding ahead guest_of
returns-in_err-place c =
    let same = c.in-Some.ensures.cases.same in
    let e : ahead (guest_of c.args.guest.now) c.args.page.now ≡ c.distance-ahead.result =
    rw (← c.index_at-index.ensures, ← same, ← c.rsp_prod.ensures, ← c.distance-ahead.ensures) in
    let err : c.from_residual.result ≡ Err Refusal.NotOutstanding = search rules in
    rw (err, same)
    (refused-35 c.args.guest.now c.args.page.now c.in-Some.ensures.cases.long (omega (arith, e, c.outstanding.ensures.0)) (λ z. omega (arith, e))
    (found-none _ _ (rw (← c.index_at-index.ensures, ← same, ← c.response_pair-pair.ensures) (sym c.place_of.ensures ∙ c.in_err-place.ensures.ok_part))))

pub end-requires : goal.end-requires
end-requires c =
    let here = found-some _ _ _ (sym c.place_of.ensures ∙ c.in_ok-place.ensures.ok_part) in
    rw here.1 (ltb-true _ _ here.0)

pub returns : goal.returns
unfolding ahead guest_of
returns c =
    let same = c.in-Some.ensures.cases.same in
    let e : ahead (guest_of c.args.guest.now) c.args.page.now ≡ c.distance-ahead.result =
    rw (← c.index_at-index.ensures, ← same, ← c.rsp_prod.ensures, ← c.distance-ahead.ensures) in
    let here = found-some _ _ _ (sym c.place_of.ensures ∙ c.in_ok-place.ensures.ok_part) in
    let pair : c.response_pair-pair.result ≡ next_pair (guest_of c.args.guest.now) c.args.page.now =
    rw (← c.index_at-index.ensures, ← same) c.response_pair-pair.ensures in
    rw (c.response_status-status.ensures, c.index_at-index.ensures, same, pair)
    (collect-done c.args.guest.now c.args.page.now c.in-Some.ensures.cases.long (omega (arith, e, c.outstanding.ensures.0)) (λ z. omega (arith, e)) c.told-guest
    (rw (← pair) here.0) _ (rw (← pair, ← here.1) c.end.ensures))
