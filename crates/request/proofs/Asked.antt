-- The promise, by what stands in the slot. Assumes nothing.
use Rattle.std.proofs.Common.{◌≡◌, ℕ, ◌+◌, ◌-◌, ◌*◌, List, [], ◌++◌, get_or, length, take, refl, sym, ap, ◌∙◌, arith}
use Rattle.std.specs.Prelude.{Result, Ok, Err, IfOk}
use Rattle.model.specs.Checks.{operation_checks, first_failed}
use Rattle.model.specs.Plan.{extents_of, extent_words, no_words, plan_of, verdict_of, words_beside}
use Rattle.model.specs.Ring.{request_of, segments_of}
use Rattle.model.specs.declared.Fault.{Fault}
use Rattle.model.specs.declared.Params.{Params}
use Rattle.model.specs.declared.Plan.{Plan}
use Rattle.model.specs.declared.Reason.{Reason}
use Rattle.model.specs.Numbers.{fault_of}
use Rattle.checks.specs.Reasons.{with_status}
use Rattle.layout.specs.Copy.{request_in}
use Rattle.extents.proofs.Words.{words-add}
use Rattle.checks.proofs.Steps.{all-passed}
use Rattle.plans.specs.Plans.{empty_plan}
use Rattle.verdicts.specs.Judge.{InFront, Judged}
use Rattle.verdicts.proofs.Verdict.{operation-verdict, empty-started, empty-extents, discard-extents}

-- a plan has as many extents as its request
extents-counted : (p : Params) (grants slot : List ℕ) (plan : Plan) → verdict_of p grants (request_in slot) ≡ Ok plan → plan.extents ≡ length (extents_of (request_in slot))
unfolding plan_of
extents-counted p grants slot plan e = ap (λ (x : Plan). x.extents) (sym (all-passed p grants (request_in slot) plan e).1)

-- nothing stands in front where a request has no extents
none-front : (slot words : List ℕ) (plan : Plan) → extents_of (request_in slot) ≡ [] → plan.extents ≡ 0 → InFront (request_in slot) words plan
unfolding extent_words
none-front slot words plan n e = record { few = omega arith; front = rw e refl }

module _ (p : Params) (slot grants words : List ℕ) where
  -- 21 to 25
  pub asked_no : (f : Fault) → first_failed (operation_checks p (request_in slot)) ≡ Err f → verdict_of p grants (request_in slot) ≡ Err f
  asked_no f e = operation-verdict p grants (request_in slot) f e

  -- a discard
  pub discard_front : (v : Result Plan Reason) → with_status v ≡ verdict_of p grants (request_in slot) → get_or slot 0 0 ≡ 5 → IfOk v (InFront (request_in slot) words)
  unfolding request_of
  discard_front (Ok plan) e o =
      let none = discard-extents p (request_in slot) o in
      none-front slot words plan none (extents-counted p grants slot plan (sym e) ∙ ap length none)
  discard_front (Err reason) e o = tt

  -- a flush or an empty barrier
  module _ (h : first_failed (operation_checks p (request_in slot)) ≡ Ok tt) (d : get_or slot 0 0 ≡ 5 → ⊥) (n : get_or slot 1 0 ≡ 0) where
    none : (request_in slot).segments ≡ []
    unfolding request_of segments_of
    none = rw n refl

    pub asked_empty : verdict_of p grants (request_in slot) ≡ Ok (empty_plan (get_or slot 0 0))
    unfolding request_of
    asked_empty = empty-started p grants (request_in slot) h d n none

    pub empty_front : InFront (request_in slot) words (empty_plan (get_or slot 0 0))
    unfolding request_of
    empty_front = none-front slot words _ (empty-extents p grants (request_in slot) h d n none) refl

-- the words whole, a plan's extents in front and zeros behind
module _ (p : Params) (grants slot words : List ℕ) where
  pub judged_start : (plan : Plan) → Ok plan ≡ verdict_of p grants (request_in slot) → InFront (request_in slot) words plan
      → Judged p grants slot (Ok plan) (take (4 * plan.extents) words ++ extent_words (11 - plan.extents) [])
  unfolding words_beside
  judged_start plan a f =
      let start = sym a in
      let whole : plan.extents + (11 - plan.extents) ≡ 11 = omega (arith, f.few) in
      let counted : plan.extents ≡ length (extents_of (request_in slot)) = extents-counted p grants slot plan start in
      record {
        verdict = sym start;
        beside = rw (start, f.front) (rw whole at (sym (words-add plan.extents (11 - plan.extents) (extents_of (request_in slot)) (omega arith))));
      }

  pub judged_refused : (reason : Reason) → Err (fault_of reason) ≡ verdict_of p grants (request_in slot) → Judged p grants slot (Err (fault_of reason)) no_words
  unfolding words_beside
  judged_refused reason a = let refused = sym a in record { verdict = sym refused; beside = rw refused refl }

-- for the automatic steps of each function
pub ruleset of_request = (asked_no, asked_empty, empty_front)

pub ruleset of_words = (judged_start, judged_refused)
