-- The extents of a plan keep to whole sectors of the disk. Assumes nothing.
use borrow.Author.Tests.{ne_eqb, eqb-true, eq-eqb}
use mathlib.Core.Path.{◌≡◌, refl}
use mathlib.Core.Bool.{Bool, true, false, not, ◌&&◌}
use mathlib.Core.List.{List, [], ◌∷◌}
use Prim.Native.Nat.{ℕ, ◌+◌, ◌%◌, ◌∣◌}
use native.Mathlib.Decide.{ℕ_discrete}
use native.Mathlib.Nat.{dvd-add, dvd-sub, dvd_of_mod-eq-zero, mod-eq-zero_of_dvd}
use Rattle.std.specs.Prelude.{Ok}
use Rattle.model.specs.Base.{all}
use Rattle.model.specs.Ring.{Layout, Request, segments_of, request_of}
use Rattle.model.specs.Checks.{unit_of, is_aligned, is_on_boundaries, sectors_in, count_of, data_segments, unaligned, operation_checks, segment_checks, disk_checks, checks}
use Rattle.model.specs.Plan.{extents_from, extents_of, verdict_of}
use Rattle.model.specs.declared.Params.{Params}
use Rattle.model.specs.declared.Plan.{Plan}
use Rattle.model.specs.declared.SectorSize.{SectorSize}
use Rattle.model.specs.declared.Segment.{Segment}
use Rattle.model.proofs.Base.{clash, and_left, and_right}
use Rattle.checks.proofs.Steps.{none-fails, all-passed}
use Rattle.request.specs.WholeSectors.{is_whole, WholeSectors}
use Rattle.verdicts.proofs.Verdict.{moves}
use Rattle.request.proofs.Expected.{known, amount}

-- ---- sums and differences of whole sectors

module _ (z : SectorSize) where
  divides : (x : ℕ) → is_aligned z x ≡ true → unit_of z ∣ x
  unfolding is_aligned
  divides x h = dvd_of_mod-eq-zero (unit_of z) (eqb-true (x % unit_of z) 0 h)

  aligned : (x : ℕ) → unit_of z ∣ x → is_aligned z x ≡ true
  unfolding is_aligned
  aligned x h = eq-eqb (x % unit_of z) 0 (mod-eq-zero_of_dvd (unit_of z) h)

  -- ---- extents of segments on boundaries

  whole_from : (at : ℕ) (ss : List Segment) → is_aligned z at ≡ true → all (is_on_boundaries z) ss ≡ true → all (is_whole z) (extents_from at ss) ≡ true
  unfolding all extents_from is_on_boundaries is_whole sectors_in
  whole_from at [] a h = refl
  whole_from at (s ∷ ss) a h =
      let here = and_left (is_on_boundaries z s) (all (is_on_boundaries z) ss) h in
      let begin = and_left (is_aligned z s.first) (is_aligned z (s.last + 1)) here in
      let end = and_right (is_aligned z s.first) (is_aligned z (s.last + 1)) here in
      let long = dvd-sub (unit_of z) (divides (s.last + 1) end) (divides s.first begin) in
      rw (begin, aligned (sectors_in s) long, a)
      (whole_from (at + sectors_in s) ss (aligned (at + sectors_in s) (dvd-add (unit_of z) (divides at a) long)) (and_right (is_on_boundaries z s) (all (is_on_boundaries z) ss) h))

-- ---- a request that starts

module _ (p : Params) (l : Layout) (grants slot : List ℕ) (plan : Plan) (e : verdict_of p grants (request_of l slot) ≡ Ok plan) where
  abbrev r : Request
  r = request_of l slot

  -- 29, of a request with segments
  kept : (r.pair.operation ≡ 5 → ⊥) → (r.n ≡ 0 → ⊥) → (is_aligned p.sector r.start ≡ true) × (all (is_on_boundaries p.sector) r.segments ≡ true)
  unfolding data_segments checks operation_checks segment_checks disk_checks unaligned
  kept d k =
      ends (is_aligned p.sector r.start) (is_aligned p.sector (count_of r)) (all (is_on_boundaries p.sector) r.segments)
      (rw (moves r (known p l grants slot plan e) (amount p l grants slot plan e) d k, ne_eqb r.pair.operation 5 d) at (none-fails (checks p grants r) 7 (all-passed p grants r plan e).0))
    where
      ends : (a b c : Bool) → not (a && b && c) ≡ false → (a ≡ true) × (c ≡ true)
      ends true true true h = (refl, refl)
      ends true true false h = clash refl h
      ends true false c h = clash refl h
      ends false b c h = clash refl h

  -- a discard has no extents, nor has a request without segments
  none : r.pair.operation ≡ 5 → all (is_whole p.sector) (extents_of r) ≡ true
  unfolding extents_of all
  none o = rw o

  empty : (r.pair.operation ≡ 5 → ⊥) → r.n ≡ 0 → all (is_whole p.sector) (extents_of r) ≡ true
  unfolding extents_of all extents_from segments_of request_of
  empty d k = rw (ne_eqb r.pair.operation 5 d, k)

  some : (r.pair.operation ≡ 5 → ⊥) → (r.n ≡ 0 → ⊥) → all (is_whole p.sector) (extents_of r) ≡ true
  unfolding extents_of
  some d k = rw (ne_eqb r.pair.operation 5 d) (whole_from p.sector r.start r.segments (kept d k).0 (kept d k).1)

pub whole-sectors : WholeSectors
whole-sectors p l grants slot plan e =
    elim (ℕ_discrete (request_of l slot).pair.operation 5) [
      | yes o ↦ none p l grants slot plan e o
      | no d ↦
          elim (ℕ_discrete (request_of l slot).n 0) [
            | yes k ↦ empty p l grants slot plan e d k
            | no k ↦ some p l grants slot plan e d k
          ]
    ]
