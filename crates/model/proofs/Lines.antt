-- The worked cases with a star hold, by computation alone (rule 9.1).
use mathlib.Core.Path.{◌≡◌, refl}
use mathlib.Core.Bool.{Bool, true}
use Rattle.wire.specs.LittleEndian.{load, store}
use Rattle.wire.specs.Part.{part}
use Rattle.model.specs.Base.{tally, all}
use Rattle.model.specs.Buffers.{pages_of}
use Rattle.model.specs.Ring.{ring_for, req_prod, segment_of, segments_of, request_of}
use Rattle.model.specs.Port.{is_busy, in_flight_of, distance, pending_of}
use Rattle.model.specs.Checks.{is_empty_barrier, moves_nothing, sectors_in, total_sectors, count_of, data_segments, is_aligned, is_on_boundaries, is_granted, unknown_operation, feature_off, read_only, wrong_amount, is_within_frame, wrong_segment, not_granted, past_end, unaligned, operation_checks, segment_checks, disk_checks, checks}
use Rattle.model.specs.Plan.{extents_from, extents_of, asks_secure, is_secure, plan_of, verdict_of}
use Rattle.model.specs.Turn.{pending_at}
use Rattle.model.specs.Complete.{status_of}
use Rattle.model.specs.Lines.{starred}

pub starred-hold : all (λ (b : Bool). b) starred ≡ true
unfolding pending_at pages_of req_prod part starred tally all load store ring_for segment_of segments_of request_of is_busy in_flight_of distance pending_of is_empty_barrier moves_nothing sectors_in total_sectors count_of data_segments is_aligned is_on_boundaries is_granted unknown_operation feature_off read_only wrong_amount is_within_frame wrong_segment not_granted past_end unaligned operation_checks segment_checks disk_checks checks extents_from extents_of asks_secure is_secure plan_of verdict_of status_of
starred-hold = refl
