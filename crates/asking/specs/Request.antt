-- A request as a guest hands it over: the words that say it (rule 16.17), and whether it may be put (rules 16.6 and 16.7).
use Rattle.std.specs.Prelude.{ℕ, zero, suc, ◌+◌, ◌*◌, ◌^◌, min, Bool, not, ◌&&◌, ◌||◌, List, [], ◌∷◌, ltb, get_or}
use Rattle.model.specs.Base.{all}
use Rattle.model.specs.Ring.{Request, read, write, barrier, flush, discard}
use Rattle.model.specs.Checks.{max_segments, is_a, wrong_amount, wrong_segment}
use Rattle.model.specs.declared.Segment.{Segment}

-- ---- its words

-- the words of a segment, and where the segments begin (rule 16.17)
abbrev pub segment_words : ℕ
segment_words = 3

abbrev pub segments_at_word : ℕ
segments_at_word = 8

unfoldable pub segment_in : List ℕ → ℕ → Segment
segment_in w i = record {
  frame = get_or w (segments_at_word + segment_words * i) 0;
  first = get_or w (segments_at_word + segment_words * i + 1) 0;
  last = get_or w (segments_at_word + segment_words * i + 2) 0;
}

-- n segments, from number i on
unfoldable pub segments_in : ℕ → List ℕ → ℕ → List Segment
segments_in zero w i = []
segments_in (suc n) w i = segment_in w i ∷ segments_in n w (suc i)

-- The request that the words say (rule 16.17). There is room for eleven segments; one that has more of them, and is no discard, is refused for that (rule 8.25).
unfoldable pub request_in : List ℕ → Request
request_in w = record {
  pair = record { id = get_or w 1 0; operation = get_or w 0 0 };
  n = get_or w 3 0;
  flag = get_or w 4 0;
  start = get_or w 2 0;
  segments = segments_in (min (get_or w 3 0) max_segments) w 0;
  sectors = get_or w 5 0;
}

-- ---- whether it may be put

-- none of the operations that a guest puts; a backend may come to know more of them (rule 16.6)
unfoldable pub is_foreign : Request → Bool
is_foreign r = not (is_a read r || is_a write r || is_a barrier r || is_a flush r || is_a discard r)

-- the frame fits its field of 32 bits (rule 16.7)
unfoldable pub is_narrow : Segment → Bool
is_narrow s = ltb s.frame (2 ^ 32)

unfoldable pub is_too_wide : Request → Bool
is_too_wide r = not (is_a discard r) && not (all is_narrow r.segments)

-- what 33 is for: the backend's checks 21, 25 and 26, and frames that don't fit (rules 16.6 and 16.7)
abbrev pub is_bad : Request → Bool
is_bad r = is_foreign r || wrong_amount r || wrong_segment r || is_too_wide r
