-- Each refusal of a call that its sheet does not settle (section 7), and when responses are told (rules 6.5 and 6.20), computed: no statement about histories sees
-- which number a refusal has. Sheets have theirs beside them. Assumes nothing.
use mathlib.Core.Path.{◌≡◌, refl}
use mathlib.Core.Bool.{true, false}
use mathlib.Core.List.{List, [], ◌∷◌, ◌++◌, map}
use Prim.Native.Nat.{ℕ}
use lib.ListN.{replicate}
use Rattle.wire.specs.LittleEndian.{load}
use Rattle.wire.specs.Part.{part}
use Rattle.model.specs.Base.{tally}
use Rattle.model.specs.Buffers.{rings_length, grants_length, pages_of}
use Rattle.model.specs.Ring.{ring_for, rsp_event}
use Rattle.model.specs.Port.{View, zero_params, open_port, is_busy, in_flight_of, distance}
use Rattle.model.specs.Calls.{Call, Open, Close, Turn, Complete}
use Rattle.model.specs.Turn.{port_id, tells, notifies_all, notifies}
use Rattle.model.specs.Complete.{completion_at, completions_from, completions_in, response_for, responses_for, completed}
use Rattle.model.specs.Rules.{due_open, due_close, due_turn, names_none, any_names_none, any_names, named_twice, refused_completion, due_complete, effect_due}
use Rattle.model.specs.Backend.{empty_backend, view_of, with_port, started_port}
use Rattle.model.specs.Answers.{refusal}
use Rattle.model.specs.declared.Abi.{Abi}
use Rattle.model.specs.declared.Pages.{Pages}
use Rattle.model.specs.declared.SectorSize.{SectorSize}

-- port 2 has a ring of so many pages, and one request in flight, with this tag and serial 0; the others are closed
busy : Pages → ℕ → View
busy n t = view_of (with_port empty_backend 2 (started_port (open_port (record {
  writable = false;
  barrier = false;
  flush = false;
  discard = false;
  secure = false;
  sector = SectorSize.Bytes512;
  sectors = 0;
  abi = Abi.Bits64;
  pages = n;
})) t))

rings : List ℕ
rings = replicate rings_length 0

grants : List ℕ
grants = replicate grants_length 0

-- an entry with result 8
abbrev one : ℕ → ℕ → List ℕ
one t s = t ∷ s ∷ 8 ∷ []

-- what a call is refused with, on that view
abbrev refused : Call → ℕ
refused c = refusal c (effect_due (busy Pages.One 0) c)

-- and a list of completions of its port
abbrev listed : List ℕ → ℕ
listed entries = refused (Complete rings (port_id 2) entries)

-- what a completion of tag t is refused with, where that tag's mark is set, by the pages of the ring
abbrev named : Pages → ℕ → ℕ
named n t = let c = Complete rings (port_id 2) (one t 0) in refusal c (effect_due (busy n t) c)

-- the same of two tags of which 0 and 1 are marked
abbrev pair_named : ℕ → ℕ → ℕ
pair_named t u =
    let c = Complete rings (port_id 2) (one t 0 ++ one u 0) in
    let v = view_of (with_port empty_backend 2 (started_port (started_port (open_port zero_params) 0) 1)) in
    refusal c (effect_due v c)

-- port 0's page as far as its header, with an rsp_event
abbrev header : ℕ → List ℕ
header event = 0 ∷ 0 ∷ 0 ∷ 0 ∷ 0 ∷ 0 ∷ 0 ∷ 0 ∷ 0 ∷ 0 ∷ 0 ∷ 0 ∷ event ∷ 0 ∷ 0 ∷ 0 ∷ []

record Computed : Type 0 where
  turns : map refused (Turn [] grants [] ∷ Turn rings [] [] ∷ []) ≡ 1 ∷ 1 ∷ []
  opens : map refused (Open (port_id 8) [] ∷ Open (port_id 2) [] ∷ []) ≡ 2 ∷ 3 ∷ []
  closes : map refused (Close (port_id 8) ∷ Close (port_id 4) ∷ Close (port_id 2) ∷ []) ≡ 2 ∷ 4 ∷ 5 ∷ []
  -- rings of another length, and words that are not of whole entries, before the port is looked at
  lengths : map refused
      (Complete [] (port_id 9) (one 0 0)
      ∷ Complete rings (port_id 9) (0 ∷ [])
      ∷ Complete rings (port_id 9) (0 ∷ one 0 0)
      ∷ Complete rings (port_id 9) (0 ∷ 0 ∷ one 0 0)
      ∷ [])
      ≡ 1 ∷ 1 ∷ 1 ∷ 1 ∷ []
  -- of a port that there is not, and of a closed one: one entry, none, and more than there may be
  ports : map (λ e. refused (Complete rings (port_id 8) e)) (one 0 0 ∷ [] ∷ []) ≡ 2 ∷ 2 ∷ []
  closed : map (λ e. refused (Complete rings (port_id 4) e)) (one 0 0 ∷ [] ∷ replicate 195 0 ∷ []) ≡ 4 ∷ 4 ∷ 4 ∷ []
  -- a tag of another ring; a free one; another serial; numbers of more than 32 bits
  entries : map listed (one 32 0 ∷ one 1 0 ∷ one 0 1 ∷ one 4294967296 0 ∷ one 0 4294967296 ∷ []) ≡ 6 ∷ 6 ∷ 6 ∷ 6 ∷ 6 ∷ []
  -- the first entry is at fault, or the last; a tag is named twice
  places : map listed ((one 1 0 ++ one 0 0) ∷ (one 0 0 ++ one 1 0) ∷ (one 0 0 ++ one 0 0) ∷ []) ≡ 6 ∷ 6 ∷ 6 ∷ []
  -- as many entries as there may be, and one more, before any is looked at; one that is done, and none
  counts : map listed (replicate 192 0 ∷ replicate 195 0 ∷ one 0 0 ∷ [] ∷ []) ≡ 6 ∷ 7 ∷ 0 ∷ 0 ∷ []
  -- a ring has as many tags as slots, whatever is marked (rule 7.6): 0 to 31 in one page, 0 to 63 in two
  tags_of_one : map (named Pages.One) (0 ∷ 31 ∷ 32 ∷ 63 ∷ 64 ∷ []) ≡ 0 ∷ 0 ∷ 6 ∷ 6 ∷ 6 ∷ []
  tags_of_two : map (named Pages.Two) (0 ∷ 31 ∷ 32 ∷ 63 ∷ 64 ∷ []) ≡ 0 ∷ 0 ∷ 0 ∷ 0 ∷ 6 ∷ []
  -- a list names its own tags (rule 7.6): two that are busy are done, in either order, and the second again is not
  two_named : map (pair_named 0) (1 ∷ 0 ∷ 2 ∷ []) ≡ 0 ∷ 6 ∷ 6 ∷ []
  turned : map (pair_named 1) (0 ∷ 1 ∷ []) ≡ 0 ∷ 6 ∷ []
  -- the first response is told where rsp_event is 1, and only there
  told : notifies (busy Pages.One 0) (header 1) 0 ≡ true
  untold : notifies (busy Pages.One 0) (header 0) 0 ≡ false
  late : notifies (busy Pages.One 0) (header 2) 0 ≡ false
  -- three responses from 5 on are told where it is 6, 7 or 8; two from 2^32 - 1 on where it is 0 or 1; none, nowhere
  three : map (tells 5 3) (4 ∷ 5 ∷ 6 ∷ 7 ∷ 8 ∷ 9 ∷ []) ≡ false ∷ false ∷ true ∷ true ∷ true ∷ false ∷ []
  around : map (tells 4294967295 2) (4294967294 ∷ 4294967295 ∷ 0 ∷ 1 ∷ 2 ∷ []) ≡ false ∷ false ∷ true ∷ true ∷ false ∷ []
  none : map (tells 5 0) (4 ∷ 5 ∷ 6 ∷ []) ≡ false ∷ false ∷ false ∷ []

computed : Computed
unfolding busy rings grants load part tally pages_of rsp_event ring_for is_busy in_flight_of distance tells notifies_all notifies completion_at completions_from completions_in response_for responses_for due_open due_close due_turn names_none any_names_none any_names named_twice refused_completion due_complete effect_due completed view_of with_port
computed = record {
  turns = refl;
  opens = refl;
  closes = refl;
  lengths = refl;
  ports = refl;
  closed = refl;
  entries = refl;
  places = refl;
  counts = refl;
  tags_of_one = refl;
  tags_of_two = refl;
  two_named = refl;
  turned = refl;
  told = refl;
  untold = refl;
  late = refl;
  three = refl;
  around = refl;
  none = refl;
}
