-- Sections 4 and 5 of docs/RULES.md, the backend: its ports with their tags, the pointer, its own view, and what an event does to it.
use Rattle.std.specs.Prelude.{ℕ, cond, ◌&&◌, List, [], ◌∷◌, eqb}
use Rattle.model.specs.Port.{closed_port, open_port, zero_tag, is_busy, set_busy, clear_busy, in_flight_of, Holder, free, held, after, View}
use Rattle.model.specs.Calls.{Call, Event}
use Rattle.model.specs.Turn.{serial_of, request_at}
use Rattle.model.specs.Rules.{due}
use Rattle.model.specs.Deeds.{Deed, opening, closing, breaking, starting, answering, finishing, deeds_of, round_of, moved}
use Rattle.model.specs.declared.Port.{Port}
use Rattle.model.specs.declared.State.{State}
use Rattle.model.specs.declared.Tag.{Tag}

-- A backend (desk): each port by its number, each tag by its port's and its own, and the pointer (rules 1.1, 4.7 and 5.1). No rule looks at a port above 7.
pub record Backend : Type 0 where
  pub pointer : ℕ
  pub port : ℕ → Port
  pub tag : ℕ → ℕ → Tag

-- what the first call of every list finds (rules 5.1 and 12.3)
abbrev pub empty_backend : Backend
empty_backend = record { pointer = 0; port = λ k. closed_port; tag = λ k t. zero_tag }

-- tag t of port k: held exactly when its mark is set (rule 4.7)
abbrev pub holder_of : Port → ℕ → Tag → Holder
holder_of p t x = cond (is_busy p.busy t) (held x) free

-- what the backend shows of itself
unfoldable pub view_of : Backend → View
view_of b = record {
  state = λ k. (b.port k).state;
  params = λ k. (b.port k).params;
  consumed = λ k. (b.port k).consumed;
  produced = λ k. (b.port k).produced;
  in_flight = λ k. in_flight_of (b.port k).busy;
  tag = λ k t. holder_of (b.port k) t (b.tag k t);
  pointer = b.pointer;
}

-- the backend with another port k
unfoldable pub with_port : Backend → ℕ → Port → Backend
with_port b k p = record { pointer = b.pointer; port = λ j. cond (eqb j k) p (b.port j); tag = b.tag }

-- the backend with another tag t of port k
unfoldable pub with_tag : Backend → ℕ → ℕ → Tag → Backend
with_tag b k t x = record { pointer = b.pointer; port = b.port; tag = λ j u. cond (eqb j k && eqb u t) x (b.tag j u) }

-- the backend with another pointer
unfoldable pub with_pointer : Backend → ℕ → Backend
with_pointer b n = record { pointer = n; port = b.port; tag = b.tag }

-- ---- what a deed does to its port

-- after an overrun (rule 5.10)
abbrev pub broken_port : Port → Port
broken_port p = record { state = State.Broken; params = p.params; consumed = p.consumed; produced = p.produced; busy = p.busy }

-- after a start: one request is taken, and no more (rules 5.17 and 11.7), and its tag is busy (rule 4.7)
abbrev pub started_port : Port → ℕ → Port
started_port p t = record {
  state = p.state;
  params = p.params;
  consumed = after p.consumed;
  produced = p.produced;
  busy = set_busy p.busy t;
}

-- after a response at once: the request is taken (rule 5.17) and answered (rules 6.3 and 8.1)
abbrev pub answered_port : Port → Port
answered_port p = record {
  state = p.state;
  params = p.params;
  consumed = after p.consumed;
  produced = after p.produced;
  busy = p.busy;
}

-- after a completion: a response was given (rule 6.3), and the tag is free (rule 6.12)
abbrev pub finished_port : Port → ℕ → Port
finished_port p t = record {
  state = p.state;
  params = p.params;
  consumed = p.consumed;
  produced = after p.produced;
  busy = clear_busy p.busy t;
}

-- What a deed does to the backend. A tag keeps what the completion needs (rules 5.20 and 5.21); a port that is closed and a tag that is freed keep zeros
-- (rules 4.5 and 4.6).
unfoldable pub does : Backend → Deed → Backend
does b (opening k p) = with_port b k (open_port p)
does b (closing k) = with_port b k closed_port
does b (breaking k) = with_port b k (broken_port (b.port k))
does b (starting k lent t s x) =
    with_port (with_tag b k t (record { pair = (request_at (view_of b) lent k).pair; serial = serial_of s; expected = x })) k (started_port (b.port k) t)
does b (answering k lent left z) = with_port b k (answered_port (b.port k))
does b (finishing k left t s z) = with_port (with_tag b k t zero_tag) k (finished_port (b.port k) t)

abbrev pub does_all : Backend → List Deed → Backend
does_all b [] = b
does_all b (d ∷ ds) = does_all (does b d) ds

-- what an event does to the backend; the pointer goes by rules 5.4, 5.5 and 5.7
unfoldable pub next : Backend → Event → Backend
next b e = with_pointer (does_all b (deeds_of e)) (moved (round_of e) b.pointer)

-- the event of a call on the backend, and the backend after it, which the next call finds (rule 12.4)
abbrev pub event_on : Backend → Call → Event
event_on b c = due (view_of b) c

abbrev pub after_call : Backend → Call → Backend
after_call b c = next b (event_on b c)
