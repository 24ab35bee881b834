-- Section 12 of docs/RULES.md, rules 12.7 to 12.14: what an event does, deed by deed, in the order done. A deed belongs to one port. What becomes of that port,
-- and what the history books of it, both go by deeds, so a call that does more than one thing is a list of deeds and nothing else changes.
use Rattle.std.specs.Prelude.{ℕ, ◌+◌, ◌%◌, List, [], ◌∷◌, Result, Ok, Err}
use Rattle.model.specs.Buffers.{ports}
use Rattle.model.specs.NodeSheet.{Sheet, sheet_of}
use Rattle.model.specs.Port.{zero_params}
use Rattle.model.specs.Calls.{Reply, Call, Open, Close, Turn, Complete, CompleteAnswer, none_done, all_done, Effect, Event}
use Rattle.model.specs.Complete.{Completion, completions_in, expected_of}
use Rattle.model.specs.declared.Params.{Params}
use Rattle.model.specs.declared.Refusal.{Refusal}
use Rattle.model.specs.declared.Status.{Status}
use Rattle.model.specs.declared.Turned.{Turned}

-- A port was opened, closed or broken; a request was taken and started, or taken and answered; a started one was answered (rules 12.9 to 12.14). `lent` is
-- the rings as the call found them, `left` as it left them, `status` what its answer told.
pub data Deed : Type 0 where
  opening : (port : ℕ) (params : Params) → Deed
  closing : (port : ℕ) → Deed
  breaking : (port : ℕ) → Deed
  starting : (port : ℕ) (lent : List ℕ) (tag serial expected : ℕ) → Deed
  answering : (port : ℕ) (lent left : List ℕ) (status : Status) → Deed
  finishing : (port : ℕ) (left : List ℕ) (tag serial : ℕ) (status : Status) → Deed

-- whose deed it is
abbrev pub port_of : Deed → ℕ
port_of (opening k p) = k
port_of (closing k) = k
port_of (breaking k) = k
port_of (starting k lent t s x) = k
port_of (answering k lent left z) = k
port_of (finishing k left t s z) = k

-- the params that an opened port takes from its sheet (rule 4.2)
abbrev pub params_in : Sheet → Params
params_in (Ok p) = p
params_in (Err e) = zero_params

-- An open that is done opens its port (rules 12.7 and 12.9).
abbrev pub open_deeds : ℕ → List ℕ → Reply → List Deed
open_deeds k sheet (Err e) = []
open_deeds k sheet (Ok done) = opening k (params_in (sheet_of sheet)) ∷ []

-- A close that is done closes its port (rules 12.7 and 12.9).
abbrev pub close_deeds : ℕ → Reply → List Deed
close_deeds k (Err e) = []
close_deeds k (Ok done) = closing k ∷ []

-- A turn does one thing to the port in its answer (rules 12.9 to 12.13); a refused or idle one does nothing (rules 12.7 and 12.8).
abbrev pub turn_deeds : List ℕ → List ℕ → Result Turned Refusal → List Deed
turn_deeds lent left (Err e) = []
turn_deeds lent left (Ok Turned.Idle) = []
turn_deeds lent left (Ok (Turned.Overrun p)) = breaking p.0 ∷ []
turn_deeds lent left (Ok (Turned.Started p t s plan)) = starting p.0 lent t.0 s.0 (expected_of plan) ∷ []
turn_deeds lent left (Ok (Turned.Answered p f y)) = answering p.0 lent left f.status ∷ []

-- Each entry of a list finishes what it named, port k and its tag and serial, with the status that the answer has for it, in the list's order (rule 12.14).
abbrev pub finishings : List ℕ → ℕ → List Completion → List Status → List Deed
finishings left k [] zs = []
finishings left k (c ∷ cs) [] = []
finishings left k (c ∷ cs) (z ∷ zs) = finishing k left c.tag.0 c.serial.0 z ∷ finishings left k cs zs

-- A completion that is done finishes all that it named, a refused one nothing (rules 12.7 and 12.14). Of its answer only the statuses are booked (rule 12.34).
abbrev pub complete_deeds : List ℕ → ℕ → List Completion → CompleteAnswer → List Deed
complete_deeds left k cs (none_done e) = []
complete_deeds left k cs (all_done p zs y) = finishings left k cs zs

-- the deeds of a call with this effect
abbrev pub deeds : (c : Call) → Effect c → List Deed
deeds (Open p sheet) e = open_deeds p.0 sheet e
deeds (Close p) e = close_deeds p.0 e
deeds (Turn rings grants words) e = turn_deeds rings e.rings e.answer
deeds (Complete rings p entries) e = complete_deeds e.rings p.0 (completions_in entries) e.answer

-- and of an event
abbrev pub deeds_of : Event → List Deed
deeds_of e = deeds e.call e.effect

-- An event as a turn: which port it served, or that none had work (rules 12.8 and 12.10). Other calls and refused turns are no turn (rule 12.18).
pub data Round : Type 0 where
  no_turn : Round
  unserved : (lent : List ℕ) → Round
  served : (lent : List ℕ) (port : ℕ) → Round

-- a turn, by its answer
abbrev pub turn_round : List ℕ → Result Turned Refusal → Round
turn_round lent (Err e) = no_turn
turn_round lent (Ok Turned.Idle) = unserved lent
turn_round lent (Ok (Turned.Overrun p)) = served lent p.0
turn_round lent (Ok (Turned.Started p t s plan)) = served lent p.0
turn_round lent (Ok (Turned.Answered p f y)) = served lent p.0

-- a call with this effect
abbrev pub round : (c : Call) → Effect c → Round
round (Open p sheet) e = no_turn
round (Close p) e = no_turn
round (Turn rings grants words) e = turn_round rings e.answer
round (Complete rings p entries) e = no_turn

-- and an event
abbrev pub round_of : Event → Round
round_of e = round e.call e.effect

-- the port after port k; the first follows the last (rule 5.4)
abbrev pub port_after : ℕ → ℕ
port_after k = (k + 1) % ports

-- where the pointer stands next: past the port that was served, and otherwise where it stood (rules 5.4, 5.5 and 5.7)
abbrev pub moved : Round → ℕ → ℕ
moved no_turn pointer = pointer
moved (unserved lent) pointer = pointer
moved (served lent k) pointer = port_after k
