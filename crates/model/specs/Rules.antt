-- Section 7 of docs/RULES.md, over a view: `due` is the whole event of a call, its answer and every byte that it leaves. Of the refusals that apply the
-- lowest is given (rule 1.15), but 7 before 6 (rule 7.7); a refused call changes no byte (rules 1.13 and 1.14).
use Rattle.std.specs.Prelude.{ℕ, Bool, true, false, not, ◌&&◌, ◌||◌, List, [], ◌∷◌, Ok, Err, eqb, ltb, leb, length}
use Rattle.model.specs.Base.{◌⇒◌, first_of}
use Rattle.model.specs.Buffers.{ports, are_rings, are_grants}
use Rattle.model.specs.Ring.{Ring}
use Rattle.model.specs.NodeSheet.{Sheet, sheet_of}
use Rattle.model.specs.Port.{is_closed, View, Holder, free, held}
use Rattle.model.specs.Calls.{Reply, Call, Open, Close, Turn, Complete, TurnEffect, none_done, CompleteEffect, Effect, Event, most_completions}
use Rattle.model.specs.Turn.{ring_at, turned}
use Rattle.model.specs.Complete.{Completion, completions_in, are_entries, completed}
use Rattle.model.specs.declared.PortId.{PortId}
use Rattle.model.specs.declared.Refusal.{Refusal}
use Rattle.model.specs.declared.Serial.{Serial}
use Rattle.model.specs.declared.TagId.{TagId}

-- no port has this number (rule 7.2)
abbrev pub no_port : PortId → Bool
no_port p = leb ports p.0

-- a sheet that can be read opens the port; another has its own refusal (rules 7.11 to 7.15)
unfoldable pub opened_by : Sheet → Reply
opened_by (Ok p) = Ok tt
opened_by (Err e) = Err e

-- open: 2 and 3, then those of the sheet (rules 7.2, 7.3 and 7.11 to 7.15)
unfoldable pub due_open : View → PortId → List ℕ → Reply
due_open v p sheet =
    first_of
    (no_port p ⇒ Err Refusal.NoPort
    ∷ not (is_closed (v.state p.0)) ⇒ Err Refusal.NotClosed
    ∷ [])
    (opened_by (sheet_of sheet))

-- close (rules 7.2, 7.4 and 7.5); a broken port can be closed (rule 5.14)
unfoldable pub due_close : View → PortId → Reply
due_close v p =
    first_of
    (no_port p ⇒ Err Refusal.NoPort
    ∷ is_closed (v.state p.0) ⇒ Err Refusal.IsClosed
    ∷ not (eqb (v.in_flight p.0) 0) ⇒ Err Refusal.InFlight
    ∷ [])
    (Ok tt)

-- turn (rule 7.1)
unfoldable pub due_turn : View → List ℕ → List ℕ → List ℕ → TurnEffect
due_turn v rings grants words =
    first_of
    (not (are_rings rings && are_grants grants) ⇒ record { rings = rings; words = words; answer = Err Refusal.WrongLength }
    ∷ [])
    (turned v rings grants)

-- the tag is free, or another serial's (rule 7.6)
abbrev pub is_unheld_by : Serial → Holder → Bool
is_unheld_by s free = true
is_unheld_by s (held x) = not (eqb x.serial.0 s.0)

-- Tag and serial name no busy request (rule 7.6). Nothing else is asked, so a late (stale) completion that names a newer one is that one's own (rule 6.14).
unfoldable pub names_none : Ring → TagId → Serial → Holder → Bool
names_none g t s x = leb g.size t.0 || is_unheld_by s x

-- and so does one of the entries
unfoldable pub any_names_none : Ring → (ℕ → Holder) → List Completion → Bool
any_names_none g tags [] = false
any_names_none g tags (c ∷ cs) = names_none g c.tag c.serial (tags c.tag.0) || any_names_none g tags cs

-- one of the entries names this tag
unfoldable pub any_names : ℕ → List Completion → Bool
any_names t [] = false
any_names t (c ∷ cs) = eqb t c.tag.0 || any_names t cs

-- two of them name one tag (rule 7.6)
unfoldable pub named_twice : List Completion → Bool
named_twice [] = false
named_twice (c ∷ cs) = any_names c.tag.0 cs || named_twice cs

-- a completion that is refused: none of its entries is done (rules 1.13 and 1.14)
unfoldable pub refused_completion : List ℕ → Refusal → CompleteEffect
refused_completion rings e = record { rings = rings; answer = none_done e }

-- complete (rules 7.1, 7.2, 7.4, 7.6 and 7.7)
unfoldable pub due_complete : View → List ℕ → PortId → List ℕ → CompleteEffect
due_complete v rings p entries =
    let cs = completions_in entries in
    first_of
    (not (are_rings rings && are_entries entries) ⇒ refused_completion rings Refusal.WrongLength
    ∷ no_port p ⇒ refused_completion rings Refusal.NoPort
    ∷ is_closed (v.state p.0) ⇒ refused_completion rings Refusal.IsClosed
    ∷ ltb most_completions (length cs) ⇒ refused_completion rings Refusal.TooMany
    ∷ (any_names_none (ring_at v p.0) (v.tag p.0) cs || named_twice cs) ⇒ refused_completion rings Refusal.NotBusy
    ∷ [])
    (completed v rings p.0 cs)

-- what each call leaves and answers, whatever it is handed (rules 1.11, 1.12 and 11.1)
unfoldable pub effect_due : View → (c : Call) → Effect c
effect_due v (Open p sheet) = due_open v p sheet
effect_due v (Close p) = due_close v p
effect_due v (Turn rings grants words) = due_turn v rings grants words
effect_due v (Complete rings p entries) = due_complete v rings p entries

-- the event of a call (rule 11.1)
abbrev pub due : View → Call → Event
due v c = record { call = c; effect = effect_due v c }
