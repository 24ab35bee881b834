-- Nobody sleeps over work (rule 16.30): who waits for a notification, whether one was due since, and that whoever waits for one that was not due has nothing to do. A call
-- is one step here. On a page that both sides write at any time this holds of a half that looks once more after it armed (docs/GUEST.md, docs/HOST.md).
use Rattle.std.specs.Prelude.{ℕ, ◌≡◌, Bool, true, false, ◌&&◌, ◌||◌, List, [], ◌∷◌, eqb, length, Result, Option, Ok, Err, Some, None}
use Rattle.model.specs.declared.Refusal.{Refusal}
use Rattle.model.specs.Backend.{event_on}
use Rattle.model.specs.Calls.{Call, CompleteAnswer, none_done, all_done}
use Rattle.model.specs.Demand.{All, LendsBytes}
use Rattle.model.specs.History.{book}
use Rattle.model.specs.Port.{is_open}
use Rattle.model.specs.declared.Collected.{Collected}
use Rattle.model.specs.declared.Turned.{Turned}
use Rattle.guest.specs.Guest.{put_due, collect_due}
use Rattle.halves.specs.Claim.{Lends, NotOpening, ForGuest}
use Rattle.halves.specs.System.{System, Step, putting, collecting, turning, completing, opening_other, closing_any, turn_on, complete_on, step, at_opening}

-- The guest waits since a collect that found nothing, the backend since an idle turn; and whether a notification was due to each since then, by the other's answers.
pub record Waits : Type 0 where
  pub guest : Bool
  pub guest_told : Bool
  pub backend : Bool
  pub backend_told : Bool

abbrev pub nobody_waits : Waits
nobody_waits = record { guest = false; guest_told = false; backend = false; backend_told = false }

-- a put tells the backend, where it says to notify
abbrev pub after_put : Waits → Result Bool Refusal → Waits
after_put z (Err why) = z
after_put z (Ok y) = record { guest = z.guest; guest_told = z.guest_told; backend = z.backend; backend_told = z.backend_told || y }

-- a collect that found nothing begins a wait, and a response ends it
abbrev pub after_collect : Waits → Result (Option Collected) Refusal → Waits
after_collect z (Err why) = z
after_collect z (Ok None) = record { guest = true; guest_told = false; backend = z.backend; backend_told = z.backend_told }
after_collect z (Ok (Some c)) = record { guest = false; guest_told = false; backend = z.backend; backend_told = z.backend_told }

-- an idle turn begins the backend's wait, and every other turn that is done ends it; an answer at once tells the guest of its port, where it says to notify
abbrev pub after_turn : ℕ → Waits → Result Turned Refusal → Waits
after_turn k z (Err why) = z
after_turn k z (Ok Turned.Idle) = record { guest = z.guest; guest_told = z.guest_told; backend = true; backend_told = false }
after_turn k z (Ok (Turned.Overrun p)) = record { guest = z.guest; guest_told = z.guest_told; backend = false; backend_told = false }
after_turn k z (Ok (Turned.Started p t s plan)) = record { guest = z.guest; guest_told = z.guest_told; backend = false; backend_told = false }
after_turn k z (Ok (Turned.Answered p fault y)) = record { guest = z.guest; guest_told = z.guest_told || eqb k p.0 && y; backend = false; backend_told = false }

-- a completion tells the guest of its port, where it says to notify
abbrev pub after_completion : ℕ → Waits → CompleteAnswer → Waits
after_completion k z (none_done n) = z
after_completion k z (all_done p zs y) =
    record { guest = z.guest; guest_told = z.guest_told || eqb k p.0 && y; backend = z.backend; backend_told = z.backend_told }

-- one step more, by what it answers
abbrev pub waits_after : ℕ → System → Step → Waits → Waits
waits_after k w (putting r) z = after_put z (put_due w.guest w.page r).answer
waits_after k w collecting z = after_collect z (collect_due w.guest w.page).answer
waits_after k w (turning others grants words) z = after_turn k z (event_on w.backend (turn_on k w.page others grants words)).effect.answer
waits_after k w (completing others p entries) z = after_completion k z (event_on w.backend (complete_on k w.page others p entries)).effect.answer
waits_after k w (opening_other p sheet) z = z
waits_after k w (closing_any p) z = z

-- of a guest that waits and was not told: all that was answered is collected; of a backend that waits and was not told: all that was put is taken, while the port is open
pub record Rests (k : ℕ) (w : System) (z : Waits) : Type 0 where
  pub guest : z.guest ≡ true → z.guest_told ≡ false → length w.collected ≡ length (book k w.events).answered
  pub backend : z.backend ≡ true → z.backend_told ≡ false → is_open (w.backend.port k).state ≡ true → length (book k w.events).taken ≡ length w.put

-- after every list of steps, from the system and the waits
abbrev pub RestsAfter : ℕ → System → Waits → List Step → Type 0
RestsAfter k w z [] = Rests k w z
RestsAfter k w z (s ∷ steps) = RestsAfter k (step k w s) (waits_after k w s z) steps

abbrev pub WakeupTheorem : Type 0
WakeupTheorem =
    (k : ℕ) (sheet : List ℕ) → ForGuest k sheet → (before : List Call) → All LendsBytes before → All (NotOpening k) before
    → (steps : List Step) → All (Lends k) steps → RestsAfter k (at_opening k before sheet) nobody_waits steps
