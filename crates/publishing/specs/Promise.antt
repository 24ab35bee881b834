-- What publishing promises: the page after it, and when it asks to notify the guest.
use Rattle.std.specs.Prelude.{◌≡◌, Bool, List, ℕ}
use Rattle.model.specs.Ring.{rsp_event, set_rsp_prod}
use Rattle.model.specs.Port.{further}
use Rattle.model.specs.Turn.{tells}

-- rsp_prod is our own index raised by the n responses (rules 6.4 and 6.19), and the guest's rsp_event says whether it is to be notified (rule 6.20).
pub record Published (before : List ℕ) (produced n : ℕ) (left : List ℕ) (told : Bool) : Type 0 where
  pub page : left ≡ set_rsp_prod before (further produced n)
  pub notify : told ≡ tells produced n (rsp_event before)
