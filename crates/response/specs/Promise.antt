-- What the response writer promises: the ring's whole pages, or all the rings, after it, and when it asks to notify the guest.
use Rattle.std.specs.Prelude.{◌≡◌, Bool, List, ℕ}
use Rattle.model.specs.Buffers.{pages_of, set_pages}
use Rattle.model.specs.Ring.{Ring, rsp_event}
use Rattle.model.specs.Turn.{tells, responded}
use Rattle.model.specs.declared.Pair.{Pair}
use Rattle.model.specs.declared.Status.{Status}

-- The response is in the page, in the slot of our index (rules 6.1 and 6.2), and published.
pub record Responded (g : Ring) (before : List ℕ) (produced : ℕ) (q : Pair) (s : Status) (left : List ℕ) (told : Bool) : Type 0 where
  pub page : left ≡ responded g before produced q s
  pub notify : told ≡ tells produced 1 (rsp_event before)

-- The same of port k's pages, and no other byte of the rings changes (rules 1.20 and 6.6).
pub record RespondedIn (g : Ring) (before : List ℕ) (k produced : ℕ) (q : Pair) (s : Status) (left : List ℕ) (told : Bool) : Type 0 where
  pub rings : left ≡ set_pages g before k (responded g (pages_of g before k) produced q s)
  pub notify : told ≡ tells produced 1 (rsp_event (pages_of g before k))
