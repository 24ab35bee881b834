-- What the steps of a completion ask and say.
use Rattle.std.specs.Prelude.{◌≡◌, true, List, [], ◌∷◌, ℕ, ◌<◌, ℤ, Result, Ok, Err, MatchResult}
use Rattle.model.specs.Base.{◌⇒◌, first_of}
use Rattle.model.specs.Backend.{Backend, view_of, with_port, with_tag, finished_port}
use Rattle.model.specs.Buffers.{ports}
use Rattle.model.specs.Calls.{Reply, all_done, CompleteEffect}
use Rattle.model.specs.Complete.{of_one, status_of}
use Rattle.model.specs.Port.{View, is_closed, zero_tag, is_busy}
use Rattle.model.specs.Rules.{no_port}
use Rattle.model.specs.Turn.{port_id, responded_at, notifies}
use Rattle.model.specs.declared.Completed.{Completed}
use Rattle.model.specs.declared.Port.{Port}
use Rattle.model.specs.declared.PortId.{PortId}
use Rattle.model.specs.declared.Refusal.{Refusal}
use Rattle.model.specs.declared.port_index.PortIndex.{PortIndex}
use Rattle.model.specs.declared.Tag.{Tag}
use Rattle.memory.specs.Backend.{backend_of, Becomes}
use Rattle.memory.specs.Layout.{tags}

-- p is port k of the backend, and its tag t is busy
pub record TagHeld (b : Backend) (k t : ℕ) (p : Port) : Type 0 where
  pub port : k < ports
  pub tag : t < tags
  pub read : p ≡ b.port k
  pub busy : is_busy p.busy t ≡ true

-- tag t of port k is free, and one response more was given
abbrev pub Released : List ℕ → ℕ → ℕ → List ℕ → Type 0
Released m k t left = Becomes m (with_port (with_tag (backend_of m) k t zero_tag) k (finished_port ((backend_of m).port k) t)) left

-- what completing the request that tag x of port k keeps leaves and answers
unfoldable pub one_completed : View → List ℕ → ℕ → Tag → ℤ → CompleteEffect
one_completed v rings k x result =
    let s = status_of x.expected result in
    record { rings = responded_at v rings k x.pair s; answer = all_done (port_id k) (s ∷ []) (notifies v rings k) }

-- the request of tag x is answered, and its tag t of the port released
pub record TagFinished (m rings : List ℕ) (port : PortId) (t : ℕ) (x : Tag) (result : ℤ) (pages : List ℕ) (r : Completed) (left : List ℕ) : Type 0 where
  pub effect : ◌≡◌ {A = CompleteEffect} (record { rings = pages; answer = of_one (Ok r) }) (one_completed (view_of (backend_of m)) rings port.0 x result)
  pub released : Released m port.0 t left

-- that the port that was named is open or broken; of the two refusals the lower is given (rules 7.2 and 7.4)
abbrev pub in_use_due : Backend → PortId → Reply
in_use_due b port =
    first_of
    (no_port port ⇒ Err Refusal.NoPort
    ∷ is_closed (b.port port.0).state ⇒ Err Refusal.IsClosed
    ∷ [])
    (Ok tt)

-- the port's place, or that refusal
abbrev pub FoundInUse : Backend → PortId → Result PortIndex Refusal → Type 0
FoundInUse b port r = MatchResult r (λ k. (k.index ≡ port.0) × (in_use_due b port ≡ Ok tt)) (λ e. in_use_due b port ≡ Err e)
