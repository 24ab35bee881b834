-- The look for a port to serve: what one port shows, and that looking port by port from the pointer on finds the port that the rules serve. Assumes nothing.
use Rattle.std.proofs.Common.{Some, None}
use mathlib.Core.Path.{◌≡◌, refl, sym, ap, subst}
use mathlib.Core.Bool.{Bool, true, false, not, cond, ◌&&◌}
use mathlib.Core.List.{List}
use Prim.Native.Nat.{ℕ, suc, ◌+◌, ◌-◌, ◌%◌, ◌≤◌, ◌^◌, ◌<◌}
use native.Mathlib.Decide.{dec_lt}
use native.Mathlib.Omega.{arith}
use lib.Dec.{eqb, ltb}
use borrow.Author.Tests.{eq-eqb, ne_eqb, lt-ltb, ltb-true, le-ltb}
use Rattle.model.specs.Backend.{Backend, view_of}
use Rattle.model.specs.Base.{least}
use Rattle.model.specs.Buffers.{ports}
use Rattle.model.specs.Port.{View, is_open, distance}
use Rattle.model.specs.Ring.{req_prod}
use Rattle.model.specs.Turn.{pages_at, pending_at, has_work, looked_at, passed_over}
use Rattle.model.proofs.Base.{least-is, least-found, clash}
use Rattle.model.proofs.Fairness.{work-is}
use Rattle.rotation.specs.Pick.{look_of, pick_at, picked}

-- ---- one port

-- the distance is 0 where the indices are equal, and only there
distance-zero : (q : ℕ) → q < 2 ^ 32 → distance q q ≡ 0
unfolding distance
distance-zero q h = omega arith

distance_some : (q c : ℕ) → q < 2 ^ 32 → c < 2 ^ 32 → (q ≡ c → ⊥) → distance q c ≡ 0 → ⊥
unfolding distance
distance_some q c h l d e = d (omega arith)

module _ (b : Backend) (rings : List ℕ) (k : ℕ) where
  work : has_work (view_of b) rings k ≡ (is_open (b.port k).state && not (eqb (distance (req_prod (pages_at (view_of b) rings k)) (b.port k).consumed) 0))
  unfolding has_work pending_at view_of
  work = rw work-is

  pub look-shut : is_open (b.port k).state ≡ false → None ≡ look_of (view_of b) rings k
  unfolding look_of
  look-shut o = rw (work, o)

  module _ (o : is_open (b.port k).state ≡ true) (l : req_prod (pages_at (view_of b) rings k) < 2 ^ 32) where
    pub look-same : req_prod (pages_at (view_of b) rings k) ≡ (b.port k).consumed → None ≡ look_of (view_of b) rings k
    unfolding look_of
    look-same e = rw (work, o, ← e, eq-eqb _ 0 (distance-zero _ l))

    pub look-work : (b.port k).consumed < 2 ^ 32 → (req_prod (pages_at (view_of b) rings k) ≡ (b.port k).consumed → ⊥)
        → Some (req_prod (pages_at (view_of b) rings k)) ≡ look_of (view_of b) rings k
    unfolding look_of
    look-work r d = rw (work, o, ne_eqb _ 0 (distance_some _ _ l r d))

-- what was seen says whether there is work
seen-work : (b : Bool) (q x : ℕ) → Some q ≡ cond b (Some x) None → (b ≡ true) × (q ≡ x)
seen-work true q x e = (refl, cc)
seen-work false q x e = let z : ◌≡◌ {A = ℕ} 0 1 = cc in absurd (omega arith)

seen_nothing : (b : Bool) (x : ℕ) → None ≡ cond b (Some x) None → b ≡ false
seen_nothing true x e = let z : ◌≡◌ {A = ℕ} 0 1 = cc in absurd (omega arith)
seen_nothing false x e = refl

-- ---- how far the look has come

-- the ports passed over where a look that began at port f has come to port k
abbrev pub gone : ℕ → ℕ → ℕ
gone f k = (k + ports - f) % ports

-- before it comes past the last port, and after that
gone-on : (f k : ℕ) → f ≤ k → k < ports → gone f k ≡ k - f
gone-on f k h l = omega arith

gone-round : (f k : ℕ) → k < f → f < ports → gone f k ≡ k + ports - f
gone-round f k h l = omega arith

gone_at : (f k : ℕ) → f < ports → k < ports → (f + gone f k) % ports ≡ k
gone_at f k h l =
    elim (dec_lt k f) [
      | yes b ↦ rw (gone-round f k b h) (omega arith)
      | no b ↦ rw (gone-on f k (omega arith) l) (omega arith)
    ]

pub gone-next : (f k : ℕ) → f < ports → k < ports → ((k + 1) % ports ≡ f → ⊥) → gone f ((k + 1) % ports) ≡ suc (gone f k)
gone-next f k h l d =
    elim (dec_lt k 7) [
      | yes a ↦
          let s : (k + 1) % ports ≡ k + 1 = omega arith in
          let c = rw s at d in
          rw s
          (elim (dec_lt k f) [
            | yes b ↦ rw (gone-round f k b h, gone-round f (k + 1) (omega arith) h) (omega arith)
            | no b ↦ rw (gone-on f k (omega arith) l, gone-on f (k + 1) (omega arith) (omega arith)) (omega arith)
          ])
      | no a ↦
          let s : (k + 1) % ports ≡ 0 = omega arith in
          let c = rw s at d in
          rw (s, gone-on f k (omega arith) l, gone-round f 0 (omega arith) h) (omega arith)
    ]

pub gone-last : (f k : ℕ) → f < ports → k < ports → (k + 1) % ports ≡ f → suc (gone f k) ≡ ports
gone-last f k h l e =
    elim (dec_lt k 7) [
      | yes a ↦ rw (gone-round f k (omega arith) h) (omega arith)
      | no a ↦ rw (gone-on f k (omega arith) l) (omega arith)
    ]

-- a look that began at the pointer has come to the port that the rules look at then
pub begins : (b : Backend) (f k : ℕ) → f < ports → k < ports → f ≡ b.pointer → k ≡ looked_at (view_of b) (gone f k)
unfolding view_of
begins b f k h l e = rw (← e) (sym (gone_at f k h l))

-- ---- the look finds the port that the rules serve

module _ (v : View) (rings : List ℕ) where
  -- the first n ports looked at have nothing to serve
  abbrev pub Passed : ℕ → Type 0
  Passed n = (i : ℕ) → i < n → has_work v rings (looked_at v i) ≡ false

  pub passed-more : (n : ℕ) → Passed n → None ≡ look_of v rings (looked_at v n) → Passed (suc n)
  unfolding look_of
  passed-more n p e i h =
      elim (dec_lt i n) [
        | yes l ↦ p i l
        | no l ↦
            let z : n ≡ i = omega arith in
            subst (λ (j : ℕ). has_work v rings (looked_at v j) ≡ false) z (seen_nothing _ _ e)
      ]

  pub found_here : (n : ℕ) (k q : ℕ) → n < ports → k ≡ looked_at v n → Passed n → Some q ≡ look_of v rings k → Some (k, q) ≡ picked v rings
  unfolding picked passed_over look_of
  found_here n k q l e p w =
      let s = seen-work (has_work v rings k) q _ w in
      let z : least ports (λ i. has_work v rings (looked_at v i)) ≡ n = least-found ports (λ i. has_work v rings (looked_at v i)) n l (rw (← e) s.0) p in
      rw (z, lt-ltb n ports l, s.1, ← e)

  pub found_none : Passed ports → None ≡ picked v rings
  unfolding picked passed_over
  found_none p =
      let f : ℕ → Bool = λ i. has_work v rings (looked_at v i) in
      let none : least ports f < ports → ⊥ = λ l. clash (least-is ports f l) (p (least ports f) l) in
      rw (le-ltb (least ports f) ports (omega (arith, none)))

  -- what a pick says: which port it is, and that it has something to serve
  pub record Found (k q : ℕ) : Type 0 where
    pub within : passed_over v rings < ports
    pub place : k ≡ looked_at v (passed_over v rings)
    pub work : has_work v rings k ≡ true
    pub read : q ≡ req_prod (pages_at v rings k)

  pub pick-found : (k q : ℕ) → picked v rings ≡ Some (k, q) → Found k q
  unfolding picked passed_over
  pick-found k q = go (ltb (passed_over v rings) ports) refl
    where
      go : (b : Bool) → ltb (passed_over v rings) ports ≡ b → cond b (pick_at v rings (passed_over v rings)) None ≡ Some (k, q) → Found k q
      go true l e =
          let y : ◌≡◌ {A = ℕ × ℕ} (k, q) (looked_at v (passed_over v rings), req_prod (pages_at v rings (looked_at v (passed_over v rings)))) = cc in
          let z = ap (λ (x : ℕ × ℕ). x.0) y in
          let w = ltb-true _ _ l in
          record { within = w; place = z; work = rw z (least-is ports (λ i. has_work v rings (looked_at v i)) w); read = rw z (ap (λ (x : ℕ × ℕ). x.1) y) }
      go false l e = let z : ◌≡◌ {A = ℕ} 0 1 = cc in absurd (omega arith)

  pub pick-none : picked v rings ≡ None → ltb (passed_over v rings) ports ≡ false
  unfolding picked
  pick-none = go (ltb (passed_over v rings) ports)
    where
      go : (b : Bool) → cond b (pick_at v rings (passed_over v rings)) None ≡ None → b ≡ false
      go true e = let z : ◌≡◌ {A = ℕ} 0 1 = cc in absurd (omega arith)
      go false e = refl
