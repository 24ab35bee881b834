-- The ways that a turn ends: refused, idle, or with a port served. Assumes nothing.
use Rattle.std.proofs.Common.{Result, Ok, Err, Some, None}
use mathlib.Core.Path.{◌≡◌, refl, sym, ap, subst, ◌∙◌}
use mathlib.Core.Bool.{true}
use mathlib.Core.List.{List, []}
use Prim.Native.Nat.{ℕ}
use native.Mathlib.Omega.{arith}
use lib.ListN.{length}
use borrow.Author.Tests.{lt-ltb, eq-eqb, ne_eqb}
use Rattle.wire.specs.Part.{set_part}
use Rattle.wire.proofs.Part.{part-set_part}
use Rattle.model.specs.Answers.{turn_words, extents_at, extents_in}
use Rattle.model.specs.Backend.{view_of, next}
use Rattle.model.specs.Buffers.{ports, rings_length, grants_length}
use Rattle.model.specs.Calls.{Turn, TurnEffect}
use Rattle.model.specs.Deeds.{turn_deeds}
use Rattle.model.specs.Plan.{Verdict, plan_words}
use Rattle.model.specs.Port.{View, is_open, is_work}
use Rattle.model.specs.Ring.{Request}
use Rattle.model.specs.Rules.{due_turn, effect_due}
use Rattle.model.specs.Turn.{pending_at, has_work, idle, settled, overran, served_by, turned}
use Rattle.model.proofs.Base.{and_right}
use Rattle.model.specs.declared.Pending.{Pending}
use Rattle.model.specs.declared.Refusal.{Refusal}
use Rattle.model.specs.declared.Turned.{Turned}
use Rattle.memory.specs.Backend.{backend_of}
use Rattle.memory.specs.Promise.{Promised}
use Rattle.memory.proofs.Changes.{promised, nothing-done}
use Rattle.rotation.specs.Pick.{picked}
use Rattle.idle.specs.Idle.{Rested}
use Rattle.rotation.proofs.Search.{pick-found, pick-none}
use Rattle.serve.specs.Serve.{Turns}
use Rattle.turn.specs.Promise.{TurnPromised}

-- a port with something to serve has a request waiting, or an overrun
has-work : (v : View) (rings : List ℕ) (k : ℕ) → has_work v rings k ≡ true → is_work (pending_at v rings k) ≡ true
unfolding has_work
has-work v rings k e = and_right (is_open (v.state k)) (is_work (pending_at v rings k)) e

-- a service has a deed
settled-does : (v : View) (rings lent pages : List ℕ) (k : ℕ) (r : Request) (x : Verdict) → turn_deeds lent pages (settled v rings k r x).answer ≡ [] → ⊥
unfolding settled
settled-does v rings lent pages k r (Err f) e = let z : ◌≡◌ {A = ℕ} 0 1 = cc in omega arith
settled-does v rings lent pages k r (Ok plan) e = let z : ◌≡◌ {A = ℕ} 0 1 = cc in omega arith

module _ (m rings grants words : List ℕ) where
  refused : due_turn (view_of (backend_of m)) rings grants words ≡ record { rings = rings; words = words; answer = Err Refusal.WrongLength }
      → Promised m (Turn rings grants words) (record { rings = rings; words = words; answer = Err Refusal.WrongLength }) m
  unfolding effect_due
  refused e = nothing-done m (Turn rings grants words) (record { rings = rings; words = words; answer = Err Refusal.WrongLength }) (sym e) refl refl

  pub wrong-rings : (length rings ≡ rings_length → ⊥) → Promised m (Turn rings grants words) (record { rings = rings; words = words; answer = Err Refusal.WrongLength }) m
  unfolding due_turn
  wrong-rings d = refused (rw (ne_eqb _ _ d))

  pub wrong-grants : length rings ≡ rings_length → (length grants ≡ grants_length → ⊥)
      → Promised m (Turn rings grants words) (record { rings = rings; words = words; answer = Err Refusal.WrongLength }) m
  unfolding due_turn
  wrong-grants l d = refused (rw (eq-eqb _ _ l, ne_eqb _ _ d))

  module _ (l : length rings ≡ rings_length) (g : length grants ≡ grants_length) where
    due-turned : due_turn (view_of (backend_of m)) rings grants words ≡ turned (view_of (backend_of m)) rings grants
    unfolding due_turn
    due-turned = rw (eq-eqb _ _ l, eq-eqb _ _ g)

    pub turn-idle : (pages filled : List ℕ) (r : Turned) (left : List ℕ) → picked (view_of (backend_of m)) rings ≡ None → Rested m rings r pages filled left
        → Promised m (Turn rings grants words) (record { rings = pages; words = filled; answer = Ok r }) left
    unfolding effect_due turned idle
    turn-idle pages filled r left e o =
        rw (o.memory, o.answer)
        (nothing-done m (Turn rings grants words) (record { rings = pages; words = filled; answer = Ok Turned.Idle })
        (rw (due-turned, pick-none (view_of (backend_of m)) rings e, o.rings, o.words)) refl refl)

    module _ (k q : ℕ) (e : picked (view_of (backend_of m)) rings ≡ Some (k, q)) where
      due-served : due_turn (view_of (backend_of m)) rings grants words ≡ served_by (view_of (backend_of m)) rings grants k (pending_at (view_of (backend_of m)) rings k)
      unfolding turned
      due-served =
          let o = pick-found (view_of (backend_of m)) rings k q e in
          rw (due-turned, lt-ltb _ ports o.within, ← o.place)

      -- what is served has work, so it has a deed
      served-does : (pages : List ℕ) (x : Pending) → is_work x ≡ true → turn_deeds rings pages (served_by (view_of (backend_of m)) rings grants k x).answer ≡ [] → ⊥
      unfolding served_by overran
      served-does pages Pending.Nothing w z = let y : ◌≡◌ {A = ℕ} 0 1 = cc in omega arith
      served-does pages Pending.Waits w z = settled-does (view_of (backend_of m)) rings rings pages k _ _ z
      served-does pages Pending.Overrun w z = let y : ◌≡◌ {A = ℕ} 0 1 = cc in omega arith

      pub turn-served : (pages filled : List ℕ) (r : Turned) (left : List ℕ)
          → Turns m rings (served_by (view_of (backend_of m)) rings grants k (pending_at (view_of (backend_of m)) rings k)) pages filled r left
          → Promised m (Turn rings grants words) (record { rings = pages; words = filled; answer = Ok r }) left
      unfolding effect_due next
      turn-served pages filled r left t =
          let o = pick-found (view_of (backend_of m)) rings k q e in
          let a = ap (λ (x : TurnEffect). x.answer) t.effect in
          promised m (Turn rings grants words) (record { rings = pages; words = filled; answer = Ok r }) left
          (t.effect ∙ sym due-served) t.memory (λ z.
          absurd (served-does pages (pending_at (view_of (backend_of m)) rings k) (has-work (view_of (backend_of m)) rings k o.work) (sym (ap (turn_deeds rings pages) a) ∙ z)))

-- ---- the extents in the middle of the answer

module _ (m rings grants answer pages left : List ℕ) where
  pub within : (r : Result Turned Refusal) (ys : List ℕ) → length answer ≡ turn_words → length ys ≡ plan_words
      → Promised m (Turn rings grants (extents_in answer)) (record { rings = pages; words = ys; answer = r }) left
      → TurnPromised m rings grants answer r pages (set_part plan_words answer extents_at ys) left
  within r ys h l p =
      let e : extents_in (set_part plan_words answer extents_at ys) ≡ ys = part-set_part plan_words answer extents_at ys (omega arith) l in
      record {
        promised = subst (λ (z : List ℕ). Promised m (Turn rings grants (extents_in answer)) (record { rings = pages; words = z; answer = r }) left) (sym e) p;
        around = ap (set_part plan_words answer extents_at) (sym e);
      }
