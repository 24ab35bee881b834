-- An answer that is due is the one that its number and its words spell: decoding gives back what was encoded. Assumes nothing.
use mathlib.Core.Path.{◌≡◌, refl, sym, ap, ◌∙◌}
use mathlib.Core.Bool.{Bool, true, false, not, ◌&&◌}
use mathlib.Core.List.{List, [], ◌∷◌, map}
use Prim.Native.Nat.{ℕ, suc, ◌-◌}
use native.Mathlib.Omega.{arith}
use lib.Dec.{ltb}
use lib.ListN.{length, take, replicate, length-map}
use lib.Seq.{take_at}
use Rattle.std.specs.Prelude.{Result, Ok, Err}
use Rattle.extents.proofs.Words.{length-words}
use Rattle.wire.specs.Part.{part}
use Rattle.model.specs.Answers.{reply_number, turned_number, turned_words, completed_number, magnitude, magnitudes, status_words, yes_no, extents_in, turn_answer, turn_left, done_left, many_left}
use Rattle.model.specs.Buffers.{ports, are_rings, are_grants}
use Rattle.model.specs.Numbers.{refusal_number, reason_number}
use Rattle.model.specs.Calls.{Reply, TurnEffect, CompleteAnswer, none_done, all_done, most_completions}
use Rattle.model.specs.Plan.{Verdict, words_beside}
use Rattle.model.specs.Port.{View}
use Rattle.model.specs.Ring.{Request}
use Rattle.model.specs.Rules.{due_turn}
use Rattle.model.specs.Turn.{idle, settled, overran, served_by, passed_over, turned}
use Rattle.model.specs.declared.Fault.{Fault}
use Rattle.model.specs.declared.Pending.{Pending}
use Rattle.model.specs.declared.Reason.{Reason}
use Rattle.model.specs.declared.Refusal.{Refusal}
use Rattle.model.specs.declared.Status.{Status}
use Rattle.model.specs.declared.Turned.{Turned}
use Rattle.model.proofs.Base.{by_cond}
use Rattle.kernelharp.specs.Decode.{refusal_of, reply_of, fault_said, status_said, says_yes, turned_of, completed_of, many_of}
use Rattle.kernelharp.proofs.Kept.{Listed}

-- ---- the answers out of numbers and words

-- no refusal has the number 0
pub numbered : (e : Refusal) → (n : ℕ) × (refusal_number e ≡ suc n)
numbered Refusal.WrongLength = (0, refl)
numbered Refusal.NoPort = (1, refl)
numbered Refusal.NotClosed = (2, refl)
numbered Refusal.IsClosed = (3, refl)
numbered Refusal.InFlight = (4, refl)
numbered Refusal.NotBusy = (5, refl)
numbered Refusal.TooMany = (6, refl)
numbered Refusal.TooFewFrames = (7, refl)
numbered Refusal.TooFewRuns = (8, refl)
numbered Refusal.NoPlan = (9, refl)
numbered Refusal.SheetShape = (10, refl)
numbered Refusal.SheetNodes = (11, refl)
numbered Refusal.SheetText = (12, refl)
numbered Refusal.SheetNumber = (13, refl)
numbered Refusal.SheetMissing = (14, refl)
numbered Refusal.RingFull = (30, refl)
numbered Refusal.IdOutstanding = (31, refl)
numbered Refusal.BadRequest = (32, refl)
numbered Refusal.BadRspProd = (33, refl)
numbered Refusal.NotOutstanding = (34, refl)

refusal-decoded : (e : Refusal) → refusal_of (refusal_number e) ≡ e
refusal-decoded Refusal.WrongLength = refl
refusal-decoded Refusal.NoPort = refl
refusal-decoded Refusal.NotClosed = refl
refusal-decoded Refusal.IsClosed = refl
refusal-decoded Refusal.InFlight = refl
refusal-decoded Refusal.NotBusy = refl
refusal-decoded Refusal.TooMany = refl
refusal-decoded Refusal.TooFewFrames = refl
refusal-decoded Refusal.TooFewRuns = refl
refusal-decoded Refusal.NoPlan = refl
refusal-decoded Refusal.SheetShape = refl
refusal-decoded Refusal.SheetNodes = refl
refusal-decoded Refusal.SheetText = refl
refusal-decoded Refusal.SheetNumber = refl
refusal-decoded Refusal.SheetMissing = refl
refusal-decoded Refusal.RingFull = refl
refusal-decoded Refusal.IdOutstanding = refl
refusal-decoded Refusal.BadRequest = refl
refusal-decoded Refusal.BadRspProd = refl
refusal-decoded Refusal.NotOutstanding = refl

-- and after any other number
refusal-next : (e : Refusal) → refusal_of (suc (numbered e).0) ≡ e
refusal-next e = ap refusal_of (sym (numbered e).1) ∙ refusal-decoded e

pub reply-decoded : (r : Reply) → reply_of (reply_number r) ≡ r
reply-decoded (Ok tt) = refl
reply-decoded (Err e) = rw (numbered e).1 (ap Err (refusal-next e))

yes-decoded : (b : Bool) → says_yes (yes_no b) ≡ b
yes-decoded true = refl
yes-decoded false = refl

status-decoded : (s : Status) → status_said (magnitude s) ≡ s
status-decoded Status.Okay = refl
status-decoded Status.Error = refl
status-decoded Status.NotSupported = refl

pub completed-decoded : (r : CompleteAnswer) (answer words : List ℕ) → Listed 1 r → words ≡ done_left r answer → completed_of (completed_number r) words ≡ r
completed-decoded (none_done e) answer words h w = rw (numbered e).1 (ap none_done (refusal-next e))
completed-decoded (all_done p [] y) answer words h w = absurd (omega (arith, h.0))
completed-decoded (all_done p (z ∷ []) y) answer words h w = rw (w, status-decoded z, yes-decoded y)
completed-decoded (all_done p (z ∷ x ∷ zs) y) answer words h w = absurd (omega (arith, h.0))

-- the words of the statuses in an answer to a list
pub statuses-in : (zs : List Status) → take (length zs) (status_words zs) ≡ magnitudes zs
unfolding status_words
statuses-in zs = take_at (magnitudes zs) (replicate (most_completions - length zs) 0) (length zs) (length-map zs magnitude)

statuses-decoded : (zs : List Status) → map status_said (magnitudes zs) ≡ zs
statuses-decoded [] = refl
statuses-decoded (z ∷ zs) = λ i. status-decoded z i ∷ statuses-decoded zs i

pub many-decoded : (n : ℕ) (r : CompleteAnswer) (answer words : List ℕ) → Listed n r → words ≡ many_left r answer → many_of (completed_number r) words ≡ r
many-decoded n (none_done e) answer words h w = rw (numbered e).1 (ap none_done (refusal-next e))
many-decoded n (all_done p zs y) answer words h w =
    rw (w, yes-decoded y) (ap (λ (l : List Status). all_done p l y) (ap (map status_said) (statuses-in zs) ∙ statuses-decoded zs))

-- a reason and status that go together (rule 8.13)
fault-decoded : (f : Fault) → fault_said (reason_number f.reason) (magnitude f.status) ≡ f
fault-decoded f = go f.reason f.status
  where
    go : (reason : Reason) (s : Status) → fault_said (reason_number reason) (magnitude s) ≡ record { reason = reason; status = s }
    go Reason.UnknownOperation s = ap (λ (z : Status). record { reason = Reason.UnknownOperation; status = z }) (status-decoded s)
    go Reason.FeatureOff s = ap (λ (z : Status). record { reason = Reason.FeatureOff; status = z }) (status-decoded s)
    go Reason.ReadOnly s = ap (λ (z : Status). record { reason = Reason.ReadOnly; status = z }) (status-decoded s)
    go Reason.WrongAmount s = ap (λ (z : Status). record { reason = Reason.WrongAmount; status = z }) (status-decoded s)
    go Reason.WrongSegment s = ap (λ (z : Status). record { reason = Reason.WrongSegment; status = z }) (status-decoded s)
    go Reason.NotGranted s = ap (λ (z : Status). record { reason = Reason.NotGranted; status = z }) (status-decoded s)
    go Reason.PastEnd s = ap (λ (z : Status). record { reason = Reason.PastEnd; status = z }) (status-decoded s)
    go Reason.Unaligned s = ap (λ (z : Status). record { reason = Reason.Unaligned; status = z }) (status-decoded s)

pub turned-decoded : (r : Result Turned Refusal) (answer extents words : List ℕ) → words ≡ turn_left r answer extents → turned_of (turned_number r) words ≡ r
turned-decoded (Err e) answer extents words w = rw (numbered e).1 (ap Err (refusal-next e))
turned-decoded (Ok Turned.Idle) answer extents words w = rw w
turned-decoded (Ok (Turned.Overrun p)) answer extents words w = rw w
turned-decoded (Ok (Turned.Started p t s plan)) answer extents words w = rw (w, yes-decoded plan.secure)
turned-decoded (Ok (Turned.Answered p f y)) answer extents words w = rw (w, fault-decoded f, yes-decoded y)

-- ---- the extents out of the answer

-- of a turn that was done there are 44 words
abbrev pub Long : TurnEffect → Type 0
Long e = turned_number e.answer ≡ 0 → length e.words ≡ 44

settled-long : (v : View) (rings : List ℕ) (k : ℕ) (r : Request) (x : Verdict) → Long (settled v rings k r x)
unfolding settled words_beside
settled-long v rings k r (Err f) = λ _. length-words 11 []
settled-long v rings k r (Ok plan) = λ _. length-words 11 _

served-long : (v : View) (rings grants : List ℕ) (k : ℕ) (x : Pending) → Long (served_by v rings grants k x)
unfolding served_by idle overran
served-long v rings grants k Pending.Nothing = λ _. length-words 11 []
served-long v rings grants k Pending.Waits = settled-long v rings k _ _
served-long v rings grants k Pending.Overrun = λ _. length-words 11 []

pub turn-long : (v : View) (rings grants words : List ℕ) → Long (due_turn v rings grants words)
unfolding due_turn turned idle
turn-long v rings grants words =
    by_cond Long (not (are_rings rings && are_grants grants)) _ _ (λ _ z. absurd (omega arith)) (λ _.
    by_cond Long (ltb (passed_over v rings) ports) _ _ (λ _. served-long v rings grants _ _) (λ _ _. length-words 11 []))

-- the extents in the middle of an answer
pub extents-decoded : (r : Turned) (xs : List ℕ) → length xs ≡ 44 → extents_in (turn_answer (turned_words r) xs) ≡ xs
unfolding part
extents-decoded Turned.Idle xs l = take_at xs (replicate 4 0) 44 l
extents-decoded (Turned.Overrun p) xs l = take_at xs (replicate 4 0) 44 l
extents-decoded (Turned.Started p t s plan) xs l = take_at xs (replicate 4 0) 44 l
extents-decoded (Turned.Answered p f y) xs l = take_at xs (replicate 4 0) 44 l
