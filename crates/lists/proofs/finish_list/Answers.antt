-- `lists::finish_list` meets its contract: the lent part comes back as the pages put, the answer is filled up, and the port's two fields are written. Assumes
-- nothing.
use native.Mathlib.Nat.{add-sub_cancel_left}
use native.Mathlib.Omega.{arith}
use mathlib.Core.Path.{◌≡◌, ap, ◌∙◌}
use mathlib.Core.List.{List}
use Prim.Native.Nat.{ℕ, ◌+◌, ◌-◌, ◌/◌}
use lib.ListN.{length, replicate, length-map}
use lib.Seq.{sets}
use Rattle.wire.specs.Part.{part, set_part}
use Rattle.model.specs.Buffers.{pages_of, set_pages}
use Rattle.model.specs.Calls.{most_completions}
use Rattle.model.specs.Complete.{entry_words, completions_in}
use Rattle.model.specs.Turn.{ResponseDue}
use Rattle.model.proofs.Completions.{length-in}
use Rattle.memory.specs.Backend.{backend_of}
use Rattle.lists.specs.List.{responses_along, statuses_at, statuses_of}
use Rattle.lists.proofs.Ways.{length-along, filled-words, fields-left}
use Rattle.lists.proofs.finish_list.Goals as goal

pub returns : goal.returns
unfolding pages_of set_pages part set_part
returns c =
    let a = c.args in
    let o = c.requires in
    let b = backend_of a.memory.now in
    let k = a.k.index in
    let words = a.entries.now in
    let cs = completions_in words in
    let n = length words / entry_words in
    let zs = statuses_of (responses_along b k cs) in
    let e = c.respond_all-notify.ensures in
    let bytes = c.ring_bytes.ensures.0 a.p.params.abi in
    let long : length a.answer.now ≡ 68 = omega arith in
    let count : length zs ≡ n = length-map (responses_along b k cs) (λ (x : ResponseDue). x.status) ∙ length-along cs b k ∙ length-in words in
    record {
      rings = rw (← o.read, e.page, c.get-base.ensures, add-sub_cancel_left, bytes);
      answer = rw (c.id.ensures, ← o.read, e.notify, c.get-base.ensures, add-sub_cancel_left, bytes);
      filled =
          c.clear_rest.ensures
          ∙ ap (λ (l : List ℕ). sets l (statuses_at + n) (replicate (most_completions - n) 0)) e.answer
          ∙ filled-words a.answer.now zs n long count (omega (arith, o.few));
      memory = fields-left k cs a.p n c.index_after.result a.marks o.read c.index_after.ensures e.memory c.set_produced.ensures c.set_busy_marks.ensures;
    }
