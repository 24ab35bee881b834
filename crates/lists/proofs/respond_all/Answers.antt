-- `lists::respond_all` meets its contract: the responses, and then rsp_prod; rsp_event is as it was.
use native.Mathlib.Omega.{arith}
use mathlib.Core.Path.{◌∙◌, ap}
use mathlib.Core.List.{List}
use Prim.Native.Nat.{ℕ, ◌/◌}
use lib.ListN.{length}
use Rattle.model.specs.Complete.{entry_words, completions_in}
use Rattle.model.specs.Port.{further}
use Rattle.model.specs.Ring.{ring_of, rsp_event, set_rsp_prod}
use Rattle.model.specs.Turn.{tells}
use Rattle.model.proofs.Completions.{length-in}
use Rattle.model.proofs.Ring.{fits-for, header-room}
use Rattle.memory.specs.Backend.{backend_of}
use Rattle.lists.specs.List.{responses_along}
use Rattle.lists.proofs.Ways.{length-along, published, event-written}
use Rattle.lists.proofs.respond_all.Goals as goal

pub publish-requires : goal.publish-requires
publish-requires c =
    let a = c.args in
    omega (arith, header-room (ring_of a.p.params) (fits-for a.p.params.abi a.p.params.pages))

pub returns : goal.returns
returns c =
    let a = c.args in
    let g = ring_of a.p.params in
    let words = a.entries.now in
    let n = length words / entry_words in
    let xs = responses_along (backend_of a.memory.now) a.k.index (completions_in words) in
    let e = c.finish_all.ensures in
    record {
      page =
          c.publish.ensures.page
          ∙ ap (λ (p : List ℕ). set_rsp_prod p (further a.p.produced n)) e.page
          ∙ published g a.page.now a.p.produced n xs (length-along (completions_in words) (backend_of a.memory.now) a.k.index ∙ length-in words) c.requires.1;
      notify =
          c.publish.ensures.notify
          ∙ ap (λ (p : List ℕ). tells a.p.produced n (rsp_event p)) e.page
          ∙ ap (tells a.p.produced n) (event-written g (fits-for a.p.params.abi a.p.params.pages) xs a.page.now a.p.produced);
      answer = e.answer;
      memory = e.memory;
    }
