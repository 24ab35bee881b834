-- What a turn answers can be joined: no plan's extents are refused with 10 (rule 17.20). A disk has fewer than 2^64 sectors, since its node has no room for more.
use Rattle.std.specs.Prelude.{◌≡◌, false, List, Ok, ℕ, ◌<◌, ◌^◌}
use Rattle.model.specs.Plan.{verdict_of, words_beside}
use Rattle.model.specs.Ring.{Layout, request_of}
use Rattle.model.specs.declared.Params.{Params}
use Rattle.model.specs.declared.Plan.{Plan}
use Rattle.runs.specs.Answer.{is_no_plan}

abbrev pub Joinable : Type 0
Joinable = (p : Params) (l : Layout) (grants slot : List ℕ) (plan : Plan) → p.sectors < 2 ^ 64 → verdict_of p grants (request_of l slot) ≡ Ok plan
    → is_no_plan (words_beside (request_of l slot) (Ok plan)) plan.extents ≡ false
