-- What the steps of completing a list ask and say. Entries are taken one after another, each on the memory that those before it left; that this comes to what the
-- rules say of the list as a whole is shown in proofs/Lists.antt.
use Rattle.std.specs.Prelude.{◌≡◌, Bool, false, List, [], ◌∷◌, ◌++◌, map, ℕ, ◌*◌, ◌/◌, ◌≤◌, ◌<◌, ℤ, length, get_or, take, Result, Ok, Err}
use Rattle.std.proofs.lemmas.List.Edits.{sets}
use Rattle.std.specs.Int.{w64}
use Rattle.std.proofs.Common.{to_z}
use Rattle.model.specs.Answers.{magnitudes, status_words}
use Rattle.model.specs.Backend.{Backend, view_of, with_port, with_tag, after_call}
use Rattle.model.specs.Buffers.{pages_of, set_pages}
use Rattle.model.specs.Calls.{Complete, CompleteAnswer, none_done, all_done, most_completions}
use Rattle.model.specs.Complete.{Completion, entry_words, completions_in, status_of}
use Rattle.model.specs.Deeds.{deeds}
use Rattle.model.specs.Port.{is_closed, zero_tag, further}
use Rattle.model.specs.Ring.{Ring, layout_of, ring_for, ring_of, slot_at, rsp_event, set_response}
use Rattle.model.specs.Rules.{effect_due}
use Rattle.model.specs.Turn.{ResponseDue, due_to, written, responded_all, tells}
use Rattle.model.specs.declared.Abi.{Abi}
use Rattle.model.specs.declared.CompletedMany.{CompletedMany}
use Rattle.model.specs.declared.Pages.{Pages}
use Rattle.model.specs.declared.Port.{Port}
use Rattle.model.specs.declared.PortId.{PortId}
use Rattle.model.specs.declared.Refusal.{Refusal}
use Rattle.model.specs.declared.Status.{Status}
use Rattle.model.specs.declared.Tag.{Tag}
use Rattle.memory.specs.Backend.{backend_of, Becomes}
use Rattle.memory.specs.Layout.{tags}

-- the response that a tag and a result come to
abbrev pub due_for : Tag → ℤ → ResponseDue
due_for x result = due_to x.pair (status_of x.expected result)

-- those of the entries, each by its tag as the entries before it leave it
unfoldable pub responses_along : Backend → ℕ → List Completion → List ResponseDue
responses_along b k [] = []
responses_along b k (c ∷ cs) = due_for (b.tag k c.tag.0) c.result ∷ responses_along (with_tag b k c.tag.0 zero_tag) k cs

-- the backend with the tags of the entries zeroed
unfoldable pub emptied : Backend → ℕ → List Completion → Backend
emptied b k [] = b
emptied b k (c ∷ cs) = emptied (with_tag b k c.tag.0 zero_tag) k cs

-- tag t's request has its response in the slot of an index, and the tag is zeroed
pub record EntryFinished (m before : List ℕ) (k : ℕ) (abi : Abi) (pages : Pages) (index t result : ℕ) (put : List ℕ) (s : Status) (left : List ℕ) : Type 0 where
  pub status : s ≡ status_of ((backend_of m).tag k t).expected (to_z w64 result)
  pub page : put ≡ set_response (layout_of abi) before (slot_at (ring_for abi pages) index) ((backend_of m).tag k t).pair s
  pub memory : Becomes m (with_tag (backend_of m) k t zero_tag) left

-- every entry names a tag that there is
abbrev pub TagsNamed : List ℕ → Type 0
TagsNamed words = (i : ℕ) → i < length words / entry_words → get_or words (entry_words * i) 0 < tags

-- where the statuses stand in the answer
abbrev pub statuses_at : ℕ
statuses_at = 4

abbrev pub statuses_of : List ResponseDue → List Status
statuses_of xs = map (λ x. x.status) xs

-- every entry has its response in the ring's pages and its status in the answer, and its tag is zeroed
pub record AllFinished (m before : List ℕ) (k : ℕ) (g : Ring) (produced : ℕ) (words lent put filled left : List ℕ) : Type 0 where
  pub page : put ≡ written g before produced (responses_along (backend_of m) k (completions_in words))
  pub answer : filled ≡ sets lent statuses_at (magnitudes (statuses_of (responses_along (backend_of m) k (completions_in words))))
  pub memory : Becomes m (emptied (backend_of m) k (completions_in words)) left

-- and rsp_prod says so
pub record AllResponded (m before : List ℕ) (k : ℕ) (g : Ring) (produced : ℕ) (words lent put filled left : List ℕ) (told : Bool) : Type 0 where
  pub page : put ≡ responded_all g before produced (responses_along (backend_of m) k (completions_in words))
  pub notify : told ≡ tells produced (length words / entry_words) (rsp_event before)
  pub answer : filled ≡ sets lent statuses_at (magnitudes (statuses_of (responses_along (backend_of m) k (completions_in words))))
  pub memory : Becomes m (emptied (backend_of m) k (completions_in words)) left

-- the port with so many responses more, and these marks
abbrev pub port_with : Port → ℕ → ℕ → Port
port_with p n marks = record { state = p.state; params = p.params; consumed = p.consumed; produced = further p.produced n; busy = marks }

-- A list of some entries, whose tags there are, on port k, which is open or broken.
pub record ListTaken (b : Backend) (k : ℕ) (p : Port) (words : List ℕ) : Type 0 where
  pub in_use : is_closed (b.port k).state ≡ false
  pub read : p ≡ b.port k
  pub some : 0 < length words / entry_words
  pub few : length words ≤ entry_words * most_completions
  pub tagged : TagsNamed words

-- it is answered, and these marks are left
pub record ListFinished (m before : List ℕ) (port : PortId) (marks : ℕ) (words lent put : List ℕ) (r : CompletedMany) (after left : List ℕ) : Type 0 where
  pub rings :
      put ≡ (let p = (backend_of m).port port.0 in let g = ring_of p.params in
      set_pages g before port.0 (responded_all g (pages_of g before port.0) p.produced (responses_along (backend_of m) port.0 (completions_in words))))
  pub answer :
      r ≡ (let p = (backend_of m).port port.0 in
      record { port = port; notify = tells p.produced (length words / entry_words) (rsp_event (pages_of (ring_of p.params) before port.0)) })
  pub filled : after ≡ take statuses_at lent ++ status_words (statuses_of (responses_along (backend_of m) port.0 (completions_in words)))
  pub memory :
      Becomes m (with_port (emptied (backend_of m) port.0 (completions_in words)) port.0
      (port_with ((backend_of m).port port.0) (length words / entry_words) marks)) left

-- ---- the call

-- the answer without its statuses,
abbrev pub many_of : CompleteAnswer → Result CompletedMany Refusal
many_of (none_done e) = Err e
many_of (all_done p zs y) = Ok (record { port = p; notify = y })

-- which stand in the words lent for it: a refusal leaves them
abbrev pub many_filled : CompleteAnswer → List ℕ → List ℕ
many_filled (none_done e) lent = lent
many_filled (all_done p zs y) lent = take statuses_at lent ++ status_words zs

-- What it promises: as every call (crates/memory/specs/Promise.antt), with its answer in two parts.
pub record ManyPromised (m before : List ℕ) (port : PortId) (words lent put : List ℕ) (r : Result CompletedMany Refusal) (after left : List ℕ) : Type 0 where
  pub rings : put ≡ (effect_due (view_of (backend_of m)) (Complete before port words)).rings
  pub answer : r ≡ many_of (effect_due (view_of (backend_of m)) (Complete before port words)).answer
  pub filled : after ≡ many_filled (effect_due (view_of (backend_of m)) (Complete before port words)).answer lent
  pub memory : Becomes m (after_call (backend_of m) (Complete before port words)) left
  pub still : deeds (Complete before port words) (effect_due (view_of (backend_of m)) (Complete before port words)) ≡ [] → left ≡ m
