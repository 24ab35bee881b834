-- What the bodies of a sheet say, as the function over them hands it on.
use Rattle.std.specs.Prelude.{◌≡◌, true, List, ℕ, Result, Ok, Err, length, get_or, sum_by}
use Rattle.model.specs.NodeSheet.{Entry, Sheet, rising, after_bodies, values_of}
use Rattle.model.specs.declared.Refusal.{Refusal}
use Rattle.contents.specs.Contents.{length_of, entries_in}

-- a sheet that neither 11 nor 12 refuses, by its entries and bodies (rules 7.11 and 7.12)
pub record Readable (entries : List (List ℕ)) (bodies : List ℕ) : Type 0 where
  pub whole : sum_by length_of entries ≡ length bodies
  pub risen : rising 0 (entries_in entries bodies) ≡ true

-- no body is at fault, and these are the nodes' values (rule 3.11)
pub record AllRead (es : List Entry) (values : List ℕ) : Type 0 where
  pub after : (then : Sheet) → after_bodies es then ≡ then
  pub value : (node : ℕ) → get_or values node 0 ≡ values_of es node

-- the nodes' values, or the first fault of the entries' bodies, whatever would be said after it (rule 3.11)
abbrev pub BodiesRead : List Entry → Result (List ℕ) Refusal → Type 0
BodiesRead es (Ok values) = AllRead es values
BodiesRead es (Err e) = (then : Sheet) → after_bodies es then ≡ Err e
