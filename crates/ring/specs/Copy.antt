-- Bytes copied from one list into another, and a request copied out of its slot.
use Rattle.std.specs.Prelude.{◌≡◌, ℕ, ◌+◌, ◌<◌, ◌≤◌, List, ◌≢◌, slice_index}
use Rattle.model.specs.Ring.{Layout, head_size}
use Rattle.layout.specs.Copy.{copy_layout}

-- n bytes of the source, from a place on, stand in what is left, and its other bytes are as before
pub record Copied (n : ℕ) (source : List ℕ) (from : ℕ) (before : List ℕ) (to : ℕ) (left : List ℕ) : Type 0 where
  pub there : (i : ℕ) → i < n → slice_index left (to + i) ≡ slice_index source (from + i)
  pub kept : (j : ℕ) → ((i : ℕ) → i < n → j ≢ to + i) → slice_index left j ≡ slice_index before j

-- every byte of a request's copy: those up to the handle as the slot has them, zeros, and from the id on those of the
-- slot from its own id on
pub record CopyOf (l : Layout) (slot copy : List ℕ) : Type 0 where
  pub head : (i : ℕ) → i < head_size → slice_index copy i ≡ slice_index slot i
  pub gap : (i : ℕ) → head_size ≤ i → i < copy_layout.id_at → slice_index copy i ≡ 0
  pub rest : (i : ℕ) → slice_index copy (copy_layout.id_at + i) ≡ slice_index slot (l.id_at + i)
