-- `contents::Table::of` meets its contract: what is read by four bytes each is what the model reads. Assumes nothing.
use Rattle.model.specs.NodeSheet.{entry_at}
use Rattle.contents.proofs.Entries.{table_entries, table_ends, table_bytes}
use Rattle.contents.proofs.Table.of.Goals as goal
use native.Mathlib.Omega.{arith}

pub returns-clause-entries : goal.returns-clause-entries
returns-clause-entries c =
    table_entries c.args.sheet.now _ _ _ _ c.entry_count.ensures c.split_at.ensures.front c.split_at.ensures.front_len c.as_chunks.ensures.front c.split_at.ensures.back

pub returns-clause-end : goal.returns-clause-end
returns-clause-end c =
    table_ends c.args.sheet.now _ c.split_at.result.1.now _ _ c.entry_count.ensures c.split_at.ensures.front c.split_at.ensures.front_len c.as_chunks.ensures.front

pub returns-clause-bytes : goal.returns-clause-bytes
returns-clause-bytes c =
    table_bytes c.args.sheet.now _ c.split_at.result.1.now _ _ c.entry_count.ensures c.split_at.ensures.front c.split_at.ensures.front_len c.as_chunks.ensures.front

pub returns-clause-whole : goal.returns-clause-whole
unfolding entry_at
returns-clause-whole c = omega arith
