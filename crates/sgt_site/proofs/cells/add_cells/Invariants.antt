use Rattle.std.proofs.Common.{◌≡◌, ◌+◌, ◌≤◌, length, take, All, vec_len, vec_capacity}
use Rattle.sgt_site.specs.private.Cells.{values_of, IsFresh}
use Rattle.sgt_site.proofs.cells.add_cells.Given as goal

abbrev pub invariant-loop-holding : goal.invariant-loop-holding
invariant-loop-holding l = record {
  same : values_of l.cells.items ≡ take l.holding-index l.items;
  fresh : All IsFresh l.cells.items;
  room : vec_len l.cells + length l.items ≤ vec_capacity l.cells + l.holding-index;
}
