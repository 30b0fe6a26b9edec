use Rattle.std.proofs.Common.{◌∙◌, ap}
use Rattle.sgt_site.specs.private.Cells.{versions_of}
use Rattle.sgt_site.proofs.Fresh.{fresh-rise}
use Rattle.sgt_site.proofs.cells.Cells.new.Goals as goal

pub invariant_of-result : goal.invariant_of-result
invariant_of-result c = record {
  rising = fresh-rise _ _ c.requires c.add_cells.ensures.items;
  counted = c.in_ok-versions.ensures ∙ ap versions_of c.as_slice.ensures.value;
}
