use Rattle.std.proofs.Common.{Some, subst}
use Rattle.std.specs.Prelude.{◌≡◌, slice_get}
use Rattle.sgt_site.proofs.Found.{named_at}
use Rattle.sgt_site.proofs.site.blocks.push_known.Goals as goal

pub push-requires-clause-placed : goal.push-requires-clause-placed
push-requires-clause-placed c = (
  c.args.item,
  c.requires.item,
  subst (λ xs. slice_get xs c.in-Some.place ≡ Some c.args.item) c.requires.listed
      (named_at c.args.cells.now c.args.item c.in-Some.place c.in-Some.ensures.found),
)
