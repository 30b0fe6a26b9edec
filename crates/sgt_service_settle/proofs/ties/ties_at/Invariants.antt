use Rattle.std.proofs.Common.{◌≡◌, take, length}
use Rattle.sgt_service_settle.specs.private.Index.{IsIndexed}
use Rattle.sgt_service_settle.specs.private.Joined.{AreItemLinks}
use Rattle.sgt_service_settle.proofs.Tying.{AreTiedOf}
use Rattle.sgt_service_settle.proofs.ties.ties_at.Given as goal

abbrev pub invariant-loop-one : goal.invariant-loop-one
invariant-loop-one l = record {
  long : length l.rows.items ≡ length l.items;
  links : AreItemLinks (IsIndexed l.index) l.fn.site l.items l.rows.items;
  tied : AreTiedOf l.index (take l.one-index l.edges) l.rows.items l.others.items;
}
