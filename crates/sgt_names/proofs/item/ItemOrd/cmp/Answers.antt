use Rattle.std.proofs.Common.{◌∙◌, ap₂}
use Rattle.std.specs.Ordering.{nat_cmp}
use Rattle.std.specs.Cmp.Lexicographic.{slice_cmp}
use Rattle.sgt_names.proofs.Stored.{stored-order}
use Rattle.sgt_names.proofs.item.ItemOrd.cmp.Goals as goal

pub returns : goal.returns
returns c = c.order.ensures ∙ stored-order _ _ c.self.invariant c.other.invariant
    ∙ ap₂ (slice_cmp nat_cmp) c.self.view_is c.other.view_is
