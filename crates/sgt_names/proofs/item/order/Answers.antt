use Rattle.std.proofs.Common.{◌∙◌}
use Rattle.sgt_names.proofs.BigEndian.{order_of_backs, order_of_fronts}
use Rattle.sgt_names.proofs.item.order.Goals as goal

pub returns-in-Equal : goal.returns-in-Equal
returns-in-Equal c =
    c.cmp-in-Equal.ensures
    ∙ order_of_backs c.args.bytes.now c.args.others.now _ _ _ _ _ c.told-bytes c.told-others c.fits-bytes c.fits-others
    c.front_and_back-front.ensures.front c.front_and_back-front.ensures.back
    c.front_and_back-other_front.ensures.front c.front_and_back-other_front.ensures.back
    c.cmp.ensures c.in-Equal.is

pub returns-in_default : goal.returns-in_default
returns-in_default c =
    order_of_fronts c.args.bytes.now c.args.others.now _ _ _ _ _ c.told-bytes c.told-others c.fits-bytes c.fits-others
    c.front_and_back-front.ensures.front c.front_and_back-front.ensures.back
    c.front_and_back-other_front.ensures.front c.front_and_back-other_front.ensures.back
    c.cmp.ensures c.in_default.not-Equal
