use Rattle.sgt_names.proofs.Halves.{same_halves}
use Rattle.sgt_names.proofs.item.are_same.Goals as goal

pub returns : goal.returns
returns c =
    same_halves c.args.bytes.now c.args.others.now _ _ _ _ c.told-bytes c.told-others c.fits-bytes c.fits-others
    c.halves-front.ensures.front c.halves-front.ensures.back
    c.halves-other_front.ensures.front c.halves-other_front.ensures.back
