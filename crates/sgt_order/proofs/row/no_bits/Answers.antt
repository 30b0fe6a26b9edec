use Rattle.sgt_order.proofs.Covering.{zero_words}
use Rattle.sgt_order.proofs.row.no_bits.Goals as goal

pub returns-in-Ok : goal.returns-in-Ok
returns-in-Ok c = zero_words c.in-Ok.words.items 64 (c.in-Ok.ensures.items_if_clones_equal (λ y same. same))
