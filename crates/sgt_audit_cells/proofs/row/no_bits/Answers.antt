use Rattle.sgt_audit_cells.proofs.Rows.{zero_words}
use Rattle.sgt_audit_cells.proofs.row.no_bits.Goals as goal

pub returns : goal.returns
returns c = zero_words c.in_ok-words.words.items 16 (c.in_ok-words.ensures.items_if_clones_equal (λ y same. same))
