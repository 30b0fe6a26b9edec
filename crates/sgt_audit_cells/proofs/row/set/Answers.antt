use Rattle.sgt_audit_cells.proofs.Rows.{bit_set}
use Rattle.sgt_audit_cells.proofs.row.set.Goals as goal

pub returns : goal.returns
returns c = bit_set c.args.words.now c.args.at c.requires
