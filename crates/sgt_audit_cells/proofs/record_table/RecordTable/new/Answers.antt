use Rattle.std.proofs.Common.{◌∙◌}
use Rattle.std.proofs.lemmas.List.{length-map}
use Rattle.sgt_audit_cells.proofs.record_table.RecordTable.new.Goals as goal

pub returns : goal.returns
returns c = length-map c.in_ok-slots.slots.items _ ∙ c.in_ok-slots.ensures.len
