use Rattle.sgt_line.proofs.Finding.{the_other}
use Rattle.sgt_line.proofs.clash.writes_over_input.Goals as goal

pub returns-else-is_among : goal.returns-else-is_among
returns-else-is_among c =
    the_other _ _ _ _ c.if-is_among.false (rw c.as_slice-files.ensures.value at c.is_among.ensures)
    (rw c.as_slice-files.ensures.value at c.is_among-else-is_among.ensures)
