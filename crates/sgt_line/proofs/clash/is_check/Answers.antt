use Rattle.std.proofs.Common.{◌∙◌, codes, sym}
use Rattle.sgt_line.proofs.Clashing.{first_is}
use Rattle.sgt_line.proofs.clash.is_check.Goals as goal

pub returns-in-Some : goal.returns-in-Some
returns-in-Some c =
    first_is _ _ c.in-Some.word.now (codes "check") _ (sym (rw c.as_slice.ensures.value at c.behind_first.ensures) ∙ c.in-Some.ensures) c.is.ensures
