use Rattle.std.proofs.Common.{sym, ◌∙◌, arith}
use Rattle.std.proofs.lemmas.Bool.{eqb-false}
use Rattle.sgt_notation.proofs.Fronts.{front_number}
use Rattle.sgt_notation.proofs.front.other_value.Goals as goal
use Rattle.sgt_notation.proofs.front.other_value.Goals.{then-n-gt1, else-n-gt1}

pub returns : goal.returns
returns c =
    let read = c.read_digits-n.ensures in
    front_number c.args.bytes.now _ _ _ (omega (arith, read.end)) read.value (omega arith) c.if-n-gt19.false read.within
    (elim c.if-n-gt1.branch [
      | then-n-gt1 w ↦ λ z. absurd (eqb-false _ 48 (sym w.value-is ∙ c.if-bytes-eq48.false) z)
      | else-n-gt1 w ↦ λ _. w.if-n-gt1.false
    ])
