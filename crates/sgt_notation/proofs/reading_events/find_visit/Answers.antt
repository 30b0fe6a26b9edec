use Rattle.std.proofs.Common.{decimal}
use Rattle.sgt_notation.specs.Spelling.{IsSite, IsTx}
use Rattle.sgt_notation.proofs.EventParts.{visit-plain}
use Rattle.sgt_notation.proofs.Pairs.{not_first, not_second, uncut}
use Rattle.sgt_notation.proofs.reading_events.find_visit.Goals as goal

pub returns-in_err-number : goal.returns-in_err-number
returns-in_err-number c =
    rw c.from_residual.ensures (uncut IsTx decimal 64 IsSite decimal visit-plain _ c.in_err-number.ensures.none)

pub returns-in_err-tx : goal.returns-in_err-tx
returns-in_err-tx c =
    rw c.from_residual-in_err-tx.ensures
    (not_first IsTx decimal 64 IsSite decimal visit-plain _ _ _ c.in_ok-number.ensures.some c.in_err-tx.ensures)

pub returns-in_err-site : goal.returns-in_err-site
returns-in_err-site c =
    rw c.from_residual-in_err-site.ensures
    (not_second IsTx decimal 64 IsSite decimal visit-plain _ _ _ c.in_ok-number.ensures.some c.in_err-site.ensures)
