use Rattle.std.proofs.Common.{decimal}
use Rattle.sgt_notation.specs.PrivateEvents.{IsAccess, access_text}
use Rattle.sgt_notation.specs.Spelling.{IsValue}
use Rattle.sgt_notation.proofs.EventParts.{access-plain}
use Rattle.sgt_notation.proofs.Pairs.{not_first, not_second, uncut}
use Rattle.sgt_notation.proofs.reading_events.cut_update.Goals as goal

pub returns-in_err-front : goal.returns-in_err-front
returns-in_err-front c =
    rw c.from_residual.ensures
    (uncut IsAccess access_text 61 IsValue decimal access-plain _ c.in_err-front.ensures.none)

pub returns-in_err-access : goal.returns-in_err-access
returns-in_err-access c =
    rw c.from_residual-in_err-access.ensures
    (not_first IsAccess access_text 61 IsValue decimal access-plain _ _ _ c.in_ok-front.ensures.some
    c.in_err-access.ensures)

pub returns-in_err-value : goal.returns-in_err-value
returns-in_err-value c =
    rw c.from_residual-in_err-value.ensures
    (not_second IsAccess access_text 61 IsValue decimal access-plain _ _ _ c.in_ok-front.ensures.some
    c.in_err-value.ensures)
