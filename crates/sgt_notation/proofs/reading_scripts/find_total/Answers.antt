use Rattle.std.proofs.Common.{decimal}
use Rattle.sgt_notation.specs.PrivateEvents.{IsPlace, place_text}
use Rattle.sgt_notation.specs.Spelling.{IsValue}
use Rattle.sgt_notation.proofs.Pairs.{not_first, not_second, uncut}
use Rattle.sgt_notation.proofs.ScriptParts.{total-plain}
use Rattle.sgt_notation.proofs.reading_scripts.find_total.Goals as goal

pub returns-in_err-source : goal.returns-in_err-source
returns-in_err-source c =
    rw c.from_residual.ensures (uncut IsPlace place_text 43 IsValue decimal total-plain _ c.in_err-source.ensures.none)

pub returns-in_err-place : goal.returns-in_err-place
returns-in_err-place c =
    rw c.from_residual-in_err-place.ensures
    (not_first IsPlace place_text 43 IsValue decimal total-plain _ _ _ c.in_ok-source.ensures.some
    c.in_err-place.ensures)

pub returns-in_err-value : goal.returns-in_err-value
returns-in_err-value c =
    rw c.from_residual-in_err-value.ensures
    (not_second IsPlace place_text 43 IsValue decimal total-plain _ _ _ c.in_ok-source.ensures.some
    c.in_err-value.ensures)
