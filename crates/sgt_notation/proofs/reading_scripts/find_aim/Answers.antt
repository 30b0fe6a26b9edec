use Rattle.sgt_notation.specs.PrivateEvents.{IsPlace, place_text}
use Rattle.sgt_notation.specs.PrivateScripts.{IsTail, tail_text}
use Rattle.sgt_notation.proofs.EventParts.{closed-plain}
use Rattle.sgt_notation.proofs.Pairs.{not_first, not_second, uncut}
use Rattle.sgt_notation.proofs.ScriptParts.{aim-inside}
use Rattle.sgt_notation.proofs.reading_scripts.find_aim.Goals as goal

pub returns-in_err-front : goal.returns-in_err-front
returns-in_err-front c =
    rw c.from_residual-in_err-front.ensures
    (aim-inside _ _ _ c.in_ok-bracket.ensures.cases.0
    (uncut IsPlace place_text 93 IsTail tail_text closed-plain _ c.in_err-front.ensures.none))

pub returns-in_err-place : goal.returns-in_err-place
returns-in_err-place c =
    rw c.from_residual-in_err-place.ensures
    (aim-inside _ _ _ c.in_ok-bracket.ensures.cases.0
    (not_first IsPlace place_text 93 IsTail tail_text closed-plain _ _ _ c.in_ok-front.ensures.some
    c.in_err-place.ensures))

pub returns-in_err-tail : goal.returns-in_err-tail
returns-in_err-tail c =
    rw c.from_residual-in_err-tail.ensures
    (aim-inside _ _ _ c.in_ok-bracket.ensures.cases.0
    (not_second IsPlace place_text 93 IsTail tail_text closed-plain _ _ _ c.in_ok-front.ensures.some
    c.in_err-tail.ensures))
