use Rattle.std.specs.Prelude.{◌++◌}
use Rattle.sgt_notation.specs.Private.{ending}
use Rattle.sgt_notation.specs.Spelling.{IsLine, line_text}
use Rattle.sgt_notation.proofs.Fronts.{room_found}
use Rattle.sgt_notation.proofs.front.roomy_word.Goals as goal

pub returns-in-Some : goal.returns-in-Some
returns-in-Some c =
    room_found IsLine (λ l. line_text l ++ ending c.args.wants_lf) c.args.bytes.now _ 64 c.ended_word.result
    c.in-Some.ensures.cases c.ended_word.ensures
