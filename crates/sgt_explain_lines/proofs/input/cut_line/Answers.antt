use Rattle.std.proofs.Common.{◌+◌, ◌∙◌, take, drop}
use Rattle.std.proofs.lemmas.List.{take_rest}
use Rattle.sgt_notation.proofs.Unspelled.{never}
use Rattle.sgt_explain_lines.proofs.Numbering.{line-cut}
use Rattle.sgt_explain_lines.proofs.input.cut_line.Goals as goal

pub returns-in-Some-clause-cut : goal.returns-in-Some-clause-cut
returns-in-Some-clause-cut c = λ line rest none e.
    let bytes = c.args.bytes.now in
    let n = c.in-Some.n in
    let found = c.in-Some.ensures.some in
    let cut = line-cut (take n bytes) line (drop (n + 1) bytes) rest bytes found.1 none found.2 e in
    (cut.0, take_rest bytes (n + 1) ∙ cut.1)

pub returns-in-None-clause-cut : goal.returns-in-None-clause-cut
returns-in-None-clause-cut c = λ line rest none e. absurd (never 10 c.args.bytes.now line rest c.in-None.ensures.none e)

pub returns-in-Some-clause-last : goal.returns-in-Some-clause-last
returns-in-Some-clause-last c = λ none. absurd (never 10 c.args.bytes.now _ _ none c.in-Some.ensures.some.2)
