use Rattle.std.proofs.Common.{sym, ◌∙◌, subst, arith, decimal}
use Rattle.std.specs.Str.{IsUtf8}
use Rattle.std.proofs.lemmas.Fmt.{IsAscii-decimal, parse-decimal}
use Rattle.std.proofs.lemmas.Str.{IsUtf8-from_ascii}
use Rattle.sgt_check.proofs.key.number_in.Goals as goal

pub returns-in_default-clause-value : goal.returns-in_default-clause-value
returns-in_default-clause-value c = λ n fits e.
    absurd (c.in_default.ensures.cases.0 (subst IsUtf8 (sym e)
    (IsUtf8-from_ascii (decimal n) (IsAscii-decimal n fits))))

pub returns-in-Ok-parse-clause-value : goal.returns-in-Ok-parse-clause-value
returns-in-Ok-parse-clause-value c = λ n fits e.
    let r = parse-decimal 64 n c.in-Ok.text.now c.parse.result (omega arith) fits (c.in-Ok.ensures.cases.0 ∙ e)
    c.parse.ensures.value.0 in
    let same = sym c.in-Ok-parse.is ∙ r in cc

pub returns-in-Err-clause-value : goal.returns-in-Err-clause-value
returns-in-Err-clause-value c = λ n fits e.
    let r = parse-decimal 64 n c.in-Ok.text.now c.parse.result (omega arith) fits (c.in-Ok.ensures.cases.0 ∙ e)
    c.parse.ensures.value.0 in
    let none = sym c.in-Err.is ∙ r in absurd cc
