use Rattle.std.proofs.Common.{◌≡◌, ◌∙◌, sym, ap, arith, decimal}
use Rattle.std.proofs.lemmas.Fmt.{parse-decimal}
use Rattle.std.proofs.lemmas.Bool.{false≢true}
use Rattle.std.proofs.lemmas.Slice.Eq.{bytes_eq-Decides}
use Rattle.sgt_history_text.proofs.whole.whole.Goals as goal

pub returns-in_default : goal.returns-in_default
returns-in_default c = λ (n, fits, e).
    c.in_default.not-Ok n
    (parse-decimal 64 n c.args.text.now c.parse.result (omega arith) fits e c.parse.ensures.value.0)

pub returns-else-eq : goal.returns-else-eq
returns-else-eq c = λ (n, fits, e).
    let r = parse-decimal 64 n c.args.text.now c.parse.result (omega arith) fits e c.parse.ensures.value.0 in
    let same : n ≡ c.in-Ok.n = cc in
    let text : c.format.result.now ≡ c.args.text.now = c.format.ensures.text ∙ ap decimal (sym same) ∙ sym e in
    false≢true (sym c.if-eq.false ∙ c.eq.ensures ∙ (bytes_eq-Decides c.format.result.now c.args.text.now).1 text)
