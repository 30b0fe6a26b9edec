use Rattle.std.proofs.Common.{◌≤◌, ◌++◌, ◌∷◌, length, ap, ◌∙◌, rules, arith}
use Rattle.std.specs.Fmt.{decimal}
use Rattle.std.proofs.Math.ListN.{drop_of_length-le}
use Rattle.std.proofs.lemmas.Fmt.{length-decimal-le}
use Rattle.sgt_notation.proofs.line.put_last_number.Goals as goal

pub write_digits-requires : goal.write_digits-requires
write_digits-requires c = search (rules, length-decimal-le 20)

pub returns-clause-start : goal.returns-clause-start
returns-clause-start c =
    let short : length (decimal c.args.number) ≤ 20 = search (rules, length-decimal-le 20) in
    (omega (arith, short), omega arith)

pub returns-clause-put : goal.returns-clause-put
returns-clause-put c =
    let whole : length c.args.line.now ≤ 64 = omega arith in
    c.write_digits.ensures.written ∙ ap (λ xs. decimal c.args.number ++ xs) (c.put_byte-at.ensures.put
    ∙ ap (λ xs. 10 ∷ xs) (drop_of_length-le c.args.line.now whole))
