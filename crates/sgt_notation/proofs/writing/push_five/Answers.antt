use Rattle.std.proofs.Common.{◌≡◌, ◌/◌, ◌%◌, ◌+◌, ◌++◌, ◌∷◌, [], arith, ap, ◌∙◌, append_assoc}
use Rattle.std.specs.Fmt.{decimal}
use Rattle.std.proofs.lemmas.Fmt.{decimal_step}
use Rattle.sgt_notation.proofs.writing.push_five.Goals as goal

pub returns-clause-text : goal.returns-clause-text
returns-clause-text c =
    let n = c.args.number in
    let old = c.args.out.now.items in
    let hundreds = decimal (n / 100) in
    let tens = (48 + n / 10 % 10) ∷ [] in
    let ones = (48 + n % 10) ∷ [] in
    let e : n / 10 / 10 ≡ n / 100 = omega arith in
    let small = c.requires.short in
    rw (
      c.push_digit-2.ensures.text,
      c.push_digit.ensures.text,
      c.push_three-2.ensures.text,
      decimal_step n (omega (arith, c.if-number-lt1000.false)) (omega (arith, small)),
      decimal_step (n / 10) (omega (arith, c.if-number-lt1000.false)) (omega (arith, small)),
      e,
    )
    (ap (λ t. t ++ ones) (append_assoc old hundreds tens) ∙ append_assoc old (hundreds ++ tens) ones)
