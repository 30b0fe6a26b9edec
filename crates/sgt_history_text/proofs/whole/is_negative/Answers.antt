use Rattle.std.proofs.Common.{◌≡◌, ◌∙◌, ◌∷◌, ap, arith, decimal}
use Rattle.std.proofs.lemmas.Fmt.{decimal_injective}
use Rattle.sgt_history_text.proofs.whole.is_negative.Goals as goal

pub returns : goal.returns
returns c =
    let n = c.in-Some-whole.n in
    let text = c.in-Some.ensures ∙ ap (λ l. 45 ∷ l) c.in-Some-whole.ensures in (
      λ h. (let b = c.is_within.ensures.0 h in (n, omega arith, omega arith, text)),
      λ (m, above, most, e). (let digits : decimal n ≡ decimal m = cc in
          let same = decimal_injective n m (omega arith) (omega arith) digits in
          c.is_within.ensures.1 (omega arith, omega arith)),
    )
