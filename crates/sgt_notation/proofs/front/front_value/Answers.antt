use Rattle.std.proofs.Common.{◌∙◌, inl, inr, arith}
use Rattle.sgt_notation.proofs.ShortNumbers.{short_number}
use Rattle.sgt_notation.proofs.front.front_value.Goals as goal

pub returns-then-n-eq1 : goal.returns-then-n-eq1
returns-then-n-eq1 c =
    short_number c.args.bytes.now c.in-Some.chunk.now _ _ (λ k. (c.type_inv.bytes k).fits) c.in-Some.ensures.cases
    (λ xs eight is few. c.up_to_seven-n.ensures.read xs eight (c.from_le_bytes.ensures ∙ is) few)
    (omega (arith, c.if-n-eq0.false)) c.if-n-lt8.true
    (elim c.if-n-eq1.either [
      | inl other ↦ λ zero. absurd (other zero)
      | inr both ↦ λ zero. omega (arith, both.1)
    ])
