use Rattle.std.proofs.Common.{[], ◌∷◌, ◌∙◌, ap₂, subst, sym}
use Rattle.sgt_notation.specs.Private.{Spans}
use Rattle.sgt_history_text.proofs.PlainTexts.{long_text, spans_then}
use Rattle.sgt_history_text.proofs.escapes.long_at.Goals as goal

pub returns : goal.returns
returns c =
    let byte = c.byte_with-byte.result in (
      byte,
      subst (λ t. Spans c.args.bytes.now c.args.from t c.in_ok-to.to)
          (ap₂ (λ x y. 92 ∷ 117 ∷ 48 ∷ 48 ∷ x ∷ y ∷ []) c.digit.ensures c.digit-2.ensures
          ∙ long_text byte c.byte_with-byte.ensures (sym c.letter_of.ensures ∙ c.if-letter_of-ne0.false))
          (spans_then c.args.bytes.now (92 ∷ 117 ∷ 48 ∷ 48 ∷ []) _ c.args.from c.in_ok-at.at c.in_ok-to.to
          c.in_ok-at.ensures
          (spans_then c.args.bytes.now (c.digit.result ∷ []) (c.digit-2.result ∷ []) c.in_ok-at.at c.in_ok-at-2.at
          c.in_ok-to.to c.in_ok-at-2.ensures c.in_ok-to.ensures)),
    )
