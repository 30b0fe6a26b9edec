use Rattle.std.proofs.Common.{[], ◌∷◌, subst}
use Rattle.sgt_notation.specs.Private.{Spans}
use Rattle.sgt_history_text.proofs.PlainTexts.{short_text, spans_then}
use Rattle.sgt_history_text.proofs.escapes.short_at.Goals as goal

pub returns : goal.returns
returns c = (
  c.byte_by.result,
  subst (λ t. Spans c.args.bytes.now c.args.from t c.in_ok-to.to)
      (short_text c.byte_by.result c.letter_of-letter.result c.letter_of-letter.ensures c.if-letter-eq0.false)
      (spans_then c.args.bytes.now (92 ∷ []) _ c.args.from c.in_ok-at.at c.in_ok-to.to c.in_ok-at.ensures
      c.in_ok-to.ensures),
)
