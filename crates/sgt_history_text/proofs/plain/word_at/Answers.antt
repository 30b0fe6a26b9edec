use Rattle.std.proofs.Common.{sym, subst, arith}
use Rattle.std.proofs.lemmas.List.{take_all, take_more}
use Rattle.sgt_notation.specs.Private.{Spans}
use Rattle.sgt_history_text.proofs.PlainTexts.{spans_then}
use Rattle.sgt_history_text.proofs.Written.{spans_none}
use Rattle.sgt_history_text.proofs.plain.word_at.Goals as goal

pub loop-byte-init : goal.loop-byte-init
loop-byte-init c = spans_none c.args.bytes.now c.args.from c.if-from-bytes.false

pub loop-byte-preserved : goal.loop-byte-preserved
loop-byte-preserved c =
    subst (λ t. Spans c.args.bytes.now c.args.from t c.in_ok-at.at)
    (sym (take_more c.args.word.now c.loop-byte.byte-index 0 (omega arith)))
    (spans_then c.args.bytes.now _ _ c.args.from c.loop-byte.at c.in_ok-at.at c.loop-byte.invariant c.in_ok-at.ensures)

pub returns : goal.returns
returns c =
    subst (λ t. Spans c.args.bytes.now c.args.from t c.loop-byte.at)
    (take_all c.loop-byte.byte-index c.args.word.now c.loop-byte-test.false) c.loop-byte.invariant
