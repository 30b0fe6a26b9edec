use Rattle.sgt_notation.proofs.Fronts.{spans_word}
use Rattle.sgt_notation.proofs.front.word_at.Goals as goal

pub returns : goal.returns
returns c = spans_word c.args.bytes.now c.args.from c.args.word.now _ _ c.in_ok-rest.ensures.0 c.in_ok-rest.ensures.1
    c.in_ok-_last.ensures
