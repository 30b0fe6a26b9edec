use Rattle.std.proofs.Common.{sym, ◌∙◌}
use Rattle.sgt_notation.proofs.ScriptWords.{partly-all, partly-next, partly-no_op}
use Rattle.sgt_notation.proofs.SiteWords.{behind-none, behind-some, pushed, smaller}
use Rattle.sgt_notation.proofs.reading_scripts.keep_ops.Goals as goal

pub returns-in_err-op-clause-none : goal.returns-in_err-op-clause-none
returns-in_err-op-clause-none c =
    let left = behind-some _ _ c.in-Some.is ∙ c.first_word.ensures.words in
    rw c.from_residual.ensures (partly-no_op c.words.invariant _ _ left c.in_err-op.ensures)

pub words-smaller : goal.words-smaller
words-smaller c = smaller _ _ _ c.in-Some.is c.first_word.ensures.shorter

pub words-preserved-then-is_err : goal.words-preserved-then-is_err
words-preserved-then-is_err c =
    let left = behind-some _ _ c.in-Some.is ∙ c.first_word.ensures.words in
    partly-next c.words.invariant _ _ left c.in_ok-op.op c.in_ok-op.ensures.0 c.in_ok-op.ensures.1 _ _ (λ k. absurd cc)

pub words-preserved : goal.words-preserved
words-preserved c =
    let left = behind-some _ _ c.in-Some.is ∙ c.first_word.ensures.words in
    let ok = sym c.is_err.ensures.value ∙ c.if-is_err.false in
    partly-next c.words.invariant _ _ left c.in_ok-op.op c.in_ok-op.ensures.0 c.in_ok-op.ensures.1 _ _
    (λ k. (k, pushed c.push.result _ _ _ c.push.ensures.items ok))

pub returns-clause-some : goal.returns-clause-some
returns-clause-some c = partly-all c.words.invariant (behind-none _ c.in_default.is)
