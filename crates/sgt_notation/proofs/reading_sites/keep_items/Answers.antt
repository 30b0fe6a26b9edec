use Rattle.std.proofs.Common.{sym, ◌∙◌}
use Rattle.sgt_notation.proofs.SiteWords.{behind-none, behind-some}
use Rattle.sgt_notation.proofs.SiteWords.{partly-all, partly-next, partly-no_item, partly-no_more, pushed, smaller}
use Rattle.sgt_notation.proofs.reading_sites.keep_items.Goals.{then-is_err, else-is_err}
use Rattle.sgt_notation.proofs.reading_sites.keep_items.Goals as goal

pub returns-in_err-holding-clause-none : goal.returns-in_err-holding-clause-none
returns-in_err-holding-clause-none c =
    let left = behind-some _ _ c.in-Some.is ∙ c.first_word.ensures.words in
    rw c.from_residual.ensures (partly-no_item c.words.invariant _ _ left c.in_err-holding.ensures)

pub returns-then-not-may_follow-clause-none : goal.returns-then-not-may_follow-clause-none
returns-then-not-may_follow-clause-none c =
    let left = behind-some _ _ c.in-Some.is ∙ c.first_word.ensures.words in
    partly-no_more c.words.invariant _ _ left c.in_ok-holding.holding c.in_ok-holding.ensures.0
    c.in_ok-holding.ensures.1
    (λ may. let t = c.may_follow.ensures.1 may in let f = c.if-not-may_follow.true in cc)

pub words-smaller : goal.words-smaller
words-smaller c = smaller _ _ _ c.in-Some.is c.first_word.ensures.shorter

pub words-preserved : goal.words-preserved
words-preserved c =
    let left = behind-some _ _ c.in-Some.is ∙ c.first_word.ensures.words in
    let may = c.may_follow.ensures.0 c.if-not-may_follow.false in
    partly-next c.words.invariant _ _ left c.in_ok-holding.holding c.in_ok-holding.ensures.0 c.in_ok-holding.ensures.1
    _ _ may (λ all.
    elim c.if-is_err.branch [
      | then-is_err w ↦ let f = w.kept-is in absurd cc
      | else-is_err w ↦
          let ok = sym c.is_err.ensures.value ∙ w.if-is_err.false in
          (sym w.kept-is ∙ all, pushed c.push.result _ _ _ c.push.ensures.items ok)
    ])

pub returns-clause-some : goal.returns-clause-some
returns-clause-some c = partly-all c.words.invariant (behind-none _ c.in_default.is)
