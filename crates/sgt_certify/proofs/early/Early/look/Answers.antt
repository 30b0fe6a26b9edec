use Rattle.std.proofs.Common.{subst, sym}
use Rattle.sgt_certify.specs.Reach.{IsJudgedTo}
use Rattle.sgt_certify.proofs.Judged.{judged-all, judged-on}
use Rattle.sgt_certify.proofs.early.Early.look.Goals as goal

pub returns-then-not-due-clause-judged : goal.returns-then-not-due-clause-judged
returns-then-not-due-clause-judged c before piece is all short =
    subst (λ n. IsJudgedTo c.args.text.now n) (sym c.in_ok-due.ensures.same)
    (judged-on before piece c.args.text.now c.args.self.now.judged is all)

pub returns-in-None-clause-judged : goal.returns-in-None-clause-judged
returns-in-None-clause-judged c before piece is all short =
    judged-all c.args.text.now short (rw c.in-None.is at c.in_ok-found.ensures.none)
