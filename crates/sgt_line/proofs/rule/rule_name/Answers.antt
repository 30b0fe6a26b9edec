use Rattle.std.proofs.Common.{inr, subst, sym}
use Rattle.sgt_line.specs.Names.{IsNameOf}
use Rattle.sgt_line.proofs.Steps.{on_ok}
use Rattle.sgt_line.proofs.rule.rule_name.Goals as goal

pub returns-in-Some : goal.returns-in-Some
returns-in-Some c =
    on_ok c.from_str.result _ _
    (λ name same. subst (λ n. IsNameOf c.args.word.now n) (sym same) (inr c.in-Some.ensures.some)) c.from_str.ensures.ok
