use Rattle.std.proofs.Common.{All, arith, inr, subst, sym}
use Rattle.std.proofs.lemmas.List.Elements.{All-push}
use Rattle.sgt_history_kept.specs.Decided.{IsStepAmong}
use Rattle.sgt_history_kept.proofs.least.put_step.Goals as goal

pub returns : goal.returns
returns c = λ conflicts all.
    let P = IsStepAmong c.args.lines conflicts c.args.asked.now in
    subst (All P) (sym c.in_ok-push.ensures.items)
    (All-push P c.args.steps.now.items c.args.step all (record {
      joins = (omega arith, omega arith);
      is = inr (c.is_asked.ensures.0 c.if-not-is_asked.false);
    }))
