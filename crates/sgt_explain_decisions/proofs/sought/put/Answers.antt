use Rattle.std.proofs.Common.{sym, subst}
use Rattle.std.specs.Prelude.{IfSome, IfNone}
use Rattle.sgt_explain_decisions.specs.declared.sought.Found.{Found}
use Rattle.sgt_explain_decisions.specs.declared.sought.Sought.{Sought}
use Rattle.sgt_explain_decisions.specs.Sought.{PutsAt, IsWith}
use Rattle.sgt_explain_decisions.proofs.sought.put.Goals as goal

pub returns-in_ok-insert-in-Some : goal.returns-in_ok-insert-in-Some
returns-in_ok-insert-in-Some c =
    let new : Sought = record { found = c.insert.new.self } in
    record {
      none = subst (λ o. IfNone o (PutsAt c.args.key c.args.found c.args.sought.now new)) (sym c.in-Some.is) tt;
      some = subst (λ o. IfSome o (λ l. (more : Found) × IsWith l c.args.found more
          × PutsAt c.args.key more c.args.sought.now new)) (sym c.in-Some.is) (
            c.with_entry-more.result,
            λ x item. (c.with_entry-more.ensures.read x item, c.with_entry-more.ensures.change x item),
            c.in_ok-insert-in-Some.ensures.updates.0,
          );
    }

pub returns-in_ok-insert-in-None : goal.returns-in_ok-insert-in-None
returns-in_ok-insert-in-None c =
    let new : Sought = record { found = c.insert-in-None.new.self } in
    record {
      none = subst (λ o. IfNone o (PutsAt c.args.key c.args.found c.args.sought.now new)) (sym c.in-None.is)
          c.in_ok-insert-in-None.ensures.updates.0;
      some = subst (λ o. IfSome o (λ l. (more : Found) × IsWith l c.args.found more
          × PutsAt c.args.key more c.args.sought.now new)) (sym c.in-None.is) tt;
    }
