use Rattle.std.proofs.Common.{◌≡◌, ℕ, List, ◌++◌, ap, ◌∙◌, subst}
use Rattle.std.proofs.lemmas.Result.{on_ok_weaker}
use Rattle.sgt_history.specs.Conflicts.{IsOperation}
use Rattle.sgt_history.specs.History.{closed_of}
use Rattle.sgt_history.specs.declared.history.Operation.{Operation}
use Rattle.sgt_check.specs.Told.{IsToldAs}
use Rattle.sgt_check.proofs.Pushing.{two}
use Rattle.sgt_check.proofs.fault.push_fault.Goals as goal

pub returns : goal.returns
returns c =
    let h = closed_of c.args.history.now in
    let f = c.args.fault in
    let a = c.requires.faulty in
    let is = subst (λ (o : Operation ℕ ℕ). IsOperation h f.line f.place a.t o)
    (c.operation_at-operation.ensures a.t a.o a.is) a.is in
    let told : IsToldAs h f = record {
      t = a.t;
      o = c.operation_at-operation.result;
      is = is;
      evidence = c.evidence_of-evidence.result;
      behind = c.evidence_of-evidence.ensures a.t c.operation_at-operation.result is;
    } in
    on_ok_weaker c.push_told.result (λ e. (
      told,
      two _ _ _ _ _ (c.in_ok-extend_from_slice.ensures.items
          ∙ ap (λ (t : List ℕ). c.args.out.now.items ++ t) c.flaw_line.ensures) e,
    )) c.push_told.ensures
