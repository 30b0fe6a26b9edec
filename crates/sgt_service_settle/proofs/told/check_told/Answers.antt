use Rattle.std.proofs.Common.{◌≡◌, subst}
use Rattle.std.proofs.lemmas.Result.{on_ok_weaker, IfErr-weaker}
use Rattle.sgt_service_settle.specs.Settled.{Run}
use Rattle.sgt_service_settle.specs.Fault.{IsUnsettled}
use Rattle.sgt_service_settle.proofs.Alone.{told_never, told_of_each}
use Rattle.sgt_service_settle.proofs.Whole.{tickets_told}
use Rattle.sgt_service_settle.proofs.told.check_told.Goals as goal

pub returns-clause-ok : goal.returns-clause-ok
returns-clause-ok c =
    on_ok_weaker c.check_tickets.result
    (tickets_told _ _ c.args.certifier.now.state c.args.dones.now c.history-history.ensures.replays
    c.history-history.ensures.is) c.check_tickets.ensures.ok

pub returns-clause-err : goal.returns-clause-err
returns-clause-err c =
    IfErr-weaker c.check_tickets.result _ _
    (λ f h. told_of_each _ _ c.args.certifier.now c.args.dones.now f c.history-history.ensures.replays
    c.history-history.ensures.is h)
    c.check_tickets.ensures.err

pub returns-clause-memory : goal.returns-clause-memory
returns-clause-memory c =
    let certifier = c.args.certifier.now in
    let dones = c.args.dones.now in
    IfErr-weaker c.check_tickets.result _ _
    (λ f h memory. told_never certifier dones (subst (λ g. (r : Run) → r.certifier ≡ certifier → r.dones ≡ dones
    → IsUnsettled r g) memory
    (told_of_each _ _ certifier dones f c.history-history.ensures.replays c.history-history.ensures.is h)))
    c.check_tickets.ensures.err
