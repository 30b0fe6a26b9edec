use Rattle.std.proofs.Common.{◌∙◌, ap, refl}
use Rattle.std.specs.Prelude.{Some}
use Rattle.std.proofs.lemmas.Result.{on_ok_weaker}
use Rattle.sgt_draw.specs.Wanted.{cycle_nodes}
use Rattle.sgt_draw.proofs.Neighbours.{committed-is, wanted-one}
use Rattle.sgt_draw.proofs.task.Task.put_decided.Goals as goal

pub neighbours_of-requires : goal.neighbours_of-requires
neighbours_of-requires c =
    committed-is c.args.tx c.args.self.now.bundle.now.certificate.decisions c.args.decision.now _ _ c.requires
    c.in-Commit.is

pub returns-in-Refuse : goal.returns-in-Refuse
returns-in-Refuse c =
    let ds = c.args.self.now.bundle.now.certificate.decisions in
    on_ok_weaker c.put_cycle.result
    (λ adds. wanted-one c.args.self.now.is_dot c.args.tx ds _ _ _ _ (c.requires ∙ ap Some c.in-Refuse.is)
    (ap (cycle_nodes c.args.self.now.is_dot c.args.tx) c.as_slice.ensures) adds) c.put_cycle.ensures

pub returns-in-Withdraw : goal.returns-in-Withdraw
returns-in-Withdraw c =
    let ds = c.args.self.now.bundle.now.certificate.decisions in
    on_ok_weaker c.put_neither.result
    (λ adds. wanted-one c.args.self.now.is_dot c.args.tx ds _ _ _ _ (c.requires ∙ ap Some c.in-Withdraw.is) refl adds)
    c.put_neither.ensures
