use Rattle.std.proofs.Common.{◌∙◌, ap, refl, sym}
use Rattle.std.specs.Prelude.{None, option_map}
use Rattle.std.proofs.lemmas.Result.{on_ok_weaker}
use Rattle.sgt_draw.specs.Wanted.{decision_on}
use Rattle.sgt_draw.proofs.Neighbours.{wanted-one}
use Rattle.sgt_draw.proofs.task.Task.put_one.Goals as goal

pub returns-in-None : goal.returns-in-None
returns-in-None c =
    let ds = c.args.self.now.bundle.now.certificate.decisions in
    on_ok_weaker c.put_neither.result
    (λ adds. wanted-one c.args.self.now.is_dot c.args.tx ds None _ _ _
    (sym (ap (decision_on c.args.tx) c.decisions.ensures) ∙ sym c.decision_on.ensures ∙ ap (option_map (λ d. d.now)) c.in-None.is)
    refl adds) c.put_neither.ensures
