use Rattle.std.proofs.Common.{ℕ, List, subst}
use Rattle.std.proofs.lemmas.Result.{on_ok_weaker}
use Rattle.sgt_bundle.specs.declared.certificate.Decision.{Decision}
use Rattle.sgt_draw.specs.Gathering.{IsScene}
use Rattle.sgt_draw.specs.Sheet.{Adds}
use Rattle.sgt_draw.specs.declared.node.Node.{Node}
use Rattle.sgt_draw.proofs.Gathered.{scene-all}
use Rattle.sgt_draw.proofs.task.Task.put_all.Goals as goal

pub returns : goal.returns
returns c =
    let ds = c.args.self.now.bundle.now.certificate.decisions in
    let scene = c.in_ok-scene.scene in
    let is : IsScene 200 ds scene =
    subst (λ (m : ℕ). IsScene m ds scene) c.from.ensures
    (subst (λ (xs : List Decision). IsScene c.from.result xs scene) c.decisions.ensures c.in_ok-scene.ensures) in
    on_ok_weaker c.put_scene.result
    (subst (λ (ns : List Node). Adds ns c.args.canvas.now.shown c.put_scene.new.canvas.shown) (scene-all c.args.self.now.is_dot ds scene is)) c.put_scene.ensures
