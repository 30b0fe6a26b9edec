use Rattle.std.proofs.Common.{refl}
use Rattle.std.proofs.lemmas.Result.{on_ok_weaker}
use Rattle.sgt_draw.specs.Wanted.{all_nodes}
use Rattle.sgt_draw.proofs.task.Task.put.Goals as goal

pub returns-in-Some : goal.returns-in-Some
returns-in-Some c = rw c.in-Some.is c.put_one.ensures

pub returns-in-None : goal.returns-in-None
returns-in-None c = rw c.in-None.is (on_ok_weaker c.put_all.result (λ adds. (
  all_nodes c.args.self.now.is_dot c.args.self.now.bundle.now.certificate.decisions,
  refl,
  adds,
)) c.put_all.ensures)
