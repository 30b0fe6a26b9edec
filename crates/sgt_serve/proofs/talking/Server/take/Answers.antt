use Rattle.std.proofs.Common.{ℕ, List, ap, refl, take}
use Rattle.sgt_serve.specs.Place.{kept_at}
use Rattle.sgt_pipe.specs.Acts.{Held}
use Rattle.sgt_serve.proofs.Stops.{took_front, took_none}
use Rattle.sgt_serve.proofs.talking.Server.take.Goals as goal

pub returns-in-Ok-clause-takes : goal.returns-in-Ok-clause-takes
returns-in-Ok-clause-takes g c =
    took_front ℕ c.args.n c.answer-answer.result _ _ c.args.self.now.core c.answer-answer.new.core
    c.args.self.now.answers.items c.write_answer.new.out.items c.args.inbox.now.held
    c.pass.new.self.held (take c.args.n c.held.result.now) (ap (λ (t : List ℕ). take c.args.n t) c.held.ensures)
    c.answer-answer.ensures c.in-Ok.ensures.ok
    (ap (λ (i : Held). i.held) c.pass.ensures)

pub returns-in-Err-clause-takes : goal.returns-in-Err-clause-takes
returns-in-Err-clause-takes g c =
    took_none {E = ℕ} 0 c.args.n c.answer-answer.result _
    (kept_at (g.B.Bundles.handed c.answer-answer.new.bundles) c.answer-answer.new.refusals) _
    c.args.self.now.core c.answer-answer.new.core
    c.args.self.now.answers.items c.write_answer.new.out.items c.args.inbox.now.held
    c.args.inbox.now.held (take c.args.n c.held.result.now) (ap (λ (t : List ℕ). take c.args.n t) c.held.ensures)
    c.answer-answer.ensures (ap (kept_at (g.B.Bundles.handed c.answer-answer.new.bundles)) c.note.ensures)
    c.in-Err.ensures.err refl
