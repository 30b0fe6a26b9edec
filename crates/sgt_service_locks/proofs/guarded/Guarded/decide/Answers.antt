use Rattle.std.proofs.Common.{ap, sym, ◌∙◌}
use Rattle.sgt_workers.specs.declared.ticket.Ticket.{Ticket}
use Rattle.sgt_service_locks.proofs.Decisions.{decided_awaits}
use Rattle.sgt_service_locks.proofs.guarded.Guarded.decide.Goals as goal

pub returns-clause-awaits : goal.returns-clause-awaits
returns-clause-awaits g c verdict =
    decided_awaits c.args.self.now.certifier _ c.args.active.now.handle c.args.edges c.in_ok-reply.reply
    c.args.active.now.tx c.args.active.now.draft.touched
    c.in_ok-reply.ensures.ok c.history-history.ensures.replays c.requires.named c.requires.room
    (ap (λ (t : Ticket). t.verdict) (sym c.ticket_of.ensures) ∙ verdict)
