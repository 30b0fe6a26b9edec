use Rattle.std.proofs.Common.{◌≡◌, ◌∙◌, ◌++◌, ◌∷◌, [], List, ap, rules, subst, sym, vec_len}
use Rattle.std.proofs.lemmas.List.Elements.{All-push}
use Rattle.sgt_workers.specs.declared.ticket.Ticket.{Ticket}
use Rattle.sgt_service.specs.Tries.{AreTriesOf, IsRefused}
use Rattle.sgt_service.proofs.Telling.{want_ends}
use Rattle.sgt_service.proofs.Tries.{last_more, tried_more, tries_end, tries_more, tries_spent, try_of}
use Rattle.sgt_service.proofs.runner.RunnerWorkSeatScriptServiceFault.work.Goals as goal

pub returns-then-ne-clause-answer : goal.returns-then-ne-clause-answer
returns-then-ne-clause-answer g c =
    let ops = c.args.job.script.now.operations in
    let t = c.in_ok-ticket.ticket in
    let pushed : c.push_reserved.new.self.items ≡ c.loop.tickets.items ++ t ∷ [] =
    c.push_reserved.ensures.items ∙ ap (λ (ts : List Ticket). ts ++ t ∷ []) c.in_ok-reserve.ensures.items in
    let at = c.in_ok-ticket.ensures.tries in
    let tried = try_of ops t c.try_once.new.reads.items c.loop.seat c.try_once.new.seat at in
    subst (λ (ts : List Ticket). AreTriesOf c.args.self.now.tries ops ts c.try_once.new.reads.items) (sym pushed)
    (record {
      whole = search (rules, tries_end);
      each = tries_more ops c.loop.tickets.items t c.try_once.new.reads.items c.loop.invariant.each tried;
      last = last_more ops c.loop.tickets.items t c.try_once.new.reads.items tried;
    })

pub loop-preserved : goal.loop-preserved
loop-preserved g c =
    let ops = c.args.job.script.now.operations in
    let t = c.in_ok-ticket.ticket in
    let pushed : c.push_reserved.new.self.items ≡ c.loop.tickets.items ++ t ∷ [] =
    c.push_reserved.ensures.items ∙ ap (λ (ts : List Ticket). ts ++ t ∷ []) c.in_ok-reserve.ensures.items in
    let at = c.in_ok-ticket.ensures.tries in
    let tried = try_of ops t c.try_once.new.reads.items c.loop.seat c.try_once.new.seat at in
    record {
      parts = search rules;
      begin_parts = search rules;
      tried = rw pushed (tried_more ops c.loop.tickets.items t c.try_once.new.reads.items c.args.seat.now c.loop.seat
          c.try_once.new.seat c.loop.invariant.tried at);
      refused = rw pushed (All-push IsRefused c.loop.tickets.items t c.loop.invariant.refused (search rules));
      each = rw pushed (tries_more ops c.loop.tickets.items t c.try_once.new.reads.items c.loop.invariant.each tried);
      last = rw pushed (last_more ops c.loop.tickets.items t c.try_once.new.reads.items tried);
      len = search rules;
    }

pub returns-clause-answer : goal.returns-clause-answer
returns-clause-answer g c = record {
  whole = search (rules, tries_spent);
  each = c.loop.invariant.each;
  last =
      c.loop.invariant.last;
}

pub returns-then-ne-clause-does : goal.returns-then-ne-clause-does
returns-then-ne-clause-does g c =
    let ops = c.args.job.script.now.operations in
    let t = c.in_ok-ticket.ticket in
    let pushed : c.push_reserved.new.self.items ≡ c.loop.tickets.items ++ t ∷ [] =
    c.push_reserved.ensures.items ∙ ap (λ (ts : List Ticket). ts ++ t ∷ []) c.in_ok-reserve.ensures.items in
    rw pushed (tried_more ops c.loop.tickets.items t c.try_once.new.reads.items c.args.seat.now c.loop.seat
    c.try_once.new.seat
    c.loop.invariant.tried c.in_ok-ticket.ensures.tries)

pub returns-in_err-reserve-clause-fault : goal.returns-in_err-reserve-clause-fault
returns-in_err-reserve-clause-fault g c =
    let service = c.args.self.now.service.now in
    want_ends (vec_len service.sites) service.names.items c.args.job.script.now c.from_residual.result (search rules)
