use Rattle.std.proofs.Common.{◌≡◌, None, take}
use Rattle.std.specs.List.{last_or}
use Rattle.sgt_service.proofs.report.last_of.Given as goal

abbrev pub invariant-loop-ticket : goal.invariant-loop-ticket
invariant-loop-ticket l = l.last ≡ last_or None (take l.ticket-index l.tickets)
