use Rattle.sgt_history_text.proofs.Lookups.{found-placed, found-with_slot, found-with_besides}
use Rattle.sgt_history_text.proofs.table.place_one.Goals as goal

pub returns-in-At-clause-found : goal.returns-in-At-clause-found
returns-in-At-clause-found c =
    found-placed c.args.number c.args.names.now c.args.slots.now c.args.more.now c.get-text.result.now _
    c.requires.once c.get-text.ensures c.requires.found c.in-At.ensures.0 c.in-At.ensures.1

pub returns-in-Free-clause-found : goal.returns-in-Free-clause-found
returns-in-Free-clause-found c =
    rw c.occupy.ensures
    (found-with_slot c.args.number c.args.names.now c.args.slots.now c.args.more.now c.get-text.result.now
    c.in-Free.slot
    c.get-text.ensures c.requires.found c.in-Free.ensures)

pub returns-in_ok-insert_besides-in-Crowded-clause-found : goal.returns-in_ok-insert_besides-in-Crowded-clause-found
returns-in_ok-insert_besides-in-Crowded-clause-found c =
    found-with_besides c.args.number c.args.names.now c.args.slots.now c.args.more.now c.insert_besides.new.more
    c.get-text.result.now
    c.requires.once c.get-text.ensures c.in_ok-insert_besides-in-Crowded.ensures.others c.requires.found
    c.in-Crowded.ensures
    c.in_ok-insert_besides-in-Crowded.ensures.ok
