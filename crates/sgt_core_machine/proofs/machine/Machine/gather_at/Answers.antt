use Rattle.std.proofs.Common.{◌∙◌, List, Option, Some, ap}
use Rattle.sgt_core_machine.specs.declared.machine.Place.{Place}
use Rattle.sgt_core_machine.specs.declared.machine.Open.{Open}
use Rattle.sgt_core_machine.specs.Machine.{parts_of}
use Rattle.sgt_core_machine.proofs.Finding.{found_there}
use Rattle.sgt_core_machine.proofs.PledgedSites.{gathers_at, given_back_there}
use Rattle.sgt_core_machine.proofs.machine.Machine.gather_at.Goals as goal

pub gather_there-requires-clause-may : goal.gather_there-requires-clause-may
gather_there-requires-clause-may c = λ p r here is.
    c.requires.may p r here (found_there c.args.self.now.running.items c.args.slot c.index.result.now c.requires.slot.0
    c.requires.slot.1 c.index.ensures ∙ ap Some is)

pub returns-in-Ok-add_edges-clause-ok : goal.returns-in-Ok-add_edges-clause-ok
returns-in-Ok-add_edges-clause-ok c =
    let m = parts_of c.args.self.now in
    let last = c.make_due.new.places.items in
    let runs = found_there c.args.self.now.running.items c.args.slot c.index.result.now c.requires.slot.0
    c.requires.slot.1 c.index.ensures in
    gathers_at m (record m { places = last; step = c.add_edges.new.step }) c.gather_there.new.places.items c.index.result.now
    c.args.slot c.args.at c.args.tx c.gather_there.new.edges c.in-Ok.ensures.ok runs c.make_due.ensures
    (ap (λ (o : Option Open). record m { places = last; step = o }) c.in-Ok-add_edges.ensures)

pub returns-in-Err-add_edges-clause-err : goal.returns-in-Err-add_edges-clause-err
returns-in-Err-add_edges-clause-err c =
    let m = parts_of c.args.self.now in
    ap (λ (ps : List Place). record m { places = ps; step = c.add_edges.new.step })
    (given_back_there c.args.self.now.places.items c.gather_there.new.places.items c.give_back_at.new.places.items
    c.index.result.now c.args.at c.args.tx c.gather_there.new.edges c.in-Ok.ensures.ok c.give_back_at.ensures)
