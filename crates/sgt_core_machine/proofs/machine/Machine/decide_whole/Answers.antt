use Rattle.sgt_core_machine.specs.Machine.{parts_of}
use Rattle.sgt_core_machine.proofs.Standing.{goes_stands}
use Rattle.sgt_core_machine.proofs.WholeGoing.{decide_may, deciding, deciding_stops}
use Rattle.sgt_core_machine.proofs.machine.Machine.decide_whole.Goals as goal

pub decide_gathered-requires-clause-allowed : goal.decide_gathered-requires-clause-allowed
decide_gathered-requires-clause-allowed c =
    decide_may (parts_of c.args.self.now) (parts_of c.gather_all.new.self) c.requires.stands c.args.tx c.args.sites.now
    c.requires.whole c.args.slot c.gather_all.ensures.slot c.in-Ok.ensures.ok

pub decide_gathered-requires-clause-stands : goal.decide_gathered-requires-clause-stands
decide_gathered-requires-clause-stands c = goes_stands _ _ _ c.requires.stands c.in-Ok.ensures.ok

pub returns-in-Ok-clause-goes : goal.returns-in-Ok-clause-goes
returns-in-Ok-clause-goes c = deciding (parts_of c.args.self.now) (parts_of c.gather_all.new.self) (parts_of c.decide_gathered.new.self)
    c.args.tx c.args.sites.now c.requires.whole c.decide_gathered.result c.in-Ok.ensures.ok c.decide_gathered.ensures.goes

pub returns-in-Err-clause-goes : goal.returns-in-Err-clause-goes
returns-in-Err-clause-goes c = deciding_stops (parts_of c.args.self.now) (parts_of c.gather_all.new.self)
    (parts_of c.gather_all.new.self) c.args.tx c.args.sites.now c.requires.whole c.refused.result c.refused.ensures
    c.in-Err.ensures.err
