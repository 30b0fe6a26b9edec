use Rattle.sgt_line.specs.Parts.{parts_of}
use Rattle.sgt_line.proofs.Clashing.{none_beside}
use Rattle.sgt_line.proofs.clash.beside.Goals as goal

pub returns-in-None-clause-none : goal.returns-in-None-clause-none
returns-in-None-clause-none c =
    none_beside _ (parts_of c.args.line.now) c.in-None.ensures.none c.beside_object.ensures.none
