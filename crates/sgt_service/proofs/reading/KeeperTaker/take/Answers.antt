use Rattle.sgt_input.proofs.Keeping.{took-line}
use Rattle.sgt_service.specs.Input.{IsBegun, input_lines}
use Rattle.sgt_service.proofs.reading.KeeperTaker.take.Goals as goal

pub returns : goal.returns
returns c lines begun took =
    took-line IsBegun input_lines c.take_line.result _ _ lines c.args.line.now took c.take_line.ensures
