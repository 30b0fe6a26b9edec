use Rattle.sgt_input.proofs.SitedLines.{inputs-one}
use Rattle.sgt_service.proofs.OneInput.{scripts-kind}
use Rattle.sgt_service.proofs.laws.inputs_have_one_reading.Goals as goal

pub returns : goal.returns
returns c = inputs-one scripts-kind
