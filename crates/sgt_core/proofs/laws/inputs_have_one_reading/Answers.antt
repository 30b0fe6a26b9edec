use Rattle.sgt_input.proofs.SitedLines.{inputs-one}
use Rattle.sgt_core.proofs.OneInput.{events-kind}
use Rattle.sgt_core.proofs.laws.inputs_have_one_reading.Goals as goal

pub returns : goal.returns
returns c = inputs-one events-kind
