use Rattle.sgt_core.proofs.Running.{ends-valid}
use Rattle.sgt_core.proofs.engine.write_ending.Goals as goal

pub returns-in_ok-extend_from_slice-in-Ok : goal.returns-in_ok-extend_from_slice-in-Ok
returns-in_ok-extend_from_slice-in-Ok c =
    let text = c.in-Ok.ensures in
    ends-valid _ _ _ _ text.valid text.idle text.text c.in_ok-extend_from_slice-in-Ok.ensures.items
