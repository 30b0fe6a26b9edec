use Rattle.std.proofs.Common.{refl}
use Rattle.sgt_core.proofs.PlayedLines.{none-opening, played-run}
use Rattle.sgt_core.proofs.Running.{run-of}
use Rattle.sgt_core.proofs.engine.run_text.Goals as goal

pub core_at_end-requires : goal.core_at_end-requires
core_at_end-requires c none = none-opening c.requires.0 _ _ _ c.requires.1 c.requires.2 none

pub write_ending-requires : goal.write_ending-requires
write_ending-requires c =
    let (m, stands, writes) = played-run c.requires.0 _ _ _ _ c.requires.2 c.in_ok-core.ensures in
    let (d, so, there) = writes _ stands in
    (d, there)

pub returns : goal.returns
returns c input played =
    let (m, stands, writes) = played-run input _ _ _ _ played c.in_ok-core.ensures in
    run-of input _ m _ input.sites input.events _ _ _ stands refl refl refl writes c.in_ok-outcome.ensures
