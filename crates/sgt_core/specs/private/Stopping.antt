-- Where the reading of an input stops that is played.
use Rattle.std.specs.Prelude.{ℕ, List, Option}
use Rattle.sgt_notation.specs.declared.event.SiteLine.{SiteLine}
use Rattle.sgt_core_machine.specs.Machine.{Parts}
use Rattle.sgt_input.specs.Stopping.{IsStop}
use Rattle.sgt_input.specs.declared.reading.Stop.{Stop}
use Rattle.sgt_core.specs.Input.{Begins}
use Rattle.sgt_core.specs.private.Playing.{HasPlayed}

abbrev pub StopsPlayer : Option (List ℕ) → List SiteLine → Option Parts → List ℕ → Stop → Type 0
StopsPlayer told sites core text stop = IsStop Begins (HasPlayed sites core text) told stop
