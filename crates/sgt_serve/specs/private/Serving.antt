-- A whole talk.
use Rattle.std.specs.Prelude.{◌≡◌, ◌<◌, ℕ, List, ◌++◌, length, take, Option, Result, Ok, Err}
use Rattle.sgt_names.specs.declared.outcome.Outcome.{Outcome}
use Rattle.sgt_names.specs.declared.outcome.Outcome.TheVariants as outcome
use Rattle.sgt_notation.specs.declared.event.SiteLine.{SiteLine}
use Rattle.sgt_notation.specs.declared.fault.NotationFault.{NotationFault}
use Rattle.sgt_input.specs.Unreadable.{unreadable_text}
use Rattle.sgt_pipe.specs.declared.history.History.{History}
use Rattle.sgt_serve.specs.declared.fail.ServeFail.{ServeFail}
use Rattle.sgt_serve.specs.declared.fail.ServeFail.TheVariants as fail
use Rattle.sgt_serve.specs.declared.last.Last.{Last}
use Rattle.sgt_serve.specs.declared.last.Last.TheVariants as last
use Rattle.sgt_serve.specs.declared.stop.Stop.{Stop}
use Rattle.sgt_serve.specs.declared.stop.Stop.TheVariants.{Ended, TooLong, ReadFault, WriteFault, Memory}
use Rattle.sgt_serve.specs.Ended.{Served}
use Rattle.sgt_serve.specs.Place.{Kept}
use Rattle.sgt_serve.specs.Talk.{AreAnswered}
use Rattle.sgt_serve.specs.private.Opening.{Asks}
use Rattle.sgt_serve.specs.private.Talking.{Desk, HasOpened}

-- the result of an outcome, where the last bundle fared so
abbrev pub closed_by : Outcome → Last → Result Outcome ServeFail
closed_by o last.Done = Ok o
closed_by o last.Memory = Err fail.Memory
closed_by o last.Unwritten = Err fail.BundleFault

-- the result of a talk that stopped so
abbrev pub ends_by : Stop → Last → Result Outcome ServeFail
ends_by Ended l = closed_by outcome.Yes l
ends_by TooLong l = closed_by outcome.Unreadable l
ends_by ReadFault l = Err (fail.ReadFault l)
ends_by WriteFault l = Err (fail.WriteFault l)
ends_by Memory l = Err fail.Memory

-- the talk whose first line has n bytes and asks for something is served
abbrev pub ServesFrom : Result Outcome ServeFail → ℕ → Option (List ℕ) → Desk → History → Kept → Type 0
ServesFrom result n left old history kept = (sites : List SiteLine) (before : Kept)
    → HasOpened sites before old → Asks (take n old.held)
    → Served result left history.given history.written before kept × AreAnswered history.waits

-- the line that can't be read is told; or a front of that is written
abbrev pub TellsFront : Result Outcome ServeFail → ℕ → NotationFault → (old new : History) → Type 0
TellsFront result number fault old new =
    Tells result (unreadable_text number fault) old.written new.written
    × (new.given ≡ old.given) × (new.waits ≡ old.waits)
  where
    Tells : Result Outcome ServeFail → List ℕ → (written written' : List ℕ) → Type 0
    Tells (Ok outcome.Unreadable) text written written' = written' ≡ written ++ text
    Tells (Err (fail.WriteFault l)) text written written' = (l ≡ last.Done) × (n : ℕ)
        × (n < length text) × (written' ≡ written ++ take n text)
    Tells (Err fail.Memory) text written written' = written' ≡ written
    Tells _ text written written' = ⊥
