-- A line at the front of some bytes, fed.
use Rattle.std.specs.Prelude.{◌≡◌, ◌≤◌, ℕ, List, ◌∷◌, ◌++◌, length, drop, Option}
use Rattle.sgt_notation.specs.Spelling.{HasNoLf}
use Rattle.sgt_bundle.specs.declared.certificate.Certificate.{Certificate}
use Rattle.sgt_audit_decisions.specs.declared.steps.Edge.{Edge}
use Rattle.sgt_audit.specs.declared.alone.Alone.{Alone}
use Rattle.sgt_audit.specs.declared.faults.Fault.{Fault}
use Rattle.sgt_audit.specs.Alone.{FollowsAlone, StandsAlone}
use Rattle.sgt_audit.specs.Reading.{Begun}

-- a line of so many bytes with its LF stands at the front and was fed, and this is what it was
-- answered with
pub record FedAlone (c : Certificate) (edges : List Edge) (old new : Alone) (bytes : List ℕ) (n : ℕ)
    (fault : Option Fault) : Type 0 where
  pub line : List ℕ
  pub one : HasNoLf line
  pub within : n ≤ length bytes
  pub cut : bytes ≡ line ++ 10 ∷ drop n bytes
  pub follows : (b : Begun) → StandsAlone c b old → FollowsAlone c edges b line new fault
