-- How far a talk has come, and where it stops.
use Rattle.std.specs.Prelude.{◌≡◌, ◌≢◌, ◌⊎◌, ◌<◌, ℕ, List, [], ◌∷◌, ◌++◌, length, take, drop, ◌+◌, Option, None, Some, Result, Ok, Err}
use Rattle.sgt_notation.specs.declared.event.SiteLine.{SiteLine}
use Rattle.sgt_core_machine.specs.Machine.{Parts, StandsFor}
use Rattle.sgt_pipe.specs.Fronts.{IsPart}
use Rattle.sgt_pipe.specs.declared.handed.KeepFault.{KeepFault}
use Rattle.sgt_pipe.specs.declared.history.History.{History}
use Rattle.sgt_serve.specs.declared.stop.Stop.{Stop}
use Rattle.sgt_serve.specs.declared.stop.Stop.TheVariants.{Ended, TooLong, ReadFault, WriteFault, Memory}
use Rattle.sgt_courses.specs.declared.answer.Answer.{Answer}
use Rattle.sgt_serve.specs.private.Turning.{Takes}
use Rattle.sgt_serve.specs.private.Opening.{Asks}
use Rattle.sgt_serve.specs.Ended.{IsAtTooLong, IsRest, MayClose, WroteAll, WroteLess}
use Rattle.sgt_serve.specs.Place.{Kept, PlaceSaid}
use Rattle.sgt_serve.specs.Talk.{AreAnswered, answer_line, IsTalk, Talk, asked_text, handed_texts, told_text}

-- what a talk works with: the bundles that are kept, the core, what was given and written, the
-- answers that are gathered, and what is held
pub record Desk : Type 0 where
  pub kept : Kept
  pub core : Parts
  pub given : List ℕ
  pub written : List ℕ
  pub waits : List (List ℕ × List ℕ)
  pub gathered : List ℕ
  pub held : List ℕ

abbrev pub desk : Kept → Parts → History → (gathered held : List ℕ) → Desk
desk kept core history gathered held = record {
  kept = kept;
  core = core;
  given = history.given;
  written = history.written;
  waits = history.waits;
  gathered = gathered;
  held = held;
}

-- behind the bundles that were kept before, a talk over these sites has come so far
pub record HasTalk (sites : List SiteLine) (before : Kept) (talk : Talk) (d : Desk) : Type 0 where
  pub is : IsTalk talk
  pub over : talk.sites ≡ sites
  pub some : sites ≢ []
  pub kept : d.kept.items ≡ before.items ++ handed_texts talk.bundles
  -- what the place answered since then, and how many growths were refused, in turns and else
  pub said : List (Result ℕ KeepFault)
  pub refused : ℕ
  pub cuts : PlaceSaid talk.turns said refused
  pub answers : d.kept.answers ≡ before.answers ++ said
  pub refused_else : ℕ
  pub refusals : d.kept.refused ≡ before.refused + (refused + refused_else)
  pub stands : StandsFor d.core talk.last
  pub answered : AreAnswered d.waits

-- its lines were taken, and its answers are written or gathered
pub record HasCome (sites : List SiteLine) (before : Kept) (d : Desk) : Type 0 where
  pub talk : Talk
  pub has : HasTalk sites before talk d
  pub begun : talk.turns ≢ []
  pub none_else : has.refused_else ≡ 0
  pub asked : d.given ≡ asked_text talk ++ d.held
  pub told : told_text talk ≡ d.written ++ d.gathered

-- it goes on so, whatever talk it is
abbrev pub ComesOn : Desk → Desk → Type 0
ComesOn old new = (sites : List SiteLine) (before : Kept) → HasCome sites before old
    → HasCome sites before new

-- what is written where it stops
abbrev pub SaysStop : Stop → Talk → (rest written : List ℕ) → Type 0
SaysStop Ended t rest written = (tail : List ℕ) × IsRest t rest tail × WroteAll t tail written
SaysStop TooLong t rest written = (tail : List ℕ) × IsAtTooLong t rest tail
    × WroteAll t tail written
SaysStop ReadFault t rest written = IsPart rest × WroteAll t [] written
SaysStop WriteFault t rest written = (tail : List ℕ) × MayClose t rest tail
    × WroteLess (told_text t ++ tail) written
SaysStop Memory t rest written = WroteLess (told_text t) written

-- how many growths were refused for that
abbrev pub refused_at : Stop → ℕ
refused_at Memory = 1
refused_at _ = 0

pub record HasStopped (stop : Stop) (sites : List SiteLine) (before : Kept) (d : Desk) : Type 0 where
  pub talk : Talk
  pub has : HasTalk sites before talk d
  pub one_else : has.refused_else ≡ refused_at stop
  pub rest : List ℕ
  pub asked : d.given ≡ asked_text talk ++ rest
  pub says : SaysStop stop talk rest d.written

abbrev pub Stops : Stop → Desk → Desk → Type 0
Stops stop old new = (sites : List SiteLine) (before : Kept) → HasCome sites before old
    → HasStopped stop sites before new

-- it stops so, or goes on
abbrev pub StopsOr : Option Stop → Desk → Desk → Type 0
StopsOr None old new = ComesOn old new
StopsOr (Some stop) old new = Stops stop old new

-- ---- steps

-- the gathered answers were written, or some; or a front of them
abbrev pub Flushes : {E : Type 0} → Result (Unit {0}) E → History → List ℕ → History → List ℕ → Type 0
Flushes (Ok u) old gathered new gathered' = (new.written ++ gathered' ≡ old.written ++ gathered)
    × (new.given ≡ old.given) × (new.waits ≡ old.waits)
Flushes (Err e) old gathered new gathered' =
    ((n : ℕ) × (n < length gathered) × (new.written ≡ old.written ++ take n gathered))
    × (new.given ≡ old.given) × (new.waits ≡ old.waits)

-- the last line was written; or a front of it
abbrev pub SaysLast : Stop → Stop → List ℕ → History → History → Type 0
SaysLast result stop line old new =
    (((result ≡ stop) × (new.written ≡ old.written ++ line))
    ⊎ ((result ≡ WriteFault) × (n : ℕ) × (n < length line) × (new.written ≡ old.written ++ take n line)))
    × (new.given ≡ old.given) × (new.waits ≡ old.waits)

-- the first n bytes that are held are answered as a line; or there was no memory for the answer
abbrev pub TakesFront : {E : Type 0} → Result (Unit {0}) E → ℕ → (kept kept' : Kept) → (core core' : Parts)
    → (gathered gathered' held held' : List ℕ) → Type 0
TakesFront (Ok u) n kept kept' core core' gathered gathered' held held' = (answer : Answer)
    × Takes core (take n held) answer kept kept' core'
    × (gathered' ≡ gathered ++ (answer_line (take n held) answer ++ 10 ∷ []))
    × (held' ≡ drop (n + 1) held)
TakesFront (Err e) n kept kept' core core' gathered gathered' held held' = (answer : Answer)
    × (mid : Kept) × Takes core (take n held) answer kept mid core'
    × (kept' ≡ record mid { refused = mid.refused + 1 }) × (gathered' ≡ gathered) × (held' ≡ held)

-- ---- the first line

-- the sites are there, and no line behind them was taken
pub record HasOpened (sites : List SiteLine) (before : Kept) (d : Desk) : Type 0 where
  pub talk : Talk
  pub has : HasTalk sites before talk d
  pub none : talk.turns ≡ []
  pub none_else : has.refused_else ≡ 0
  pub asked : d.given ≡ asked_text talk ++ d.held
  pub told : told_text talk ≡ d.written ++ d.gathered

-- it stops so, where the first line of n bytes asks for something
abbrev pub OpensTo : Stop → ℕ → Desk → Desk → Type 0
OpensTo stop n old new = (sites : List SiteLine) (before : Kept)
    → HasOpened sites before old → Asks (take n old.held) → HasStopped stop sites before new
