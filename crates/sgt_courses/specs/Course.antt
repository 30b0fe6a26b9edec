-- Courses: what a core is asked and answers, line by line, cut where it is asked to be.
use Rattle.std.specs.Prelude.{◌≡◌, ◌≢◌, ◌≤◌, ℕ, List, [], ◌∷◌, ◌++◌, length, map, codes}
use Rattle.sgt_names.specs.Limits.{max_line}
use Rattle.sgt_names.specs.declared.entry.Holding.{Holding}
use Rattle.sgt_notation.specs.Events.{IsEventLine, event_text}
use Rattle.sgt_notation.specs.Reading.{SpellsNone}
use Rattle.sgt_notation.specs.Spelling.{HasNoLf}
use Rattle.sgt_notation.specs.declared.event.Event.{Event}
use Rattle.sgt_notation.specs.declared.event.EventLine.{EventLine}
use Rattle.sgt_bundle.specs.Parts.{Parts}
use Rattle.sgt_core_model.specs.Core.{CoreState, fresh, bundle_of}
use Rattle.sgt_core_model.specs.Step.{Run}
use Rattle.sgt_core_model.specs.declared.reply.Reply.{Reply}
use Rattle.sgt_core_machine.specs.Cut.{last_values}
use Rattle.sgt_core.specs.Replay.{MayAnswer}
use Rattle.sgt_courses.specs.declared.answer.Answer.{Answer}
use Rattle.sgt_courses.specs.declared.answer.Answer.TheVariants.{Replies, Cut, Uncut, Unreadable}
use Rattle.sgt_courses.specs.declared.answer.CutFault.{CutFault}
use Rattle.sgt_courses.specs.declared.answer.CutFault.TheVariants.{ActiveLeft, Memory, Unwritten}

-- a line, without its LF, and its answer
pub record Turn : Type 0 where
  pub asked : List ℕ
  pub answer : Answer

-- a bundle that was handed out, and its number
pub record Numbered : Type 0 where
  pub number : ℕ
  pub bundle : Parts

-- the line that asks for a cut
abbrev pub cut_line : List ℕ
cut_line = codes "x"

-- the line asks for nothing that there is
pub record AsksNothing (line : List ℕ) : Type 0 where
  pub event : SpellsNone IsEventLine event_text line
  pub cut : line ≢ cut_line
  pub one : HasNoLf line
  pub short : length line ≤ max_line

-- the line asks for an event, which may be replied to so and leave new
abbrev pub MayReply : CoreState → List ℕ → Reply → CoreState → Type 0
MayReply old line reply new = (event : EventLine) × IsEventLine event × (line ≡ event_text event)
    × MayAnswer old event reply new

-- why a state is not cut: a transaction is active; else memory or the place of bundles refused
abbrev pub IsUncut : CoreState → CutFault → Type 0
IsUncut c ActiveLeft = c.certifier.active ≢ []
IsUncut c Memory = c.certifier.active ≡ []
IsUncut c Unwritten = c.certifier.active ≡ []

-- the state is cut: its bundle is handed out, and it begins anew over the last values
abbrev pub IsCut : CoreState → ℕ → List Numbered → CoreState → Type 0
IsCut old number handed new = (old.certifier.active ≡ [])
    × (handed ≡ record { number = number; bundle = bundle_of old } ∷ [])
    × (new ≡ fresh (last_values old))

-- from old, the line may be answered so, and leave new; these bundles are handed out
abbrev pub MayTake : CoreState → List ℕ → Answer → List Numbered → CoreState → Type 0
MayTake old line (Replies reply) handed new = MayReply old line reply new × (handed ≡ [])
MayTake old line (Cut number) handed new = (line ≡ cut_line) × IsCut old number handed new
MayTake old line (Uncut fault) handed new = (line ≡ cut_line) × IsUncut old fault
    × (handed ≡ []) × (new ≡ old)
MayTake old line Unreadable handed new = AsksNothing line × (handed ≡ []) × (new ≡ old)

-- a course: turn after turn; these bundles are handed out
abbrev pub Course : CoreState → List Turn → List Numbered → CoreState → Type 0
Course old [] bundles new = (bundles ≡ []) × (new ≡ old)
Course old (turn ∷ turns) bundles new =
    (mid : CoreState) × (handed : List Numbered) × (more : List Numbered)
    × MayTake old turn.asked turn.answer handed mid × (bundles ≡ handed ++ more)
    × Course mid turns more new

-- ---- what a course is: runs of the model

-- some run of the model over these items leads to the state
abbrev pub IsRunTo : List (List Holding) → CoreState → Type 0
IsRunTo items c = (events : List Event) × (replies : List Reply) × Run (fresh items) events replies c

-- runs one after another, over these items first, and then each over the last values of the one
-- before, which left no transaction active; those that are over ended in these states, and the last
-- one has come to c
abbrev pub AreRuns : List (List Holding) → List CoreState → CoreState → Type 0
AreRuns items [] c = IsRunTo items c
AreRuns items (ended ∷ more) c = IsRunTo items ended × (ended.certifier.active ≡ [])
    × AreRuns (last_values ended) more c

abbrev pub bundles_in : List Numbered → List Parts
bundles_in handed = map (λ (n : Numbered). n.bundle) handed
