-- Talks: what came by a pipe, line by line, and what was written for it.
use Rattle.std.specs.Prelude.{◌≡◌, ◌≢◌, ℕ, List, [], ◌∷◌, ◌++◌, map, codes, decimal, All}
use Rattle.sgt_notation.specs.Events.{site_text}
use Rattle.sgt_notation.specs.Spelling.{HasNoLf, text_of_lines}
use Rattle.sgt_notation.specs.declared.event.SiteLine.{SiteLine}
use Rattle.sgt_bundle.specs.Text.{text_of}
use Rattle.sgt_core_model.specs.Core.{CoreState, fresh}
use Rattle.sgt_core.specs.Input.{IsBegun}
use Rattle.sgt_core.specs.Reply.{answer_text}
use Rattle.sgt_courses.specs.declared.answer.Answer.{Answer}
use Rattle.sgt_courses.specs.declared.answer.Answer.TheVariants.{Replies, Cut, Uncut, Unreadable}
use Rattle.sgt_courses.specs.declared.answer.CutFault.TheVariants.{ActiveLeft, Memory, Unwritten}
use Rattle.sgt_courses.specs.Course.{Course, Numbered, Turn}

-- the sites that a talk begins with, its turns, the bundles that were handed out, and the state that
-- it has come to
pub record Talk : Type 0 where
  pub sites : List SiteLine
  pub turns : List Turn
  pub bundles : List Numbered
  pub last : CoreState

-- the state that a talk over these sites starts from
abbrev pub starting : List SiteLine → CoreState
starting sites = fresh (map (λ (l : SiteLine). l.items) sites)

-- the first turn asks for an event or a cut
abbrev pub Starts : List Turn → Type 0
Starts [] = Unit {0}
Starts (turn ∷ turns) = turn.answer ≢ Unreadable

-- a talk: sites from 0 on, and behind the first of them the turns of a course
pub record IsTalk (t : Talk) : Type 0 where
  pub sites : IsBegun (record { sites = t.sites; events = [] })
  pub some : t.sites ≡ [] → t.turns ≡ []
  pub starts : Starts t.turns
  pub course : Course (starting t.sites) t.turns t.bundles t.last

-- the line of an answer to a line, without an LF
abbrev pub answer_line : List ℕ → Answer → List ℕ
answer_line line (Replies reply) = answer_text line reply
answer_line line (Cut number) = codes "x " ++ decimal number
answer_line line (Uncut ActiveLeft) = codes "! E8"
answer_line line (Uncut Memory) = codes "! E9"
answer_line line (Uncut Unwritten) = codes "! B"
answer_line line Unreadable = codes "! L1"

-- the text of the lines that a talk was given, and of its answers
abbrev pub asked_text : Talk → List ℕ
asked_text t = text_of_lines (map site_text t.sites ++ map (λ (turn : Turn). turn.asked) t.turns)

abbrev pub told_text : Talk → List ℕ
told_text t = text_of_lines (map (λ (turn : Turn). answer_line turn.asked turn.answer) t.turns)

-- what the place of bundles was handed
abbrev pub handed_texts : List Numbered → List (ℕ × List ℕ)
handed_texts handed = map (λ (n : Numbered). (n.number, text_of n.bundle)) handed

-- the whole lines of the given bytes are those of a talk, and just its answers are written
pub record IsAnswered (given written : List ℕ) : Type 0 where
  pub talk : Talk
  pub is : IsTalk talk
  pub rest : List ℕ
  pub part : HasNoLf rest
  pub asked : given ≡ asked_text talk ++ rest
  pub told : written ≡ told_text talk

-- at each read all was answered that was given before it
abbrev pub AreAnswered : List (List ℕ × List ℕ) → Type 0
AreAnswered waits = All (λ (w : List ℕ × List ℕ). IsAnswered w.0 w.1) waits
