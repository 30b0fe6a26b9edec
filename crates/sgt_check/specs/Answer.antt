-- What a text of a history is answered by.
use Rattle.std.specs.Prelude.{◌≡◌, ◌⊎◌, ℕ, ◌<◌, false, List, [], ◌++◌, length, All, Option, Some, IfSome, slice_get}
use Rattle.std.specs.Io.KnownBytes.{Appends}
use Rattle.json.specs.Json.{Json}
use Rattle.sgt_names.specs.Device.{AppendsOrForgets, WritesFront}
use Rattle.sgt_names.specs.declared.outcome.Outcome.{Outcome}
use Rattle.sgt_names.specs.declared.outcome.Outcome.TheVariants.{Yes, No, Unreadable}
use Rattle.sgt_history.specs.Conflicts.{ConflictIn, HasCycle, HaveConflict, IsAmong, IsCycle, IsOperation}
use Rattle.sgt_history.specs.Flaws.{IsFaultless, IsFirstFault}
use Rattle.sgt_history.specs.Serial.{IsSerializable, Serves}
use Rattle.sgt_history.specs.Transaction.{Transaction}
use Rattle.sgt_history.specs.declared.history.Operation.{Operation}
use Rattle.sgt_history.specs.declared.named.Conflict.{Conflict}
use Rattle.sgt_history.specs.declared.named.Flaw.{Flaw}
use Rattle.sgt_history.specs.declared.named.Graph.{Graph}
use Rattle.sgt_history_evidence.specs.Evidence.{IsEvidence}
use Rattle.sgt_history_evidence.specs.declared.evidence.Evidence.{Evidence}
use Rattle.sgt_graph.specs.First.{IsShownFirst}
use Rattle.sgt_history_text.specs.Name.{compact}
use Rattle.sgt_history_text.specs.Reading.{nth}
use Rattle.sgt_history_text.specs.Text.{IsFirstUnreadable, Spells}
use Rattle.sgt_history_text.specs.declared.fault.LineFault.{LineFault}
use Rattle.sgt_history_text.specs.declared.wanted.Wanted.{Wanted}
use Rattle.sgt_history_verdict.specs.Steps.{lines_of, place_behind}
use Rattle.sgt_history_verdict.specs.Verdict.{IsBelow, IsLeastFirst}
use Rattle.sgt_history_verdict.specs.declared.step.Step.{Step}
use Rattle.sgt_check.specs.Rank.{IsShownBefore}
use Rattle.sgt_check.specs.Text.{Spelling, aborted_of, committed_of, counts_text, cycle_text, fault_text, order_part, unreadable_text}
use Rattle.sgt_check.specs.declared.options.Options.{Options}

-- names are written as JSON, compact: ids by their lines, items and values as they are
abbrev pub compactly : List Json → Spelling Json Json
compactly ids = record { id = λ line. compact (nth ids line); item = compact; value = compact }

-- the same, of items by their numbers
abbrev pub by_number : List Json → List Json → Spelling ℕ Json
by_number ids items = record { id = λ line. compact (nth ids line); item = λ n. compact (nth items n); value = compact }

-- ---- yes

-- the history that the bytes spell is serializable: an order serves; it is told where it is asked for, and has the
-- least line first of those that may stand behind those before
pub record IsYes (options : Options) (bytes text : List ℕ) : Type 0 where
  pub ids : List Json
  pub h : List (Transaction Json Json)
  pub spells : Spells bytes ids h
  pub order : List ℕ
  pub serves : Serves h order
  pub least : IsLeastFirst h order
  pub text_is : text ≡ counts_text (committed_of h) (aborted_of h) ++ order_part options.order (compactly ids) order

-- ---- no

-- it has this first fault, behind which this evidence stands
pub record IsFaultTold (bytes text : List ℕ) : Type 0 where
  pub ids : List Json
  pub h : List (Transaction Json Json)
  pub spells : Spells bytes ids h
  pub line : ℕ
  pub flaw : Flaw
  pub place : ℕ
  pub first : IsFirstFault h line flaw place
  pub t : Transaction Json Json
  pub o : Operation Json Json
  pub is : IsOperation h line place t o
  pub evidence : Evidence
  pub behind : IsEvidence h line place t o flaw evidence
  pub text_is : text ≡ fault_text (compactly ids) h line flaw o evidence

-- the step, whose item has a number, is a conflict of the graph
pub record IsStepOf {I V : Type 0} (h : List (Transaction I V)) (item_of : ℕ → I) (g : Graph) (s : Step) : Type 0 where
  pub among : IsAmong g s.kind
  pub conflict : HaveConflict h s.kind s.from s.to (item_of s.item) s.from_version s.to_version

-- each is one, and leads to where the next one begins, the last to where the first does
pub record AreStepsOf {I V : Type 0} (h : List (Transaction I V)) (item_of : ℕ
    → I) (g : Graph) (steps : List Step) : Type 0 where
  pub some : 0 < length steps
  pub each : All (IsStepOf h item_of g) steps
  pub onward : (place : ℕ) (s t : Step) → slice_get steps place ≡ Some s
      → slice_get steps (place_behind place (length steps)) ≡ Some t → s.to ≡ t.from

-- each is shown before all other conflicts of the graph from its line to the next
abbrev pub AreShownFirst : {V : Type 0} → List (Transaction Json V) → (item_of : ℕ → Json) → Graph → List Step → Type 0
AreShownFirst h item_of g steps = All (λ (s : Step). (kind : Conflict) (x : Json) (v w : ℕ) → IsAmong g kind
    → HaveConflict h kind s.from s.to x v w
    → IsShownBefore s.kind (item_of s.item) s.from_version kind x v) steps

-- it has no fault; the graph is the least that has a cycle; these conflicts of it form the first of its
-- cycles: that of the least line that lies on one, of that line's the shortest, of those the one whose
-- lines are, from it on, the least; and of several from one line to the next each is the one that is shown first: by
-- kind, by item, by version. So one text alone is told
pub record IsCycleTold (bytes text : List ℕ) : Type 0 where
  pub ids : List Json
  pub h : List (Transaction Json Json)
  pub spells : Spells bytes ids h
  pub faultless : IsFaultless h
  pub graph : Graph
  pub has : HasCycle h graph
  pub least : (less : Graph) → IsBelow less graph → HasCycle h less → ⊥
  pub items : List Json
  pub steps : List Step
  pub are : AreStepsOf h (nth items) graph steps
  pub is : IsCycle (ConflictIn h graph) (lines_of steps)
  pub first : (other : List ℕ) → IsCycle (ConflictIn h graph) other → IsShownFirst (lines_of steps) other
  pub shown : AreShownFirst h (nth items) graph steps
  pub text_is : text ≡ cycle_text (by_number ids items) steps

-- ---- a line that can't be read

-- lines needn't tell more than their transactions
abbrev pub neither : Wanted
neither = record { real_time = false; sessions = false }

-- the first line that can't be read, or doesn't tell what is wanted besides
pub record IsUnreadable (w : Wanted) (bytes text : List ℕ) : Type 0 where
  pub line : ℕ
  pub fault : LineFault
  pub first : IsFirstUnreadable w bytes line fault
  pub text_is : text ≡ unreadable_text line fault

-- ---- the answer

abbrev pub IsAnswer : Options → List ℕ → Outcome → List ℕ → Type 0
IsAnswer options bytes Yes text = IsYes options bytes text
IsAnswer options bytes No text = IsFaultTold bytes text ⊎ IsCycleTold bytes text
IsAnswer options bytes Unreadable text = IsUnreadable neither bytes text

-- the bytes spell a serializable history
abbrev pub SpellsSerializable : List ℕ → Type 0
SpellsSerializable bytes = (ids : List Json) × (h : List (Transaction Json Json)) × Spells bytes ids h
    × IsSerializable h

-- that text was written
abbrev pub WroteAnswer : Options → (told : Option (List ℕ)) → Outcome → (old new : Option (List ℕ)) → Type 0
WroteAnswer options told outcome old new = (text : List ℕ)
    × IfSome told (λ bytes. IsAnswer options bytes outcome text) × Appends old new text

-- nothing was written, or a front of that text, and less than the whole
abbrev pub WroteAnswerFront : Options → (told old new : Option (List ℕ)) → Type 0
WroteAnswerFront options told old new = AppendsOrForgets old new []
    ⊎ ((outcome : Outcome) × (text : List ℕ) × IfSome told (λ bytes. IsAnswer options bytes outcome text)
    × WritesFront old new text)
