-- What a text of a history is answered by, where orders are to keep something.
use Rattle.std.specs.Prelude.{◌≡◌, ◌⊎◌, ℕ, List, [], ◌++◌, length, Option, Some, IfSome, slice_get}
use Rattle.std.specs.Io.KnownBytes.{Appends}
use Rattle.json.specs.Json.{Json}
use Rattle.sgt_names.specs.Device.{AppendsOrForgets, WritesFront}
use Rattle.sgt_names.specs.declared.outcome.Outcome.{Outcome}
use Rattle.sgt_names.specs.declared.outcome.Outcome.TheVariants.{Yes, No, Unreadable}
use Rattle.sgt_history.specs.declared.named.Conflict.{Conflict}
use Rattle.sgt_history.specs.declared.named.Graph.TheVariants.{Whole}
use Rattle.sgt_history.specs.Conflicts.{ConflictIn, HasCycle, HaveConflict, IsCycle}
use Rattle.sgt_history.specs.Flaws.{IsFaultless}
use Rattle.sgt_history.specs.Transaction.{Transaction}
use Rattle.sgt_history_text.specs.Name.{compact}
use Rattle.sgt_history_text.specs.Reading.{nth}
use Rattle.sgt_history_text.specs.Text.{SpellsWith}
use Rattle.sgt_history_text.specs.declared.wanted.Wanted.{Wanted}
use Rattle.sgt_history_kept.specs.Least.{IsLeastKeeping}
use Rattle.sgt_history_kept.specs.Sooner.{IsFirstKept}
use Rattle.sgt_history_time.specs.declared.times.Times.{Times}
use Rattle.sgt_history_time.specs.Kept.{IsEarlier}
use Rattle.sgt_history_time.specs.Serializable.{IsSerializableKeeping, ServesKeeping}
use Rattle.sgt_history_time.specs.Steps.{StandsBefore}
use Rattle.sgt_history_verdict.specs.Steps.{Leads, place_behind}
use Rattle.sgt_check.specs.Answer.{IsCycleTold, IsFaultTold, IsStepOf, IsUnreadable, by_number, compactly}
use Rattle.sgt_check.specs.Rank.{IsShownBefore}
use Rattle.sgt_check.specs.Text.{aborted_of, committed_of, counts_text, order_part}
use Rattle.sgt_check.specs.declared.options.Options.{Options}
use Rattle.sgt_check_kept.specs.Link.{IsOfSession, IsTimed}
use Rattle.sgt_check_kept.specs.Text.{kept_text}
use Rattle.sgt_check_kept.specs.declared.link.Link.{Link}
use Rattle.sgt_check_kept.specs.declared.link.Link.TheVariants as link

-- ---- yes

-- the bytes spell a history that an order serves which keeps what is wanted; it is told where it is asked for, and has
-- the least line first of those that may stand behind those before
pub record IsKeptYes (w : Wanted) (options : Options) (bytes text : List ℕ) : Type 0 where
  pub ids : List Json
  pub h : List (Transaction Json Json)
  pub times : List (Option Times)
  pub sessions : List (Option Json)
  pub spells : SpellsWith w bytes ids h times sessions
  pub order : List ℕ
  pub keeps : ServesKeeping h times sessions order
  pub least : IsLeastKeeping h times sessions order
  pub text_is : text ≡ counts_text (committed_of h) (aborted_of h) ++ order_part options.order (compactly ids) order

-- ---- a cycle with steps of sessions or real time

-- the step, whose item or session has a number, leads from line a to line b: the conflict that is shown first of all
-- that do; where there is none, by their session; where this isn't one either, by time
abbrev pub IsLinkOf : {V S : Type 0} → List (Transaction Json V) → List (Option Times) → List (Option S) → (ℕ → Json)
    → (ℕ → S) → (a b : ℕ) → Link → Type 0
IsLinkOf h times sessions item_of session_of a b (link.Conflict s) = IsStepOf h item_of Whole s
    × Leads s a b
    × ((kind : Conflict) (x : Json) (v w : ℕ) → HaveConflict h kind a b x v w
    → IsShownBefore s.kind (item_of s.item) s.from_version kind x v)
IsLinkOf h times sessions item_of session_of a b (link.Session from to session) =
    (from ≡ a) × (to ≡ b) × (ConflictIn h Whole a b → ⊥) × IsOfSession sessions a b (session_of session)
IsLinkOf h times sessions item_of session_of a b (link.Time from to done begin) =
    (from ≡ a) × (to ≡ b) × (ConflictIn h Whole a b → ⊥) × (IsEarlier sessions a b → ⊥) × IsTimed times a b done begin

-- so they lead from each of the lines to the next, and from the last to the first
pub record AreLinksOf {V S : Type 0} (h : List (Transaction Json V)) (times : List (Option Times))
    (sessions : List (Option S))
    (item_of : ℕ → Json) (session_of : ℕ → S) (lines : List ℕ) (links : List Link) : Type 0 where
  pub size : length links ≡ length lines
  pub each : (place a b : ℕ) (l : Link) → slice_get links place ≡ Some l → slice_get lines place ≡ Some a
      → slice_get lines (place_behind place (length lines)) ≡ Some b
      → IsLinkOf h times sessions item_of session_of a b l

-- no line has a fault, and conflicts alone have no cycle; but these lines form one, of conflicts and of what is wanted:
-- the first of conflicts and sessions alone, or, where these have none, with real time too
pub record IsKeptCycleTold (w : Wanted) (bytes text : List ℕ) : Type 0 where
  pub ids : List Json
  pub h : List (Transaction Json Json)
  pub times : List (Option Times)
  pub sessions : List (Option Json)
  pub spells : SpellsWith w bytes ids h times sessions
  pub faultless : IsFaultless h
  pub alone : HasCycle h Whole → ⊥
  pub lines : List ℕ
  pub cycle : IsCycle (StandsBefore h times sessions) lines
  pub first : IsFirstKept h times sessions lines
  pub items : List Json
  pub names : List Json
  pub links : List Link
  pub along : AreLinksOf h times sessions (nth items) (nth names) lines links
  pub text_is : text ≡ kept_text (by_number ids items) (λ n. compact (nth names n)) links

-- ---- the answer

abbrev pub IsKeptAnswer : Wanted → Options → List ℕ → Outcome → List ℕ → Type 0
IsKeptAnswer w options bytes Yes text = IsKeptYes w options bytes text
IsKeptAnswer w options bytes No text = IsFaultTold bytes text ⊎ (IsCycleTold bytes text ⊎ IsKeptCycleTold w bytes text)
IsKeptAnswer w options bytes Unreadable text = IsUnreadable w bytes text

-- the bytes spell a history, and tell what is wanted, so that an order serves and keeps it
abbrev pub SpellsKeeping : Wanted → List ℕ → Type 0
SpellsKeeping w bytes = (ids : List Json) × (h : List (Transaction Json Json)) × (times : List (Option Times))
    × (sessions : List (Option Json))
    × SpellsWith w bytes ids h times sessions × IsSerializableKeeping h times sessions

-- that text was written
abbrev pub WroteKeptAnswer : Wanted → Options → (told : Option (List ℕ)) → Outcome → (old new : Option (List ℕ))
    → Type 0
WroteKeptAnswer w options told outcome old new = (text : List ℕ)
    × IfSome told (λ bytes. IsKeptAnswer w options bytes outcome text) × Appends old new text

-- nothing was written, or a front of that text, and less than the whole
abbrev pub WroteKeptAnswerFront : Wanted → Options → (told old new : Option (List ℕ)) → Type 0
WroteKeptAnswerFront w options told old new = AppendsOrForgets old new []
    ⊎ ((outcome : Outcome) × (text : List ℕ) × IfSome told (λ bytes. IsKeptAnswer w options bytes outcome text)
    × WritesFront old new text)
