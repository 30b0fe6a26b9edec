-- What is shown of a step of a walk that is no conflict of the logs.
use Rattle.std.specs.Prelude.{◌≡◌, ◌↔◌, ◌⊎◌, ℕ, ◌<◌, Bool, IsTrue, List, [], ◌∷◌, ◌++◌, Option, Some, take, slice_get}
use Rattle.sgt_notation.specs.Spelling.{line_text}
use Rattle.sgt_notation.specs.declared.SectionLine.{SectionLine}
use Rattle.sgt_notation.specs.declared.SectionLine.TheVariants.{End}
use Rattle.sgt_bundle.specs.Valid.{IsLogged}
use Rattle.sgt_bundle.specs.Text.{sections_from}
use Rattle.sgt_bundle.specs.Certificate.{stops}
use Rattle.sgt_bundle.specs.declared.certificate.Step.{Step}
use Rattle.sgt_bundle.specs.declared.certificate.Decision.{Decision}
use Rattle.sgt_bundle.specs.declared.certificate.Decision.TheVariants.{Refuse}
use Rattle.sgt_bundle.specs.declared.bundle.SiteLog.{SiteLog}
use Rattle.sgt_names.specs.Log.{Conflicts}
use Rattle.sgt_explain_lines.specs.Values.{entries_of}
use Rattle.sgt_explain_lines.specs.Numbered.{IsSectionOf, open_site, numbered_entries}
use Rattle.sgt_explain_lines.specs.declared.section.Logged.{Logged}
use Rattle.sgt_explain_lines.specs.declared.section.Section.{Section}
use Rattle.sgt_explain_steps.specs.Told.{begins_with_read, ends_with_read}
use Rattle.sgt_explain_steps.specs.Unmet.{ShowsOwn, AreMisfit, ShowsOther, IsStepAt, SameStep}
use Rattle.sgt_explain_steps.specs.declared.unmet.Unmet.{Unmet}

-- the lines before the end of this site's section
pub record EndsSite (lines : List SectionLine) (site : ℕ) (upto : List SectionLine) : Type 0 where
  pub later : List SectionLine
  pub cut : lines ≡ upto ++ End ∷ later
  pub begun : open_site upto ≡ Some site

-- each step of an earlier walk, and each earlier step of the same, is a conflict of the logs
abbrev pub AllMetBefore : List Decision → List SiteLog → Unmet → Type 0
AllMetBefore decisions logs u = (number tx : ℕ) (walk : List Step) (place from : ℕ) (step : Step)
    → slice_get decisions number ≡ Some (Refuse tx walk) → slice_get walk place ≡ Some step
    → slice_get (tx ∷ stops walk) place ≡ Some from
    → (number < u.number) ⊎ ((number ≡ u.number) × (place < u.place)) → IsLogged logs from step

-- of the end of the last section: the first step of the refusals' walks that is no conflict of the
-- logs, and of the entries of its site the two that the step is about, as far as they are there, and
-- a conflict of another kind, if there is one, of the same transactions on the item
pub record ShowsStep (decisions : List Decision) (before : List SectionLine) (line : List ℕ) (shown : Unmet) : Type 0
  where
    pub last : line ≡ line_text End
    pub at : IsStepAt decisions shown
    pub unmet : (logs : List SiteLog) → sections_from 0 logs ≡ before ++ End ∷ []
        → IsLogged logs shown.from shown.step → ⊥
    pub earlier : (logs : List SiteLog) → sections_from 0 logs ≡ before ++ End ∷ []
        → AllMetBefore decisions logs shown
    pub upto : List SectionLine
    pub section : EndsSite (before ++ End ∷ []) shown.step.label.site upto
    pub first : ShowsOwn (numbered_entries upto) shown.from
        (begins_with_read shown.step.label.kind) shown.step.label.item shown.first
    pub second : ShowsOwn (numbered_entries upto) shown.step.to
        (ends_with_read shown.step.label.kind) shown.step.label.item shown.second
    pub misfit : (one other : Logged) → shown.first ≡ Some one → shown.second ≡ Some other
        → AreMisfit (numbered_entries upto) one other
    pub other : ShowsOther (numbered_entries upto) shown.from shown.step shown.other

-- ---- for private clauses

-- whether the section of the site is open
abbrev pub IsOpenAt : Bool → Option ℕ → (site : ℕ) → Type 0
IsOpenAt is_open opened site = IsTrue is_open ↔ (opened ≡ Some site)

-- the line at this place ends the section of the site
abbrev pub EndsAt : List SectionLine → (site place : ℕ) → Type 0
EndsAt lines site place =
    (slice_get lines place ≡ Some End) × (open_site (take place lines) ≡ Some site)

-- none of the first so many lines does
abbrev pub NoneEnds : List SectionLine → (site count : ℕ) → Type 0
NoneEnds lines site count = (place : ℕ) → place < count → EndsAt lines site place → ⊥

-- and none of all
abbrev pub EndsNowhere : List SectionLine → (site : ℕ) → Type 0
EndsNowhere lines site = (upto : List SectionLine) → EndsSite lines site upto → ⊥

-- of the steps of all walks the first that is no conflict of the logs
pub record IsUnmetStep (decisions : List Decision) (before : List SectionLine) (u : Unmet) : Type 0 where
  pub at : IsStepAt decisions u
  pub unmet : (logs : List SiteLog) → sections_from 0 logs ≡ before ++ End ∷ []
      → IsLogged logs u.from u.step → ⊥
  pub earlier : (logs : List SiteLog) → sections_from 0 logs ≡ before ++ End ∷ []
      → AllMetBefore decisions logs u

-- what is kept is the section of this site, whole
pub record IsWhole (lines : List SectionLine) (site : ℕ) (section : Section) : Type 0 where
  pub upto : List SectionLine
  pub ends : EndsSite lines site upto
  pub is : IsSectionOf upto section

-- a step with what the whole section of its site has of it
pub record IsStepThere (lines : List SectionLine) (at shown : Unmet) : Type 0 where
  pub section : Section
  pub whole : IsWhole lines at.step.label.site section
  pub same : SameStep at shown
  pub broken : Conflicts
      (entries_of section.entries.items) shown.step.label.kind shown.step.label.item shown.from shown.step.to → ⊥
  pub first : ShowsOwn section.entries.items shown.from
      (begins_with_read shown.step.label.kind) shown.step.label.item shown.first
  pub second : ShowsOwn section.entries.items shown.step.to
      (ends_with_read shown.step.label.kind) shown.step.label.item shown.second
  pub other : ShowsOther section.entries.items shown.from shown.step shown.other
