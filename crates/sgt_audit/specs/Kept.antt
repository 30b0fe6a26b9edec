-- What is kept of a text: the lines read so far, which have no fault.
-- (Of public clauses those alone use these words that say what an auditor was fed.)
use Rattle.std.specs.Prelude.{◌≡◌, ◌↔◌, ◌⊎◌, ℕ, ◌+◌, ◌-◌, Bool, IsTrue, List, length, All, Option, Some, None, slice_get}
use Rattle.sgt_names.specs.Log.{Conflicts, names}
use Rattle.sgt_names.specs.declared.entry.Entry.{Entry}
use Rattle.sgt_names.specs.declared.entry.Entry.TheVariants.{Write, Add, Want, WantAdd}
use Rattle.sgt_notation.specs.declared.SectionLine.{SectionLine}
use Rattle.sgt_bundle.specs.Text.{AreSections}
use Rattle.sgt_bundle.specs.declared.certificate.Certificate.{Certificate}
use Rattle.sgt_bundle.specs.declared.bundle.SiteLog.{SiteLog}
use Rattle.sgt_bundle.specs.declared.certificate.Decision.{Decision}
use Rattle.sgt_audit_decisions.specs.Steps.{AreStepsOf, edges_in}
use Rattle.sgt_audit_decisions.specs.declared.steps.Edge.{Edge}
use Rattle.sgt_audit_cells.specs.Tracks.{TracksOpen, IsReadyFor}
use Rattle.sgt_audit_cells.specs.declared.state.SiteState.{SiteState}
use Rattle.sgt_audit.specs.declared.place.Last.{Last}
use Rattle.sgt_audit.specs.declared.place.Last.TheVariants as last
use Rattle.sgt_audit.specs.declared.place.OpenPlace.{OpenPlace}
use Rattle.sgt_audit.specs.declared.place.Place.{Place}
use Rattle.sgt_audit.specs.declared.walks.Walks.{Walks}
use Rattle.sgt_audit.specs.Faults.{AllKept, Stage, within, complete}
use Rattle.sgt_audit.specs.Reading.{Begun, IsBegun, lines_read}

-- the certificate and these sections are what these lines say, none of which has a fault
pub record Means (second : Bool) (c : Certificate) (b : Begun) (before : List SectionLine) : Type 0 where
  pub begun : IsBegun b
  pub sites : b.sites ≡ c.sites
  pub lines : before ≡ lines_read b
  pub kept : AllKept second c before

-- how far the text was read by then
abbrev pub IsStageOf : Bool → Certificate → List SectionLine → Stage → Type 0
IsStageOf second c before s = ((s ≡ within second c before) × (AreSections c.sites before → ⊥))
    ⊎ ((s ≡ complete second c before) × AreSections c.sites before)

-- what is kept of the last entry
abbrev pub last_of : Option Entry → Last
last_of None = last.NoEntry
last_of (Some (Write tx x v)) = last.Changes tx
last_of (Some (Add tx x v)) = last.Changes tx
last_of (Some (Want tx x v)) = last.Wants tx
last_of (Some (WantAdd tx x v)) = last.Wants tx
last_of (Some _) = last.Shut

-- what is kept of the lines of an open section: the names of its items, what its last entry asks of
-- the next line, and how many finals it has
pub record IsOpenPlace (log : SiteLog) (p : OpenPlace) : Type 0 where
  pub items : p.items.items ≡ names log.items
  pub last : p.last ≡ last_of (slice_get log.entries (length log.entries - 1))
  pub finals : p.finals ≡ length log.finals

abbrev pub IsCurrentPlace : Option SiteLog → Option OpenPlace → Type 0
IsCurrentPlace None None = Unit {0}
IsCurrentPlace (Some log) (Some p) = IsOpenPlace log p
IsCurrentPlace None (Some p) = ⊥
IsCurrentPlace (Some log) None = ⊥

-- the place behind these sections
pub record IsPlace (b : Begun) (p : Place) : Type 0 where
  pub sites : p.sites ≡ b.sites
  pub whole : p.whole ≡ length b.whole
  pub current : IsCurrentPlace b.current p.current

-- what is kept of the sites: nothing of a section that is still to come, or what the open log means
abbrev pub TracksCurrent : List Decision → (whole : ℕ) → Option SiteLog → SiteState → Type 0
TracksCurrent decisions whole None s = IsReadyFor decisions (whole + 1) s
TracksCurrent decisions whole (Some log) s = (s.section ≡ whole + 1)
    × TracksOpen decisions log.items log.entries s

abbrev pub Tracks : List Decision → Begun → SiteState → Type 0
Tracks decisions b s = TracksCurrent decisions (length b.whole) b.current s

-- the step of a walk is a conflict among these entries
abbrev pub IsMet : List Entry → Edge → Type 0
IsMet entries e = Conflicts entries e.step.label.kind e.step.label.item e.from e.step.to

-- each step at a site whose log is whole is a conflict there
abbrev pub AreMet : List Edge → List SiteLog → Type 0
AreMet edges whole =
    All (λ e. (log : SiteLog) → slice_get whole e.step.label.site ≡ Some log
    → IsMet log.entries e) edges

-- what is kept of the walks, where these logs are whole
pub record MeansMet (decisions : List Decision) (whole : List SiteLog) (w : Walks) : Type 0 where
  pub steps : AreStepsOf decisions w.steps
  pub met : IsTrue w.met ↔ AreMet (edges_in decisions) whole
