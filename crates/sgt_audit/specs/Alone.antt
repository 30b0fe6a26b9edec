-- What is kept of one section, where nothing of the sections before it is kept.
use Rattle.std.specs.Prelude.{◌≡◌, ◌≢◌, ◌↔◌, ◌<◌, ℕ, ◌+◌, Bool, List, All, Option, Some, None, IsTrue}
use Rattle.sgt_notation.specs.Spelling.{line_text}
use Rattle.sgt_notation.specs.declared.SectionLine.{SectionLine}
use Rattle.sgt_notation.specs.declared.SectionLine.TheVariants.{End}
use Rattle.sgt_bundle.specs.Certificate.{IsDecidedOnce, AreRanks, ranks}
use Rattle.sgt_bundle.specs.declared.bundle.SiteLog.{SiteLog}
use Rattle.sgt_bundle.specs.declared.certificate.Certificate.{Certificate}
use Rattle.sgt_audit_decisions.specs.declared.steps.Edge.{Edge}
use Rattle.sgt_audit_cells.specs.Tracks.{IsReadyFor}
use Rattle.sgt_audit.specs.declared.alone.Alone.{Alone}
use Rattle.sgt_audit.specs.declared.faults.Fault.{Fault}
use Rattle.sgt_audit.specs.declared.faults.Fault.TheVariants.{WalkStep}
use Rattle.sgt_audit.specs.Faults.{fault_number, IsLineIn, Keeps, Rule, Breaks, within, whole}
use Rattle.sgt_audit.specs.Kept.{IsMet, IsPlace, Tracks}
use Rattle.sgt_audit.specs.Reading.{Begun, IsBegun, lines_read}
use Rattle.sgt_audit.specs.private.Following.{with_next}

-- no section of this site or a later one was met
pub record IsReadyAlone (c : Certificate) (site : ℕ) (a : Alone) : Type 0 where
  pub sites : a.place.sites ≡ c.sites
  pub state : IsReadyFor c.decisions (site + 1) a.state

-- what is kept is of the section that is open in these lines, whatever the sections before it are
pub record StandsAlone (c : Certificate) (b : Begun) (a : Alone) : Type 0 where
  pub once : IsDecidedOnce c.decisions
  pub ranked : AreRanks (ranks c.decisions)
  pub sites : b.sites ≡ c.sites
  pub begun : IsBegun b
  pub place : IsPlace b a.place
  pub open_site : Tracks c.decisions b a.state

-- with a section's last line it is known whether these steps are conflicts in its log
abbrev pub MeetsSteps : List Edge → Option SiteLog → SectionLine → Bool → Type 0
MeetsSteps edges (Some log) End met = IsTrue met ↔ All (IsMet log.entries) edges
MeetsSteps edges _ _ met = Unit {0}

-- after one more line: it is one of the format and keeps every rule but that of the walks, or this
-- is the least fault of these
abbrev pub FollowsAlone : Certificate → List Edge → Begun → List ℕ → Alone → Option Fault → Type 0
FollowsAlone c edges b l new None = (line : SectionLine) × IsLineIn new.second line
    × (l ≡ line_text line)
    × ((f : Fault) → fault_number f < fault_number WalkStep → Keeps c (lines_read b) line f)
    × StandsAlone c (with_next b b.current line) new × MeetsSteps edges b.current line new.met
FollowsAlone c edges b l new (Some f) =
    Breaks (Rule (within new.second c (lines_read b)) (whole l)) f × (f ≢ WalkStep)
