-- What was looked up of a line.
use Rattle.std.specs.Prelude.{List, Option, Some, None}
use Rattle.sgt_names.specs.Log.{names}
use Rattle.sgt_names.specs.declared.entry.Entry.{Entry}
use Rattle.sgt_names.specs.declared.entry.Holding.{Holding}
use Rattle.sgt_notation.specs.declared.SectionLine.{SectionLine}
use Rattle.sgt_notation.specs.declared.SectionLine.TheVariants.{Logged}
use Rattle.sgt_bundle.specs.declared.certificate.Decision.{Decision}
use Rattle.sgt_audit_decisions.specs.Decided.{IsRulingOn}
use Rattle.sgt_audit_cells.specs.Tracks.{TracksOpen, IsPlaceAmong}
use Rattle.sgt_audit_cells.specs.declared.state.SiteState.{SiteState}
use Rattle.sgt_audit.specs.declared.known.Known.{Known}

-- of an entry: the place of its item in the open section, and what is decided on its transaction
pub record IsKnownOf (decisions : List Decision) (s : SiteState) (e : Entry) (k : Known) : Type 0 where
  pub place : (items : List Holding) (entries : List Entry) → TracksOpen decisions items entries s
      → IsPlaceAmong (names items) e k.place
  pub ruling : IsRulingOn decisions e k.ruling

-- of a line: the same, if it is an entry
abbrev pub IsKnownLine : List Decision → SiteState → SectionLine → Option Known → Type 0
IsKnownLine decisions s (Logged e) (Some k) = IsKnownOf decisions s e k
IsKnownLine decisions s (Logged e) None = ⊥
IsKnownLine decisions s _ known = Unit {0}
