-- What may follow the lines of sections that were read, and what they are with it.
use Rattle.std.specs.Prelude.{◌≡◌, ◌-◌, ◌<◌, List, [], ◌∷◌, ◌++◌, length, All, Option, Some, None, slice_get}
use Rattle.std.specs.Option.{ForSome}
use Rattle.sgt_names.specs.Limits.{max_items}
use Rattle.sgt_names.specs.Log.{names}
use Rattle.sgt_notation.specs.declared.SectionLine.{SectionLine}
use Rattle.sgt_notation.specs.declared.SectionLine.TheVariants.{Site, Initial, Logged, Final, End}
use Rattle.sgt_bundle.specs.Parts.{ComesBefore}
use Rattle.sgt_bundle.specs.declared.bundle.SiteLog.{SiteLog}
use Rattle.sgt_audit.specs.declared.place.Last.TheVariants as last
use Rattle.sgt_audit.specs.declared.place.OpenPlace.{OpenPlace}
use Rattle.sgt_audit.specs.Reading.{Begun}

-- what may stand behind the lines of an open section
abbrev pub Fits : SiteLog → SectionLine → Type 0
Fits log (Site k) = ⊥
Fits log (Initial h) = (log.entries ≡ []) × (log.finals ≡ []) × (length log.items < max_items)
    × All (λ x. ComesBefore x h.item) (names log.items)
Fits log (Logged e) = log.finals ≡ []
Fits log (Final h) = slice_get (names log.items) (length log.finals) ≡ Some h.item
Fits log End = length log.finals ≡ length log.items

-- the same of what is kept of those lines
abbrev pub FitsAt : OpenPlace → SectionLine → Type 0
FitsAt p (Site k) = ⊥
FitsAt p (Initial h) = (p.last ≡ last.NoEntry) × (p.finals ≡ 0) × (length p.items.items < max_items)
    × ForSome (slice_get p.items.items (length p.items.items - 1)) (λ x. ComesBefore x h.item)
FitsAt p (Logged e) = p.finals ≡ 0
FitsAt p (Final h) = slice_get p.items.items p.finals ≡ Some h.item
FitsAt p End = p.finals ≡ length p.items.items

-- what may stand between sections
abbrev pub FitsBetween : Begun → SectionLine → Type 0
FitsBetween b (Site k) = (k ≡ length b.whole) × (k < b.sites)
FitsBetween b _ = ⊥

abbrev pub MayFollow : Begun → Option SiteLog → SectionLine → Type 0
MayFollow b None line = FitsBetween b line
MayFollow b (Some log) line = Fits log line

-- the open section with one more line
abbrev pub with_line : SiteLog → SectionLine → SiteLog
with_line log (Initial h) = record log { items = log.items ++ h ∷ [] }
with_line log (Logged e) = record log { entries = log.entries ++ e ∷ [] }
with_line log (Final h) = record log { finals = log.finals ++ h ∷ [] }
with_line log _ = log

-- an empty log
abbrev pub no_log : SiteLog
no_log = record { items = []; entries = []; finals = [] }

-- what was read, and one more line
abbrev pub next_current : SiteLog → SectionLine → Option SiteLog
next_current log End = None
next_current log line = Some (with_line log line)

abbrev pub next_whole : List SiteLog → SiteLog → SectionLine → List SiteLog
next_whole whole log End = whole ++ log ∷ []
next_whole whole log _ = whole

abbrev pub with_next : Begun → Option SiteLog → SectionLine → Begun
with_next b None line = record b { current = Some no_log }
with_next b (Some log) line =
    record b { whole = next_whole b.whole log line; current = next_current log line }
