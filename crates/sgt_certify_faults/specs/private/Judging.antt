-- What a line is judged by.
use Rattle.std.specs.Prelude.{◌≡◌, ◌↔◌, ℕ, List, All, Option, Some, None}
use Rattle.std.specs.List.{filter_map}
use Rattle.sgt_names.specs.Entry.{tx_of}
use Rattle.sgt_names.specs.Limits.{max_sites}
use Rattle.sgt_names.specs.declared.entry.Entry.{Entry}
use Rattle.sgt_notation.specs.declared.SectionLine.{SectionLine}
use Rattle.sgt_notation.specs.declared.SectionLine.TheVariants.{Logged}
use Rattle.sgt_bundle.specs.Valid.{IsDecided}
use Rattle.sgt_bundle.specs.declared.certificate.Certificate.{Certificate}
use Rattle.sgt_bundle.specs.declared.certificate.Decision.{Decision}
use Rattle.sgt_audit.specs.Faults.{Breaks, logged_in}
use Rattle.sgt_audit.specs.declared.faults.Fault.{Fault}
use Rattle.sgt_certify_logs.specs.Sound.{EndAlike}

-- every rule is kept, or this is the least that is broken
abbrev pub IsJudged : (Fault → Type 0) → Option Fault → Type 0
IsJudged rule None = (f : Fault) → rule f
IsJudged rule (Some f) = Breaks rule f

-- these decisions, of all sites
abbrev pub asked_for : List Decision → Certificate
asked_for ds = record { decisions = ds; sites = max_sites }

-- the decisions suit the entry exactly where no earlier entry of its transaction asks for another
-- kind of end
abbrev pub TellsOdds : List Decision → List SectionLine → Entry → Type 0
TellsOdds ds before e = ((number : ℕ) × IsDecided ds e number)
    ↔ All (λ f. tx_of f ≡ tx_of e → EndAlike f e) (filter_map logged_in before)

abbrev pub TellsLineOdds : List Decision → List SectionLine → SectionLine → Type 0
TellsLineOdds ds before (Logged e) = TellsOdds ds before e
TellsLineOdds ds before _ = Unit {0}
