-- What is kept of a text: its certificate, the judge of the section that is open, the walks, and the
-- sections themselves where they are asked for.
use Rattle.std.specs.Prelude.{◌≡◌, List, IfSome}
use Rattle.sgt_notation.specs.declared.SectionLine.{SectionLine}
use Rattle.sgt_audit.specs.declared.kept.Kept.{Kept}
use Rattle.sgt_audit.specs.Alone.{StandsAlone}
use Rattle.sgt_audit.specs.Faults.{Stage}
use Rattle.sgt_audit.specs.Kept.{IsStageOf, Means, MeansMet}
use Rattle.sgt_audit.specs.Reading.{Begun}

-- all that is kept is what these lines say, none of which has a fault; and these sections, where
-- they are kept too
pub record Holds (k : Kept) (b : Begun) (before : List SectionLine) : Type 0 where
  pub means : Means k.alone.second k.certificate b before
  pub stands : StandsAlone k.certificate b k.alone
  pub walks : MeansMet k.certificate.decisions b.whole k.walks
  pub sections : IfSome k.sections (λ s. s ≡ b)

-- what is kept means this stage of a text
abbrev pub IsAt : Kept → Stage → Type 0
IsAt k s = (b : Begun) × (before : List SectionLine) × Holds k b before
    × IsStageOf k.alone.second k.certificate before s
