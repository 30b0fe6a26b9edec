-- The rules that a line is judged by: all, by a certificate, or those that need none.
use Rattle.std.specs.Prelude.{List}
use Rattle.sgt_notation.specs.declared.SectionLine.{SectionLine}
use Rattle.sgt_bundle.specs.declared.certificate.Certificate.{Certificate}
use Rattle.sgt_audit.specs.declared.faults.Fault.{Fault}
use Rattle.sgt_audit.specs.declared.faults.Fault.TheVariants as fault
use Rattle.sgt_audit.specs.declared.rules.Rules.{Rules}
use Rattle.sgt_audit.specs.declared.rules.Rules.TheVariants as by
use Rattle.sgt_audit.specs.Faults.{Keeps}

-- what is asked of a certificate alone
abbrev pub OfCertificate : Rules → Type 0 → Type 0
OfCertificate by.Certified asked = asked
OfCertificate by.Asked asked = Unit {0}

-- what a line keeps by these rules: every one; or, where the decisions are those that the entries ask
-- for, those that speak neither of ranks, nor of the order of decisions, nor of walks
abbrev pub KeepsBy : Rules → Certificate → List SectionLine → SectionLine → Fault → Type 0
KeepsBy rules c before line fault.RankOrder = OfCertificate rules (Keeps c before line fault.RankOrder)
KeepsBy rules c before line fault.DecisionOrder =
    OfCertificate rules (Keeps c before line fault.DecisionOrder)
KeepsBy rules c before line fault.WalkStep = OfCertificate rules (Keeps c before line fault.WalkStep)
KeepsBy rules c before line f = Keeps c before line f
