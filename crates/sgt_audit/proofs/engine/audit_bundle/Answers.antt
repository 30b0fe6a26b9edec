use Rattle.std.proofs.Common.{List, refl, subst, sym, ap, ap₂, ◌∙◌}
use Rattle.std.specs.Prelude.{Ok}
use Rattle.sgt_bundle.specs.Parts.{FitTogether, Parts}
use Rattle.sgt_bundle.specs.Text.{Spells}
use Rattle.sgt_bundle.specs.Valid.{IsValid}
use Rattle.sgt_bundle.specs.declared.certificate.Certificate.{Certificate}
use Rattle.sgt_bundle.specs.declared.bundle.SiteLog.{SiteLog}
use Rattle.sgt_audit.specs.Reading.{Begun}
use Rattle.sgt_audit.specs.private.Stops.{IsJudged}
use Rattle.sgt_audit.proofs.Verdicts.{judged-bundle, kept-fit, kept-sections, none-kept, told-map, whole-bundle}
use Rattle.sgt_audit.proofs.engine.audit_bundle.Goals as goal

abbrev parts-of : Certificate → List SiteLog → Parts
parts-of certificate sites = record { certificate = certificate; sites = sites }

pub unreachable-requires : goal.unreachable-requires
unreachable-requires g c = let kept = rw c.in-Ok-Ok.field-0-is at (c.in-Ok-Ok.ensures.kept refl) in
    none-kept _ kept c.in_default.is

pub new-requires : goal.new-requires
new-requires g c =
    let k = c.in-Ok-Ok.kept in
    let all = whole-bundle k (rw c.in-Ok-Ok.field-0-is at c.in-Ok-Ok.ensures.all) in
    let sections = kept-sections k all.1 c.in-Some.sections all.2.0 c.in-Some.is in
    let same = ap₂ parts-of c.into_certificate-certificate.ensures (c.into_logs-logs.ensures
    ∙ ap (λ (s : Begun). s.whole) sections) in
    subst FitTogether (sym same) (kept-fit k all.0 all.1 all.2)

pub returns-in-Some-clause-audited : goal.returns-in-Some-clause-audited
returns-in-Some-clause-audited g c =
    let k = c.in-Ok-Ok.kept in
    let told = rw c.in-Ok-Ok.field-0-is at c.in-Ok-Ok.ensures.judged in
    told-map (IsJudged (Ok k)) (λ bytes. Spells bytes c.new.result × IsValid c.new.result) _
    (λ bytes j.
    let b = judged-bundle k bytes j in
    let sections = kept-sections k b.0 c.in-Some.sections b.1.0 c.in-Some.is in
    let same = ap₂ parts-of c.into_certificate-certificate.ensures (c.into_logs-logs.ensures
    ∙ ap (λ (s : Begun). s.whole) sections) in
    subst (λ p. Spells bytes p × IsValid p) (sym (c.new.ensures ∙ same)) (b.1.1, b.1.2)) told

pub returns-in-Some-clause-valid : goal.returns-in-Some-clause-valid
returns-in-Some-clause-valid g c =
    let k = c.in-Ok-Ok.kept in
    let all = whole-bundle k (rw c.in-Ok-Ok.field-0-is at c.in-Ok-Ok.ensures.all) in
    let sections = kept-sections k all.1 c.in-Some.sections all.2.0 c.in-Some.is in
    let same = ap₂ parts-of c.into_certificate-certificate.ensures (c.into_logs-logs.ensures
    ∙ ap (λ (s : Begun). s.whole) sections) in
    subst IsValid (sym (c.new.ensures ∙ same)) all.2.2
