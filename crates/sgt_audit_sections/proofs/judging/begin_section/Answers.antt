use Rattle.std.proofs.Common.{refl}
use Rattle.std.proofs.lemmas.List.{length-replicate}
use Rattle.sgt_audit.specs.declared.faults.Fault.TheVariants as fault
use Rattle.sgt_audit_sections.specs.Sections.{empty_log}
use Rattle.sgt_audit_sections.proofs.OneSection.{at_site, begins, fresh}
use Rattle.sgt_audit_sections.proofs.judging.begin_section.Goals as goal

pub returns-clause-underway : goal.returns-clause-underway
returns-clause-underway c bytes =
    let cert = c.args.certificate.now in
    let good = c.requires.good in
    let k = c.args.site in
    begins c.args.alone.now.second cert k bytes c.begin.new.self
    (c.begin.ensures.stands cert (at_site cert k) c.requires.ready (good.itself fault.DecidedTwice)
    (good.itself fault.Ranks) (fresh cert k good c.requires.site) refl (length-replicate k empty_log) refl)
    c.begin.ensures.second
