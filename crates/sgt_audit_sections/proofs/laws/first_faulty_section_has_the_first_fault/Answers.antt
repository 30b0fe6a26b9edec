use Rattle.sgt_audit_sections.proofs.SectionFaults.{own-first}
use Rattle.sgt_audit_sections.proofs.laws.first_faulty_section_has_the_first_fault.Goals as goal

pub returns : goal.returns
returns g = own-first
