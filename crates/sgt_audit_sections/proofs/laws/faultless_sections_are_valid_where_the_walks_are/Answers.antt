use Rattle.sgt_audit_sections.proofs.SectionFaults.{found-no_fault, no_fault-found, missed-first, trailing-first}
use Rattle.sgt_audit_sections.proofs.laws.faultless_sections_are_valid_where_the_walks_are.Goals as goal

pub returns-clause-valid : goal.returns-clause-valid
returns-clause-valid g second c logs good kept each =
    (found-no_fault second c logs good kept each, no_fault-found second c logs good kept each)

pub returns-clause-walks : goal.returns-clause-walks
returns-clause-walks g second c logs bytes good kept each = missed-first second c logs good kept each bytes

pub returns-clause-trailing : goal.returns-clause-trailing
returns-clause-trailing g second c logs bytes good kept each = trailing-first second c logs good kept each bytes
