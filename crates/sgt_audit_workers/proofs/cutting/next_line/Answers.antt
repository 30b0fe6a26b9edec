use Rattle.std.proofs.Common.{Err, ap, arith, refl}
use Rattle.sgt_audit_workers.proofs.Reading.{spends-told}
use Rattle.sgt_notation.proofs.Texts.{fault-met}
use Rattle.sgt_audit_workers.proofs.cutting.next_line.Goals as goal

pub returns-in-Err-ReadFault-clause-read_fault : goal.returns-in-Err-ReadFault-clause-read_fault
returns-in-Err-ReadFault-clause-read_fault g c same told first spent counts =
    fault-met told _ first _ _ _ _ _ refl (spends-told _ _ told c.args.lines.now _ spent) refl
    (omega (arith, counts, c.in-Err-ReadFault.ensures.asks))
    (c.in-Err-ReadFault.ensures.read_fault (ap Err c.in-Err-ReadFault.field-0-is))
