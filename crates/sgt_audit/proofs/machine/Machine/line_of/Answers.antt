use Rattle.std.proofs.Common.{sym, subst, None, Some, IfOk}
use Rattle.sgt_audit.specs.declared.machine.Progress.TheVariants as at
use Rattle.sgt_audit.specs.Progress.{Stands}
use Rattle.sgt_audit.specs.private.NextLine.{Follows}
use Rattle.sgt_audit.specs.private.Certified.{IsReadingOf}
use Rattle.sgt_audit.proofs.Certified.{read-of}
use Rattle.sgt_audit.proofs.machine.Machine.line_of.Goals as goal

pub returns-in-Ok-Ok-clause-follows : goal.returns-in-Ok-Ok-clause-follows
returns-in-Ok-Ok-clause-follows k s stands =
    let reading = subst (λ l. IsReadingOf l k.from_line-read.result) k.as_slice.ensures.value
    (read-of k.as_slice.result.now k.from_line-read.result k.from_line-read.ensures.ok
    k.from_line-read.ensures.only) in
    let begins = rw k.in-Ok-Ok.field-0-is at (k.in-Ok-Ok.ensures.begins k.args.line.now.items reading) in
    subst (λ s. Follows s k.args.line.now.items (at.Reading k.in-Ok-Ok.kept) None)
    (sym (subst (λ q. Stands q s) k.in-Headed.is stands)) begins

pub returns-in-Ok-Err-clause-follows : goal.returns-in-Ok-Err-clause-follows
returns-in-Ok-Err-clause-follows k s stands =
    let reading = subst (λ l. IsReadingOf l k.from_line-read.result) k.as_slice.ensures.value
    (read-of k.as_slice.result.now k.from_line-read.result k.from_line-read.ensures.ok
    k.from_line-read.ensures.only) in
    let begins = rw k.in-Ok-Err.field-0-is at (k.in-Ok-Err.ensures.begins k.args.line.now.items reading) in
    subst (λ s. Follows s k.args.line.now.items k.args.self.now.progress (Some k.in-Ok-Err.fault))
    (sym (subst (λ q. Stands q s) k.in-Headed.is stands)) begins

pub returns-in-Reading-clause-follows : goal.returns-in-Reading-clause-follows
returns-in-Reading-clause-follows k s stands =
    subst (λ l. IfOk k.line-in-Reading.result (Follows s l k.line-in-Reading.new.self.progress))
    k.as_slice-in-Reading.ensures.value (k.line-in-Reading.ensures.follows s stands)
