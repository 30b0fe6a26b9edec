use Rattle.std.proofs.Common.{sym, subst, None, Some}
use Rattle.sgt_audit.specs.declared.machine.Progress.TheVariants as at
use Rattle.sgt_audit.specs.Progress.{Stands}
use Rattle.sgt_audit.specs.private.NextLine.{Follows}
use Rattle.sgt_audit.proofs.Certified.{read-of}
use Rattle.sgt_audit.proofs.machine.Machine.line.Goals as goal

pub returns-in-Ok-Ok-clause-follows : goal.returns-in-Ok-Ok-clause-follows
returns-in-Ok-Ok-clause-follows k s stands =
    let reading =
    read-of k.args.line.now k.from_line-read.result k.from_line-read.ensures.ok k.from_line-read.ensures.only in
    let begins = rw k.in-Ok-Ok.field-0-is at (k.in-Ok-Ok.ensures.begins k.args.line.now reading) in
    subst (λ s. Follows s k.args.line.now (at.Reading k.in-Ok-Ok.kept) None)
    (sym (subst (λ q. Stands q s) k.in-Headed.is stands)) begins

pub returns-in-Ok-Err-clause-follows : goal.returns-in-Ok-Err-clause-follows
returns-in-Ok-Err-clause-follows k s stands =
    let reading =
    read-of k.args.line.now k.from_line-read.result k.from_line-read.ensures.ok k.from_line-read.ensures.only in
    let begins = rw k.in-Ok-Err.field-0-is at (k.in-Ok-Err.ensures.begins k.args.line.now reading) in
    subst (λ s. Follows s k.args.line.now k.args.self.now.progress (Some k.in-Ok-Err.fault))
    (sym (subst (λ q. Stands q s) k.in-Headed.is stands)) begins

pub returns-in-Ok-clause-follows : goal.returns-in-Ok-clause-follows
returns-in-Ok-clause-follows k s stands = k.in-Ok.ensures.follows s (subst (λ q. Stands q s) k.in-Reading.is stands)
