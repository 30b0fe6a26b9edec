use Rattle.std.proofs.Common.{◌≡◌, ◌∙◌, sym, subst}
use Rattle.std.specs.List.{filter}
use Rattle.sgt_serial.specs.declared.operations.Operations.{Operations}
use Rattle.sgt_serial.specs.private.Grouped.{AreOperationsOf, entries_in}
use Rattle.sgt_serial.specs.private.Operations.{all_entries, is_by}
use Rattle.sgt_serial.proofs.operations.Operations.span.Goals as goal

pub returns-in-Sorted-clause-entries : goal.returns-in-Sorted-clause-entries
returns-in-Sorted-clause-entries c logs of =
    let tx = c.args.tx in
    let span = c.span-in-Sorted.result in
    subst (λ (o : Operations). entries_in logs o span.from span.to ≡ filter (is_by tx) (all_entries logs))
    (sym c.in-Sorted.is)
    (c.span-in-Sorted.ensures.entries logs ∙ (subst (AreOperationsOf logs) c.in-Sorted.is of) tx)
