use Rattle.std.proofs.Common.{◌≡◌, ◌+◌, ◌++◌, [], ◌∷◌, sym, subst}
use Rattle.sgt_serial.specs.declared.operations.Operations.{Operations}
use Rattle.sgt_serial.specs.private.Grouped.{entries_in}
use Rattle.sgt_serial.proofs.operations.Operations.at.Goals as goal

pub returns-in-Sorted : goal.returns-in-Sorted
returns-in-Sorted c from le =
    let logs = c.args.logs.now in
    let place = c.args.place in
    subst (λ (o : Operations). entries_in logs o from (place + 1) ≡ entries_in logs o from place
    ++ c.at-in-Sorted.result ∷ []) (sym c.in-Sorted.is)
    (c.at-in-Sorted.ensures logs from le)
