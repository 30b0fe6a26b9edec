use Rattle.std.proofs.Common.{◌≡◌, ◌+◌, ◌++◌, [], ◌∷◌, sym, subst}
use Rattle.sgt_serial.specs.declared.operations.Operations.{Operations}
use Rattle.sgt_serial.specs.private.Grouped.{entries_in}
use Rattle.sgt_serial.proofs.operations.Operations.change_at.Goals as goal

pub returns-in-Sorted : goal.returns-in-Sorted
returns-in-Sorted c =
    let logs = c.args.logs.now in
    let place = c.args.place in
    let e = c.at.result in (
      e,
      λ from le. subst (λ (o : Operations). entries_in logs o from (place + 1) ≡ entries_in logs o from place
          ++ e ∷ []) (sym c.in-Sorted.is) (c.at.ensures logs from le),
      c.write_of.ensures,
    )
