use Rattle.std.proofs.Common.{◌≡◌, ◌+◌, ◌++◌, [], ◌∷◌, sym, ap, ◌∙◌, subst}
use Rattle.std.specs.Prelude.{is_some}
use Rattle.sgt_serial.specs.declared.operations.Operations.{Operations}
use Rattle.sgt_serial.specs.private.Grouped.{entries_in}
use Rattle.sgt_serial.proofs.operations.Operations.is_read.Goals as goal

pub returns-in-Sorted : goal.returns-in-Sorted
returns-in-Sorted c =
    let logs = c.args.logs.now in
    let place = c.args.place in
    let found = c.read_at.ensures in (
      found.0,
      λ from le. subst (λ (o : Operations). entries_in logs o from (place + 1) ≡ entries_in logs o from place
          ++ found.0 ∷ []) (sym c.in-Sorted.is) (found.1 logs from le),
      c.is_some.ensures ∙ ap is_some found.2,
    )
