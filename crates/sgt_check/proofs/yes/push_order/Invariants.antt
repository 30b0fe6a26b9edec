use Rattle.std.proofs.Common.{◌≡◌, ◌++◌, take, codes}
use Rattle.std.specs.List.{flat_map}
use Rattle.sgt_check.specs.Told.{id_part, spelled}
use Rattle.sgt_check.proofs.yes.push_order.Given as goal

abbrev pub invariant-loop-line : goal.invariant-loop-line
invariant-loop-line l =
    l.out.items ≡ l.fn.out.items ++ (codes "---\n" ++ flat_map (id_part (spelled l.naming) l.lines) (take l.line-index l.order))
