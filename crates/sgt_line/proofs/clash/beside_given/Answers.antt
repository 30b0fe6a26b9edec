use Rattle.std.proofs.Common.{List, ℕ}
use Rattle.sgt_line.specs.Clashes.{IsBeside, IsBesideOrder}
use Rattle.sgt_line.specs.Parts.{parts_of}
use Rattle.sgt_line.proofs.Clashing.{none_weaker}
use Rattle.sgt_line.proofs.clash.beside_given.Goals as goal

pub returns-then-is_check-clause-none : goal.returns-then-is_check-clause-none
returns-then-is_check-clause-none c =
    let weaker : ((text : List ℕ) → IsBeside (parts_of c.args.line.now) text → ⊥) → (text : List ℕ)
    → IsBesideOrder (parts_of c.args.line.now) text → ⊥ =
    λ none text clashes. none text clashes.1 in
    none_weaker _ _ _ weaker c.beside_order.ensures.none
