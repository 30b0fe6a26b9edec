use Rattle.std.proofs.lemmas.List.Elements.{recursion_from_All}
use Rattle.sgt_names.specs.Sums.{Overwrites}
use Rattle.sgt_names.proofs.Increments.{value-from_first, value-from_write}
use Rattle.sgt_names.proofs.laws.value_is_of_the_last_write.Goals as goal

pub returns-clause-written : goal.returns-clause-written
returns-clause-written c first front back tx v x small none =
    value-from_write first front back tx v x small (recursion_from_All (λ e. Overwrites x e → ⊥) back none)

pub returns-clause-first : goal.returns-clause-first
returns-clause-first c u entries x small none =
    value-from_first u entries x small (recursion_from_All (λ e. Overwrites x e → ⊥) entries none)
