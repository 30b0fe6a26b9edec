-- What makes one transaction stand before another.
use Rattle.std.specs.Prelude.{◌⊎◌, ℕ, List, Option}
use Rattle.sgt_history.specs.declared.named.Graph.TheVariants.{Whole}
use Rattle.sgt_history.specs.Transaction.{Transaction}
use Rattle.sgt_history.specs.Conflicts.{ConflictIn}
use Rattle.sgt_history_time.specs.declared.times.Times.{Times}
use Rattle.sgt_history_time.specs.Kept.{IsBefore, IsEarlier}

-- they conflict, or are of one session, or the first was done before the second began
abbrev pub StandsBefore : {I V S : Type 0} → List (Transaction I V) → List (Option Times) → List (Option S)
    → (first second : ℕ) → Type 0
StandsBefore h times sessions first second = ConflictIn h Whole first second
    ⊎ (IsEarlier sessions first second ⊎ IsBefore times first second)
