use Rattle.std.proofs.Common.{◌≡◌, ℕ, ◌<◌, take, Some}
use Rattle.std.specs.Prelude.{slice_get}
use Rattle.sgt_notation.specs.Scripts.{HasSource}
use Rattle.sgt_notation.specs.declared.script.Op.{Op}
use Rattle.sgt_notation.proofs.reading_scripts.are_sources_named.Given as goal

abbrev pub invariant-loop-n : goal.invariant-loop-n
invariant-loop-n l = (k : ℕ) (op : Op) → k < l.n → slice_get l.ops k ≡ Some op → HasSource (take k l.ops) op
