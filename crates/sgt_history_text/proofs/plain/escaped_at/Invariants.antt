use Rattle.std.proofs.Common.{List, ℕ, ◌∷◌}
use Rattle.json.specs.Print.{escape}
use Rattle.sgt_notation.specs.Private.{Spans}
use Rattle.sgt_history_text.proofs.plain.escaped_at.Given as goal

abbrev pub invariant-loop : goal.invariant-loop
invariant-loop l = (s : List ℕ) × Spans l.bytes l.from (34 ∷ escape s) l.at
