use Rattle.std.proofs.Common.{List, length}
use Rattle.json.specs.Token.{Token}
use Rattle.sgt_bundle.specs.Line.{is_decision_object}
use Rattle.sgt_bundle.specs.Private.{HasItems}
use Rattle.sgt_bundle.proofs.tokens.decisions.Given as goal

-- what follows here follows what was passed
abbrev pub invariant-loop-reader : goal.invariant-loop-reader
invariant-loop-reader l = (new : List Token) → HasItems is_decision_object 3 l.reader new
    → HasItems is_decision_object 3 l.initial.reader new

abbrev pub decreases-loop-reader : goal.decreases-loop-reader
decreases-loop-reader l = length l.reader
