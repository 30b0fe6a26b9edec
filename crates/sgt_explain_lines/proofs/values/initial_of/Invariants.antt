use Rattle.std.proofs.Common.{◌≡◌, drop}
use Rattle.sgt_names.specs.Log.{value_in}
use Rattle.sgt_explain_lines.specs.Values.{holdings_of}
use Rattle.sgt_explain_lines.proofs.values.initial_of.Given as goal

abbrev pub invariant-loop-stated : goal.invariant-loop-stated
invariant-loop-stated l = value_in (holdings_of l.items) l.item ≡ value_in (holdings_of (drop l.stated-index l.items))
    l.item
