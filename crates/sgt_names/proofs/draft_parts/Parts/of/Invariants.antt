use Rattle.std.proofs.Common.{◌≡◌, take}
use Rattle.sgt_names.proofs.draft_parts.Parts.of.Given as goal

abbrev pub invariant-loop-touch : goal.invariant-loop-touch
invariant-loop-touch l = l.parts.touched ≡ take l.touch-index l.touched
