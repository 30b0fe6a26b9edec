use Rattle.std.proofs.Common.{◌≡◌}
use Rattle.std.specs.Prelude.{vec_capacity}
use Rattle.sgt_names.proofs.Parts.{roomed}
use Rattle.sgt_names.proofs.draft_parts.make_rooms.Given as goal

abbrev pub invariant-loop-at : goal.invariant-loop-at
invariant-loop-at l = (l.parts.items ≡ roomed l.at l.initial.parts.items)
    × (vec_capacity l.parts ≡ vec_capacity l.initial.parts)
