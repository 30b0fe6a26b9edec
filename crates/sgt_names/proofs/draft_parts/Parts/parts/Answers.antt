use Rattle.sgt_names.proofs.Parts.{parts_rise, parts_used}
use Rattle.sgt_names.proofs.draft_parts.Parts.parts.Goals as goal

pub returns-clause-rising : goal.returns-clause-rising
returns-clause-rising c =
    rw (← c.self.view_is) (parts_rise c.self.inside.parts.items c.self.invariant.0 c.self.invariant.1)

pub returns-clause-used : goal.returns-clause-used
returns-clause-used c = rw (← c.self.view_is) (parts_used c.self.inside.parts.items c.self.invariant.1)
