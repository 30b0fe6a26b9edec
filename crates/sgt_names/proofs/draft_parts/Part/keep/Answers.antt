use Rattle.sgt_names.proofs.Parts.{part_kept}
use Rattle.sgt_names.proofs.draft_parts.Part.keep.Goals as goal

pub invariant_of-self : goal.invariant_of-self
invariant_of-self c =
    part_kept c.keep-kept.result c.self.inside.site c.self.inside.list c.keep-kept.new.self c.args.touch
    c.keep-kept.ensures.ok c.keep-kept.ensures.err
    (rw (← c.self.view_is) at c.requires.here) c.touched-touched.ensures.rising c.touched-touched.ensures.used
    c.self.invariant

pub returns-clause-part : goal.returns-clause-part
returns-clause-part c =
    part_kept c.keep-kept.result c.self.inside.site c.self.inside.list c.keep-kept.new.self c.args.touch
    c.keep-kept.ensures.ok c.keep-kept.ensures.err
    (rw (← c.self.view_is) at c.requires.here) c.touched-touched.ensures.rising c.touched-touched.ensures.used
    c.self.invariant
