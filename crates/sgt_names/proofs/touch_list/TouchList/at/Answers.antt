use Rattle.std.specs.Prelude.{◌==◌}
use Rattle.sgt_names.specs.Draft.{IsUsed}
use Rattle.sgt_names.specs.declared.draft.Touch.{Touch}
use Rattle.sgt_names.proofs.Rising.{site-rising}
use Rattle.std.proofs.lemmas.List.Elements.{All-filter}
use Rattle.sgt_names.proofs.touch_list.TouchList.at.Goals as goal

pub returns-clause-rising : goal.returns-clause-rising
returns-clause-rising c = rw (c.part_at.ensures, c.as_slice.ensures.value) (site-rising _ _ c.self.invariant.0)

pub returns-clause-used : goal.returns-clause-used
returns-clause-used c =
    rw (c.part_at.ensures, c.as_slice.ensures.value)
    (All-filter (λ (t : Touch). t.site == c.args.site) IsUsed _ c.self.invariant.1)
