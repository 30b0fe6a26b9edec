use Rattle.std.proofs.Common.{sym, ◌∙◌, subst}
use Rattle.std.proofs.lemmas.List.{with_items_is}
use Rattle.sgt_check.specs.Key.{AreRising}
use Rattle.sgt_check.proofs.ranks.sort.Goals as goal

pub returns-clause-rising : goal.returns-clause-rising
returns-clause-rising c =
    subst AreRising (sym (with_items_is c.args.ranked.now c.sort_slice.new.ranked
    (c.sort_slice.auto.ranked ∙ c.as_mut_slice.ensures.len))) c.sort_slice.ensures.rising
