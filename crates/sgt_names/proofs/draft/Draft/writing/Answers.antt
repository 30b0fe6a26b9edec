use Rattle.std.proofs.Common.{subst}
use Rattle.sgt_names.specs.Draft.{AreRising, at_site}
use Rattle.sgt_names.proofs.Rising.{writings-rise, site-here}
use Rattle.sgt_names.proofs.draft.Draft.writing.Goals as goal

pub returns-clause-rising : goal.returns-clause-rising
returns-clause-rising c =
    let ts = c.args.self.now.touched in
    writings-rise c.args.site (at_site c.args.site ts) (site-here c.args.site ts)
    (subst AreRising c.at.ensures.part c.at.ensures.rising)
