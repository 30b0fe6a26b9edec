use Rattle.sgt_notation.proofs.SiteWords.{no_site-items, no_site-number, site-keeps}
use Rattle.sgt_notation.proofs.reading_sites.find_items.Goals as goal

pub returns-in_default-clause-none : goal.returns-in_default-clause-none
returns-in_default-clause-none c = no_site-number _ c.in_default.ensures.none

pub returns-in-Some-keep_items-clause-some : goal.returns-in-Some-keep_items-clause-some
returns-in-Some-keep_items-clause-some c =
    site-keeps _ _ _ _ _ c.in-Some.ensures.some.0 c.in-Some.ensures.some.1 c.in-Some-keep_items.ensures.some

pub returns-in-None-clause-none : goal.returns-in-None-clause-none
returns-in-None-clause-none c = no_site-items _ _ _ c.in-Some.ensures.some.1 c.in-None.ensures.none
