use Rattle.sgt_notation.proofs.SiteWords.{refused}
use Rattle.sgt_notation.proofs.reading_sites.read_site.Goals as goal

pub returns-in-None : goal.returns-in-None
returns-in-None c = refused _ _ c.refusal.ensures c.in-None.ensures.none
