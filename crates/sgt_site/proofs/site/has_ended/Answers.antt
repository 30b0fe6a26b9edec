use Rattle.sgt_site.proofs.Found.{tells_ended}
use Rattle.sgt_site.proofs.site.has_ended.Goals as goal

pub returns : goal.returns
returns c = tells_ended _ _ _ c.search.result c.is_ok.ensures.value c.search.ensures.found c.search.ensures.absent
