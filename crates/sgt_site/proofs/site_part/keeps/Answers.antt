use Rattle.std.proofs.lemmas.Option.{slice_get-get_or}
use Rattle.sgt_site.proofs.SitePart.{keeps-found, keeps-none}
use Rattle.sgt_site.proofs.site_part.keeps.Goals as goal

pub returns-in-Ok : goal.returns-in-Ok
returns-in-Ok c =
    rw c.is_some.ensures (keeps-found _ _ _ _ _ c.requires c.in-Ok.ensures.found
    (slice_get-get_or _ _ c.index-touched-at.result c.in-Ok.ensures.found.within))

pub returns-in-Err : goal.returns-in-Err
returns-in-Err c = (λ hit. absurd cc, λ kept. absurd (keeps-none _ _ _ _ c.in-Err.ensures.absent kept))
