use Rattle.std.proofs.Common.{◌∙◌, arith, refl}
use Rattle.sgt_input.proofs.SiteLines.{other-site}
use Rattle.sgt_input.proofs.sites.take_site.Goals as goal

pub returns-then-from-len : goal.returns-then-from-len
returns-then-from-len c =
    let read = c.in-Ok.ensures in
    let number = c.from.ensures ∙ c.number.ensures.is in (
      other-site c.in-Ok.site _ _ read.0 read.1 (λ same. c.if-from-len.true (number ∙ same
          ∙ omega (arith, c.args.sites.now.ok, c.len.ensures))),
      refl,
    )
