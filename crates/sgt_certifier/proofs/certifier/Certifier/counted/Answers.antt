use Rattle.std.proofs.Common.{◌∙◌, ap}
use Rattle.sgt_certifier.specs.History.{counted}
use Rattle.sgt_certifier.specs.Kept.{Kept}
use Rattle.sgt_certifier.proofs.certifier.Certifier.counted.Goals as goal

pub returns : goal.returns
returns c =
    let site = c.args.site in
    let item = c.args.item in
    c.get.ensures ∙ c.self.invariant.1.exact site item ∙ ap (λ (v : Kept). counted v.history site item) c.self.view_is
