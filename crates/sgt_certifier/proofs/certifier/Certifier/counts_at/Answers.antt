use Rattle.std.proofs.Common.{◌∙◌, ap}
use Rattle.sgt_certifier.specs.History.{counted}
use Rattle.sgt_certifier.specs.Kept.{Kept}
use Rattle.sgt_certifier.specs.Row.{count_in}
use Rattle.sgt_certifier.proofs.certifier.Certifier.counts_at.Goals as goal

pub returns-clause-counted : goal.returns-clause-counted
returns-clause-counted c item =
    ap (λ row. count_in row item) c.at.ensures.counts ∙ c.self.invariant.1.exact c.args.site item
    ∙ ap (λ (v : Kept). counted v.history c.args.site item) c.self.view_is
