use Rattle.std.proofs.Common.{ap, ◌∙◌}
use Rattle.std.specs.List.{filter_map}
use Rattle.sgt_bundle.specs.declared.certificate.Certificate.{Certificate}
use Rattle.sgt_serial.specs.private.Order.{ranked_in}
use Rattle.sgt_serial.proofs.order.order_and_sites.Goals as goal

pub returns-clause-order : goal.returns-clause-order
returns-clause-order c =
    c.in_ok-order.ensures c.args.bundle.certificate.decisions
    (c.in_ok-ranked.ensures
    ∙ ap (filter_map ranked_in) (c.decisions.ensures ∙ ap (λ (k : Certificate). k.decisions) c.certificate.ensures))
