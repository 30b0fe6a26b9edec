use Rattle.std.proofs.Common.{◌<◌, ◌∙◌, subst, arith, length}
use Rattle.std.specs.Prelude.{IsTrue, Contains, ◌↔◌}
use Rattle.sgt_service_locks.specs.Refused.{HasItem}
use Rattle.sgt_service_locks.proofs.Items.{has_found}
use Rattle.sgt_service_locks.proofs.service.Service.has_item.Goals as goal

pub returns : goal.returns
returns g c =
    let names = c.args.self.now.names in
    let is = c.as_slice.ensures ∙ c.index.ensures in
    let within : c.number-place.result < length names.items =
    omega (arith, c.if-place-len.false, c.len.ensures, names.ok.0) in
    subst (λ s. IsTrue c.contains.result ↔ HasItem names.items s c.args.item) c.number-place.ensures.is
    (has_found names.items c.number-place.result c.args.item c.index.result.now c.contains.result within
    (subst (λ xs. IsTrue c.contains.result ↔ Contains xs c.args.item) is c.contains.ensures))
