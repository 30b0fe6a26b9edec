use Rattle.sgt_service_locks.proofs.Items.{search_tells}
use Rattle.sgt_service_locks.proofs.service.contains.Goals as goal

pub returns : goal.returns
returns c =
    rw c.is_ok.ensures.value (search_tells c.args.names.now c.args.name c.binary_search.result c.requires
    c.binary_search.ensures.bound c.binary_search.ensures.position)
