use Rattle.std.proofs.Common.{◌∙◌, sym}
use Rattle.sgt_workers.proofs.Lists.{zip_length}
use Rattle.sgt_names.proofs.Elements.{if_ok_both}
use Rattle.sgt_service_locks.proofs.opened.unlocked.Goals as goal

pub returns : goal.returns
returns c = if_ok_both c.taken_out.result _ _ _ c.taken_out.ensures c.taken_out.ensures (λ all zip _. all.ok.0
    ∙ sym (zip_length _ _ _ zip) ∙ sym c.args.sites.ok.0)
