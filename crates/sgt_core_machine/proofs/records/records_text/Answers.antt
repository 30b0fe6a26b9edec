use Rattle.std.proofs.Common.{List, ◌∙◌, ap}
use Rattle.sgt_bundle.specs.Text.{has_increments}
use Rattle.sgt_core_machine.specs.declared.records.SiteRecord.{SiteRecord}
use Rattle.sgt_core_machine.specs.private.Records.{logs_in}
use Rattle.sgt_core_machine.proofs.Written.{whole_text}
use Rattle.sgt_core_machine.proofs.records.records_text.Goals as goal

pub returns : goal.returns
returns c =
    whole_text c.in_ok-text.text.items c.push_head.new.out.items c.push_records.new.out.items
    c.any_record_increments-second.result c.args.certificate (logs_in c.args.records.items) c.in_ok-text.ensures.items
    c.in_ok-push_head.ensures.text c.in_ok-push_records.ensures
    (c.any_record_increments-second.ensures
    ∙ ap (λ (rs : List SiteRecord). has_increments (logs_in rs)) c.as_slice.ensures.value)
