use Rattle.std.proofs.Common.{Some, ap, ◌∙◌}
use Rattle.std.specs.Prelude.{slice_set}
use Rattle.std.proofs.lemmas.Option.{slice_get_within}
use Rattle.sgt_names.specs.Draft.{DraftView}
use Rattle.sgt_core_machine.proofs.Finding.{OnErr_then, put_back}
use Rattle.sgt_core_machine.proofs.machine.put_at.Goals as goal

pub returns-clause-err : goal.returns-clause-err
returns-clause-err c = OnErr_then c.put-kept.result c.put-kept.ensures.err (λ same.
    ap (λ (q : DraftView). slice_set c.args.table.now.items c.args.slot
    (Some (record { handle = c.in-Some.running.handle; draft = q }))) same
    ∙ put_back c.args.table.now.items c.args.slot c.in-Some.running c.index_mut.result.now
    (slice_get_within c.args.table.now.items c.args.slot _ c.requires.1) c.index_mut.ensures.value c.in-Some.is)
