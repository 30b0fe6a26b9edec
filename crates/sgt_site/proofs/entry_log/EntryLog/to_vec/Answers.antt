use Rattle.std.proofs.Common.{[], ◌∷◌, ◌++◌, sym, ap, ◌∙◌}
use Rattle.sgt_names.proofs.Lists.{take_next}
use Rattle.sgt_site.proofs.entry_log.EntryLog.to_vec.Goals as goal

pub loop-place-preserved : goal.loop-place-preserved
loop-place-preserved c =
    c.in_ok-push.ensures.items ∙ ap (λ es. es ++ c.at.result ∷ []) c.loop-place.invariant
    ∙ sym (take_next c.args.self.now.entries c.loop-place.place c.at.result c.at.ensures)
