use Rattle.std.proofs.Common.{sym, ap, ◌∙◌}
use Rattle.std.specs.List.{list_any}
use Rattle.sgt_names.specs.Entry.{is_increment}
use Rattle.sgt_site.specs.State.{LogState}
use Rattle.sgt_site.specs.declared.entry_log.ShortEntry.{ShortEntry}
use Rattle.sgt_site.specs.private.Short.{adds_by}
use Rattle.sgt_site.proofs.Short.{any_adds}
use Rattle.sgt_site.proofs.entry_log.EntryLog.any_increment.Goals as goal

pub returns : goal.returns
returns c =
    c.any_add.ensures ∙ ap (list_any (λ (e : ShortEntry). adds_by e.act)) c.as_slice.ensures.value
    ∙ sym (any_adds c.self.inside.items.items c.self.inside.entries.items)
    ∙ ap (λ (l : LogState). list_any is_increment l.entries) c.self.view_is
