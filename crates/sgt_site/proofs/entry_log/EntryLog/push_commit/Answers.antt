use Rattle.std.proofs.Common.{Some, refl, ap, arith}
use Rattle.sgt_names.specs.declared.entry.Entry.TheVariants.{Commit}
use Rattle.sgt_arena.specs.declared.handle.Handle.{Handle}
use Rattle.sgt_site.specs.declared.cell.Install.{Install}
use Rattle.sgt_site.proofs.Short.{entries-pushed, installed-pushed, same_state}
use Rattle.sgt_site.proofs.entry_log.EntryLog.push_commit.Goals as goal

pub returns : goal.returns
returns c =
    let items = c.self.inside.items.items in
    let es = c.self.inside.entries.items in
    let given : Handle → Install = λ h. record { tx = c.args.tx; handle = h } in
    rw (← c.self.view_is) (same_state items _ _ _ _ _ _
    (entries-pushed items es _ _ c.push_reserved.ensures.items _ (Commit c.args.tx) refl refl)
    (installed-pushed items es _ _ c.push_reserved.ensures.items _ (given c.args.handle) refl
    (ap (λ h. Some (given h)) c.packed.ensures))
    (omega (arith, c.push_reserved.ensures.len, c.push_reserved.ensures.capacity)))
