use Rattle.std.proofs.Common.{refl, sym, ap, ◌∙◌, subst, arith}
use Rattle.sgt_compact_entry.specs.Compact.{named}
use Rattle.sgt_site.specs.State.{LogState}
use Rattle.sgt_site.specs.private.Short.{IsPlaced}
use Rattle.sgt_site.proofs.Short.{entries-pushed, operation-kept, placed-numbered, same_state}
use Rattle.sgt_site.proofs.entry_log.EntryLog.push.Goals as goal

pub returns : goal.returns
returns c =
    let items = c.self.inside.items.items in
    let es = c.self.inside.entries.items in
    let placed = subst (λ (l : LogState). IsPlaced l.items c.args.entry c.args.place) (sym c.self.view_is)
    c.requires.placed in
    let same = ap (named items) c.shortened.ensures
    ∙ c.compact.ensures.same items (placed-numbered items c.args.entry c.args.place placed) in
    rw (← c.self.view_is) (same_state items _ _ _ _ _ _
    (entries-pushed items es _ _ c.push_reserved.ensures.items _ c.args.entry refl same)
    (operation-kept items es _ _ c.push_reserved.ensures.items _ c.args.entry placed.0 refl same placed.1)
    (omega (arith, c.push_reserved.ensures.len, c.push_reserved.ensures.capacity)))
