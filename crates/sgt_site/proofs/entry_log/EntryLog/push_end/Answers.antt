use Rattle.std.proofs.Common.{refl, sym, ap, ◌∙◌, subst, arith}
use Rattle.sgt_compact_entry.specs.Compact.{IsNumberOf, named}
use Rattle.sgt_site.proofs.Short.{end-kept, entries-pushed, same_state}
use Rattle.sgt_site.proofs.entry_log.EntryLog.push_end.Goals as goal

pub returns : goal.returns
returns c =
    let items = c.self.inside.items.items in
    let es = c.self.inside.entries.items in
    let same = ap (named items) c.shortened.ensures
    ∙ c.compact.ensures.same items (subst (λ o. IsNumberOf items o 0) (sym c.requires.end) tt) in
    rw (← c.self.view_is) (same_state items _ _ _ _ _ _
    (entries-pushed items es _ _ c.push_reserved.ensures.items _ c.args.end refl same)
    (end-kept items es _ _ c.push_reserved.ensures.items _ c.args.end refl same c.requires.uncommitted)
    (omega (arith, c.push_reserved.ensures.len, c.push_reserved.ensures.capacity)))
