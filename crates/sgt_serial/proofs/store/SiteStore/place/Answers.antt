use Rattle.std.proofs.Common.{rules}
use Rattle.std.specs.Ordering.{nat_cmp}
use Rattle.std.specs.Cmp.Lexicographic.{slice_cmp}
use Rattle.std.proofs.lemmas.Fn.{always_returns_same}
use Rattle.sgt_serial.proofs.Items.{searched}
use Rattle.sgt_serial.proofs.store.SiteStore.place.Goals as goal

pub returns : goal.returns
returns c =
    let facts = c.binary_search_by.ensures in
    let found =
    facts.position (λ h. slice_cmp nat_cmp h.item c.args.item.now)
    (always_returns_same _ _ _ (λ a r g called. (search rules, search rules))) in
    rw (c.ok.ensures.value, ← c.self.view_is, ← c.as_slice.ensures.value)
    (searched c.as_slice.result.now (rw c.as_slice.ensures.value c.self.invariant) c.args.item.now
    c.binary_search_by.result facts.bound found)
