use Rattle.std.proofs.Common.{◌<◌, arith}
use Rattle.sgt_names.proofs.Elements.{if_ok_both}
use Rattle.sgt_draw.proofs.Neighbours.{all-committed, among, around, committed-there, not-none}
use Rattle.sgt_draw.proofs.around.neighbours_of.Goals as goal

pub unreachable-requires : goal.unreachable-requires
unreachable-requires c =
    let lt : c.args.one.number < 4294967296 = omega arith in
    not-none c.in_ok-whole.whole.committed.items c.args.one.tx c.args.one.number
    (committed-there 4294967296 _ c.in_ok-whole.whole c.requires.0 c.args.one.tx c.args.one.number
    (rw (c.decisions.ensures, c.certificate.ensures) at c.in_ok-whole.ensures) lt c.requires.1)
    (rw c.as_slice.ensures.value at c.in-None.ensures.none)

pub returns : goal.returns
returns c =
    let ds = c.args.bundle.now.certificate.decisions in
    let is = rw (c.decisions.ensures, c.certificate.ensures) at c.in_ok-whole.ensures in
    let whole = c.in_ok-whole.whole.committed.items in
    let found = rw c.as_slice.ensures.value at c.in-Some.ensures.some in
    if_ok_both c.around_place.result _ _ _ c.around_place.ensures.own c.around_place.ensures.others
    (λ a own others. around c.args.one.tx ds found.0 a.scene.committed.items found.2 (own found.0 found.1)
    (among ds whole a.scene.committed.items (all-committed _ ds c.in_ok-whole.whole is) others))
