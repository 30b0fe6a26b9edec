use Rattle.std.proofs.Common.{◌≡◌, arith, ◌<◌, length}
use Rattle.sgt_service_settle.proofs.Searching.{search_next, search_end, within}
use Rattle.sgt_names.proofs.Elements.{empty-length}
use Rattle.sgt_names.proofs.Lists.{element_at}
use Rattle.sgt_service_settle.proofs.search.search.Goals as goal

pub offset_bounds-rows-at : goal.offset_bounds-rows-at
offset_bounds-rows-at c =
    let long : length c.loop-at.marks ≡ length c.args.rows.now = omega arith in
    let low : c.in-Some.at < length c.args.rows.now =
    within c.args.rows.now c.args.cut.now c.args.start c.in-Some.at c.loop-at.marks c.loop-at.stack.items
    c.pop.new.self.items c.requires.start long c.in-Some.ensures.items c.loop-at.invariant in
    omega (arith, low)

pub bounds-rows-at : goal.bounds-rows-at
bounds-rows-at c =
    let long : length c.loop-at.marks ≡ length c.args.rows.now = omega arith in
    let low : c.in-Some.at < length c.args.rows.now =
    within c.args.rows.now c.args.cut.now c.args.start c.in-Some.at c.loop-at.marks c.loop-at.stack.items
    c.pop.new.self.items c.requires.start long c.in-Some.ensures.items c.loop-at.invariant in
    low

pub mark_row-requires : goal.mark_row-requires
mark_row-requires c =
    let long : length c.loop-at.marks ≡ length c.args.rows.now = omega arith in
    let low : c.in-Some.at < length c.args.rows.now =
    within c.args.rows.now c.args.cut.now c.args.start c.in-Some.at c.loop-at.marks c.loop-at.stack.items
    c.pop.new.self.items c.requires.start long c.in-Some.ensures.items c.loop-at.invariant in
    let here = element_at c.args.rows.now c.in-Some.at c.index-rows-at.result low c.index-rows-at.is in
    rw c.as_slice.ensures.value (rw long (λ k t. c.requires.within c.in-Some.at k (c.index-rows-at.result, here, t)))

pub loop-at-preserved : goal.loop-at-preserved
loop-at-preserved c =
    let long : length c.loop-at.marks ≡ length c.args.rows.now = omega arith in
    let low : c.in-Some.at < length c.args.rows.now =
    within c.args.rows.now c.args.cut.now c.args.start c.in-Some.at c.loop-at.marks c.loop-at.stack.items
    c.pop.new.self.items c.requires.start long c.in-Some.ensures.items c.loop-at.invariant in
    let here = element_at c.args.rows.now c.in-Some.at c.index-rows-at.result low c.index-rows-at.is in
    search_next c.args.rows.now c.args.cut.now c.args.start c.in-Some.at c.index-rows-at.result c.loop-at.marks
    c.mark_row.new.marks c.loop-at.stack.items c.pop.new.self.items c.mark_row.new.stack.items
    c.in-Some.ensures.items here (rw c.as_slice.ensures.value at c.in_ok-mark_row.ensures) c.loop-at.invariant

pub returns : goal.returns
returns c =
    let none : length c.loop-at.stack.items ≡ 0 = omega (arith, c.in_default.ensures.cases.0, c.loop-at.stack.ok.0) in
    search_end c.args.rows.now c.args.cut.now c.args.start c.loop-at.marks c.loop-at.stack.items
    (empty-length c.loop-at.stack.items none) c.loop-at.invariant
