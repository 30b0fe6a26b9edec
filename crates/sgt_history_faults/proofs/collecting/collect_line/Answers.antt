use Rattle.std.proofs.Common.{◌≡◌, ◌+◌, ◌-◌, length, take, drop, arith, subst, sym, refl, ap, ◌∙◌, Some, true}
use Rattle.std.specs.Prelude.{slice_get, All, ℕ, ◌<◌}
use Rattle.std.proofs.lemmas.Option.{slice_get_within}
use Rattle.sgt_history.specs.Cut.{cut, end_of}
use Rattle.sgt_history_faults.specs.Mine.{IsItemBelow}
use Rattle.sgt_history_faults.specs.Touch.{AreMarked}
use Rattle.sgt_history_faults.proofs.Bounds.{line-is, items-part}
use Rattle.sgt_history_faults.proofs.NextLine.{collected-more, taken-below}
use Rattle.sgt_history_faults.proofs.collecting.collect_line.Goals as goal

pub mark_surpassed-requires : goal.mark_surpassed-requires
mark_surpassed-requires c =
    let l = c.line_at-end.result in
    let these =
    items-part (length c.args.mine.now) (l.end - c.args.begin) c.args.begin c.args.history.now.operations.items
    c.as_slice.result.now c.as_slice.ensures.value c.requires.items in
    taken-below _ (take (l.end - c.args.begin) (drop c.args.begin c.as_slice.result.now)) _ (length c.args.mine.now)
    (length c.take_line.new.mine) c.args.collected.now.touches.items c.take_line.new.touches.items
    (omega (arith, c.take_line.auto.mine))
    c.in_ok-contradicted.ensures.touches c.requires.collected.below these

pub returns-clause-collected : goal.returns-clause-collected
returns-clause-collected c =
    let l = c.line_at-end.result in
    let part = take (l.end - c.args.begin) (drop c.args.begin c.as_slice.result.now) in
    let these =
    items-part (length c.args.mine.now) (l.end - c.args.begin) c.args.begin c.args.history.now.operations.items
    c.as_slice.result.now c.as_slice.ensures.value c.requires.items in
    let in_line =
    line-is c.args.history.now.lines.items c.args.line l c.args.begin c.args.history.now.operations.items
    c.as_slice.result.now
    c.line_at-end.ensures.is c.requires.begin c.as_slice.ensures.value in
    let from : c.len-from.result ≡ length c.args.collected.now.touches.items = c.len-from.ensures
    ∙ c.args.collected.now.touches.ok.0 in
    let marked =
    subst (λ n. AreMarked n c.take_line.new.mine c.take_line.new.touches.items c.mark_surpassed.new.touches.items)
    from
    c.mark_surpassed.ensures in
    collected-more (cut 0 c.args.history.now.lines.items c.args.history.now.operations.items) c.args.line
    (length c.args.mine.now)
    (record { commits = l.commits; operations = part }) in_line
    c.args.collected.now.touches.items c.take_line.new.touches.items c.mark_surpassed.new.touches.items
    c.take_line.new.mine
    (omega (arith, c.take_line.auto.mine)) these c.in_ok-contradicted.ensures.touches
    c.in_ok-contradicted.ensures.mine marked
    c.args.collected.now.first c.with_contradiction-collected.result c.requires.collected
    (c.with_contradiction-collected.ensures.real
    (cut 0 c.args.history.now.lines.items c.args.history.now.operations.items)
    (record { commits = l.commits; operations = part }) in_line refl c.in_ok-contradicted.ensures.contradiction
    c.requires.collected.real)
    c.with_contradiction-collected.ensures.kept
    (λ place o is own. c.with_contradiction-collected.ensures.noted is.committed.1 part place
    c.in_ok-contradicted.ensures.contradiction
    (slice_get_within part place o is.there) (o, is.there, own))
