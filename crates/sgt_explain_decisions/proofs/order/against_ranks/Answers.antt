use Rattle.std.proofs.Common.{◌≡◌, Some, length, ap, subst, arith}
use Rattle.std.specs.Prelude.{slice_get}
use Rattle.sgt_names.proofs.Lists.{All-whole, element_at}
use Rattle.sgt_bundle.specs.Valid.{RiseInRank}
use Rattle.sgt_explain_lines.specs.declared.section.Logged.{Logged}
use Rattle.sgt_explain_decisions.proofs.Ranking.{first-against}
use Rattle.sgt_explain_decisions.proofs.order.against_ranks.Goals as goal

pub returns-clause-none : goal.returns-clause-none
returns-clause-none c = λ placed once.
    let same = ap length c.as_slice-other-items.ensures.value in
    All-whole (λ (l : Logged). RiseInRank c.args.decisions.now l.entry c.args.logged.now.entry)
    c.args.section.now.entries.items c.loop-other.other-index
    (omega (arith, same, c.loop-other-test.false)) (c.loop-other.invariant placed once)

pub returns-then-is_some-clause-earlier : goal.returns-then-is_some-clause-earlier
returns-then-is_some-clause-earlier c = λ placed once.
    let i = c.loop-other.other-index in
    let other = c.other-item.result in
    let at = element_at c.as_slice-other-items.result.now i other (omega (arith, c.loop-other-test.true))
    c.other-item.is in
    first-against c.args.decisions.now c.args.section.now.entries.items c.site_number-site.result i other
    c.in_ok-second.second c.args.logged.now.entry c.shown_against-shown.result
    c.shown_against-shown.ensures.some (subst (λ es. slice_get es i ≡ Some other) c.as_slice-other-items.ensures.value
    at) (c.loop-other.invariant placed once)
