use Rattle.std.proofs.Common.{subst}
use Rattle.std.proofs.lemmas.Result.{IfOk-weaker}
use Rattle.sgt_history_kept.specs.Decided.{IsFound}
use Rattle.sgt_history_kept.proofs.Sooner.{alone-from, first-alone, found-kept, none-alone, sooner-kept}
use Rattle.sgt_history_verdict.specs.Verdict.{committed_in}
use Rattle.sgt_history_kept.proofs.plain.plainly.Goals as goal

pub returns-in-Cyclic : goal.returns-in-Cyclic
returns-in-Cyclic c = λ h from.
    let a = c.args.asked.now in
    let alone = c.args.alone.now in
    let cycle = c.in-Cyclic.cycle.items in
    let found = subst (IsFound h alone) c.in-Cyclic.is (c.in_ok-cycle.ensures h
    (alone-from h c.args.lines c.args.edges.now a alone c.requires.alone from)) in
    sooner-kept h a cycle (first-alone h c.args.lines c.args.edges.now a alone c.requires.alone from cycle found)

pub returns : goal.returns
returns c =
    let a = c.args.asked.now in
    let alone = c.args.alone.now in
    IfOk-weaker c.sorted_by_pairs-in-Serial.result _ _ (λ kept is h from.
    let found = subst (IsFound h alone) c.in-Serial.is (c.in_ok-cycle.ensures h
    (alone-from h c.args.lines c.args.edges.now a alone c.requires.alone from)) in
    found-kept h a (none-alone h c.args.lines c.args.edges.now a alone c.requires.alone from
    (committed_in h c.in-Serial.field-0.items, found.keeps)) kept (is h from)) c.sorted_by_pairs-in-Serial.ensures
