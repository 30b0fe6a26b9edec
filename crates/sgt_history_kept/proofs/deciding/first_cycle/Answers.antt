use Rattle.std.proofs.lemmas.Option.{IfSome_then}
use Rattle.std.proofs.lemmas.Result.{IfOk-weaker}
use Rattle.sgt_history_kept.proofs.Sooner.{alone-from, first-alone, found-kept, none-alone, sooner-kept}
use Rattle.sgt_history_kept.specs.declared.deciding.Kept.TheVariants.{Cyclic}
use Rattle.sgt_history_verdict.specs.Verdict.{committed_in}
use Rattle.sgt_history_kept.proofs.deciding.first_cycle.Goals as goal

pub returns-in_default : goal.returns-in_default
returns-in_default c =
    let a = c.args.asked.now in
    let alone = c.args.alone.now in
    let n = c.args.lines in
    let edges = c.args.edges.now in
    IfOk-weaker c.checked_cycle.result _ _ (λ found told. IfSome_then found told (λ cycle first h from.
    sooner-kept h a cycle.items (first-alone h n edges a alone c.requires.alone from cycle.items
    (first h (alone-from h n edges a alone c.requires.alone from))))) c.checked_cycle.ensures

pub returns : goal.returns
returns c =
    let a = c.args.asked.now in
    let alone = c.args.alone.now in
    let n = c.args.lines in
    let edges = c.args.edges.now in
    IfOk-weaker c.checked_cycle-2.result _ _ (λ found told. IfSome_then found told (λ cycle first h from.
    let from_alone = alone-from h n edges a alone c.requires.alone from in
    let serial = rw c.in-Some.is at c.in_ok-order.ensures in
    let none = none-alone h n edges a alone c.requires.alone from
    (committed_in h c.in-Some.order.items, (serial h from_alone).keeps) in
    found-kept h a none (Cyclic cycle) (first h from))) c.checked_cycle-2.ensures
