use Rattle.std.proofs.Common.{◌≡◌, Some, None, sym, ◌∙◌}
use Rattle.sgt_explain_lines.proofs.Numbering.{on-ok}
use Rattle.sgt_explain_decisions.specs.Sought.{found_at}
use Rattle.sgt_explain_decisions.proofs.Seeking.{takes-no_item, takes-unmarked, takes-at, unsought-at}
use Rattle.sgt_explain_decisions.proofs.sought.take.Goals as goal

pub returns-in_default : goal.returns-in_default
returns-in_default c = λ marked. takes-no_item c.args.site c.args.logged c.args.sought.now (sym c.in_default.ensures)

pub returns-then-not-is_marked : goal.returns-then-not-is_marked
returns-then-not-is_marked c =
    λ marked. takes-unmarked c.args.site c.args.logged c.args.sought.now c.args.classes.now marked cc

pub returns-in-Some-copied : goal.returns-in-Some-copied
returns-in-Some-copied c = λ marked.
    let item = c.in-Some.item in
    let tx = c.tx-tx.result in
    let there = c.get.ensures.value in
    let copied = c.in-Some-copied.ensures in
    let is : found_at c.args.sought.now (c.args.site, item, tx) ≡ Some c.in-Some-copied.found = cc in
    on-ok c.put.result _ _ (λ p.
    let with = p.1 item (sym c.in-Some.ensures) in
    takes-at c.args.site c.args.logged item tx c.in-Some-copied.found p.0 c.args.sought.now c.put.new.sought
    c.tx-tx.ensures (sym c.in-Some.ensures) is with.0 with.1 p.2) c.put.ensures.some

pub returns-in-None : goal.returns-in-None
returns-in-None c = λ marked.
    let tx = c.tx-tx.result in
    let there = c.get.ensures.value in
    let copied = c.in-None.ensures in
    let is : found_at c.args.sought.now (c.args.site, c.in-Some.item, tx) ≡ None = cc in
    unsought-at c.args.site c.args.logged c.in-Some.item tx c.args.sought.now c.tx-tx.ensures (sym c.in-Some.ensures) is
