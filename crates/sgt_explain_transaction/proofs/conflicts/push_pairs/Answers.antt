use Rattle.std.proofs.Common.{◌∙◌, ap, arith, subst, sym, take, take_all}
use Rattle.std.specs.Prelude.{string_bytes}
use Rattle.sgt_names.proofs.Lists.{element_at, take_next}
use Rattle.sgt_explain_transaction.specs.Found.{ShowsMore, conflicts_with}
use Rattle.sgt_explain_transaction.proofs.Beside.{conflicts-beside}
use Rattle.sgt_explain_transaction.proofs.Showing.{shows-none, shows-own}
use Rattle.sgt_explain_transaction.proofs.conflicts.push_pairs.Goals as goal

pub loop-own-init : goal.loop-own-init
loop-own-init c = shows-none (string_bytes c.args.out.now) c.args.count.now

pub loop-own-preserved : goal.loop-own-preserved
loop-own-preserved c =
    let run = c.beside-run.result.now in
    let i = c.loop-own.own-index in
    let own = c.own-item.result in
    let other = c.args.other.now in
    let old = string_bytes c.args.out.now in
    let new = string_bytes c.push_if_pair.new.out in
    subst (λ os. ShowsMore (conflicts_with os other) old c.args.count.now new c.push_if_pair.new.count)
    (sym (take_next run i own (element_at run i own (omega arith) c.own-item.is)))
    (shows-own (take i run) own other old (string_bytes c.loop-own.out) new c.args.count.now c.loop-own.count
    c.push_if_pair.new.count c.loop-own.invariant c.in_ok-push_if_pair.ensures)

pub returns : goal.returns
returns c =
    let run = c.beside-run.result.now in
    let i = c.loop-own.own-index in
    let other = c.args.other.now in
    let all = take_all i run (omega (arith, c.loop-own-test.false)) in
    subst (λ ps. ShowsMore ps (string_bytes c.args.out.now) c.args.count.now (string_bytes c.loop-own.out)
    c.loop-own.count) (ap (λ os. conflicts_with os other) (all ∙ c.beside-run.ensures)
    ∙ conflicts-beside c.args.sorted.now other) c.loop-own.invariant
