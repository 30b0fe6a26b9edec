use Rattle.std.proofs.Common.{◌∙◌, subst, arith}
use Rattle.std.proofs.lemmas.List.{take_all}
use Rattle.sgt_service_settle.specs.private.Index.{AreLinks}
use Rattle.sgt_service_settle.proofs.Linking.{links_none, links_hit, links_miss}
use Rattle.sgt_service_settle.proofs.index.links_of.Goals as goal
use Rattle.sgt_service_settle.proofs.index.links_of.Goals.{in-Some+in_ok-push, in_default}
use Rattle.sgt_names.proofs.Lists.{element_at}

pub loop-one-preserved : goal.loop-one-preserved
loop-one-preserved c =
    let w' = c.args.windows.now in
    let here = element_at c.args.handed.now c.loop-one.one-index c.one-item.result c.loop-one-test.true c.one-item.is in
    elim c.match-link_of.branch [
      | in-Some+in_ok-push w ↦
          rw w.links-is
          (rw w.in_ok-push.ensures.items
          (links_hit w' c.args.commits.now c.args.handed.now c.loop-one.one-index c.one-item.result
          c.loop-one.links.items w.in-Some.link here (rw w.in-Some.is at c.link_of.ensures.some)
          c.loop-one.invariant))
      | in_default w ↦
          rw w.links-is (links_miss w' c.args.commits.now c.args.handed.now c.loop-one.one-index c.one-item.result
          c.loop-one.links.items here (rw w.in_default.is at c.link_of.ensures.none) c.loop-one.invariant)
    ]

pub loop-one-init : goal.loop-one-init
loop-one-init c =
    rw (c.in_ok-reserve.ensures.items ∙ c.new-links.ensures.items)
    (links_none c.args.windows.now c.args.commits.now c.args.handed.now)

pub returns : goal.returns
returns c =
    let whole = take_all c.loop-one.one-index c.args.handed.now (omega arith) in
    subst (λ hs. AreLinks c.args.windows.now c.args.commits.now hs c.loop-one.links.items) whole c.loop-one.invariant
