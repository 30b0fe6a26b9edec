use Rattle.std.proofs.Common.{◌≡◌, ◌+◌, ◌∙◌, ◌<◌, ap, sym, length, take, subst, arith}
use Rattle.std.proofs.lemmas.List.{take_all}
use Rattle.sgt_service_settle.specs.declared.link.Link.{Link as Member}
use Rattle.sgt_service_settle.specs.private.Search.{Hold, LinksBy}
use Rattle.sgt_service_settle.proofs.Rowing.{adds_row, entering_next, entering_none, written_back}
use Rattle.sgt_names.proofs.Lists.{element_at}
use Rattle.sgt_service_settle.proofs.rows.entering.Goals as goal

pub loop-link-init : goal.loop-link-init
loop-link-init c =
    record {
      long = c.in_ok-rows.ensures.long;
      hold =
          entering_none c.args.links.now c.in_ok-rows.rows.items c.in_ok-rows.ensures.none;
    }

pub push_at-requires : goal.push_at-requires
push_at-requires c =
    let e : Member = c.link-item.result in
    let at = element_at c.args.links.now c.loop-link.link-index c.link-item.result c.loop-link-test.true
    c.link-item.is in
    let ends = c.requires c.loop-link.link-index e at in
    let low : e.to < c.args.all = ends.1 in
    let long : length c.as_mut_slice.result.now ≡ c.args.all = ap length c.as_mut_slice.ensures.value
    ∙ c.loop-link.invariant.long in
    omega (arith, low, long)

pub loop-link-preserved : goal.loop-link-preserved
loop-link-preserved c =
    let e : Member = c.link-item.result in
    let at = element_at c.args.links.now c.loop-link.link-index c.link-item.result c.loop-link-test.true
    c.link-item.is in
    let long : length c.as_mut_slice.result.now ≡ c.args.all = ap length c.as_mut_slice.ensures.value
    ∙ c.loop-link.invariant.long in
    let same : length c.push_at.new.rows ≡ length c.as_mut_slice.result.now = c.push_at.auto.rows in
    let fits : c.loop-link.rows.len ≡ length c.push_at.new.rows =
    omega (arith, c.loop-link.rows.ok.0, c.loop-link.invariant.long, same, long) in
    let back = written_back c.loop-link.rows.items c.push_at.new.rows c.loop-link.rows.len fits in
    record {
      long = ap length back ∙ (same ∙ long);
      hold = subst
          (λ rows. Hold rows (λ cut a b. LinksBy (take (c.loop-link.link-index + 1) c.args.links.now) cut b a))
          (sym back)
          (entering_next c.args.links.now c.loop-link.link-index e c.loop-link.rows.items c.push_at.new.rows at
          c.loop-link.invariant.hold
          (adds_row c.loop-link.rows.items e.to _ c.push_at.new.rows
          (rw c.as_mut_slice.ensures.value at c.in_ok-push_at.ensures)));
    }

pub returns-clause-hold : goal.returns-clause-hold
returns-clause-hold c =
    let whole = take_all c.loop-link.link-index c.args.links.now (omega arith) in
    subst (λ links. Hold c.loop-link.rows.items (λ cut a b. LinksBy links cut b a)) whole c.loop-link.invariant.hold
