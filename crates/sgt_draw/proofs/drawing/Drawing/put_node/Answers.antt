use Rattle.std.proofs.Common.{◌≡◌}
use Rattle.sgt_draw.proofs.Kept.{kept-more, kept-noted, node-written}
use Rattle.sgt_draw.proofs.drawing.Drawing.put_node.Goals as goal

pub invariant_of-self : goal.invariant_of-self
invariant_of-self c = kept-more _ _ _ _ _ c.self.invariant c.write.ensures.grows.1

pub invariant_of-self-2 : goal.invariant_of-self-2
invariant_of-self-2 c =
    let k : c.from.result ≡ c.args.node.now.tx = cc (c.from.ensures, c.number.ensures.is) in
    kept-noted _ _ _ c.args.node.now _ _ _ c.self.invariant c.in_ok-write.ensures.text
    (node-written _ c.args.node.now _ _ _ c.before-2.ensures c.behind.ensures k) c.with-self-inside.ensures
