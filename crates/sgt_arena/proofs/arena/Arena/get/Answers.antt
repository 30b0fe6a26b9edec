use Rattle.std.proofs.Common.{◌≡◌, ◌≤◌, ◌<◌, ◌/◌, length, get_or, ap, ◌∙◌, sym, subst, arith}
use Rattle.std.specs.Option.{option_copied}
use Rattle.sgt_arena.specs.Arena.{get}
use Rattle.sgt_arena.proofs.Arenas.{no_value, value_at, seen, get_is}
use Rattle.sgt_arena.proofs.arena.Arena.get.Goals as goal

pub returns-in_err-block : goal.returns-in_err-block
returns-in_err-block g c =
    let a = c.self.inside in let inv = c.self.invariant in let h = c.args.handle in
    let same : h.generation ≡ a.generation = omega (arith, c.if-handle-self.false) in
    let past : length a.blocks.items ≤ h.index / 64 =
    subst (λ bs. length bs ≤ h.index / 64) c.deref.ensures.value c.in_err-block.ensures.lookup.3 in
    ap option_copied c.from_residual.ensures ∙ sym (no_value a inv h.index past) ∙ sym (get_is (seen a inv) h same)
    ∙ ap (λ s. get s h) c.self.view_is

pub returns : goal.returns
returns g c =
    let a = c.self.inside in let inv = c.self.invariant in let h = c.args.handle in
    let same : h.generation ≡ a.generation = omega (arith, c.if-handle-self.false) in
    let b = c.in_ok-block.block.now in let q = h.index / 64 in let shown = c.in_ok-block.ensures.lookup in
    let there = subst (λ bs. (q < length bs) × (b ≡ get_or bs q b)) c.deref.ensures.value (shown.3.0, shown.1) in
    c.get-2.ensures ∙ value_at a inv h.index b there.0 there.1 ∙ sym (get_is (seen a inv) h same)
    ∙ ap (λ s. get s h) c.self.view_is
