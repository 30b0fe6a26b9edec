use Rattle.std.proofs.Common.{get_or, slice_get, None, sym, ap, ◌∙◌, arith}
use Rattle.sgt_arena.specs.Places.{block_places, somes}
use Rattle.sgt_arena.proofs.Places.{place_shows, value_of}
use Rattle.sgt_arena.proofs.block.Block.get.Goals as goal

pub get-requires : goal.get-requires
get-requires g c =
    let b = c.self.inside in let h = c.self.invariant in let i = c.args.index in let count = h.count.0 in let within =
    c.if-index-self.false in
    let x = value_of (somes b.cells.slots) i (omega arith) in
    (sym h.memory.0, (x.0, place_shows b h i ∙ x.1))

pub returns : goal.returns
returns g c =
    let b = c.self.inside in let h = c.self.invariant in let i = c.args.index in
    sym c.get.ensures ∙ place_shows b h i ∙ ap (λ l. slice_get l i) c.self.view_is
