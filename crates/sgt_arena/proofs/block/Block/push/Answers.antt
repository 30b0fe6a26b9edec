use Rattle.std.proofs.Common.{◌∷◌, [], ◌++◌, length, get_or, None, sym, ap, ◌∙◌, arith}
use Rattle.std.proofs.lemmas.Option.{slice_get_past}
use Rattle.sgt_arena.specs.Places.{block_places, somes}
use Rattle.sgt_arena.proofs.Places.{places_long, place_shows, item_pushed}
use Rattle.sgt_arena.proofs.block.Block.push.Goals as goal

pub write-requires : goal.write-requires
write-requires g c =
    let b = c.self.inside in let h = c.self.invariant in let xs = somes b.cells.slots in let old =
    ap length c.self.view_is in let n = c.requires in let is = h.count.0 in
    let all = places_long b h in
    (sym h.memory.0, omega arith, place_shows b h b.len ∙ slice_get_past xs b.len (omega arith))

pub invariant_of-self : goal.invariant_of-self
invariant_of-self g c =
    let b = c.self.inside in let h = c.self.invariant in let old = ap length c.self.view_is in let n = c.requires in
    let is = h.count.0 in
    (item_pushed b h c.args.value c.write.new.self (omega arith) c.write.ensures).0

pub returns : goal.returns
returns g c =
    let b = c.self.inside in let h = c.self.invariant in let old = ap length c.self.view_is in let n = c.requires in
    let is = h.count.0 in
    (item_pushed b h c.args.value c.write.new.self (omega arith) c.write.ensures).1
    ∙ ap (λ l. l ++ c.args.value ∷ []) c.self.view_is
