use Rattle.std.proofs.Common.{length, slice_get, get_or, set, None, refl, sym, ap, ◌∙◌, arith}
use Rattle.sgt_arena.specs.Places.{block_places, somes}
use Rattle.sgt_arena.proofs.Places.{place_shows, value_of, item_written}
use Rattle.sgt_arena.proofs.block.Block.get_mut.Goals as goal

pub get_mut-requires : goal.get_mut-requires
get_mut-requires g c =
    let b = c.self.inside in let h = c.self.invariant in let i = c.args.index in
    let x = value_of c.args.self.now i c.requires in
    (sym h.memory.0, (x.0, place_shows b h i ∙ ap (λ l. slice_get l i) c.self.view_is ∙ x.1))

pub invariant_of-self-lent : goal.invariant_of-self-lent
invariant_of-self-lent g c =
    λ w. let long = ap length c.self.view_is in let lt = c.requires in
    (item_written c.self.inside c.self.invariant c.args.index w (omega arith)).0

pub returns : goal.returns
returns g c =
    let b = c.self.inside in let h = c.self.invariant in let i = c.args.index in let long =
    ap length c.self.view_is in let lt = c.requires in (
      (refl, λ w. (item_written b h i w (omega arith)).1 ∙ ap (λ l. set l i w) c.self.view_is),
      record {
        writes_back = tt;
        value = ap (λ l. slice_get l i) (sym c.self.view_is) ∙ sym (place_shows b h i)
            ∙ c.get_mut.ensures.value;
      },
    )
