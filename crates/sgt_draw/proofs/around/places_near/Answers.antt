use Rattle.std.proofs.Common.{Contains}
use Rattle.std.proofs.lemmas.List.Elements.{All-contains}
use Rattle.std.proofs.lemmas.List.Sorted.{Contains-permutation}
use Rattle.std.proofs.lemmas.Result.{IfOk-weaker}
use Rattle.sgt_draw.proofs.around.places_near.Goals as goal

pub returns : goal.returns
returns c =
    let ends = c.sort_by_key.new.self.items in
    let there : Contains ends c.args.place =
    Contains-permutation _ _ c.args.place c.in_ok-sort_by_key.ensures.permutation c.in_ok-ends.ensures in
    IfOk-weaker c.each_once.result _ _ (λ places all. All-contains (Contains places.items) ends c.args.place
    (rw c.as_slice.ensures.value at all) there) c.each_once.ensures
