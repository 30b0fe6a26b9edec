use Rattle.std.proofs.Common.{◌≡◌, rules}
use Rattle.std.specs.Bool.{Decides}
use Rattle.std.proofs.lemmas.Slice.Eq.{slice_eq-Decides}
use Rattle.sgt_service.proofs.begun.has_items.Goals as goal

pub returns : goal.returns
returns c =
    let decides : Decides c.eq.result (c.items.result.now ≡ c.args.items.now) =
    slice_eq-Decides (λ a b. search rules) _ _ _ c.eq.ensures in
    rw c.items.ensures.items at decides
