use Rattle.std.proofs.Common.{subst, Contains}
use Rattle.std.specs.List.Sorted.{IsPermutation}
use Rattle.std.proofs.lemmas.Result.{IfOk-weaker}
use Rattle.std.proofs.lemmas.List.Sorted.{Contains-permutation, IsPermutation-sym}
use Rattle.sgt_service_settle.specs.private.Joined.{AreDeedsCarried}
use Rattle.sgt_service_settle.proofs.joined.is_item_joined.Goals as goal

pub follow_all-requires-2-clause-sound : goal.follow_all-requires-2-clause-sound
follow_all-requires-2-clause-sound c d has =
    let order = c.in_ok-order.order.items in
    let same : IsPermutation c.args.deeds.now order = c.in_ok-order.ensures.same in
    c.requires.sound d (Contains-permutation order c.args.deeds.now d (IsPermutation-sym c.args.deeds.now order same)
    (subst (λ xs. Contains xs d) c.as_slice.ensures.value has))

pub returns-clause-carried : goal.returns-clause-carried
returns-clause-carried c =
    let order = c.in_ok-order.order.items in
    let deeds = c.args.deeds.now in
    let links = c.args.links.now in
    let same : IsPermutation deeds order = c.in_ok-order.ensures.same in
    IfOk-weaker c.follow_all-2.result _ _
    (λ yes all is d e first second precedes. (subst (AreDeedsCarried links) c.as_slice.ensures.value (all is)) d e
    (Contains-permutation deeds order d same first) (Contains-permutation deeds order e same second) precedes)
    c.follow_all-2.ensures.carried
