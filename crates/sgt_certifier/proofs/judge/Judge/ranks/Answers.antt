use Rattle.std.proofs.Common.{◌≡◌, ◌≢◌, ◌<◌, ◌++◌, suc, length, map, sym, ap, ◌∙◌, subst, arith, All, AllPairs, Some}
use Rattle.std.specs.Prelude.{slice_get}
use Rattle.sgt_names.proofs.Places.{Contains-from_at}
use Rattle.sgt_certifier.specs.Certifier.{serial}
use Rattle.sgt_certifier.specs.Kept.{tx_at}
use Rattle.sgt_certifier.proofs.Judging.{parts_of, state_of}
use Rattle.sgt_certifier.proofs.Transfer.{contains_map}
use Rattle.sgt_certifier.proofs.Certifying.{serial-distinct, serial-below, serial-few}
use Rattle.sgt_certifier.proofs.judge.Judge.ranks.Goals as goal

pub push_all-requires-clause-numbers : goal.push_all-requires-clause-numbers
push_all-requires-clause-numbers c n h at =
    let p = parts_of c.self.inside in
    let s = state_of p in
    let good = c.self.invariant.good in
    let member =
    Contains-from_at c.self.inside.graph.order n h
    (subst (λ xs. slice_get xs n ≡ Some h) c.order-order.ensures.is at) in
    let small =
    (good.sound.order_here (tx_at c.self.inside.before h)
    (contains_map (tx_at c.self.inside.before) c.self.inside.graph.order h member)).1 in
    omega (arith, small)

pub rank_all-requires-clause-within : goal.rank_all-requires-clause-within
rank_all-requires-clause-within c k d lt =
    let p = parts_of c.self.inside in
    let s = state_of p in
    let good = c.self.invariant.good in
    let before = c.self.inside.before in
    let is : c.as_slice-2.result.now ≡ serial s = c.as_slice-2.ensures.value
    ∙ (c.push_all.ensures
    ∙ (ap (λ z. z ++ map (tx_at before) c.order-order.result.now) (c.in_ok-reserve.ensures.items
    ∙ (c.in_ok-serial.ensures.items ∙ c.as_slice.ensures.value))
    ∙ ap (λ o. c.self.inside.past.items ++ map (tx_at before) o) c.order-order.ensures.is)) in
    let below = subst (All (λ tx. tx < suc s.begun)) (sym is) (serial-below s good.sound) in
    omega (arith, below k d lt, c.in_ok-ranks.ensures.len)

pub rank_all-requires-clause-distinct : goal.rank_all-requires-clause-distinct
rank_all-requires-clause-distinct c =
    let p = parts_of c.self.inside in
    let s = state_of p in
    let good = c.self.invariant.good in
    let before = c.self.inside.before in
    let is : c.as_slice-2.result.now ≡ serial s = c.as_slice-2.ensures.value
    ∙ (c.push_all.ensures
    ∙ (ap (λ z. z ++ map (tx_at before) c.order-order.result.now) (c.in_ok-reserve.ensures.items
    ∙ (c.in_ok-serial.ensures.items ∙ c.as_slice.ensures.value))
    ∙ ap (λ o. c.self.inside.past.items ++ map (tx_at before) o) c.order-order.ensures.is)) in
    subst (AllPairs (λ a b. a ≢ b)) (sym is) (serial-distinct s good.sound)

pub rank_all-requires-clause-few : goal.rank_all-requires-clause-few
rank_all-requires-clause-few c =
    let p = parts_of c.self.inside in
    let s = state_of p in
    let good = c.self.invariant.good in
    let before = c.self.inside.before in
    let is : c.as_slice-2.result.now ≡ serial s = c.as_slice-2.ensures.value
    ∙ (c.push_all.ensures
    ∙ (ap (λ z. z ++ map (tx_at before) c.order-order.result.now) (c.in_ok-reserve.ensures.items
    ∙ (c.in_ok-serial.ensures.items ∙ c.as_slice.ensures.value))
    ∙ ap (λ o. c.self.inside.past.items ++ map (tx_at before) o) c.order-order.ensures.is)) in
    omega (arith, ap length is, serial-few s good.sound)
