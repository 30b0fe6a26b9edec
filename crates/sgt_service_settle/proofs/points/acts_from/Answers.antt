use Rattle.std.proofs.Common.{◌≡◌, ◌+◌, true, false, nat_lt, take, drop, List, ℕ, ◌∙◌, sym, subst, Contains}
use Rattle.std.specs.Prelude.{◌↔◌}
use Rattle.std.specs.List.Sorted.{IsPartitionPoint}
use Rattle.std.proofs.lemmas.List.{take_rest}
use Rattle.sgt_service_settle.specs.declared.acts.Act.{Act as AnAct}
use Rattle.sgt_service_settle.specs.private.Acts.{actor}
use Rattle.sgt_service_settle.proofs.Placing.{of_number-between}
use Rattle.sgt_service_settle.proofs.points.acts_from.Goals as goal

-- where the acts below a number end
abbrev Splits : List AnAct → ℕ → ℕ → Type 0
Splits ys t i = IsPartitionPoint (λ a. nat_lt (actor a) t ≡ true) (λ a. nat_lt (actor a) t ≡ false) ys i

pub returns : goal.returns
returns c a =
    let tx = c.args.tx in
    let ys = c.args.acts.now in
    let from = c.args.start in
    let to = c.count_below.result in
    let number : c.from-number.result ≡ tx = c.from-number.ensures ∙ c.number.ensures.is in
    let later = take_rest ys from in
    let low : Splits ys tx from = c.requires.point in
    let high =
    subst (λ t. Splits (drop from ys) (t + 1) to) number
    (subst (λ (zs : List AnAct). Splits zs (c.from-number.result + 1) to) later c.count_below.ensures.point) in
    subst (λ (zs : List AnAct). Contains (take to zs) a ↔ (Contains ys a × (actor a ≡ tx))) (sym later)
    (of_number-between actor ys tx from to low high a)
