use Rattle.std.proofs.Common.{◌≡◌, ◌+◌, ◌-◌, true, false, nat_lt, take, drop, List, ℕ, ap, ◌∙◌, subst, arith}
use Rattle.std.specs.List.{filter}
use Rattle.std.specs.List.Sorted.{IsPartitionPoint}
use Rattle.std.proofs.lemmas.List.{take_rest}
use Rattle.sgt_serial.specs.private.Operations.{owner, is_by}
use Rattle.sgt_serial.specs.declared.entries.SiteEntry.{SiteEntry}
use Rattle.sgt_serial.proofs.Sorting.{of_number-between}
use Rattle.sgt_serial.proofs.sorted.Sorted.span.Goals as goal

-- where the entries below a number end
abbrev Splits : List SiteEntry → ℕ → ℕ → Type 0
Splits ys t i = IsPartitionPoint (λ e. nat_lt (owner e) t ≡ true) (λ e. nat_lt (owner e) t ≡ false) ys i

pub returns-clause-entries : goal.returns-clause-entries
returns-clause-entries c logs =
    let tx = c.args.tx in
    let ys = c.as_slice-entries.result.now in
    let from = c.count_below-from.result in
    let long = c.count_below-long.result in
    let number : c.from-number.result ≡ tx = c.from-number.ensures ∙ c.number.ensures.is in
    let later = take_rest ys from in
    let low = subst (λ t. Splits ys t from) number c.count_below-from.ensures.point in
    let high =
    subst (λ t. Splits (drop from ys) (t + 1) long) number
    (subst (λ (zs : List SiteEntry). Splits zs (c.from-number.result + 1) long) later
    c.count_below-long.ensures.point) in
    let same : from + long - from ≡ long = omega arith in
    subst (λ (zs : List SiteEntry). take (from + long - from) (drop from zs) ≡ filter (is_by tx) zs)
    (c.as_slice-entries.ensures.value ∙ c.self.view_is)
    (ap (λ n. take n (drop from ys)) same ∙ of_number-between owner ys tx from long low high)
