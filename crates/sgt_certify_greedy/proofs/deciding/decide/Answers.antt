use Rattle.std.proofs.Common.{ℕ, List, Contains, sym, subst}
use Rattle.sgt_certify_greedy.specs.declared.pairs.Pair.{Pair}
use Rattle.sgt_certify_greedy.specs.declared.pairs.Rule.TheVariants.{Ends}
use Rattle.sgt_certify_greedy.specs.declared.sorting.Sorting.{Sorting}
use Rattle.sgt_certify_greedy.specs.Pairs.{ArePairsOf, Leads}
use Rattle.sgt_certify_greedy.specs.Sorted.{IsOrdered, IsSorting}
use Rattle.sgt_certify_logs.specs.Witness.{HasEnd}
use Rattle.sgt_certify_greedy.proofs.Knowing.{ends-ordered, ring-ends}
use Rattle.sgt_certify_greedy.proofs.deciding.decide.Goals as goal

pub returns-in-Cycle : goal.returns-in-Cycle
returns-in-Cycle c =
    let txs = c.as_slice-txs.result.now in
    let found = c.as_slice-found.result.now in
    let exact = subst (λ (ps : List Pair). ArePairsOf Ends c.args.sites.now ps) (sym c.as_slice-found.ensures.value)
    c.in_ok-ends.ensures in
    ring-ends c.args.sites.now found txs c.in-Cycle.cycle.items exact
    (subst (λ (s : Sorting). IsSorting txs (Leads found) s) c.in-Cycle.is c.in_ok-sorting.ensures)

pub answer_after-requires-clause-no_cycle : goal.answer_after-requires-clause-no_cycle
answer_after-requires-clause-no_cycle c =
    let txs = c.as_slice-txs.result.now in
    let found = c.as_slice-found.result.now in
    let exact = subst (λ (ps : List Pair). ArePairsOf Ends c.args.sites.now ps) (sym c.as_slice-found.ensures.value)
    c.in_ok-ends.ensures in
    let order = c.in-Order._order.items in
    let ordered : IsOrdered (Leads found) txs order =
    subst (λ (s : Sorting). IsSorting txs (Leads found) s) c.in-Order.is c.in_ok-sorting.ensures in
    ends-ordered c.args.sites.now found txs order exact ordered
    (subst (λ (w : List ℕ). (t : ℕ) → HasEnd c.args.sites.now t
    → Contains w t) (sym c.as_slice-txs.ensures.value) c.in_ok-all.ensures.has)
