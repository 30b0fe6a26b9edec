use Rattle.std.proofs.Common.{ℕ, List, sym, subst}
use Rattle.sgt_certify_greedy.specs.declared.pairs.Pair.{Pair}
use Rattle.sgt_certify_greedy.specs.declared.pairs.Rule.TheVariants.{Ends}
use Rattle.sgt_certify_greedy.specs.Pairs.{ArePairsOf, Leads}
use Rattle.sgt_certify_logs.specs.Witness.{EndsBefore}
use Rattle.sgt_certify_greedy.proofs.Knowing.{ring-ends}
use Rattle.sgt_certify_greedy.proofs.Pairing.{ends-followed}
use Rattle.sgt_certify_greedy.proofs.Rings.{ring-cycle}
use Rattle.sgt_certify_greedy.proofs.deciding.free_one.Goals as goal

pub returns : goal.returns
returns c = (
  c.in-Some.ensures.some.0,
  λ u has ends. c.in-Some.ensures.some.1 u has
      (subst (λ (ps : List Pair). Leads ps u c.in-Some.tx) (sym c.as_slice-pairs.ensures.value)
      (c.requires.known.ends.has u c.in-Some.tx (ends-followed c.args.sites.now u c.in-Some.tx ends))),
)

pub unreachable-requires : goal.unreachable-requires
unreachable-requires c =
    let sites = c.args.sites.now in
    let pairs = c.as_slice-pairs.result.now in
    let exact =
    subst (λ (ps : List Pair). ArePairsOf Ends sites ps) (sym c.as_slice-pairs.ensures.value)
    c.requires.known.ends in
    c.requires.no_cycle (ring-cycle (EndsBefore sites) c.in_ok-_cycle-in-None._cycle.items
    (ring-ends sites pairs c.args.left.now c.in_ok-_cycle-in-None._cycle.items exact c.in_ok-_cycle-in-None.ensures))
