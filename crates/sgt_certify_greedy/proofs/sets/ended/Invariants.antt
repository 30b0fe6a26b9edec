use Rattle.std.proofs.Common.{◌<◌, ℕ, All}
use Rattle.sgt_certify_logs.specs.Witness.{HasEnd}
use Rattle.sgt_certify_greedy.specs.Decided.{HasEnders}
use Rattle.sgt_certify_greedy.proofs.sets.ended.Given as goal

abbrev pub invariant-loop-site : goal.invariant-loop-site
invariant-loop-site l = record {
  only : All (HasEnd l.sites) l.txs.items;
  has : (s : ℕ) → s < l.site → HasEnders l.txs.items l.sites s;
}
