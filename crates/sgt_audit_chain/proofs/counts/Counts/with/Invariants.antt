use Rattle.std.proofs.Common.{◌≡◌, ◌+◌, take}
use Rattle.std.specs.Prelude.{count_by}
use Rattle.sgt_bundle.specs.Certificate.{is_commit, is_refusal, is_withdrawal}
use Rattle.sgt_audit_chain.specs.Sums.{in_64_bits}
use Rattle.sgt_audit_chain.proofs.counts.Counts.with.Given as goal

abbrev pub invariant-loop-decision : goal.invariant-loop-decision
invariant-loop-decision l =
    let met = take l.decision-index l.decisions in
    (l.counts.committed ≡ in_64_bits (l.fn.self.committed + count_by is_commit met))
    × (l.counts.refused ≡ in_64_bits (l.fn.self.refused + count_by is_refusal met))
    × (l.counts.withdrawn ≡ in_64_bits (l.fn.self.withdrawn + count_by is_withdrawal met))
