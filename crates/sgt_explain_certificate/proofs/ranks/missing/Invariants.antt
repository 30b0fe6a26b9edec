use Rattle.std.proofs.Common.{ℕ, ◌≢◌, ◌<◌, ◌≤◌, take, All}
use Rattle.sgt_explain_certificate.specs.Ranks.{HasRank}
use Rattle.sgt_explain_certificate.proofs.ranks.missing.Given as goal

abbrev pub invariant-loop-one : goal.invariant-loop-one
invariant-loop-one l = record {
  within : l.wanted ≤ l.one-index;
  apart : All (λ g. g.rank ≢ l.wanted) (take l.one-index l.given);
  met : (rank : ℕ) → rank < l.wanted → HasRank l.given rank;
}
