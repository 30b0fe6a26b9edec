use Rattle.std.proofs.Common.{◌≡◌, take}
use Rattle.sgt_explain_certificate.specs.Ranks.{all_given}
use Rattle.sgt_explain_certificate.proofs.ranks.given_in.Given as goal

abbrev pub invariant-loop-number : goal.invariant-loop-number
invariant-loop-number l = l.given.items ≡ all_given (take l.number l.decisions)
