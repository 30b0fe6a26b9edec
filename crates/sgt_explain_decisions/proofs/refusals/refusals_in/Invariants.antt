use Rattle.std.proofs.Common.{◌≡◌, take}
use Rattle.std.specs.Prelude.{count_by}
use Rattle.sgt_bundle.specs.Certificate.{is_refusal}
use Rattle.sgt_explain_decisions.proofs.refusals.refusals_in.Given as goal

abbrev pub invariant-loop-decision : goal.invariant-loop-decision
invariant-loop-decision l = l.met ≡ count_by is_refusal (take l.decision-index l.decisions)
