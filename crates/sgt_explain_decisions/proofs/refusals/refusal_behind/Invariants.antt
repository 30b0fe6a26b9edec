use Rattle.std.proofs.Common.{◌≡◌, ◌≤◌, take}
use Rattle.std.specs.Prelude.{count_by}
use Rattle.sgt_bundle.specs.Certificate.{is_refusal}
use Rattle.sgt_explain_decisions.proofs.refusals.refusal_behind.Given as goal

abbrev pub invariant-loop-number : goal.invariant-loop-number
invariant-loop-number l = (l.met ≡ count_by is_refusal (take l.number l.decisions)) × (l.met ≤ l.fn.most)
