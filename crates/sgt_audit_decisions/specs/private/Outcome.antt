-- What decisions come to, without their walks.
use Rattle.std.specs.Prelude.{ℕ, Option, Some, None}
use Rattle.sgt_names.specs.declared.entry.Entry.{Entry}
use Rattle.sgt_names.specs.declared.entry.Entry.TheVariants as entry
use Rattle.sgt_bundle.specs.declared.certificate.Decision.{Decision}
use Rattle.sgt_bundle.specs.declared.certificate.Decision.TheVariants as decision
use Rattle.sgt_audit_decisions.specs.declared.outcome.Outcome.{Outcome}
use Rattle.sgt_audit_decisions.specs.declared.outcome.Outcome.TheVariants.{Commit, Refuse, Withdraw}

abbrev pub outcome_of : Decision → Outcome
outcome_of (decision.Commit tx rank) = Commit rank
outcome_of (decision.Refuse tx walk) = Refuse
outcome_of (decision.Withdraw tx) = Withdraw

abbrev pub rank_with : Outcome → Option ℕ
rank_with (Commit rank) = Some rank
rank_with _ = None

-- a decision with this outcome suits an entry of its transaction
abbrev pub SuitsWith : Entry → Outcome → Type 0
SuitsWith (entry.Read tx x v) o = Unit {0}
SuitsWith (entry.Write tx x v) (Commit rank) = Unit {0}
SuitsWith (entry.Add tx x v) (Commit rank) = Unit {0}
SuitsWith (entry.Want tx x v) Refuse = Unit {0}
SuitsWith (entry.WantAdd tx x v) Refuse = Unit {0}
SuitsWith (entry.Commit tx) (Commit rank) = Unit {0}
SuitsWith (entry.Refuse tx) Refuse = Unit {0}
SuitsWith (entry.Withdraw tx) Withdraw = Unit {0}
SuitsWith _ _ = ⊥
