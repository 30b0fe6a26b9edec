-- What decisions come to, and the decisions themselves.
use Rattle.std.proofs.Common.{◌≡◌, refl, sym, subst}
use Rattle.std.specs.Prelude.{◌↔◌, is_some}
use Rattle.sgt_names.specs.declared.entry.Entry.{Entry}
use Rattle.sgt_names.specs.declared.entry.Entry.TheVariants as entry
use Rattle.sgt_bundle.specs.Certificate.{is_commit, rank_in, Suits}
use Rattle.sgt_bundle.specs.declared.certificate.Decision.{Decision}
use Rattle.sgt_bundle.specs.declared.certificate.Decision.TheVariants.{Commit, Refuse, Withdraw}
use Rattle.sgt_audit_decisions.specs.declared.outcome.Outcome.{Outcome}
use Rattle.sgt_audit_decisions.specs.private.Outcome.{outcome_of, rank_with, SuitsWith}

pub rank-same : (d : Decision) → rank_with (outcome_of d) ≡ rank_in d
rank-same (Commit i rank) = refl
rank-same (Refuse i walk) = refl
rank-same (Withdraw i) = refl

pub commit-ranked : (d : Decision) → is_some (rank_with (outcome_of d)) ≡ is_commit d
commit-ranked (Commit i rank) = refl
commit-ranked (Refuse i walk) = refl
commit-ranked (Withdraw i) = refl

pub suits-same : (e : Entry) (d : Decision) → SuitsWith e (outcome_of d) ↔ Suits e d
suits-same (entry.Read tx x v) (Commit i rank) = (λ h. h, λ h. h)
suits-same (entry.Read tx x v) (Refuse i walk) = (λ h. h, λ h. h)
suits-same (entry.Read tx x v) (Withdraw i) = (λ h. h, λ h. h)
suits-same (entry.Write tx x v) (Commit i rank) = (λ h. h, λ h. h)
suits-same (entry.Write tx x v) (Refuse i walk) = (λ h. h, λ h. h)
suits-same (entry.Write tx x v) (Withdraw i) = (λ h. h, λ h. h)
suits-same (entry.Add tx x v) (Commit i rank) = (λ h. h, λ h. h)
suits-same (entry.Add tx x v) (Refuse i walk) = (λ h. h, λ h. h)
suits-same (entry.Add tx x v) (Withdraw i) = (λ h. h, λ h. h)
suits-same (entry.Want tx x v) (Commit i rank) = (λ h. h, λ h. h)
suits-same (entry.Want tx x v) (Refuse i walk) = (λ h. h, λ h. h)
suits-same (entry.Want tx x v) (Withdraw i) = (λ h. h, λ h. h)
suits-same (entry.WantAdd tx x v) (Commit i rank) = (λ h. h, λ h. h)
suits-same (entry.WantAdd tx x v) (Refuse i walk) = (λ h. h, λ h. h)
suits-same (entry.WantAdd tx x v) (Withdraw i) = (λ h. h, λ h. h)
suits-same (entry.Commit tx) (Commit i rank) = (λ h. h, λ h. h)
suits-same (entry.Commit tx) (Refuse i walk) = (λ h. h, λ h. h)
suits-same (entry.Commit tx) (Withdraw i) = (λ h. h, λ h. h)
suits-same (entry.Refuse tx) (Commit i rank) = (λ h. h, λ h. h)
suits-same (entry.Refuse tx) (Refuse i walk) = (λ h. h, λ h. h)
suits-same (entry.Refuse tx) (Withdraw i) = (λ h. h, λ h. h)
suits-same (entry.Withdraw tx) (Commit i rank) = (λ h. h, λ h. h)
suits-same (entry.Withdraw tx) (Refuse i walk) = (λ h. h, λ h. h)
suits-same (entry.Withdraw tx) (Withdraw i) = (λ h. h, λ h. h)

pub suits-by : (e : Entry) (d : Decision) (o : Outcome) (b : Type 0) → outcome_of d ≡ o → b ↔ SuitsWith e o
    → b ↔ Suits e d
suits-by e d o b is h = let w = subst (λ o. b ↔ SuitsWith e o) (sym is) h in let s = suits-same e d in
    (λ x. s.0 (w.0 x), λ y. w.1 (s.1 y))
