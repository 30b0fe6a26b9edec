-- What shows that a set is stuck: of each refused transaction that can be decided next a circle, out of
-- which no conflict leads.
use Rattle.std.specs.Prelude.{◌≡◌, ℕ, ◌<◌, List, ◌++◌, Contains, Some, slice_get}
use Rattle.sgt_names.specs.Name.{Name}
use Rattle.sgt_names.specs.Entry.{tx_of, Clash}
use Rattle.sgt_names.specs.declared.entry.Entry.{Entry}
use Rattle.sgt_names.specs.declared.entry.Entry.TheVariants.{Commit, Refuse}
use Rattle.sgt_names.specs.declared.entry.Kind.{Kind}
use Rattle.sgt_bundle.specs.declared.bundle.SiteLog.{SiteLog}
use Rattle.sgt_certify_logs.specs.Witness.{IsFree, IsIn}
use Rattle.sgt_certify_stuck.specs.declared.stuck.Circle.{Circle}
use Rattle.sgt_certify_stuck.specs.declared.stuck.StuckSet.{StuckSet}

-- no entry of one of the first transactions stands in a log before one of the second that it clashes
-- with
abbrev pub LeadNowhere : List SiteLog → (From To : ℕ → Type 0) → Type 0
LeadNowhere sites From To = (log : SiteLog) → Contains sites log
    → (kind : Kind) (x : Name) (p q : ℕ) (e f : Entry) → p < q
    → slice_get log.entries p ≡ Some e → slice_get log.entries q ≡ Some f
    → From (tx_of e) → To (tx_of f) → Clash kind x e f → ⊥

-- one of these that the circle didn't meet
abbrev pub IsBeyond : List ℕ → Circle → ℕ → Type 0
IsBeyond committed circle t = Contains committed t × (Contains circle.met.items t → ⊥)

-- neither the transaction nor one that was met leads to one of these beyond, and none that was met back to
-- the transaction
pub record IsCircle (sites : List SiteLog) (committed : List ℕ) (circle : Circle) : Type 0 where
  pub first : LeadNowhere sites (λ t. t ≡ circle.tx) (IsBeyond committed circle)
  pub onward : LeadNowhere sites (Contains circle.met.items) (IsBeyond committed circle)
  pub back : LeadNowhere sites (Contains circle.met.items) (λ t. t ≡ circle.tx)

-- one of the circles is the transaction's
abbrev pub HasCircle : List SiteLog → List ℕ → List Circle → ℕ → Type 0
HasCircle sites committed circles t = (circle : Circle) × Contains circles circle × (circle.tx ≡ t)
    × IsCircle sites committed circle

-- a log refuses the transaction, and it has a circle
abbrev pub IsEncircled : List SiteLog → StuckSet → ℕ → Type 0
IsEncircled sites stuck t = IsIn sites (Refuse t)
    × HasCircle sites stuck.committed.items stuck.circles.items t

abbrev pub members_of : StuckSet → List ℕ
members_of stuck = stuck.committed.items ++ stuck.others.items

-- none of the others is committed, some transaction can be decided next, and each that can is refused
-- and has a circle
pub record ShowsStuck (sites : List SiteLog) (stuck : StuckSet) : Type 0 where
  pub others : (t : ℕ) → Contains stuck.others.items t → IsIn sites (Commit t) → ⊥
  pub free : (t : ℕ) × IsFree sites (members_of stuck) t
  pub refused : (t : ℕ) → IsFree sites (members_of stuck) t → IsEncircled sites stuck t
