-- What a check of a stuck set says: that some transactions are never followed by some others in
-- conflict.
use Rattle.std.specs.Prelude.{◌≡◌, ℕ, ◌<◌, true, IsTrue, List, [], ◌∷◌, ◌++◌, All, Contains, Some, slice_get}
use Rattle.std.specs.BTreeSet.{BTreeSet, contains}
use Rattle.std.specs.Ordering.{nat_cmp}
use Rattle.std.specs.Cmp.Lexicographic.{slice_cmp}
use Rattle.sgt_names.specs.Name.{Name}
use Rattle.sgt_names.specs.Entry.{tx_of, is_increment, Clash, Reads, Writes}
use Rattle.sgt_names.specs.declared.entry.Entry.{Entry}
use Rattle.sgt_names.specs.declared.entry.Kind.{Kind}
use Rattle.sgt_bundle.specs.Certificate.{stops}
use Rattle.sgt_bundle.specs.Valid.{AreLogged}
use Rattle.sgt_bundle.specs.declared.certificate.Step.{Step}
use Rattle.sgt_bundle.specs.declared.bundle.SiteLog.{SiteLog}
use Rattle.sgt_certify_stuck.specs.declared.apart.Class.{Class}
use Rattle.sgt_certify_stuck.specs.declared.apart.Class.TheVariants as class

-- the set has the transaction
abbrev pub HasTx : BTreeSet ℕ → ℕ → Type 0
HasTx set tx = contains nat_cmp set tx ≡ true

-- the set has the item
abbrev pub HasItem : BTreeSet (List ℕ) → Name → Type 0
HasItem set x = contains (slice_cmp nat_cmp) set x ≡ true

-- the entry reads the item; changes it or asks to; or does so by a write
abbrev pub Does : Class → Name → Entry → Type 0
Does class.Read x e = Reads x e
Does class.Change x e = Writes x e
Does class.Put x e = Writes x e × (IsTrue (is_increment e) → ⊥)

-- no entry of the first transactions that does the first stands before one of the second that does
-- the second to the same item
abbrev pub IsClear : List Entry → (sources barred : BTreeSet ℕ) → (first second : Class) → Type 0
IsClear entries sources barred first second = (p q : ℕ) (e f : Entry) (x : Name) → p < q
    → slice_get entries p ≡ Some e → slice_get entries q ≡ Some f
    → HasTx sources (tx_of e) → HasTx barred (tx_of f) → Does first x e → Does second x f → ⊥

-- no entry of one of the first stands before one of the second that it clashes with
abbrev pub AreApart : List Entry → (sources barred : BTreeSet ℕ) → Type 0
AreApart entries sources barred = (kind : Kind) (x : Name) (p q : ℕ) (e f : Entry) → p < q
    → slice_get entries p ≡ Some e → slice_get entries q ≡ Some f
    → HasTx sources (tx_of e) → HasTx barred (tx_of f) → Clash kind x e f → ⊥

-- no walk of logged conflicts leads from the transaction back to it through these
abbrev pub HasNoWalk : List SiteLog → List ℕ → ℕ → Type 0
HasNoWalk sites through tx = (walk : List Step) (between : List ℕ) → AreLogged sites tx walk
    → stops walk ≡ between ++ tx ∷ []
    → All (Contains through) between → ⊥
