-- The ends that a missing one has to stand between.
use Rattle.std.proofs.Common.{◌≡◌, ◌≢◌, ℕ, ◌+◌, ◌<◌, ◌≤◌, List, [], ◌∷◌, ◌++◌, length, take, Option, Some, None, inl, inr, refl, sym, subst, ap, ◌∙◌, arith, All, Contains}
use Rattle.std.specs.Prelude.{slice_get, IfSome, IfNone, IsSomeAnd, ◌⊎◌}
use Rattle.std.proofs.lemmas.Bool.{cases_order}
use Rattle.std.proofs.lemmas.Option.{same_Some, none-some}
use Rattle.sgt_names.proofs.Lists.{All-next, All-weaken, All-whole}
use Rattle.sgt_names.proofs.Places.{All_at, Contains-from_at, slice_get-take_at}
use Rattle.sgt_names.specs.Entry.{tx_of, IsEnd}
use Rattle.sgt_bundle.specs.Certificate.{decided_tx}
use Rattle.sgt_bundle.specs.declared.certificate.Decision.{Decision}
use Rattle.sgt_explain_lines.specs.declared.section.Logged.{Logged}
use Rattle.sgt_explain_decisions.specs.declared.order.Decided.{Decided}
use Rattle.sgt_explain_decisions.specs.Placed.{IsFirstOn, IsUndecided}
use Rattle.sgt_explain_decisions.specs.Decided.{IsDecidedEnd, IsNotLater}
use Rattle.sgt_explain_decisions.specs.Ends.{IsBeside}

-- a transaction has one first decision
pub first-unique : (ds : List Decision) (tx m n : ℕ) → IsFirstOn ds tx m → IsFirstOn ds tx n → m ≡ n
first-unique ds tx m n one other =
    elim (cases_order m n) [
      | inl same ↦ same
      | inr (inl less) ↦ absurd (All_at (λ (d : Decision). decided_tx d ≢ tx) (take n ds) m one.decision other.before
          (slice_get-take_at ds n m one.decision less one.on.there) one.on.on)
      | inr (inr more) ↦ absurd (All_at (λ (d : Decision). decided_tx d ≢ tx) (take m ds) n other.decision one.before
          (slice_get-take_at ds m n other.decision more other.on.there) other.on.on)
    ]

-- a transaction that a decision is on isn't without one
pub first-decided : (ds : List Decision) (tx m : ℕ) → IsFirstOn ds tx m → IsUndecided ds tx → ⊥
first-decided ds tx m first none =
    All_at (λ (d : Decision). decided_tx d ≢ tx) ds m first.decision none first.on.there first.on.on

-- what is known of an entry as an end
pub record IsRead (ds : List Decision) (l : Logged) (end : Option Decided) : Type 0 where
  pub same : IfSome end (λ d. d.logged ≡ l)
  pub is : IfSome end (IsDecidedEnd ds)
  pub none : IfNone end (IsEnd l.entry → IsUndecided ds (tx_of l.entry))

-- its number is the one that is known
pub read-number : (ds : List Decision) (l : Logged) (end : Option Decided) (n : ℕ) → IsRead ds l end
    → IsDecidedEnd ds (record { logged = l; number = n }) → IsSomeAnd end (λ d. d.number ≡ n)
read-number ds l (Some d) n read is =
    first-unique ds (tx_of l.entry) d.number n
    (subst (λ (k : Logged). IsFirstOn ds (tx_of k.entry) d.number) read.same read.is.1) is.1
read-number ds l None n read is = first-decided ds (tx_of l.entry) n is.1 (read.none is.0)

-- ---- the nearest of so many first entries

pub record IsBesideSoFar (Q : ℕ → Type 0) (R : ℕ → ℕ → Type 0) (ds : List Decision) (entries : List Logged) (k : ℕ)
    (found : Option Decided) : Type 0 where
  pub there : IfSome found (λ d. Contains entries d.logged × IsDecidedEnd ds d × Q d.number)
  pub nearest : All (λ l. (number : ℕ) → IsDecidedEnd ds (record { logged = l; number = number }) → Q number
      → IsSomeAnd found (λ d. R number d.number)) (take k entries)

some-far : (R : ℕ → ℕ → Type 0) → ((a b c : ℕ) → R a b → R b c → R a c) → (n : ℕ) (found result : Option Decided)
    → IfSome found (λ d. IsSomeAnd result (λ g. R d.number g.number))
    → IsSomeAnd found (λ d. R n d.number) → IsSomeAnd result (λ g. R n g.number)
some-far R far n (Some d) (Some g) kept near = far n d.number g.number near kept
some-far R far n (Some d) None kept near = absurd kept
some-far R far n None result kept near = absurd near

some-new : (Q : ℕ → Type 0) (R : ℕ → ℕ → Type 0) (n : ℕ) (end result : Option Decided)
    → IfSome end (λ d. Q d.number → IsSomeAnd result (λ g. R d.number g.number))
    → IsSomeAnd end (λ d. d.number ≡ n) → Q n → IsSomeAnd result (λ g. R n g.number)
some-new Q R n (Some d) result more same q =
    subst (λ m. IsSomeAnd result (λ g. R m g.number)) same (more (subst Q (sym same) q))
some-new Q R n None result more same q = absurd same

one-there : (Q : ℕ → Type 0) (ds : List Decision) (entries : List Logged) (l : Logged)
    (found end result : Option Decided) → Contains entries l → IsRead ds l end
    → IfSome found (λ d. Contains entries d.logged × IsDecidedEnd ds d × Q d.number)
    → (result ≡ found) ⊎ ((result ≡ end) × IfSome end (λ d. Q d.number))
    → IfSome result (λ d. Contains entries d.logged × IsDecidedEnd ds d × Q d.number)
one-there Q ds entries l found end result has read there (inl same) =
    subst (λ o. IfSome o (λ d. Contains entries d.logged × IsDecidedEnd ds d × Q d.number)) (sym same) there
one-there Q ds entries l found (Some d) result has read there (inr other) =
    subst (λ o. IfSome o (λ d. Contains entries d.logged × IsDecidedEnd ds d × Q d.number)) (sym other.0)
    (subst (λ k. Contains entries k) (sym read.same) has, read.is, other.1)
one-there Q ds entries l found None result has read there (inr other) =
    subst (λ o. IfSome o (λ d. Contains entries d.logged × IsDecidedEnd ds d × Q d.number)) (sym other.0) tt

pub beside-next : (Q : ℕ → Type 0) (R : ℕ → ℕ → Type 0) → ((a b c : ℕ) → R a b → R b c → R a c)
    → (ds : List Decision) (entries : List Logged) (k : ℕ) (l : Logged) (found end result : Option Decided)
    → slice_get entries k ≡ Some l → IsRead ds l end
    → (result ≡ found) ⊎ ((result ≡ end) × IfSome end (λ d. Q d.number))
    → IfSome found (λ d. IsSomeAnd result (λ g. R d.number g.number))
    → IfSome end (λ d. Q d.number → IsSomeAnd result (λ g. R d.number g.number))
    → IsBesideSoFar Q R ds entries k found → IsBesideSoFar Q R ds entries (k + 1) result
beside-next Q R far ds entries k l found end result at read one kept more so_far = record {
  there = one-there Q ds entries l found end result (Contains-from_at entries k l at) read so_far.there one;
  nearest = All-next (λ (m : Logged). (number : ℕ) → IsDecidedEnd ds (record { logged = m; number = number })
      → Q number → IsSomeAnd result (λ d. R number d.number)) entries k l at
      (λ n is q. some-new Q R n end result more (read-number ds l end n read is) q)
      (All-weaken (λ (m : Logged). (number : ℕ) → IsDecidedEnd ds (record { logged = m; number = number }) → Q number
      → IsSomeAnd found (λ d. R number d.number))
      (λ (m : Logged). (number : ℕ) → IsDecidedEnd ds (record { logged = m; number = number }) → Q number
      → IsSomeAnd result (λ d. R number d.number))
      (take k entries) (λ m near n is q. some-far R far n found result kept (near n is q)) so_far.nearest);
}

pub beside-whole : (Q : ℕ → Type 0) (R : ℕ → ℕ → Type 0) (ds : List Decision) (entries : List Logged) (k : ℕ)
    (found : Option Decided) → length entries ≤ k
    → IsBesideSoFar Q R ds entries k found → IsBeside Q R ds entries found
beside-whole Q R ds entries k found long so_far = record {
  there = so_far.there;
  nearest = All-whole (λ (m : Logged). (number : ℕ) → IsDecidedEnd ds (record { logged = m; number = number })
      → Q number → IsSomeAnd found (λ d. R number d.number)) entries k long so_far.nearest;
}
