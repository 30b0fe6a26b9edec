-- Logs, bundles and JSON values that the definitions exclude, each by one of their parts alone.
use Rattle.std.proofs.Common.{◌≡◌, ℕ, true, false, List, [], ◌∷◌, length, refl, ap, get_or, arith, lit<}
use Rattle.std.specs.Prelude.{codes}
use Rattle.std.proofs.lemmas.Option.{same_Some}
use Rattle.serde_json.specs.Data.{Data, number, unsigned, string, array, object, no_items, item, Members, no_members, member}
use Rattle.sgt_names.specs.Name.{Name}
use Rattle.sgt_names.specs.declared.entry.Entry.{Entry}
use Rattle.sgt_names.specs.declared.entry.Entry.TheVariants as e
use Rattle.sgt_names.specs.declared.entry.Holding.{Holding}
use Rattle.sgt_names.specs.declared.entry.Kind.TheVariants.{Rw, Ww}
use Rattle.sgt_names.proofs.Places.{All_at, AllPairs_at}
use Rattle.sgt_bundle.specs.Parts.{ComesBefore, IsShapedLog}
use Rattle.sgt_bundle.specs.Valid.{IsValid, IsValidLog}
use Rattle.sgt_bundle.specs.Line.{is_certificate_object, is_decision_object}
use Rattle.sgt_bundle.specs.declared.bundle.SiteLog.{SiteLog}
use Rattle.sgt_bundle.specs.declared.certificate.Step.{Step}
use Rattle.sgt_bundle.specs.declared.certificate.Decision.{Decision}
use Rattle.sgt_bundle.specs.declared.certificate.Decision.TheVariants.{Commit, Refuse, Withdraw}
use Rattle.sgt_bundle.proofs.WorkedBundles.{x, y, cycle, cycle-other_kind}
use Rattle.sgt_bundle.proofs.Examples.{no_step-no_cycle, of_x, twice-not_once, from_one-not_ranks, undecided-not_agree}

-- ---- the shape of a log

-- names that fall, or are equal
pub falling-not_shaped : (entries : List Entry) (finals : List Holding)
    → IsShapedLog (record {
      items = record { item = y; value = 2 } ∷ record { item = x; value = 5 } ∷ [];
      entries =
          entries;
      finals = finals;
    }) → ⊥
falling-not_shaped entries finals s = let wrong =
    AllPairs_at ComesBefore (y ∷ x ∷ []) 0 1 y x s.rising (lit< tt) refl refl in absurd cc

pub equal-not_shaped : (entries : List Entry) (finals : List Holding)
    → IsShapedLog (record {
      items = record { item = x; value = 5 } ∷ record { item = x; value = 5 } ∷ [];
      entries =
          entries;
      finals = finals;
    }) → ⊥
equal-not_shaped entries finals s = let wrong =
    AllPairs_at ComesBefore (x ∷ x ∷ []) 0 1 x x s.rising (lit< tt) refl refl in absurd cc

-- an item with no final value, or the final value of another
pub final_missing-not_shaped : (entries : List Entry)
    → IsShapedLog (record { items = record { item = x; value = 5 } ∷ []; entries = entries; finals = [] }) → ⊥
final_missing-not_shaped entries s = let wrong = s.finals in absurd cc

pub other_final-not_shaped : (entries : List Entry)
    → IsShapedLog (record {
      items = record { item = x; value = 5 } ∷ [];
      entries = entries;
      finals =
          record { item = y; value = 5 } ∷ [];
    }) → ⊥
other_final-not_shaped entries s = let letters : 121 ≡ 120 =
    ap (λ (ns : List Name). get_or (get_or ns 0 []) 0 0) s.finals in absurd (omega (arith, letters))

-- one item too many
pub too_many-not_shaped : (items finals : List Holding) (entries : List Entry) → length items ≡ 1025
    → IsShapedLog (record { items = items; entries = entries; finals = finals }) → ⊥
too_many-not_shaped items finals entries many s = let room = s.room in absurd (omega (arith, many, room))

-- ---- a valid bundle

-- a refused transaction's walk that is no cycle, and one with a step of a kind that isn't logged
pub no_walk-not_valid : (sites : List SiteLog)
    → IsValid (record { certificate = record { sites = 1; decisions = Refuse 2 [] ∷ [] }; sites = sites }) → ⊥
no_walk-not_valid sites v = no_step-no_cycle (v.cycles 0 2 [] refl).0

abbrev other_kind : List Step
other_kind = record { label = record { site = 0; item = y; kind = Ww }; to = 1 } ∷ record {
  label =
      record { site = 0; item = x; kind = Rw };
  to = 2;
} ∷ []

pub other_kind-not_valid : IsValid
    (record {
      certificate = record { sites = 1; decisions = Commit 1 0 ∷ Refuse 2 other_kind ∷ [] };
      sites =
          cycle.sites;
    }) → ⊥
other_kind-not_valid v = cycle-other_kind (v.cycles 1 2 other_kind refl).1.0

-- a transaction that is decided twice, ranks that leave 0 out, and a transaction that nothing decides
pub twice-not_valid : (sites : List SiteLog)
    → IsValid (record { certificate = record { sites = 1; decisions = Commit 1 0 ∷ Withdraw 1 ∷ [] }; sites = sites })
    → ⊥
twice-not_valid sites v = twice-not_once v.once

pub from_one-not_valid : (sites : List SiteLog)
    → IsValid (record { certificate = record { sites = 1; decisions = Commit 1 1 ∷ [] }; sites = sites }) → ⊥
from_one-not_valid sites v = from_one-not_ranks v.ranks

log_of : (ds : List Decision) (entries : List Entry) (v : ℕ) → IsValid (of_x ds entries v)
    → IsValidLog ds (record {
      items = record { item = x; value = 5 } ∷ [];
      entries = entries;
      finals =
          record { item = x; value = v } ∷ [];
    })
log_of ds entries v valid = All_at (IsValidLog ds) (of_x ds entries v).sites 0 _ valid.logs refl

pub undecided-not_valid : IsValid (of_x [] (e.Read 1 x 5 ∷ []) 5) → ⊥
undecided-not_valid v = undecided-not_agree (log_of [] (e.Read 1 x 5 ∷ []) 5 v).agrees

-- another value is read by a transaction that is then withdrawn, which the serial run leaves out
pub wrong_read-not_valid : IsValid (of_x (Withdraw 1 ∷ []) (e.Read 1 x 4 ∷ e.Withdraw 1 ∷ []) 5) → ⊥
wrong_read-not_valid v =
    let same = same_Some 5 4 ((log_of (Withdraw 1 ∷ []) (e.Read 1 x 4 ∷ e.Withdraw 1 ∷ []) 5 v).reads 0 1 x 4 refl) in
    absurd (omega (arith, same))

-- another final value
pub wrong_final-not_valid : IsValid (of_x [] [] 6) → ⊥
wrong_final-not_valid v =
    let same = same_Some 5 6 ((log_of [] [] 6 v).finals 0 (record { item = x; value = 6 }) (lit< tt)) in
    absurd (omega (arith, same))

-- ---- the shape of a certificate

-- a number, as JSON
abbrev num : ℕ → Data
num n = number (unsigned n)

abbrev certificate_of : Data → Members → Data
certificate_of decisions more = object (member (codes "decisions") decisions (member (codes "sites") (num 1) more))

-- just its members
pub certificate-shape : is_certificate_object (certificate_of (array no_items) no_members) ≡ true
certificate-shape = refl

-- one more, one missing, and one of another JSON type
pub more-no_certificate : is_certificate_object (certificate_of (array no_items) (member (codes "more") (num 1) no_members)) ≡ false
more-no_certificate = refl

pub missing-no_certificate : is_certificate_object (object (member (codes "sites") (num 1) no_members)) ≡ false
missing-no_certificate = refl

pub other_type-no_certificate : is_certificate_object (certificate_of (string (codes "x")) no_members) ≡ false
other_type-no_certificate = refl

-- a decision of no shape
pub odd-no_certificate : is_certificate_object (certificate_of (array (item (object no_members) no_items)) no_members)
    ≡ false
odd-no_certificate = refl

-- a rank of another type, and a commit with a walk
pub text_rank-no_decision : is_decision_object (object (member (codes "commit") (num 1) (member (codes "rank") (string (codes "0")) no_members))) ≡ false
text_rank-no_decision = refl

pub commit_with_walk-no_decision : is_decision_object (object (member (codes "commit") (num 1) (member (codes "rank") (num 0) (member (codes "walk") (array no_items) no_members)))) ≡ false
commit_with_walk-no_decision = refl

-- a walk that is no array, and one with a step that leads nowhere
pub no_array-no_decision : is_decision_object (object (member (codes "refuse") (num 2) (member (codes "walk") (object no_members) no_members))) ≡ false
no_array-no_decision = refl

abbrev refusal : Members → Data
refusal to = object (member (codes "refuse") (num 2) (member (codes "walk") (array (item (object (member (codes "item") (string x) (member (codes "kind") (string (codes "rw")) (member (codes "site") (num 0) to)))) no_items)) no_members))

pub step-decision : is_decision_object (refusal (member (codes "to") (num 1) no_members)) ≡ true
step-decision = refl

pub no_target-no_decision : is_decision_object (refusal (member (codes "at") (num 1) no_members)) ≡ false
no_target-no_decision = refl

pub withdraw_with_rank-no_decision : is_decision_object (object (member (codes "withdraw") (num 1) (member (codes "rank") (num 0) no_members))) ≡ false
withdraw_with_rank-no_decision = refl
