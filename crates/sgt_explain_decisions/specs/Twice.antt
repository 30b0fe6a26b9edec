-- What is said of two decisions on one transaction.
use Rattle.std.specs.Prelude.{◌≡◌, ℕ, ◌<◌, List, ◌++◌, take, slice_get, codes, Some}
use Rattle.sgt_bundle.specs.Certificate.{decided_tx, IsDecidedOnce}
use Rattle.sgt_bundle.specs.declared.certificate.Decision.{Decision}
use Rattle.sgt_explain_decisions.specs.Told.{decision_text}

-- two decisions of these numbers are on one transaction
pub record IsTwice (decisions : List Decision) (m n : ℕ) : Type 0 where
  pub one : Decision
  pub other : Decision
  pub first : slice_get decisions m ≡ Some one
  pub second : slice_get decisions n ≡ Some other
  pub apart : m < n
  pub same : decided_tx one ≡ decided_tx other

abbrev pub decision_line : ℕ → Decision → List ℕ
decision_line n d = decision_text n d ++ codes "\n"

abbrev pub twice_text : (m n : ℕ) → Decision → Decision → List ℕ
twice_text m n one other = decision_line m one ++ decision_line n other

abbrev pub decided_twice_head : List ℕ
decided_twice_head = codes "DecidedTwice: a transaction has one decision\n"

-- the second is the first decision on a transaction that was decided before
pub record IsFirstTwice (decisions : List Decision) (m n : ℕ) : Type 0 where
  pub two : IsTwice decisions m n
  pub before : IsDecidedOnce (take n decisions)

-- behind the rule stand two decisions on one transaction
abbrev pub TellsTwice : List Decision → (old new : List ℕ) → Type 0
TellsTwice decisions old new = (m n : ℕ) × (first : IsFirstTwice decisions m n)
    × (new ≡ old ++ (decided_twice_head ++ twice_text m n first.two.one first.two.other))
