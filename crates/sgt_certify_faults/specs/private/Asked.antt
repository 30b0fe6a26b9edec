-- The kinds of end that transactions ask for.
use Rattle.std.specs.Prelude.{◌≡◌, ◌⊎◌, ◌==◌, ℕ, Bool, List, [], ◌∷◌, ◌++◌, map, take, All, Option, Some, None, slice_get, if◌then◌else◌}
use Rattle.std.specs.List.{filter_map}
use Rattle.std.specs.BTreeMap.{get}
use Rattle.std.specs.Ordering.{nat_cmp}
use Rattle.sgt_names.specs.Entry.{tx_of}
use Rattle.sgt_names.specs.declared.entry.Entry.{Entry}
use Rattle.sgt_names.specs.declared.entry.Entry.TheVariants as entry
use Rattle.sgt_notation.specs.Spelling.{line_text, text_of_lines}
use Rattle.sgt_notation.specs.declared.SectionLine.{SectionLine}
use Rattle.sgt_bundle.specs.Certificate.{IsDecidedOnce}
use Rattle.sgt_bundle.specs.Valid.{IsDecided}
use Rattle.sgt_bundle.specs.declared.certificate.Decision.{Decision}
use Rattle.sgt_bundle.specs.declared.certificate.Decision.TheVariants as decision
use Rattle.sgt_audit.specs.Faults.{IsLineIn, logged_in}
use Rattle.sgt_certify_logs.specs.Sound.{EndAlike}
use Rattle.sgt_certify_faults.specs.declared.asked.Asked.{Asked}
use Rattle.sgt_certify_faults.specs.declared.asked.Asked.TheVariants as asked
use Rattle.sgt_certify_faults.specs.declared.asked.Asking.{Asking}
use Rattle.sgt_certify_faults.specs.declared.asked.Askings.{Askings}

-- the kind of end that an entry asks for
abbrev pub asked_end : Entry → Option Asked
asked_end (entry.Read tx x v) = None
asked_end (entry.Write tx x v) = Some asked.Commit
asked_end (entry.Add tx x v) = Some asked.Commit
asked_end (entry.Want tx x v) = Some asked.Refusal
asked_end (entry.WantAdd tx x v) = Some asked.Refusal
asked_end (entry.Commit tx) = Some asked.Commit
asked_end (entry.Refuse tx) = Some asked.Refusal
asked_end (entry.Withdraw tx) = Some asked.Withdrawal

-- the kind that a transaction's entries ask for first
abbrev pub end_by : ℕ → Entry → Option Asked
end_by tx e = if tx_of e == tx then asked_end e else None

abbrev pub first_end : ℕ → List Entry → Option Asked
first_end tx entries = slice_get (filter_map (end_by tx) entries) 0

-- the first of two kinds, if there is one
abbrev pub first_of : Option Asked → Option Asked → Option Asked
first_of (Some a) later = Some a
first_of None later = later

-- the same transaction behind one more of its entries
abbrev pub asking_with : Asking → Entry → Asking
asking_with k e = record k { end = first_of k.end (asked_end e) }

-- these are the transactions of the entries, each once, with the kind that it asks for first
pub record AreAskings (entries : List Entry) (a : Askings) : Type 0 where
  pub placed : (n : ℕ) (k : Asking) → slice_get a.list.items n ≡ Some k
      → get nat_cmp a.numbers k.tx ≡ Some n
  pub found : (tx n : ℕ) → get nat_cmp a.numbers tx ≡ Some n
      → (k : Asking) × (slice_get a.list.items n ≡ Some k) × (k.tx ≡ tx)
  pub ends : (n : ℕ) (k : Asking) → slice_get a.list.items n ≡ Some k
      → k.end ≡ first_end k.tx entries
  pub all : (n : ℕ) (e : Entry) → slice_get entries n ≡ Some e
      → (number : ℕ) × (get nat_cmp a.numbers (tx_of e) ≡ Some number)

-- a decision of the kind
abbrev pub decision_with : ℕ → Option Asked → Decision
decision_with tx (Some asked.Commit) = decision.Commit tx 0
decision_with tx (Some asked.Refusal) = decision.Refuse tx []
decision_with tx (Some asked.Withdrawal) = decision.Withdraw tx
decision_with tx None = decision.Withdraw tx

abbrev pub decision_of : Asking → Decision
decision_of k = decision_with k.tx k.end

-- the lines at the front of the bytes, as far as they are lines of the format
pub record AreInFront (second : Bool) (bytes : List ℕ) (lines : List SectionLine) : Type 0 where
  pub each : All (IsLineIn second) lines
  pub rest : List ℕ
  pub text : bytes ≡ text_of_lines (map line_text lines) ++ rest
  pub no_more : (line : SectionLine) (more : List ℕ) → IsLineIn second line
      → rest ≡ line_text line ++ 10 ∷ more → ⊥

abbrev pub IsAskedIn : Bool → List ℕ → Askings → Type 0
IsAskedIn second bytes a = (lines : List SectionLine) × AreInFront second bytes lines
    × AreAskings (filter_map logged_in lines) a

-- the decision on the entry's transaction suits it, or an earlier entry of the transaction asks for
-- another kind of end
abbrev pub AsksAsDecided : List Decision → List Entry → Entry → Type 0
AsksAsDecided ds earlier e = ((number : ℕ) × IsDecided ds e number)
    ⊎ (All (λ f. tx_of f ≡ tx_of e → EndAlike f e) earlier → ⊥)

-- so it is of each entry of these lines
pub record AreDecidedAsAsked (second : Bool) (bytes : List ℕ) (ds : List Decision) : Type 0 where
  pub once : IsDecidedOnce ds
  pub lines : List SectionLine
  pub front : AreInFront second bytes lines
  pub asks : (n : ℕ) (e : Entry) → slice_get (filter_map logged_in lines) n ≡ Some e
      → AsksAsDecided ds (take n (filter_map logged_in lines)) e
