-- What is said of the ends of transactions at a site.
use Rattle.std.specs.Prelude.{◌≡◌, ◌⊎◌, ℕ, ◌<◌, ◌≤◌, Bool, List, ◌++◌, take, slice_get, All, Contains, codes, decimal, Option, Some, None, is_some, IfSome, IfNone, IsSomeAnd, if◌then◌else◌}
use Rattle.sgt_names.specs.Entry.{tx_of, IsEnd}
use Rattle.sgt_names.specs.declared.entry.Entry.{Entry}
use Rattle.sgt_bundle.specs.Certificate.{decided_tx}
use Rattle.sgt_bundle.specs.declared.certificate.Decision.{Decision}
use Rattle.sgt_bundle.specs.declared.certificate.Decision.TheVariants.{Commit, Refuse, Withdraw}
use Rattle.sgt_explain_lines.specs.declared.section.Logged.{Logged}
use Rattle.sgt_explain_lines.specs.Told.{shown_line}
use Rattle.sgt_explain_lines.specs.Beside.{line_if_there}
use Rattle.sgt_explain_decisions.specs.declared.order.Decided.{Decided}
use Rattle.sgt_explain_decisions.specs.declared.placed.Placed.{Placed}
use Rattle.sgt_explain_decisions.specs.Decided.{IsDecidedEnd}
use Rattle.sgt_explain_decisions.specs.Placed.{ArePlaced, IsDecisionOn, IsFirstOn, IsUndecided}
use Rattle.sgt_explain_decisions.specs.Told.{decision_text, no_decision_text}

-- the entry ends the transaction
abbrev pub EndsTx : ℕ → Entry → Type 0
EndsTx tx e = IsEnd e × (tx_of e ≡ tx)

-- none of these entries ends it
abbrev pub HasNoEnd : List Logged → ℕ → Type 0
HasNoEnd entries tx = All (λ l. EndsTx tx l.entry → ⊥) entries

-- the end of the transaction among these entries, where it has one
pub record IsEndOf (entries : List Logged) (tx : ℕ) (found : Option Logged) : Type 0 where
  pub there : IfSome found (λ l. Contains entries l × EndsTx tx l.entry)
  pub none : IfNone found (HasNoEnd entries tx)

-- ---- an entry that doesn't suit its transaction's decision, or stands behind its end

abbrev pub end_head : Option Logged → Logged → List ℕ
end_head ended l = codes "End: the transaction isn't decided as this entry says, or has ended here\n"
    ++ (line_if_there ended ++ (shown_line l ++ codes "\n"))

-- which entries a transaction may have that is decided so
abbrev pub letters_of : Decision → List ℕ
letters_of (Commit tx rank) = codes "r, w, d and c"
letters_of (Refuse tx walk) = codes "r, p, q and n"
letters_of (Withdraw tx) = codes "r and a"

abbrev pub letters_text : ℕ → Decision → List ℕ
letters_text n d = decision_text n d ++ (codes ": of " ++ (decimal (decided_tx d) ++ (codes " may stand " ++ (letters_of d ++ codes " alone\n"))))

abbrev pub ended_text : ℕ → List ℕ
ended_text tx = codes "transaction " ++ (decimal tx ++ codes " has ended at this site: nothing of it may follow\n")

abbrev pub reason_text : ℕ → Decision → Bool → List ℕ
reason_text n d has_ended = if has_ended then ended_text (decided_tx d) else letters_text n d

-- what is told why it may not stand there: the decision on its transaction, or that there is none
abbrev pub IsReason : List Decision → List Placed → (tx : ℕ) → Bool → List ℕ → Type 0
IsReason decisions placed tx has_ended reason =
    ((ArePlaced decisions placed → IsUndecided decisions tx) × (reason ≡ no_decision_text tx))
    ⊎ ((number : ℕ) × (decision : Decision) × IsDecisionOn decisions tx number decision
    × (reason ≡ reason_text number decision has_ended))

-- the end of its transaction is shown, if it has one, and the entry; and why it may not stand there
abbrev pub TellsEnd : List Decision → List Placed → List Logged → Logged → (old new : List ℕ) → Type 0
TellsEnd decisions placed entries l old new = (ended : Option Logged) × (reason : List ℕ)
    × IsEndOf entries (tx_of l.entry) ended
    × IsReason decisions placed (tx_of l.entry) (is_some ended) reason × (new ≡ old ++ (end_head ended l ++ reason))

-- ---- a transaction with no end

abbrev pub without_end : (site tx : ℕ) → List ℕ
without_end site tx = codes "NotEnded: transaction " ++ (decimal tx ++ (codes " has an entry at site " ++ (decimal site ++ codes " and no end\n")))

abbrev pub not_ended_head : ℕ → Logged → List ℕ
not_ended_head site l = without_end site (tx_of l.entry) ++ (shown_line l ++ codes "\n")

-- one of these entries ends it
abbrev pub HasEnd : List Logged → ℕ → Type 0
HasEnd entries tx = (l : Logged) × Contains entries l × EndsTx tx l.entry

-- of these entries the first whose transaction has no end among them
pub record IsFirstUnended (entries : List Logged) (l : Logged) : Type 0 where
  pub place : ℕ
  pub there : slice_get entries place ≡ Some l
  pub none : HasNoEnd entries (tx_of l.entry)
  pub before : All (λ o. HasEnd entries (tx_of o.entry)) (take place entries)

-- an end that it has to stand beside, where there is one: of the ends that Q holds of, by the numbers of their
-- decisions, none comes behind it as R has it
pub record IsBeside (Q : ℕ → Type 0) (R : ℕ → ℕ → Type 0) (decisions : List Decision) (entries : List Logged)
    (found : Option Decided) : Type 0 where
  pub there : IfSome found (λ d. Contains entries d.logged × IsDecidedEnd decisions d × Q d.number)
  pub nearest : All (λ l. (number : ℕ) → IsDecidedEnd decisions (record { logged = l; number = number }) → Q number
      → IsSomeAnd found (λ d. R number d.number)) entries

-- of the ends that were decided before the decision of this number the last decided
abbrev pub IsLastBefore : List Decision → List Logged → ℕ → Option Decided → Type 0
IsLastBefore decisions entries own found = IsBeside (λ n. n < own) (λ m n. m ≤ n) decisions entries found

-- of those that were decided behind it the first decided
abbrev pub IsFirstBehind : List Decision → List Logged → ℕ → Option Decided → Type 0
IsFirstBehind decisions entries own found = IsBeside (λ n. own < n) (λ m n. n ≤ m) decisions entries found

-- the end that is missing
abbrev pub wanted_end : Decision → List ℕ
wanted_end (Commit tx rank) = codes ": c" ++ (decimal tx ++ codes " has to stand among the entries\n")
wanted_end (Refuse tx walk) = codes ": n" ++ (decimal tx ++ codes " has to stand among the entries\n")
wanted_end (Withdraw tx) = codes ": a" ++ (decimal tx ++ codes " has to stand among the entries\n")

abbrev pub beside_text : List ℕ → Option Decided → List ℕ
beside_text word (Some d) = word ++ (codes " the end of decision " ++ (decimal d.number ++ (codes " (line " ++ (decimal d.logged.line ++ codes ")\n"))))
beside_text word None = codes ""

abbrev pub wanted_text : ℕ → Decision → List ℕ
wanted_text n d = decision_text n d ++ wanted_end d

abbrev pub both_beside : (before behind : Option Decided) → List ℕ
both_beside before behind = beside_text (codes "behind") before ++ beside_text (codes "before") behind

-- the decision on the transaction, and between which ends its own has to stand
pub record TellsPlace (decisions : List Decision) (entries : List Logged) (tx : ℕ) (told : List ℕ) : Type 0 where
  pub number : ℕ
  pub decision : Decision
  pub on : IsDecisionOn decisions tx number decision
  pub first : IsFirstOn decisions tx number
  pub before : Option Decided
  pub behind : Option Decided
  pub last : IsLastBefore decisions entries number before
  pub next : IsFirstBehind decisions entries number behind
  pub text : told ≡ wanted_text number decision ++ both_beside before behind

-- the first entry is shown whose transaction has no end, and where that has to stand
abbrev pub TellsNotEnded : List Decision → List Logged → ℕ → (old new : List ℕ) → Type 0
TellsNotEnded decisions entries site old new = (l : Logged) × IsFirstUnended entries l × (told : List ℕ)
    × TellsPlace decisions entries (tx_of l.entry) told × (new ≡ old ++ (not_ended_head site l ++ told))
