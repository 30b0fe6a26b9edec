-- What is said of ends that stand against the order of their decisions.
use Rattle.std.specs.Prelude.{◌≡◌, ℕ, ◌<◌, ◌≤◌, List, ◌++◌, All, take, slice_get, codes, decimal, Some}
use Rattle.sgt_names.specs.Entry.{tx_of, IsEnd}
use Rattle.sgt_bundle.specs.declared.certificate.Decision.{Decision}
use Rattle.sgt_explain_lines.specs.declared.section.Logged.{Logged}
use Rattle.sgt_explain_lines.specs.Told.{noted_line}
use Rattle.sgt_explain_decisions.specs.declared.order.Decided.{Decided}
use Rattle.sgt_explain_decisions.specs.Placed.{IsFirstOn}

-- an end, with the number of the first decision on its transaction
abbrev pub IsDecidedEnd : List Decision → Decided → Type 0
IsDecidedEnd decisions d = IsEnd d.logged.entry × IsFirstOn decisions (tx_of d.logged.entry) d.number

-- the entry is no end that was decided later than by the decision of this number
abbrev pub IsNotLater : List Decision → ℕ → Logged → Type 0
IsNotLater decisions own l = (number : ℕ) → IsDecidedEnd decisions (record { logged = l; number = number })
    → number ≤ own

-- of these entries the first end that was decided later than by the decision of this number
pub record IsFirstLater (decisions : List Decision) (entries : List Logged) (own : ℕ) (d : Decided) : Type 0 where
  pub place : ℕ
  pub there : slice_get entries place ≡ Some d.logged
  pub is : IsDecidedEnd decisions d
  pub later : own < d.number
  pub before : All (IsNotLater decisions own) (take place entries)

-- an end of these entries was decided later than the transaction of this one
pub record IsOvertaken (decisions : List Decision) (entries : List Logged) (l : Logged) : Type 0 where
  pub own : ℕ
  pub decided : IsFirstOn decisions (tx_of l.entry) own
  pub later : All (IsNotLater decisions own) entries → ⊥

abbrev pub decided_text : Decided → List ℕ
decided_text d = noted_line d.logged ++ (codes "decision " ++ (decimal d.number ++ codes "\n"))

abbrev pub decision_order_head : List ℕ
decision_order_head = codes "DecisionOrder: the ends of a log stand in the order of their decisions\n"

-- the end, and the first of the entries that was decided later, each with the number of its decision
pub record AreMisplaced (decisions : List Decision) (entries : List Logged) (l : Logged) (first own : Decided) : Type
    0 where
  pub same : own.logged ≡ l
  pub decided : IsFirstOn decisions (tx_of l.entry) own.number
  pub there : IsFirstLater decisions entries own.number first

-- both are shown
abbrev pub TellsDecisionOrder : List Decision → List Logged → Logged → (old new : List ℕ) → Type 0
TellsDecisionOrder decisions entries l old new = (first own : Decided) × AreMisplaced decisions entries l first own
    × (new ≡ old ++ (decision_order_head ++ (decided_text first ++ decided_text own)))
