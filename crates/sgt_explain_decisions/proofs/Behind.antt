-- Texts put together, one behind the other.
use Rattle.std.proofs.Common.{◌≡◌, ℕ, Bool, List, ◌++◌, Option, ◌<◌, inr, refl, subst, ap, ◌∙◌, append_assoc}
use Rattle.std.specs.Prelude.{Contains, IfSome, IfNone, Result, Ok, Err, OnOk, is_ok, is_some, if◌then◌else◌}
use Rattle.sgt_names.specs.Entry.{tx_of, IsEnd}
use Rattle.sgt_bundle.specs.declared.certificate.Decision.{Decision}
use Rattle.sgt_explain_lines.specs.declared.section.Logged.{Logged}
use Rattle.sgt_explain_decisions.specs.declared.placed.Placed.{Placed}
use Rattle.sgt_explain_decisions.specs.Ends.{EndsTx, HasNoEnd, IsEndOf, IsReason, end_head, TellsEnd}
use Rattle.sgt_names.proofs.Elements.{ok-taken, two-parts, three-parts, four-parts}

-- the end of the transaction of an entry, and why this may not stand there
pub tells-end : (ds : List Decision) (ps : List Placed) (entries given : List Logged) (tx : ℕ) (l : Logged)
    (ended : Option Logged) (has_ended : Bool) (reason old a new : List ℕ)
    → given ≡ entries → tx ≡ tx_of l.entry → IfSome ended (λ e. Contains given e × EndsTx tx e.entry)
    → IfNone ended (HasNoEnd given tx) → has_ended ≡ is_some ended
    → IsReason ds ps tx has_ended reason → a ≡ old ++ end_head ended l → new ≡ a ++ reason
    → TellsEnd ds ps entries l old new
tells-end ds ps entries given tx l ended has_ended reason old a new same of there none has why e f = (
  ended,
  reason,
  subst (λ ls. IsEndOf ls (tx_of l.entry) ended) same
      (subst (λ t. IsEndOf given t ended) of (record { there = there; none = none })),
  subst (λ b. IsReason ds ps (tx_of l.entry) b reason) has (subst (λ t. IsReason ds ps t has_ended reason) of why),
  two-parts old a (end_head ended l) reason new e f,
)
