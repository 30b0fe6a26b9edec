-- A site that has lost a pledge.
use Rattle.std.proofs.Common.{◌≡◌, ℕ, refl, sym, ◌∙◌}
use Rattle.std.specs.Prelude.{Bool, false, IsTrue}
use Rattle.std.proofs.lemmas.Bool.{true≢false}
use Rattle.sgt_site.specs.State.{SiteState, IsPledged, IsPledgedFor}
use Rattle.sgt_workers.specs.declared.ticket.Ending.{Ending}
use Rattle.sgt_workers.specs.declared.ticket.Ending.TheVariants.{Committed, Refused, Withdrawn}
use Rattle.sgt_service_locks.specs.Pledges.{HasLostPledge}
use Rattle.sgt_service_locks.specs.declared.active.Active.{Active}

-- no block was written there, though one is written wherever the pledge stands
pub lost_pledge : (verdict : Ending) (active : Active) (here : ℕ) (s : SiteState) (written : Bool) → written ≡ false
    → (s.number ≡ here → (verdict ≡ Withdrawn → ⊥) → IsPledgedFor s active.tx active.draft.touched → IsTrue written)
    → (s.number ≡ here → verdict ≡ Withdrawn → IsPledged s active.tx → IsTrue written)
    → HasLostPledge verdict active here s
lost_pledge Committed active here s written none stands back =
    λ number pledged. true≢false (sym (stands number (λ other. absurd cc) pledged) ∙ none)
lost_pledge Refused active here s written none stands back =
    λ number pledged. true≢false (sym (stands number (λ other. absurd cc) pledged) ∙ none)
lost_pledge Withdrawn active here s written none stands back =
    λ number pledged. true≢false (sym (back number refl pledged) ∙ none)
