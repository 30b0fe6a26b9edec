-- What refuses a gathering.
use Rattle.std.proofs.Common.{◌≡◌, ℕ, ◌≤◌, false, List, ◌++◌, length, take, drop, Some, None, Result, Ok, Err, IsOk, IfErr, OnOk, All, sym, ap, subst, ◌∙◌, arith, length-append}
use Rattle.std.specs.Prelude.{slice_get, IsTrue, ◌↔◌}
use Rattle.std.specs.List.{filter_map}
use Rattle.std.specs.Result.{IsErrAnd}
use Rattle.std.proofs.lemmas.Bool.{true≢false}
use Rattle.std.proofs.lemmas.List.{take-append-drop}
use Rattle.std.proofs.lemmas.List.Elements.{filter_map-append}
use Rattle.sgt_names.specs.Entry.{change_of}
use Rattle.sgt_names.specs.Name.{Name}
use Rattle.sgt_names.specs.declared.draft.Touch.{Touch}
use Rattle.sgt_names.specs.declared.entry.Entry.{Entry}
use Rattle.sgt_names.proofs.Places.{All_at}
use Rattle.sgt_site.specs.State.{SiteState, version_at, IsPledged}
use Rattle.sgt_site.specs.Refused.{IsSame, RefusesPledge}
use Rattle.sgt_site.specs.declared.fault.SiteFault.{SiteFault}
use Rattle.sgt_site.specs.declared.fault.SiteFault.TheVariants as site
use Rattle.sgt_edges.specs.Edges.{SeesTooNew}
use Rattle.sgt_certifier.specs.declared.call.Call.{Call}
use Rattle.sgt_service_agreement.specs.declared.fault.ServiceFault.{ServiceFault}
use Rattle.sgt_service_agreement.specs.Agreed.{VersionsAgree, RefusesAgreed}
use Rattle.sgt_service_agreement.specs.Fault.{of_site}

-- one that has it not is enough to deny it of all
pub one-fails : {A : Type 0} (P : A → Type 0) (xs : List A) (n : ℕ) (a : A) → slice_get xs n ≡ Some a → (P a → ⊥)
    → IsTrue false ↔ All P xs
one-fails P xs n a at none = (λ t. absurd (true≢false (sym t)), λ all. absurd (none (All_at P xs n a all at)))

refused-pledge : (history : List Call) (s : SiteState) (tx : ℕ) (touched : List Touch) (f : SiteFault)
    → VersionsAgree history s
    → RefusesPledge s tx touched f → RefusesAgreed history s tx touched (of_site f)
refused-pledge history s tx touched site.Memory agree h = (agree, h)
refused-pledge history s tx touched site.UnknownItem agree h = (agree, h, λ e. absurd cc)
refused-pledge history s tx touched site.ReadTwice agree h = (agree, h, λ e. absurd cc)
refused-pledge history s tx touched site.Ended agree h = (agree, h, λ e. absurd cc)
refused-pledge history s tx touched site.NotPledged agree h = (agree, h, λ e. absurd cc)
refused-pledge history s tx touched site.BadItems agree h = (agree, h, λ e. absurd cc)
refused-pledge history s tx touched site.PledgeOpen agree h = (agree, h, λ e. absurd cc)
refused-pledge history s tx touched site.DraftDiffers agree h = (agree, h, λ e. absurd cc)

-- so is the refusal that is made of it
pub handed-on : {A : Type 0} (r : Result A ServiceFault) (history : List Call) (s : SiteState) (tx : ℕ)
    (touched : List Touch) (f : SiteFault)
    → IsErrAnd r (λ e. e ≡ of_site f) → VersionsAgree history s → RefusesPledge s tx touched f
    → IfErr r (RefusesAgreed history s tx touched)
handed-on (Ok a) history s tx touched f told agree h = tt
handed-on (Err e) history s tx touched f told agree h =
    subst (RefusesAgreed history s tx touched) (sym told) (refused-pledge history s tx touched f agree h)
