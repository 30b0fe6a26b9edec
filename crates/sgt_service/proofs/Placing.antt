-- Which items are there.
use Rattle.std.proofs.Common.{◌≡◌, ℕ, Option, List, Some, None, sym, ◌∙◌, subst}
use Rattle.std.specs.Prelude.{All, Any, IfSome, IfNone, slice_get}
use Rattle.std.proofs.lemmas.Option.{same_Some}
use Rattle.sgt_names.specs.Name.{Name}
use Rattle.sgt_notation.specs.declared.event.SiteLine.{SiteLine}
use Rattle.sgt_notation.specs.declared.script.Script.{Script}
use Rattle.sgt_notation.specs.Reading.{SpellsNone}
use Rattle.sgt_notation.specs.Scripts.{IsScript, script_text}
use Rattle.sgt_notation.proofs.OneScript.{script-one}
use Rattle.sgt_service.specs.Input.{HasPlace, IsPlaced, IsScriptOver}

pub place_there : (sites : List SiteLine) (s : ℕ) (x : Name) (l : SiteLine) (r : Option ℕ) → slice_get sites s ≡ Some l
    → IfSome r (λ at. Any (λ h. h.item ≡ x) l.items) → IfSome r (λ at. HasPlace sites s x)
place_there sites s x l (Some at) here has = (l, here, has)
place_there sites s x l None here t = tt

pub place_missing : (sites : List SiteLine) (s : ℕ) (x : Name) (l : SiteLine) (r : Option ℕ)
    → slice_get sites s ≡ Some l
    → IfNone r (Any (λ h. h.item ≡ x) l.items → ⊥) → IfNone r (HasPlace sites s x → ⊥)
place_missing sites s x l (Some at) here t = tt
place_missing sites s x l None here none =
    λ h. none (subst (λ (k : SiteLine). Any (λ h. h.item ≡ x) k.items) (same_Some h.0 l (sym h.1 ∙ here)) h.2)

pub place_none : (sites : List SiteLine) (s : ℕ) (x : Name) → slice_get sites s ≡ None → HasPlace sites s x → ⊥
place_none sites s x none h = let e = sym h.1 ∙ none in absurd cc

-- the line spells a script that isn't over the sites, so it spells none that is
pub not_over : (sites : List SiteLine) (line : List ℕ) (s : Script) → IsScript s → line ≡ script_text s
    → (All (IsPlaced sites) s.operations → ⊥)
    → SpellsNone (IsScriptOver sites) script_text line
not_over sites line s is text not t over same =
    let e : s ≡ t = script-one s t is over.0 (sym text ∙ same) in
    not (subst (λ (u : Script). All (IsPlaced sites) u.operations) (sym e) over.1)
