-- What of a draft is gone over for a site, and the pledge for it.
use Rattle.std.proofs.Common.{◌≡◌, ◌∙◌, ℕ, List, ◌++◌, append-nil, [], ◌∷◌, length, None, sym, subst, All, Contains}
use Rattle.std.specs.Prelude.{IsSome}
use Rattle.std.specs.Option.{ForSome}
use Rattle.sgt_names.specs.Draft.{at_site}
use Rattle.sgt_names.specs.Name.{Name}
use Rattle.sgt_names.specs.DraftParts.{PartView, touched_in}
use Rattle.sgt_names.specs.declared.draft.Touch.{Touch}
use Rattle.sgt_names.proofs.Lists.{All-weaken}
use Rattle.sgt_site.specs.State.{SiteState, HasEnded}
use Rattle.sgt_site.specs.Refused.{IsHere, MayPledge}
use Rattle.sgt_site.specs.private.Cells.{Contents, InCells, IsThere, KeepsItem}
use Rattle.sgt_site.specs.private.Kept.{Spare, IsKept}
use Rattle.sgt_site.specs.private.Pending.{ArePending, items_by}
use Rattle.sgt_site.specs.declared.pending.Pending.{Pending}
use Rattle.sgt_site.proofs.PendingReads.{own-kept}
use Rattle.sgt_site.proofs.Pledges.{known-part, keeps-from}
use Rattle.sgt_site.proofs.SitePart.{may-whole}

-- a draft that has no parts touches what is in its list
pub few-all : (few : List Touch) (ps : List PartView) (ts : List Touch) → few ++ touched_in ps ≡ ts → length ps ≡ 0
    → few ≡ ts
few-all few [] ts is none = sym (append-nil few) ∙ is
few-all few (p ∷ ps) ts is none = absurd cc

-- a pledge may be given where the touched items are there, with all reads of the transaction and no others
module _ (s : SiteState) (cells : List Contents) (ended : List ℕ) (spare : Spare)
    (kept : IsKept s cells ended spare) (tx : ℕ) (near part : List Touch) (is : part ≡ at_site s.number near)
    (free : s.pledge ≡ None) (active : HasEnded s.entries tx → ⊥) (there : All (IsThere cells tx) part) where
  pub may-here : (p : Pending) → ArePending p s.entries → (own : List Name) → own ≡ items_by p tx
      → All (KeepsItem part s.number) own → MayPledge s tx near
  may-here p pending own same keeps = may-whole s tx near part is record {
    known = known-part s.number (IsHere s) part
        (All-weaken (IsThere cells tx) (λ (t : Touch). t.site ≡ s.number → IsSome t.change → IsHere s t.item) part
        (λ t found here some. subst (λ xs. Contains xs t.item) kept.names_same found.0) there);
    active = active;
    free = free;
    same = keeps-from s cells kept.site kept.names_same kept.each tx part
        (All-weaken (IsThere cells tx) (λ (t : Touch). t.site ≡ s.number
        → ForSome t.seen (InCells cells tx t.item)) part (λ t found here. found.1) there)
        (own-kept (KeepsItem part s.number) p s.entries tx pending active
        (subst (All (KeepsItem part s.number)) same keeps));
  }
