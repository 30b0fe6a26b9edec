-- What is gathered, site after site.
use Rattle.std.proofs.Common.{◌≡◌, ◌∙◌, ◌+◌, ℕ, List, [], ◌∷◌, ◌++◌, All, Some, refl, sym, ap, subst, add-one, append-nil}
use Rattle.sgt_names.specs.declared.draft.Touch.{Touch}
use Rattle.sgt_names.specs.Draft.{at_site}
use Rattle.sgt_edges.specs.declared.edge.Edge.{Edge}
use Rattle.sgt_edges.specs.Edges.{IsGiven, StandsForAll}
use Rattle.sgt_site.specs.State.{SiteState, IsSite}
use Rattle.sgt_certifier.specs.declared.call.Call.{Call}
use Rattle.sgt_service_agreement.specs.Agreed.{VersionsAgree}
use Rattle.sgt_service_locks.specs.Guarded.{IsGathered, IsGatheredAt, IsGatheredBelow}
use Rattle.sgt_service_locks.specs.declared.active.Active.{Active}

-- under the pledge that was taken
pub gathered_there : (history : List Call) (active : Active) (here : ℕ) (old new : SiteState) (more : List Edge)
    → old.number ≡ here → IsSite new
    → VersionsAgree history old
    → new ≡ record old { pledge = Some (record { tx = active.tx; part = at_site old.number active.draft.touched }) }
    → All (IsGiven new active.draft.touched active.handle) more
    → StandsForAll new active.draft.touched active.handle more
    → IsGathered history active here new more
gathered_there history active here old new more number kept agreed is given stands =
    let same : new.number ≡ old.number = ap (λ (s : SiteState). s.number) is in record {
      here = same ∙ number;
      kept = kept;
      agreed = subst (VersionsAgree history) (sym is) agreed;
      pledged = ap (λ (s : SiteState). s.pledge) is
          ∙ ap (λ n. Some (record { tx = active.tx; part = at_site n active.draft.touched })) (sym same);
      given = given;
      stands = stands;
    }

-- the sites below the next one, where that is touched
pub gathered_some : (history : List Call) (active : Active) (place here : ℕ) (before after : List Edge)
    (s : SiteState) → here ≡ place
    → (at_site here active.draft.touched ≡ [] → ⊥) → IsGatheredBelow history active place before
    → (more : List Edge) × (after ≡ before ++ more) × IsGathered history active here s more
    → IsGatheredBelow history active (place + 1) after
gathered_some history active place here before after s same some below m =
    subst (λ k. IsGatheredBelow history active k after) (sym (add-one place)) (
      before,
      m.0,
      m.1,
      below,
      at (at_site place active.draft.touched) (subst (λ n. at_site n active.draft.touched ≡ []
          → ⊥) same some),
    )
  where
    at : (touched : List Touch) → (touched ≡ [] → ⊥) → IsGatheredAt history active place touched m.0
    at [] none = absurd (none refl)
    at (t ∷ ts) none = (s, subst (λ n. IsGathered history active n s m.0) same m.2)

-- and where it isn't
pub gathered_none : (history : List Call) (active : Active) (place here : ℕ) (edges : List Edge) → here ≡ place
    → at_site here active.draft.touched ≡ [] → IsGatheredBelow history active place edges
    → IsGatheredBelow history active (place + 1) edges
gathered_none history active place here edges same none below =
    subst (λ k. IsGatheredBelow history active k edges) (sym (add-one place)) (
      edges,
      [],
      sym (append-nil edges),
      below,
      subst (λ touched. IsGatheredAt history active place touched [])
          (sym (subst (λ n. at_site n active.draft.touched ≡ []) same none)) refl,
    )
