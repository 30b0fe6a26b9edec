-- The log at a place of the sites, with the counts at that place.
use Rattle.std.proofs.Common.{◌≡◌, ◌∙◌, ℕ, List, Some, Result, Ok, Err, OnErr, sym, ap, subst}
use Rattle.std.specs.Prelude.{slice_get}
use Rattle.std.proofs.lemmas.Option.{same_Some}
use Rattle.sgt_site.specs.State.{SiteState}
use Rattle.sgt_service_agreement.specs.declared.counts.EntryCounts.{EntryCounts}
use Rattle.sgt_service_settle.specs.declared.index.Index.{Index}
use Rattle.sgt_service_settle.specs.Settled.{IsCounted, AreCountedAt}
use Rattle.sgt_service_settle.specs.private.Sites.{IsSiteFit, IsFitAt}
use Rattle.sgt_certifier.proofs.Counting.{on-err}

pub fit_at : (index : Index) (sites : List SiteState) (counts : List EntryCounts) (k site : ℕ) (s : SiteState)
    (c : EntryCounts) → slice_get sites k ≡ Some s → slice_get counts k ≡ Some c → site ≡ k → IsSiteFit index site c s
    → IsFitAt index sites counts k
fit_at index sites counts k site s c here counted is_k fit t d there also =
    subst (λ x. IsSiteFit index x d t) is_k
    (subst (λ x. IsSiteFit index site x t) (same_Some c d (sym counted ∙ also))
    (subst (IsSiteFit index site c) (same_Some s t (sym here ∙ there)) fit))

pub unfit_at : (index : Index) (sites : List SiteState) (counts : List EntryCounts) (k site : ℕ) (s : SiteState)
    (c : EntryCounts) → slice_get sites k ≡ Some s → slice_get counts k ≡ Some c → site ≡ k
    → (IsSiteFit index site c s → ⊥) → IsFitAt index sites counts site → ⊥
unfit_at index sites counts k site s c here counted is_k unfit fit =
    unfit (fit s c (ap (slice_get sites) is_k ∙ here) (ap (slice_get counts) is_k ∙ counted))

pub counted_at : (sites : List SiteState) (counts : List EntryCounts) (k site : ℕ) (s : SiteState) (c : EntryCounts)
    → slice_get sites k ≡ Some s → slice_get counts k ≡ Some c → site ≡ k → IsCounted site c s
    → AreCountedAt sites counts k
counted_at sites counts k site s c here counted is_k are t d there also =
    subst (λ x. IsCounted x d t) is_k
    (subst (λ x. IsCounted site x t) (same_Some c d (sym counted ∙ also))
    (subst (IsCounted site c) (same_Some s t (sym here ∙ there)) are))
