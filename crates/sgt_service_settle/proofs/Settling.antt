-- From the index of a history to what it says of the sites.
use Rattle.std.proofs.Common.{◌≡◌, ◌∙◌, ◌≤◌, ◌<◌, ℕ, List, length, Option, Some, None, refl, sym, subst, arith, inl, inr, Contains, get_or}
use Rattle.std.specs.Prelude.{slice_get, MatchOption, max}
use Rattle.std.proofs.lemmas.Bool.{cases_lt}
use Rattle.std.proofs.lemmas.Option.{same_Some, slice_get-get_or, slice_get_within}
use Rattle.sgt_names.proofs.Places.{slice_get-none}
use Rattle.sgt_names.specs.declared.entry.Entry.{Entry}
use Rattle.sgt_site.specs.State.{SiteState}
use Rattle.sgt_certifier.specs.Certifier.{Ruling}
use Rattle.sgt_certifier.specs.declared.call.Call.{Call}
use Rattle.sgt_service_settle.specs.Told.{handed_in}
use Rattle.sgt_service_settle.specs.Settled.{Carries, AreEntriesCounted, AreCountedAt, IsLogSettled, IsSiteSettled}
use Rattle.sgt_service_agreement.specs.declared.counts.EntryCounts.{EntryCounts}
use Rattle.sgt_service_settle.specs.declared.handed.Handed.{Handed}
use Rattle.sgt_service_settle.specs.declared.index.Index.{Index}
use Rattle.sgt_service_settle.specs.private.Index.{IsIndex, LinkedBy}
use Rattle.sgt_service_settle.specs.private.Sites.{IsLogFit, IsFitAt, IsLeastBeyond}
use Rattle.sgt_service_settle.proofs.Carrying.{reaches_map}

log_settled : (history : List Call) (rulings : List Ruling) (index : Index) (k : ℕ) (c : EntryCounts)
    (log : List Entry) → IsIndex history rulings index → IsLogFit index k c log → IsLogSettled history rulings k c log
log_settled history rulings index k c log is fit = record {
  counted = fit.counted;
  edges = λ h contains site.
      let e = fit.handed.edges h (subst (λ calls. Contains (handed_in calls) h) (sym is.calls) contains) site in
      (e.0, e.1, (is.names h.edge.from e.0).0 e.2, (is.names h.edge.to e.1).0 e.3, e.4);
  conflicts = λ kind x a b m n conflict first second.
      reaches_map (LinkedBy index (record { site = k; item = x; last = max m n }))
      (Carries history rulings k x (max m n))
      (λ from to. (is.links (record { site = k; item = x; last = max m n }) from to).0) a b
      (fit.handed.conflicts kind x a b m n conflict ((is.commits a m).1 first) ((is.commits b n).1 second));
}

log_fit : (history : List Call) (rulings : List Ruling) (index : Index) (k : ℕ) (c : EntryCounts) (log : List Entry)
    → IsIndex history rulings index → IsLogSettled history rulings k c log → IsLogFit index k c log
log_fit history rulings index k c log is settled = record {
  counted = settled.counted;
  handed = record {
    edges = λ h contains site.
        let e = settled.edges h (subst (λ calls. Contains (handed_in calls) h) is.calls contains) site in
        (e.0, e.1, (is.names h.edge.from e.0).1 e.2, (is.names h.edge.to e.1).1 e.3, e.4);
    conflicts = λ kind x a b m n conflict first second.
        reaches_map (Carries history rulings k x (max m n))
        (LinkedBy index (record { site = k; item = x; last = max m n }))
        (λ from to. (is.links (record { site = k; item = x; last = max m n }) from to).1) a b
        (settled.conflicts kind x a b m n conflict ((is.commits a m).0 first) ((is.commits b n).0 second));
  };
}

-- ---- sites that are there

fit_with : (history : List Call) (rulings : List Ruling) (index : Index) (sites : List SiteState)
    (counts : List EntryCounts) (k : ℕ) (o : Option SiteState) → slice_get sites k ≡ o → IsIndex history rulings index
    → length counts ≡ length sites → k < length sites → IsFitAt index sites counts k
    → IsSiteSettled history rulings counts k o
fit_with history rulings index sites counts k None at is long low fit =
    absurd (let le = slice_get-none sites k at in omega (arith, low, le))
fit_with history rulings index sites counts k (Some s) at is long low fit =
    let none : EntryCounts = record { reads = 0; others = 0 } in
    let c : EntryCounts = get_or counts k none in
    let here : slice_get counts k ≡ Some c = slice_get-get_or counts k none (omega (arith, low, long)) in
    let is_fit = fit s c at here in
    (c, here, is_fit.0, log_settled history rulings index k c s.entries is is_fit.1)

pub fit_settled : (history : List Call) (rulings : List Ruling) (index : Index) (sites : List SiteState)
    (counts : List EntryCounts) (k : ℕ) → IsIndex history rulings index → length counts ≡ length sites
    → k < length sites → IsFitAt index sites counts k → IsSiteSettled history rulings counts k (slice_get sites k)
fit_settled history rulings index sites counts k is long low fit =
    fit_with history rulings index sites counts k (slice_get sites k) refl is long low fit

pub settled_fit : (history : List Call) (rulings : List Ruling) (index : Index) (sites : List SiteState)
    (counts : List EntryCounts) (k : ℕ) → IsIndex history rulings index
    → IsSiteSettled history rulings counts k (slice_get sites k) → IsFitAt index sites counts k
settled_fit history rulings index sites counts k is settled s c there counted =
    let known : IsSiteSettled history rulings counts k (Some s) =
    subst (IsSiteSettled history rulings counts k) there settled in
    let same : known.0 ≡ c = same_Some known.0 c (sym known.1 ∙ counted) in (
      known.2,
      log_fit history rulings index k c s.entries is
          (subst (λ x. IsLogSettled history rulings k x s.entries) same known.3),
    )

-- what is settled has its number and the entries that were counted
pub settled_counted : (history : List Call) (rulings : List Ruling) (sites : List SiteState)
    (counts : List EntryCounts) (k : ℕ) → IsSiteSettled history rulings counts k (slice_get sites k)
    → AreCountedAt sites counts k
settled_counted history rulings sites counts k settled s c there counted =
    let known : IsSiteSettled history rulings counts k (Some s) =
    subst (IsSiteSettled history rulings counts k) there settled in
    let same : known.0 ≡ c = same_Some known.0 c (sym known.1 ∙ counted) in
    (known.2, subst (λ x. AreEntriesCounted x s.entries) same known.3.counted)

-- ---- sites that aren't there

beyond_with : (history : List Call) (rulings : List Ruling) (sites : List SiteState) (counts : List EntryCounts)
    (k : ℕ) (o : Option SiteState) → slice_get sites k ≡ o → length sites ≤ k
    → ((h : Handed) → Contains (handed_in history) h → h.edge.label.site ≡ k → ⊥)
    → IsSiteSettled history rulings counts k o
beyond_with history rulings sites counts k None at high none = none
beyond_with history rulings sites counts k (Some s) at high none =
    absurd (let low = slice_get_within sites k s at in omega (arith, low, high))

settled_with : (history : List Call) (rulings : List Ruling) (sites : List SiteState) (counts : List EntryCounts)
    (k : ℕ) (o : Option SiteState) → slice_get sites k ≡ o → length sites ≤ k
    → IsSiteSettled history rulings counts k o → (h : Handed) → Contains (handed_in history) h
    → h.edge.label.site ≡ k → ⊥
settled_with history rulings sites counts k None at high settled = settled
settled_with history rulings sites counts k (Some s) at high settled =
    absurd (let low = slice_get_within sites k s at in omega (arith, low, high))

-- all sites that are there are settled; the least edge beyond them is the least that isn't
pub beyond_found : (history : List Call) (rulings : List Ruling) (sites : List SiteState) (counts : List EntryCounts)
    (o : Option ℕ) → ((k : ℕ) → k < length sites → IsSiteSettled history rulings counts k (slice_get sites k))
    → IsLeastBeyond (length sites) (handed_in history) o
    → MatchOption o ((k : ℕ) → IsSiteSettled history rulings counts k (slice_get sites k))
    (λ site. (IsSiteSettled history rulings counts site (slice_get sites site) → ⊥) × ((k : ℕ) → k < site
    → IsSiteSettled history rulings counts k (slice_get sites k)))
beyond_found history rulings sites counts None each least = λ k.
    elim (cases_lt k (length sites)) [
      | inl low ↦ each k low
      | inr high ↦ beyond_with history rulings sites counts k (slice_get sites k) refl high
          (λ h contains site. least h contains (omega (arith, high, site)))
    ]
beyond_found history rulings sites counts (Some site) each least = (
  λ settled. settled_with history rulings sites counts site (slice_get sites site) refl
      (omega (arith, least.0.3, least.0.2)) settled least.0.0 least.0.1 least.0.2,
  λ k lt.
      elim (cases_lt k (length sites)) [
        | inl low ↦ each k low
        | inr high ↦ beyond_with history rulings sites counts k (slice_get sites k) refl high (λ h contains at. let le =
            least.1 h contains (omega (arith, high, at)) in omega (arith, le, at, lt))
      ],
)
