-- The logs behind the locks of a settled run fit together with its certificate.
use Rattle.std.proofs.Common.{◌≡◌, ◌<◌, ◌≤◌, suc, List, [], ◌∷◌, length, refl, sym, ◌∙◌, subst, ap, All, Contains, Option, Some, None, SomeIff}
use Rattle.std.specs.Prelude.{slice_get}
use Rattle.std.specs.List.{AllZip, AllByRecursion}
use Rattle.std.specs.Ordering.{nat_cmp}
use Rattle.std.specs.Cmp.Lexicographic.{slice_cmp}
use Rattle.std.specs.declared.cmp.Ordering.TheVariants.{Less}
use Rattle.std.proofs.lemmas.List.Elements.{All-contains_itself, All-from_recursion}
use Rattle.std.proofs.lemmas.Option.{same_Some, slice_get_within}
use Rattle.sgt_names.specs.Limits.{max_sites}
use Rattle.sgt_names.specs.Log.{names}
use Rattle.sgt_names.specs.declared.entry.Holding.{Holding}
use Rattle.sgt_names.specs.declared.entry.Label.{Label}
use Rattle.sgt_names.proofs.Lists.{All-weaken, map_at}
use Rattle.sgt_names.proofs.Places.{AllPairs_at, AllPairs-from_at}
use Rattle.sgt_site.specs.State.{AreItems, IsSite, SiteState}
use Rattle.sgt_bundle.specs.Parts.{ComesBefore, FitTogether, IsShapedLog, Parts}
use Rattle.sgt_bundle.specs.declared.bundle.SiteLog.{SiteLog}
use Rattle.sgt_bundle.specs.declared.certificate.Certificate.{Certificate}
use Rattle.sgt_certifier.specs.Certifier.{certificate_of, serial}
use Rattle.sgt_certifier.specs.History.{Replays}
use Rattle.sgt_service_settle.specs.Settled.{Run, IsSettled, IsSiteSettled}
use Rattle.sgt_service_settle.specs.Told.{handed_in}
use Rattle.sgt_service_settle.specs.declared.handed.Handed.{Handed}
use Rattle.sgt_service.specs.Bundle.{IsBundleOf, IsLogOf}
use Rattle.sgt_service.proofs.Walks.{walks-hold, steps-within}

-- ---- the shape of the logs

items-rise : (items : List Holding) → AreItems items
    → IsShapedLog (record { items = items; entries = []; finals = items })
items-rise items are = record {
  room = are.room;
  rising = AllPairs-from_at ComesBefore (names items) (λ p q x y lt at_x at_y.
      let g = map_at (λ (h : Holding). h.item) items p x at_x in
      let h = map_at (λ (h : Holding). h.item) items q y at_y in
      let less = AllPairs_at (λ (a b : Holding). slice_cmp nat_cmp a.item b.item ≡ Less) items p q g.0 h.0 are.rising
      lt g.1 h.1 in
      subst (λ z. slice_cmp nat_cmp z y ≡ Less) g.2 (subst (λ z. slice_cmp nat_cmp g.0.item z ≡ Less) h.2 less));
  finals = refl;
}

log-shape : (s : SiteState) (log : SiteLog) → IsSite s → IsLogOf s log → IsShapedLog log
log-shape s log is of =
    let shaped = subst (λ (hs : List Holding). IsShapedLog (record { items = hs; entries = []; finals = hs }))
    (sym of.items) (items-rise s.items is.items) in
    record { room = shaped.room; rising = shaped.rising; finals = of.each ∙ ap names (sym of.items) }

abbrev pub IsSiteLog : SiteState → SiteLog → Type 0
IsSiteLog s log = IsLogOf s log × IsSite s

logs-shape : (ss : List SiteState) (logs : List SiteLog) → AllZip IsSiteLog ss logs → AllByRecursion IsShapedLog logs
logs-shape [] [] zip = tt
logs-shape [] (log ∷ logs) zip = absurd zip
logs-shape (s ∷ ss) [] zip = absurd zip
logs-shape (s ∷ ss) (log ∷ logs) zip = (log-shape s log zip.0.1 zip.0.0, logs-shape ss logs zip.1)

logs-many : (ss : List SiteState) (logs : List SiteLog) → AllZip IsSiteLog ss logs → length logs ≡ length ss
logs-many [] [] zip = refl
logs-many [] (log ∷ logs) zip = absurd zip
logs-many (s ∷ ss) [] zip = absurd zip
logs-many (s ∷ ss) (log ∷ logs) zip = ap suc (logs-many ss logs zip.1)

logs-of : (ss : List SiteState) (logs : List SiteLog) → AllZip IsSiteLog ss logs → AllZip IsLogOf ss logs
logs-of [] [] zip = tt
logs-of [] (log ∷ logs) zip = absurd zip
logs-of (s ∷ ss) [] zip = absurd zip
logs-of (s ∷ ss) (log ∷ logs) zip = (zip.0.0, logs-of ss logs zip.1)

-- ---- the steps of the walks

-- an edge that was handed is of a site that is there
site-there : (r : Run) (h : Handed) → IsSettled r → Contains (handed_in r.certifier.history) h
    → h.edge.label.site < length r.sites
site-there r h settled has = by (slice_get r.sites h.edge.label.site) refl
  where
    by : (found : Option SiteState) → slice_get r.sites h.edge.label.site ≡ found → h.edge.label.site < length r.sites
    by (Some s) at = slice_get_within r.sites h.edge.label.site s at
    by None at =
        let none : (g : Handed) → Contains (handed_in r.certifier.history) g → g.edge.label.site ≡ h.edge.label.site → ⊥
        = subst (IsSiteSettled r.certifier.history r.certifier.state.rulings r.counts h.edge.label.site) at
        (settled.sites h.edge.label.site) in
        absurd (none h has refl)

handed-there : (r : Run) → IsSettled r → All (λ h. h.edge.label.site < length r.sites) (handed_in r.certifier.history)
handed-there r settled =
    All-weaken (λ (h : Handed). Contains (handed_in r.certifier.history) h)
    (λ (h : Handed). h.edge.label.site < length r.sites) (handed_in r.certifier.history)
    (λ h has. site-there r h settled has) (All-contains_itself (handed_in r.certifier.history))

-- ---- the bundle

pub bundle-fits : (r : Run) (certificate : Certificate) (logs : List SiteLog) → IsSettled r
    → Replays r.certifier.history r.certifier.state → 1 ≤ length r.sites → length r.sites ≤ max_sites
    → certificate ≡ certificate_of r.certifier.state (length r.sites) → AllZip IsSiteLog r.sites logs
    → FitTogether (record { certificate = certificate; sites = logs })
bundle-fits r certificate logs settled replays some few is zip =
    let P : Label → Type 0 = λ label. label.site < length r.sites in
    let walks = walks-hold P r.certifier.history r.certifier.state replays (handed-there r settled) in
    subst (λ (c : Certificate). FitTogether (record { certificate = c; sites = logs })) (sym is) (record {
      shape = record {
        some = some;
        few = few;
        each = logs-many r.sites logs zip;
        logs =
            All-from_recursion IsShapedLog logs (logs-shape r.sites logs zip);
      };
      steps = steps-within (length r.sites) (serial r.certifier.state) r.certifier.state.rulings walks;
    })

pub bundle-of : (r : Run) (certificate : Certificate) (logs : List SiteLog) (fits : Type 0) (result : Option Parts)
    (b : Parts) → certificate ≡ certificate_of r.certifier.state (length r.sites) → AllZip IsSiteLog r.sites logs
    → result ≡ Some b → SomeIff result fits (record { certificate = certificate; sites = logs }) → IsBundleOf r b
bundle-of r certificate logs fits None b is zip some iff = absurd cc
bundle-of r certificate logs fits (Some a) b is zip some iff =
    subst (IsBundleOf r) (sym iff.1 ∙ same_Some a b some) (record { certificate = is; logs = logs-of r.sites logs zip })
