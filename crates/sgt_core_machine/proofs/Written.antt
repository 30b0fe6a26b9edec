-- The text of the sites' logs, and their last values, as those of the bundle.
use Rattle.std.proofs.Common.{◌≡◌, ◌≤◌, ℕ, List, [], ◌∷◌, ◌++◌, ◌+◌, length, map, drop, Some, slice_get, refl, sym, ◌∙◌, ap, subst, arith, Bool, All, AllPairs}
use Rattle.std.proofs.lemmas.Grind.{common_steps}
use Rattle.std.proofs.lemmas.List.{length-map}
use Rattle.std.specs.Ordering.{nat_cmp}
use Rattle.std.specs.Cmp.Lexicographic.{slice_cmp}
use Rattle.std.specs.declared.cmp.Ordering.TheVariants.{Less}
use Rattle.sgt_names.specs.Limits.{max_sites}
use Rattle.sgt_names.specs.Log.{names}
use Rattle.sgt_names.proofs.Lists.{drop_next, map_at}
use Rattle.sgt_names.proofs.Places.{All_at, All-from_at, AllPairs_at, AllPairs-from_at}
use Rattle.sgt_site.specs.State.{AreItems}
use Rattle.sgt_site.specs.declared.fault.SiteFault.{SiteFault}
use Rattle.sgt_site.specs.declared.fault.SiteFault.TheVariants as site_fault
use Rattle.sgt_bundle.specs.Parts.{ComesBefore, IsShapedLog, FitTogether}
use Rattle.sgt_core_model.specs.Runs.{AreSites}
use Rattle.sgt_names.specs.declared.entry.Entry.{Entry}
use Rattle.sgt_names.specs.declared.entry.Holding.{Holding}
use Rattle.sgt_notation.specs.declared.SectionLine.TheVariants.{Logged}
use Rattle.sgt_notation.specs.Spelling.{line_text, text_of_lines}
use Rattle.sgt_bundle.specs.Text.{certificate_text, format_line, has_increments, sections_from, text_of}
use Rattle.sgt_bundle.specs.declared.bundle.SiteLog.{SiteLog}
use Rattle.sgt_bundle.specs.declared.certificate.Certificate.{Certificate}
use Rattle.sgt_bundle.specs.Parts.{Parts as BundleParts}
use Rattle.sgt_certifier.specs.Certifier.{certificate_of}
use Rattle.sgt_core_model.specs.Core.{CoreState, bundle_of}
use Rattle.sgt_core_machine.specs.Machine.{Parts, StandsFor, RefusesSites}
use Rattle.sgt_core_machine.specs.Cut.{finals_at, finals_in, last_values, logs_at}
use Rattle.sgt_core_machine.proofs.Bundles.{bundle_fits_there, bundle_is, logs_are}
use Rattle.sgt_names.proofs.Elements.{get-mapped}

joined : (a b rest : List ℕ) → (a ++ (b ++ [])) ++ rest ≡ a ++ (b ++ rest)
joined a b rest = grind (arith, common_steps)

-- line 1 and 2 and the sections are the text
pub whole_text : (out mid last : List ℕ) (second : Bool) (cert : Certificate) (sites : List SiteLog) → out ≡ []
    → mid ≡ out ++ text_of_lines (format_line second ∷ certificate_text cert ∷ [])
    → last ≡ mid ++ text_of_lines (map line_text (sections_from 0 sites))
    → second ≡ has_increments sites → last ≡ text_of (record { certificate = cert; sites = sites })
whole_text out mid last second cert sites none head rest is =
    let front : mid ≡ text_of_lines (format_line second ∷ certificate_text cert ∷ []) =
    subst (λ (o : List ℕ). mid ≡ o ++ text_of_lines (format_line second ∷ certificate_text cert ∷ [])) none head in
    let all : last ≡ text_of_lines (format_line second ∷ certificate_text cert ∷ map line_text
    (sections_from 0 sites)) =
    rest ∙ (ap (λ (m : List ℕ). m ++ text_of_lines (map line_text (sections_from 0 sites))) front
    ∙ joined (format_line second ++ 10 ∷ []) (certificate_text cert ++ 10 ∷ [])
    (text_of_lines (map line_text (sections_from 0 sites)))) in
    subst (λ (b : Bool). last ≡ text_of_lines (format_line b ∷ certificate_text cert ∷ map line_text
    (sections_from 0 sites))) is all

-- one more entry of a log is written
pub next_entry : (base out new : List ℕ) (es : List Entry) (n : ℕ) (e : Entry) → slice_get es n ≡ Some e
    → new ≡ out ++ text_of_lines (line_text (Logged e) ∷ [])
    → out ++ text_of_lines (map line_text (map Logged (drop n es))) ≡ base
    → new ++ text_of_lines (map line_text (map Logged (drop (n + 1) es))) ≡ base
next_entry base out new es n e at is text =
    let rest = drop (n + 1) es in
    let step : (out ++ text_of_lines (line_text (Logged e) ∷ [])) ++ text_of_lines (map line_text (map Logged rest))
    ≡ out ++ text_of_lines (map line_text (map Logged (e ∷ rest))) = grind (arith, common_steps) in
    ap (λ o. o ++ text_of_lines (map line_text (map Logged rest))) is
    ∙ step ∙ ap (λ us. out ++ text_of_lines (map line_text (map Logged us))) (sym (drop_next es n e at)) ∙ text

-- so of a machine
pub text_there : (m : Parts) (c : CoreState) (cert : Certificate) (count : ℕ) (text : List ℕ) → StandsFor m c
    → cert ≡ certificate_of m.certifier count → count ≡ length m.places
    → text ≡ text_of (record { certificate = cert; sites = logs_at m.places }) → text ≡ text_of (bundle_of c)
text_there m c cert count text s is many t =
    t ∙ ap text_of (bundle_is m c cert (logs_at m.places) count s is many refl)

pub finals_there : (m : Parts) (c : CoreState) → StandsFor m c → finals_at m.places ≡ last_values c
finals_there m c s = ap (λ (logs : List SiteLog). map (λ (log : SiteLog). log.finals) logs) (logs_are m c s)

-- ---- a core may be made of the last values

finals_in_order : (log : SiteLog) → IsShapedLog log → AreItems log.finals
finals_in_order log h =
    let long : length log.finals ≡ length log.items = sym (length-map log.finals (λ (d : Holding). d.item))
    ∙ (ap length h.finals ∙ length-map log.items (λ (d : Holding). d.item)) in
    let rising = subst (AllPairs ComesBefore) (sym h.finals) h.rising in
    record {
      room = let r = h.room in omega (arith, long, r);
      rising = AllPairs-from_at (λ (a b : Holding). slice_cmp nat_cmp a.item b.item ≡ Less) log.finals
          (λ p q a b lt at_a at_b.
          AllPairs_at ComesBefore (names log.finals) p q a.item b.item rising lt
          (get-mapped (λ (d : Holding). d.item) log.finals p a at_a)
          (get-mapped (λ (d : Holding). d.item) log.finals q b at_b));
    }

pub sites_of_finals : (b : BundleParts) → FitTogether b → AreSites (finals_in b)
sites_of_finals b fit =
    let long : length (finals_in b) ≡ b.certificate.sites = length-map b.sites (λ (log : SiteLog). log.finals)
    ∙ fit.shape.each in
    record {
      some = let s = fit.shape.some in omega (arith, long, s);
      few = let s = fit.shape.few in subst (λ n. n ≤ max_sites) (sym long) s;
      each = All-from_at AreItems (finals_in b) (λ k finals at.
          let log = map_at (λ (l : SiteLog). l.finals) b.sites k finals at in
          subst AreItems log.2 (finals_in_order log.0 (All_at IsShapedLog b.sites k log.0 fit.shape.logs log.1)));
    }

pub sites_there : (m : Parts) (c : CoreState) (items : List (List Holding)) → StandsFor m c → items ≡ last_values c
    → AreSites items
sites_there m c items s is = subst AreSites (sym is) (sites_of_finals (bundle_of c) (bundle_fits_there m c s))

pub never_refused : (items : List (List Holding)) (f : SiteFault) → RefusesSites items f → All AreItems items
    → (f ≡ site_fault.Memory → ⊥) → ⊥
never_refused items site_fault.BadItems h all other = h all
never_refused items site_fault.Memory h all other = other refl
never_refused items _ h all other = h
