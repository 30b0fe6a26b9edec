-- The logs of the machine's sites, as those of the bundle.
use Rattle.std.proofs.Common.{◌≡◌, ◌≤◌, ◌+◌, ℕ, suc, List, [], ◌∷◌, length, map, refl, sym, ◌∙◌, arith, Option, Some, None, subst, ap, ap₂}
use Rattle.std.specs.Prelude.{slice_get, unwrap_or, SomeIff, Result, Ok, Err, IfOk, OnOk}
use Rattle.std.specs.List.{enumerate_from}
use Rattle.std.proofs.lemmas.List.{length-map}
use Rattle.std.proofs.lemmas.List.FromFn.{length-enumerate_from}
use Rattle.std.proofs.lemmas.Option.{same_Some}
use Rattle.sgt_names.specs.Name.{Name}
use Rattle.sgt_names.specs.Log.{names, value_at, FinalsAreLegal}
use Rattle.sgt_names.specs.declared.entry.Entry.{Entry}
use Rattle.sgt_names.specs.declared.entry.Holding.{Holding}
use Rattle.sgt_names.proofs.Lists.{map_at, heads, tails}
use Rattle.sgt_names.proofs.Places.{All_at}
use Rattle.sgt_bundle.specs.declared.bundle.SiteLog.{SiteLog}
use Rattle.sgt_bundle.specs.declared.certificate.Certificate.{Certificate}
use Rattle.sgt_bundle.specs.Parts.{Parts as BundleParts, FitTogether}
use Rattle.sgt_certifier.specs.Certifier.{State, certificate_of}
use Rattle.sgt_bundle.specs.Valid.{IsValid}
use Rattle.sgt_core_model.specs.declared.reply.CoreFault.{CoreFault}
use Rattle.sgt_core_machine.specs.declared.machine.Place.{Place}
use Rattle.sgt_core_model.proofs.Kept.{IsKept}
use Rattle.sgt_core_model.specs.Core.{CoreState, finals_of, site_log, bundle_of}
use Rattle.sgt_core_machine.specs.Machine.{Parts, StandsFor}
use Rattle.sgt_core_model.proofs.Valid.{enumerated, valid-bundle}
use Rattle.sgt_core_model.proofs.Fitting.{bundle-fits}
use Rattle.sgt_core_machine.proofs.Opening.{same_lists}
use Rattle.sgt_core_machine.proofs.Refusing.{site_count}
use Rattle.sgt_core_machine.proofs.Standing.{reached_kept}
use Rattle.sgt_names.proofs.Elements.{get-mapped}

-- final values that fit are those of the log
pub finals_are : (base : List Holding) (es : List Entry) (items finals : List Holding) → names finals ≡ names items
    → FinalsAreLegal base es finals
    → finals ≡ map (λ h. record { item = h.item; value = unwrap_or (value_at base es h.item) 0 }) items
finals_are base es [] [] same legal = refl
finals_are base es [] (f ∷ fs) same legal = absurd cc
finals_are base es (h ∷ hs) [] same legal = absurd cc
finals_are base es (h ∷ hs) (f ∷ fs) same legal =
    let item : f.item ≡ h.item = heads f.item h.item (names fs) (names hs) same in
    let value : unwrap_or (value_at base es h.item) 0 ≡ f.value =
    ap (λ x. unwrap_or (value_at base es x) 0) (sym item)
    ∙ ap (λ o. unwrap_or o 0) (All_at (λ (g : Holding). value_at base es g.item ≡ Some g.value) (f ∷ fs) 0 f legal
    refl) in
    let first : f ≡ record { item = h.item; value = unwrap_or (value_at base es h.item) 0 } =
    ap₂ (λ (x : Name) (v : ℕ). record { item = x; value = v }) item (sym value) in
    ap₂ (λ (g : Holding) gs. g ∷ gs) first (finals_are base es hs fs (tails f.item h.item (names fs) (names hs) same)
    (Rattle.sgt_names.proofs.Places.All-from_at (λ (g : Holding). value_at base es g.item ≡ Some g.value) fs
    (λ n g at. All_at (λ (g : Holding). value_at base es g.item ≡ Some g.value) (f ∷ fs) (suc n) g legal at)))

abbrev log_at : Place → SiteLog
log_at p = site_log p.site.items p.site.entries

pub logs_are : (m : Parts) (c : CoreState) → StandsFor m c
    → map (λ (p : Place). site_log p.site.items p.site.entries) m.places ≡ (bundle_of c).sites
logs_are m c s =
    same_lists (map log_at m.places) (map (λ (p : ℕ × List Holding). site_log p.1 (c.entries p.0))
    (enumerate_from 0 c.items))
    (length-map m.places log_at
    ∙ (sym (site_count m c s)
    ∙ sym (length-map (enumerate_from 0 c.items) (λ (p : ℕ × List Holding). site_log p.1 (c.entries p.0))
    ∙ length-enumerate_from 0 c.items)))
    (λ k log at.
    let q = map_at (λ (p : ℕ × List Holding). site_log p.1 (c.entries p.0)) (enumerate_from 0 c.items) k log at in
    let e = enumerated 0 c.items k q.0 q.1 in
    let number : q.0.0 ≡ k = e.0 ∙ zero_on k in
    let p = map_at (λ (w : Place). w.site.items) m.places k q.0.1 (ap (λ l. slice_get l k) (sym s.items) ∙ e.1) in
    let logs : p.0.site.entries ≡ c.entries q.0.0 = sym (s.places k p.0 p.1).entries ∙ ap c.entries (sym number) in
    get-mapped log_at m.places k p.0 p.1 ∙ ap Some (ap₂ site_log p.2 logs ∙ q.2))
  where
    zero_on : (k : ℕ) → 0 + k ≡ k
    zero_on k = omega arith

pub bundle_is : (m : Parts) (c : CoreState) (certificate : Certificate) (logs : List SiteLog) (count : ℕ)
    → StandsFor m c → certificate ≡ certificate_of m.certifier count → count ≡ length m.places
    → logs ≡ map (λ (p : Place). site_log p.site.items p.site.entries) m.places
    → ◌≡◌ {A = BundleParts} (record { certificate = certificate; sites = logs }) (bundle_of c)
bundle_is m c certificate logs count s is many are =
    let same : certificate ≡ certificate_of c.certifier (length c.items) =
    is ∙ (ap (certificate_of m.certifier) (many ∙ sym (site_count m c s))
    ∙ sym (ap (λ (st : State). certificate_of st (length c.items)) s.certifier.same)) in
    ap₂ (λ (a : Certificate) (b : List SiteLog). record { certificate = a; sites = b }) same (are ∙ logs_are m c s)

pub bundle_fits_there : (m : Parts) (c : CoreState) → StandsFor m c → FitTogether (bundle_of c)
bundle_fits_there m c s = bundle-fits c (reached_kept c s.reached).sound s.sites

pub same_log : (a : List Holding) (b : List Entry) (f items : List Holding) (entries : List Entry) → a ≡ items
    → b ≡ entries → f ≡ finals_of items entries
    → ◌≡◌ {A = SiteLog} (record { items = a; entries = b; finals = f }) (site_log items entries)
same_log a b f items entries p q r =
    ap₂ (λ (x : List Holding) (y : List Entry). record { items = x; entries = y; finals = f }) p q
    ∙ ap (λ (z : List Holding). record { items = items; entries = entries; finals = z }) r

pub is_of_some : {A : Type 0} (P : Type 0) (r : Option A) (a : A) {b : A} → r ≡ Some b → SomeIff r P a → b ≡ a
is_of_some P None a {b} e h = absurd cc
is_of_some P (Some x) a {b} e h = sym (same_Some x b e) ∙ h.1

pub all_valid : (r : Result BundleParts CoreFault) (c : CoreState) → IsKept c → c.certifier.active ≡ []
    → IfOk r (λ b. b ≡ bundle_of c) → IfOk r IsValid
all_valid (Ok b) c k none is = subst IsValid (sym is) (valid-bundle c k.sound none)
all_valid (Err f) c k none is = tt

-- the bundle of a core in which nobody is active is valid, also where it is only written
pub valid_ok : {A : Type 0} (r : Result A CoreFault) (m : Parts)
    → ((c : CoreState) → StandsFor m c → IsKept c × (c.certifier.active ≡ []))
    → OnOk r ((c : CoreState) → StandsFor m c → IsValid (bundle_of c))
valid_ok (Ok a) m idle = λ c s. valid-bundle c (idle c s).0.sound (idle c s).1
valid_ok (Err f) m idle = tt

pub if_ok_at : (r : Result BundleParts CoreFault) (m : Parts) (c : CoreState) → StandsFor m c
    → IfOk r (λ b. (d : CoreState) → StandsFor m d → b ≡ bundle_of d) → IfOk r (λ b. b ≡ bundle_of c)
if_ok_at (Ok b) m c s h = h c s
if_ok_at (Err f) m c s h = tt

pub nobody : (xs : List ℕ) → length xs ≤ 0 → xs ≡ []
nobody [] le = refl
nobody (x ∷ xs) le = absurd (omega arith)
