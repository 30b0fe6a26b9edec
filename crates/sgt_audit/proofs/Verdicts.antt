-- The verdict on a text that was judged.
use Rattle.std.proofs.Common.{◌≡◌, ℕ, List, Option, Some, None, IfSome, refl, sym, ap, ap₂, ◌∙◌, subst, inl, inr}
use Rattle.std.specs.Prelude.{IsSome, Ok}
use Rattle.std.proofs.lemmas.Bool.{false≢true}
use Rattle.std.proofs.lemmas.Option.{none-some}
use Rattle.sgt_notation.specs.Spelling.{text_of_lines}
use Rattle.sgt_notation.specs.declared.SectionLine.{SectionLine}
use Rattle.sgt_bundle.specs.Parts.{FitTogether, Parts}
use Rattle.sgt_bundle.specs.Valid.{Agrees, IsRanked, IsValidLog, IsValid}
use Rattle.sgt_bundle.specs.Text.{AreSections, Spells}
use Rattle.sgt_bundle.specs.declared.bundle.SiteLog.{SiteLog}
use Rattle.sgt_bundle.proofs.Headline.{valid-agrees}
use Rattle.sgt_bundle.proofs.OneText.{bundle-one}
use Rattle.sgt_names.proofs.Places.{All-from_at, All_at}
use Rattle.sgt_audit.specs.declared.kept.Kept.{Kept}
use Rattle.sgt_audit.specs.declared.verdict.Verdict.{Verdict}
use Rattle.sgt_audit.specs.declared.verdict.Verdict.TheVariants.{Yes, No}
use Rattle.sgt_audit.specs.Faults.{Stage, complete, lines_so_far}
use Rattle.sgt_audit.specs.Held.{Holds}
use Rattle.sgt_audit.specs.Kept.{IsStageOf}
use Rattle.sgt_audit.specs.Reading.{Begun}
use Rattle.sgt_audit.specs.private.Ending.{IsComplete}
use Rattle.sgt_audit.specs.private.Stops.{IsJudged, IsWhole}
use Rattle.sgt_audit.specs.Verdict.{IsVerdict, SaysHeadline, yes_of}
use Rattle.sgt_audit.proofs.NoFault.{bundle_of, spells-bundle, valid-bundle}
use Rattle.sgt_audit.proofs.Fitting.{fit-together}
use Rattle.sgt_audit.proofs.Faultless.{valid-no_fault}
use Rattle.sgt_audit.proofs.OneFault.{first_fault-excluded, first_fault-one}
use Rattle.sgt_audit.proofs.MayFollow.{sections-whole}

-- the bundle that was kept
abbrev pub kept_bundle : Kept → Begun → Parts
kept_bundle k b = record { certificate = k.certificate; sites = b.whole }

-- what is kept is all of a text with no fault: it is this bundle
abbrev pub IsBundleOf : Kept → List ℕ → Begun → Type 0
IsBundleOf k bytes b = IfSome k.sections (λ s. s ≡ b) × Spells bytes (kept_bundle k b) × IsValid (kept_bundle k b)

module _ (k : Kept) (b : Begun) (before : List SectionLine) (h : Holds k b before)
    (all : AreSections k.certificate.sites before) (bytes : List ℕ)
    (text : bytes ≡ text_of_lines (lines_so_far (complete k.alone.second k.certificate before))) where
  same-bundle : bundle_of bytes k.alone.second k.certificate before h.means.kept all text ≡ kept_bundle k b
  same-bundle =
      ap (λ logs. record { certificate = k.certificate; sites = logs })
      (sym (sections-whole b all.0 (all.2 ∙ h.means.lines)).1)

  kept-spelled : Spells bytes (kept_bundle k b)
  kept-spelled =
      subst (Spells bytes) same-bundle (spells-bundle bytes k.alone.second k.certificate before h.means.kept all text)

  kept-valid : IsValid (kept_bundle k b)
  kept-valid = subst IsValid same-bundle (valid-bundle bytes k.alone.second k.certificate before h.means.kept all text)

whole-stage : (k : Kept) (b : Begun) (before : List SectionLine) (s : Stage) (bytes : List ℕ) → Holds k b before
    → IsStageOf k.alone.second k.certificate before s → IsComplete s → bytes ≡ text_of_lines (lines_so_far s)
    → IsBundleOf k bytes b
whole-stage k b before s bytes h (inl here) done text = absurd (subst IsComplete here.0 done)
whole-stage k b before s bytes h (inr all) done text =
    let same = text ∙ ap (λ s. text_of_lines (lines_so_far s)) all.0 in
    (h.sections, kept-spelled k b before h all.1 bytes same, kept-valid k b before h all.1 bytes same)

pub judged-bundle : (k : Kept) (bytes : List ℕ) → IsJudged (Ok k) bytes → (b : Begun) × IsBundleOf k bytes b
judged-bundle k bytes (s, (b, before, h, stage), done, text) = (b, whole-stage k b before s bytes h stage done text)

-- whatever text it is
pub whole-bundle : (k : Kept) → IsWhole k → (bytes : List ℕ) × (b : Begun) × IsBundleOf k bytes b
whole-bundle k (s, here, done) =
    let bytes = text_of_lines (lines_so_far s) in
    let b = judged-bundle k bytes (s, here, done, refl) in
    (bytes, b.0, b.1)

-- the sections that were kept are these
pub kept-sections : (k : Kept) (b s : Begun) → IfSome k.sections (λ s. s ≡ b) → k.sections ≡ Some s → s ≡ b
kept-sections k b s same here = subst (λ o. IfSome o (λ s. s ≡ b)) here same

pub none-kept : (o : Option Begun) → IsSome o → o ≡ None → ⊥
none-kept None some none = false≢true some
none-kept (Some s) some none = none-some s (sym none)

-- its parts fit together
pub kept-fit : (k : Kept) (bytes : List ℕ) (b : Begun) → IsBundleOf k bytes b → FitTogether (kept_bundle k b)
kept-fit k bytes b is = fit-together k.certificate b.whole is.1.certificate is.1.shape

pub kept-verdict : (k : Kept) (bytes : List ℕ) → IsJudged (Ok k) bytes
    → IsVerdict bytes (yes_of k.certificate.decisions)
kept-verdict k bytes j = let b = judged-bundle k bytes j in (kept_bundle k b.0, b.1.1, b.1.2, refl)

-- a yes says the headline
pub verdict-headline : (bytes : List ℕ) (v : Verdict) → IsVerdict bytes v → SaysHeadline bytes v
verdict-headline bytes (Yes committed refused withdrawn) (b, spelled, valid, counts) = record {
  bundle = b;
  spelled = spelled;
  serial = valid-agrees b valid;
  once = valid.once;
  ranks = valid.ranks;
  agrees = All-from_at (λ (log : SiteLog). Agrees b.certificate.decisions log.entries) b.sites
      (λ n log at. (All_at (IsValidLog b.certificate.decisions) b.sites n log valid.logs at).agrees);
  ranked = All-from_at (λ (log : SiteLog). IsRanked b.certificate.decisions log.entries) b.sites
      (λ n log at. (All_at (IsValidLog b.certificate.decisions) b.sites n log valid.logs at).ranked);
  cycles = valid.cycles;
}
verdict-headline bytes (No line f) first = tt

pub told-map : (P Q : List ℕ → Type 0) (told : Option (List ℕ)) → ((bytes : List ℕ) → P bytes → Q bytes)
    → IfSome told P → IfSome told Q
told-map P Q None f h = tt
told-map P Q (Some bytes) f h = f bytes h

-- two verdicts on one text are one
pub verdict-one : (bytes : List ℕ) (v w : Verdict) → IsVerdict bytes v → IsVerdict bytes w → v ≡ w
verdict-one bytes (Yes a b c) (Yes d e f) (p, spelled, valid, counts) (q, spells, holds, others) = counts
    ∙ ap (λ (p : Parts). yes_of p.certificate.decisions) (bundle-one bytes p q spelled spells) ∙ sym others
verdict-one bytes (Yes a b c) (No n f) (p, spelled, valid, counts) first =
    absurd (first_fault-excluded bytes n f first (valid-no_fault bytes p spelled valid))
verdict-one bytes (No n f) (Yes a b c) first (p, spelled, valid, counts) =
    absurd (first_fault-excluded bytes n f first (valid-no_fault bytes p spelled valid))
verdict-one bytes (No m f) (No n g) first other = let same = first_fault-one bytes m n f g first other in
    ap₂ (λ n f. No n f) same.0 same.1
