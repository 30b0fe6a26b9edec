-- Lines of sections go on with another one or they don't, and are all of them or aren't.
use Rattle.std.proofs.Common.{◌≡◌, ℕ, List, [], ◌∷◌, ◌++◌, length, Option, Some, None, true, false, refl, sym, ap, ◌∙◌, subst, arith, inl, inr}
use Rattle.std.specs.Prelude.{slice_get}
use Rattle.std.specs.Ordering.{nat_cmp}
use Rattle.std.specs.Cmp.Lexicographic.{slice_cmp}
use Rattle.std.proofs.lemmas.Bool.{cases_eq, false≢true}
use Rattle.std.proofs.lemmas.List.{append-nil}
use Rattle.std.proofs.lemmas.List.Elements.{All-nil}
use Rattle.sgt_names.specs.Limits.{max_items}
use Rattle.sgt_names.specs.Log.{names}
use Rattle.sgt_notation.specs.declared.SectionLine.{SectionLine}
use Rattle.sgt_notation.specs.declared.SectionLine.TheVariants.{Site, Initial, Logged, Final, End}
use Rattle.sgt_notation.proofs.Decidable.{Decidable, decidable-as, decidable-both, decidable-less, decidable-text, decidable-value, decidable-All}
use Rattle.sgt_bundle.specs.Parts.{ComesBefore, IsShapedLog}
use Rattle.sgt_bundle.specs.Text.{Begins, AreSections, IsCertificate, sections_from}
use Rattle.sgt_bundle.specs.declared.certificate.Certificate.{Certificate}
use Rattle.sgt_bundle.specs.declared.bundle.SiteLog.{SiteLog}
use Rattle.sgt_audit.specs.Reading.{Begun, open_lines, lines_read, IsBegun}
use Rattle.sgt_audit.specs.private.Following.{Fits, FitsBetween, MayFollow, with_next}
use Rattle.sgt_audit.proofs.MayFollow.{follow-decides, added-begun, added-lines, whole-sections, sections-whole, are-sections}
use Rattle.sgt_audit.proofs.decidable.Entries.{WalksOf, decidable-walks}
use Rattle.sgt_audit.proofs.Places.{next-sites}
use Rattle.sgt_notation.proofs.Texts.{decidable-Less}

decidable-empty : {A : Type 0} (xs : List A) → Decidable (xs ≡ [])
decidable-empty [] = inl refl
decidable-empty (x ∷ xs) = inr (λ e. cc)

-- ---- one line more

decidable-fits : (log : SiteLog) (line : SectionLine) → Decidable (Fits log line)
decidable-fits log (Site k) = inr (λ h. h)
decidable-fits log (Initial h) =
    decidable-as (λ f. (f.0.0, f.0.1, f.1.0, f.1.1)) (λ (f : Fits log (Initial h)). ((f.0, f.1), (f.2, f.3)))
    (decidable-both (decidable-both (decidable-empty log.entries) (decidable-empty log.finals))
    (decidable-both (decidable-less (length log.items) max_items)
    (decidable-All (λ x. ComesBefore x h.item) (λ x. decidable-Less (slice_cmp nat_cmp x h.item))
    (names log.items))))
decidable-fits log (Logged e) = decidable-empty log.finals
decidable-fits log (Final h) = decidable-value decidable-text (slice_get (names log.items) (length log.finals)) h.item
decidable-fits log End = cases_eq (length log.finals) (length log.items)

decidable-between : (b : Begun) (line : SectionLine) → Decidable (FitsBetween b line)
decidable-between b (Site k) = decidable-both (cases_eq k (length b.whole)) (decidable-less k b.sites)
decidable-between b _ = inr (λ h. h)

decidable-follows : (b : Begun) (current : Option SiteLog) (line : SectionLine) → Decidable (MayFollow b current line)
decidable-follows b None line = decidable-between b line
decidable-follows b (Some log) line = decidable-fits log line

-- what follows begins some sections with what was read
begins-follows : (b : Begun) → IsBegun b → (line : SectionLine) → Decidable (MayFollow b b.current line)
    → Decidable (Begins b.sites (lines_read b ++ line ∷ []))
begins-follows b is line (inl may) = inl ((follow-decides b is line true (λ e. may, λ f. refl)).0 refl)
begins-follows b is line (inr never) =
    inr (λ begins. false≢true ((follow-decides b is line false (λ e. absurd (false≢true e), λ f. absurd (never f))).1
    begins))

-- ---- what was read of the sections of a certificate

pub record HasBegun (c : Certificate) (before : List SectionLine) : Type 0 where
  pub begun : Begun
  pub is : IsBegun begun
  pub sites : begun.sites ≡ c.sites
  pub lines : before ≡ lines_read begun

-- nothing
pub none-begun : (c : Certificate) → IsCertificate c → HasBegun c []
none-begun c h = record {
  begun = record { sites = c.sites; whole = []; current = None };
  is = record { some = h.0; few = h.1; logs = All-nil IsShapedLog; room = omega arith };
  sites = refl;
  lines = refl;
}

module _ (c : Certificate) (before : List SectionLine) (held : HasBegun c before) where
  -- in terms of what was read, and in terms of the certificate
  from_begun : (P : ℕ → List SectionLine → Type 0) → P held.begun.sites (lines_read held.begun) → P c.sites before
  from_begun P p = subst (λ n. P n before) held.sites (subst (λ ls. P held.begun.sites ls) (sym held.lines) p)

  to_begun : (P : ℕ → List SectionLine → Type 0) → P c.sites before → P held.begun.sites (lines_read held.begun)
  to_begun P p = subst (λ ls. P held.begun.sites ls) held.lines (subst (λ n. P n before) (sym held.sites) p)

  pub decidable-begins : (line : SectionLine) → Decidable (Begins c.sites (before ++ line ∷ []))
  decidable-begins line =
      from_begun (λ n ls. Decidable (Begins n (ls ++ line ∷ [])))
      (begins-follows held.begun held.is line (decidable-follows held.begun held.begun.current line))

  -- one line more
  pub more-begun : (line : SectionLine) → Begins c.sites (before ++ line ∷ []) → HasBegun c (before ++ line ∷ [])
  more-begun line begins =
      let b = held.begun in
      let here = to_begun (λ n ls. Begins n (ls ++ line ∷ [])) begins in
      record {
        begun = with_next b b.current line;
        is = added-begun b held.is line here b.current refl;
        sites = next-sites b b.current line ∙ held.sites;
        lines = ap (λ (ls : List SectionLine). ls ++ line ∷ []) held.lines
            ∙ sym (added-lines b held.is line here b.current refl);
      }

  decidable-whole : (current : Option SiteLog) → held.begun.current ≡ current
      → Decidable (AreSections held.begun.sites (lines_read held.begun))
  decidable-whole None here = elim (cases_eq (length held.begun.whole) held.begun.sites) [
    | inl all ↦ inl (whole-sections held.begun held.is here all)
    | inr never ↦ inr (λ all. never (are-sections held.begun all).1)
  ]
  decidable-whole (Some log) here = inr (λ all. let both : None ≡ Some log = sym (are-sections held.begun all).0
      ∙ here in cc)

  -- these lines are all the sections
  pub decidable-sections : Decidable (AreSections c.sites before)
  decidable-sections = from_begun (λ n ls. Decidable (AreSections n ls)) (decidable-whole held.begun.current refl)

  -- ---- the walks behind these lines

  -- where the lines are those of some logs, so many as the certificate says, the walks are logged there
  abbrev WalksBehind : Type 0
  WalksBehind = (logs : List SiteLog) → length logs ≡ c.sites → sections_from 0 logs ≡ before → WalksOf c.decisions logs

  sections-of : held.begun.current ≡ None → sections_from 0 held.begun.whole ≡ before
  sections-of here = sym (held.lines ∙ whole-lines held.begun here)
    where
      whole-lines : (b : Begun) → b.current ≡ None → lines_read b ≡ sections_from 0 b.whole
      whole-lines b none = ap (λ o. sections_from 0 b.whole ++ open_lines (length b.whole) o) none
          ∙ append-nil (sections_from 0 b.whole)

  walks-behind : (current : Option SiteLog) → held.begun.current ≡ current
      → Decidable (length held.begun.whole ≡ c.sites) → Decidable WalksBehind
  walks-behind (Some log) here count =
      inl (λ logs each e. let both : None ≡ Some log = sym (sections-whole held.begun logs (e ∙ held.lines)).0
      ∙ here in cc)
  walks-behind None here (inr never) =
      inl (λ logs each e. absurd (never (ap length (sections-whole held.begun logs (e ∙ held.lines)).1 ∙ each)))
  walks-behind None here (inl all) =
      decidable-as (λ walks logs each e. subst (WalksOf c.decisions) (sections-whole held.begun logs (e
      ∙ held.lines)).1 walks) (λ behind. behind held.begun.whole all (sections-of here))
      (decidable-walks c.decisions held.begun.whole)

  pub decidable-behind : Decidable WalksBehind
  decidable-behind = walks-behind held.begun.current refl (cases_eq (length held.begun.whole) c.sites)
