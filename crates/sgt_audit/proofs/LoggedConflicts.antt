-- The steps of walks, against the logs that are whole.
use Rattle.std.proofs.Common.{◌≡◌, ℕ, Bool, ◌<◌, List, [], ◌∷◌, ◌++◌, length, Option, Some, None, true, false, sym, ap, ◌∙◌, subst, arith, inl, inr, IsTrue, All, Contains}
use Rattle.std.specs.Prelude.{◌↔◌, slice_get}
use Rattle.std.proofs.lemmas.Bool.{false≢true}
use Rattle.std.proofs.lemmas.Option.{same_Some, none-some}
use Rattle.sgt_names.proofs.Places.{All-from_at, All_at, Contains-from_at}
use Rattle.sgt_names.proofs.Lists.{All_in, front_at, middle_at, within_at}
use Rattle.sgt_notation.specs.declared.SectionLine.TheVariants.{End}
use Rattle.sgt_bundle.specs.Text.{IsCertificate}
use Rattle.sgt_bundle.specs.Valid.{AreLogged}
use Rattle.sgt_bundle.specs.declared.bundle.SiteLog.{SiteLog}
use Rattle.sgt_bundle.specs.declared.certificate.Certificate.{Certificate}
use Rattle.sgt_bundle.specs.declared.certificate.Decision.{Decision}
use Rattle.sgt_bundle.specs.declared.certificate.Decision.TheVariants.{Refuse}
use Rattle.sgt_bundle.specs.declared.certificate.Step.{Step}
use Rattle.sgt_audit_decisions.specs.Steps.{AreStepsAt, AreStepsOf, edges_from, edges_in}
use Rattle.sgt_audit_decisions.specs.declared.steps.Edge.{Edge}
use Rattle.sgt_audit_decisions.proofs.Grouping.{cons-cases, cons-first, cons-rest, edge-found, edge-there, certificate-within}
use Rattle.sgt_audit_cells.proofs.Doing.{get_cases}
use Rattle.sgt_audit.specs.declared.walks.Walks.{Walks}
use Rattle.sgt_audit.specs.Alone.{MeetsSteps}
use Rattle.sgt_audit.specs.Kept.{IsMet, AreMet, MeansMet}
use Rattle.sgt_audit.specs.Reading.{Begun}
use Rattle.sgt_audit.specs.private.Following.{MayFollow, with_next}

-- ---- one more log is whole

module _ (ds : List Decision) (whole : List SiteLog) (log : SiteLog) (here : List Edge)
    (are : AreStepsAt ds (length whole) here) where
  abbrev Holds : List SiteLog → Edge → Type 0
  Holds logs e = (log : SiteLog) → slice_get logs e.step.label.site ≡ Some log → IsMet log.entries e

  met-more : AreMet (edges_in ds) whole → All (IsMet log.entries) here → AreMet (edges_in ds) (whole ++ log ∷ [])
  met-more before now = All-from_at (Holds (whole ++ log ∷ [])) (edges_in ds) (λ n e at l found.
      let has = Contains-from_at (edges_in ds) n e at in
      elim (get_cases whole log e.step.label.site l found) [
        | inl old ↦ All_at (Holds whole) (edges_in ds) n e before at l old
        | inr new ↦ subst (λ (g : SiteLog). IsMet g.entries e) new.1
            (All_in (IsMet log.entries) here e now ((are e).1 (has, new.0)))
      ])

  met-front : AreMet (edges_in ds) (whole ++ log ∷ []) → AreMet (edges_in ds) whole
  met-front all =
      All-from_at (Holds whole) (edges_in ds)
      (λ n e at l found. All_at (Holds (whole ++ log ∷ [])) (edges_in ds) n e all at l
      (front_at whole (log ∷ []) e.step.label.site l found))

  met-here : AreMet (edges_in ds) (whole ++ log ∷ []) → All (IsMet log.entries) here
  met-here all = All-from_at (IsMet log.entries) here (λ n e at.
      let both = (are e).0 (Contains-from_at here n e at) in
      All_in (Holds (whole ++ log ∷ [])) (edges_in ds) e all both.0 log (ap (slice_get (whole ++ log ∷ [])) both.1
      ∙ middle_at whole log []))

pub none-met : (ds : List Decision) (w : Walks) → AreStepsOf ds w.steps → w.met ≡ true → MeansMet ds [] w
none-met ds w steps met = record {
  steps = steps;
  met = (
    λ h. All-from_at (λ (e : Edge). (log : SiteLog) → slice_get [] e.step.label.site ≡ Some log
        → IsMet log.entries e) (edges_in ds) (λ n e at log found. absurd (none-some log found)),
    λ h. met,
  );
}

-- ---- one more line

-- the open log is whole with the end of its section
module _ (ds : List Decision) (b : Begun) (old new : Walks) (here : List Edge)
    (are : AreStepsAt ds (length b.whole) here) (same : new.steps ≡ old.steps) (is : MeansMet ds b.whole old)
    (met : Bool)
  where
    steps-same : AreStepsOf ds new.steps
    steps-same = subst (AreStepsOf ds) (sym same) is.steps

    pub met-ended : (o : Option SiteLog) → MayFollow b o End → MeetsSteps here o End met → met ≡ true
        → new.met ≡ old.met → MeansMet ds (with_next b o End).whole new
    met-ended None fits meets all now = absurd fits
    met-ended (Some log) fits meets all now =
        record {
          steps = steps-same;
          met = (
            λ h. met-more ds b.whole log here are (is.met.0 (sym now ∙ h)) (meets.0 all),
            λ m. now ∙ is.met.1 (met-front ds b.whole log here are m),
          );
        }

    pub met-missed : (o : Option SiteLog) → MayFollow b o End → MeetsSteps here o End met → met ≡ false
        → new.met ≡ false → MeansMet ds (with_next b o End).whole new
    met-missed None fits meets miss now = absurd fits
    met-missed (Some log) fits meets miss now =
        record {
          steps = steps-same;
          met = (
            λ h. absurd (false≢true (sym now ∙ h)),
            λ m. absurd (false≢true (sym miss ∙ meets.1 (met-here ds b.whole log here are m))),
          );
        }

-- ---- all logs are whole

abbrev IsThere : List SiteLog → Edge → Type 0
IsThere logs e = (log : SiteLog) × (slice_get logs e.step.label.site ≡ Some log) × IsMet log.entries e

walk-logged : (logs : List SiteLog) (a : ℕ) (walk : List Step)
    → ((e : Edge) → Contains (edges_from a walk) e → IsThere logs e) → AreLogged logs a walk
walk-logged logs a [] all = tt
walk-logged logs a (s ∷ walk) all = (
  all (record { from = a; step = s }) (cons-first (record { from = a; step = s }) (edges_from s.to walk)),
  walk-logged logs s.to walk (λ e has. all e (cons-rest (record { from = a; step = s }) (edges_from s.to walk) e has)),
)

logged-there : (logs : List SiteLog) (a : ℕ) (walk : List Step) → AreLogged logs a walk → (e : Edge)
    → Contains (edges_from a walk) e → IsThere logs e
logged-there logs a [] logged e has = absurd (omega (arith, has.1))
logged-there logs a (s ∷ walk) logged e has =
    elim (cons-cases (record { from = a; step = s }) (edges_from s.to walk) e has) [
      | inl same ↦ subst (IsThere logs) same logged.0
      | inr rest ↦ logged-there logs s.to walk logged.1 e rest
    ]

pub walks-decide : (c : Certificate) (logs : List SiteLog) (w : Walks) → IsCertificate c → length logs ≡ c.sites
    → MeansMet c.decisions logs w
    → IsTrue w.met ↔ ((tx : ℕ) (walk : List Step) → Contains c.decisions (Refuse tx walk) → AreLogged logs tx walk)
walks-decide c logs w spelled each is = (
  λ h tx walk here. walk-logged logs tx walk (λ e has.
      let there = edge-there c.decisions tx walk e here has in
      let within = All_in (λ (f : Edge). f.step.label.site < c.sites) (edges_in c.decisions) e
      (certificate-within c spelled) there in
      let log = within_at logs e.step.label.site (omega arith) in (
        log.0,
        log.1,
        All_in (λ (f : Edge). (l : SiteLog) → slice_get logs f.step.label.site ≡ Some l
            → IsMet l.entries f) (edges_in c.decisions) e (is.met.0 h) there log.0 log.1,
      )),
  λ walks. is.met.1 (All-from_at (λ (f : Edge). (l : SiteLog) → slice_get logs f.step.label.site ≡ Some l
      → IsMet l.entries f) (edges_in c.decisions) (λ n e at log found.
      let by = edge-found c.decisions e (Contains-from_at (edges_in c.decisions) n e at) in
      let there = logged-there logs by.0 by.1 (walks by.0 by.1 by.2) e by.3 in
      subst (λ (l : SiteLog). IsMet l.entries e) (same_Some there.0 log (sym there.1 ∙ found)) there.2)),
)

-- ---- the steps of all walks, without what is kept of them

pub met-walks : (c : Certificate) (logs : List SiteLog) → IsCertificate c → length logs ≡ c.sites
    → AreMet (edges_in c.decisions) logs
    → (tx : ℕ) (walk : List Step) → Contains c.decisions (Refuse tx walk) → AreLogged logs tx walk
met-walks c logs spelled each met tx walk here = walk-logged logs tx walk (λ e has.
    let there = edge-there c.decisions tx walk e here has in
    let within = All_in (λ (f : Edge). f.step.label.site < c.sites) (edges_in c.decisions) e
    (certificate-within c spelled) there in
    let log = within_at logs e.step.label.site (omega arith) in (
      log.0,
      log.1,
      All_in (λ (f : Edge). (l : SiteLog) → slice_get logs f.step.label.site ≡ Some l
          → IsMet l.entries f) (edges_in c.decisions) e met there log.0 log.1,
    ))

pub walks-met : (c : Certificate) (logs : List SiteLog)
    → ((tx : ℕ) (walk : List Step) → Contains c.decisions (Refuse tx walk) → AreLogged logs tx walk)
    → AreMet (edges_in c.decisions) logs
walks-met c logs walks = All-from_at (λ (f : Edge). (l : SiteLog) → slice_get logs f.step.label.site ≡ Some l
    → IsMet l.entries f) (edges_in c.decisions) (λ n e at log found.
    let by = edge-found c.decisions e (Contains-from_at (edges_in c.decisions) n e at) in
    let there = logged-there logs by.0 by.1 (walks by.0 by.1 by.2) e by.3 in
    subst (λ (l : SiteLog). IsMet l.entries e) (same_Some there.0 log (sym there.1 ∙ found)) there.2)
