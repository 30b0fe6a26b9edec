-- One section judged by itself.
use Rattle.std.proofs.Common.{◌≡◌, ◌≢◌, Bool, true, List, [], ◌∷◌, ◌++◌, length, Option, Some, None, IsTrue, refl, sym, ap, ◌∙◌, subst, arith, All}
use Rattle.std.specs.Prelude.{◌↔◌}
use Rattle.sgt_names.specs.declared.entry.Entry.{Entry}
use Rattle.sgt_names.specs.declared.entry.Holding.{Holding}
use Rattle.sgt_notation.specs.Spelling.{IsLine, line_text}
use Rattle.sgt_notation.specs.declared.SectionLine.{SectionLine}
use Rattle.sgt_notation.specs.declared.SectionLine.TheVariants.{Site, Initial, Logged, Final, End}
use Rattle.sgt_notation.proofs.OneSpelling.{line-one}
use Rattle.sgt_bundle.specs.Certificate.{IsDecidedOnce}
use Rattle.sgt_bundle.specs.Text.{Begins}
use Rattle.sgt_bundle.specs.declared.bundle.SiteLog.{SiteLog}
use Rattle.sgt_bundle.specs.declared.certificate.Certificate.{Certificate}
use Rattle.sgt_bundle.specs.declared.certificate.Decision.{Decision}
use Rattle.sgt_audit_decisions.specs.declared.steps.Edge.{Edge}
use Rattle.sgt_audit.specs.declared.alone.Alone.{Alone}
use Rattle.sgt_audit.specs.declared.faults.Fault.{Fault}
use Rattle.sgt_audit.specs.declared.faults.Fault.TheVariants as fault
use Rattle.sgt_audit.specs.Alone.{FollowsAlone, MeetsSteps, StandsAlone}
use Rattle.sgt_audit.specs.Faults.{IsLineIn, Keeps, Breaks}
use Rattle.sgt_audit.specs.Kept.{IsMet, IsPlace, Tracks}
use Rattle.sgt_audit.specs.Reading.{Begun, IsBegun, IsOpenLog, lines_read}
use Rattle.sgt_audit.specs.private.Following.{Fits, MayFollow, with_next}
use Rattle.sgt_audit.specs.private.Judging.{AdmitsLine, HasOpen, JudgedLine, KeptBelow}
use Rattle.sgt_audit.specs.Rules.{KeepsBy}
use Rattle.sgt_audit.specs.declared.rules.Rules.{Rules}
use Rattle.sgt_audit.proofs.Least.{below-any, by-any, least-at, logged-7, final-7, end-7, site-7}
use Rattle.sgt_audit.proofs.MayFollow.{added-begun, begins-follow, follow-decides, next-lines, sections-whole}
use Rattle.sgt_audit.proofs.OpenLogs.{has_open}
use Rattle.sgt_audit.proofs.Places.{next-sites}
use Rattle.sgt_audit.proofs.SiteStates.{admits}

initial-7 : (c : Certificate) (before : List SectionLine) (h : Holding) → KeptBelow (Keeps c before (Initial h)) 7
initial-7 c before h fault.Section lt = absurd (omega arith)
initial-7 c before h fault.Item lt = absurd (omega arith)
initial-7 c before h fault.Twice lt = absurd (omega arith)
initial-7 c before h fault.ReadValue lt = absurd (omega arith)
initial-7 c before h fault.RankOrder lt = absurd (omega arith)
initial-7 c before h fault.Block lt = absurd (omega arith)
initial-7 c before h fault.End lt = absurd (omega arith)
initial-7 c before h fault.DecisionOrder lt = absurd (omega arith)
initial-7 c before h fault.NotEnded lt = absurd (omega arith)
initial-7 c before h fault.Final lt = absurd (omega arith)
initial-7 c before h fault.WalkStep lt = absurd (omega arith)
initial-7 c before h fault.Truncated lt = absurd (omega arith)
initial-7 c before h fault.Trailing lt = absurd (omega arith)
initial-7 c before h _ lt = tt

-- no line breaks a rule of smaller number than F7
pub kept-7 : (c : Certificate) (before : List SectionLine) (line : SectionLine) → KeptBelow (Keeps c before line) 7
kept-7 c before (Site k) = site-7 c before k
kept-7 c before (Initial h) = initial-7 c before h
kept-7 c before (Logged e) = logged-7 c before e
kept-7 c before (Final h) = final-7 c before h
kept-7 c before End = end-7 c before

-- a line that may not stand next
pub section-breaks : (rules : Rules) (c : Certificate) (before : List SectionLine) (line : SectionLine)
    → (Begins c.sites (before ++ line ∷ []) → ⊥) → Breaks (KeepsBy rules c before line) fault.Section
section-breaks rules c before line miss =
    least-at (KeepsBy rules c before line) 7 fault.Section refl
    (below-any rules c before line 7 (kept-7 c before line)) miss

-- what is kept stands behind one more line
pub next-stands : (c : Certificate) (b : Begun) (line : SectionLine) (old new : Alone) → StandsAlone c b old
    → KeptBelow (Keeps c (lines_read b) line) 17
    → ((a : Begun) → IsBegun a → MayFollow a a.current line → IsPlace a old.place
    → IsPlace (with_next a a.current line) new.place)
    → ((a : Begun) → IsDecidedOnce c.decisions → IsBegun a → MayFollow a a.current line
    → AdmitsLine c.decisions a.current line → Tracks c.decisions a old.state
    → Tracks c.decisions (with_next a a.current line) new.state)
    → StandsAlone c (with_next b b.current line) new
next-stands c b line old new s kept place state =
    let begins = subst (λ n. Begins n (lines_read b ++ line ∷ [])) (sym s.sites) (kept fault.Section (omega arith)) in
    let follows = begins-follow b line begins in
    record {
      once = s.once;
      ranked = s.ranked;
      sites = next-sites b b.current line ∙ s.sites;
      begun = added-begun b s.begun line begins b.current refl;
      place = place b s.begun follows s.place;
      open_site = state b s.once s.begun follows (admits c b b.current line refl kept) s.open_site;
    }

-- whether the steps are conflicts, with the last line
pub last-meets : (edges : List Edge) (o : Option SiteLog) (met : Bool)
    → ((log : SiteLog) → o ≡ Some log → IsTrue met ↔ All (IsMet log.entries) edges) → MeetsSteps edges o End met
last-meets edges (Some log) met h = h log refl
last-meets edges None met h = tt

-- nothing is asked of it with an entry
pub open-meets : (edges : List Edge) (o : Option SiteLog) (e : Entry) (met : Bool) → MeetsSteps edges o (Logged e) met
open-meets edges (Some log) e met = tt
open-meets edges None e met = tt

-- nor with a line that ends no section
pub plain-meets : (edges : List Edge) (o : Option SiteLog) (line : SectionLine) (met : Bool) → line ≢ End
    → MeetsSteps edges o line met
plain-meets edges None line met other = tt
plain-meets edges (Some log) End met other = absurd (other refl)
plain-meets edges (Some log) (Site k) met other = tt
plain-meets edges (Some log) (Initial h) met other = tt
plain-meets edges (Some log) (Logged e) met other = tt
plain-meets edges (Some log) (Final h) met other = tt

-- what it is to have taken in a line that was read
pub alone-follows : (c : Certificate) (edges : List Edge) (b : Begun) (line : SectionLine) (new : Alone) → IsLine line
    → FollowsAlone c edges b (line_text line) new None
    → IsLineIn new.second line × KeptBelow (Keeps c (lines_read b) line) 17
    × StandsAlone c (with_next b b.current line) new × MeetsSteps edges b.current line new.met
alone-follows c edges b line new is (read, is_in, same, kept, stands, meets) =
    subst (λ l. IsLineIn new.second l × KeptBelow (Keeps c (lines_read b) l) 17
    × StandsAlone c (with_next b b.current l) new × MeetsSteps edges b.current l new.met)
    (line-one read line is_in.0 is (sym same)) (is_in, kept, stands, meets)

-- behind a line that ends no section one is open, and no more are whole than before
pub no-end : (b : Begun) (o : Option SiteLog) (line : SectionLine) → line ≢ End → (with_next b o line).current ≢ None
no-end b None line other same = cc
no-end b (Some log) End other same = other refl
no-end b (Some log) (Site k) other same = cc
no-end b (Some log) (Initial h) other same = cc
no-end b (Some log) (Logged e) other same = cc
no-end b (Some log) (Final h) other same = cc

pub same-whole : (b : Begun) (o : Option SiteLog) (line : SectionLine) → line ≢ End
    → (with_next b o line).whole ≡ b.whole
same-whole b None line other = refl
same-whole b (Some log) End other = absurd (other refl)
same-whole b (Some log) (Site k) other = refl
same-whole b (Some log) (Initial h) other = refl
same-whole b (Some log) (Logged e) other = refl
same-whole b (Some log) (Final h) other = refl

-- ---- a line is not judged by the walks: its section might be the first of two

module _ (ds : List Decision) (log : SiteLog) (is : IsOpenLog log) where
  abbrev pub two : Certificate
  two = record { sites = 2; decisions = ds }

  abbrev pub first : Begun
  first = record { sites = 2; whole = []; current = Some log }

  first-begun : IsBegun first
  first-begun = record {
    some = omega arith;
    few = omega arith;
    logs = λ n d within. absurd (omega arith);
    room =
        (omega arith, is);
  }

  pub first-begins : (line : SectionLine) → Fits log line → Begins 2 (lines_read first ++ line ∷ [])
  first-begins line fits = (follow-decides first first-begun line true (λ h. fits, λ h. refl)).0 refl

  pub first-open : HasOpen (lines_read first) log
  first-open = has_open first log refl

  walks-hold : (line : SectionLine) → Fits log line → Keeps two (lines_read first) line fault.WalkStep
  walks-hold (Site k) fits = tt
  walks-hold (Initial x) fits = tt
  walks-hold (Logged e) fits = tt
  walks-hold (Final x) fits = tt
  walks-hold End fits = λ logs len same.
      let new : Begun = with_next first (Some log) End in
      let whole = sections-whole new logs (same ∙ sym (next-lines first (Some log) End refl fits)) in
      let one : length (log ∷ []) ≡ length logs = ap length whole.1 in
      absurd (omega (arith, one, len))

  pub not-walk : (rules : Rules) (line : SectionLine) (found : Option Fault) → Fits log line
      → JudgedLine (KeepsBy rules two (lines_read first) line) found → found ≢ Some fault.WalkStep
  not-walk rules line found fits judged same =
      let breaks = subst (JudgedLine (KeepsBy rules two (lines_read first) line)) same judged in
      breaks.broken (by-any rules two (lines_read first) line fault.WalkStep (walks-hold line fits))
