-- One more line behind lines that have no fault.
use Rattle.std.proofs.Common.{◌≡◌, ℕ, Bool, List, [], ◌∷◌, ◌++◌, length, None, refl, sym, ap, ◌∙◌, subst, arith, lit<, inl, inr, Contains}
use Rattle.std.proofs.lemmas.List.{append-nil}
use Rattle.sgt_notation.specs.Spelling.{line_text}
use Rattle.sgt_notation.proofs.OneSpelling.{line-one}
use Rattle.sgt_notation.specs.declared.SectionLine.{SectionLine}
use Rattle.sgt_notation.specs.declared.SectionLine.TheVariants.{Site, Initial, Logged, Final, End}
use Rattle.sgt_bundle.specs.Valid.{AreLogged}
use Rattle.sgt_bundle.specs.Text.{sections_from, AreSections}
use Rattle.sgt_bundle.specs.declared.certificate.Certificate.{Certificate}
use Rattle.sgt_bundle.specs.declared.certificate.Decision.TheVariants.{Refuse}
use Rattle.sgt_bundle.specs.declared.certificate.Step.{Step}
use Rattle.sgt_bundle.specs.declared.bundle.SiteLog.{SiteLog}
use Rattle.sgt_audit.specs.declared.faults.Fault.{Fault}
use Rattle.sgt_audit.specs.declared.faults.Fault.TheVariants as fault
use Rattle.sgt_audit.specs.Faults.{AllKept, IsLineIn, Keeps, Stage, within, whole, Rule, Breaks}
use Rattle.sgt_audit.specs.private.Judging.{KeptBelow}
use Rattle.sgt_audit.specs.Reading.{Begun, lines_read, IsBegun}
use Rattle.sgt_audit.specs.Kept.{Means, IsStageOf}
use Rattle.sgt_audit.proofs.LinePlaces.{cut_append, last_cut}
use Rattle.sgt_audit_decisions.proofs.Walks.{push-one}
use Rattle.sgt_audit.proofs.SectionLines.{last_end}
use Rattle.sgt_audit.proofs.MayFollow.{sections-whole, whole-sections}
use Rattle.sgt_audit.proofs.Least.{least-at}

-- no line keeps a rule of notation by itself
pub no_notation : (c : Certificate) (before : List SectionLine) (line : SectionLine)
    → Keeps c before line fault.Notation
no_notation c before (Site k) = tt
no_notation c before (Initial h) = tt
no_notation c before (Logged e) = tt
no_notation c before (Final h) = tt
no_notation c before End = tt

-- lines that keep every rule, and one more
module _ (second : Bool) (c : Certificate) (before : List SectionLine) (line : SectionLine)
    (kept : AllKept second c before) (spelled : IsLineIn second line) (rules : (f : Fault)
    → Keeps c before line f) where
  each-line : (earlier later : List SectionLine) (l : SectionLine) → before ++ line ∷ [] ≡ earlier ++ l ∷ later
      → IsLineIn second l × ((f : Fault) → Keeps c earlier l f)
  each-line earlier later l e =
      elim (cut_append before (line ∷ []) earlier later l e) [
        | inl first ↦ kept.lines earlier first.0 l first.1
        | inr last ↦
            let same = last_cut line last.0 later l last.2 in
            let front = last.1 ∙ ap (λ (ls : List SectionLine). before ++ ls) same.1 ∙ append-nil before in
            subst (λ ls. IsLineIn second l × ((f : Fault) → Keeps c ls l f)) (sym front)
            (subst (λ l. IsLineIn second l × ((f : Fault) → Keeps c before l f)) same.0 (spelled, rules))
      ]

  pub kept-more : AllKept second c (before ++ line ∷ [])
  kept-more = record { spelled = kept.spelled; itself = kept.itself; lines = each-line }

-- the fault of a line is the fault of the text that spells it
module _ (second : Bool) (c : Certificate) (before : List SectionLine) (line : SectionLine)
    (is : IsLineIn second line) (f : Fault) (breaks : Breaks (Keeps c before line) f) where
  within-broken : (g : Fault) → (Keeps c before line g → ⊥) → Rule (within second c before) (whole (line_text line)) g
      → ⊥
  within-broken fault.Notation miss h = miss (no_notation c before line)
  within-broken g miss h = miss (h line is refl)

  within-kept : (g : Fault) → Keeps c before line g → Rule (within second c before) (whole (line_text line)) g
  within-kept fault.Notation k = (line, is, refl)
  within-kept g k = λ m is_m same. subst (λ l. Keeps c before l g) (line-one line m is.0 is_m.0 same) k

  pub within-breaks : Breaks (Rule (within second c before) (whole (line_text line))) f
  within-breaks = record { broken = within-broken f breaks.broken; least = λ g lt. within-kept g (breaks.least g lt) }

-- what was read is not all, so the stage is within
stage-within : (second : Bool) (c : Certificate) (b : Begun) (before : List SectionLine) (s : Stage)
    → Means second c b before → (AreSections b.sites (lines_read b) → ⊥) → IsStageOf second c before s
    → s ≡ within second c before
stage-within second c b before s m open_yet (inl here) = here.0
stage-within second c b before s m open_yet (inr done) =
    absurd (open_yet (subst (λ n. AreSections n (lines_read b)) (sym m.sites)
    (subst (AreSections c.sites) m.lines done.1)))

pub line-breaks : (second : Bool) (c : Certificate) (b : Begun) (before : List SectionLine) (line : SectionLine)
    (l : List ℕ) (f : Fault) → Means second c b before → (AreSections b.sites (lines_read b) → ⊥)
    → IsLineIn second line → l ≡ line_text line → Breaks (Keeps c (lines_read b) line) f
    → (s : Stage) → IsStageOf second c before s → Breaks (Rule s (whole l)) f
line-breaks second c b before line l f m open_yet is same breaks s stage =
    subst (λ t. Breaks (Rule t (whole l)) f) (sym (stage-within second c b before s m open_yet stage))
    (subst (λ m. Breaks (Rule (within second c before) (whole m)) f) (sym same)
    (within-breaks second c before line is f (subst (λ ls. Breaks (Keeps c ls line) f) (sym m.lines) breaks)))

-- the fault that the judge of the section finds is the text's
pub alone-breaks : (second : Bool) (c : Certificate) (b : Begun) (before : List SectionLine) (l : List ℕ) (f : Fault)
    → Means second c b before → (AreSections b.sites (lines_read b) → ⊥)
    → Breaks (Rule (within second c (lines_read b)) (whole l)) f
    → (s : Stage) → IsStageOf second c before s → Breaks (Rule s (whole l)) f
alone-breaks second c b before l f m open_yet breaks s stage =
    subst (λ t. Breaks (Rule t (whole l)) f) (sym (stage-within second c b before s m open_yet stage))
    (subst (λ ls. Breaks (Rule (within second c ls) (whole l)) f) (sym m.lines) breaks)

-- ---- the line is added

module _ (second : Bool) (c : Certificate) (b new : Begun) (before : List SectionLine) (line : SectionLine)
    (m : Means second c b before) (sites : new.sites ≡ b.sites) (lines : lines_read new ≡ lines_read b ++ line ∷ [])
  where
    all-lines : before ++ line ∷ [] ≡ lines_read new
    all-lines = ap (λ (ls : List SectionLine). ls ++ line ∷ []) m.lines ∙ sym lines

    new-sites : new.sites ≡ c.sites
    new-sites = sites ∙ m.sites

    -- the last line of all sections is an end
    is-end : AreSections new.sites (lines_read new) → line ≡ End
    is-end (logs, shaped, all) =
        let last = last_end 0 logs (omega (arith, shaped.some, shaped.each)) in
        (push-one before last.0 line End (all-lines ∙ sym all ∙ last.1)).1

    abbrev Walks : List SiteLog → Type 0
    Walks logs = (tx : ℕ) (walk : List Step) → Contains c.decisions (Refuse tx walk) → AreLogged logs tx walk

    -- whatever sections these lines are read as, they are the whole logs
    read-as : (logs : List SiteLog) → line ≡ End → sections_from 0 logs ≡ before ++ End ∷ []
        → (new.current ≡ None) × (new.whole ≡ logs)
    read-as logs end same = sections-whole new logs (same ∙ ap (λ l. before ++ l ∷ []) (sym end) ∙ all-lines)

    walks-kept : line ≡ End → Walks new.whole → Keeps c before End fault.WalkStep
    walks-kept end walks logs len same tx walk in_it =
        subst (λ ls. AreLogged ls tx walk) (read-as logs end same).1 (walks tx walk in_it)

    kept-walks : line ≡ End → length new.whole ≡ c.sites → sections_from 0 new.whole ≡ before ++ End ∷ []
        → Keeps c before End fault.WalkStep → Walks new.whole
    kept-walks end len same keeps = keeps new.whole len same

    pub walks-broken : AreSections new.sites (lines_read new) → (Walks new.whole → ⊥)
        → KeptBelow (Keeps c (lines_read b) line) 17 → Breaks (Keeps c (lines_read b) line) fault.WalkStep
    walks-broken all miss kept =
        let end = is-end all in
        let logs = all.0 in
        let same = sections-whole new logs all.2 in
        let len = ap length same.1 ∙ all.1.each ∙ new-sites in
        let text = ap (sections_from 0) same.1 ∙ all.2 ∙ sym all-lines ∙ ap (λ l. before ++ l ∷ []) end in
        least-at (Keeps c (lines_read b) line) 17 fault.WalkStep refl kept
        (λ keeps. miss
        (kept-walks end len text
        (subst (λ l. Keeps c before l fault.WalkStep) end
        (subst (λ ls. Keeps c ls line fault.WalkStep) (sym m.lines) keeps))))

    -- every rule, where all below the walks are kept
    each-rule : (line : SectionLine) → KeptBelow (Keeps c before line) 17 → Keeps c before line fault.WalkStep
        → (f : Fault) → Keeps c before line f
    each-rule line kept walks fault.WalkStep = walks
    each-rule line kept walks fault.Truncated = last-rule line
      where
        last-rule : (line : SectionLine) → Keeps c before line fault.Truncated
        last-rule (Site k) = tt
        last-rule (Initial h) = tt
        last-rule (Logged e) = tt
        last-rule (Final h) = tt
        last-rule End = tt
    each-rule line kept walks fault.Trailing = last-rule line
      where
        last-rule : (line : SectionLine) → Keeps c before line fault.Trailing
        last-rule (Site k) = tt
        last-rule (Initial h) = tt
        last-rule (Logged e) = tt
        last-rule (Final h) = tt
        last-rule End = tt
    each-rule line kept walks f = kept f (lit< tt)

    -- the walks, where these are not all sections
    open-walks : (l : SectionLine) → line ≡ l → IsBegun new → (AreSections new.sites (lines_read new) → ⊥)
        → Keeps c before l fault.WalkStep
    open-walks (Site k) is begun miss = tt
    open-walks (Initial h) is begun miss = tt
    open-walks (Logged e) is begun miss = tt
    open-walks (Final h) is begun miss = tt
    open-walks End is begun miss = λ logs len same tx walk in_it.
        let as_read = read-as logs is same in
        absurd (miss (whole-sections new begun as_read.0 (ap length as_read.1 ∙ len ∙ sym new-sites)))

    module _ (begun : IsBegun new) (spelled : IsLineIn second line) (rules : (f : Fault) → Keeps c before line f) where
      means : Means second c new (before ++ line ∷ [])
      means = record {
        begun = begun;
        sites = new-sites;
        lines = all-lines;
        kept =
            kept-more second c before line m.kept spelled rules;
      }

    kept-here : KeptBelow (Keeps c (lines_read b) line) 17 → KeptBelow (Keeps c before line) 17
    kept-here kept = subst (λ ls. KeptBelow (Keeps c ls line) 17) (sym m.lines) kept

    pub added-open : IsLineIn second line → KeptBelow (Keeps c (lines_read b) line) 17 → IsBegun new
        → (AreSections new.sites (lines_read new) → ⊥) → Means second c new (before ++ line ∷ [])
    added-open spelled kept begun miss =
        means begun spelled (each-rule line (kept-here kept) (open-walks line refl begun miss))

    pub added-last : IsLineIn second line → KeptBelow (Keeps c (lines_read b) line) 17 → IsBegun new
        → AreSections new.sites (lines_read new) → Walks new.whole → Means second c new (before ++ line ∷ [])
    added-last spelled kept begun all walks =
        let end = is-end all in
        means begun spelled
        (each-rule line (kept-here kept) (subst (λ l. Keeps c before l fault.WalkStep) (sym end)
        (walks-kept end walks)))
