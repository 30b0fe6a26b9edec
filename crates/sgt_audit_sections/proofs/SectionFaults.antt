-- Sections with no fault of their own, and the first fault of the text that they stand in.
use Rattle.std.proofs.Common.{◌≡◌, ◌≢◌, ℕ, suc, ◌+◌, ◌<◌, ◌≤◌, Bool, List, [], ◌∷◌, ◌++◌, length, map, take, replicate, Some, refl, sym, ap, ◌∙◌, subst, arith, lit<, inl, inr, append_assoc, add-zero, All, Contains}
use Rattle.std.specs.Prelude.{slice_get}
use Rattle.std.specs.List.{AllByRecursion}
use Rattle.std.proofs.lemmas.Bool.{cases_order}
use Rattle.std.proofs.lemmas.List.{append-nil, length-append, length-map, length-take, length-replicate, map-append}
use Rattle.std.proofs.lemmas.List.Elements.{All-append, All-replicate}
use Rattle.std.proofs.lemmas.Option.{slice_get_within}
use Rattle.sgt_names.proofs.Places.{All_at, All-from_at, slice_get-take}
use Rattle.sgt_notation.specs.Spelling.{IsLine, line_text, text_of_lines}
use Rattle.sgt_notation.proofs.OneSpelling.{cut_at_byte, line-one, line-one_line}
use Rattle.sgt_notation.proofs.Short.{line-no_lf}
use Rattle.sgt_notation.specs.declared.SectionLine.{SectionLine}
use Rattle.sgt_notation.specs.declared.SectionLine.TheVariants.{Site, Initial, Logged, Final, End}
use Rattle.sgt_bundle.specs.Parts.{IsShapedLog, IsShaped}
use Rattle.sgt_bundle.specs.Valid.{AreLogged}
use Rattle.sgt_bundle.specs.Text.{certificate_text, format_line, section_lines, sections_from, Begins, AreSections}
use Rattle.sgt_bundle.specs.declared.bundle.SiteLog.{SiteLog}
use Rattle.sgt_bundle.specs.declared.certificate.Certificate.{Certificate}
use Rattle.sgt_bundle.specs.declared.certificate.Decision.TheVariants.{Refuse}
use Rattle.sgt_bundle.specs.declared.certificate.Step.{Step}
use Rattle.sgt_bundle.proofs.OneText.{sections-one}
use Rattle.sgt_audit_decisions.specs.Steps.{edges_in}
use Rattle.sgt_audit_decisions.specs.declared.steps.Edge.{Edge}
use Rattle.sgt_audit.specs.declared.faults.Fault.{Fault}
use Rattle.sgt_audit.specs.declared.faults.Fault.TheVariants as fault
use Rattle.sgt_audit.specs.Faults.{fault_number, AllKept, IsLineIn, Keeps, Piece, whole, last, ComesNext, Rule, Breaks, within, complete, lines_so_far, IsFaultless, FirstFault, HasNoFault, reach}
use Rattle.sgt_audit.specs.Kept.{IsMet}
use Rattle.sgt_audit.proofs.FaultNumbers.{number-one}
use Rattle.sgt_audit.proofs.LinePlaces.{cut_append, no_cons}
use Rattle.sgt_audit.proofs.LoggedConflicts.{met-walks, walks-met}
use Rattle.sgt_audit.proofs.MayFollow.{split-whole, sections-append}
use Rattle.sgt_audit.proofs.OneFault.{first_fault-excluded, reach-one, no_more}
use Rattle.sgt_audit.proofs.decidable.Entries.{decidable-walks}
use Rattle.sgt_audit.proofs.NextStage.{line-trails, ends-behind}
use Rattle.sgt_audit.proofs.ReaderAtStage.{piece}
use Rattle.sgt_audit.proofs.SectionLines.{last_end}
use Rattle.sgt_audit_sections.specs.Sections.{empty_log, alone, AreKeptAlone, OwnFault, AreFaultlessSections, AllStepsAreFound, IsFaultlessCertificate, front_lines, front_text, lines_in_front}
use Rattle.sgt_audit_sections.proofs.Fronts.{all-tail, begins-moved, line-moved, rule-last, rule-whole}
use Rattle.sgt_notation.proofs.Texts.{line_front, text-append, text-one_line}

-- every rule below that of the walks
abbrev pub Below : Certificate → List SectionLine → SectionLine → Type 0
Below c before line = (f : Fault) → fault_number f < 17 → Keeps c before line f

-- ---- empty sections

empty-shaped : IsShapedLog empty_log
empty-shaped = record { room = omega arith; rising = λ i j d lt within. absurd (omega arith); finals = refl }

pub empties : (k : ℕ) → All IsShapedLog (replicate k empty_log)
empties k = All-replicate IsShapedLog k empty_log empty-shaped

-- ---- the rules above

truncated : (c : Certificate) (before : List SectionLine) (line : SectionLine) → Keeps c before line fault.Truncated
truncated c before (Site k) = tt
truncated c before (Initial h) = tt
truncated c before (Logged e) = tt
truncated c before (Final h) = tt
truncated c before End = tt

trailing : (c : Certificate) (before : List SectionLine) (line : SectionLine) → Keeps c before line fault.Trailing
trailing c before (Site k) = tt
trailing c before (Initial h) = tt
trailing c before (Logged e) = tt
trailing c before (Final h) = tt
trailing c before End = tt

-- every rule, where all but that of the walks are kept
each-rule : (c : Certificate) (before : List SectionLine) (line : SectionLine) → Below c before line
    → Keeps c before line fault.WalkStep → (f : Fault) → Keeps c before line f
each-rule c before line kept walks fault.WalkStep = walks
each-rule c before line kept walks fault.Truncated = truncated c before line
each-rule c before line kept walks fault.Trailing = trailing c before line
each-rule c before line kept walks f = kept f (lit< tt)

-- ---- one list of whole sections for another

module _ (ws vs : List SiteLog) (len : length ws ≡ length vs) (shaped : All IsShapedLog vs) where
  below-moved : (c : Certificate) (own : List SectionLine) (l : SectionLine) → Below c (sections_from 0 ws ++ own) l
      → Below c (sections_from 0 vs ++ own) l
  below-moved c own l kept f lt =
      line-moved ws vs len shaped c own l f (λ e. absurd (omega (arith, ap fault_number e)))
      (λ more. kept fault.Section (lit< tt)) (kept f lt)

  -- all sections there are all sections here
  all-moved : (n : ℕ) (own : List SectionLine) → AreSections n (sections_from 0 ws ++ own)
      → AreSections n (sections_from 0 vs ++ own)
  all-moved n own (logs, shape, e) =
      let split = split-whole 0 ws logs own e in
      let tail = split.0 in (
        vs ++ tail,
        record {
          some = shape.some;
          few = shape.few;
          each = length-append vs tail ∙ ap (λ n. n + length tail) (sym len) ∙ sym (length-append ws tail)
              ∙ ap length (sym split.1) ∙ shape.each;
          logs = All-append IsShapedLog vs tail shaped
              (all-tail IsShapedLog ws tail (subst (All IsShapedLog) split.1 shape.logs));
        },
        sections-append 0 vs tail
            ∙ ap (λ (ls : List SectionLine). sections_from 0 vs ++ ls) (ap (λ j. sections_from (0 + j) tail) (sym len)
            ∙ split.2),
      )

-- ---- a cut of whole sections

record Cut (k : ℕ) (logs : List SiteLog) (earlier : List SectionLine) (l : SectionLine) : Type 0 where
  place : ℕ
  log : SiteLog
  own : List SectionLine
  rest : List SectionLine
  at : slice_get logs place ≡ Some log
  before : earlier ≡ sections_from k (take place logs) ++ own
  section : section_lines (k + place) log ≡ own ++ l ∷ rest

cut-sections : (k : ℕ) (logs : List SiteLog) (earlier later : List SectionLine) (l : SectionLine)
    → sections_from k logs ≡ earlier ++ l ∷ later → Cut k logs earlier l
cut-sections k [] earlier later l e = absurd (no_cons earlier later l e)
cut-sections k (g ∷ gs) earlier later l e =
    elim (cut_append (section_lines k g) (sections_from (suc k) gs) earlier later l e) [
      | inl here ↦ record {
        place = 0;
        log = g;
        own = earlier;
        rest = here.0;
        at = refl;
        before = refl;
        section =
            ap (λ j. section_lines j g) (add-zero k) ∙ here.1;
      }
      | inr there ↦
          let more = cut-sections (suc k) gs there.0 later l there.2 in
          let place : k + suc more.place ≡ suc k + more.place = omega arith in
          record {
            place = suc more.place;
            log = more.log;
            own = more.own;
            rest = more.rest;
            at = more.at;
            before = there.1 ∙ ap (λ (ls : List SectionLine). section_lines k g ++ ls) more.before
                ∙ sym (append_assoc (section_lines k g) (sections_from (suc k) (take more.place gs)) more.own);
            section = ap (λ j. section_lines j more.log) place ∙ more.section;
          }
    ]

-- ---- lines that keep every rule but that of the walks

abbrev pub AreBelow : Bool → Certificate → List SectionLine → Type 0
AreBelow second c lines = (earlier later : List SectionLine) (l : SectionLine) → lines ≡ earlier ++ l ∷ later
    → IsLineIn second l × Below c earlier l

not-last : (c : Certificate) (earlier : List SectionLine) (m : SectionLine)
    → Begins c.sites ((earlier ++ End ∷ []) ++ m ∷ []) → Keeps c earlier End fault.WalkStep
not-last c earlier m (ms, more, shape, e) logs len same =
    let one = sections-one 0 logs ms (m ∷ more) [] (len ∙ sym shape.each)
    (ap (λ (ls : List SectionLine). ls ++ m ∷ more) same ∙ sym (append_assoc (earlier ++ End ∷ []) (m ∷ []) more)
    ∙ sym e ∙ sym (append-nil (sections_from 0 ms))) in
    absurd (no_more m more one.1)

module _ (second : Bool) (c : Certificate) (good : IsFaultlessCertificate c) (lines : List SectionLine)
    (below : AreBelow second c lines)
    (ends : (earlier : List SectionLine) → lines ≡ earlier ++ End ∷ [] → Keeps c earlier End fault.WalkStep) where
  walks-at : (earlier later : List SectionLine) (l : SectionLine) → lines ≡ earlier ++ l ∷ later
      → Keeps c earlier l fault.WalkStep
  walks-at earlier later (Site k) cut = tt
  walks-at earlier later (Initial h) cut = tt
  walks-at earlier later (Logged e) cut = tt
  walks-at earlier later (Final h) cut = tt
  walks-at earlier [] End cut = ends earlier cut
  walks-at earlier (m ∷ later) End cut =
      not-last c earlier m
      ((below (earlier ++ End ∷ []) later m (cut ∙ sym (append_assoc earlier (End ∷ []) (m ∷ later)))).1
      fault.Section (lit< tt))

  pub all-kept : AllKept second c lines
  all-kept = record {
    spelled = good.spelled;
    itself = good.itself;
    lines = λ earlier later l cut. let here = below earlier later l cut in
        (here.0, each-rule c earlier l here.1 (walks-at earlier later l cut));
  }

-- where these are not all sections, no end is the last of them
not-all : (c : Certificate) (lines : List SectionLine) → (AreSections c.sites lines → ⊥)
    → ((earlier later : List SectionLine) (l : SectionLine) → lines ≡ earlier ++ l ∷ later
    → Begins c.sites (earlier ++ l ∷ []))
    → (earlier : List SectionLine) → lines ≡ earlier ++ End ∷ [] → Keeps c earlier End fault.WalkStep
not-all c lines miss begins earlier cut logs len same =
    let b = begins earlier [] End cut in
    let one = sections-one 0 logs b.0 b.1 [] (len ∙ sym b.2.each) (ap (λ (ls : List SectionLine). ls ++ b.1) same
    ∙ sym b.3 ∙ sym (append-nil (sections_from 0 b.0))) in
    absurd (miss (logs, subst (IsShaped c.sites) (sym one.0) b.2, same ∙ sym cut))

module _ (second : Bool) (c : Certificate) (logs : List SiteLog) (kept : AreFaultlessSections second c logs) where
  pub shaped : All IsShapedLog logs
  shaped = All-from_at IsShapedLog logs (λ n log at. (kept n log at).shaped)

  shaped-front : (n : ℕ) → All IsShapedLog (take n logs)
  shaped-front n = All-from_at IsShapedLog (take n logs) (λ k log at. let here = slice_get-take logs n k log at in
      (kept k log here.1).shaped)

  pub sections-below : AreBelow second c (sections_from 0 logs)
  sections-below earlier later l e =
      let cut = cut-sections 0 logs earlier later l e in
      let here =
      (kept cut.place cut.log cut.at).kept cut.own cut.rest l (ap (λ j. section_lines j cut.log) (omega arith)
      ∙ cut.section) in
      let within = slice_get_within logs cut.place cut.log cut.at in
      let len : length (replicate cut.place empty_log) ≡ length (take cut.place logs) =
      omega (arith, length-replicate cut.place empty_log, length-take cut.place logs) in (
        here.0,
        subst (λ ls. Below c ls l) (sym cut.before)
            (below-moved (replicate cut.place empty_log) (take cut.place logs) len (shaped-front cut.place) c cut.own l
            here.1),
      )

  -- the lines of one more section
  module _ (own : List SectionLine) (alone_kept : AreKeptAlone second c (length logs) own) where
    len : length (replicate (length logs) empty_log) ≡ length logs
    len = length-replicate (length logs) empty_log

    pub own-below : AreBelow second c (sections_from 0 logs ++ own)
    own-below earlier later l e =
        elim (cut_append (sections_from 0 logs) own earlier later l e) [
          | inl first ↦ sections-below earlier first.0 l first.1
          | inr second ↦
              let here = alone_kept second.0 later l second.2 in (
                here.0,
                subst (λ ls. Below c ls l) (sym second.1)
                    (below-moved (replicate (length logs) empty_log) logs len shaped c second.0 l here.1),
              )
        ]

    pub still-open : (AreSections c.sites (alone (length logs) own) → ⊥)
        → AreSections c.sites (sections_from 0 logs ++ own) → ⊥
    still-open miss all =
        miss (all-moved logs (replicate (length logs) empty_log) (sym len) (empties (length logs)) c.sites own all)

    pub own-kept : IsFaultlessCertificate c → (AreSections c.sites (alone (length logs) own) → ⊥)
        → AllKept second c (sections_from 0 logs ++ own)
    own-kept good miss = all-kept second c good (sections_from 0 logs ++ own) own-below
        (not-all c (sections_from 0 logs ++ own) (still-open miss)
        (λ earlier later l e. (own-below earlier later l e).1 fault.Section (lit< tt)))

-- ---- the rule that the next piece breaks

module _ (ws vs : List SiteLog) (len : length ws ≡ length vs) (ws-shaped : All IsShapedLog ws)
    (vs-shaped : All IsShapedLog vs) (second : Bool) (c : Certificate) (own : List SectionLine) where
  abbrev here : List SectionLine
  here = sections_from 0 ws ++ own

  abbrev there : List SectionLine
  there = sections_from 0 vs ++ own

  last-moved : (l : List ℕ) (f : Fault) → Breaks (Rule (within second c here) (last l)) f
      → Breaks (Rule (within second c there) (last l)) f
  last-moved l f b = record {
    broken = λ h. b.broken (rule-last vs ws (sym len) ws-shaped second c own l f h);
    least = λ g lt. rule-last ws vs len vs-shaped second c own l g (b.least g lt);
  }

  -- F18 and F19 are broken by no line with its LF
  no-high : (l : List ℕ) (f : Fault) → 17 < fault_number f → Rule (within second c here) (whole l) f
  no-high l fault.Truncated lt = λ line is same. truncated c here line
  no-high l fault.Trailing lt = λ line is same. trailing c here line
  no-high l fault.Format lt = absurd (omega arith)
  no-high l fault.Notation lt = absurd (omega arith)
  no-high l fault.Certificate lt = absurd (omega arith)
  no-high l fault.Ranks lt = absurd (omega arith)
  no-high l fault.DecidedTwice lt = absurd (omega arith)
  no-high l fault.WalkShape lt = absurd (omega arith)
  no-high l fault.Section lt = absurd (omega arith)
  no-high l fault.Item lt = absurd (omega arith)
  no-high l fault.Twice lt = absurd (omega arith)
  no-high l fault.ReadValue lt = absurd (omega arith)
  no-high l fault.RankOrder lt = absurd (omega arith)
  no-high l fault.Block lt = absurd (omega arith)
  no-high l fault.End lt = absurd (omega arith)
  no-high l fault.DecisionOrder lt = absurd (omega arith)
  no-high l fault.NotEnded lt = absurd (omega arith)
  no-high l fault.Final lt = absurd (omega arith)
  no-high l fault.WalkStep lt = absurd (omega arith)

  whole-moved : (l : List ℕ) (f : Fault) → fault_number f < 17 → Breaks (Rule (within second c here) (whole l)) f
      → Breaks (Rule (within second c there) (whole l)) f
  whole-moved l f low b = record {
    broken = λ h. b.broken (rule-whole vs ws (sym len) ws-shaped second c own l f
        (λ e. absurd (omega (arith, ap fault_number e)))
        (λ more line is same. begins-moved ws vs len vs-shaped c.sites own line
        (b.least fault.Section (omega arith) line is same)) h);
    least = λ g lt. rule-whole ws vs len vs-shaped second c own l g (λ e. absurd (omega (arith, ap fault_number e)))
        (λ more line is same. b.least fault.Section (omega arith) line is same) (b.least g lt);
  }

  walk-17 : (f : Fault) → fault_number f ≡ 17 → f ≡ fault.WalkStep
  walk-17 f e = number-one f fault.WalkStep e

  pub breaks-moved : (p : Piece) (f : Fault) → f ≢ fault.WalkStep → Breaks (Rule (within second c here) p) f
      → Breaks (Rule (within second c there) p) f
  breaks-moved (last l) f other b = last-moved l f b
  breaks-moved (whole l) f other b =
      elim (cases_order (fault_number f) 17) [
        | inl same ↦ absurd (other (walk-17 f same))
        | inr (inl less) ↦ whole-moved l f less b
        | inr (inr more) ↦ absurd (b.broken (no-high l f more))
      ]

-- ---- the first fault

module _ (second : Bool) (c : Certificate) (logs : List SiteLog) (own : List SectionLine) where
  lines-split : lines_so_far (within second c (sections_from 0 logs ++ own)) ≡ front_lines second c logs
      ++ map line_text own
  lines-split = ap (λ (ls : List (List ℕ)). format_line second ∷ certificate_text c ∷ ls)
      (map-append line_text (sections_from 0 logs) own)

  pub text-split : (rest : List ℕ)
      → front_text second c logs ++ (text_of_lines (map line_text own) ++ rest) ≡ text_of_lines
      (lines_so_far (within second c (sections_from 0 logs ++ own))) ++ rest
  text-split rest =
      sym (append_assoc (front_text second c logs) (text_of_lines (map line_text own)) rest)
      ∙ ap (λ (t : List ℕ). t ++ rest) (sym (text-append (front_lines second c logs) (map line_text own))
      ∙ ap text_of_lines (sym lines-split))

  pub line-count : lines_in_front logs + length own ≡ length
      (lines_so_far (within second c (sections_from 0 logs ++ own)))
  line-count = omega (
    arith,
    length-map (sections_from 0 logs ++ own) line_text,
    length-append (sections_from 0 logs) own,
  )

pub own-first : (second : Bool) (c : Certificate) (logs : List SiteLog) (bytes : List ℕ) (n : ℕ) (f : Fault)
    → IsFaultlessCertificate c
    → AreFaultlessSections second c logs → length logs < c.sites → OwnFault second c (length logs) bytes n f
    → FirstFault (front_text second c logs ++ bytes) (lines_in_front logs + n) f
own-first second c logs bytes n f good kept few o =
    let k = length logs in
    let empty = replicate k empty_log in
    let len = length-replicate k empty_log in
    record {
      stage = within second c (sections_from 0 logs ++ o.own);
      rest = o.rest;
      next = o.next;
      text = ap (λ (t : List ℕ). front_text second c logs ++ t) o.text ∙ text-split second c logs o.own o.rest;
      faultless = (
        own-kept second c logs kept o.own o.kept good o.open_yet,
        still-open second c logs kept o.own o.kept o.open_yet,
      );
      number = omega (arith, o.number, line-count second c logs o.own);
      comes = o.comes;
      breaks = breaks-moved empty logs len (empties k) (shaped second c logs kept) second c o.own o.next f o.others
          o.breaks;
    }

-- how far it reaches
front-within : (second : Bool) (c : Certificate) (logs : List SiteLog) (own : List SectionLine)
    → length (front_text second c logs) + length (text_of_lines (map line_text own)) ≤ length
    (text_of_lines (lines_so_far (within second c (sections_from 0 logs ++ own))))
front-within second c logs own =
    let text = text_of_lines (lines_so_far (within second c (sections_from 0 logs ++ own))) in
    omega (
      arith,
      ap length (text-split second c logs own []),
      length-append (front_text second c logs) (text_of_lines (map line_text own) ++ []),
      length-append (text_of_lines (map line_text own)) [],
      length-append text [],
    )

pub own-reach : (second : Bool) (c : Certificate) (logs : List SiteLog) (bytes : List ℕ) (n m : ℕ) (f g : Fault)
    → IsFaultlessCertificate c
    → AreFaultlessSections second c logs → length logs < c.sites → (o : OwnFault second c (length logs) bytes n f)
    → (any : FirstFault (front_text second c logs ++ bytes) m g)
    → length (front_text second c logs) + length (text_of_lines (map line_text o.own)) ≤ reach
    (front_text second c logs ++ bytes) m g any
unfolding own-first
own-reach second c logs bytes n m f g good kept few o any =
    omega (
      arith,
      front-within second c logs o.own,
      reach-one (front_text second c logs ++ bytes) m (lines_in_front logs + n) g f any
          (own-first second c logs bytes n f good kept few o),
    )

front-size : (x : SectionLine) (xs : List SectionLine)
    → length (text_of_lines (map line_text (x ∷ xs))) ≡ length (line_text x) + 1 + length
    (text_of_lines (map line_text xs))
front-size x xs =
    let all = text_of_lines (map line_text (x ∷ xs)) in
    let more = text_of_lines (map line_text xs) in
    omega (
      arith,
      ap length (line_front (line_text x) (map line_text xs) []),
      length-append all [],
      length-append (line_text x) (10 ∷ (more ++ [])),
      length-append more [],
    )

-- lines of one text, of which the second are no fewer
pub no-fewer : (xs ys : List SectionLine) (r s : List ℕ) → AllByRecursion IsLine xs → AllByRecursion IsLine ys
    → text_of_lines (map line_text xs) ++ r ≡ text_of_lines (map line_text ys) ++ s → length xs ≤ length ys
    → length (text_of_lines (map line_text xs)) ≤ length (text_of_lines (map line_text ys))
no-fewer [] ys r s is are same few = omega arith
no-fewer (x ∷ xs) [] r s is are same few = absurd (omega (arith, few))
no-fewer (x ∷ xs) (y ∷ ys) r s is are same few =
    let e1 = sym (line_front (line_text x) (map line_text xs) r) ∙ same
    ∙ line_front (line_text y) (map line_text ys) s in
    let cut = cut_at_byte 10 (line_text x) (line_text y) (text_of_lines (map line_text xs) ++ r)
    (text_of_lines (map line_text ys) ++ s) (line-one_line x is.0) (line-one_line y are.0) e1 in
    let more = no-fewer xs ys r s is.1 are.1 cut.1 (omega (arith, few)) in
    omega (arith, more, ap length cut.0, front-size x xs, front-size y ys)

kept-each : (second : Bool) (c : Certificate) (k : ℕ) (own : List SectionLine) → AreKeptAlone second c k own
    → AllByRecursion IsLine own
kept-each second c k own kept = each-line own (λ earlier later l e. (kept earlier later l e).0.0)
  where
    each-line : (xs : List SectionLine) → ((earlier later : List SectionLine) (l : SectionLine)
        → xs ≡ earlier ++ l ∷ later → IsLine l) → AllByRecursion IsLine xs
    each-line [] h = tt
    each-line (x ∷ xs) h = (
      h [] xs x refl,
      each-line xs (λ earlier later l e. h (x ∷ earlier) later l (ap (λ (ls : List SectionLine). x ∷ ls) e)),
    )

-- a fault is behind lines with none
pub behind-kept : (second : Bool) (c : Certificate) (k : ℕ) (own : List SectionLine) (bytes rest : List ℕ) (n : ℕ)
    (f : Fault) → AreKeptAlone second c k own → bytes ≡ text_of_lines (map line_text own) ++ rest → length own + 1 ≤ n
    → (o : OwnFault second c k bytes n f)
    → length (text_of_lines (map line_text own)) ≤ length (text_of_lines (map line_text o.own))
behind-kept second c k own bytes rest n f kept text few o =
    no-fewer own o.own rest o.rest (kept-each second c k own kept) (kept-each second c k o.own o.kept) (sym text
    ∙ o.text) (omega (arith, few, o.number))

-- ---- all sections

whole-kept : (second : Bool) (c : Certificate) (before : List SectionLine) (line : SectionLine) → IsLineIn second line
    → (g : Fault) → Keeps c before line g → Rule (within second c before) (whole (line_text line)) g
whole-kept second c before line is fault.Notation k = (line, is, refl)
whole-kept second c before line is g k =
    λ m is_m same. subst (λ l. Keeps c before l g) (line-one line m is.0 is_m.0 same) k

module _ (second : Bool) (c : Certificate) (logs : List SiteLog) (good : IsFaultlessCertificate c)
    (kept : AreFaultlessSections second c logs) (each : length logs ≡ c.sites) where
  abbrev lines : List SectionLine
  lines = sections_from 0 logs

  abbrev Found : Type 0
  Found = AllStepsAreFound c.decisions logs

  abbrev Walks : Type 0
  Walks = (tx : ℕ) (walk : List Step) → Contains c.decisions (Refuse tx walk) → AreLogged logs tx walk

  found-walks : Found → Walks
  found-walks found =
      met-walks c logs good.spelled each (All-from_at (λ (e : Edge). (log : SiteLog)
      → slice_get logs e.step.label.site ≡ Some log → IsMet log.entries e) (edges_in c.decisions)
      (λ n e at log here.
      All_at (λ (f : Edge). f.step.label.site ≡ e.step.label.site → IsMet log.entries f) (edges_in c.decisions) n e
      (found e.step.label.site log here) at refl))

  walks-found : Walks → Found
  walks-found walks k log here =
      let met = walks-met c logs walks in
      All-from_at (λ (e : Edge). e.step.label.site ≡ k → IsMet log.entries e) (edges_in c.decisions) (λ n e at same.
      All_at (λ (e : Edge). (log : SiteLog) → slice_get logs e.step.label.site ≡ Some log
      → IsMet log.entries e) (edges_in c.decisions) n e met at log (ap (slice_get logs) same ∙ here))

  all-of : AreSections c.sites lines
  all-of = (
    logs,
    record {
      some = good.spelled.0;
      few = good.spelled.1;
      each = each;
      logs =
          shaped second c logs kept;
    },
    refl,
  )

  walks-keep : Walks → (earlier : List SectionLine) → lines ≡ earlier ++ End ∷ [] → Keeps c earlier End fault.WalkStep
  walks-keep walks earlier cut ms len same tx walk in_it =
      let one = sections-one 0 logs ms [] [] (each ∙ sym len) (append-nil lines ∙ cut ∙ sym same
      ∙ sym (append-nil (sections_from 0 ms))) in
      subst (λ ls. AreLogged ls tx walk) one.0 (walks tx walk in_it)

  faultless-all : Found → IsFaultless (complete second c lines)
  faultless-all found =
      (all-kept second c good lines (sections-below second c logs kept) (walks-keep (found-walks found)), all-of)

  pub found-no_fault : Found → HasNoFault (front_text second c logs)
  found-no_fault found = (second, c, lines, faultless-all found, refl)

  -- the lines in front of the last
  last-line : (front : List SectionLine) × (lines ≡ front ++ End ∷ [])
  last-line = last_end 0 logs (omega (arith, good.spelled.0, each))

  abbrev front : List SectionLine
  front = last-line.0

  front-open : AreSections c.sites front → ⊥
  front-open (ms, shape, same) =
      let one = sections-one 0 ms logs (End ∷ []) [] (shape.each
      ∙ sym each) (ap (λ (ls : List SectionLine). ls ++ End ∷ []) same ∙ sym last-line.1
      ∙ sym (append-nil lines)) in
      no_more End [] one.1

  front-below : AreBelow second c front
  front-below earlier later l e =
      sections-below second c logs kept earlier (later ++ End ∷ []) l (last-line.1
      ∙ ap (λ (ls : List SectionLine). ls ++ End ∷ []) e ∙ append_assoc earlier (l ∷ later) (End ∷ []))

  front-kept : AllKept second c front
  front-kept =
      all-kept second c good front front-below
      (not-all c front front-open (λ earlier later l e. (front-below earlier later l e).1 fault.Section (lit< tt)))

  last-below : Below c front End
  last-below = (sections-below second c logs kept front [] End last-line.1).1

  pub missed-first : (bytes : List ℕ) → (Found → ⊥)
      → FirstFault (front_text second c logs ++ bytes) (lines_in_front logs) fault.WalkStep
  missed-first bytes miss = record {
    stage = within second c front;
    rest = line_text End ++ 10 ∷ bytes;
    next = whole (line_text End);
    text = ap (λ (ls : List (List ℕ)). text_of_lines (format_line second ∷ certificate_text c ∷ ls) ++ bytes)
        (ap (map line_text) last-line.1 ∙ map-append line_text front (End ∷ []))
        ∙ text-one_line (lines_so_far (within second c front)) (line_text End) bytes;
    faultless = (front-kept, front-open);
    number = omega (arith, ap length last-line.1, length-append front (End ∷ []), length-map front line_text);
    comes = (bytes, refl, line-no_lf End tt);
    breaks = record {
      broken = λ h. miss (walks-found (h End (tt, tt) refl logs each last-line.1));
      least = λ g lt. whole-kept second c front End (tt, tt) g (last-below g lt);
    };
  }

  pub missed-reach : (bytes : List ℕ) (m : ℕ) (g : Fault) → (Found → ⊥)
      → (any : FirstFault (front_text second c logs ++ bytes) m g)
      → length (front_text second c logs) ≤ reach (front_text second c logs ++ bytes) m g any
  unfolding missed-first
  missed-reach bytes m g miss any =
      let same = ap (λ (ls : List (List ℕ)). text_of_lines (format_line second ∷ certificate_text c ∷ ls))
      (ap (map line_text) last-line.1 ∙ map-append line_text front (End ∷ [])) in
      let last = text-one_line (lines_so_far (within second c front)) (line_text End) [] in
      omega (
        arith,
        ap length same,
        ap length last,
        length-append (text_of_lines (lines_so_far (within second c front))) (line_text End ++ 10 ∷ []),
        length-append (line_text End) (10 ∷ []),
        length-append (text_of_lines (lines_so_far (within second c front) ++ line_text End ∷ [])) [],
        reach-one (front_text second c logs ++ bytes) m (lines_in_front logs) g fault.WalkStep any
            (missed-first bytes miss),
      )

  trails : (bytes : List ℕ) (p : Piece) → ComesNext bytes p → bytes ≢ []
      → Breaks (Rule (complete second c lines) p) fault.Trailing
  trails bytes (whole l) comes some = line-trails l (complete second c lines) tt
  trails bytes (last l) comes some = ends-behind (complete second c lines) l tt (λ none. some (comes.0 ∙ none))

  pub trailing-first : (bytes : List ℕ) → Found → bytes ≢ []
      → FirstFault (front_text second c logs ++ bytes) (lines_in_front logs + 1) fault.Trailing
  trailing-first bytes found some =
      let p = piece bytes in
      record {
        stage = complete second c lines;
        rest = bytes;
        next = p.0;
        text = refl;
        faultless = faultless-all found;
        number = omega (arith, length-map lines line_text);
        comes = p.1;
        breaks = trails bytes p.0 p.1 some;
      }

  pub trailing-reach : (bytes : List ℕ) (m : ℕ) (g : Fault) → Found → bytes ≢ []
      → (any : FirstFault (front_text second c logs ++ bytes) m g)
      → length (front_text second c logs) ≤ reach (front_text second c logs ++ bytes) m g any
  unfolding trailing-first
  trailing-reach bytes m g found some any =
      omega (
        arith,
        reach-one (front_text second c logs ++ bytes) m (lines_in_front logs + 1) g fault.Trailing any
            (trailing-first bytes found some),
      )

  pub no_fault-found : HasNoFault (front_text second c logs) → Found
  no_fault-found none =
      elim (decidable-walks c.decisions logs) [
        | inl walks ↦ walks-found walks
        | inr miss ↦
            let first = missed-first [] (λ found. miss (found-walks found)) in
            absurd (first_fault-excluded (front_text second c logs) (lines_in_front logs) fault.WalkStep
            (subst (λ t. FirstFault t (lines_in_front logs) fault.WalkStep)
            (append-nil (front_text second c logs)) first) none)
      ]
