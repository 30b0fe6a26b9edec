-- A section judged line by line, behind empty sections of the sites before it.
use Rattle.std.proofs.Common.{◌≡◌, ◌≢◌, ℕ, zero, suc, ◌+◌, ◌<◌, ◌≤◌, Bool, IsTrue, List, [], ◌∷◌, ◌++◌, length, map, take, drop, replicate, Option, Some, None, refl, sym, ap, ◌∙◌, subst, arith, lit<, inl, inr, ◌⊎◌, append_assoc, zero-add, All}
use Rattle.std.specs.Prelude.{◌↔◌, slice_get}
use Rattle.std.specs.List.{AllByRecursion}
use Rattle.std.proofs.lemmas.Bool.{cases_order}
use Rattle.std.proofs.lemmas.List.{append-nil, append_cancel_left, length-append, length-replicate, map-append, take-append-drop, take-append-le}
use Rattle.std.proofs.lemmas.List.Elements.{All-from_recursion, recursion_from_All}
use Rattle.sgt_names.specs.Limits.{max_line}
use Rattle.sgt_notation.specs.Lines.{IsLongerThan}
use Rattle.sgt_names.proofs.Places.{All_at, All-from_at, Contains-from_at}
use Rattle.sgt_names.proofs.Lists.{All_in, middle_at}
use Rattle.sgt_notation.specs.Spelling.{line_text, text_of_lines, HasNoLf}
use Rattle.sgt_notation.specs.declared.SectionLine.{SectionLine}
use Rattle.sgt_notation.specs.declared.SectionLine.TheVariants.{Site, Initial, Logged, Final, End}
use Rattle.sgt_bundle.specs.Parts.{IsShapedLog}
use Rattle.sgt_bundle.specs.Text.{section_lines, sections_from, Begins, AreSections}
use Rattle.sgt_bundle.specs.declared.bundle.SiteLog.{SiteLog}
use Rattle.sgt_bundle.specs.declared.certificate.Certificate.{Certificate}
use Rattle.sgt_bundle.specs.declared.certificate.Decision.{Decision}
use Rattle.sgt_audit_decisions.specs.Steps.{AreStepsAt, edges_in}
use Rattle.sgt_audit_decisions.specs.declared.steps.Edge.{Edge}
use Rattle.sgt_audit_cells.specs.Tracks.{IsReadyFor}
use Rattle.sgt_audit.specs.declared.alone.Alone.{Alone}
use Rattle.sgt_audit.specs.declared.faults.Fault.{Fault}
use Rattle.sgt_audit.specs.declared.faults.Fault.TheVariants as fault
use Rattle.sgt_audit.specs.Alone.{IsReadyAlone, MeetsSteps, StandsAlone}
use Rattle.sgt_audit.specs.Faults.{fault_number, IsLineIn, Keeps, Piece, whole, last, bytes_of, ComesNext, Rule, Breaks, within}
use Rattle.sgt_audit.specs.Kept.{IsMet, TracksCurrent}
use Rattle.sgt_audit.specs.Reading.{Begun, IsBegun, lines_read}
use Rattle.sgt_audit.specs.private.Following.{MayFollow, with_next}
use Rattle.sgt_audit.proofs.LinePlaces.{cut_append, last_cut, no_cons}
use Rattle.sgt_audit.proofs.MayFollow.{added-lines, are-sections, begins-follow, sections-append}
use Rattle.sgt_audit.proofs.NextStage.{notation-breaks}
use Rattle.sgt_audit.proofs.ReaderAtStage.{piece, lf-within, piece-long}
use Rattle.sgt_audit_sections.specs.Sections.{empty_log, alone, KeepsAlone, AreKeptAlone, OwnFault, IsFaultlessCertificate, StepsAreFound}
use Rattle.sgt_audit_sections.specs.Judged.{IsUnderway, IsWholeSection}
use Rattle.sgt_audit_sections.specs.private.Feeding.{FedAlone}
use Rattle.sgt_audit_sections.proofs.SectionFaults.{empties}
use Rattle.sgt_notation.proofs.Texts.{text-one_line}

abbrev pub empty : ℕ → List SiteLog
empty k = replicate k empty_log

-- before the first line
abbrev pub at_site : Certificate → ℕ → Begun
at_site c k = record { sites = c.sites; whole = empty k; current = None }

pub fresh : (c : Certificate) (k : ℕ) → IsFaultlessCertificate c → k < c.sites → IsBegun (at_site c k)
fresh c k good few = record {
  some = good.spelled.0;
  few = good.spelled.1;
  logs = empties k;
  room =
      omega (arith, length-replicate k empty_log);
}

pub begins : (second : Bool) (c : Certificate) (k : ℕ) (bytes : List ℕ) (a : Alone) → StandsAlone c (at_site c k) a
    → a.second ≡ second → IsUnderway second c k bytes bytes 1 a
begins second c k bytes a stands format = record {
  b = at_site c k;
  own = [];
  whole = refl;
  stands = stands;
  lines = refl;
  kept = λ earlier later l e. absurd (no_cons earlier later l e);
  text = refl;
  number = refl;
  format = format;
}

-- what is behind the line at the front
pub cut-rest : (rest l : List ℕ) (n : ℕ) → take n rest ≡ l ++ 10 ∷ [] → rest ≡ l ++ 10 ∷ drop n rest
cut-rest rest l n front = sym (take-append-drop n rest) ∙ ap (λ (t : List ℕ). t ++ drop n rest) front
    ∙ append_assoc l (10 ∷ []) (drop n rest)

-- ---- a line that is too long

-- what stands before it has no LF
pub longer-front : (rest left : List ℕ) → HasNoLf rest → IsLongerThan max_line left
    → IsLongerThan max_line (rest ++ left)
longer-front rest left one long = (
  omega (arith, length-append rest left, long.0),
  All-from_recursion (λ b. b ≢ 10) _ (go rest (max_line + 1) (recursion_from_All (λ b. b ≢ 10) rest one)),
)
  where
    shorter : (n m : ℕ) (xs : List ℕ) → n ≤ m → AllByRecursion (λ b. b ≢ 10) (take m xs)
        → AllByRecursion (λ b. b ≢ 10) (take n xs)
    shorter zero m xs le h = tt
    shorter (suc n) zero xs le h = absurd (omega arith)
    shorter (suc n) (suc m) [] le h = tt
    shorter (suc n) (suc m) (x ∷ xs) le h = (h.0, shorter n m xs (omega arith) h.1)

    below : (n : ℕ) → n ≤ max_line + 1 → AllByRecursion (λ b. b ≢ 10) (take n left)
    below n le = shorter n (max_line + 1) left le (recursion_from_All (λ b. b ≢ 10) _ long.1)

    all-of : (xs : List ℕ) (n : ℕ) → n ≤ max_line + 1 → AllByRecursion (λ b. b ≢ 10) xs
        → AllByRecursion (λ b. b ≢ 10) (take n (xs ++ left))
    all-of [] n le h = below n le
    all-of (x ∷ xs) zero le h = tt
    all-of (x ∷ xs) (suc n) le h = (h.0, all-of xs n (omega arith) h.1)

    go : (xs : List ℕ) (n : ℕ) → AllByRecursion (λ b. b ≢ 10) xs
        → AllByRecursion (λ b. b ≢ 10) (take (max_line + 1) (xs ++ left))
    go xs n h = all-of xs (max_line + 1) (omega arith) h

pub longer-rest : (rest more : List ℕ) → max_line < length rest → HasNoLf rest → IsLongerThan max_line (rest ++ more)
longer-rest rest more lt one = (
  omega (arith, length-append rest more, lt),
  All-from_recursion (λ b. b ≢ 10) _ (subst (λ (t : List ℕ). AllByRecursion (λ b. b ≢ 10) t)
      (sym (take-append-le (max_line + 1) rest more (omega (arith, lt))))
      (few rest (max_line + 1) (recursion_from_All (λ b. b ≢ 10) rest one))),
)
  where
    few : (xs : List ℕ) (n : ℕ) → AllByRecursion (λ b. b ≢ 10) xs → AllByRecursion (λ b. b ≢ 10) (take n xs)
    few xs zero h = tt
    few [] (suc n) h = tt
    few (x ∷ xs) (suc n) h = (h.0, few xs n h.1)

-- ---- whether one more section is whole

pub whole-cases : (ws : List SiteLog) (b : Begun) (o : Option SiteLog) (line : SectionLine) → b.whole ≡ ws
    → MayFollow b o line
    → ((with_next b o line).whole ≡ ws)
    ⊎ ((log : SiteLog) × (o ≡ Some log) × (line ≡ End) × ((with_next b o line).whole ≡ ws ++ log ∷ []))
whole-cases ws b None line e follow = inl e
whole-cases ws b (Some log) (Site k) e follow = inl e
whole-cases ws b (Some log) (Initial h) e follow = inl e
whole-cases ws b (Some log) (Logged x) e follow = inl e
whole-cases ws b (Some log) (Final h) e follow = inl e
whole-cases ws b (Some log) End e follow = inr (log, refl, refl, ap (λ (ls : List SiteLog). ls ++ log ∷ []) e)

-- ---- the steps at a site

pub steps-found : (ds : List Decision) (k : ℕ) (edges : List Edge) (log : SiteLog) (met : Bool)
    → AreStepsAt ds k edges → IsTrue met ↔ All (IsMet log.entries) edges → IsTrue met ↔ StepsAreFound ds k log
steps-found ds k edges log met are is = (
  λ h. All-from_at (λ (e : Edge). e.step.label.site ≡ k → IsMet log.entries e) (edges_in ds) (λ n e at here.
      All_in (IsMet log.entries) edges e (is.0 h) ((are e).1 (Contains-from_at (edges_in ds) n e at, here))),
  λ found. is.1 (All-from_at (IsMet log.entries) edges (λ n e at.
      let both = (are e).0 (Contains-from_at edges n e at) in
      All_in (λ (e : Edge). e.step.label.site ≡ k → IsMet log.entries e) (edges_in ds) e found both.0 both.1)),
)

module _ (second : Bool) (c : Certificate) (k : ℕ) (few : k < c.sites) (bytes rest : List ℕ) (line : ℕ) (a : Alone)
    (g : IsUnderway second c k bytes rest line a) where
  -- the section goes on
  pub open-yet : AreSections c.sites (alone k g.own) → ⊥
  open-yet all =
      let each =
      (are-sections g.b (subst (λ n. AreSections n (lines_read g.b)) (sym g.stands.sites)
      (subst (AreSections c.sites) (sym g.lines) all))).1 in
      let many : length g.b.whole ≡ k = ap length g.whole ∙ length-replicate k empty_log in
      let sites = g.stands.sites in
      omega (arith, each, many, sites)

  -- at the end of the text
  pub ends : (f : Fault) → HasNoLf rest → Breaks (Rule (within second c (alone k g.own)) (last rest)) f
      → f ≢ fault.WalkStep → OwnFault second c k bytes line f
  ends f one breaks other = record {
    own = g.own;
    rest = rest;
    next = last rest;
    text = g.text;
    kept = g.kept;
    open_yet = open-yet;
    number = g.number;
    comes = (refl, one);
    breaks = breaks;
    others = other;
  }

  -- where what comes next is a line that is too long
  pub unspelled : (left : List ℕ) → IsLongerThan max_line (rest ++ left)
      → OwnFault second c k (bytes ++ left) line fault.Notation
  unspelled left long =
      let p = piece (rest ++ left) in
      record {
        own = g.own;
        rest = rest ++ left;
        next = p.0;
        text = ap (λ (t : List ℕ). t ++ left) g.text ∙ append_assoc (text_of_lines (map line_text g.own)) rest left;
        kept = g.kept;
        open_yet = open-yet;
        number = g.number;
        comes = p.1;
        breaks = notation-breaks second c (alone k g.own) p.0
            (piece-long max_line (rest ++ left) p.0 p.1 long.0 long.1);
        others = λ same. cc;
      }

  -- more of it was read
  pub underway-more : (more : List ℕ) → IsUnderway second c k (bytes ++ more) (rest ++ more) line a
  underway-more more = record {
    b = g.b;
    own = g.own;
    whole = g.whole;
    stands = g.stands;
    lines = g.lines;
    kept = g.kept;
    text = ap (λ (t : List ℕ). t ++ more) g.text ∙ append_assoc (text_of_lines (map line_text g.own)) rest more;
    number = g.number;
    format = g.format;
  }

  module _ (edges : List Edge) (new : Alone) (n : ℕ) (same : new.second ≡ a.second) where
    -- a line with a fault
    pub faulty : (f : Fault) → FedAlone c edges a new rest n (Some f) → (more : List ℕ)
        → OwnFault second c k (bytes ++ more) line f
    faulty f fed more =
        let follows = fed.follows g.b g.stands in
        record {
          own = g.own;
          rest = rest ++ more;
          next = whole fed.line;
          text = ap (λ (t : List ℕ). t ++ more) g.text ∙ append_assoc (text_of_lines (map line_text g.own)) rest more;
          kept = g.kept;
          open_yet = open-yet;
          number = g.number;
          comes = (
            drop n rest ++ more,
            ap (λ (t : List ℕ). t ++ more) (fed.cut)
                ∙ append_assoc fed.line (10 ∷ drop n rest) more,
            fed.one,
          );
          breaks = subst (λ ls. Breaks (Rule (within second c ls) (whole fed.line)) f) g.lines
              (subst (λ s. Breaks (Rule (within s c (lines_read g.b)) (whole fed.line)) f) (same ∙ g.format) follows.0);
          others = follows.1;
        }

    module _ (fed : FedAlone c edges a new rest n None) where
      abbrev pub read : SectionLine
      read = (fed.follows g.b g.stands).0

      abbrev pub next : Begun
      next = with_next g.b g.b.current read

      abbrev more_own : List SectionLine
      more_own = g.own ++ read ∷ []

      is-line : IsLineIn second read
      is-line = subst (λ s. IsLineIn s read) (same ∙ g.format) (fed.follows g.b g.stands).1

      is-text : fed.line ≡ line_text read
      is-text = (fed.follows g.b g.stands).2

      keeps : (f : Fault) → fault_number f < 17 → Keeps c (lines_read g.b) read f
      keeps = (fed.follows g.b g.stands).3

      pub stands : StandsAlone c next new
      stands = (fed.follows g.b g.stands).4

      meets : MeetsSteps edges g.b.current read new.met
      meets = (fed.follows g.b g.stands).5

      may : Begins g.b.sites (lines_read g.b ++ read ∷ [])
      may = subst (λ n. Begins n (lines_read g.b ++ read ∷ [])) (sym g.stands.sites) (keeps fault.Section (lit< tt))

      next-read : lines_read next ≡ alone k more_own
      next-read =
          added-lines g.b g.stands.begun read may g.b.current refl
          ∙ ap (λ (ls : List SectionLine). ls ++ read ∷ []) g.lines
          ∙ append_assoc (sections_from 0 (empty k)) g.own (read ∷ [])

      own-kept : AreKeptAlone second c k more_own
      own-kept earlier later l e =
          elim (cut_append g.own (read ∷ []) earlier later l e) [
            | inl first ↦ g.kept earlier first.0 l first.1
            | inr end ↦
                let one = last_cut read end.0 later l end.2 in
                let front = end.1 ∙ ap (λ (ls : List SectionLine). g.own ++ ls) one.1 ∙ append-nil g.own in
                subst (λ ls. IsLineIn second l × KeepsAlone c k ls l) (sym front)
                (subst (λ m. IsLineIn second m × KeepsAlone c k g.own m) one.0
                (is-line, λ f lt. subst (λ ls. Keeps c ls read f) g.lines (keeps f lt)))
          ]

      own-text : bytes ≡ text_of_lines (map line_text more_own) ++ drop n rest
      own-text =
          g.text ∙ ap (λ (t : List ℕ). text_of_lines (map line_text g.own) ++ t) (fed.cut
          ∙ ap (λ (t : List ℕ). t ++ 10 ∷ drop n rest) is-text)
          ∙ sym (text-one_line (map line_text g.own) (line_text read) (drop n rest))
          ∙ ap (λ ls. text_of_lines ls ++ drop n rest) (sym (map-append line_text g.own (read ∷ [])))

      own-number : line ≡ length more_own
      own-number = omega (arith, g.number, length-append g.own (read ∷ []))

      cases : (next.whole ≡ empty k) ⊎ ((log : SiteLog) × (g.b.current ≡ Some log) × (read ≡ End)
          × (next.whole ≡ empty k ++ log ∷ []))
      cases = whole-cases (empty k) g.b g.b.current read g.whole (begins-follow g.b read may)

      -- the section goes on behind it
      pub goes-on : (k < length next.whole → ⊥) → IsUnderway second c k bytes (drop n rest) (line + 1) new
      goes-on before = record {
        b = next;
        own = more_own;
        whole = elim cases [
          | inl same_as ↦ same_as
          | inr more ↦ absurd
              (before (omega (
                arith,
                ap length more.3,
                length-append (empty k) (more.0 ∷ []),
                length-replicate k empty_log,
              )))
        ];
        stands = stands;
        lines = next-read;
        kept = own-kept;
        text = own-text;
        number = omega (arith, own-number);
        format = same ∙ g.format;
      }

      -- the section is whole with it
      pub ended : k < length next.whole → (log : SiteLog) × (g.b.current ≡ Some log) × (read ≡ End)
          × (next.whole ≡ empty k ++ log ∷ [])
      ended behind =
          elim cases [
            | inl same_as ↦ absurd (omega (arith, ap length same_as, length-replicate k empty_log))
            | inr more ↦ more
          ]

      none-open : (o : Option SiteLog) (l : SectionLine) (log : SiteLog) → o ≡ Some log → l ≡ End
          → (with_next g.b o l).current ≡ None
      none-open o l log here end = ap (λ (p : Option SiteLog). (with_next g.b p l).current) here
          ∙ ap (λ m. (with_next g.b (Some log) m).current) end

      module _ (behind : k < length next.whole) where
        abbrev log : SiteLog
        log = (ended behind).0

        closed : next.current ≡ None
        closed = none-open g.b.current read log (ended behind).1 (ended behind).2

        ready-sites : new.place.sites ≡ c.sites
        ready-sites = stands.place.sites ∙ stands.sites

        ready-state : IsReadyFor c.decisions (k + 1 + 1) new.state
        ready-state =
            let many : length next.whole ≡ k + 1 =
            omega (
              arith,
              ap length (ended behind).3,
              length-append (empty k) (log ∷ []),
              length-replicate k empty_log,
            ) in
            subst (λ m. IsReadyFor c.decisions (m + 1) new.state) many
            (subst (λ o. TracksCurrent c.decisions (length next.whole) o new.state) closed stands.open_site)

        pub ready : IsReadyAlone c (k + 1) new
        ready = record { sites = ready-sites; state = ready-state }

        section-is : more_own ≡ section_lines k log
        section-is =
            let at : length (empty k) ≡ k = length-replicate k empty_log in
            append_cancel_left (sections_from 0 (empty k)) more_own (section_lines k log)
            (sym next-read ∙ read-whole next (empty k ++ log ∷ []) (ended behind).3 closed
            ∙ sections-append 0 (empty k) (log ∷ [])
            ∙ ap (λ (ls : List SectionLine). sections_from 0 (empty k) ++ ls)
            (append-nil (section_lines (0 + length (empty k)) log)
            ∙ ap (λ j. section_lines j log) (zero-add (length (empty k)) ∙ at)))
          where
            append-end : (b : Begun) → b.current ≡ None → lines_read b ≡ sections_from 0 b.whole
            append-end b none = ap (λ o. lines_read (record b { current = o })) none
                ∙ append-nil (sections_from 0 b.whole)

            read-whole : (b : Begun) (ws : List SiteLog) → b.whole ≡ ws → b.current ≡ None
                → lines_read b ≡ sections_from 0 ws
            read-whole b ws e none = append-end b none ∙ ap (sections_from 0) e

        shaped : IsShapedLog log
        shaped =
            let at : length (empty k) ≡ k = length-replicate k empty_log in
            All_at IsShapedLog next.whole (length (empty k)) log stands.begun.logs
            (ap (λ (ls : List SiteLog). slice_get ls (length (empty k))) (ended behind).3
            ∙ middle_at (empty k) log [])

        met : IsTrue new.met ↔ All (IsMet log.entries) edges
        met = subst (λ m. MeetsSteps edges (Some log) m new.met) (ended behind).2
            (subst (λ o. MeetsSteps edges o read new.met) (ended behind).1 meets)

        pub is-whole : AreStepsAt c.decisions k edges → drop n rest ≡ [] → IsWholeSection second c k bytes line new.met
        is-whole are none = record {
          log = log;
          faultless = record { shaped = shaped; kept = subst (AreKeptAlone second c k) section-is own-kept };
          text = own-text ∙ ap (λ (t : List ℕ). text_of_lines (map line_text more_own) ++ t) none
              ∙ append-nil (text_of_lines (map line_text more_own))
              ∙ ap (λ ls. text_of_lines (map line_text ls)) section-is;
          count = own-number ∙ ap length section-is;
          steps = steps-found c.decisions k edges log new.met are met;
        }
