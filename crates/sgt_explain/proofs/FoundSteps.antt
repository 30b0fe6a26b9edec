-- Of a text whose first fault is a step of a walk: which step is found, and that the section of its site is.
use Rattle.std.proofs.Common.{◌≡◌, ℕ, ◌+◌, ◌<◌, ◌≤◌, List, [], ◌∷◌, ◌++◌, length, length-append, map, take, Option, Some, None, inl, inr, refl, sym, ap, ap₂, ◌∙◌, subst, arith, append_assoc, append-nil, All}
use Rattle.std.specs.Prelude.{slice_get, IfSome, IfNone, IsSome, IsSomeAnd}
use Rattle.std.proofs.lemmas.Grind.{flat_map-append}
use Rattle.std.proofs.lemmas.List.{length-map}
use Rattle.std.proofs.lemmas.List.Elements.{All-append}
use Rattle.std.proofs.lemmas.Option.{same_Some, slice_get_within}
use Rattle.sgt_names.proofs.Lists.{within_at}
use Rattle.sgt_names.proofs.Places.{All_at, Contains_at, slice_get-take_at}
use Rattle.sgt_names.specs.Log.{Conflicts}
use Rattle.sgt_notation.specs.Spelling.{line_text, text_of_lines, HasNoLf}
use Rattle.sgt_notation.specs.declared.SectionLine.{SectionLine}
use Rattle.sgt_notation.specs.declared.SectionLine.TheVariants.{End}
use Rattle.sgt_bundle.specs.Certificate.{stops}
use Rattle.sgt_bundle.specs.Text.{sections_from, IsStep, IsDecision}
use Rattle.sgt_bundle.specs.Valid.{IsLogged}
use Rattle.sgt_bundle.specs.declared.certificate.Decision.{Decision}
use Rattle.sgt_bundle.specs.declared.certificate.Decision.TheVariants.{Refuse}
use Rattle.sgt_bundle.specs.declared.certificate.Step.{Step}
use Rattle.sgt_bundle.specs.declared.bundle.SiteLog.{SiteLog}
use Rattle.sgt_audit.specs.declared.faults.Fault.TheVariants as fault
use Rattle.sgt_audit.specs.Faults.{Keeps, FirstFault}
use Rattle.sgt_audit.proofs.SectionLines.{up_to, around, at_end}
use Rattle.sgt_explain_lines.specs.Numbered.{HasLine}
use Rattle.sgt_explain_lines.specs.Sited.{HasBefore}
use Rattle.sgt_explain_lines.specs.Values.{entries_of}
use Rattle.sgt_explain_lines.specs.declared.section.Section.{Section}
use Rattle.sgt_explain_lines.proofs.Numbering.{lines-plain}
use Rattle.sgt_explain_decisions.specs.declared.sought.Sought.{Sought}
use Rattle.sgt_explain_decisions.specs.Sought.{AreFoundIn, IsSoughtFor, WalksAreSought, last_stop}
use Rattle.sgt_explain_decisions.specs.Cycles.{AreShown, IsShownStep, IsShownWhole, IsUnshown, IsFirstUnmet}
use Rattle.sgt_explain_steps.specs.Unmet.{IsStepAt, NoStepAt}
use Rattle.sgt_explain_steps.specs.declared.unmet.Unmet.{Unmet}
use Rattle.sgt_explain_steps.proofs.Meetings.{leads-on}
use Rattle.sgt_explain.specs.Shown.{lines_before, decisions_before}
use Rattle.sgt_explain.specs.Steps.{EndsNowhere, IsWhole, IsUnmetStep}
use Rattle.sgt_explain.proofs.FaultyLine.{FaultyLine, entries-same}
use Rattle.sgt_explain.proofs.ShownSteps.{faulty, open-up_to, ends-log, end-line}
use Rattle.sgt_explain.proofs.UnmetSteps.{none-repeats, shown-logged, unshown-none, start-stop, walk-logged}
use Rattle.sgt_explain_decisions.proofs.Seeking.{refuse-same}

-- the lines of sections that the text before a line has
pub has-before : (bytes text : List ℕ) (n : ℕ) (before : List SectionLine) (line : SectionLine)
    → HasLine bytes n before line → n ≤ 18446744073709551615
    → ((lines : List (List ℕ)) (rest : List ℕ) → All HasNoLf lines → n ≡ length lines + 1
    → bytes ≡ text_of_lines lines ++ rest → text ≡ text_of_lines lines)
    → HasBefore text 18446744073709551615 before
has-before bytes text n before line h few front =
    let lines = h.head ++ map line_text before in
    let rest = line_text line ++ 10 ∷ h.rest in
    let long : length lines ≡ length h.head + length (map line_text before) =
    length-append h.head (map line_text before) in
    let same : length (map line_text before) ≡ length before = length-map before line_text in
    let two = h.two in
    let counted = h.counted in
    let plain = All-append HasNoLf h.head (map line_text before) h.whole (lines-plain before h.spelled) in
    let both = flat_map-append (λ (l : List ℕ). l ++ 10 ∷ []) h.head (map line_text before) in
    let whole : bytes ≡ text_of_lines lines ++ rest = h.text
    ∙ sym (append_assoc (text_of_lines h.head) (text_of_lines (map line_text before)) rest)
    ∙ ap (λ t. t ++ rest) (sym both) in
    let is = front lines rest plain (omega (arith, long, same, two, counted)) whole in
    inr (record {
      head = h.head;
      rest = [];
      two = h.two;
      whole = h.whole;
      spelled = h.spelled;
      text = is ∙ both ∙ ap (λ t. text_of_lines h.head ++ t) (sym (append-nil (text_of_lines (map line_text before))));
      ends = inr (refl, omega (arith, counted, few));
    })

module _ (bytes : List ℕ) (n : ℕ) (first : FirstFault bytes n fault.WalkStep) where
  abbrev line : FaultyLine bytes n fault.WalkStep first.stage first.next
  line = faulty bytes n first

  is-end : line.line ≡ End
  is-end = end-line line.c line.before line.line line.broken

  -- where a thing is shown of any logs that the lines may be, no logs are
  no-logs : ((logs : List SiteLog) → length logs ≡ line.c.sites → sections_from 0 logs ≡ line.before ++ End ∷ [] → ⊥)
      → ⊥
  no-logs none =
      line.broken (subst (λ (l : SectionLine). Keeps line.c line.before l fault.WalkStep) (sym is-end)
      (λ logs many all tx walk has. absurd (none logs many all)))

  -- a step that is shown is met
  met-step : (logs : List SiteLog) → sections_from 0 logs ≡ line.before ++ End ∷ [] → (sought : Sought)
      → AreFoundIn line.before (length line.before) sought
      → (number tx : ℕ) (walk : List Step) (place from : ℕ) (step : Step)
      → slice_get line.c.decisions number ≡ Some (Refuse tx walk) → slice_get walk place ≡ Some step
      → slice_get (tx ∷ stops walk) place ≡ Some from → (m : ℕ) → place < m → AreShown sought tx walk m
      → IsLogged logs from step
  met-step logs all sought found number tx walk place from step refused there start m less shown =
      let s = shown place step less there in
      let same = same_Some (last_stop tx (take place walk)) from (sym (start-stop tx walk place step there) ∙ start) in
      let cycle = line.kept.itself fault.WalkShape number tx walk refused in
      shown-logged logs line.before all sought from step s.0 s.1 found
      (leads-on line.c.decisions number tx walk cycle place from step there start)
      (subst (λ t. IsShownStep sought t step s.0 s.1) same s.2)

  -- some step isn't shown
  pub some-unshown : (ds : List Decision) (sought : Sought) → ds ≡ line.c.decisions
      → AreFoundIn line.before (length line.before) sought → All (IsShownWhole sought) ds → ⊥
  some-unshown ds sought same found shown =
      line.broken (subst (λ (l : SectionLine). Keeps line.c line.before l fault.WalkStep) (sym is-end)
      (λ logs many all tx walk has.
      let at = Contains_at line.c.decisions (Refuse tx walk) has in
      let whole =
      All_at (IsShownWhole sought) line.c.decisions at.0 (Refuse tx walk)
      (subst (All (IsShownWhole sought)) same shown) at.1 tx walk refl in
      walk-logged logs tx walk (λ place step there.
      met-step logs all sought found at.0 tx walk place (last_stop tx (take place walk)) step at.1 there
      (start-stop tx walk place step there) (length walk)
      (slice_get_within walk place step there) whole)))

  -- and the first that isn't is no conflict of the logs
  unshown-unmet : (ds : List Decision) (sought : Sought) (number place : ℕ) → ds ≡ line.c.decisions
      → AreFoundIn line.before (length line.before) sought
      → WalksAreSought sought ds (length ds) → IsFirstUnmet sought ds number place → (u : Unmet) → IsStepAt ds u
      → u.number ≡ number → u.place ≡ place
      → IsUnmetStep (decisions_before first.stage) (lines_before first.stage) u
  unshown-unmet ds sought number place same found walks f u at its here =
      let tx = f.unshown.0 in
      let walk = f.unshown.1 in
      let w = f.unshown.3 in
      let refused = f.there ∙ ap Some f.unshown.2 in
      let one =
      refuse-same u.tx tx at.walk walk (same_Some (Refuse u.tx at.walk) (Refuse tx walk) (sym at.refused
      ∙ ap (slice_get ds) its ∙ refused)) in
      let step : w.step ≡ u.step =
      same_Some w.step u.step (sym w.there ∙ ap₂ (λ (v : List Step) p. slice_get v p) (sym one.1) (sym here)
      ∙ at.step) in
      let from : last_stop tx (take place walk) ≡ u.from =
      same_Some (last_stop tx (take place walk)) u.from (sym (start-stop tx walk place w.step w.there)
      ∙ ap₂ (λ t (v : List Step). slice_get (t ∷ stops v) place) (sym one.0) (sym one.1)
      ∙ ap (slice_get (u.tx ∷ stops at.walk)) (sym here) ∙ at.from) in
      let unshown =
      subst (λ t. IsUnshown sought t u.step) from
      (subst (IsUnshown sought (last_stop tx (take place walk))) step w.unshown) in
      let both =
      subst (λ t. IsSoughtFor sought t u.step) from
      (subst (IsSoughtFor sought (last_stop tx (take place walk))) step
      (walks number tx walk (slice_get_within ds number f.decision f.there) refused place w.step
      (slice_get_within walk place w.step w.there) w.there)) in
      subst (λ s. IsUnmetStep (decisions_before s) (lines_before s) u) (sym line.at) (record {
        at = subst (λ (es : List Decision). IsStepAt es u) same at;
        unmet = λ logs all logged. unshown-none logs line.before all
            (none-repeats line.second line.c line.before line.kept logs all) sought u.from u.step found both unshown
            logged;
        earlier = λ logs all m t v p a s refused' there start less. elim less [
          | inl before ↦
              let whole = All_at (IsShownWhole sought) (take number ds) m (Refuse t v) f.before
              (slice_get-take_at ds number m (Refuse t v) (omega (arith, before, its))
              (ap (λ (es : List Decision). slice_get es m) same ∙ refused')) t v refl in
              met-step logs all sought found m t v p a s refused' there start (length v)
              (slice_get_within v p s there) whole
          | inr along ↦
              let low = along.1 in
              let other = refuse-same tx t walk v (same_Some (Refuse tx walk) (Refuse t v)
              (sym refused ∙ ap (λ (es : List Decision). slice_get es number) same
              ∙ ap (slice_get line.c.decisions) (sym its ∙ sym along.0) ∙ refused')) in
              met-step logs all sought found m t v p a s refused' there start place (omega (arith, low, here))
              (subst (λ (y : List Step). AreShown sought t y place) other.1
              (subst (λ x. AreShown sought x walk place) other.0 w.before))
        ];
      })

  pub step-found : (ds : List Decision) (sought : Sought) (number place : ℕ) (found : Option Unmet)
      → ds ≡ line.c.decisions → AreFoundIn line.before (length line.before) sought
      → WalksAreSought sought ds (length ds) → IsFirstUnmet sought ds number place
      → IfSome found (IsStepAt ds) → IfSome found (λ u. (u.number ≡ number) × (u.place ≡ place))
      → IfNone found (NoStepAt ds number place)
      → IsSomeAnd found (IsUnmetStep (decisions_before first.stage) (lines_before first.stage))
  step-found ds sought number place (Some u) same is walks f at asked none =
      unshown-unmet ds sought number place same is walks f u at asked.0 asked.1
  step-found ds sought number place None same is walks f at asked none =
      let w = f.unshown.3 in
      let within = slice_get_within f.unshown.1 place w.step w.there in
      let past = none f.unshown.0 f.unshown.1 (f.there ∙ ap Some f.unshown.2) in
      absurd (omega (arith, within, past))

  -- ---- the section of its site

  module _ (u : Unmet) (is : IsUnmetStep (decisions_before first.stage) (lines_before first.stage) u) where
    abbrev here : IsUnmetStep line.c.decisions line.before u
    here = subst (λ s. IsUnmetStep (decisions_before s) (lines_before s) u) line.at is

    site-known : u.step.label.site < line.c.sites
    site-known =
        let decision =
        All_at (IsDecision line.c.sites) line.c.decisions u.number (Refuse u.tx here.at.walk) line.kept.spelled.2
        here.at.refused in
        (All_at (IsStep line.c.sites) here.at.walk u.place u.step decision.1 here.at.step).1

    pub section-there : EndsNowhere (line.before ++ line.line ∷ []) u.step.label.site → ⊥
    section-there nowhere = no-logs (λ logs many all.
        let site = u.step.label.site in
        let known = site-known in
        let log = within_at logs site (omega (arith, known, many)) in
        let a = around 0 logs site log.0 log.1 in
        let first_site : 0 + site ≡ site = omega arith in
        subst (λ (l : SectionLine). EndsNowhere (line.before ++ l ∷ []) site) is-end nowhere
        (up_to a.front (0 + site) log.0.items log.0.entries log.0.finals) (record {
          later = a.back;
          cut = sym all ∙ a.whole ∙ at_end a.front a.back (0 + site) log.0;
          begun = open-up_to a.front (0 + site) log.0.items log.0.entries log.0.finals ∙ ap Some first_site;
        }))

    pub none-met : (section : Section) → IsWhole (line.before ++ line.line ∷ []) u.step.label.site section
        → Conflicts (entries_of section.entries.items) u.step.label.kind u.step.label.item u.from u.step.to → ⊥
    none-met section whole met = no-logs (λ logs many all.
        let w = subst (λ (l : SectionLine). IsWhole (line.before ++ l ∷ []) u.step.label.site section) is-end whole in
        let log = ends-log logs w.upto w.ends.later (all ∙ w.ends.cut) u.step.label.site w.ends.begun in
        let entries : entries_of section.entries.items ≡ log.0.entries = ap entries_of w.is.entries
        ∙ entries-same w.upto ∙ log.2 in
        here.unmet logs all (
          log.0,
          log.1,
          subst (λ es. Conflicts es u.step.label.kind u.step.label.item u.from u.step.to) entries met,
        ))

pub some-met : (o : Option Unmet) (P : Type 0) → IfNone o P → (P → ⊥) → IsSome o
some-met (Some u) P none other = refl
some-met None P none other = absurd (other none)
