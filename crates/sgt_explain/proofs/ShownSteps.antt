-- What is shown of a step of a walk, by the section of its site.
use Rattle.std.proofs.Common.{◌≡◌, ◌≢◌, ℕ, zero, suc, ◌+◌, ◌-◌, ◌<◌, ◌≤◌, List, [], ◌∷◌, ◌++◌, length, map, take, drop, Option, Some, None, inl, inr, refl, sym, ap, ap₂, ◌∙◌, subst, arith, append_assoc, length-append, All}
use Rattle.std.specs.Prelude.{slice_get, IfSome, IsSome, IsSomeAnd}
use Rattle.std.proofs.lemmas.Grind.{flat_map-append}
use Rattle.std.proofs.lemmas.Bool.{cases_order, false≢true}
use Rattle.std.proofs.lemmas.List.{length-take-le, map-append, take-append-le, take_all}
use Rattle.std.proofs.lemmas.List.Elements.{All-push}
use Rattle.std.proofs.lemmas.List.Sums.{fold-append}
use Rattle.std.proofs.lemmas.Option.{same_Some, none-some, slice_get_within}
use Rattle.sgt_names.proofs.Lists.{AllByRecursion-append, front_at, middle_at}
use Rattle.sgt_names.proofs.Places.{All_at, All-from_at, slice_get-take, split_at}
use Rattle.sgt_names.specs.Log.{Conflicts}
use Rattle.sgt_names.specs.declared.entry.Entry.{Entry}
use Rattle.sgt_names.specs.declared.entry.Holding.{Holding}
use Rattle.sgt_notation.specs.Spelling.{line_text, text_of_lines, IsLine}
use Rattle.sgt_notation.specs.declared.SectionLine.{SectionLine}
use Rattle.sgt_notation.specs.declared.SectionLine.TheVariants.{Site, Initial, Logged, Final, End}
use Rattle.sgt_bundle.specs.Certificate.{stops, IsCycle}
use Rattle.sgt_bundle.specs.Text.{sections_from}
use Rattle.sgt_bundle.specs.declared.certificate.Certificate.{Certificate}
use Rattle.sgt_bundle.specs.declared.certificate.Decision.TheVariants.{Refuse}
use Rattle.sgt_bundle.specs.declared.certificate.Step.{Step}
use Rattle.sgt_bundle.specs.declared.bundle.SiteLog.{SiteLog}
use Rattle.sgt_audit.specs.declared.faults.Fault.TheVariants as fault
use Rattle.sgt_audit.specs.Faults.{entries_in, Keeps, bytes_of, FirstFault}
use Rattle.sgt_audit.proofs.SectionLines.{NotSite, AllByRecursion-map, inner, up_to, entries_in-is}
use Rattle.sgt_audit.proofs.LinePlaces.{EachPlace, in_sections}
use Rattle.sgt_explain_lines.specs.Numbered.{HasLine, IsSectionOf, with_site, open_site}
use Rattle.sgt_explain_lines.specs.Values.{entries_of}
use Rattle.sgt_explain_lines.specs.declared.section.Logged.{Logged as LoggedEntry}
use Rattle.sgt_explain_lines.specs.declared.section.Section.{Section}
use Rattle.sgt_explain_steps.specs.Told.{begins_with_read, ends_with_read}
use Rattle.sgt_explain_steps.specs.Unmet.{ShowsOwn, AreMisfit, ShowsOther, IsStepAt, SameStep}
use Rattle.sgt_explain_steps.specs.declared.unmet.Unmet.{Unmet}
use Rattle.sgt_explain_steps.proofs.Meetings.{are-misfit, leads-on}
use Rattle.sgt_explain.specs.Shown.{lines_before, decisions_before}
use Rattle.sgt_explain.specs.Steps.{EndsSite, EndsAt, NoneEnds, EndsNowhere, ShowsStep, IsWhole, IsUnmetStep, IsStepThere}
use Rattle.sgt_explain.proofs.FaultyLine.{FaultyLine, entries-same, step-line}
use Rattle.sgt_explain.proofs.EntryPlaces.{site-kept}
use Rattle.sgt_notation.proofs.Texts.{line_front}

-- ---- an earlier line of a text

text-cut : (xs ys : List SectionLine) (l : SectionLine) (rest : List ℕ)
    → text_of_lines (map line_text (xs ++ l ∷ ys)) ++ rest ≡ text_of_lines (map line_text xs) ++
    (line_text l ++ 10 ∷ (text_of_lines (map line_text ys) ++ rest))
text-cut xs ys l rest =
    let tx = text_of_lines (map line_text xs) in
    ap (λ ls. text_of_lines ls ++ rest) (map-append line_text xs (l ∷ ys))
    ∙ ap (λ t. t ++ rest) (flat_map-append (λ m. m ++ 10 ∷ []) (map line_text xs) (map line_text (l ∷ ys)))
    ∙ append_assoc tx (text_of_lines (map line_text (l ∷ ys))) rest
    ∙ ap (λ t. tx ++ t) (line_front (line_text l) (map line_text ys) rest)

front-line : (xs : List SectionLine) (l : SectionLine) (p : ℕ) → p < length xs → (a : SectionLine)
    → slice_get (xs ++ l ∷ []) p ≡ Some a → slice_get xs p ≡ Some a
front-line [] l p inside a at = absurd (omega (arith, inside))
front-line (x ∷ xs) l zero inside a at = at
front-line (x ∷ xs) l (suc p) inside a at = front-line xs l p (omega (arith, inside)) a at

module _ (bytes : List ℕ) (n : ℕ) (before : List SectionLine) (line : SectionLine) (h : HasLine bytes n before line)
    (m : ℕ) (low : 3 ≤ m) (high : m ≤ n) where
  abbrev ls : List SectionLine
  ls = before ++ line ∷ []

  abbrev k : ℕ
  k = m - 3

  within : k < length ls
  within =
      let long : length ls ≡ length before + 1 = length-append before (line ∷ []) in
      let counted = h.counted in
      omega (arith, low, high, long, counted)

  spelled-all : All IsLine ls
  spelled-all = All-push IsLine before line h.spelled h.one

  earlier : (l : SectionLine) → slice_get ls k ≡ Some l → HasLine bytes m (take k ls) l
  earlier l at =
      let long : length (take k ls) ≡ k = length-take-le k ls (omega (arith, within)) in
      record {
        head = h.head;
        rest = text_of_lines (map line_text (drop (suc k) ls)) ++ h.rest;
        two = h.two;
        whole = h.whole;
        spelled =
            All-from_at IsLine (take k ls)
            (λ j a at_j. All_at IsLine ls j a spelled-all (slice_get-take ls k j a at_j).1);
        one = All_at IsLine ls k l spelled-all at;
        text = h.text ∙ ap (λ t. text_of_lines h.head ++ t)
            (sym (text-cut before [] line h.rest)
            ∙ ap (λ (ms : List SectionLine). text_of_lines (map line_text ms) ++ h.rest) (split_at ls k l at)
            ∙ text-cut (take k ls) (drop (suc k) ls) l h.rest);
        counted = omega (arith, long, low);
      }

  pub whole-is : (site : ℕ) (section : Section)
      → ((upto : List SectionLine) (l : SectionLine) → HasLine bytes m upto l → Some End ≡ Some l)
      → ((upto : List SectionLine) (l : SectionLine) → HasLine bytes m upto l → IsSectionOf upto section)
      → section.site ≡ Some site → IsWhole ls site section
  whole-is site section reads are begun =
      let l = (slice_get-within ls k within).0 in
      let at = (slice_get-within ls k within).1 in
      let has = earlier l at in
      let is = are (take k ls) l has in
      let end : End ≡ l = same_Some End l (reads (take k ls) l has) in
      record {
        upto = take k ls;
        ends = record {
          later = drop (suc k) ls;
          cut = split_at ls k l at
              ∙ ap (λ (g : SectionLine). take k ls ++ g ∷ drop (suc k) ls) (sym end);
          begun = sym is.site ∙ begun;
        };
        is = is;
      }
    where
      slice_get-within : {A : Type 0} (xs : List A) (i : ℕ) → i < length xs → (a : A) × (slice_get xs i ≡ Some a)
      slice_get-within [] i less = absurd (omega (arith, less))
      slice_get-within (x ∷ xs) zero less = (x, refl)
      slice_get-within (x ∷ xs) (suc i) less = slice_get-within xs i (omega (arith, less))

  -- no line ends the section of the site where the one found doesn't
  in-before : (site p : ℕ) → p < length before → EndsAt ls site p → EndsAt before site p
  in-before site p inside at = (
    front-line before line p inside End at.0,
    ap open_site (sym (take-append-le p before (line ∷ []) (omega (arith, inside)))) ∙ at.1,
  )

  in-all : (site p : ℕ) → EndsAt before site p → EndsAt ls site p
  in-all site p at =
      let inside = slice_get_within before p End at.0 in (
        front_at before (line ∷ []) p End at.0,
        ap open_site (take-append-le p before (line ∷ []) (omega (arith, inside))) ∙ at.1,
      )

  cut-ends : (site : ℕ) (upto : List SectionLine) → EndsSite ls site upto → EndsAt ls site (length upto)
  cut-ends site upto e = (
    ap (λ (xs : List SectionLine). slice_get xs (length upto)) e.cut ∙ middle_at upto End e.later,
    ap open_site (ap (take (length upto)) e.cut ∙ take-append-le (length upto) upto (End ∷ e.later) (omega arith)
        ∙ take_all (length upto) upto (omega arith)) ∙ e.begun,
  )

  pub ends-nowhere : (site : ℕ) (section : Section) (found : Option SectionLine)
      → ((upto : List SectionLine) (l : SectionLine) → HasLine bytes m upto l → found ≡ Some l)
      → ((upto : List SectionLine) (l : SectionLine) → HasLine bytes m upto l → IsSectionOf upto section)
      → (m < n → EndsAt before site (m - 3)) → NoneEnds before site (m - 3)
      → ((l : SectionLine) → found ≡ Some l → l ≡ End → section.site ≡ Some site → ⊥) → EndsNowhere ls site
  ends-nowhere site section found reads are ends none other upto e =
      let p = length upto in
      let at = cut-ends site upto e in
      let counted = h.counted in
      elim (cases_order p k) [
        | inl same ↦ ends-here (subst (EndsAt ls site) same at)
        | inr (inl earlier) ↦ none p earlier (in-before site p (omega (arith, earlier, low, high, counted)) at)
        | inr (inr later) ↦ (let all = slice_get_within ls p End at.0 in
            let long : length ls ≡ length before + 1 = length-append before (line ∷ []) in
            ends-here (in-all site k (ends (omega (arith, later, all, long, counted, low, high)))))
      ]
    where
      ends-here : EndsAt ls site k → ⊥
      ends-here at =
          let has = earlier End at.0 in
          other End (reads (take k ls) End has) refl ((are (take k ls) End has).site ∙ at.1)

-- ---- the log of the site whose section ends

pub open-up_to : (front : List SectionLine) (k : ℕ) (items : List Holding) (entries : List Entry)
    (finals : List Holding) → open_site (up_to front k items entries finals) ≡ Some k
open-up_to front k items entries finals =
    fold-append with_site None front (Site k ∷ inner items entries finals)
    ∙ site-kept (Some k) (inner items entries finals)
    (AllByRecursion-append NotSite (map Initial items ++ map Logged entries) (map Final finals)
    (AllByRecursion-append NotSite (map Initial items) (map Logged entries)
    (AllByRecursion-map NotSite Initial (λ h. tt) items) (AllByRecursion-map NotSite Logged (λ e. tt) entries))
    (AllByRecursion-map NotSite Final (λ h. tt) finals))

abbrev EndsLog : List SiteLog → List SectionLine → SectionLine → Type 0
EndsLog logs upto End = (site : ℕ) → open_site upto ≡ Some site → (log : SiteLog) × (slice_get logs site ≡ Some log)
    × (entries_in upto ≡ log.entries)
EndsLog logs upto _ = Unit {0}

ends-each : (logs : List SiteLog) (s j : ℕ) (log : SiteLog) (front : List SectionLine) → slice_get logs s ≡ Some log
    → j ≡ s → EachPlace (EndsLog logs) front j log
ends-each logs s j log front at j-is = record {
  site = tt;
  initial = λ n h at_n. tt;
  logged = λ n e at_n. tt;
  final = λ n h at_n. tt;
  end = λ site begun.
      let same : j ≡ site = same_Some j site (sym (open-up_to front j log.items log.entries log.finals) ∙ begun) in (
        log,
        ap (slice_get logs) (sym same ∙ j-is) ∙ at,
        entries_in-is front j log.items log.entries log.finals,
      );
}

pub ends-log : (logs : List SiteLog) (upto later : List SectionLine) → sections_from 0 logs ≡ upto ++ End ∷ later
    → EndsLog logs upto End
ends-log logs upto later e =
    in_sections (EndsLog logs) 0 logs [] (λ f last. absurd (none-some (Logged f) last))
    (λ s j log front at j-is closed. ends-each logs s j log front at (omega (arith, j-is))) upto later End e

-- ---- F17

pub end-line : (c : Certificate) (before : List SectionLine) (line : SectionLine)
    → (Keeps c before line fault.WalkStep → ⊥) → line ≡ End
end-line c before End broken = refl
end-line c before (Site k) broken = absurd (broken tt)
end-line c before (Initial h) broken = absurd (broken tt)
end-line c before (Logged e) broken = absurd (broken tt)
end-line c before (Final h) broken = absurd (broken tt)

module _ (bytes : List ℕ) (n : ℕ) (first : FirstFault bytes n fault.WalkStep) where
  pub faulty : FaultyLine bytes n fault.WalkStep first.stage first.next
  faulty = step-line bytes n first

  shows-step : (at shown : Unmet) (section : Section) → IsUnmetStep faulty.c.decisions faulty.before at
      → IsWhole (faulty.before ++ faulty.line ∷ []) at.step.label.site section
      → SameStep at shown
      → (Conflicts (entries_of section.entries.items) shown.step.label.kind shown.step.label.item shown.from
      shown.step.to → ⊥)
      → ShowsOwn section.entries.items shown.from (begins_with_read shown.step.label.kind) shown.step.label.item
      shown.first
      → ShowsOwn section.entries.items shown.step.to (ends_with_read shown.step.label.kind) shown.step.label.item
      shown.second
      → ShowsOther section.entries.items shown.from shown.step shown.other
      → ShowsStep (decisions_before first.stage) (lines_before first.stage) (bytes_of first.next) shown
  shows-step at shown section one whole same broken own its met =
      let is = one.at in
      let end : faulty.line ≡ End = end-line faulty.c faulty.before faulty.line faulty.broken in
      let w = subst (λ (l : SectionLine). IsWhole (faulty.before ++ l ∷ []) at.step.label.site section) end whole in
      let ends = subst (λ (s : Step). EndsSite (faulty.before ++ End ∷ []) s.label.site w.upto)
      (sym same.step) w.ends in
      let at_step : IsStepAt faulty.c.decisions shown = record {
        walk = is.walk;
        refused = ap (slice_get faulty.c.decisions) same.number ∙ is.refused
            ∙ ap (λ t. Some (Refuse t is.walk)) (sym same.tx);
        count = same.count ∙ is.count;
        step = ap (slice_get is.walk) same.place ∙ is.step ∙ ap Some (sym same.step);
        from = ap₂ (λ t p. slice_get (t ∷ stops is.walk) p) same.tx same.place ∙ is.from ∙ ap Some (sym same.from);
      } in
      let cycle : IsCycle faulty.c.decisions shown.number shown.tx is.walk =
      faulty.kept.itself fault.WalkShape shown.number shown.tx is.walk at_step.refused in
      let apart : shown.from ≢ shown.step.to =
      leads-on faulty.c.decisions shown.number shown.tx is.walk cycle shown.place shown.from shown.step
      at_step.step at_step.from in
      subst (λ s. ShowsStep (decisions_before s) (lines_before s) (bytes_of first.next) shown) (sym faulty.at) (record {
        last = ap bytes_of faulty.comes ∙ ap line_text end;
        at = at_step;
        unmet = λ logs e logged.
            let log = ends-log logs w.upto ends.later (e ∙ ends.cut) shown.step.label.site ends.begun in
            let entries : logged.0.entries ≡ entries_of section.entries.items =
            ap (λ (g : SiteLog). g.entries) (same_Some logged.0 log.0 (sym logged.1 ∙ log.1)) ∙ sym log.2
            ∙ sym (entries-same w.upto) ∙ ap entries_of (sym w.is.entries) in
            broken (subst (λ es. Conflicts es shown.step.label.kind shown.step.label.item shown.from shown.step.to)
            entries logged.2);
        earlier = λ logs e number tx walk place from step refused there start less.
            let n = same.number in
            let p = same.place in
            one.earlier logs e number tx walk place from step refused there start
            (elim less [
              | inl before ↦ inl (omega (arith, before, n))
              | inr here ↦ inr (here.0 ∙ n, let q = here.1 in omega (arith, q, p))
            ]);
        upto = w.upto;
        section = ends;
        first = subst (λ es. ShowsOwn es shown.from (begins_with_read shown.step.label.kind) shown.step.label.item
            shown.first) w.is.entries own;
        second = subst (λ es. ShowsOwn es shown.step.to (ends_with_read shown.step.label.kind) shown.step.label.item
            shown.second) w.is.entries its;
        misfit = subst (λ es. (one two : LoggedEntry) → shown.first ≡ Some one → shown.second ≡ Some two
            → AreMisfit es one two) w.is.entries
            (are-misfit section.entries.items shown.from shown.step shown.first shown.second apart broken own its);
        other = subst (λ es. ShowsOther es shown.from shown.step shown.other) w.is.entries met;
      })

  pub shows-found : (at : Unmet) (found : Option Unmet)
      → IsUnmetStep (decisions_before first.stage) (lines_before first.stage) at
      → ((before : List SectionLine) (line : SectionLine) → HasLine bytes n before line
      → IfSome found (IsStepThere (before ++ line ∷ []) at)) → IsSome found
      → IsSomeAnd found (ShowsStep (decisions_before first.stage) (lines_before first.stage) (bytes_of first.next))
  shows-found at None is there some = absurd (false≢true some)
  shows-found at (Some shown) is there some =
      let t = there faulty.before faulty.line faulty.has in
      let one = subst (λ s. IsUnmetStep (decisions_before s) (lines_before s) at) faulty.at is in
      shows-step at shown t.section one t.whole t.same t.broken t.first t.second t.other

pub step-there : (lines : List SectionLine) (at : Unmet) (section : Section) (found : Option Unmet)
    → IsWhole lines at.step.label.site section
    → IfSome found (SameStep at)
    → IfSome found (λ u. Conflicts (entries_of section.entries.items) u.step.label.kind u.step.label.item u.from
    u.step.to → ⊥)
    → IfSome found (λ u. ShowsOwn section.entries.items u.from (begins_with_read u.step.label.kind) u.step.label.item
    u.first)
    → IfSome found (λ u. ShowsOwn section.entries.items u.step.to (ends_with_read u.step.label.kind) u.step.label.item
    u.second)
    → IfSome found (λ u. ShowsOther section.entries.items u.from u.step u.other)
    → IfSome found (IsStepThere lines at)
step-there lines at section None whole same broken own its met = tt
step-there lines at section (Some shown) whole same broken own its met = record {
  section = section;
  whole = whole;
  same = same;
  broken = broken;
  first = own;
  second = its;
  other = met;
}
