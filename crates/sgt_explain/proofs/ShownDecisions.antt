-- What is shown by the certificate of a text.
use Rattle.std.proofs.Common.{◌≡◌, ◌≢◌, ℕ, List, [], ◌∷◌, ◌++◌, length, Option, Some, None, Bool, sym, ap, ◌∙◌, subst, arith, All}
use Rattle.std.specs.Prelude.{Result, Ok, Err, OnOk, unwrap_or}
use Rattle.std.proofs.lemmas.List.Elements.{All-from_recursion}
use Rattle.std.proofs.lemmas.Option.{same_Some, none-some, slice_get_within}
use Rattle.sgt_notation.specs.Spelling.{line_text, text_of_lines}
use Rattle.sgt_notation.specs.declared.SectionLine.{SectionLine}
use Rattle.sgt_notation.specs.declared.SectionLine.TheVariants.{Logged}
use Rattle.sgt_bundle.specs.Text.{certificate_text, format_line, IsCertificate}
use Rattle.sgt_bundle.specs.declared.certificate.Certificate.{Certificate}
use Rattle.sgt_bundle.specs.Certificate.{IsDecidedOnce}
use Rattle.sgt_bundle.specs.declared.certificate.Decision.{Decision}
use Rattle.sgt_bundle.specs.declared.certificate.Decision.TheVariants.{Refuse}
use Rattle.sgt_names.specs.Entry.{tx_of}
use Rattle.sgt_bundle.proofs.OneText.{format-one_line}
use Rattle.sgt_audit.specs.declared.faults.Fault.{Fault}
use Rattle.sgt_audit.specs.declared.faults.Fault.TheVariants as fault
use Rattle.sgt_audit.specs.Faults.{Keeps, Stage, start, headed, within, complete, lines_so_far, Piece, whole, last, ComesNext, Rule, FirstFault, bytes_of}
use Rattle.sgt_explain_lines.specs.Numbered.{HasLine, IsSectionOf, logged_in, numbered_entries}
use Rattle.sgt_explain_lines.specs.declared.section.Logged.{Logged as LoggedEntry}
use Rattle.sgt_explain_lines.specs.declared.section.Section.{Section}
use Rattle.sgt_explain_decisions.specs.declared.placed.Placed.{Placed}
use Rattle.sgt_explain_decisions.specs.Placed.{ArePlaced, IsUndecided}
use Rattle.sgt_explain_decisions.specs.Decided.{IsOvertaken, TellsDecisionOrder}
use Rattle.sgt_explain_decisions.specs.Ends.{HasEnd, TellsEnd, TellsNotEnded}
use Rattle.sgt_explain_decisions.specs.Walks.{HaveCycles}
use Rattle.sgt_explain.specs.Asked.{HoldsCertificate}
use Rattle.sgt_explain.specs.Certified.{ShowsAgainstEnd, ShowsMisplaced, ShowsUnended}
use Rattle.sgt_explain.specs.Shown.{lines_before, decisions_before}
use Rattle.sgt_explain.proofs.FaultyLine.{FaultyLine, end-line, decision-line, left-line}
use Rattle.sgt_explain.proofs.KeptDecisions.{overtaken-by, all-decided, ended-kept}
use Rattle.sgt_explain.proofs.SecondLine.{held-line}
use Rattle.sgt_explain.proofs.ShownValues.{logged-parts}
use Rattle.sgt_explain.proofs.Telling.{on-ok}
use Rattle.sgt_notation.proofs.Texts.{line_front}

-- what was read there
abbrev pub Reads : List ℕ → Option Certificate → Type 0
Reads bytes found = (c : Certificate) → HoldsCertificate bytes c → found ≡ Some c

-- ---- F4, F5, F6

module _ (bytes rest : List ℕ) where
  held : (second : Bool) (l : List ℕ) → ComesNext rest (whole l)
      → bytes ≡ text_of_lines (lines_so_far (headed second)) ++ rest
      → (c : Certificate) → IsCertificate c → l ≡ certificate_text c → HoldsCertificate bytes c
  held second l comes text c is e =
      held-line bytes (format_line second) comes.0 c
      (All-from_recursion (λ b. b ≢ 10) (format_line second) (format-one_line second)) is
      (text ∙ line_front (format_line second) [] rest
      ∙ ap (λ (r : List ℕ). format_line second ++ 10 ∷ r) (comes.1 ∙ ap (λ (m : List ℕ). m ++ 10 ∷ comes.0) e))

  ranks-headed : (stage : Stage) (next : Piece) → ComesNext rest next
      → bytes ≡ text_of_lines (lines_so_far stage) ++ rest → (Rule stage next fault.Ranks → ⊥)
      → (c : Certificate) → IsCertificate c → bytes_of next ≡ certificate_text c → HoldsCertificate bytes c
  ranks-headed start (whole l) comes text broken = absurd (broken tt)
  ranks-headed start (last l) comes text broken = absurd (broken tt)
  ranks-headed (headed second) (whole l) comes text broken = held second l comes text
  ranks-headed (headed second) (last l) comes text broken = absurd (broken tt)
  ranks-headed (within second d before) (whole l) comes text broken = absurd (broken (λ m is e. tt))
  ranks-headed (within second d before) (last l) comes text broken = absurd (broken tt)
  ranks-headed (complete second d before) (whole l) comes text broken = absurd (broken tt)
  ranks-headed (complete second d before) (last l) comes text broken = absurd (broken tt)

  twice-headed : (stage : Stage) (next : Piece) → ComesNext rest next
      → bytes ≡ text_of_lines (lines_so_far stage) ++ rest → (Rule stage next fault.DecidedTwice → ⊥)
      → (c : Certificate) → IsCertificate c → bytes_of next ≡ certificate_text c → HoldsCertificate bytes c
  twice-headed start (whole l) comes text broken = absurd (broken tt)
  twice-headed start (last l) comes text broken = absurd (broken tt)
  twice-headed (headed second) (whole l) comes text broken = held second l comes text
  twice-headed (headed second) (last l) comes text broken = absurd (broken tt)
  twice-headed (within second d before) (whole l) comes text broken = absurd (broken (λ m is e. tt))
  twice-headed (within second d before) (last l) comes text broken = absurd (broken tt)
  twice-headed (complete second d before) (whole l) comes text broken = absurd (broken tt)
  twice-headed (complete second d before) (last l) comes text broken = absurd (broken tt)

  walk-headed : (stage : Stage) (next : Piece) → ComesNext rest next
      → bytes ≡ text_of_lines (lines_so_far stage) ++ rest → (Rule stage next fault.WalkShape → ⊥)
      → (c : Certificate) → IsCertificate c → bytes_of next ≡ certificate_text c → HoldsCertificate bytes c
  walk-headed start (whole l) comes text broken = absurd (broken tt)
  walk-headed start (last l) comes text broken = absurd (broken tt)
  walk-headed (headed second) (whole l) comes text broken = held second l comes text
  walk-headed (headed second) (last l) comes text broken = absurd (broken tt)
  walk-headed (within second d before) (whole l) comes text broken = absurd (broken (λ m is e. tt))
  walk-headed (within second d before) (last l) comes text broken = absurd (broken tt)
  walk-headed (complete second d before) (whole l) comes text broken = absurd (broken tt)
  walk-headed (complete second d before) (last l) comes text broken = absurd (broken tt)

module _ (bytes : List ℕ) (n : ℕ) where
  pub ranks-held : (first : FirstFault bytes n fault.Ranks) → (c : Certificate) → IsCertificate c
      → bytes_of first.next ≡ certificate_text c → HoldsCertificate bytes c
  ranks-held first = ranks-headed bytes first.rest first.stage first.next first.comes first.text first.breaks.broken

  pub twice-held : (first : FirstFault bytes n fault.DecidedTwice) → (c : Certificate) → IsCertificate c
      → bytes_of first.next ≡ certificate_text c → HoldsCertificate bytes c
  twice-held first = twice-headed bytes first.rest first.stage first.next first.comes first.text first.breaks.broken

  pub walk-held : (first : FirstFault bytes n fault.WalkShape) → (c : Certificate) → IsCertificate c
      → bytes_of first.next ≡ certificate_text c → HoldsCertificate bytes c
  walk-held first = walk-headed bytes first.rest first.stage first.next first.comes first.text first.breaks.broken

-- the certificate that was read keeps no more than the line
twice-kept : (stage : Stage) (next : Piece) (d : Certificate)
    → ((c : Certificate) → IsCertificate c → bytes_of next ≡ certificate_text c → d ≡ c) → IsDecidedOnce d.decisions
    → Rule stage next fault.DecidedTwice
twice-kept start (whole l) d one once = tt
twice-kept start (last l) d one once = tt
twice-kept (headed second) (whole l) d one once =
    λ c is e. subst (λ (k : Certificate). IsDecidedOnce k.decisions) (one c is e) once
twice-kept (headed second) (last l) d one once = tt
twice-kept (within second c before) (whole l) d one once = λ m is e. tt
twice-kept (within second c before) (last l) d one once = tt
twice-kept (complete second c before) (whole l) d one once = tt
twice-kept (complete second c before) (last l) d one once = tt

walk-kept : (stage : Stage) (next : Piece) (d : Certificate)
    → ((c : Certificate) → IsCertificate c → bytes_of next ≡ certificate_text c → d ≡ c)
    → HaveCycles d.decisions (length d.decisions) → Rule stage next fault.WalkShape
walk-kept start (whole l) d one have = tt
walk-kept start (last l) d one have = tt
walk-kept (headed second) (whole l) d one have = λ c is e number tx walk at.
    subst (λ (k : Certificate). HaveCycles k.decisions (length k.decisions)) (one c is e) have number tx walk
    (slice_get_within c.decisions number (Refuse tx walk) at) at
walk-kept (headed second) (last l) d one have = tt
walk-kept (within second c before) (whole l) d one have = λ m is e. tt
walk-kept (within second c before) (last l) d one have = tt
walk-kept (complete second c before) (whole l) d one have = tt
walk-kept (complete second c before) (last l) d one have = tt

pub twice-broken : (bytes : List ℕ) (n : ℕ) (first : FirstFault bytes n fault.DecidedTwice) (d : Certificate)
    → Reads bytes (Some d) → IsDecidedOnce d.decisions → ⊥
twice-broken bytes n first d reads once =
    first.breaks.broken
    (twice-kept first.stage first.next d
    (λ c is e. same_Some d c (reads c (twice-held bytes n first c is e))) once)

pub walk-broken : (bytes : List ℕ) (n : ℕ) (first : FirstFault bytes n fault.WalkShape) (d : Certificate)
    → Reads bytes (Some d) → HaveCycles d.decisions (length d.decisions) → ⊥
walk-broken bytes n first d reads have =
    first.breaks.broken
    (walk-kept first.stage first.next d
    (λ c is e. same_Some d c (reads c (walk-held bytes n first c is e))) have)

-- what is told of the certificate that was read
pub tells-read_certificate : {T E : Type 0} (r : Result T E) (bytes line : List ℕ) (d : Certificate)
    (P : List Decision → Type 0) → Reads bytes (Some d)
    → ((c : Certificate) → IsCertificate c → line ≡ certificate_text c → HoldsCertificate bytes c)
    → OnOk r (P d.decisions) → OnOk r ((c : Certificate) → IsCertificate c × (line ≡ certificate_text c)
    → P c.decisions)
tells-read_certificate (Err e) bytes line d P reads holds told = tt
tells-read_certificate (Ok t) bytes line d P reads holds told = λ c spells.
    subst (λ (k : Certificate). P k.decisions)
    (same_Some d c (reads c (holds c spells.0 spells.1))) told

pub none-read : (bytes line : List ℕ) (P : List Decision → Type 0) → Reads bytes None
    → ((c : Certificate) → IsCertificate c → line ≡ certificate_text c → HoldsCertificate bytes c)
    → (c : Certificate) → IsCertificate c × (line ≡ certificate_text c) → P c.decisions
none-read bytes line P reads holds c spells =
    absurd (none-some c (reads c (holds c spells.0 spells.1)))

-- ---- F13, F14, F15

module _ (bytes : List ℕ) (n : ℕ) (f : Fault) (stage : Stage) (next : Piece) (line : FaultyLine bytes n f stage next)
  where
    no-certificate_of : Reads bytes None → ⊥
    no-certificate_of one = let cert = line.certified in
        none-some line.c (one line.c (held-line bytes cert.0 cert.1 line.c cert.2 line.kept.spelled cert.3))

    same-decisions : (d : Certificate) → Reads bytes (Some d) → d.decisions ≡ line.c.decisions
    same-decisions d one = let cert = line.certified in
        ap (λ (k : Certificate). k.decisions)
        (same_Some d line.c (one line.c (held-line bytes cert.0 cert.1 line.c cert.2 line.kept.spelled cert.3)))

no-end_line : (n : ℕ) (c : Certificate) (before : List SectionLine) (l : SectionLine) → None ≡ logged_in (n, l)
    → Keeps c before l fault.End
no-end_line n c before (Logged e) none = absurd (none-some (record { line = n; entry = e }) none)
no-end_line n c before l none = tt

no-misplaced_line : (n : ℕ) (c : Certificate) (before : List SectionLine) (l : SectionLine) → None ≡ logged_in (n, l)
    → Keeps c before l fault.DecisionOrder
no-misplaced_line n c before (Logged e) none = absurd (none-some (record { line = n; entry = e }) none)
no-misplaced_line n c before l none = tt

module _ (bytes : List ℕ) (n : ℕ) (first : FirstFault bytes n fault.End) where
  ended : FaultyLine bytes n fault.End first.stage first.next
  ended = end-line bytes n first

  pub end-certificate : Reads bytes None → ⊥
  end-certificate one = no-certificate_of bytes n fault.End first.stage first.next ended one

  pub end-entry : ((before : List SectionLine) (l : SectionLine) → HasLine bytes n before l → None ≡ logged_in (n, l))
      → ⊥
  end-entry at = ended.broken (no-end_line n ended.c ended.before ended.line (at ended.before ended.line ended.has))

  pub shows-end : {T E : Type 0} (r : Result T E) (section : Section) (d : Certificate) (logged : LoggedEntry)
      (placed : List Placed) (old new : List ℕ)
      → ((before : List SectionLine) (l : SectionLine) → HasLine bytes n before l → IsSectionOf before section)
      → Reads bytes (Some d)
      → ((before : List SectionLine) (l : SectionLine) → HasLine bytes n before l → Some logged ≡ logged_in (n, l))
      → ArePlaced d.decisions placed
      → OnOk r (TellsEnd d.decisions placed section.entries.items logged old new)
      → OnOk r (ShowsAgainstEnd (decisions_before first.stage) (lines_before first.stage) (bytes_of first.next) n
      old new)
  shows-end (Err e) section d logged placed old new are one at is_placed told = tt
  shows-end (Ok t) section d logged placed old new are one at is_placed told =
      let is = are ended.before ended.line ended.has in
      let decisions = same-decisions bytes n fault.End first.stage first.next ended d one in
      let parts = logged-parts n ended.line logged (at ended.before ended.line ended.has) in
      subst (λ s. ShowsAgainstEnd (decisions_before s) (lines_before s) (bytes_of first.next) n old new)
      (sym ended.at) (record {
        logged = logged;
        entry = record { spelled = ap bytes_of ended.comes ∙ ap line_text parts.0; counted = parts.1 };
        placed = placed;
        are = subst (λ ds. ArePlaced ds placed) decisions is_placed;
        told = subst (λ (ls : List LoggedEntry). TellsEnd ended.c.decisions placed ls logged old new) is.entries
            (subst (λ ds. TellsEnd ds placed section.entries.items logged old new) decisions told);
      })

module _ (bytes : List ℕ) (n : ℕ) (first : FirstFault bytes n fault.DecisionOrder) where
  misplaced : FaultyLine bytes n fault.DecisionOrder first.stage first.next
  misplaced = decision-line bytes n first

  pub misplaced-certificate : Reads bytes None → ⊥
  misplaced-certificate one = no-certificate_of bytes n fault.DecisionOrder first.stage first.next misplaced one

  pub misplaced-entry : ((before : List SectionLine) (l : SectionLine) → HasLine bytes n before l
      → None ≡ logged_in (n, l)) → ⊥
  misplaced-entry at =
      misplaced.broken (no-misplaced_line n misplaced.c misplaced.before misplaced.line
      (at misplaced.before misplaced.line misplaced.has))

  pub shows-misplaced : {T E : Type 0} (r : Result T E) (section : Section) (d : Certificate) (logged : LoggedEntry)
      (placed : List Placed) (old new : List ℕ)
      → ((before : List SectionLine) (l : SectionLine) → HasLine bytes n before l → IsSectionOf before section)
      → Reads bytes (Some d)
      → ((before : List SectionLine) (l : SectionLine) → HasLine bytes n before l → Some logged ≡ logged_in (n, l))
      → ArePlaced d.decisions placed
      → ((ds : List Decision) → ArePlaced ds placed → IsOvertaken ds section.entries.items logged
      → OnOk r (TellsDecisionOrder ds section.entries.items logged old new))
      → OnOk r (ShowsMisplaced (decisions_before first.stage) (lines_before first.stage) (bytes_of first.next) n old
      new)
  shows-misplaced r section d logged placed old new are one at is_placed told =
      let is = are misplaced.before misplaced.line misplaced.has in
      let decisions = same-decisions bytes n fault.DecisionOrder first.stage first.next misplaced d one in
      let parts = logged-parts n misplaced.line logged (at misplaced.before misplaced.line misplaced.has) in
      let keeps = λ (f : Fault). λ (k : Keeps misplaced.c misplaced.before misplaced.line f). subst
      (λ (l : SectionLine). Keeps misplaced.c misplaced.before l f) parts.0 k in
      let overtaken = overtaken-by misplaced.c misplaced.before logged (misplaced.kept.itself fault.DecidedTwice)
      (keeps fault.End (misplaced.decided (omega arith)))
      (λ k. misplaced.broken (subst (λ (l : SectionLine). Keeps misplaced.c misplaced.before l fault.DecisionOrder)
      (sym parts.0) k)) in
      on-ok r (λ shown. subst (λ s. ShowsMisplaced (decisions_before s) (lines_before s) (bytes_of first.next) n old
      new) (sym misplaced.at) (record {
        logged = logged;
        entry = record { spelled = ap bytes_of misplaced.comes ∙ ap line_text parts.0; counted = parts.1 };
        told = subst (λ (ls : List LoggedEntry). TellsDecisionOrder misplaced.c.decisions ls logged old new)
            is.entries shown;
      }))
      (told misplaced.c.decisions (subst (λ ds. ArePlaced ds placed) decisions is_placed)
      (subst (λ (ls : List LoggedEntry). IsOvertaken misplaced.c.decisions ls logged) (sym is.entries) overtaken))

module _ (bytes : List ℕ) (n : ℕ) (first : FirstFault bytes n fault.NotEnded) where
  left : FaultyLine bytes n fault.NotEnded first.stage first.next
  left = left-line bytes n first

  pub left-certificate : Reads bytes None → ⊥
  left-certificate one = no-certificate_of bytes n fault.NotEnded first.stage first.next left one

  pub shows-left : {T E : Type 0} (r : Result T E) (section : Section) (d : Certificate) (placed : List Placed)
      (old new : List ℕ)
      → ((before : List SectionLine) (l : SectionLine) → HasLine bytes n before l → IsSectionOf before section)
      → Reads bytes (Some d) → ArePlaced d.decisions placed
      → (All (λ l. IsUndecided d.decisions (tx_of l.entry) → ⊥) section.entries.items
      → (All (λ l. HasEnd section.entries.items (tx_of l.entry)) section.entries.items → ⊥)
      → OnOk r (TellsNotEnded d.decisions section.entries.items (unwrap_or section.site 0) old new))
      → OnOk r (ShowsUnended (decisions_before first.stage) (lines_before first.stage) old new)
  shows-left r section d placed old new are one is_placed told =
      let is = are left.before left.line left.has in
      let decisions = same-decisions bytes n fault.NotEnded first.stage first.next left d one in
      let decided = subst (λ ds. All (λ (l : LoggedEntry). IsUndecided ds (tx_of l.entry) → ⊥) section.entries.items)
      (sym decisions)
      (subst (λ (ls : List LoggedEntry). All (λ (l : LoggedEntry). IsUndecided left.c.decisions (tx_of l.entry)
      → ⊥) ls) (sym is.entries) (all-decided left.second left.c left.before left.kept)) in
      let lacking =
      λ (all : All (λ (l : LoggedEntry). HasEnd section.entries.items (tx_of l.entry)) section.entries.items).
      left.broken
      (ended-kept left.c left.before left.line
      (subst (λ (ls : List LoggedEntry). All (λ (l : LoggedEntry). HasEnd ls (tx_of l.entry)) ls) is.entries all))
      in
      on-ok r (λ shown. subst (λ s. ShowsUnended (decisions_before s) (lines_before s) old new) (sym left.at)
      (subst (λ k. TellsNotEnded left.c.decisions (numbered_entries left.before) k old new)
      (ap (λ o. unwrap_or o 0) is.site)
      (subst (λ (ls : List LoggedEntry). TellsNotEnded left.c.decisions ls (unwrap_or section.site 0) old new)
      is.entries
      (subst (λ ds. TellsNotEnded ds section.entries.items (unwrap_or section.site 0) old new) decisions shown))))
      (told decided lacking)
