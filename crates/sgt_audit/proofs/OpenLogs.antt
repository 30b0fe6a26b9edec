-- The log that the lines read so far have open.
use Rattle.std.proofs.Common.{◌≡◌, ℕ, suc, ◌-◌, List, [], ◌∷◌, ◌++◌, length, take, Some, None, sym, ap, ◌∙◌, subst, arith, append_assoc}
use Rattle.std.specs.Prelude.{slice_get}
use Rattle.std.specs.List.{last_or}
use Rattle.std.proofs.lemmas.List.{append-nil, take_all}
use Rattle.std.proofs.lemmas.Option.{none-some, slice_get_within}
use Rattle.sgt_names.specs.declared.entry.Entry.{Entry}
use Rattle.sgt_names.proofs.Places.{take-next}
use Rattle.sgt_notation.specs.declared.SectionLine.{SectionLine}
use Rattle.sgt_notation.specs.declared.SectionLine.TheVariants.{Site, Initial, Logged, Final, End}
use Rattle.sgt_bundle.specs.Text.{Begins, section_lines, sections_from}
use Rattle.sgt_bundle.specs.declared.certificate.Certificate.{Certificate}
use Rattle.sgt_bundle.specs.declared.bundle.SiteLog.{SiteLog}
use Rattle.sgt_audit.specs.Faults.{Keeps}
use Rattle.sgt_audit.specs.private.Judging.{HasOpen, KeptBelow}
use Rattle.sgt_audit.specs.Reading.{Begun, lines_read, open_lines}
use Rattle.sgt_audit.specs.private.Following.{Fits, MayFollow, FitsBetween}
use Rattle.sgt_audit.proofs.SectionLines.{items_in-is, entries_in-is, last_logged, up_to}
use Rattle.sgt_audit.proofs.LinePlaces.{last-logged, IsClosed, section-closed}
use Rattle.sgt_audit.proofs.MayFollow.{begins-follow}
use Rattle.sgt_audit.proofs.Least.{site-kept}

last-place : (entries : List Entry) (m : ℕ) (g : Entry) → slice_get entries m ≡ Some g → length entries ≡ suc m
    → slice_get entries (length entries - 1) ≡ Some g
last-place entries m g at len = ap (slice_get entries) (omega arith) ∙ at

last-whole : (entries : List Entry) (g : Entry) → slice_get entries (length entries - 1) ≡ Some g
    → entries ≡ take (length entries - 1) entries ++ g ∷ []
last-whole entries g at =
    let within = slice_get_within entries (length entries - 1) g at in
    sym (take_all (suc (length entries - 1)) entries (omega arith)) ∙ take-next entries (length entries - 1) g at

pub has_open : (b : Begun) (log : SiteLog) → b.current ≡ Some log → HasOpen (lines_read b) log
has_open b log here =
    let front = sections_from 0 b.whole in
    let k = length b.whole in
    subst (λ o. HasOpen (front ++ open_lines k o) log) (sym here) (record {
      items = items_in-is front k log.items log.entries log.finals;
      entries = entries_in-is front k log.items log.entries log.finals;
      last = λ f last. let l = last-logged front k log.items log.entries log.finals f last in
          (l.0, last-place log.entries l.1.0 f l.1.1 l.1.2);
      entry_last = λ f none at.
          subst (λ fs. last_or None (up_to front k log.items log.entries fs) ≡ Some (Logged f)) (sym none)
          (subst (λ es. last_or None (up_to front k log.items es []) ≡ Some (Logged f))
          (sym (last-whole log.entries f at))
          (last_logged front k log.items (take (length log.entries - 1) log.entries) f));
    })

-- no entry is open between sections
pub whole-closed : (k : ℕ) (front : List SectionLine) (logs : List SiteLog) → IsClosed front
    → IsClosed (front ++ sections_from k logs)
whole-closed k front [] closed = subst IsClosed (sym (append-nil front)) closed
whole-closed k front (l ∷ logs) closed =
    subst IsClosed (append_assoc front (section_lines k l) (sections_from (suc k) logs))
    (whole-closed (suc k) (front ++ section_lines k l) logs (section-closed front k l))

between-closed : (b : Begun) → b.current ≡ None → IsClosed (lines_read b)
between-closed b none = subst (λ o. IsClosed (sections_from 0 b.whole ++ open_lines (length b.whole) o)) (sym none)
    (subst IsClosed (sym (append-nil (sections_from 0 b.whole)))
    (whole-closed 0 [] b.whole (λ e h. none-some (Logged e) h)))

between-kept : (c : Certificate) (b : Begun) (line : SectionLine) → FitsBetween b line → IsClosed (lines_read b)
    → Begins c.sites (lines_read b ++ line ∷ []) → KeptBelow (Keeps c (lines_read b) line) 17
between-kept c b (Site k) f closed begins = site-kept c (lines_read b) k closed begins
between-kept c b (Initial h) f closed begins = absurd f
between-kept c b (Logged h) f closed begins = absurd f
between-kept c b (Final h) f closed begins = absurd f
between-kept c b End f closed begins = absurd f

-- a line between sections
pub kept-between : (c : Certificate) (b : Begun) (line : SectionLine) → c.sites ≡ b.sites → b.current ≡ None
    → Begins b.sites (lines_read b ++ line ∷ []) → KeptBelow (Keeps c (lines_read b) line) 17
kept-between c b line same none begins =
    between-kept c b line (subst (λ o. MayFollow b o line) none (begins-follow b line begins)) (between-closed b none)
    (subst (λ n. Begins n (lines_read b ++ line ∷ [])) (sym same) begins)

-- what may stand in the open section
pub fits-open : (b : Begun) (log : SiteLog) (line : SectionLine) → b.current ≡ Some log
    → Begins b.sites (lines_read b ++ line ∷ []) → Fits log line
fits-open b log line here begins = subst (λ o. MayFollow b o line) here (begins-follow b line begins)
