-- The sites that a talk begins with: one more of them is taken, or more is read.
use Rattle.std.proofs.Common.{◌≡◌, ◌≢◌, ◌⊎◌, ◌+◌, ◌==◌, ℕ, Bool, true, false, not, List, [], ◌∷◌, ◌++◌, length, map, take, drop, refl, sym, ◌∙◌, ap, subst, inl, inr, Option, Some, None, Result, Ok, Err}
use Rattle.std.proofs.lemmas.List.{append-nil}
use Rattle.sgt_notation.specs.Events.{IsEventLine, IsSiteLine, event_text, site_text}
use Rattle.sgt_notation.specs.Reading.{SpellsNone}
use Rattle.sgt_notation.specs.Spelling.{text_of_lines}
use Rattle.sgt_notation.specs.declared.event.SiteLine.{SiteLine}
use Rattle.sgt_notation.specs.declared.fault.NotationFault.TheVariants.{NotALine, TooLong, Memory}
use Rattle.sgt_input.specs.Sites.{TakesSite}
use Rattle.sgt_input.proofs.SitedLines.{took-site}
use Rattle.sgt_input.proofs.SiteLines.{empty_when, filled_when}
use Rattle.sgt_core.specs.Input.{IsBegun}
use Rattle.sgt_core.proofs.OneInput.{events-kind}
use Rattle.sgt_pipe.specs.Fronts.{IsLineOf, IsPart}
use Rattle.sgt_pipe.specs.declared.history.History.{History}
use Rattle.sgt_serve.specs.declared.opening.Opened.{Opened}
use Rattle.sgt_serve.specs.declared.opening.Opened.TheVariants.{Begun, Ended, Unreadable}
use Rattle.sgt_serve.specs.declared.fail.ServeFail.{ServeFail}
use Rattle.sgt_serve.specs.declared.fail.ServeFail.TheVariants as fail
use Rattle.sgt_courses.specs.Course.{cut_line}
use Rattle.sgt_serve.specs.Ended.{IsMisplaced}
use Rattle.sgt_serve.specs.Talk.{AreAnswered, IsAnswered, IsTalk, Talk, asked_text, starting}
use Rattle.sgt_serve.specs.private.Opening.{Asks, HasSites, OpensOn, ReadsFront, TakesNext}
use Rattle.sgt_serve.proofs.Talks.{waited}
use Rattle.sgt_names.proofs.Elements.{map-push}
use Rattle.sgt_notation.proofs.Texts.{text-one_line}

-- a talk that has its sites, and no turn
abbrev pub opened : List SiteLine → Talk
opened sites = record { sites = sites; turns = []; bundles = []; last = starting sites }

pub is_opened : (sites : List SiteLine) → IsBegun (record { sites = sites; events = [] }) → IsTalk (opened sites)
is_opened sites begun = record { sites = begun; some = λ none. refl; starts = tt; course = (refl, refl) }

pub opened_text : (sites : List SiteLine) → asked_text (opened sites) ≡ text_of_lines (map site_text sites)
opened_text sites = ap text_of_lines (append-nil (map site_text sites))

pub opened_given : (sites : List SiteLine) (history : History) (held : List ℕ) → HasSites sites history held
    → history.given ≡ asked_text (opened sites) ++ held
opened_given sites history held h = h.given ∙ ap (λ (t : List ℕ). t ++ held) (sym (opened_text sites))

front_answered : (sites : List SiteLine) (history : History) (held : List ℕ) → IsPart held
    → HasSites sites history held → IsAnswered history.given history.written
front_answered sites history held part h = record {
  talk = opened sites;
  is = is_opened sites h.begun;
  rest = held;
  part = part.none;
  asked = opened_given sites history held h;
  told = h.written;
}

-- ---- a line

pub next_misplaced : (n : ℕ) (sites sites' : List SiteLine) (held line : List ℕ) → line ≡ take n held
    → TakesSite sites line sites' false
    → (sites' ≡ []) ⊎ ((line ≢ cut_line) × SpellsNone IsEventLine event_text line)
    → TakesNext n sites sites' held held (Some (Unreadable NotALine))
next_misplaced n sites sites' held line same (none, kept) (inl empty) = (
  subst (IsMisplaced sites) same (record {
    site = none;
    event = λ some. absurd (some (sym kept ∙ empty));
    cut = λ some. absurd (some (sym kept ∙ empty));
  }),
  kept,
  refl,
)
next_misplaced n sites sites' held line same (none, kept) (inr neither) = (
  subst (IsMisplaced sites) same (record {
    site = none;
    event = λ some. neither.1;
    cut = λ some. neither.0;
  }),
  kept,
  refl,
)

site_more : (n : ℕ) (sites sites' : List SiteLine) (history : History) (held held' : List ℕ) → IsLineOf held n
    → HasSites sites history held
    → TakesNext n sites sites' held held' None → HasSites sites' history held'
site_more n sites sites' history held held' line h (l, is, number, text, more, left) = record {
  begun = (took-site events-kind (record { sites = sites; events = [] }) (record { sites = sites'; events = [] })
      (take n held) refl refl (l, is, number, text, more) h.begun).0;
  given = h.given ∙ (ap (λ (t : List ℕ). text_of_lines (map site_text sites) ++ t) line.text
      ∙ (sym (text-one_line (map site_text sites) (take n held) (drop (n + 1) held))
      ∙ (ap (λ (t : List ℕ). text_of_lines (map site_text sites ++ t ∷ []) ++ drop (n + 1) held) text
      ∙ (ap (λ (ts : List (List ℕ)). text_of_lines ts ++ drop (n + 1) held) (sym (map-push site_text sites l))
      ∙ (ap (λ (ss : List SiteLine). text_of_lines (map site_text ss) ++ drop (n + 1) held) (sym more)
      ∙ ap (λ (t : List ℕ). text_of_lines (map site_text sites') ++ t) (sym left))))));
  written = h.written;
  answered = h.answered;
}

has_same : (sites sites' : List SiteLine) (history : History) (held held' : List ℕ) → sites' ≡ sites → held' ≡ held
    → HasSites sites history held → HasSites sites' history held'
has_same sites sites' history held held' same left h =
    subst (λ (ss : List SiteLine). HasSites ss history held') (sym same)
    (subst (λ (t : List ℕ). HasSites sites history t) (sym left) h)

pub opens_line : (o : Option Opened) (at : Option (List ℕ)) (n : ℕ) (sites sites' : List SiteLine) (history : History)
    (held held' : List ℕ) → IsLineOf held n → HasSites sites history held
    → TakesNext n sites sites' held held' o → OpensOn (Ok o) at sites' history held'
opens_line None at n sites sites' history held held' line h takes =
    site_more n sites sites' history held held' line h takes
opens_line (Some (Begun m)) at n sites sites' history held held' line h (number, some, asks, same, left) = (
  has_same sites sites' history held held' same left h,
  (λ e. some (sym same ∙ e)),
  subst (λ (k : ℕ). IsLineOf held' k) (sym number) (subst (λ (t : List ℕ). IsLineOf t n) (sym left) line),
  subst (λ (k : ℕ). Asks (take k held')) (sym number) (subst (λ (t : List ℕ). Asks (take n t)) (sym left) asks),
)
opens_line (Some Ended) at n sites sites' history held held' line h takes = absurd takes
opens_line (Some (Unreadable NotALine)) at n sites sites' history held held' line h (misplaced, same, left) = (
  has_same sites sites' history held held' same left h,
  inl (
    n,
    subst (λ (t : List ℕ). IsLineOf t n) (sym left) line,
    subst (λ (ss : List SiteLine). IsMisplaced ss (take n held')) (sym same)
        (subst (λ (t : List ℕ). IsMisplaced sites (take n t)) (sym left) misplaced),
  ),
)
opens_line (Some (Unreadable TooLong)) at n sites sites' history held held' line h takes = absurd takes
opens_line (Some (Unreadable Memory)) at n sites sites' history held held' line h takes = absurd takes

-- ---- more is read

front_waited : (sites : List SiteLine) (held : List ℕ) (old new : History) → IsPart held → HasSites sites old held
    → (new.waits ≡ old.waits) ⊎ (new.waits ≡ old.waits ++ (old.given, old.written) ∷ []) → AreAnswered new.waits
front_waited sites held old new part h waits = waited old new h.answered (front_answered sites old held part h) waits

kept_sites : (sites : List SiteLine) (held held' : List ℕ) (old new : History) → IsPart held → HasSites sites old held
    → new.written ≡ old.written
    → (new.waits ≡ old.waits) ⊎ (new.waits ≡ old.waits ++ (old.given, old.written) ∷ [])
    → new.given ≡ text_of_lines (map site_text sites) ++ held' → HasSites sites new held'
kept_sites sites held held' old new part h written waits given = record {
  begun = h.begun;
  given = given;
  written = written ∙ h.written;
  answered = front_waited sites held old new part h waits;
}

same_sites : (sites : List SiteLine) (held held' : List ℕ) (old new : History) → IsPart held → HasSites sites old held
    → new.written ≡ old.written
    → (new.waits ≡ old.waits) ⊎ (new.waits ≡ old.waits ++ (old.given, old.written) ∷ []) → held' ≡ held
    → new.given ≡ old.given → HasSites sites new held'
same_sites sites held held' old new part h written waits left given =
    kept_sites sites held held' old new part h written waits (given
    ∙ (h.given ∙ ap (λ (t : List ℕ). text_of_lines (map site_text sites) ++ t) (sym left)))

empty_sites : (sites : List SiteLine) (any : Bool) → (sites ≢ [] → any ≡ true) → (any ≡ true → ⊥) → sites ≡ []
empty_sites [] any tells not = refl
empty_sites (s ∷ sites) any tells not = absurd (not (tells (λ e. cc)))

pub opens_read : (r : Result (Option Opened) ServeFail) (any : Bool) (at : Option (List ℕ)) (sites : List SiteLine)
    (held held' : List ℕ) (old new : History) → HasSites sites old held → IsPart held
    → (any ≡ true → sites ≢ []) → (sites ≢ [] → any ≡ true) → ReadsFront r any at held held' old new
    → OpensOn r at sites new held'
opens_read (Ok None) any at sites held held' old new h part filled tells ((bytes, more, given), written, waits) =
    kept_sites sites held held' old new part h written waits
    (given ∙ (ap (λ (t : List ℕ). t ++ bytes) h.given
    ∙ (Rattle.std.proofs.Common.append_assoc (text_of_lines (map site_text sites)) held bytes
    ∙ ap (λ (t : List ℕ). text_of_lines (map site_text sites) ++ t) (sym more))))
opens_read (Ok (Some (Begun n))) any at sites held held' old new h part filled tells (reads, written, waits) =
    absurd reads
opens_read (Ok (Some Ended)) any at sites held held' old new h part filled tells (
  (none, is, empty, left, given),
  written,
  waits,
) =
    (none, same_sites sites held held' old new part h written waits left given, filled is, left ∙ empty)
opens_read (Ok (Some (Unreadable NotALine))) any at sites held held' old new h part filled tells
    ((none, not, left, given), written, waits) = (
      same_sites sites held held' old new part h written waits left given,
      inr (none, subst IsPart (sym left) part, λ empty. empty_sites sites any tells (not (sym left ∙ empty))),
    )
opens_read (Ok (Some (Unreadable TooLong))) any at sites held held' old new h part filled tells (
  reads,
  written,
  waits,
) = absurd reads
opens_read (Ok (Some (Unreadable Memory))) any at sites held held' old new h part filled tells (
  reads,
  written,
  waits,
) = absurd reads
opens_read (Err (fail.ReadFault l)) any at sites held held' old new h part filled tells (
  (none, left, given),
  written,
  waits,
) =
    (none, same_sites sites held held' old new part h written waits left given, subst IsPart (sym left) part)
opens_read (Err fail.Memory) any at sites held held' old new h part filled tells (reads, written, waits) = absurd reads
opens_read (Err (fail.WriteFault l)) any at sites held held' old new h part filled tells (reads, written, waits) =
    absurd reads
opens_read (Err fail.BundleFault) any at sites held held' old new h part filled tells (reads, written, waits) =
    absurd reads

-- nothing was taken
pub no_sites : (sites : List SiteLine) (history : History) (held : List ℕ) → sites ≡ [] → held ≡ []
    → history.given ≡ [] → history.written ≡ [] → history.waits ≡ []
    → HasSites sites history held
no_sites sites history held none empty given written waits = has_same [] sites history [] held none empty (record {
  begun = record {
    few = Rattle.std.proofs.Common.lit≤ tt;
    numbered = refl;
    each =
        Rattle.std.proofs.lemmas.List.Elements.All-nil IsSiteLine;
    events =
        Rattle.std.proofs.lemmas.List.Elements.All-nil IsEventLine;
    first = λ e. refl;
  };
  given = given;
  written = written;
  answered =
      subst AreAnswered (sym waits)
      (Rattle.std.proofs.lemmas.List.Elements.All-nil (λ (w : List ℕ × List ℕ). IsAnswered w.0 w.1));
})

pub opens_none : (o : Option Opened) (at : Option (List ℕ)) (sites : List SiteLine) (history : History)
    (held : List ℕ) → ((x : Opened) → o ≡ Some x → ⊥) → OpensOn (Ok o) at sites history held
    → HasSites sites history held
opens_none None at sites history held not p = p
opens_none (Some x) at sites history held not p = absurd (not x refl)

-- whether there are sites, as a test tells it
pub any_filled : (sites : List SiteLine) (n : ℕ) (empty : Bool) → length sites ≡ n → empty ≡ (n == 0)
    → not empty ≡ true → sites ≢ []
any_filled sites n true size e any = absurd cc
any_filled sites n false size e any = filled_when sites n size e

pub filled_any : (sites : List SiteLine) (n : ℕ) (empty : Bool) → length sites ≡ n → empty ≡ (n == 0) → sites ≢ []
    → not empty ≡ true
filled_any sites n true size e some = absurd (some (empty_when sites n size e))
filled_any sites n false size e some = refl
