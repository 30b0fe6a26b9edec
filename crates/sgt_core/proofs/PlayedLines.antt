-- The run of an input, line by line.
use Rattle.std.proofs.Common.{◌≡◌, ◌≢◌, ℕ, ◌-◌, ◌≤◌, true, false, List, [], ◌∷◌, ◌++◌, length, take, drop, Option, Some, None, IfSome, append_assoc, refl, sym, ap, ◌∙◌, subst, arith}
use Rattle.std.proofs.lemmas.List.{length-append, length-take-le, take-append-drop, take_at}
use Rattle.std.specs.Prelude.{Bool, Result, Ok, Err, IfOk, map}
use Rattle.sgt_names.specs.declared.outcome.Outcome.{Outcome}
use Rattle.sgt_names.specs.declared.outcome.Outcome.TheVariants as outcome
use Rattle.sgt_notation.specs.Events.{IsEventLine, IsSiteLine, event_text, site_text}
use Rattle.sgt_notation.specs.declared.event.EventLine.{EventLine}
use Rattle.sgt_notation.specs.declared.event.SiteLine.{SiteLine}
use Rattle.sgt_notation.proofs.OneEvent.{event-no_lf, event-short}
use Rattle.sgt_core_model.specs.Core.{fresh}
use Rattle.sgt_core_machine.specs.Machine.{Parts, StandsFor}
use Rattle.sgt_input.specs.Stopping.{IsTaken}
use Rattle.sgt_input.specs.Taking.{TakesFront, TakesLine}
use Rattle.sgt_input.proofs.Keeping.{took-line}
use Rattle.sgt_input.proofs.SitedLines.{nothing-kept, whole-input}
use Rattle.sgt_core.specs.declared.input.Input.{Input}
use Rattle.sgt_core.specs.Input.{Begins, IsBegun, IsInput, Spells, input_lines}
use Rattle.sgt_core.specs.Replay.{IsAnswer, IsRunText}
use Rattle.sgt_core.specs.private.Playing.{AnswersEvent, HasPlayed, IsCoreAtEnd, IsOpening, IsPlayed, PlaysOn}
use Rattle.sgt_core.specs.private.Running.{WritesReplies}
use Rattle.sgt_core.specs.private.Taking.{HaveLines}
use Rattle.sgt_core.proofs.OneInput.{events-kind, took-event, took-none}
use Rattle.sgt_core.proofs.Running.{replies-none, replies-then}

-- nothing was played yet
pub none-played : (sites : List SiteLine) (core : Option Parts) (text : List ℕ) → sites ≡ [] → core ≡ None → text ≡ []
    → HasPlayed sites core text []
none-played sites None text none idle empty = (
  record { sites = sites; events = [] },
  nothing-kept events-kind (record { sites = sites; events = [] }) none refl,
  (refl, refl, empty),
)
none-played sites (Some core) text none idle empty = absurd cc

-- where there was no event the sites are kept, and nothing is written
pub idle-lines : (sites : List SiteLine) (core : Option Parts) (text : List ℕ) (lines : List (List ℕ)) → core ≡ None
    → HasPlayed sites core text lines
    → HaveLines (record { sites = sites; events = [] }) lines × (text ≡ [])
idle-lines sites None text lines idle (input, have, played) =
    let same : input ≡ record { sites = sites; events = [] } =
    λ t. record { sites = played.0 t; events = played.1 t } in
    (subst (λ (i : Input). HaveLines i lines) same have, played.2)
idle-lines sites (Some core) text lines idle p = absurd cc

pushed-some : (es : List EventLine) (e : EventLine) → es ++ e ∷ [] ≡ [] → ⊥
pushed-some [] e same = absurd cc
pushed-some (x ∷ es) e same = absurd cc

-- one event more is answered
pub event-played : {E : Type 0} (r : Result Bool E) (input : Input) (sites : List SiteLine) (old new : Parts)
    (line text written : List ℕ)
    → IsPlayed input sites (Some old) text → IfOk r (AnswersEvent old line new text written)
    → IfOk r (PlaysOn input line sites (Some new) written)
event-played (Err e) input sites old new line text written played answers = tt
event-played (Ok true) input sites old new line text written (some, filled, m, stands, writes) (
  e,
  is,
  spelled,
  more,
) = (
  record { sites = input.sites; events = input.events ++ e ∷ [] },
  took-event input (record { sites = input.sites; events = input.events ++ e ∷ [] }) line some refl (
    e,
    is,
    spelled,
    refl,
  ),
  (
    some,
    pushed-some input.events e,
    m,
    stands,
    replies-then m old new input.events (e ∷ []) [] text written writes more,
  ),
)
event-played (Ok false) input sites old new line text written (some, filled, m, stands, writes) none =
    took-none input line (λ empty. absurd (filled empty)) (λ _. none)

-- the first event is answered, by a core that was opened over the sites
pub first-played : {E : Type 0} (r : Result Bool E) (sites left : List SiteLine) (opened new : Parts)
    (line written : List ℕ) → sites ≢ []
    → ((l : SiteLine) → IsSiteLine l → l.site ≡ length sites → line ≢ site_text l)
    → StandsFor opened (fresh (map (λ l. l.items) sites)) → IfOk r (AnswersEvent opened line new [] written)
    → IfOk r (PlaysOn (record { sites = sites; events = [] }) line left (Some new) written)
first-played (Err e) sites left opened new line written some no_site stands answers = tt
first-played (Ok true) sites left opened new line written some no_site stands (e, is, spelled, more) =
    let old : Input = record { sites = sites; events = [] } in
    let next : Input = record { sites = sites; events = e ∷ [] } in (
      next,
      took-event old next line some refl (e, is, spelled, refl),
      (some, (λ same. absurd cc), opened, stands, more),
    )
first-played (Ok false) sites left opened new line written some no_site stands none =
    took-none (record { sites = sites; events = [] }) line (λ _. no_site) (λ _. none)

-- what was played with one line more
pub line-played : {E : Type 0} (r : Result Bool E) (old : Input) (sites : List SiteLine) (core : Option Parts)
    (written line : List ℕ) (lines : List (List ℕ))
    → HaveLines old lines → IfOk r (PlaysOn old line sites core written)
    → IfOk r (TakesLine Begins (HasPlayed sites core written) lines line)
line-played (Err e) old sites core written line lines have plays = tt
line-played (Ok true) old sites core written line lines have (new, takes, played) =
    let on = took-line IsBegun input_lines {E = ℕ} (Ok true) old new lines line have takes in
    (on.0, (new, on.1, played))
line-played (Ok false) old sites core written line lines have takes =
    took-line IsBegun input_lines {E = ℕ} (Ok false) old old lines line have takes

-- the line in front of the LF at the end of these bytes
pub front-line : (line held : List ℕ) (n : ℕ) → n ≤ length held → take n held ≡ line ++ 10 ∷ []
    → take (n - 1) held ≡ line
front-line line held n within front =
    let size : length line ≡ n - 1 =
    omega (arith, ap length front, length-take-le n held within, length-append line (10 ∷ [])) in
    let text : held ≡ line ++ 10 ∷ drop n held =
    sym (take-append-drop n held) ∙ ap (λ (t : List ℕ). t ++ drop n held) front
    ∙ append_assoc line (10 ∷ []) (drop n held) in
    ap (λ (t : List ℕ). take (n - 1) t) text ∙ take_at line (10 ∷ drop n held) (n - 1) size

-- the event whose line stands at the front is answered
pub front-played : (e : EventLine) (input : Input) (sites : List SiteLine) (old new : Parts)
    (held text written : List ℕ) (lines : List (List ℕ)) (n : ℕ)
    → HaveLines input lines → IsPlayed input sites (Some old) text → IsEventLine e → n ≤ length held
    → take n held ≡ event_text e ++ 10 ∷ []
    → WritesReplies old (e ∷ []) new text written
    → TakesFront Begins (HasPlayed sites (Some new) written) lines held (Some n)
front-played e input sites old new held text written lines n have played is within front more =
    let line = event_text e in
    let plays = event-played {E = ℕ} (Ok true) input sites old new line text written played (e, is, refl, more) in
    let on = line-played {E = ℕ} (Ok true) input sites (Some new) written line lines have plays in
    let short = event-short e is in
    (line, within, front, event-no_lf e is, omega (arith, short), on.0, on.1)

-- ---- the end

-- a core can be opened over the sites of an input that begins so
pub begun-opening : (input : Input) → IsBegun input → input.sites ≢ [] → IsOpening input.sites
begun-opening input is some = record { some = by input.sites some; few = is.few; each = is.each }
  where
    by : (ss : List SiteLine) → ss ≢ [] → 1 ≤ length ss
    by [] some = absurd (some refl)
    by (s ∷ ss) some = omega arith

pub none-opening : (input : Input) (sites : List SiteLine) (core : Option Parts) (text : List ℕ) → IsInput input
    → IsPlayed input sites core text
    → core ≡ None → IsOpening sites
none-opening input sites None text is played none = subst IsOpening played.0 (begun-opening input is.0 is.1)
none-opening input sites (Some core) text is played none = absurd cc

-- the run of the input, with the core that it ends with
pub played-run : (input : Input) (sites : List SiteLine) (core : Option Parts) (last : Parts) (text : List ℕ)
    → IsPlayed input sites core text
    → IsCoreAtEnd core sites last → (m : Parts) × StandsFor m (fresh (map (λ l. l.items) input.sites))
    × WritesReplies m input.events last [] text
played-run input sites None last text (same, none, empty) stands = (
  last,
  subst (λ ss. StandsFor last (fresh (map (λ l. l.items) ss))) (sym same) stands,
  subst (λ (es : List EventLine). WritesReplies last es last [] text) (sym none)
      (subst (λ (t : List ℕ). WritesReplies last [] last [] t) (sym empty) (replies-none last [])),
)
played-run input sites (Some old) last text (some, filled, m, stands, writes) same =
    (m, stands, subst (λ (n : Parts). WritesReplies m input.events n [] text) (sym same) writes)

-- the lines that were taken are those of an input
pub taken-input : (sites : List SiteLine) (core : Option Parts) (text : List ℕ) (told : Option (List ℕ))
    → IsTaken Begins (HasPlayed sites core text) told
    → (input : Input) × IsInput input × IsPlayed input sites core text × IfSome told (λ bytes. Spells bytes input)
taken-input sites core text told taken =
    let (input, have, played) = taken.taken in
    let whole = whole-input events-kind input taken.lines told have.0 have.1 taken.some taken.text in
    (input, whole.0, played, whole.1)

pub run-answers : (told : Option (List ℕ)) (o : Outcome) (text : List ℕ) (input : Input)
    → IfSome told (λ bytes. Spells bytes input) → IsRunText input o text
    → IsAnswer told o text
run-answers told outcome.Yes text input spells run = (input, spells, run)
run-answers told outcome.No text input spells run = (input, spells, run)
run-answers told outcome.Unreadable text input spells run = absurd run.ends
