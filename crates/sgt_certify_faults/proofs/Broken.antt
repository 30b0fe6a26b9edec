-- What is broken behind lines that were read, and what is kept.
use Rattle.std.proofs.Common.{◌≡◌, ℕ, ◌<◌, ◌≤◌, Bool, true, List, [], ◌∷◌, ◌++◌, length, Option, Some, None, refl, sym, ap, ◌∙◌, subst, arith}
use Rattle.sgt_names.specs.Limits.{max_line, max_sites}
use Rattle.sgt_notation.specs.Spelling.{line_text}
use Rattle.sgt_notation.proofs.OneSpelling.{line-one}
use Rattle.sgt_notation.proofs.Short.{line-short}
use Rattle.sgt_notation.specs.declared.SectionLine.{SectionLine}
use Rattle.sgt_notation.specs.declared.SectionLine.TheVariants.{Site, Initial, Logged, Final, End}
use Rattle.sgt_bundle.specs.Text.{AreSections, Begins}
use Rattle.sgt_bundle.specs.declared.bundle.SiteLog.{SiteLog}
use Rattle.sgt_audit.specs.declared.faults.Fault.{Fault}
use Rattle.sgt_audit.specs.declared.faults.Fault.TheVariants as fault
use Rattle.sgt_audit.specs.Faults.{Breaks, IsLineIn, Piece, bytes_of, fault_number, whole, last}
use Rattle.sgt_audit.specs.Reading.{Begun, HasRoomFor, IsBegun, lines_read}
use Rattle.sgt_audit.specs.private.Following.{MayFollow}
use Rattle.sgt_audit.proofs.MayFollow.{begins-follow, follow-decides, sections-whole, whole-sections}
use Rattle.sgt_certify_faults.specs.Faults.{AreAll, KeepsAlone, RuleAlone, RuleWithin, behind}

-- ---- which sections may begin so

follow-count : (b : Begun) (current : Option SiteLog) (line : SectionLine) (count : ℕ)
    → MayFollow (record b { sites = count }) current line → count ≤ max_sites → b.sites ≡ max_sites
    → MayFollow b current line
follow-count b None (Site k) count f few all = (f.0, omega (arith, f.1, few, all))
follow-count b None (Initial h) count f few all = absurd f
follow-count b None (Logged e) count f few all = absurd f
follow-count b None (Final h) count f few all = absurd f
follow-count b None End count f few all = absurd f
follow-count b (Some log) line count f few all = f

-- a line that goes on with sections of some number of sites may stand next
pub follows-some : (b : Begun) (line : SectionLine) → b.sites ≡ max_sites
    → KeepsAlone (lines_read b) line fault.Section → MayFollow b b.current line
follows-some b line all (count, begins) =
    follow-count b b.current line count (begins-follow (record b { sites = count }) line begins) begins.2.few all

pub all-read : (b : Begun) → IsBegun b → b.sites ≡ max_sites → b.current ≡ None → length b.whole ≡ max_sites
    → AreAll (lines_read b)
all-read b begun all none full =
    subst (λ n. AreSections n (lines_read b)) all (whole-sections b begun none (full ∙ sym all))

-- sections that are whole are one at least
pub some-sections : (b : Begun) (count : ℕ) → AreSections count (lines_read b)
    → (b.current ≡ None) × (1 ≤ length b.whole)
some-sections b count (logs, shaped, all) =
    let same = sections-whole b logs all in
    (same.0, omega (arith, shaped.some, shaped.each, ap length same.1))

-- ---- the rule of a line that was read

no-trailing : (before : List SectionLine) (line : SectionLine) → KeepsAlone before line fault.Trailing
no-trailing before (Site k) = tt
no-trailing before (Initial h) = tt
no-trailing before (Logged e) = tt
no-trailing before (Final h) = tt
no-trailing before End = tt

no-notation : (before : List SectionLine) (line : SectionLine) → KeepsAlone before line fault.Notation
no-notation before (Site k) = tt
no-notation before (Initial h) = tt
no-notation before (Logged e) = tt
no-notation before (Final h) = tt
no-notation before End = tt

pub rule-read : (second : Bool) (before : List SectionLine) (line : SectionLine) (f : Fault) → IsLineIn second line
    → (AreAll before → ⊥) → RuleAlone (behind second before) (whole (line_text line)) f → KeepsAlone before line f
rule-read second before line fault.Trailing is open_yet rule = no-trailing before line
rule-read second before line fault.Notation is open_yet rule = no-notation before line
rule-read second before line f is open_yet rule = rule open_yet line is refl

-- ---- the least fault of a line

below-section : (before : List SectionLine) (line : SectionLine) (f : Fault) → fault_number f < 7
    → KeepsAlone before line f
below-section before (Site k) fault.Section lt = absurd (omega arith)
below-section before (Site k) fault.Block lt = absurd (omega arith)
below-section before (Site k) _ lt = tt
below-section before (Initial h) fault.Section lt = absurd (omega arith)
below-section before (Initial h) fault.Block lt = absurd (omega arith)
below-section before (Initial h) _ lt = tt
below-section before (Logged e) fault.Section lt = absurd (omega arith)
below-section before (Logged e) fault.Item lt = absurd (omega arith)
below-section before (Logged e) fault.Twice lt = absurd (omega arith)
below-section before (Logged e) fault.ReadValue lt = absurd (omega arith)
below-section before (Logged e) fault.RankOrder lt = absurd (omega arith)
below-section before (Logged e) fault.Block lt = absurd (omega arith)
below-section before (Logged e) fault.End lt = absurd (omega arith)
below-section before (Logged e) fault.DecisionOrder lt = absurd (omega arith)
below-section before (Logged e) _ lt = tt
below-section before (Final h) fault.Section lt = absurd (omega arith)
below-section before (Final h) fault.Block lt = absurd (omega arith)
below-section before (Final h) fault.NotEnded lt = absurd (omega arith)
below-section before (Final h) fault.Final lt = absurd (omega arith)
below-section before (Final h) _ lt = tt
below-section before End fault.Section lt = absurd (omega arith)
below-section before End fault.Block lt = absurd (omega arith)
below-section before End fault.NotEnded lt = absurd (omega arith)
below-section before End fault.WalkStep lt = absurd (omega arith)
below-section before End _ lt = tt

-- what goes on with some sections goes on with all that there can be
pub begins-all : (b : Begun) (line : SectionLine) → IsBegun b → b.sites ≡ max_sites
    → KeepsAlone (lines_read b) line fault.Section → Begins b.sites (lines_read b ++ line ∷ [])
begins-all b line begun sites keeps =
    (follow-decides b begun line true (λ _. follows-some b line sites keeps, λ _. refl)).0 refl

-- ---- what comes next

-- the least fault of a line of the format is that of what comes next
pub line-broken : (second : Bool) (before : List SectionLine) (line : SectionLine) (f : Fault) → IsLineIn second line
    → (AreAll before → ⊥) → Breaks (KeepsAlone before line) f
    → Breaks (RuleAlone (behind second before) (whole (line_text line))) f
line-broken second before line f is open_yet breaks = record {
  broken = λ rule. breaks.broken (rule-read second before line f is open_yet rule);
  least = λ g lt. rule-of g (breaks.least g lt);
}
  where
    rule-of : (g : Fault) → KeepsAlone before line g → RuleAlone (behind second before) (whole (line_text line)) g
    rule-of fault.Trailing keeps = λ all. absurd (open_yet all)
    rule-of fault.Notation keeps = λ open_one. (line, is, refl)
    rule-of g keeps = λ open_one m m-is e. subst (λ k. KeepsAlone before k g) (line-one line m is.0 m-is.0 e) keeps

-- behind all sections nothing is asked but that nothing comes
trailing-least : (second : Bool) (before : List SectionLine) (next : Piece) → AreAll before → (g : Fault)
    → fault_number g < 19 → RuleAlone (behind second before) next g
trailing-least second before next all fault.Trailing lt = absurd (omega arith)
trailing-least second before next all g lt = λ open_yet. absurd (open_yet all)

pub trailing-broken : (second : Bool) (before : List SectionLine) (next : Piece) → AreAll before
    → (next ≡ last [] → ⊥) → Breaks (RuleAlone (behind second before) next) fault.Trailing
trailing-broken second before next all more =
    record { broken = λ rule. more (rule all); least = trailing-least second before next all }

pub line-last : (l : List ℕ) → whole l ≡ last [] → ⊥
line-last l e = cc

pub long-last : (next : Piece) → max_line < length (bytes_of next) → next ≡ last [] → ⊥
long-last next long e = absurd (omega (arith, long, ap (λ p. length (bytes_of p)) e))

-- what is no line of the format
format-least : (second : Bool) (before : List SectionLine) (next : Piece) → (g : Fault) → fault_number g < 2
    → RuleAlone (behind second before) next g
format-least second before (whole l) fault.Format lt =
    λ open_yet line is e. below-section before line fault.Format (omega arith)
format-least second before (last l) fault.Format lt = λ open_yet. tt
format-least second before next fault.Notation lt = absurd (omega arith)
format-least second before next fault.Certificate lt = absurd (omega arith)
format-least second before next fault.Ranks lt = absurd (omega arith)
format-least second before next fault.DecidedTwice lt = absurd (omega arith)
format-least second before next fault.WalkShape lt = absurd (omega arith)
format-least second before next fault.Section lt = absurd (omega arith)
format-least second before next fault.Item lt = absurd (omega arith)
format-least second before next fault.Twice lt = absurd (omega arith)
format-least second before next fault.ReadValue lt = absurd (omega arith)
format-least second before next fault.RankOrder lt = absurd (omega arith)
format-least second before next fault.Block lt = absurd (omega arith)
format-least second before next fault.End lt = absurd (omega arith)
format-least second before next fault.DecisionOrder lt = absurd (omega arith)
format-least second before next fault.NotEnded lt = absurd (omega arith)
format-least second before next fault.Final lt = absurd (omega arith)
format-least second before next fault.WalkStep lt = absurd (omega arith)
format-least second before next fault.Truncated lt = absurd (omega arith)
format-least second before next fault.Trailing lt = absurd (omega arith)

notation-broken : (second : Bool) (before : List SectionLine) (next : Piece) → (AreAll before → ⊥)
    → (RuleWithin second before next fault.Notation → ⊥) → Breaks (RuleAlone (behind second before) next) fault.Notation
notation-broken second before next open_yet miss = record {
  broken = λ rule. miss (rule open_yet);
  least =
      format-least second before next;
}

pub unread-broken : (second : Bool) (before : List SectionLine) (l : List ℕ) → (AreAll before → ⊥)
    → ((line : SectionLine) → IsLineIn second line → l ≡ line_text line → ⊥)
    → Breaks (RuleAlone (behind second before) (whole l)) fault.Notation
unread-broken second before l open_yet none =
    notation-broken second before (whole l) open_yet (λ spelled. none spelled.0 spelled.1 spelled.2)

too-long : (second : Bool) (before : List SectionLine) (next : Piece) → RuleWithin second before next fault.Notation
    → max_line < length (bytes_of next) → ⊥
too-long second before (whole l) (line, is, same) long =
    absurd (omega (arith, ap length same, line-short line is.0, long))
too-long second before (last l) short long = absurd (omega (arith, short, long))

pub long-broken : (second : Bool) (before : List SectionLine) (next : Piece) → (AreAll before → ⊥)
    → max_line < length (bytes_of next) → Breaks (RuleAlone (behind second before) next) fault.Notation
long-broken second before next open_yet long =
    notation-broken second before next open_yet (λ rule. too-long second before next rule long)

-- an end that isn't behind a whole section, or with bytes behind it
pub end-broken : (second : Bool) (before : List SectionLine) (l : List ℕ) → (AreAll before → ⊥) → length l ≤ max_line
    → (l ≡ [] → (count : ℕ) → AreSections count before → ⊥)
    → Breaks (RuleAlone (behind second before) (last l)) fault.Truncated
end-broken second before l open_yet short miss =
    record { broken = λ rule. let ends = rule open_yet in miss ends.0 ends.1.0 ends.1.1; least = below }
  where
    below : (g : Fault) → fault_number g < 18 → RuleAlone (behind second before) (last l) g
    below fault.Trailing lt = absurd (omega arith)
    below fault.Notation lt = λ open_one. short
    below fault.Truncated lt = absurd (omega arith)
    below _ lt = λ open_one. tt

-- an end behind a whole section, or behind all
pub end-judged : (second : Bool) (before : List SectionLine) (count : ℕ) → AreSections count before → (f : Fault)
    → RuleAlone (behind second before) (last []) f
end-judged second before count whole_lines fault.Trailing = λ all. refl
end-judged second before count whole_lines fault.Notation = λ open_yet. omega arith
end-judged second before count whole_lines fault.Truncated = λ open_yet. (refl, (count, whole_lines))
end-judged second before count whole_lines _ = λ open_yet. tt

-- whole sections are those of as many sites
pub own-sections : (b : Begun) → IsBegun b → b.current ≡ None → 1 ≤ length b.whole
    → AreSections (length b.whole) (lines_read b)
own-sections b begun none some =
    let room = subst (HasRoomFor b) none begun.room in
    whole-sections (record b { sites = length b.whole }) (record {
      some = some;
      few = omega (arith, room, begun.few);
      logs = begun.logs;
      room = subst (HasRoomFor (record b { sites = length b.whole })) (sym none) (omega arith);
    })
    none refl
