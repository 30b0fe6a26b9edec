-- From one stage of a text to the next.
use Rattle.std.proofs.Common.{◌≡◌, ℕ, ◌<◌, ◌≤◌, Bool, List, [], ◌∷◌, ◌++◌, length, map, None, refl, sym, ap, ◌∙◌, subst, subst₂, arith, inl, inr, ◌⊎◌}
use Rattle.std.specs.Prelude.{◌↔◌, Err, IfOk, IsSome, Ok, Result}
use Rattle.std.proofs.lemmas.Bool.{cases_eq}
use Rattle.std.proofs.lemmas.List.{map-append}
use Rattle.std.proofs.lemmas.Option.{none-some}
use Rattle.sgt_notation.specs.Spelling.{line_text}
use Rattle.sgt_names.specs.Limits.{max_line}
use Rattle.sgt_notation.specs.Reading.{SpellsNone}
use Rattle.sgt_notation.specs.declared.SectionLine.{SectionLine}
use Rattle.sgt_notation.specs.declared.SectionLine.TheVariants.{Site, Initial, Logged, Final, End}
use Rattle.sgt_notation.proofs.Short.{line-short}
use Rattle.sgt_bundle.specs.Text.{certificate_text, format_line, IsCertificate, AreSections}
use Rattle.sgt_bundle.specs.declared.certificate.Certificate.{Certificate}
use Rattle.sgt_bundle.proofs.Reading.{certificate-one}
use Rattle.sgt_audit.specs.declared.faults.Fault.{Fault}
use Rattle.sgt_audit.specs.declared.faults.FirstFault.{FirstFault}
use Rattle.sgt_audit.specs.declared.faults.Fault.TheVariants as fault
use Rattle.sgt_audit.specs.declared.kept.Kept.{Kept}
use Rattle.sgt_audit.specs.declared.machine.Progress.TheVariants as at
use Rattle.sgt_audit.specs.Faults.{fault_number, IsLineIn, Keeps, KeepsItself, Stage, start, headed, within, complete, lines_so_far, Piece, whole, last, Rule, Breaks, bytes_of}
use Rattle.sgt_audit.specs.Reading.{Begun, IsBegun, lines_read}
use Rattle.sgt_audit.specs.Held.{Holds, IsAt}
use Rattle.sgt_audit.specs.Kept.{Means, IsStageOf}
use Rattle.sgt_audit.specs.private.NextLine.{Follows}
use Rattle.sgt_audit.specs.private.Ending.{IsComplete, limit_of}
use Rattle.sgt_audit.proofs.LinePlaces.{no_cons}
use Rattle.sgt_audit.proofs.MayFollow.{whole-sections, are-sections}
use Rattle.sgt_names.proofs.Lists.{option_cases}

-- ---- which stage it is

all-or-not : (b : Begun) → IsBegun b → AreSections b.sites (lines_read b) ⊎ (AreSections b.sites (lines_read b) → ⊥)
all-or-not b is =
    elim (option_cases b.current) [
      | inr some ↦ inr (λ all. none-some some.0 (sym (are-sections b all).0 ∙ some.1))
      | inl none ↦ elim (cases_eq (length b.whole) b.sites) [
        | inl each ↦ inl (whole-sections b is none each)
        | inr more ↦ inr (λ all. more (are-sections b all).1)
      ]
    ]

stage-of : (second : Bool) (c : Certificate) (b : Begun) (before : List SectionLine) → Means second c b before
    → (t : Stage) × IsStageOf second c before t × (lines_so_far t ≡ lines_so_far (within second c before))
stage-of second c b before m =
    let at_lines = λ (n : ℕ). λ (e : n ≡ c.sites). subst (λ k. AreSections k (lines_read b)
    → AreSections c.sites before) (sym e) (subst (AreSections c.sites) (sym m.lines)) in
    elim (all-or-not b m.begun) [
      | inl all ↦ (complete second c before, inr (refl, at_lines b.sites m.sites all), refl)
      | inr miss ↦ (
        within second c before,
        inl (
          refl,
          λ all. miss (subst (λ k. AreSections k (lines_read b)) (sym m.sites)
              (subst (AreSections c.sites) m.lines all)),
        ),
        refl,
      )
    ]

one-more : (second : Bool) (c : Certificate) (before : List SectionLine) (line : SectionLine) (l : List ℕ)
    → l ≡ line_text line
    → lines_so_far (within second c (before ++ line ∷ [])) ≡ lines_so_far (within second c before) ++ l ∷ []
one-more second c before line l same = ap (λ (ls : List (List ℕ)). format_line second ∷ certificate_text c ∷ ls)
    (map-append line_text before (line ∷ []) ∙ ap (λ t. map line_text before ++ t ∷ []) (sym same))

stage-lines : (second : Bool) (c : Certificate) (before : List SectionLine) (s : Stage) → IsStageOf second c before s
    → lines_so_far s ≡ lines_so_far (within second c before)
stage-lines second c before s (inl here) = ap lines_so_far here.0
stage-lines second c before s (inr done) = ap lines_so_far done.0

-- one more line behind the lines of a stage
pub line-follows : (k : Kept) (b : Begun) (before : List SectionLine) (line : SectionLine) (s : Stage)
    → Holds k b (before ++ line ∷ []) → IsStageOf k.alone.second k.certificate before s
    → Follows s (line_text line) (at.Reading k) None
line-follows k b before line s holds stage =
    let t = stage-of k.alone.second k.certificate b (before ++ line ∷ []) holds.means in (
      t.0,
      (b, before ++ line ∷ [], holds, t.1),
      t.2 ∙ one-more k.alone.second k.certificate before line (line_text line) refl
          ∙ ap (λ (ls : List (List ℕ)). ls ++ line_text line ∷ [])
          (sym (stage-lines k.alone.second k.certificate before s stage)),
    )

-- the certificate's line
pub headed-follows : (k : Kept) (l : List ℕ) (b : Begun) → l ≡ certificate_text k.certificate → Holds k b []
    → Follows (headed k.alone.second) l (at.Reading k) None
headed-follows k l b same holds =
    let t = stage-of k.alone.second k.certificate b [] holds.means in
    (t.0, (b, [], holds, t.1), t.2 ∙ ap (λ x. format_line k.alone.second ∷ x ∷ []) (sym same))

-- where what is kept stands
pub at-open : (k : Kept) (s : Stage) → IsAt k s → (IsComplete s → ⊥)
    → (before : List SectionLine) × (s ≡ within k.alone.second k.certificate before)
at-open k s (b, before, holds, inl here) miss = (before, here.0)
at-open k s (b, before, holds, inr done) miss = absurd (miss (subst IsComplete (sym done.0) tt))

-- whether all sections were read, by the stage and by the sections
pub complete-all : (k : Kept) (b : Begun) (before : List SectionLine) (s : Stage)
    → Means k.alone.second k.certificate b before → IsStageOf k.alone.second k.certificate before s
    → IsComplete s ↔ AreSections b.sites (lines_read b)
complete-all k b before s m (inl here) = (
  λ c. absurd (subst IsComplete here.0 c),
  λ all. absurd (here.1 (subst₂ AreSections m.sites (sym m.lines) all)),
)
complete-all k b before s m (inr done) = (
  λ c. subst₂ AreSections (sym m.sites) m.lines done.1,
  λ all. subst IsComplete (sym done.0) tt,
)

-- ---- the certificate

module _ (second : Bool) (c : Certificate) (is : IsCertificate c) (f : Fault)
    (breaks : Breaks (KeepsItself c.decisions) f) where
  headed-broken : (g : Fault) → (KeepsItself c.decisions g → ⊥) → Rule (headed second) (whole (certificate_text c)) g
      → ⊥
  headed-broken fault.Certificate miss h = miss tt
  headed-broken g miss h = miss (h c is refl)

  headed-kept : (g : Fault) → KeepsItself c.decisions g → Rule (headed second) (whole (certificate_text c)) g
  headed-kept fault.Certificate k = (c, is, refl)
  headed-kept g k = λ d is_d same. subst (λ d. KeepsItself d.decisions g) (certificate-one c d is is_d same) k

  headed-breaks : Breaks (Rule (headed second) (whole (certificate_text c))) f
  headed-breaks = record { broken = headed-broken f breaks.broken; least = λ g lt. headed-kept g (breaks.least g lt) }

pub certificate-breaks : (second : Bool) (c : Certificate) (l : List ℕ) (f : Fault) → IsCertificate c
    → l ≡ certificate_text c → Breaks (KeepsItself c.decisions) f → Breaks (Rule (headed second) (whole l)) f
certificate-breaks second c l f is same breaks =
    subst (λ m. Breaks (Rule (headed second) (whole m)) f) (sym same) (headed-breaks second c is f breaks)

-- nothing behind it so far
pub certificate-means : (second : Bool) (c : Certificate) (b : Begun) → IsCertificate c
    → ((f : Fault) → KeepsItself c.decisions f) → IsBegun b
    → b ≡ record { sites = c.sites; whole = []; current = None } → Means second c b []
certificate-means second c b is itself begun fresh = record {
  begun = begun;
  sites = ap (λ b. b.sites) fresh;
  lines = sym (ap lines_read fresh);
  kept = record { spelled = is; itself = itself; lines = λ earlier later l e. absurd (no_cons earlier later l e) };
}

-- ---- a line that is too long

module _ (second : Bool) (c : Certificate) (before : List SectionLine) where
  long-within : (p : Piece) → max_line < length (bytes_of p) → Rule (within second c before) p fault.Notation → ⊥
  long-within (whole l) long (line, is, same) = let short = line-short line is.0 in
      absurd (omega (arith, ap length same))
  long-within (last l) long le = absurd (omega arith)

  format-rule : (line : SectionLine) → Keeps c before line fault.Format
  format-rule (Site k) = tt
  format-rule (Initial h) = tt
  format-rule (Logged e) = tt
  format-rule (Final h) = tt
  format-rule End = tt

  below-notation : (p : Piece) (g : Fault) → fault_number g < 2 → Rule (within second c before) p g
  below-notation (whole l) fault.Format lt = λ line is same. format-rule line
  below-notation (last l) fault.Format lt = tt
  below-notation p fault.Notation lt = absurd (omega arith)
  below-notation p fault.Certificate lt = absurd (omega arith)
  below-notation p fault.Ranks lt = absurd (omega arith)
  below-notation p fault.DecidedTwice lt = absurd (omega arith)
  below-notation p fault.WalkShape lt = absurd (omega arith)
  below-notation p fault.Section lt = absurd (omega arith)
  below-notation p fault.Item lt = absurd (omega arith)
  below-notation p fault.Twice lt = absurd (omega arith)
  below-notation p fault.ReadValue lt = absurd (omega arith)
  below-notation p fault.RankOrder lt = absurd (omega arith)
  below-notation p fault.Block lt = absurd (omega arith)
  below-notation p fault.End lt = absurd (omega arith)
  below-notation p fault.DecisionOrder lt = absurd (omega arith)
  below-notation p fault.NotEnded lt = absurd (omega arith)
  below-notation p fault.Final lt = absurd (omega arith)
  below-notation p fault.WalkStep lt = absurd (omega arith)
  below-notation p fault.Truncated lt = absurd (omega arith)
  below-notation p fault.Trailing lt = absurd (omega arith)

  pub notation-breaks : (p : Piece) → max_line < length (bytes_of p)
      → Breaks (Rule (within second c before) p) fault.Notation
  notation-breaks p long = record { broken = long-within p long; least = below-notation p }

  trailing-broken : (p : Piece) → max_line < length (bytes_of p) → Rule (complete second c before) p fault.Trailing → ⊥
  trailing-broken (whole l) long h = h
  trailing-broken (last l) long none = absurd (omega (arith, ap length none))

  below-trailing : (p : Piece) (g : Fault) → fault_number g < 19 → Rule (complete second c before) p g
  below-trailing p fault.Trailing lt = absurd (omega arith)
  below-trailing (whole l) fault.Format lt = tt
  below-trailing (last l) fault.Format lt = tt
  below-trailing (whole l) fault.Notation lt = tt
  below-trailing (last l) fault.Notation lt = tt
  below-trailing (whole l) fault.Certificate lt = tt
  below-trailing (last l) fault.Certificate lt = tt
  below-trailing (whole l) fault.Ranks lt = tt
  below-trailing (last l) fault.Ranks lt = tt
  below-trailing (whole l) fault.DecidedTwice lt = tt
  below-trailing (last l) fault.DecidedTwice lt = tt
  below-trailing (whole l) fault.WalkShape lt = tt
  below-trailing (last l) fault.WalkShape lt = tt
  below-trailing (whole l) fault.Section lt = tt
  below-trailing (last l) fault.Section lt = tt
  below-trailing (whole l) fault.Item lt = tt
  below-trailing (last l) fault.Item lt = tt
  below-trailing (whole l) fault.Twice lt = tt
  below-trailing (last l) fault.Twice lt = tt
  below-trailing (whole l) fault.ReadValue lt = tt
  below-trailing (last l) fault.ReadValue lt = tt
  below-trailing (whole l) fault.RankOrder lt = tt
  below-trailing (last l) fault.RankOrder lt = tt
  below-trailing (whole l) fault.Block lt = tt
  below-trailing (last l) fault.Block lt = tt
  below-trailing (whole l) fault.End lt = tt
  below-trailing (last l) fault.End lt = tt
  below-trailing (whole l) fault.DecisionOrder lt = tt
  below-trailing (last l) fault.DecisionOrder lt = tt
  below-trailing (whole l) fault.NotEnded lt = tt
  below-trailing (last l) fault.NotEnded lt = tt
  below-trailing (whole l) fault.Final lt = tt
  below-trailing (last l) fault.Final lt = tt
  below-trailing (whole l) fault.WalkStep lt = tt
  below-trailing (last l) fault.WalkStep lt = tt
  below-trailing (whole l) fault.Truncated lt = tt
  below-trailing (last l) fault.Truncated lt = tt

  trailing-breaks : (p : Piece) → max_line < length (bytes_of p)
      → Breaks (Rule (complete second c before) p) fault.Trailing
  trailing-breaks p long = record { broken = trailing-broken p long; least = below-trailing p }

-- ---- a line that can't be read, and one behind all sections

pub line-trails : (l : List ℕ) (s : Stage) → IsComplete s → Breaks (Rule s (whole l)) fault.Trailing
line-trails l start done = absurd done
line-trails l (headed second) done = absurd done
line-trails l (within second c before) done = absurd done
line-trails l (complete second c before) done =
    record { broken = λ h. h; least = below-trailing second c before (whole l) }

pub line-unread : (k : Kept) (l : List ℕ) (s : Stage) → IsAt k s → (IsComplete s → ⊥)
    → SpellsNone (IsLineIn k.alone.second) line_text l → Breaks (Rule s (whole l)) fault.Notation
line-unread k l s here miss none =
    let open_yet = at-open k s here miss in
    subst (λ s. Breaks (Rule s (whole l)) fault.Notation) (sym open_yet.1)
    (record {
      broken = λ (line, is, same). none line is same;
      least =
          below-notation k.alone.second k.certificate open_yet.0 (whole l);
    })

pub long-breaks : (k : Kept) (s : Stage) (p : Piece) → IsAt k s → (IsComplete s → ⊥)
    → limit_of s < length (bytes_of p) → Breaks (Rule s p) fault.Notation
long-breaks k s p here miss long =
    let open_yet = at-open k s here miss in
    subst (λ s. limit_of s < length (bytes_of p) → Breaks (Rule s p) fault.Notation) (sym open_yet.1)
    (notation-breaks k.alone.second k.certificate open_yet.0 p) long

pub long-trails : (s : Stage) (p : Piece) → IsComplete s → limit_of s < length (bytes_of p)
    → Breaks (Rule s p) fault.Trailing
long-trails start p done long = absurd done
long-trails (headed second) p done long = absurd done
long-trails (within second c before) p done long = absurd done
long-trails (complete second c before) p done long = trailing-breaks second c before p long

-- ---- the end of the input

module _ (second : Bool) (c : Certificate) (before : List SectionLine) (l : List ℕ) where
  below-truncated : length l ≤ max_line → (g : Fault) → fault_number g < 18 → Rule (within second c before) (last l) g
  below-truncated le fault.Notation lt = le
  below-truncated le fault.Truncated lt = absurd (omega arith)
  below-truncated le fault.Trailing lt = absurd (omega arith)
  below-truncated le _ lt = tt

  pub truncated : length l ≤ max_line → Breaks (Rule (within second c before) (last l)) fault.Truncated
  truncated le = record { broken = λ h. h; least = below-truncated le }

pub ends-within : (k : Kept) (s : Stage) (l : List ℕ) → IsAt k s → (IsComplete s → ⊥) → length l ≤ limit_of s
    → Breaks (Rule s (last l)) fault.Truncated
ends-within k s l here miss short =
    let open_yet = at-open k s here miss in
    subst (λ s. length l ≤ limit_of s → Breaks (Rule s (last l)) fault.Truncated) (sym open_yet.1)
    (truncated k.alone.second k.certificate open_yet.0 l) short

pub ends-behind : (s : Stage) (l : List ℕ) → IsComplete s → (l ≡ [] → ⊥) → Breaks (Rule s (last l)) fault.Trailing
ends-behind start l done some = absurd done
ends-behind (headed second) l done some = absurd done
ends-behind (within second c before) l done some = absurd done
ends-behind (complete second c before) l done some =
    record { broken = some; least = below-trailing second c before (last l) }

pub empty-nil : (l : List ℕ) → length l ≡ 0 → l ≡ []
empty-nil [] e = refl
empty-nil (x ∷ l) e = absurd (omega arith)

-- what is handed out at the end is what was kept
pub hands-out : (r : Result Kept FirstFault) (k : Kept) → IfOk r (λ x. x ≡ k) → IsSome k.sections
    → IfOk r (λ x. IsSome x.sections)
hands-out (Ok x) k same some = subst (λ x. IsSome x.sections) (sym same) some
hands-out (Err first) k same some = tt
