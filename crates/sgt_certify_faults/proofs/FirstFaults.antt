-- The first fault of a text, where the lines before it have none.
use Rattle.std.proofs.Common.{◌≡◌, ℕ, ◌+◌, ◌<◌, Bool, List, [], ◌∷◌, ◌++◌, length, map, None, refl, sym, ap, ◌∙◌, subst, arith, inl, inr, ◌⊎◌, All}
use Rattle.std.specs.List.{AllByRecursion}
use Rattle.std.proofs.lemmas.Bool.{cases_order}
use Rattle.std.proofs.lemmas.List.{append-nil, length-append, length-map}
use Rattle.sgt_notation.specs.Spelling.{line_text, text_of_lines, IsLine}
use Rattle.sgt_notation.proofs.OneSpelling.{line-one, line-one_line}
use Rattle.sgt_notation.specs.declared.SectionLine.{SectionLine}
use Rattle.sgt_bundle.specs.Parts.{IsShaped}
use Rattle.sgt_bundle.specs.Text.{format_line, sections_from, AreSections, Begins}
use Rattle.sgt_bundle.proofs.OneText.{format-one_line}
use Rattle.sgt_audit.specs.declared.faults.Fault.{Fault}
use Rattle.sgt_audit.specs.declared.faults.Fault.TheVariants as fault
use Rattle.sgt_audit.specs.Faults.{fault_number, IsLineIn, Piece, whole, ComesNext, Breaks}
use Rattle.sgt_audit.specs.Reading.{Begun}
use Rattle.sgt_audit.proofs.Formats.{lines-of}
use Rattle.sgt_audit.proofs.MayFollow.{begins-follow}
use Rattle.sgt_audit.proofs.OneFault.{compare, comes_line, each_line, one_piece}
use Rattle.sgt_audit.proofs.OneFault.{behind as one_front}
use Rattle.sgt_certify_logs.specs.Sound.{SpellsSoundLogs}
use Rattle.sgt_certify_faults.specs.Faults.{AreAll, AreKept, AreSpelled, Front, none, behind, HasFault, IsFaultless, IsFirstFault, KeepsAlone, lines_of, RuleAlone}
use Rattle.sgt_certify_faults.proofs.SoundLogs.{logs-sound, speaks}
use Rattle.sgt_audit.proofs.KeptLines.{logs-allowed, logs-spelled}
use Rattle.sgt_certify_faults.proofs.NoCertificate.{no-more}
use Rattle.sgt_notation.proofs.Texts.{first_line, line_front}
use Rattle.sgt_names.proofs.Elements.{no_line}

pub kept-lines : (second : Bool) (before : List SectionLine) → AreKept second before → AllByRecursion IsLine before
kept-lines second before kept = each_line IsLine before (λ earlier later l e. (kept earlier later l e).0.0)

-- ---- a line that keeps every rule

not-all : (before : List SectionLine) (line : SectionLine) → KeepsAlone before line fault.Section → AreAll before → ⊥
not-all before line (count, (logs, more, shape, cut)) (ls, shaped, all) =
    let b : Begun = record { sites = count; whole = ls; current = None } in
    let begins : Begins count ((sections_from 0 ls ++ []) ++ line ∷ []) = (
      logs,
      more,
      shape,
      cut ∙ ap (λ (xs : List SectionLine). (xs ++ line ∷ []) ++ more) (sym all
          ∙ sym (append-nil (sections_from 0 ls))),
    ) in
    no-more b line (begins-follow b line begins) shaped.each shape.few

pub good-line : (second : Bool) (before : List SectionLine) (line : SectionLine) → IsLineIn second line
    → ((f : Fault) → KeepsAlone before line f) → (f : Fault)
    → RuleAlone (behind second before) (whole (line_text line)) f
good-line second before line is keeps fault.Trailing = λ all. absurd (not-all before line (keeps fault.Section) all)
good-line second before line is keeps fault.Notation = λ open_yet. (line, is, refl)
good-line second before line is keeps f =
    λ open_yet m m-is e. subst (λ k. KeepsAlone before k f) (line-one line m is.0 m-is.0 e) (keeps f)

good-first : (second : Bool) (f : Fault) → RuleAlone none (whole (format_line second)) f
good-first second fault.Format = (second, refl)
good-first second _ = tt

-- ---- the first fault

-- the lines so far keep every rule
abbrev pub IsKept : Front → Type 0
IsKept none = Unit {0}
IsKept (behind second before) = AreKept second before

-- a fault is one of what comes next, or of a later line, which begins behind a line that comes next
abbrev pub IsNextOrLater : Front → List ℕ → Piece → ℕ → Fault → Type 0
IsNextOrLater front rest next m g = ((m ≡ length (lines_of front) + 1) × (RuleAlone front next g → ⊥))
    ⊎ ((length (lines_of front) + 1 < m) × ((l after : List ℕ) × (rest ≡ l ++ 10 ∷ after)))

module _ (second : Bool) (xs : List SectionLine) (r : List ℕ) (p : Piece) (kept : AreKept second xs)
    (comes : ComesNext r p) where
  beside : (ys : List SectionLine) (s : List ℕ) (q : Piece) (m : ℕ) (g : Fault) → All (IsLineIn second) ys
      → ComesNext s q → m ≡ length (lines_of (behind second ys)) + 1
      → (RuleAlone (behind second ys) q g → ⊥)
      → text_of_lines (map line_text xs) ++ r ≡ text_of_lines (map line_text ys) ++ s
      → IsNextOrLater (behind second xs) r p m g
  beside ys s q m g each goes number broken e =
      elim (compare xs ys r s (kept-lines second xs kept) (lines-of second ys each) e) [
        | inl both ↦
            let next = one_piece s q p goes (subst (λ t. ComesNext t p) both.1 comes) in
            inl (
              number ∙ ap (λ zs. length (lines_of (behind second zs)) + 1) (sym both.0),
              λ rule. broken (subst (λ zs. RuleAlone (behind second zs) q g) both.0
                  (subst (λ n. RuleAlone (behind second xs) n g) (sym next) rule)),
            )
        | inr (inl b) ↦
            inr (
              omega (
                arith,
                number,
                length-map xs line_text,
                length-map ys line_text,
                ap length b.cut,
                length-append xs (b.line ∷ b.more),
              ),
              (line_text b.line, b.after, b.next),
            )
        | inr (inr b) ↦
            let good = kept ys b.more b.line b.cut in
            let next = comes_line (line_text b.line) b.after s q (line-one_line b.line good.0.0) b.next goes in
            absurd (broken (subst (λ n. RuleAlone (behind second ys) n g) (sym next)
            (good-line second ys b.line good.0 good.1 g)))
      ]

behind-text : (second : Bool) (xs : List SectionLine) (r : List ℕ)
    → text_of_lines (lines_of (behind second xs)) ++ r ≡ format_line second ++ 10 ∷
    (text_of_lines (map line_text xs) ++ r)
behind-text second xs r = line_front (format_line second) (map line_text xs) r

next-or-later : (front other : Front) (rest left : List ℕ) (next piece : Piece) (m : ℕ) (g : Fault) → IsKept front
    → ComesNext rest next → AreSpelled other → ComesNext left piece
    → m ≡ length (lines_of other) + 1 → (RuleAlone other piece g → ⊥)
    → text_of_lines (lines_of front) ++ rest ≡ text_of_lines (lines_of other) ++ left
    → IsNextOrLater front rest next m g
next-or-later none none rest left next piece m g kept comes spelled goes number broken e =
    let same = one_piece left piece next goes (subst (λ t. ComesNext t next) e comes) in
    inl (number, λ rule. broken (subst (λ n. RuleAlone none n g) (sym same) rule))
next-or-later none (behind second ys) rest left next piece m g kept comes spelled goes number broken e =
    inr (
      omega (arith, number),
      (
        format_line second,
        text_of_lines (map line_text ys) ++ left,
        e
            ∙ behind-text second ys left,
      ),
    )
next-or-later (behind second xs) none rest left next piece m g kept comes spelled goes number broken e =
    let same = comes_line (format_line second) (text_of_lines (map line_text xs) ++ rest) left piece
    (format-one_line second) (sym e ∙ behind-text second xs rest) goes in
    absurd (broken (subst (λ n. RuleAlone none n g) (sym same) (good-first second g)))
next-or-later (behind second xs) (behind other ys) rest left next piece m g kept comes spelled goes number broken e =
    let both =
    one_front second other (text_of_lines (map line_text xs) ++ rest)
    (text_of_lines (map line_text ys) ++ left) (sym (behind-text second xs rest) ∙ e ∙ behind-text other ys left) in
    beside second xs rest next kept comes ys left piece m g (subst (λ t. All (IsLineIn t) ys) (sym both.0) spelled) goes
    (number ∙ ap (λ t. length (lines_of (behind t ys)) + 1) (sym both.0)) (subst (λ t. RuleAlone (behind t ys) piece g
    → ⊥) (sym both.0) broken) both.1

module _ (bytes : List ℕ) (front : Front) (rest : List ℕ) (next : Piece) (kept : IsKept front)
    (spelled : AreSpelled front) (comes : ComesNext rest next)
    (text : bytes ≡ text_of_lines (lines_of front) ++ rest) where
  at-fault : (m : ℕ) (g : Fault) → HasFault bytes m g → IsNextOrLater front rest next m g
  at-fault m g h = next-or-later front h.front rest h.rest next h.next m g kept comes h.spelled h.comes h.number
      h.broken (sym text ∙ h.text)

  -- a fault is behind these lines
  pub later-fault : (m : ℕ) (g : Fault) → HasFault bytes m g → length (lines_of front) < m
  later-fault m g h = elim (at-fault m g h) [
    | inl same ↦ omega (arith, same.0)
    | inr later ↦ omega (arith, later.0)
  ]

  -- the least fault of what comes next is the first one
  pub first-fault : (n : ℕ) (f : Fault) → n ≡ length (lines_of front) + 1 → Breaks (RuleAlone front next) f
      → IsFirstFault bytes n f
  first-fault n f number breaks = record {
    has = record {
      front = front;
      rest = rest;
      next = next;
      text = text;
      spelled = spelled;
      number = number;
      comes =
          comes;
      broken = breaks.broken;
    };
    first = λ m g h. elim (at-fault m g h) [
      | inl same ↦ omega (arith, number, same.0)
      | inr later ↦ omega (arith, number, later.0)
    ];
    least = λ g h. elim (at-fault n g h) [
      | inl same ↦ elim (cases_order (fault_number f) (fault_number g)) [
        | inl one ↦ omega (arith, one)
        | inr (inl less) ↦ omega (arith, less)
        | inr (inr more) ↦ absurd (same.1 (breaks.least g more))
      ]
      | inr later ↦ absurd (omega (arith, number, later.0))
    ];
  }

  -- no fault, where the text ends there
  pub no-fault : rest ≡ [] → ((f : Fault) → RuleAlone front next f) → IsFaultless bytes
  no-fault empty keeps m g h =
      elim (at-fault m g h) [
        | inl same ↦ same.1 (keeps g)
        | inr later ↦ no_line later.1.0 later.1.1 (sym later.1.2 ∙ empty)
      ]

-- ---- a whole text without a fault

pub sound-text : (second : Bool) (before : List SectionLine) (count : ℕ) → AreKept second before
    → AreSections count before → SpellsSoundLogs (format_line second ++ 10 ∷ text_of_lines (map line_text before))
sound-text second before count kept (logs, shape, all) = (
  logs,
  record {
    shape = subst (λ n. IsShaped n logs) (sym shape.each) shape;
    logs = logs-spelled KeepsAlone speaks second before kept logs all;
    second = second;
    allowed = logs-allowed KeepsAlone speaks second before kept logs all;
    text = sym (first_line (format_line second) (map line_text before))
        ∙ ap (λ (ls : List SectionLine). text_of_lines (format_line second ∷ map line_text ls)) (sym all);
  },
  logs-sound second before kept logs all,
)
