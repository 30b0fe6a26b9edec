-- Parts of a line that spell what they have to, and those that don't.
use Rattle.std.proofs.Common.{◌≡◌, ◌≢◌, ℕ, suc, ◌+◌, ◌<◌, ◌≤◌, Bool, true, false, List, [], ◌∷◌, ◌++◌, length, take, drop, All, Some, None, inl, inr, refl, sym, subst, ap, ap₂, ◌∙◌, arith, append_assoc, length-append, codes, decimal}
use Rattle.std.specs.Prelude.{slice_get, ◌==◌, ◌||◌, ◌↔◌, IsTrue, IfNone, Option, Result, Ok, Err, OnOk, is_ok, if◌then◌else◌, ◌⊎◌}
use Rattle.std.proofs.lemmas.Bool.{or_cases, eqb-true, true≢false}
use Rattle.std.proofs.lemmas.List.Elements.{recursion_from_All}
use Rattle.sgt_names.specs.Name.{Name, IsName}
use Rattle.sgt_names.specs.declared.entry.Entry.TheVariants.{Read, Write, Add, Want, WantAdd, Commit, Refuse, Withdraw}
use Rattle.sgt_names.specs.declared.entry.Holding.{Holding}
use Rattle.sgt_names.proofs.Lists.{heads, tails}
use Rattle.sgt_names.proofs.Places.{split_at}
use Rattle.sgt_notation.specs.Private.{IsOperation, operation_text}
use Rattle.sgt_notation.specs.Spelling.{assignment, entry_text, line_text, IsTx, IsValue, IsSite, IsHolding, IsEntry, IsLine}
use Rattle.sgt_notation.specs.declared.SectionLine.TheVariants.{Site, Initial, Logged, Final}
use Rattle.sgt_notation.proofs.OneSpelling.{cut_at_byte, operation-is}
use Rattle.sgt_notation.proofs.Unspelled.{never}
use Rattle.sgt_explain_lines.specs.Told.{Adds, IsShown, ShowsNumbered, bar}
use Rattle.sgt_explain_lines.specs.declared.slips.Slip.{Slip}
use Rattle.sgt_explain_lines.specs.Slips.{IsSlip, slip_text, notation_head, TellsSlip, EndsWith, Spells, IsDigit, IsFirstOther, IsCutAt, Lacks, HasAccess, SpellsAccess, is_operation_letter, is_end_letter}
use Rattle.sgt_names.proofs.Elements.{none-weaker, ok-taken}

pub first-other : (text : List ℕ) (i b : ℕ) → slice_get text i ≡ Some b → All IsDigit (take i text) → (IsDigit b → ⊥)
    → IsFirstOther text b
first-other text i b at digits other = (take i text, drop (suc i) text, split_at text i b at, digits, other)

pub if-digit : (b : ℕ) (r : Bool) → IsTrue r ↔ IsDigit b → r ≡ true → IsDigit b
if-digit b r is e = is.0 e

pub if-other : (b : ℕ) (r : Bool) → IsTrue r ↔ IsDigit b → r ≡ false → IsDigit b → ⊥
if-other b r is e digit = true≢false (sym (is.1 digit) ∙ e)

-- ---- the last byte

pub ends-some : (line : List ℕ) (b : ℕ) → EndsWith b line → line ≢ []
ends-some line b ends none =
    let size = length-append ends.0 (b ∷ []) in
    let same = ap length (sym ends.1 ∙ none) in
    absurd (omega (arith, size, same))

last-one : (f g : List ℕ) (a b : ℕ) → f ++ a ∷ [] ≡ g ++ b ∷ [] → a ≡ b
last-one [] [] a b e = heads a b [] [] e
last-one [] (y ∷ g) a b e = (let size = length-append g (b ∷ []) in let same = ap length e in
    absurd (omega (arith, size, same)))
last-one (x ∷ f) [] a b e = (let size = length-append f (a ∷ []) in let same = ap length e in
    absurd (omega (arith, size, same)))
last-one (x ∷ f) (y ∷ g) a b e = last-one f g a b (tails x y (f ++ a ∷ []) (g ++ b ∷ []) e)

pub ends-one : (line : List ℕ) (a b : ℕ) → EndsWith a line → EndsWith b line → a ≡ b
ends-one line a b one other = last-one one.0 other.0 a b (sym one.1 ∙ other.1)

-- ---- names with numbers

pub spells-holding : (text name value : List ℕ) → IsCutAt 61 text name value → IsName name
    → Spells IsValue decimal value
    → Spells IsHolding (λ h. assignment h.item h.value) text
spells-holding text name value cut is v = (
  record { item = name; value = v.0 },
  (is, v.1),
  cut.0 ∙ ap (λ t. name ++ 61 ∷ t) v.2
      ∙ sym (append_assoc name (61 ∷ []) (decimal v.0)),
)

pub spells-operation : (text tx behind : List ℕ) → IsCutAt 91 text tx behind → Spells IsTx decimal tx
    → SpellsAccess behind → Spells IsOperation operation_text text
spells-operation text tx behind cut t a =
    ((t.0, a.0, a.1), (t.1, a.2, a.3), cut.0 ∙ ap₂ (λ s u. s ++ 91 ∷ u) t.2 a.4 ∙ sym (operation-is t.0 a.0 a.1))

pub lacks-access : (text : List ℕ) → Lacks 93 text → HasAccess text → ⊥
lacks-access text lacks has = never 93 text has.0 (61 ∷ has.1) lacks has.2.0

pub no-access : (text name behind : List ℕ) → IsCutAt 93 text name behind → ((more : List ℕ) → behind ≢ 61 ∷ more)
    → HasAccess text → ⊥
no-access text name behind cut other has =
    let same = cut_at_byte 93 name has.0 behind (61 ∷ has.1) (recursion_from_All (λ c. c ≢ 93) name cut.1)
    (recursion_from_All (λ c. c ≢ 93) has.0 has.2.1)
    (sym cut.0 ∙ has.2.0) in
    other has.1 same.1

-- ---- entries

pub spells-entry : (l : ℕ) (line behind : List ℕ) → is_operation_letter l ≡ true → line ≡ l ∷ behind
    → Spells IsOperation operation_text behind → Spells IsEntry entry_text line
spells-entry l line behind is e o =
    let text = λ (b : ℕ) (same : l ≡ b). e ∙ ap₂ (λ c t. c ∷ t) same o.2 in
    elim (or_cases (l == 114) ((l == 119) || ((l == 112) || ((l == 100) || (l == 113)))) is) [
      | inl r ↦ (Read o.0.0 o.0.1 o.0.2, o.1, text 114 (eqb-true l 114 r))
      | inr more ↦ elim (or_cases (l == 119) ((l == 112) || ((l == 100) || (l == 113))) more) [
        | inl w ↦ (Write o.0.0 o.0.1 o.0.2, o.1, text 119 (eqb-true l 119 w))
        | inr more' ↦ elim (or_cases (l == 112) ((l == 100) || (l == 113)) more') [
          | inl p ↦ (Want o.0.0 o.0.1 o.0.2, o.1, text 112 (eqb-true l 112 p))
          | inr last ↦ elim (or_cases (l == 100) (l == 113) last) [
            | inl d ↦ (Add o.0.0 o.0.1 o.0.2, o.1, text 100 (eqb-true l 100 d))
            | inr q ↦ (WantAdd o.0.0 o.0.1 o.0.2, o.1, text 113 (eqb-true l 113 q))
          ]
        ]
      ]
    ]

pub spells-end : (l : ℕ) (line behind : List ℕ) → is_end_letter l ≡ true → line ≡ l ∷ behind
    → Spells IsTx decimal behind → Spells IsEntry entry_text line
spells-end l line behind is e t =
    let text = λ (b : ℕ) (same : l ≡ b). e ∙ ap₂ (λ c s. c ∷ s) same t.2 in
    elim (or_cases (l == 99) ((l == 110) || (l == 97)) is) [
      | inl c ↦ (Commit t.0, t.1, text 99 (eqb-true l 99 c))
      | inr more ↦ elim (or_cases (l == 110) (l == 97) more) [
        | inl n ↦ (Refuse t.0, t.1, text 110 (eqb-true l 110 n))
        | inr a ↦ (Withdraw t.0, t.1, text 97 (eqb-true l 97 a))
      ]
    ]

-- ---- lines

pub spells-site : (line behind : List ℕ) → line ≡ codes "site " ++ behind → Spells IsSite decimal behind → Spells IsLine line_text line
spells-site line behind e k = (Site k.0, k.1, e ∙ ap (λ t. codes "site " ++ t) k.2)

pub spells-item : (line behind : List ℕ) → line ≡ codes "item " ++ behind → Spells IsHolding (λ h. assignment h.item h.value) behind → Spells IsLine line_text line
spells-item line behind e h = (Initial h.0, h.1, e ∙ ap (λ t. codes "item " ++ t) h.2)

pub spells-final : (line behind : List ℕ) → line ≡ codes "final " ++ behind → Spells IsHolding (λ h. assignment h.item h.value) behind → Spells IsLine line_text line
spells-final line behind e h = (Final h.0, h.1, e ∙ ap (λ t. codes "final " ++ t) h.2)

pub spells-logged : (line : List ℕ) → Spells IsEntry entry_text line → Spells IsLine line_text line
spells-logged line e = (Logged e.0, e.1, e.2)

-- ---- the text

pub adds-slip : (line old new : List ℕ) → (s : Slip) × IsSlip line s × (new ≡ old ++ slip_text s) → Adds old new
adds-slip line old new told = (slip_text told.0, told.2)

pub tells-slip : (n : ℕ) (line given old a b new : List ℕ) → a ≡ old ++ notation_head → given ≡ line
    → ShowsNumbered n given a b
    → (s : Slip) × IsSlip given s × (new ≡ b ++ slip_text s) → TellsSlip n line old new
tells-slip n line given old a b new head same shows told = (
  shows.0,
  told.0,
  subst (λ l. IsShown l shows.0) same shows.1,
  subst (λ l. IsSlip l told.0) same told.1,
  told.2 ∙ ap (λ t. t ++ slip_text told.0) (shows.2 ∙ ap (λ t. t ++ (bar n ++ (shows.0 ++ codes "\n"))) head)
      ∙ append_assoc (old ++ notation_head) (bar n ++ (shows.0 ++ codes "\n")) (slip_text told.0)
      ∙ append_assoc old notation_head ((bar n ++ (shows.0 ++ codes "\n")) ++ slip_text told.0),
)

pub printed : (old a b new tail : List ℕ) (byte : ℕ) → a ≡ old ++ codes "`" → b ≡ a ++ byte ∷ [] → new ≡ b ++ tail → new ≡ old ++ (codes "`" ++ (byte ∷ tail))
printed old a b new tail byte e f g =
    g ∙ ap (λ t. t ++ tail) (f ∙ ap (λ t. t ++ byte ∷ []) e) ∙ append_assoc (old ++ codes "`") (byte ∷ []) tail ∙ append_assoc old (codes "`") (byte ∷ tail)
