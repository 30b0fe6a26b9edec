-- A text spells one history, and none where a line can't be read.
use Rattle.std.proofs.Common.{◌≡◌, ◌≢◌, ℕ, suc, ◌+◌, ◌<◌, ◌≤◌, List, [], ◌∷◌, ◌++◌, Some, length, take, refl, sym, ap, ap₂, ◌∙◌, subst, arith, inl, inr, ◌⊎◌, append_assoc, append-nil, Contains}
use Rattle.std.specs.List.{AllByRecursion}
use Rattle.std.specs.Prelude.{slice_get}
use Rattle.std.proofs.lemmas.List.Elements.{recursion_from_All}
use Rattle.json.specs.Json.{Json}
use Rattle.sgt_names.proofs.Places.{Contains_at}
use Rattle.sgt_names.proofs.Lists.{front_at, middle_at}
use Rattle.sgt_notation.specs.Lines.{IsLongerThan}
use Rattle.sgt_notation.specs.Spelling.{HasNoLf, text_of_lines}
use Rattle.sgt_notation.proofs.OneSpelling.{HasNot, cut_at_byte}
use Rattle.sgt_history.specs.Serial.{StandOnce}
use Rattle.sgt_history.specs.Transaction.{Transaction}
use Rattle.sgt_history_text.specs.Line.{IsLine}
use Rattle.sgt_history_text.specs.Text.{AreLines, Blocks, IsFirstUnreadable, IsInFront, LacksLastLf, SpellEach, Spells, longest_line}
use Rattle.sgt_history_text.specs.declared.fault.LineFault.{LineFault}
use Rattle.sgt_history_text.specs.declared.fault.LineFault.TheVariants.{NotALine, TooLong, IdAgain}
use Rattle.sgt_check.proofs.OneLine.{line-one}
use Rattle.sgt_notation.proofs.Texts.{has_no_lf, line_front}

-- ---- lines

pub no_lf_in : (l m : List ℕ) → HasNot 10 (l ++ 10 ∷ m) → ⊥
no_lf_in [] m h = h.0 refl
no_lf_in (x ∷ l) m h = no_lf_in l m h.1

-- whole lines, and what stands behind them has_no_lf an LF, are cut in one way
cut-one : (xs ys : List (List ℕ)) (r s : List ℕ) → AllByRecursion (HasNot 10) xs → AllByRecursion (HasNot 10) ys
    → HasNot 10 r → HasNot 10 s
    → text_of_lines xs ++ r ≡ text_of_lines ys ++ s → (xs ≡ ys) × (r ≡ s)
cut-one [] [] r s h g hr hs e = (refl, e)
cut-one [] (y ∷ ys) r s h g hr hs e =
    absurd (no_lf_in y (text_of_lines ys ++ s) (subst (HasNot 10) (e ∙ line_front y ys s) hr))
cut-one (x ∷ xs) [] r s h g hr hs e =
    absurd (no_lf_in x (text_of_lines xs ++ r) (subst (HasNot 10) (sym e ∙ line_front x xs r) hs))
cut-one (x ∷ xs) (y ∷ ys) r s h g hr hs e =
    let cut = cut_at_byte 10 x y (text_of_lines xs ++ r) (text_of_lines ys ++ s) h.0 g.0 (sym (line_front x xs r) ∙ e
    ∙ line_front y ys s) in
    let rest = cut-one xs ys r s h.1 g.1 hr hs cut.1 in
    (ap₂ (λ (z : List ℕ) (zs : List (List ℕ)). z ∷ zs) cut.0 rest.0, rest.1)

-- the lines of a text as whole ones and what stands behind them
pub record Whole (lines : List (List ℕ)) (bytes : List ℕ) : Type 0 where
  pub xs : List (List ℕ)
  pub r : List ℕ
  pub no_lf : AllByRecursion (HasNot 10) xs
  pub none : HasNot 10 r
  pub bytes_are : bytes ≡ text_of_lines xs ++ r
  pub lines_are : ((r ≡ []) × (lines ≡ xs)) ⊎ ((r ≢ []) × (lines ≡ xs ++ r ∷ []))

no_lf-front : (xs : List (List ℕ)) (y : List ℕ) → AllByRecursion (HasNot 10) (xs ++ y ∷ [])
    → AllByRecursion (HasNot 10) xs × HasNot 10 y
no_lf-front [] y h = (tt, h.0)
no_lf-front (x ∷ xs) y h = let rest = no_lf-front xs y h.1 in ((h.0, rest.0), rest.1)

pub whole : (lines : List (List ℕ)) (bytes : List ℕ) → AllByRecursion (HasNot 10) lines → AreLines lines bytes
    → Whole lines bytes
whole lines bytes h (inl e) = record {
  xs = lines;
  r = [];
  no_lf = h;
  none = tt;
  bytes_are = e ∙ sym (append-nil (text_of_lines lines));
  lines_are = inl (refl, refl);
}
whole lines bytes h (inr l) =
    let parts = no_lf-front l.front l.last (subst (AllByRecursion (HasNot 10)) l.lines_are h) in
    record {
      xs = l.front;
      r = l.last;
      no_lf = parts.0;
      none = parts.1;
      bytes_are = l.bytes_are;
      lines_are =
          inr (l.some_byte, l.lines_are);
    }

pub lines-one : (lines lines' : List (List ℕ)) (bytes : List ℕ) → Whole lines bytes → Whole lines' bytes
    → lines ≡ lines'
lines-one lines lines' bytes a b =
    let cut = cut-one a.xs b.xs a.r b.r a.no_lf b.no_lf a.none b.none (sym a.bytes_are ∙ b.bytes_are) in
    elim a.lines_are [
      | inl (none, is) ↦ elim b.lines_are [
        | inl (none', is') ↦ is ∙ cut.0 ∙ sym is'
        | inr (some, is') ↦ absurd (some (sym cut.1 ∙ none))
      ]
      | inr (some, is) ↦ elim b.lines_are [
        | inl (none, is') ↦ absurd (some (cut.1 ∙ none))
        | inr (some', is') ↦ is ∙ ap₂ (λ (zs : List (List ℕ)) (z : List ℕ). zs ++ z ∷ []) cut.0 cut.1 ∙ sym is'
      ]
    ]

pub spelled-no_lf : (lines : List (List ℕ)) (ids : List Json) (h : List (Transaction Json Json))
    → SpellEach lines ids h → AllByRecursion (HasNot 10) lines
spelled-no_lf [] ids h s = tt
spelled-no_lf (line ∷ lines) [] h s = absurd s
spelled-no_lf (line ∷ lines) (id ∷ ids) [] s = absurd s
spelled-no_lf (line ∷ lines) (id ∷ ids) (t ∷ ts) s = (has_no_lf line s.0, spelled-no_lf lines ids ts s.3)

-- ---- transactions

pub each-one : (lines : List (List ℕ)) (ids ids' : List Json) (h h' : List (Transaction Json Json))
    → SpellEach lines ids h → SpellEach lines ids' h'
    → (ids ≡ ids') × (h ≡ h')
each-one [] [] [] [] [] s s' = (refl, refl)
each-one [] [] (id' ∷ ids') h h' s s' = absurd s'
each-one [] [] [] [] (t' ∷ h') s s' = absurd s'
each-one [] [] [] (t ∷ h) h' s s' = absurd s
each-one [] (id ∷ ids) ids' h h' s s' = absurd s
each-one (line ∷ lines) [] ids' h h' s s' = absurd s
each-one (line ∷ lines) (id ∷ ids) [] h h' s s' = absurd s'
each-one (line ∷ lines) (id ∷ ids) (id' ∷ ids') [] h' s s' = absurd s
each-one (line ∷ lines) (id ∷ ids) (id' ∷ ids') (t ∷ h) [] s s' = absurd s'
each-one (line ∷ lines) (id ∷ ids) (id' ∷ ids') (t ∷ h) (t' ∷ h') s s' =
    let first = line-one line id id' t t' s.2 s'.2 in
    let rest = each-one lines ids ids' h h' s.3 s'.3 in (
      ap₂ (λ (x : Json) (xs : List Json). x ∷ xs) first.0 rest.0,
      ap₂ (λ (x : Transaction Json Json) (xs : List (Transaction Json Json)). x ∷ xs) first.1 rest.1,
    )

pub history-one : (bytes : List ℕ) (ids ids' : List Json) (h h' : List (Transaction Json Json)) → Spells bytes ids h
    → Spells bytes ids' h' → (ids ≡ ids') × (h ≡ h')
history-one bytes ids ids' h h' a b =
    let same = lines-one a.lines b.lines bytes (whole a.lines bytes (spelled-no_lf a.lines ids h a.spell) a.are_lines)
    (whole b.lines bytes (spelled-no_lf b.lines ids' h' b.spell) b.are_lines) in
    each-one b.lines ids ids' h h' (subst (λ (ls : List (List ℕ)). SpellEach ls ids h) same a.spell) b.spell
