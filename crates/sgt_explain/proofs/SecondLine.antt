-- The second line of a text.
use Rattle.std.proofs.Common.{◌≡◌, ◌≢◌, ℕ, ◌+◌, List, [], ◌∷◌, ◌++◌, length, All, inl, inr, refl, sym, ap, ◌∙◌, subst, arith}
use Rattle.std.specs.Prelude.{◌⊎◌}
use Rattle.std.proofs.lemmas.List.Elements.{All-from_recursion, recursion_from_All}
use Rattle.sgt_notation.specs.Spelling.{HasNoLf, text_of_lines}
use Rattle.sgt_notation.proofs.Texts.{line_front}
use Rattle.sgt_audit.proofs.OneFault.{has_lf}
use Rattle.sgt_bundle.specs.Text.{certificate_text, IsCertificate}
use Rattle.sgt_bundle.specs.declared.certificate.Certificate.{Certificate}
use Rattle.sgt_bundle.proofs.OneLine.{certificate-one_line}
use Rattle.sgt_explain_lines.specs.Numbered.{IsLineAt}
use Rattle.sgt_explain_lines.proofs.Numbering.{line-cut}
use Rattle.sgt_explain.specs.Asked.{HoldsCertificate}

-- what stands behind the first line of a text, which has a second
pub record IsBehind (bytes line : List ℕ) : Type 0 where
  pub first : List ℕ
  pub behind : List ℕ
  pub plain : HasNoLf first
  pub text : bytes ≡ first ++ 10 ∷ behind
  pub one : ((rest : List ℕ) × (behind ≡ line ++ 10 ∷ rest)) ⊎ (behind ≡ line)

front-of : (bytes line : List ℕ) (before : List (List ℕ)) (rest : List ℕ) → All HasNoLf before → 2 ≡ length before + 1
    → (bytes ≡ text_of_lines before ++ (line ++ 10 ∷ rest)) ⊎ ((bytes ≡ text_of_lines before ++ line) × (line ≢ []))
    → IsBehind bytes line
front-of bytes line [] rest whole counted text = absurd (omega (arith, counted))
front-of bytes line (first ∷ []) rest whole counted (inl text) = record {
  first = first;
  behind = line ++ 10 ∷ rest;
  plain = (recursion_from_All HasNoLf (first ∷ []) whole).0;
  text = text ∙ line_front first [] (line ++ 10 ∷ rest);
  one = inl (rest, refl);
}
front-of bytes line (first ∷ []) rest whole counted (inr text) = record {
  first = first;
  behind = line;
  plain = (recursion_from_All HasNoLf (first ∷ []) whole).0;
  text = text.0 ∙ line_front first [] line;
  one = inr refl;
}
front-of bytes line (first ∷ second ∷ before) rest whole counted text = absurd (omega (arith, counted))

behind-of : (bytes line : List ℕ) → IsLineAt bytes 2 line → IsBehind bytes line
behind-of bytes line at = front-of bytes line at.before at.rest at.whole at.counted at.text

-- ---- what is cut off

pub cut-line : (bytes line first behind l rest : List ℕ) → IsLineAt bytes 2 line → HasNoLf first
    → bytes ≡ first ++ 10 ∷ behind → HasNoLf l → behind ≡ l ++ 10 ∷ rest → l ≡ line
cut-line bytes line first behind l rest at plain text one cut =
    let there = behind-of bytes line at in
    let same = (line-cut there.first first there.behind behind bytes there.plain plain there.text text).1 in
    elim there.one [
      | inl more ↦ (line-cut l line rest more.0 behind one at.one cut (sym same ∙ more.1)).0
      | inr all ↦ absurd (has_lf l rest (subst HasNoLf (sym all ∙ same ∙ cut) at.one))
    ]

pub last-line : (bytes line first behind : List ℕ) → IsLineAt bytes 2 line → HasNoLf first
    → bytes ≡ first ++ 10 ∷ behind → HasNoLf behind → behind ≡ line
last-line bytes line first behind at plain text one =
    let there = behind-of bytes line at in
    let same = (line-cut there.first first there.behind behind bytes there.plain plain there.text text).1 in
    elim there.one [
      | inl more ↦ absurd (has_lf line more.0 (subst HasNoLf (sym same ∙ more.1) one))
      | inr all ↦ sym same ∙ all
    ]

pub no-line : (bytes line : List ℕ) → IsLineAt bytes 2 line → HasNoLf bytes → ⊥
no-line bytes line at none =
    let there = behind-of bytes line at in has_lf there.first there.behind (subst HasNoLf there.text none)

-- ---- it is the second line

pub line-there : (bytes first behind l rest : List ℕ) → HasNoLf first → bytes ≡ first ++ 10 ∷ behind → HasNoLf l
    → behind ≡ l ++ 10 ∷ rest → IsLineAt bytes 2 l
line-there bytes first behind l rest plain text one cut = record {
  before = first ∷ [];
  rest = rest;
  whole = All-from_recursion HasNoLf (first ∷ []) (plain, tt);
  one = one;
  text = inl (text ∙ ap (λ b. first ++ 10 ∷ b) cut ∙ sym (line_front first [] (l ++ 10 ∷ rest)));
  counted = refl;
}

pub last-there : (bytes first behind : List ℕ) → HasNoLf first → bytes ≡ first ++ 10 ∷ behind → HasNoLf behind
    → (behind ≡ []) ⊎ IsLineAt bytes 2 behind
last-there bytes first [] plain text one = inl refl
last-there bytes first (b ∷ behind) plain text one = inr (record {
  before = first ∷ [];
  rest = [];
  whole = All-from_recursion HasNoLf (first ∷ []) (plain, tt);
  one = one;
  text = inr (text ∙ sym (line_front first [] (b ∷ behind)), some);
  counted = refl;
})
  where
    some : b ∷ behind ≢ []
    some e = cc

-- ---- a certificate

pub held-line : (bytes front rest : List ℕ) (c : Certificate) → HasNoLf front → IsCertificate c
    → bytes ≡ front ++ 10 ∷ (certificate_text c ++ 10 ∷ rest) → HoldsCertificate bytes c
held-line bytes front rest c plain is text = (
  is,
  line-there bytes front (certificate_text c ++ 10 ∷ rest) (certificate_text c) rest plain text
      (All-from_recursion (λ b. b ≢ 10) (certificate_text c) (certificate-one_line c is)) refl,
)

no-text : (c : Certificate) → [] ≡ certificate_text c → ⊥
no-text c e = cc

-- a line that is there or empty, and is the text of a certificate, is there
pub line-held : (bytes line : List ℕ) (c : Certificate) → (line ≡ []) ⊎ IsLineAt bytes 2 line → IsCertificate c
    → line ≡ certificate_text c → HoldsCertificate bytes c
line-held bytes line c (inl none) is text = absurd (no-text c (sym none ∙ text))
line-held bytes line c (inr at) is text = (is, subst (IsLineAt bytes 2) text at)
