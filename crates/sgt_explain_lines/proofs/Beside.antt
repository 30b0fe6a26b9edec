-- What is said of an entry, put together of its parts.
use Rattle.std.proofs.Common.{◌≡◌, ℕ, List, ◌++◌, codes, Option, subst, ap, ◌∙◌, append_assoc}
use Rattle.sgt_names.specs.Name.{Name}
use Rattle.sgt_explain_lines.specs.declared.section.Logged.{Logged}
use Rattle.sgt_explain_lines.specs.declared.section.Stated.{Stated}
use Rattle.sgt_explain_lines.specs.Told.{shown_line, ShowsNumbered, bar}
use Rattle.sgt_explain_lines.specs.Beside.{AreNearest, item_words, nearest_text, ShowsNearest, IsRepeated, twice_head, line_if_there, repeating_text, ShowsTwice, block_head, block_rule, ShowsBlock}

three : (t a b c : List ℕ) → ((t ++ a) ++ b) ++ c ≡ t ++ (a ++ (b ++ c))
three t a b c = append_assoc (t ++ a) b c ∙ append_assoc t a (b ++ c)

pub shows-nearest : (items given : List Stated) (x own : Name) (site k : ℕ) (l : Logged) (before behind : Option Name)
    (old a b new : List ℕ) → given ≡ items → own ≡ x → k ≡ site
    → AreNearest given own before behind → a ≡ old ++ item_words own k → b ≡ a ++ shown_line l
    → new ≡ b ++ nearest_text before behind → ShowsNearest items x site l old new
shows-nearest items given x own site k l before behind old a b new same named at near one two more = (
  before,
  behind,
  subst (λ y. AreNearest items y before behind) named (subst (λ ss. AreNearest ss own before behind) same near),
  more ∙ ap (λ t. t ++ nearest_text before behind) (two
      ∙ ap (λ t. t ++ shown_line l) (one ∙ ap (λ y. old ++ item_words y k) named ∙ ap (λ n. old ++ item_words x n) at))
      ∙ three old (item_words x site) (shown_line l) (nearest_text before behind),
)

pub shows-twice : (entries given : List Logged) (x own : Name) (site k : ℕ) (l : Logged) (first : Option Logged)
    (old a b new : List ℕ) → given ≡ entries → own ≡ x → k ≡ site
    → IsRepeated given own l.entry first → a ≡ old ++ twice_head l.entry own k → b ≡ a ++ line_if_there first
    → new ≡ b ++ repeating_text l → ShowsTwice entries x site l old new
shows-twice entries given x own site k l first old a b new same named at repeated one two more = (
  first,
  subst (λ y. IsRepeated entries y l.entry first) named (subst (λ ls. IsRepeated ls own l.entry first) same repeated),
  more ∙ ap (λ t. t ++ repeating_text l) (two
      ∙ ap (λ t. t ++ line_if_there first) (one ∙ ap (λ y. old ++ twice_head l.entry y k) named
      ∙ ap (λ n. old ++ twice_head l.entry x n) at))
      ∙ three old (twice_head l.entry x site) (line_if_there first) (repeating_text l),
)

five : (t a b c d e : List ℕ) → ((((t ++ a) ++ b) ++ c) ++ d) ++ e ≡ t ++ (a ++ (b ++ (c ++ (d ++ e))))
five t a b c d e = append_assoc (((t ++ a) ++ b) ++ c) d e ∙ append_assoc ((t ++ a) ++ b) c (d ++ e)
    ∙ three t a b (c ++ (d ++ e))

pub shows-block : (l : Logged) (n : ℕ) (text old a b c d new : List ℕ) → a ≡ old ++ block_head l.entry → b ≡ a ++ shown_line l → c ≡ b ++ codes "\n" → ShowsNumbered n text c d
    → new ≡ d ++ block_rule l → ShowsBlock l n text old new
shows-block l n text old a b c d new one two three' s more =
    let line = bar n ++ (s.0 ++ codes "\n") in (
      s.0,
      s.1,
      more ∙ ap (λ t. t ++ block_rule l) (s.2 ∙ ap (λ t. t ++ line) (three' ∙ ap (λ t. t ++ codes "\n") (two ∙ ap (λ t. t ++ shown_line l) one)))
          ∙ five old (block_head l.entry) (shown_line l) (codes "\n") line (block_rule l),
    )
