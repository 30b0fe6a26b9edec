-- What a page shows of an answer.
use Rattle.std.specs.Prelude.{◌≡◌, ◌≢◌, ◌<◌, ◌≤◌, ◌==◌, ◌⊎◌, ◌++◌, ◌∷◌, [], ℕ, List, Some, codes, length, slice_get}
use Rattle.std.specs.List.{after_first, before_first, position_or_len}
use Rattle.sgt_page.specs.Page.{Shown, fixed, page_text}
use Rattle.sgt_page.specs.Verdict.{IsVerdict}
use Rattle.sgt_page.specs.declared.answer.Answered.{Answered}
use Rattle.sgt_page.specs.declared.answer.TheConstants.{LEFT_OUT}

-- the command, and the file that it read
abbrev pub title_of : Answered → List ℕ
title_of answer = codes "sgt " ++ (answer.command.now ++ (codes " " ++ answer.file.now))

-- it ends with an LF, or is empty
abbrev pub IsOfLines : List ℕ → Type 0
IsOfLines front = (front ≡ []) ⊎ ((lines : List ℕ) × (front ≡ lines ++ 10 ∷ []))

-- no line ends from here to there
abbrev pub HasNoLineEnd : (text : List ℕ) → (here there : ℕ) → Type 0
HasNoLineEnd text here there = (at : ℕ) → here ≤ at → at < there → slice_get text at ≢ Some 10

-- the front is all of the text where that has 16,384 bytes at most, and else the lines that end within so many
abbrev pub IsFrontOf : (front text : List ℕ) → Type 0
IsFrontOf front text = ((rest : List ℕ) × (text ≡ front ++ rest)) × (length text ≤ 16384 → front ≡ text)
    × (16384 < length text → (length front ≤ 16384) × IsOfLines front × HasNoLineEnd text (length front) 16384)

-- the first line of the text, and what stands behind its LF; or all of the text, where it has none
abbrev pub IsCutAtLine : (text first behind : List ℕ) → Type 0
IsCutAtLine text first behind = ((position_or_len (λ b. b == 10) text < length text)
    × (first ≡ before_first (λ b. b == 10) text) × (behind ≡ after_first (λ b. b == 10) text))
    ⊎ ((position_or_len (λ b. b == 10) text ≡ length text) × (first ≡ text) × (behind ≡ []))

-- the picture itself, or where it has more than 131,072 bytes the line that says so
abbrev pub IsSmall : (picture shown : List ℕ) → Type 0
IsSmall picture shown = ((length picture ≤ 131072) × (shown ≡ picture))
    ⊎ ((131072 < length picture) × (shown ≡ LEFT_OUT.now))

-- the page has the command and the file for its title, for its verdict what the answer's first line says, in a
-- sentence, the picture unless it is too large, the rule, and of the answer's text its front
pub record IsPageOf (answer : Answered) (page : List ℕ) : Type 0 where
  pub shown : Shown
  pub title : shown.title ≡ title_of answer
  pub first : List ℕ
  pub behind : List ℕ
  pub line : IsCutAtLine answer.text.now first behind
  pub verdict : IsVerdict answer.command.now first shown.verdict
  pub picture : IsSmall answer.picture.now shown.picture
  pub rule : IsCutAtLine answer.rule.now shown.name shown.meaning
  pub text : IsFrontOf shown.text answer.text.now
  pub is : page ≡ page_text fixed shown
