-- Bytes are the lines of an input or have a first line that can't be read, where it is known of all lines whether an
-- input may begin with them.
use Rattle.std.proofs.Common.{◌≡◌, ◌≢◌, ℕ, zero, suc, ◌+◌, ◌≤◌, List, [], ◌∷◌, ◌++◌, length, take, refl, sym, ap, ◌∙◌, subst, arith, inl, inr, ◌⊎◌}
use Rattle.std.proofs.lemmas.Bool.{cases_eq, cases_lt}
use Rattle.std.proofs.lemmas.List.{append-nil, length-append, take-append-le}
use Rattle.std.proofs.lemmas.List.Elements.{All-from_recursion}
use Rattle.sgt_names.proofs.Lists.{list_cases}
use Rattle.sgt_names.specs.Limits.{max_line}
use Rattle.sgt_notation.specs.Spelling.{HasNoLf, text_of_lines}
use Rattle.sgt_notation.specs.declared.fault.NotationFault.{NotationFault}
use Rattle.sgt_notation.specs.declared.fault.NotationFault.TheVariants.{NotALine, TooLong}
use Rattle.sgt_notation.proofs.Decidable.{Decidable}
use Rattle.sgt_notation.proofs.OneSpelling.{HasNot}
use Rattle.sgt_input.specs.Unreadable.{Blocks, IsFirstUnreadable}
use Rattle.sgt_notation.proofs.Texts.{text-one_line}

pub no_lf : (xs : List ℕ) → HasNot 10 xs → HasNoLf xs
no_lf xs h = All-from_recursion (λ b. b ≢ 10) xs h

-- ---- what comes first

-- bytes behind a first line, which has its LF
record IsCut (bytes : List ℕ) : Type 0 where
  line : List ℕ
  more : List ℕ
  none : HasNot 10 line
  text : bytes ≡ line ++ 10 ∷ more

cut : (bytes : List ℕ) → HasNot 10 bytes ⊎ IsCut bytes
cut [] = inl tt
cut (b ∷ bytes) =
    elim (cases_eq b 10) [
      | inl lf ↦ inr (record { line = []; more = bytes; none = tt; text = ap (λ c. c ∷ bytes) lf })
      | inr other ↦
          elim (cut bytes) [
            | inl none ↦ inl (other, none)
            | inr c ↦ inr (record {
              line = b ∷ c.line;
              more = c.more;
              none = (other, c.none);
              text =
                  ap (λ cs. b ∷ cs) c.text;
            })
          ]
    ]

front-none : (n : ℕ) (xs : List ℕ) → HasNot 10 xs → HasNot 10 (take n xs)
front-none zero xs h = tt
front-none (suc n) [] h = tt
front-none (suc n) (x ∷ xs) h = (h.0, front-none n xs h.1)

-- ---- one of the two

-- the bytes are some lines that an input may begin with
abbrev pub IsRead : (List (List ℕ) → Type 0) → List ℕ → Type 0
IsRead begins bytes = (lines : List (List ℕ)) × begins lines × (lines ≢ []) × (bytes ≡ text_of_lines lines)

-- they have a first line that can't be read
abbrev pub HasUnreadable : (List (List ℕ) → Type 0) → List ℕ → Type 0
HasUnreadable begins bytes = (n : ℕ) × (f : NotationFault) × IsFirstUnreadable begins bytes n f

module _ (begins : List (List ℕ) → Type 0) (known : (lines : List (List ℕ))
    → Decidable (begins lines)) (bytes : List ℕ) where
  abbrev Told : Type 0
  Told = IsRead begins bytes ⊎ HasUnreadable begins bytes

  module _ (before : List (List ℕ)) (rest : List ℕ) (text : bytes ≡ text_of_lines before ++ rest)
      (begun : begins before) where
    blocked : (f : NotationFault) → Blocks begins before rest f → Told
    blocked f blocks =
        inr (
          length before + 1,
          f,
          record {
            before = before;
            rest = rest;
            text = text;
            begun = begun;
            number =
                refl;
            blocks = blocks;
          },
        )

    whole : rest ≡ [] → before ≢ [] → Told
    whole none some =
        inl (
          before,
          begun,
          some,
          text ∙ ap (λ (t : List ℕ). text_of_lines before ++ t) none
              ∙ append-nil (text_of_lines before),
        )

    -- no LF comes any more
    ending : HasNot 10 rest → Told
    ending none =
        elim (cases_lt max_line (length rest)) [
          | inl long ↦ blocked TooLong (long, no_lf (take (suc max_line) rest) (front-none (suc max_line) rest none))
          | inr short ↦
              elim (list_cases rest) [
                | inl empty ↦
                    elim (list_cases before) [
                      | inl nothing ↦ blocked NotALine
                          (inr (record { none = no_lf rest none; short = short; empty = λ _. nothing }))
                      | inr some ↦ whole empty (λ nothing. let same : some.0 ∷ some.1 ≡ [] = sym some.2 ∙ nothing in cc)
                    ]
                | inr more ↦
                    blocked NotALine
                    (inr (record {
                      none = no_lf rest none;
                      short = short;
                      empty =
                          λ empty. let same : more.0 ∷ more.1 ≡ [] = sym more.2 ∙ empty in cc;
                    }))
              ]
        ]

    -- a line comes, which may stand there or not
    going : (c : IsCut rest) → (begins (before ++ c.line ∷ []) → Told) → Told
    going c on =
        elim (cases_lt max_line (length c.line)) [
          | inl long ↦
              let all = ap length c.text in
              let sum = length-append c.line (10 ∷ c.more) in
              let front : take (suc max_line) rest ≡ take (suc max_line) c.line =
              ap (take (suc max_line)) c.text
              ∙ take-append-le (suc max_line) c.line (10 ∷ c.more) (omega (arith, long)) in
              blocked TooLong (
                omega (arith, long, all, sum),
                subst HasNoLf (sym front)
                    (no_lf (take (suc max_line) c.line) (front-none (suc max_line) c.line c.none)),
              )
          | inr short ↦
              elim (known (before ++ c.line ∷ [])) [
                | inl goes ↦ on goes
                | inr never ↦ blocked NotALine
                    (inl (record {
                      line = c.line;
                      more = c.more;
                      text = c.text;
                      none = no_lf c.line c.none;
                      short =
                          short;
                      not = never;
                    }))
              ]
        ]

  told-from : (k : ℕ) (before : List (List ℕ)) (rest : List ℕ) → length rest ≤ k
      → bytes ≡ text_of_lines before ++ rest → begins before → Told
  told-from zero before rest size text begun =
      elim (cut rest) [
        | inl none ↦ ending before rest text begun none
        | inr c ↦
            let all = ap length c.text in
            let sum = length-append c.line (10 ∷ c.more) in
            absurd (omega (arith, size, all, sum))
      ]
  told-from (suc k) before rest size text begun =
      elim (cut rest) [
        | inl none ↦ ending before rest text begun none
        | inr c ↦
            let all = ap length c.text in
            let sum = length-append c.line (10 ∷ c.more) in
            going before rest text begun c (λ goes.
            told-from k (before ++ c.line ∷ []) c.more (omega (arith, size, all, sum))
            (text ∙ ap (λ (t : List ℕ). text_of_lines before ++ t) c.text
            ∙ sym (text-one_line before c.line c.more)) goes)
      ]

  -- there is always one of the two
  pub read-or_not : begins [] → Told
  read-or_not none = told-from (length bytes) [] bytes (omega arith) refl none
