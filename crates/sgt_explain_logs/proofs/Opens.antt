-- How far a text is read to see whether it is logs: its first lines are not whole before that.
use Rattle.std.proofs.Common.{◌≡◌, ◌≢◌, ◌⊎◌, ℕ, ◌+◌, ◌<◌, ◌≤◌, Bool, List, [], ◌∷◌, ◌++◌, length, map, take, Option, Some, None, inl, inr, refl, sym, ap, ◌∙◌, subst, arith, append_assoc, append-nil, length-append}
use Rattle.std.specs.Prelude.{IfSome, codes}
use Rattle.std.specs.Io.KnownBytes.{Consumes}
use Rattle.std.proofs.lemmas.Bool.{cases_order}
use Rattle.std.proofs.lemmas.List.{append_cancel_left, length-take-le}
use Rattle.std.proofs.lemmas.List.Elements.{All-from_recursion, All-take, recursion_from_All}
use Rattle.std.proofs.Math.Seq.{take-append_seam}
use Rattle.sgt_notation.specs.Spelling.{HasNoLf, line_text, text_of_lines}
use Rattle.sgt_notation.proofs.OneSpelling.{HasNot-from_test}
use Rattle.sgt_notation.proofs.Texts.{line_front}
use Rattle.sgt_bundle.specs.Text.{certificate_text, format_line}
use Rattle.sgt_bundle.proofs.OneText.{format-one_line}
use Rattle.sgt_audit.specs.declared.faults.Fault.{Fault}
use Rattle.sgt_audit.specs.declared.faults.Fault.TheVariants as fault
use Rattle.sgt_audit.specs.Faults.{Stage, start, headed, within, complete, lines_so_far, Piece, whole, last, ComesNext, Rule, Breaks, bytes_of, BeginsNoneBehind, ReadsNoFurther}
use Rattle.sgt_audit.proofs.OneFault.{behind, comes_line}
use Rattle.sgt_audit.proofs.ReaderAtStage.{lf-within}
use Rattle.sgt_explain.proofs.Fronts.{same-behind}
use Rattle.sgt_explain_logs.specs.Explained.{BeginsWith, IsOpenHead, IsPeeked, logs_head}
use Rattle.sgt_explain_logs.proofs.Heads.{fronts}

-- ---- bytes with no LF are within the line that comes next

short-line : (xs more l z : List ℕ) → xs ++ more ≡ l ++ 10 ∷ z → HasNoLf xs → length xs ≤ length l
short-line xs more l z e none = elim (cases_order (length xs) (length l)) [
  | inl same ↦ omega (arith, same)
  | inr (inl less) ↦ omega (arith, less)
  | inr (inr longer) ↦ absurd
      (lf-within l z (length xs) longer
      (recursion_from_All (λ b. b ≢ 10) (take (length xs) (l ++ 10 ∷ z))
      (subst HasNoLf (sym (take-append_seam xs more) ∙ ap (take (length xs)) e) none)))
]

short-piece : (xs more : List ℕ) (p : Piece) → ComesNext (xs ++ more) p → HasNoLf xs → length xs ≤ length (bytes_of p)
short-piece xs more (whole l) (z, is, one) none = short-line xs more l z is none
short-piece xs more (last l) (is, one) none = omega (arith, ap length is, length-append xs more)

within-lines : (ls : List (List ℕ)) (rest xs more : List ℕ) (p : Piece) → text_of_lines ls ++ rest ≡ xs ++ more
    → ComesNext rest p → HasNoLf xs → length xs ≤ length (text_of_lines ls) + length (bytes_of p)
within-lines [] rest xs more p e comes none =
    omega (arith, short-piece xs more p (subst (λ r. ComesNext r p) e comes) none)
within-lines (l ∷ ls) rest xs more p e comes none =
    let front = line_front l ls rest in
    let behind = text_of_lines ls ++ rest in
    omega (
      arith,
      short-line xs more l behind (sym e ∙ front) none,
      ap length front,
      length-append (text_of_lines (l ∷ ls)) rest,
      length-append l (10 ∷ behind),
      length-append (text_of_lines ls) rest,
    )

-- ---- behind the first line

behind-format : (f g : Bool) (xs more rest : List ℕ) (ls : List (List ℕ)) (p : Piece)
    → format_line f ++ 10 ∷ (xs ++ more) ≡ text_of_lines (format_line g ∷ ls) ++ rest → ComesNext rest p → HasNoLf xs
    → length (format_line f) + length xs + 1 ≤ length (text_of_lines (format_line g ∷ ls)) + length (bytes_of p)
behind-format f g xs more rest ls p e comes none =
    let front = line_front (format_line g) ls rest in
    let both = behind f g (xs ++ more) (text_of_lines ls ++ rest) (e ∙ front) in
    omega (
      arith,
      within-lines ls rest xs more p (sym both.1) comes none,
      ap (λ b. length (format_line b)) both.0,
      ap length front,
      length-append (text_of_lines (format_line g ∷ ls)) rest,
      length-append (format_line g) (10 ∷ (text_of_lines ls ++ rest)),
      length-append (text_of_lines ls) rest,
    )

format-holds : (second : Bool) (f : Fault) → Rule start (whole (format_line second)) f
format-holds second fault.Format = (second, refl)
format-holds second _ = tt

beyond-format : (f : Bool) (xs more rest : List ℕ) (s : Stage) (p : Piece) (g : Fault) → HasNoLf xs
    → format_line f ++ 10 ∷ (xs ++ more) ≡ text_of_lines (lines_so_far s) ++ rest → ComesNext rest p
    → Breaks (Rule s p) g
    → length (format_line f) + length xs + 1 ≤ length (text_of_lines (lines_so_far s)) + length (bytes_of p)
beyond-format f xs more rest start p g none e comes breaks =
    absurd
    (breaks.broken
    (subst (λ q. Rule start q g)
    (sym (comes_line (format_line f) (xs ++ more) rest p (format-one_line f) (sym e) comes)) (format-holds f g)))
beyond-format f xs more rest (headed k) p g none e comes breaks = behind-format f k xs more rest [] p e comes none
beyond-format f xs more rest (within k c ls) p g none e comes breaks =
    behind-format f k xs more rest (certificate_text c ∷ map line_text ls) p e comes none
beyond-format f xs more rest (complete k c ls) p g none e comes breaks =
    behind-format f k xs more rest (certificate_text c ∷ map line_text ls) p e comes none

-- ---- the front of a head

format-plain : (second : Bool) → HasNoLf (format_line second)
format-plain second = All-from_recursion (λ b. b ≢ 10) (format_line second) (format-one_line second)

site-plain : HasNoLf (codes "site ")
site-plain = All-from_recursion (λ b. b ≢ 10) (codes "site ") (HasNot-from_test 10 (codes "site ") refl)

front-plain : (xs ys all : List ℕ) → all ≡ xs ++ ys → HasNoLf all → HasNoLf xs
front-plain xs ys all e plain =
    subst HasNoLf (ap (take (length xs)) e ∙ take-append_seam xs ys) (All-take (λ x. x ≢ 10) (length xs) all plain)

in-line-one : (before more : List ℕ) → HasNoLf before → ReadsNoFurther (before ++ more) (length before + 1)
in-line-one before more plain = λ n f first. omega (
  arith,
  within-lines (lines_so_far first.stage) first.rest before more first.next (sym first.text) first.comes plain,
)

in-line-two : (second : Bool) (before xs ys more : List ℕ) → before ≡ format_line second ++ 10 ∷ xs
    → codes "site " ≡ xs ++ ys → ReadsNoFurther (before ++ more) (length before + 1)
in-line-two second before xs ys more is site = λ n f first. omega (
  arith,
  beyond-format second xs more first.rest first.stage first.next f
      (front-plain xs ys (codes "site ") site site-plain)
      (sym (ap (λ (t : List ℕ). t ++ more) is ∙ append_assoc (format_line second) (10 ∷ xs) more) ∙ first.text)
      first.comes first.breaks,
  ap length is,
  length-append (format_line second) (10 ∷ xs),
)

behind-one : (second : Bool) (before rs rest more : List ℕ) → before ≡ format_line second ++ rs
    → 10 ∷ codes "site " ≡ rs ++ rest → ReadsNoFurther (before ++ more) (length before + 1)
behind-one second before [] rest more is e =
    in-line-one before more (subst HasNoLf (sym (is ∙ append-nil (format_line second))) (format-plain second))
behind-one second before (x ∷ xs) rest more is e =
    let head : x ≡ 10 = cc in
    let tail : codes "site " ≡ xs ++ rest = cc in
    in-line-two second before xs rest more (is ∙ ap (λ (b : ℕ). format_line second ++ b ∷ xs) head) tail

open-further : (before more : List ℕ) → IsOpenHead before → ReadsNoFurther (before ++ more) (length before + 1)
open-further before more (second, (rest, e)) =
    elim (fronts before rest (format_line second) (10 ∷ codes "site ") (sym e)) [
      | inl (rs, is) ↦ in-line-one before more (front-plain before rs (format_line second) is (format-plain second))
      | inr (rs, is) ↦ behind-one second before rs rest more is
          (append_cancel_left (format_line second) (10 ∷ codes "site ") (rs ++ rest) (e
          ∙ ap (λ (t : List ℕ). t ++ rest) is ∙ append_assoc (format_line second) rs rest))
    ]

-- ---- of the bytes that a reader tells

opened : (bytes before came left : List ℕ) (given : ℕ) → bytes ≡ before ++ (came ++ left) → length came ≡ given
    → IsOpenHead before → BeginsNoneBehind bytes (length left) given
opened bytes before came left given e size is =
    let far = subst (λ (t : List ℕ). ReadsNoFurther t (length before + 1)) (sym e)
    (open-further before (came ++ left) is) in
    λ n f first. omega (
      arith,
      far n f first,
      ap length e,
      length-append before (came ++ left),
      length-append came left,
      size,
    )

told-opened : (told now : Option (List ℕ)) (text before came : List ℕ) (given : ℕ) → Consumes told now text
    → text ≡ before ++ came → length came ≡ given → IsOpenHead before
    → IfSome told (λ bytes. IfSome now (λ left. BeginsNoneBehind bytes (length left) given))
told-opened None now text before came given took e size is = tt
told-opened (Some bytes) None text before came given took e size is = absurd took
told-opened (Some bytes) (Some left) text before came given took e size is =
    opened bytes before came left given (took ∙ ap (λ (t : List ℕ). t ++ left) e ∙ append_assoc before came left) size is

pub told-peeked : {R : Type 0} (tells : R → Option (List ℕ)) (given : R → ℕ) (old new : R) (text : List ℕ)
    → Consumes (tells old) (tells new) text → IsPeeked old new text (given new)
    → IfSome (tells old) (λ bytes. IfSome (tells new) (λ left. BeginsNoneBehind bytes (length left) (given new)))
told-peeked tells given old new text took (inl same) = same-behind (tells old) (tells new) (given new) (ap tells same)
told-peeked tells given old new text took (inr (before, came, is, e, size)) =
    told-opened (tells old) (tells new) text before came (given new) took e size is

-- and one read more
pub peeked-more : {R : Type 0} (old new : R) (text before buffer : List ℕ) (n given : ℕ) → IsOpenHead before
    → text ≡ before ++ take n buffer → n ≤ length buffer → given ≡ n → IsPeeked old new text given
peeked-more old new text before buffer n given is e le gave =
    inr (before, take n buffer, is, e, length-take-le n buffer le ∙ sym gave)

pub consumed : (told mid now : Option (List ℕ)) (text new more : List ℕ) → Consumes told mid text
    → Consumes mid now more → new ≡ text ++ more → Consumes told now new
consumed None mid now text new more took later e = tt
consumed (Some xs) None now text new more took later e = absurd took
consumed (Some xs) (Some ys) None text new more took later e = absurd later
consumed (Some xs) (Some ys) (Some zs) text new more took later e =
    took ∙ ap (λ (t : List ℕ). text ++ t) later ∙ sym (append_assoc text more zs)
    ∙ ap (λ (t : List ℕ). t ++ zs) (sym e)
