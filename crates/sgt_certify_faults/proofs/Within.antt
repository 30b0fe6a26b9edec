-- The lines that stand whole in a text, and the faults behind them.
use Rattle.std.proofs.Common.{◌≡◌, ℕ, ◌+◌, Bool, List, [], ◌∷◌, ◌++◌, length, map, cond, refl, sym, ap, ◌∙◌, subst, arith, append_assoc}
use Rattle.std.specs.Prelude.{◌==◌, count_by}
use Rattle.std.specs.List.{AllByRecursion}
use Rattle.std.proofs.lemmas.Bool.{ne_eqb}
use Rattle.std.proofs.lemmas.List.{append-nil}
use Rattle.std.proofs.lemmas.List.Sums.{sum_by-append, sum_by-cons}
use Rattle.sgt_notation.specs.Spelling.{HasNoLf, IsLine, line_text, text_of_lines}
use Rattle.sgt_notation.specs.declared.SectionLine.{SectionLine}
use Rattle.sgt_notation.proofs.OneSpelling.{HasNot, line-one_line}
use Rattle.sgt_notation.proofs.Texts.{has_no_lf, line_front}
use Rattle.sgt_bundle.specs.Text.{format_line}
use Rattle.sgt_bundle.proofs.OneText.{format-one_line}
use Rattle.sgt_audit.specs.Reading.{Begun, lines_read}
use Rattle.sgt_audit.proofs.Formats.{lines-of}
use Rattle.sgt_audit.proofs.ReaderAtStage.{piece}
use Rattle.sgt_certify_faults.specs.Faults.{AreSpelled, Front, HasFault, HasNoFaultWithin, behind, lines_of, none}
use Rattle.sgt_certify_faults.specs.private.Reading.{IsReadTo}
use Rattle.sgt_certify_faults.proofs.FirstFaults.{kept-lines, later-fault}
use Rattle.sgt_certify_faults.proofs.ReadLines.{kept-each, whole-text}

-- how many LFs there are
abbrev pub lfs : List ℕ → ℕ
lfs bytes = count_by (λ b. b == 10) bytes

none-counted : (xs : List ℕ) → HasNot 10 xs → lfs xs ≡ 0
none-counted [] empty = refl
none-counted (x ∷ xs) empty =
    let flag : Bool → ℕ = λ b. cond b 1 0 in
    let own : flag (x == 10) ≡ 0 = ap flag (ne_eqb x 10 empty.0) in
    omega (arith, sum_by-cons (λ (b : ℕ). flag (b == 10)) x xs, own, none-counted xs empty.1)

line-counted : (l rest : List ℕ) → HasNot 10 l → lfs (l ++ 10 ∷ rest) ≡ lfs rest + 1
line-counted l rest empty =
    let one : lfs (10 ∷ rest) ≡ 1 + lfs rest = sum_by-cons (λ (b : ℕ). cond (b == 10) 1 0) 10 rest in
    omega (arith, sum_by-append (λ (b : ℕ). cond (b == 10) 1 0) l (10 ∷ rest), none-counted l empty, one)

lines-counted : (ls : List (List ℕ)) (rest : List ℕ) → AllByRecursion (HasNot 10) ls
    → lfs (text_of_lines ls ++ rest) ≡ length ls + lfs rest
lines-counted [] rest each = omega arith
lines-counted (l ∷ ls) rest each =
    ap lfs (line_front l ls rest) ∙ line-counted l (text_of_lines ls ++ rest) each.0
    ∙ omega (arith, lines-counted ls rest each.1)

each-one_line : (xs : List SectionLine) → AllByRecursion IsLine xs → AllByRecursion (HasNot 10) (map line_text xs)
each-one_line [] each = tt
each-one_line (x ∷ xs) each = (line-one_line x each.0, each-one_line xs each.1)

-- in whole lines there are as many as lines
pub front-counted : (front : Front) → AreSpelled front → lfs (text_of_lines (lines_of front)) ≡ length (lines_of front)
front-counted none spelled = refl
front-counted (behind second xs) spelled =
    let lines = lines_of (behind second xs) in
    ap lfs (sym (append-nil (text_of_lines lines)))
    ∙ lines-counted lines []
    (format-one_line second, each-one_line xs (lines-of second xs spelled))
    ∙ omega arith

-- where no line stands whole
pub no-line : (text : List ℕ) → HasNoLf text → HasNoFaultWithin text
no-line text empty more n f h = omega (arith, h.number, none-counted text (has_no_lf text empty))

-- where the lines were read
pub none-within : (second : Bool) (bytes : List ℕ) (count : ℕ) (b : Begun) (rest : List ℕ)
    → IsReadTo second bytes count b rest → HasNoLf rest → HasNoFaultWithin (format_line second ++ 10 ∷ bytes)
none-within second bytes count b rest r empty more n f h =
    let lines = lines_of (behind second (lines_read b)) in
    let here : HasFault (format_line second ++ 10 ∷ (bytes ++ more)) n f =
    subst (λ (t : List ℕ). HasFault t n f) (append_assoc (format_line second) (10 ∷ bytes) more) h in
    let next = piece (rest ++ more) in
    let later =
    later-fault (format_line second ++ 10 ∷ (bytes ++ more)) (behind second (lines_read b)) (rest ++ more) next.0 r.kept
    (kept-each second (lines_read b) r.kept) next.1 (whole-text second bytes more count b rest r) n f here in
    let text : format_line second ++ 10 ∷ bytes ≡ text_of_lines lines ++ rest =
    ap (λ (t : List ℕ). format_line second ++ 10 ∷ t) r.text
    ∙ sym (line_front (format_line second) (map line_text (lines_read b)) rest) in
    let counted : lfs (text_of_lines lines ++ rest) ≡ length lines + lfs rest =
    lines-counted lines rest
    (format-one_line second, each-one_line (lines_read b) (kept-lines second (lines_read b) r.kept)) in
    omega (arith, later, ap lfs text, counted, none-counted rest (has_no_lf rest empty))
