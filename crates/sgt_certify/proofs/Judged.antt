-- Lines that were judged while a text was read.
use Rattle.std.proofs.Common.{◌≡◌, ◌<◌, ◌≤◌, ◌+◌, ◌*◌, ℕ, List, [], ◌∷◌, ◌++◌, length, drop, cond, Option, Some, None, IfSome, refl, sym, ap, ap₂, subst, ◌∙◌, arith, append_assoc, inl, inr}
use Rattle.std.specs.Prelude.{slice_get, ◌==◌}
use Rattle.std.specs.Io.KnownBytes.{Consumes, prepend_known}
use Rattle.std.proofs.lemmas.Bool.{cases_order}
use Rattle.std.proofs.lemmas.List.{length-append}
use Rattle.std.proofs.lemmas.List.Sums.{sum_by-append, sum_by-cons}
use Rattle.std.proofs.lemmas.Option.{same_Some}
use Rattle.sgt_names.specs.Limits.{max_line}
use Rattle.sgt_notation.specs.Lines.{Gives}
use Rattle.sgt_notation.specs.declared.lines.Next.TheVariants.{Line, Cut, TooLong, End}
use Rattle.sgt_notation.specs.Spelling.{text_of_lines}
use Rattle.sgt_audit.specs.declared.faults.Fault.{Fault}
use Rattle.sgt_certify_faults.specs.Faults.{HasFault, HasNoFaultWithin, lines_of}
use Rattle.sgt_certify_faults.proofs.Within.{front-counted, lfs}
use Rattle.sgt_certify.specs.Reach.{AreShort, BeginsLittleBehind, IsJudgedTo, IsWithinRoom}

-- ---- what is judged

pub nothing-judged : (text : List ℕ) → IsJudgedTo text 0
nothing-judged text more n f h = omega arith

pub judged-on : (before piece text : List ℕ) (judged : ℕ) → text ≡ before ++ piece → IsJudgedTo before judged
    → IsJudgedTo text judged
judged-on before piece text judged is all =
    subst (λ (t : List ℕ). IsJudgedTo t judged) (sym is) (λ more.
    let P : List ℕ → Type 0 =
    λ t. (n : ℕ) (f : Fault) (h : HasFault t n f) → judged ≤ length (text_of_lines (lines_of h.front)) in
    subst P (sym (append_assoc before piece more)) (all (piece ++ more)))

-- ---- whole lines without a fault

-- what stands behind a front of a text that isn't longer
front-cut : (front rest text more : List ℕ) → text ++ more ≡ front ++ rest → length front ≤ length text
    → (behind : List ℕ) × (text ≡ front ++ behind)
front-cut [] rest text more same few = (text, refl)
front-cut (c ∷ front) rest [] more same few = absurd (omega (arith, few))
front-cut (c ∷ front) rest (b ∷ text) more same few =
    let r = front-cut front rest text more (ap (drop 1) same) (omega (arith, few)) in
    let one : b ≡ c = same_Some b c (ap (λ (t : List ℕ). slice_get t 0) same) in
    (r.0, ap₂ (λ (x : ℕ) (xs : List ℕ). x ∷ xs) one r.1)

short-behind : (front behind : List ℕ) → AreShort (front ++ behind) → AreShort behind
short-behind [] behind short = short
short-behind (b ∷ front) behind short = short-behind front behind short.1

one-counted : (text : List ℕ) → AreShort text → 1 ≤ length text → 1 ≤ lfs text
one-counted [] short some = absurd (omega (arith, some))
one-counted (b ∷ bytes) short some =
    let lf = short.0 in
    let at : lfs (10 ∷ lf.1) ≡ 1 + lfs lf.1 = sum_by-cons (λ (c : ℕ). cond (c == 10) 1 0) 10 lf.1 in
    omega (
      arith,
      ap lfs lf.2,
      sum_by-append (λ (c : ℕ). cond (c == 10) 1 0) lf.0 (10 ∷ lf.1),
      at,
    )

pub judged-all : (text : List ℕ) → AreShort text → HasNoFaultWithin text → IsJudgedTo text (length text)
judged-all text short none more n f h =
    let front = text_of_lines (lines_of h.front) in
    elim (cases_order (length text) (length front)) [
      | inl same ↦ omega (arith, same)
      | inr (inl less) ↦ omega (arith, less)
      | inr (inr longer) ↦
          let cut = front-cut front h.rest text more h.text (omega (arith, longer)) in
          let some : 1 ≤ length cut.0 =
          omega (arith, longer, ap length cut.1, length-append front cut.0) in
          let lf = one-counted cut.0 (short-behind front cut.0 (subst AreShort cut.1 short)) some in
          absurd (omega (
            arith,
            none more n f h,
            h.number,
            lf,
            ap lfs cut.1,
            sum_by-append (λ (c : ℕ). cond (c == 10) 1 0) front cut.0,
            front-counted h.front h.spelled,
          ))
    ]

-- ---- how far was read

-- so many bytes were given before the last read
near : (text xs bytes : List ℕ) (judged many : ℕ) → bytes ≡ text ++ xs → IsJudgedTo text judged
    → (left given : ℕ) → length bytes ≤ many + (left + given) → many ≤ 16 * judged + 67108864
    → BeginsLittleBehind bytes left given
near text xs bytes judged many is all left given few room n f h =
    let P : List ℕ → Type 0 =
    λ t. (k : ℕ) (g : Fault) (x : HasFault t k g) → judged ≤ length (text_of_lines (lines_of x.front)) in
    omega (arith, subst P (sym is) (all xs) n f h, few, room)

-- where reading stops behind these lines, of which the last are held
pub held-near : (told left : Option (List ℕ)) (text held : List ℕ) (judged last : ℕ)
    → Consumes told (prepend_known held left) text → IsJudgedTo text judged → length held ≤ last
    → length text ≤ 16 * judged + 67108864
    → IfSome told (λ bytes. IfSome left (λ more. BeginsLittleBehind bytes (length more) last))
held-near None left text held judged last rest all kept room = tt
held-near (Some bytes) None text held judged last rest all kept room = tt
held-near (Some bytes) (Some ys) text held judged last rest all kept room =
    near text (held ++ ys) bytes judged (length text) rest all (length ys) last
    (omega (arith, kept, ap length rest, length-append text (held ++ ys), length-append held ys)) room

pub long-near : (told old left : Option (List ℕ)) (text line held : List ℕ) (judged last : ℕ) → Consumes told old text
    → Gives max_line old TooLong line (prepend_known held left) → IsJudgedTo text judged → length line ≤ max_line
    → length held ≤ last → IsWithinRoom judged (length text)
    → IfSome told (λ bytes. IfSome left (λ more. BeginsLittleBehind bytes (length more) last))
long-near None old left text line held judged last rest gives all few kept room = tt
long-near (Some bytes) None left text line held judged last rest gives all few kept room = absurd rest
long-near (Some bytes) (Some xs) None text line held judged last rest gives all few kept room = tt
long-near (Some bytes) (Some xs) (Some ys) text line held judged last rest gives all few kept room =
    near text xs bytes judged (length text + length line) rest all (length ys) last
    (omega (
      arith,
      kept,
      ap length rest,
      ap length gives.1,
      length-append text xs,
      length-append line (held ++ ys),
      length-append held ys,
    )) (omega (arith, room, few))

pub cut-near : (told old left : Option (List ℕ)) (text line held : List ℕ) (judged last : ℕ) → Consumes told old text
    → Gives max_line old Cut line (prepend_known held left) → IsJudgedTo text judged
    → IsWithinRoom judged (length text)
    → IfSome told (λ bytes. IfSome left (λ more. BeginsLittleBehind bytes (length more) last))
cut-near None old left text line held judged last rest gives all room = tt
cut-near (Some bytes) None left text line held judged last rest gives all room = absurd rest
cut-near (Some bytes) (Some xs) None text line held judged last rest gives all room = tt
cut-near (Some bytes) (Some xs) (Some ys) text line held judged last rest gives all room =
    near text xs bytes judged (length text + length line) rest all (length ys) last
    (omega (arith, ap length rest, ap length gives.3, length-append text xs)) (omega (arith, room, gives.2))

pub end-near : (told old left : Option (List ℕ)) (text line held : List ℕ) (judged last : ℕ) → Consumes told old text
    → Gives max_line old End line (prepend_known held left) → IsJudgedTo text judged
    → IsWithinRoom judged (length text)
    → IfSome told (λ bytes. IfSome left (λ more. BeginsLittleBehind bytes (length more) last))
end-near None old left text line held judged last rest gives all room = tt
end-near (Some bytes) None left text line held judged last rest gives all room = absurd rest
end-near (Some bytes) (Some xs) None text line held judged last rest gives all room = tt
end-near (Some bytes) (Some xs) (Some ys) text line held judged last rest gives all room =
    near text xs bytes judged (length text) rest all (length ys) last
    (omega (arith, ap length rest, ap length gives.0, length-append text xs)) (omega (arith, room))
