-- How far a text was read, against all that its reader told.
use Rattle.std.proofs.Common.{◌≡◌, ◌≢◌, ℕ, zero, suc, ◌+◌, ◌<◌, ◌≤◌, List, [], ◌∷◌, ◌++◌, length, take, Option, Some, None, IfSome, refl, sym, ap, ◌∙◌, subst, arith, inl, inr}
use Rattle.std.specs.Prelude.{IfOk, Result, Ok, Err}
use Rattle.std.specs.List.{AllByRecursion}
use Rattle.std.proofs.lemmas.Bool.{cases_eq, cases_order}
use Rattle.std.proofs.lemmas.List.{append-nil, length-append}
use Rattle.std.proofs.lemmas.List.Elements.{recursion_from_All, All-cons}
use Rattle.sgt_notation.specs.Spelling.{text_of_lines, HasNoLf, line_text}
use Rattle.sgt_notation.specs.Lines.{Ahead, GaveNext, Gives, Spends, coming, passed, stream}
use Rattle.sgt_notation.proofs.Fronts.{passed-next}
use Rattle.sgt_notation.proofs.Short.{line-no_lf, line-short}
use Rattle.sgt_notation.specs.declared.lines.Next.TheVariants.{Line, Cut, TooLong, End}
use Rattle.sgt_notation.specs.declared.SectionLine.{SectionLine}
use Rattle.sgt_audit.specs.declared.faults.Fault.{Fault}
use Rattle.sgt_audit.specs.declared.kept.Kept.{Kept}
use Rattle.sgt_audit.specs.declared.kept.Passed.TheVariants as what
use Rattle.sgt_audit.specs.declared.machine.Progress.{Progress}
use Rattle.sgt_audit.specs.declared.machine.Progress.TheVariants as at
use Rattle.sgt_audit.specs.declared.faults.FirstFault as found
use Rattle.sgt_audit.specs.Faults.{Stage, start, headed, within, complete, lines_so_far, IsFaultless, Piece, whole, last, ComesNext, Rule, Breaks, FirstFault, HasNoFault, ReadsNoFurther, bytes_of, reach}
use Rattle.sgt_audit.specs.Kept.{Means, IsStageOf}
use Rattle.sgt_audit.specs.Reading.{Begun}
use Rattle.sgt_audit.specs.Progress.{Stands}
use Rattle.sgt_audit.specs.private.NextLine.{Follows, IsFrontLine, Passes}
use Rattle.sgt_audit.specs.private.Ending.{EndsWith, IsComplete, limit_of}
use Rattle.sgt_audit.specs.private.Stops.{Goes, IsJudged, IsRest, IsStop, IsWhole, MeetsFault}
use Rattle.sgt_audit.proofs.OneFault.{first_fault-excluded, reach-one}
use Rattle.sgt_notation.proofs.Texts.{text-one_line}

-- what the machine has kept has no fault
stage-faultless : (k : Kept) (b : Begun) (before : List SectionLine) (s : Stage)
    → Means k.alone.second k.certificate b before → IsStageOf k.alone.second k.certificate before s → IsFaultless s
stage-faultless k b before s m (inl here) = subst IsFaultless (sym here.0) (m.kept, here.1)
stage-faultless k b before s m (inr done) = subst IsFaultless (sym done.0) (m.kept, done.1)

pub faultless : (p : Progress) (s : Stage) → Stands p s → IsFaultless s
faultless at.Start s stands = subst IsFaultless (sym stands) tt
faultless (at.Headed second) s stands = subst IsFaultless (sym stands) tt
faultless (at.Reading k) s (b, before, holds, stage) = stage-faultless k b before s holds.means stage

-- ---- after a line

rest-line : (s t : Stage) (limit : ℕ) (told old new : Option (List ℕ)) (l : List ℕ)
    → lines_so_far t ≡ lines_so_far s ++ l ∷ [] → IsRest s told old → Gives limit old Line l new → IsRest t told new
rest-line s t limit None old new l e rest gives = tt
rest-line s t limit (Some bytes) None new l e rest gives = absurd rest
rest-line s t limit (Some bytes) (Some xs) None l e rest gives = absurd gives
rest-line s t limit (Some bytes) (Some xs) (Some ys) l e rest gives =
    rest ∙ ap (λ (t : List ℕ). text_of_lines (lines_so_far s) ++ t) gives.2
    ∙ sym (text-one_line (lines_so_far s) l ys) ∙ ap (λ ls. text_of_lines ls ++ ys) (sym e)

-- a line more, with its LF
text-grows : (xs ys : List (List ℕ)) (l : List ℕ) → ys ≡ xs ++ l ∷ []
    → length (text_of_lines ys) ≡ length (text_of_lines xs) + length l + 1
text-grows xs ys l same =
    let grown = ap length (sym (append-nil (text_of_lines ys)) ∙ ap (λ zs. text_of_lines zs ++ []) same
    ∙ text-one_line xs l []) in
    let cut = length-append (text_of_lines xs) (l ++ 10 ∷ []) in
    let line = length-append l (10 ∷ []) in
    let plain = ap length (append-nil (text_of_lines ys)) in
    omega (arith, grown, cut, line)

pub after-line : (told : Option (List ℕ)) (p q : Progress) (limit n : ℕ) (old new : Option (List ℕ)) (l : List ℕ)
    (reads reads' : ℕ) → Goes told p old n reads → reads' ≤ reads + length l + 1 → Gives limit old Line l new
    → ((s : Stage) → Stands p s → Follows s l q None) → Goes told q new (n + 1) reads'
after-line told p q limit n old new l reads reads' (s, stands, rest, number, few) more gives follows =
    let t = follows s stands in (
      t.0,
      t.1,
      rest-line s t.0 limit told old new l t.2 rest gives,
      omega (arith, number, ap length t.2, length-append (lines_so_far s) (l ∷ [])),
      omega (arith, few, more, text-grows (lines_so_far s) (lines_so_far t.0) l t.2),
    )

-- ---- a fault

-- the next piece of what comes breaks a rule, and there were no more reads than bytes up to its end
abbrev BreaksNext : Stage → Fault → ℕ → List ℕ → Type 0
BreaksNext s f reads rest = (next : Piece) × ComesNext rest next × Breaks (Rule s next) f
    × (reads ≤ length (text_of_lines (lines_so_far s)) + length (bytes_of next) + 1)

pub fault-at : (told coming : Option (List ℕ)) (p : Progress) (n : ℕ) (f : Fault) (reads : ℕ) (s : Stage) → Stands p s
    → IsRest s told coming → n ≡ length (lines_so_far s) + 1
    → IfSome coming (BreaksNext s f reads) → IfSome told (λ bytes. MeetsFault bytes n f reads)
fault-at None coming p n f reads s stands rest number found = tt
fault-at (Some bytes) None p n f reads s stands rest number found = absurd rest
fault-at (Some bytes) (Some xs) p n f reads s stands rest number (next, comes, breaks, few) = (
  record {
    stage = s;
    rest = xs;
    next = next;
    text = rest;
    faultless = faultless p s stands;
    number =
        number;
    comes = comes;
    breaks = breaks;
  },
  few,
)

line-comes : (limit : ℕ) (old new : Option (List ℕ)) (l : List ℕ) (s : Stage) (f : Fault) (reads : ℕ)
    → Gives limit old Line l new → Breaks (Rule s (whole l)) f
    → reads ≤ length (text_of_lines (lines_so_far s)) + length l + 1 → IfSome old (BreaksNext s f reads)
line-comes limit None new l s f reads gives breaks few = tt
line-comes limit (Some xs) None l s f reads gives breaks few = absurd gives
line-comes limit (Some xs) (Some ys) l s f reads gives breaks few = (whole l, (ys, gives.2, gives.0), breaks, few)

pub fault-line : (told : Option (List ℕ)) (p q : Progress) (limit n : ℕ) (old new : Option (List ℕ)) (l : List ℕ)
    (f : Fault) (reads reads' : ℕ) → Goes told p old n reads → reads' ≤ reads + length l + 1
    → Gives limit old Line l new
    → ((s : Stage) → Stands p s → Follows s l q (Some f)) → IfSome told (λ bytes. MeetsFault bytes n f reads')
fault-line told p q limit n old new l f reads reads' (s, stands, rest, number, few) more gives follows =
    fault-at told old p n f reads' s stands rest number
    (line-comes limit old new l s f reads' gives (follows s stands) (omega (arith, few, more)))

-- ---- the end of the input

at-stop : (told coming : Option (List ℕ)) (s : Stage) (l : List ℕ) (n : ℕ) → IsRest s told coming
    → n ≡ length (lines_so_far s) + 1 → IfSome coming (λ rest. rest ≡ l)
    → IfSome told (λ bytes. (bytes ≡ text_of_lines (lines_so_far s) ++ l) × (n ≡ length (lines_so_far s) + 1))
at-stop None coming s l n rest number left = tt
at-stop (Some bytes) None s l n rest number left = absurd rest
at-stop (Some bytes) (Some xs) s l n rest number left =
    (rest ∙ ap (λ (t : List ℕ). text_of_lines (lines_so_far s) ++ t) left, number)

cut-left : (limit : ℕ) (old new : Option (List ℕ)) (l : List ℕ) → Gives limit old Cut l new
    → IfSome old (λ rest. rest ≡ l)
cut-left limit None new l gives = tt
cut-left limit (Some xs) None l gives = absurd gives
cut-left limit (Some xs) (Some ys) l gives = gives.3

end-left : (limit : ℕ) (old new : Option (List ℕ)) (l : List ℕ) → Gives limit old End l new
    → IfSome old (λ rest. rest ≡ l)
end-left limit None new l gives = tt
end-left limit (Some xs) None l gives = absurd gives
end-left limit (Some xs) (Some ys) l gives = gives.0 ∙ sym gives.1

-- reading stops there, in line n, with these bytes behind the last LF
pub stops-cut : (told : Option (List ℕ)) (p : Progress) (limit n : ℕ) (old new : Option (List ℕ)) (l : List ℕ)
    (reads reads' : ℕ) → Goes told p old n reads → reads' ≤ reads + length l + 1 → Gives limit old Cut l new
    → ((s : Stage) → Stands p s → length l ≤ limit_of s) → HasNoLf l → IsStop told (Ok n) p l reads'
stops-cut told p limit n old new l reads reads' (s, stands, rest, number, few) more gives short none = (
  s,
  stands,
  short s stands,
  none,
  omega (arith, few, more),
  at-stop told old s l n rest number (cut-left limit old new l gives),
)

pub stops-end : (told : Option (List ℕ)) (p : Progress) (limit n : ℕ) (old new : Option (List ℕ)) (l : List ℕ)
    (reads reads' : ℕ) → Goes told p old n reads → reads' ≤ reads + length l + 1 → Gives limit old End l new
    → ((s : Stage) → Stands p s → length l ≤ limit_of s) → HasNoLf l → IsStop told (Ok n) p l reads'
stops-end told p limit n old new l reads reads' (s, stands, rest, number, few) more gives short none = (
  s,
  stands,
  short s stands,
  none,
  omega (arith, few, more),
  at-stop told old s l n rest number (end-left limit old new l gives),
)

-- a text that is read whole has no fault
complete-faultless : (s : Stage) → IsComplete s → IsFaultless s → (bytes : List ℕ)
    → bytes ≡ text_of_lines (lines_so_far s) → HasNoFault bytes
complete-faultless (complete second c before) done good bytes text = (second, c, before, good, text)
complete-faultless start done good bytes text = absurd done
complete-faultless (headed second) done good bytes text = absurd done
complete-faultless (within second c before) done good bytes text = absurd done

-- no more reads than bytes up to the first fault
no_further : (bytes : List ℕ) (n : ℕ) (f : Fault) (reads : ℕ) → (first : FirstFault bytes n f)
    → reads ≤ reach bytes n f first → ReadsNoFurther bytes reads
no_further bytes n f reads first few = λ m g other. omega (arith, few, reach-one bytes n m f g first other)

pub told-met : (told : Option (List ℕ)) (n : ℕ) (f : Fault) (reads : ℕ)
    → IfSome told (λ bytes. MeetsFault bytes n f reads) → IfSome told (λ bytes. ReadsNoFurther bytes reads)
told-met None n f reads met = tt
told-met (Some bytes) n f reads met = no_further bytes n f reads met.0 met.1

-- what the machine says of the text that ends there
module _ (s : Stage) (l : List ℕ) (n : ℕ) (good : IsFaultless s) (none : HasNoLf l) where
  pub text-judged : (bytes : List ℕ) (j : Result Kept found.FirstFault) → EndsWith s l n j
      → (bytes ≡ text_of_lines (lines_so_far s) ++ l) × (n ≡ length (lines_so_far s) + 1) → IsJudged j bytes
  text-judged bytes (Ok k) ends at = (
    s,
    ends.0,
    ends.1,
    at.0 ∙ ap (λ (t : List ℕ). text_of_lines (lines_so_far s) ++ t) ends.2
        ∙ append-nil (text_of_lines (lines_so_far s)),
  )
  text-judged bytes (Err first) ends at =
      record {
        stage = s;
        rest = l;
        next = last l;
        text = at.0;
        faultless = good;
        number = ends.0 ∙ at.1;
        comes =
            (refl, none);
        breaks = ends.1;
      }

  told-judged : (told : Option (List ℕ)) (j : Result Kept found.FirstFault) → EndsWith s l n j
      → IfSome told (λ bytes. (bytes ≡ text_of_lines (lines_so_far s) ++ l) × (n ≡ length (lines_so_far s) + 1))
      → IfSome told (IsJudged j)
  told-judged None j ends at = tt
  told-judged (Some bytes) j ends at = text-judged bytes j ends at

  text-no_further : (bytes : List ℕ) (j : Result Kept found.FirstFault) (reads : ℕ) → EndsWith s l n j
      → reads ≤ length (text_of_lines (lines_so_far s)) + length l + 1
      → (bytes ≡ text_of_lines (lines_so_far s) ++ l) × (n ≡ length (lines_so_far s) + 1) → ReadsNoFurther bytes reads
  text-no_further bytes (Ok k) reads ends few at =
      λ m f first. absurd (first_fault-excluded bytes m f first (complete-faultless s ends.1 good bytes (at.0
      ∙ ap (λ (t : List ℕ). text_of_lines (lines_so_far s) ++ t) ends.2
      ∙ append-nil (text_of_lines (lines_so_far s)))))
  text-no_further bytes (Err first) reads ends few at =
      no_further bytes first.line first.fault reads (record {
        stage = s;
        rest = l;
        next = last l;
        text =
            at.0;
        faultless = good;
        number = ends.0 ∙ at.1;
        comes = (refl, none);
        breaks = ends.1;
      }) few

  told-no_further : (told : Option (List ℕ)) (j : Result Kept found.FirstFault) (reads : ℕ) → EndsWith s l n j
      → reads ≤ length (text_of_lines (lines_so_far s)) + length l + 1
      → IfSome told (λ bytes. (bytes ≡ text_of_lines (lines_so_far s) ++ l) × (n ≡ length (lines_so_far s) + 1))
      → IfSome told (λ bytes. ReadsNoFurther bytes reads)
  told-no_further None j reads ends few at = tt
  told-no_further (Some bytes) j reads ends few at = text-no_further bytes j reads ends few at

  ended-whole : (j : Result Kept found.FirstFault) → EndsWith s l n j → IfOk j IsWhole
  ended-whole (Ok k) ends = (s, ends.0, ends.1)
  ended-whole (Err first) ends = tt

pub stop-judged : (told : Option (List ℕ)) (p : Progress) (n : ℕ) (l : List ℕ) (reads : ℕ)
    (j : Result Kept found.FirstFault) → IsStop told (Ok n) p l reads
    → ((s : Stage) → Stands p s → length l ≤ limit_of s → EndsWith s l n j)
    → IfSome told (IsJudged j) × IfOk j IsWhole × IfSome told (λ bytes. ReadsNoFurther bytes reads)
stop-judged told p n l reads j (s, stands, short, none, few, at) ends =
    let e = ends s stands short in
    let good = faultless p s stands in (
      told-judged s l n good none told j e at,
      ended-whole s l n good none j e,
      told-no_further s l n good none told j reads e few at,
    )

-- ---- a line that is too long

pub piece : (bytes : List ℕ) → (next : Piece) × ComesNext bytes next
piece [] = (last [], (refl, λ k d lt. absurd (omega arith)))
piece (b ∷ bytes) = elim (cases_eq b 10) [
  | inl lf ↦ (whole [], (bytes, ap (λ x. x ∷ bytes) lf, λ k d lt. absurd (omega arith)))
  | inr other ↦ longer b bytes other (piece bytes)
]
  where
    longer : (b : ℕ) (bytes : List ℕ) → b ≢ 10 → (next : Piece) × ComesNext bytes next
        → (next : Piece) × ComesNext (b ∷ bytes) next
    longer b bytes other (whole l, (more, is, none)) =
        (whole (b ∷ l), (more, ap (λ (t : List ℕ). b ∷ t) is, All-cons (λ x. x ≢ 10) b l other none))
    longer b bytes other (last l, (is, none)) =
        (last (b ∷ l), (ap (λ (t : List ℕ). b ∷ t) is, All-cons (λ x. x ≢ 10) b l other none))

-- an LF within the front
pub lf-within : (l more : List ℕ) (n : ℕ) → length l < n → AllByRecursion (λ b. b ≢ 10) (take n (l ++ 10 ∷ more)) → ⊥
lf-within l more zero lt h = absurd (omega arith)
lf-within [] more (suc n) lt h = h.0 refl
lf-within (x ∷ l) more (suc n) lt h = lf-within l more n (omega arith) h.1

pub piece-long : (limit : ℕ) (bytes : List ℕ) (next : Piece) → ComesNext bytes next → limit < length bytes
    → HasNoLf (take (limit + 1) bytes) → limit < length (bytes_of next)
piece-long limit bytes (whole l) (more, is, none) lt front =
    elim (cases_order limit (length l)) [
      | inl same ↦ absurd
          (lf-within l more (limit + 1) (omega arith)
          (recursion_from_All (λ b. b ≢ 10) (take (limit + 1) (l ++ 10 ∷ more))
          (subst (λ t. HasNoLf (take (limit + 1) t)) is front)))
      | inr (inl less) ↦ less
      | inr (inr more_left) ↦ absurd
          (lf-within l more (limit + 1) (omega arith)
          (recursion_from_All (λ b. b ≢ 10) (take (limit + 1) (l ++ 10 ∷ more))
          (subst (λ t. HasNoLf (take (limit + 1) t)) is front)))
    ]
piece-long limit bytes (last l) (is, none) lt front = omega (arith, ap length is)

long-comes : (limit : ℕ) (old new : Option (List ℕ)) (l : List ℕ) (s : Stage) (f : Fault) (reads : ℕ)
    → Gives limit old TooLong l new → ((next : Piece) → limit < length (bytes_of next) → Breaks (Rule s next) f)
    → reads ≤ length (text_of_lines (lines_so_far s)) + limit + 1 → IfSome old (BreaksNext s f reads)
long-comes limit None new l s f reads gives breaks few = tt
long-comes limit (Some xs) None l s f reads gives breaks few = absurd gives
long-comes limit (Some xs) (Some ys) l s f reads gives breaks few =
    let p = piece xs in
    let long = piece-long limit xs p.0 p.1 gives.0.0 gives.0.1 in
    (p.0, p.1, breaks p.0 long, omega (arith, few, long))

pub at-long : (told : Option (List ℕ)) (p : Progress) (limit n : ℕ) (old new : Option (List ℕ)) (l : List ℕ)
    (f : Fault) (reads reads' : ℕ) → Goes told p old n reads → reads' ≤ reads + length l + 1 → length l ≤ limit
    → Gives limit old TooLong l new
    → ((s : Stage) → Stands p s → (next : Piece) → limit < length (bytes_of next) → Breaks (Rule s next) f)
    → IfSome told (λ bytes. MeetsFault bytes n f reads')
at-long told p limit n old new l f reads reads' (s, stands, rest, number, few) more short gives breaks =
    fault-at told old p n f reads' s stands rest number (long-comes limit old new l s f reads' gives (breaks s stands)
    (omega (arith, few, more, short)))

-- ---- the reads

pub spends_on : (told mid new : Option (List ℕ)) (a b b' c : ℕ) → Spends a told b mid → b' ≡ b → Spends b' mid c new
    → Spends a told c new
spends_on None mid new a b b' c first same later = tt
spends_on (Some xs) None new a b b' c first same later = absurd first
spends_on (Some xs) (Some ys) None a b b' c first same later = absurd later
spends_on (Some xs) (Some ys) (Some zs) a b b' c first same later = omega (arith, first, same, later)

-- a line of a section that was read at the front is what comes next
pub front-gave : (line : SectionLine) (n : ℕ) (lines : Ahead) (told : Option (List ℕ))
    → IsFrontLine lines.held line n
    → GaveNext 50 (stream lines told 0) Line (line_text line) (stream (passed n lines) told 0)
front-gave line n lines told front =
    passed-next 50 n lines told 0 (line_text line) (line-no_lf line front.is_line)
    (omega (arith, line-short line front.is_line)) front.within front.reads

-- what was kept stands behind it
pub front-goes : (all told : Option (List ℕ)) (old new : Kept) (lines : Ahead) (n number reads : ℕ)
    → Passes lines.held old new (what.Line n) → Goes all (at.Reading old) (coming lines told) number reads
    → Goes all (at.Reading new) (coming (passed n lines) told) (number + 1) reads
front-goes all told old new lines n number reads (line, front, follows) goes =
    after-line all (at.Reading old) (at.Reading new) 50 number (coming lines told) (coming (passed n lines) told)
    (line_text line) reads reads goes (omega arith) (front-gave line n lines told front).gives follows

-- or it has the first fault of the text
pub front-fault : (all told : Option (List ℕ)) (old new : Kept) (lines : Ahead) (f : Fault) (number reads : ℕ)
    → Passes lines.held old new (what.Faulty f) → Goes all (at.Reading old) (coming lines told) number reads
    → IfSome all (λ bytes. MeetsFault bytes number f reads)
front-fault all told old new lines f number reads (line, n, front, follows) goes =
    fault-line all (at.Reading old) (at.Reading new) 50 number (coming lines told) (coming (passed n lines) told)
    (line_text line) f reads reads goes (omega arith) (front-gave line n lines told front).gives follows
