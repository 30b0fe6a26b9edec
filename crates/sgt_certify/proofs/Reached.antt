-- How far was read, by what was taken.
use Rattle.std.proofs.Common.{◌≡◌, ◌≢◌, ◌<◌, ◌≤◌, ◌+◌, ◌*◌, ◌-◌, ℕ, zero, suc, List, [], ◌∷◌, ◌++◌, length, take, drop, true, Option, Some, None, IfSome, refl, sym, ap, subst, ◌∙◌, arith, append_assoc, eqb-true, inl, inr}
use Rattle.std.specs.Prelude.{slice_get, slice_index, ◌==◌}
use Rattle.std.specs.Io.KnownBytes.{Consumes, prepend_known}
use Rattle.std.proofs.lemmas.Bool.{cases_order}
use Rattle.std.proofs.lemmas.List.{length-append, take-append-drop}
use Rattle.std.proofs.lemmas.List.Elements.{recursion_from_All}
use Rattle.std.proofs.lemmas.Option.{slice_get-get_or}
use Rattle.sgt_names.specs.Limits.{max_line}
use Rattle.sgt_names.proofs.Lists.{take_next}
use Rattle.sgt_names.proofs.Places.{slice_get-take}
use Rattle.sgt_notation.specs.Lines.{Gives, IsLongerThan}
use Rattle.sgt_notation.specs.declared.lines.Next.TheVariants.{Line, Cut, TooLong, End}
use Rattle.sgt_audit.proofs.ReaderAtStage.{lf-within}
use Rattle.sgt_audit.specs.declared.faults.Fault.{Fault}
use Rattle.sgt_certify_faults.specs.Faults.{IsFirstFault}
use Rattle.sgt_certify.specs.Reach.{IsLongAt, ReadsNoFurther, BeginsNoneBehind, ReadsAll, HasLfWithin, AreShort}

-- ---- whole lines, none of them too long

pub line-short : (line : List ℕ) → length line ≤ max_line → AreShort (line ++ 10 ∷ [])
line-short [] few = (([], [], refl, omega arith), tt)
line-short (b ∷ line) few = ((b ∷ line, [], refl, few), line-short line (omega (arith, few)))

within-more : (bytes more : List ℕ) → HasLfWithin bytes → HasLfWithin (bytes ++ more)
within-more bytes more (front, behind, is, few) =
    (front, behind ++ more, ap (λ t. t ++ more) is ∙ append_assoc front (10 ∷ behind) more, few)

pub short-append : (text more : List ℕ) → AreShort text → AreShort more → AreShort (text ++ more)
short-append [] more one other = other
short-append (b ∷ text) more one other = (within-more (b ∷ text) more one.0, short-append text more one.1 other)

take-few : (n : ℕ) (xs : List ℕ) → length (take n xs) ≤ n
take-few zero xs = omega arith
take-few (suc n) [] = omega arith
take-few (suc n) (x ∷ xs) = omega (arith, take-few n xs)

-- the bytes up to an LF, which stands among no more than a line may have
pub front-short : (bytes : List ℕ) (most last : ℕ) → most ≤ max_line → last < length (take most bytes)
    → (slice_index (take most bytes) last == 10) ≡ true
    → AreShort (take (last + 1) bytes)
front-short bytes most last few less is =
    let at = slice_get-get_or (take most bytes) last 0 less
    ∙ ap Some (eqb-true (slice_index (take most bytes) last) 10 is) in
    let there = slice_get-take bytes most last 10 at in
    subst AreShort (sym (take_next bytes last 10 there.1))
    (line-short (take last bytes) (omega (arith, take-few last bytes, there.0, few)))

-- what was held, and a line more
pub line-kept : (text chunk mid line given new : List ℕ) → mid ≡ text ++ chunk → AreShort text → AreShort chunk
    → given ≡ line → length line ≤ max_line
    → new ≡ (mid ++ given) ++ 10 ∷ [] → AreShort new
line-kept text chunk mid line given new is one other same few added =
    let front = subst AreShort (sym is) (short-append text chunk one other) in
    let whole : new ≡ mid ++ (line ++ 10 ∷ []) = added ∙ append_assoc mid given (10 ∷ [])
    ∙ ap (λ l. mid ++ (l ++ 10 ∷ [])) same in
    subst AreShort (sym whole) (short-append mid (line ++ 10 ∷ []) front (line-short line few))

pub held-kept : (text chunk mid : List ℕ) → mid ≡ text ++ chunk → AreShort text → AreShort chunk → AreShort mid
held-kept text chunk mid is one other = subst AreShort (sym is) (short-append text chunk one other)

-- no line that is too long begins within them
pub short-before : (text xs front more : List ℕ) → text ++ xs ≡ front ++ more → AreShort text
    → IsLongerThan max_line more → length text ≤ length front
short-before [] xs front more same short long = omega arith
short-before (b ∷ text) xs [] more same short long =
    let lf = within-more (b ∷ text) xs short.0 in
    let is : lf.0 ++ 10 ∷ lf.1 ≡ more = sym lf.2 ∙ same in
    absurd (lf-within lf.0 lf.1 (max_line + 1) (omega (arith, lf.3))
    (recursion_from_All (λ c. c ≢ 10) (take (max_line + 1) (lf.0 ++ 10 ∷ lf.1))
    (subst (λ t. IsLongerThan max_line t) (sym is) long).1))
short-before (b ∷ text) xs (c ∷ front) more same short long =
    omega (arith, short-before text xs front more (ap (drop 1) same) short.1 long)

-- and none where no more than a line follows
none-long : (text line bytes : List ℕ) (n : ℕ) → AreShort text → length line ≤ max_line → bytes ≡ text ++ line
    → IsLongAt bytes n → ⊥
none-long text line bytes n short few is long =
    let before = short-before text line long.front long.more (sym is ∙ long.text) short long.long in
    let all = ap length (sym is ∙ long.text) in
    absurd (omega (arith, before, all, few, long.long.0, length-append text line, length-append long.front long.more))

-- ---- the reads

pub few-kept : (reads reads' most : ℕ) (text chunk mid line given new : List ℕ) → mid ≡ text ++ chunk → given ≡ line
    → new ≡ (mid ++ given) ++ 10 ∷ []
    → most ≤ reads + length text → reads ≤ reads' + length line + 1 → most ≤ reads' + length new
few-kept reads reads' most text chunk mid line given new is same added few more =
    omega (
      arith,
      few,
      more,
      ap length is,
      ap length same,
      ap length added,
      length-append text chunk,
      length-append mid given,
      length-append (mid ++ given) (10 ∷ []),
    )

-- what is held is of the last read
pub last-kept : (reads reads' held held' size last last' : ℕ) → reads' ≤ reads → (reads' ≡ reads → last' ≡ last)
    → (reads' < reads → held' ≤ last')
    → reads' * 65536 + held' + size ≤ reads * 65536 + held → held ≤ last → held' ≤ last'
last-kept reads reads' held held' size last last' fewer still fresh bounded kept =
    elim (cases_order reads' reads) [
      | inl same ↦ omega (arith, still same, same, ap (λ (r : ℕ). r * 65536) same, bounded, kept)
      | inr (inl less) ↦ fresh less
      | inr (inr more) ↦ absurd (omega (arith, fewer, more))
    ]

-- the same behind a line, whose LF is of the last read too
pub last-kept_line : (reads reads' held held' size last last' : ℕ) → reads' ≤ reads → (reads' ≡ reads → last' ≡ last)
    → (reads' < reads → held' < last')
    → reads' * 65536 + held' + size ≤ reads * 65536 + held → held ≤ last → held' ≤ last'
last-kept_line reads reads' held held' size last last' fewer still fresh bounded kept =
    last-kept reads reads' held held' size last last' fewer still (λ less. omega (arith, fresh less)) bounded kept

pub drop-few : (n : ℕ) (xs : List ℕ) → length (drop n xs) ≤ length xs
drop-few zero xs = omega arith
drop-few (suc n) [] = omega arith
drop-few (suc n) (x ∷ xs) = omega (arith, drop-few n xs)

-- ---- a line that is too long

pub long-further : (told old new : Option (List ℕ)) (text line : List ℕ) (reads : ℕ) → Consumes told old text
    → Gives max_line old TooLong line new → AreShort text
    → length line ≤ max_line → reads ≤ length text + length line + 1 → IfSome told (λ bytes. ReadsNoFurther bytes reads)
long-further None old new text line reads rest gives short few counted = tt
long-further (Some bytes) None new text line reads rest gives short few counted = absurd rest
long-further (Some bytes) (Some xs) None text line reads rest gives short few counted = absurd gives
long-further (Some bytes) (Some xs) (Some ys) text line reads rest gives short few counted = λ n long.
    let before = short-before text xs long.front long.more (sym rest ∙ long.text) short long.long in
    omega (arith, before, long.counted, few, counted)

pub long-behind : (told old left : Option (List ℕ)) (text line held : List ℕ) (last : ℕ) → Consumes told old text
    → Gives max_line old TooLong line (prepend_known held left)
    → AreShort text → length line ≤ max_line → length held ≤ last
    → IfSome told (λ bytes. IfSome left (λ more. BeginsNoneBehind bytes (length more) last))
long-behind None old left text line held last rest gives short few kept = tt
long-behind (Some bytes) None left text line held last rest gives short few kept = absurd rest
long-behind (Some bytes) (Some xs) None text line held last rest gives short few kept = tt
long-behind (Some bytes) (Some xs) (Some ys) text line held last rest gives short few kept = λ n long.
    let before = short-before text xs long.front long.more (sym rest ∙ long.text) short long.long in
    omega (
      arith,
      before,
      long.counted,
      few,
      kept,
      ap length rest,
      ap length gives.1,
      length-append text xs,
      length-append line (held ++ ys),
      length-append held ys,
    )

pub long-all : (told old left : Option (List ℕ)) (text line held : List ℕ) → Consumes told old text
    → Gives max_line old TooLong line (prepend_known held left)
    → IfSome told (λ bytes. IfSome left (ReadsAll bytes))
long-all None old left text line held rest gives = tt
long-all (Some bytes) None left text line held rest gives = absurd rest
long-all (Some bytes) (Some xs) None text line held rest gives = tt
long-all (Some bytes) (Some xs) (Some ys) text line held rest gives = λ good none.
    absurd (none (length text) (record { front = text; more = xs; text = rest; counted = refl; long = gives.0 }))

-- ---- the end

-- nothing comes any more
nothing-left : (held left : List ℕ) → held ++ left ≡ [] → left ≡ []
nothing-left [] left none = none
nothing-left (b ∷ held) left none = absurd (omega (arith, ap length none))

pub cut-further : (told old new : Option (List ℕ)) (text line : List ℕ) (reads : ℕ) → Consumes told old text
    → Gives max_line old Cut line new → AreShort text
    → IfSome told (λ bytes. ReadsNoFurther bytes reads)
cut-further None old new text line reads rest gives short = tt
cut-further (Some bytes) None new text line reads rest gives short = absurd rest
cut-further (Some bytes) (Some xs) None text line reads rest gives short = absurd gives
cut-further (Some bytes) (Some xs) (Some ys) text line reads rest gives short = λ n long.
    absurd (none-long text line bytes n short gives.2 (rest ∙ ap (λ t. text ++ t) gives.3) long)

pub cut-behind : (told old left : Option (List ℕ)) (text line held : List ℕ) (last : ℕ) → Consumes told old text
    → Gives max_line old Cut line (prepend_known held left)
    → AreShort text → IfSome told (λ bytes. IfSome left (λ more. BeginsNoneBehind bytes (length more) last))
cut-behind None old left text line held last rest gives short = tt
cut-behind (Some bytes) None left text line held last rest gives short = absurd rest
cut-behind (Some bytes) (Some xs) None text line held last rest gives short = tt
cut-behind (Some bytes) (Some xs) (Some ys) text line held last rest gives short = λ n long.
    absurd (none-long text line bytes n short gives.2 (rest ∙ ap (λ t. text ++ t) gives.3) long)

pub cut-all : (told old left : Option (List ℕ)) (text line held : List ℕ) → Consumes told old text
    → Gives max_line old Cut line (prepend_known held left)
    → IfSome told (λ bytes. IfSome left (ReadsAll bytes))
cut-all None old left text line held rest gives = tt
cut-all (Some bytes) None left text line held rest gives = absurd rest
cut-all (Some bytes) (Some xs) None text line held rest gives = tt
cut-all (Some bytes) (Some xs) (Some ys) text line held rest gives = λ good none. nothing-left held ys gives.4

pub end-further : (told old new : Option (List ℕ)) (text line : List ℕ) (reads : ℕ) → Consumes told old text
    → Gives max_line old End line new → AreShort text
    → IfSome told (λ bytes. ReadsNoFurther bytes reads)
end-further None old new text line reads rest gives short = tt
end-further (Some bytes) None new text line reads rest gives short = absurd rest
end-further (Some bytes) (Some xs) None text line reads rest gives short = absurd gives
end-further (Some bytes) (Some xs) (Some ys) text line reads rest gives short = λ n long.
    absurd (none-long text [] bytes n short (omega arith) (rest ∙ ap (λ t. text ++ t) gives.0) long)

pub end-behind : (told old left : Option (List ℕ)) (text line held : List ℕ) (last : ℕ) → Consumes told old text
    → Gives max_line old End line (prepend_known held left)
    → AreShort text → IfSome told (λ bytes. IfSome left (λ more. BeginsNoneBehind bytes (length more) last))
end-behind None old left text line held last rest gives short = tt
end-behind (Some bytes) None left text line held last rest gives short = absurd rest
end-behind (Some bytes) (Some xs) None text line held last rest gives short = tt
end-behind (Some bytes) (Some xs) (Some ys) text line held last rest gives short = λ n long.
    absurd (none-long text [] bytes n short (omega arith) (rest ∙ ap (λ t. text ++ t) gives.0) long)

pub end-all : (told old left : Option (List ℕ)) (text line held : List ℕ) → Consumes told old text
    → Gives max_line old End line (prepend_known held left)
    → IfSome told (λ bytes. IfSome left (ReadsAll bytes))
end-all None old left text line held rest gives = tt
end-all (Some bytes) None left text line held rest gives = absurd rest
end-all (Some bytes) (Some xs) None text line held rest gives = tt
end-all (Some bytes) (Some xs) (Some ys) text line held rest gives = λ good none. nothing-left held ys gives.2

-- ---- a line with a fault

pub fault-further : (told old : Option (List ℕ)) (text : List ℕ) (reads : ℕ) → Consumes told old text → AreShort text
    → reads ≤ length text → IfSome told (λ bytes. ReadsNoFurther bytes reads)
fault-further None old text reads rest short counted = tt
fault-further (Some bytes) None text reads rest short counted = absurd rest
fault-further (Some bytes) (Some xs) text reads rest short counted = λ n long.
    let before = short-before text xs long.front long.more (sym rest ∙ long.text) short long.long in
    omega (arith, before, long.counted, counted)

pub fault-behind : (told left : Option (List ℕ)) (text held : List ℕ) (last : ℕ)
    → Consumes told (prepend_known held left) text → AreShort text → length held ≤ last
    → IfSome told (λ bytes. IfSome left (λ more. BeginsNoneBehind bytes (length more) last))
fault-behind None left text held last rest short kept = tt
fault-behind (Some bytes) None text held last rest short kept = tt
fault-behind (Some bytes) (Some ys) text held last rest short kept = λ n long.
    let before = short-before text (held ++ ys) long.front long.more (sym rest ∙ long.text) short long.long in
    omega (
      arith,
      before,
      long.counted,
      kept,
      ap length rest,
      length-append text (held ++ ys),
      length-append held ys,
    )

pub fault-all : (told left : Option (List ℕ)) (n : ℕ) (f : Fault) → IfSome told (λ bytes. IsFirstFault bytes n f)
    → IfSome told (λ bytes. IfSome left (ReadsAll bytes))
fault-all None left n f first = tt
fault-all (Some bytes) None n f first = tt
fault-all (Some bytes) (Some ys) n f first = λ good long. absurd (good n f first.has)
