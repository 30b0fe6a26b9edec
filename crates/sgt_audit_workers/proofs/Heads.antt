-- The first two lines of a text.
use Rattle.std.proofs.Common.{◌≡◌, ◌≢◌, ℕ, ◌+◌, ◌-◌, ◌*◌, ◌^◌, ◌/◌, ◌<◌, ◌≤◌, Bool, List, [], ◌∷◌, ◌++◌, length, Option, Some, None, IfSome, refl, sym, ap, ◌∙◌, subst, arith, inl, inr, ◌⊎◌, append_assoc}
use Rattle.std.specs.Prelude.{Result}
use Rattle.std.specs.Io.KnownBytes.{Consumes}
use Rattle.std.proofs.KnownBytes.{Consumes-trans}
use Rattle.std.proofs.Math.Nat.{mul-add, mul_comm, mul_assoc, mul-le-mul_left}
use Rattle.std.proofs.lemmas.List.{append-nil, length-append}
use Rattle.sgt_names.specs.Limits.{most_reads}
use Rattle.sgt_notation.specs.Lines.{Ahead, Gives, IsNext, coming}
use Rattle.sgt_notation.specs.Spelling.{HasNoLf, text_of_lines}
use Rattle.sgt_notation.specs.declared.lines.Next.{Next}
use Rattle.sgt_notation.specs.declared.lines.Next.TheVariants.{Line, Cut, TooLong, End}
use Rattle.sgt_bundle.specs.Text.{certificate_text, format_line}
use Rattle.sgt_bundle.specs.declared.certificate.Certificate.{Certificate}
use Rattle.sgt_bundle.specs.declared.certificate.Decision.{Decision}
use Rattle.sgt_audit.specs.declared.faults.Fault.{Fault}
use Rattle.sgt_audit.specs.declared.faults.Fault.TheVariants as fault
use Rattle.sgt_audit.specs.declared.faults.FirstFault as found
use Rattle.sgt_audit.specs.declared.kept.Kept.{Kept}
use Rattle.sgt_audit.specs.declared.machine.Progress.{Progress}
use Rattle.sgt_audit.specs.declared.verdict.Verdict.{Verdict}
use Rattle.sgt_audit.specs.declared.verdict.Verdict.TheVariants.{No}
use Rattle.sgt_audit.specs.Faults.{Stage, start, headed, lines_so_far, KeepsItself, Piece, whole, Rule, Breaks, ReadsNoFurther, bytes_of}
use Rattle.sgt_audit.specs.Progress.{Stands}
use Rattle.sgt_audit.specs.Verdict.{IsVerdict}
use Rattle.sgt_audit.specs.private.Ending.{EndsWith, limit_of}
use Rattle.sgt_audit.specs.private.Stops.{Goes, IsJudged, IsRest, MeetsFault}
use Rattle.sgt_audit.proofs.ReaderAtStage.{at-long, fault-line, stop-judged, told-met}
use Rattle.sgt_audit_sections.specs.Sections.{front_text}
use Rattle.sgt_audit_workers.specs.Reads.{Reader}
use Rattle.sgt_audit_workers.specs.Cut.{longest}
use Rattle.sgt_audit_workers.specs.private.Begun.{ComesBehind, IsMost, IsVerdictNear}
use Rattle.sgt_audit_workers.specs.private.Tallied.{IsFound}
use Rattle.sgt_audit_workers.specs.private.Texts.{HasAsked}
use Rattle.sgt_audit_workers.proofs.Answered.{near}
use Rattle.sgt_audit_workers.proofs.Reading.{line-more}
use Rattle.sgt_audit_workers.proofs.Taken.{answer-of}

-- ---- a text that goes no further

-- of what came next no more is gone than it and an LF
next-within : (limit : ℕ) (bytes rest l : List ℕ) (next : Next) → IsNext limit bytes next l rest
    → length bytes ≤ length l + length rest + 1
next-within limit bytes rest l Line is = omega (arith, ap length is.2, length-append l (10 ∷ rest))
next-within limit bytes rest l Cut is = omega (arith, ap length is.3)
next-within limit bytes rest l TooLong is = omega (arith, ap length is.1, length-append l rest)
next-within limit bytes rest l End is = omega (arith, ap length is.0)

-- the bytes behind the last LF
next-last : (limit : ℕ) (bytes rest l : List ℕ) (next : Next) → IsNext limit bytes next l rest
    → (next ≡ Cut) ⊎ (next ≡ End) → (bytes ≡ l) × HasNoLf l
next-last limit bytes rest l next is (inl cut) =
    let here = subst (λ m. IsNext limit bytes m l rest) cut is in (here.3, here.0)
next-last limit bytes rest l next is (inr end) =
    let here = subst (λ m. IsNext limit bytes m l rest) end is in
    (here.0 ∙ sym here.1, subst HasNoLf (sym here.1) (λ k d lt. absurd (omega arith)))

-- a verdict, and what came is no more than up to its fault
found-here : (told old new : Option (List ℕ)) (s : Stage) (limit second : ℕ) (next : Next) (l : List ℕ) (v : Verdict)
    → second ≤ length l → IsRest s told old → Gives limit old next l new → IfSome told (λ bytes. IsVerdict bytes v)
    → IfSome told (λ bytes. ReadsNoFurther bytes (length (text_of_lines (lines_so_far s)) + length l + 1))
    → IsFound second told new 0 v
found-here None old new s limit second next l v le rest gives is near = tt
found-here (Some bytes) None new s limit second next l v le rest gives is near = absurd rest
found-here (Some bytes) (Some xs) None s limit second next l v le rest gives is near = absurd gives
found-here (Some bytes) (Some xs) (Some ys) s limit second next l v le rest gives is near = (
  is,
  λ n f first. let few = near n f first in (
    omega (arith, few, le),
    omega (
      arith,
      few,
      ap length rest,
      length-append (text_of_lines (lines_so_far s)) xs,
      next-within limit xs ys l next gives,
    ),
  ),
)

met-verdict : (told : Option (List ℕ)) (n : ℕ) (f : Fault) (reads : ℕ)
    → IfSome told (λ bytes. MeetsFault bytes n f reads) → IfSome told (λ bytes. IsVerdict bytes (No n f))
met-verdict None n f reads met = tt
met-verdict (Some bytes) n f reads met = met.0

module _ (p : Progress) (told old : Option (List ℕ)) (n : ℕ) (next : Next) (l : List ℕ) (new : Option (List ℕ))
    (is : ComesBehind p told old n next l new) where
  abbrev front : ℕ
  front = length (text_of_lines (lines_so_far is.stage))

  goes : Goes told p old n front
  goes = (is.stage, is.stands, is.lines, is.counts, omega arith)

  found-met : (second : ℕ) (f : Fault) → second ≤ length l
      → IfSome told (λ bytes. MeetsFault bytes n f (front + length l + 1)) → IsFound second told new 0 (No n f)
  found-met second f le met = found-here told old new is.stage is.limit second next l (No n f) le is.lines is.gives
      (met-verdict told n f (front + length l + 1) met) (told-met told n f (front + length l + 1) met)

  -- a line with a fault
  pub found-fault : (f : Fault) → next ≡ Line → ((s : Stage) → Stands p s → Breaks (Rule s (whole l)) f)
      → IsFound (length l) told new 0 (No n f)
  found-fault f same breaks =
      found-met (length l) f (omega arith)
      (fault-line told p p is.limit n old new l f front (front + length l + 1) goes (omega arith)
      (subst (λ m. Gives is.limit old m l new) same is.gives) breaks)

  -- one that is too long
  pub found-long : (f : Fault) → next ≡ TooLong
      → ((s : Stage) (piece : Piece) → Stands p s → ((second : Bool) → s ≢ headed second)
      → limit_of s < length (bytes_of piece) → Breaks (Rule s piece) f) → IsFound 0 told new 0 (No n f)
  found-long f same breaks =
      found-met 0 f (omega arith)
      (at-long told p is.limit n old new l f front (front + length l + 1) goes (omega arith) is.short
      (subst (λ m. Gives is.limit old m l new) same is.gives)
      (λ s stands piece long.
      breaks s piece stands (λ second here. is.unlimited (is.limits s stands ∙ ap limit_of here) same)
      (subst (λ k. k < length (bytes_of piece)) (is.limits s stands) long)))

  -- the end of the input
  pub found-end : (v : Verdict) (j : Result Kept found.FirstFault) → (next ≡ Cut) ⊎ (next ≡ End)
      → ((s : Stage) → Stands p s → length l ≤ limit_of s → EndsWith s l n j)
      → ((bytes : List ℕ) → IsJudged j bytes → IsVerdict bytes v) → IsFound 0 told new 0 v
  found-end v j stops ends judged = known told old new is.lines is.gives
    where
      known : (all left more : Option (List ℕ)) → IsRest is.stage all left → Gives is.limit left next l more
          → IsFound 0 all more 0 v
      known None left more rest gives = tt
      known (Some bytes) None more rest gives = absurd rest
      known (Some bytes) (Some xs) None rest gives = absurd gives
      known (Some bytes) (Some xs) (Some ys) rest gives =
          let stop = next-last is.limit xs ys l next gives stops in
          let all = stop-judged (Some bytes) p n l (front + length l + 1) j (
            is.stage,
            is.stands,
            subst (λ k. length l ≤ k) (is.limits is.stage is.stands) is.short,
            stop.1,
            omega arith,
            (rest ∙ ap (λ (t : List ℕ). text_of_lines (lines_so_far is.stage) ++ t) stop.0, is.counts),
          ) ends in
          found-here (Some bytes) (Some xs) (Some ys) is.stage is.limit 0 next l v (omega arith) rest gives
          (judged bytes all.0) all.2

-- ---- what was told

pub rest-start : (told : Option (List ℕ)) → IsRest start told told
rest-start None = tt
rest-start (Some bytes) = refl

pub rest-headed : (told left : Option (List ℕ)) (second : Bool) → Consumes told left (format_line second ++ 10 ∷ [])
    → IsRest (headed second) told left
rest-headed None left second read = tt
rest-headed (Some bytes) None second read = absurd read
rest-headed (Some bytes) (Some rest) second read =
    read ∙ ap (λ (t : List ℕ). t ++ rest) (sym (append-nil (format_line second ++ 10 ∷ [])))

pub comes-behind : (p : Progress) (s : Stage) (limit : ℕ) (told left old new : Option (List ℕ)) (next : Next)
    (l items : List ℕ) → Stands p s → ((t : Stage) → Stands p t → limit ≡ limit_of t) → IsRest s told left
    → left ≡ old → l ≡ items → Gives limit old next items new → length items ≤ limit
    → (limit ≡ 2 ^ 64 - 1 → next ≢ TooLong) → ComesBehind p told left (length (lines_so_far s) + 1) next l new
comes-behind p s limit told left old new next l items stands limits rest same read gives short unlimited = record {
  stage = s;
  limit = limit;
  stands = stands;
  lines = rest;
  counts = refl;
  limits = limits;
  gives = subst (λ (k : List ℕ). Gives limit left next k new) (sym read)
      (subst (λ (o : Option (List ℕ)). Gives limit o next items new) (sym same) gives);
  short = subst (λ (k : List ℕ). length k ≤ limit) (sym read) short;
  unlimited = unlimited;
}

-- a line of a text that is this
pub line-told : (limit : ℕ) (old new : Option (List ℕ)) (l spelled : List ℕ) → l ≡ spelled
    → Gives limit old Line l new → Consumes old new (spelled ++ 10 ∷ [])
line-told limit old new l spelled same gives =
    subst (λ (t : List ℕ). Consumes old new (t ++ 10 ∷ [])) same (line-more limit old new l gives)

-- the two lines
pub front-told : (told mid new : Option (List ℕ)) (second : Bool) (c : Certificate)
    → Consumes told mid (format_line second ++ 10 ∷ []) → Consumes mid new (certificate_text c ++ 10 ∷ [])
    → Consumes told new (front_text second c [])
front-told told mid new second c first later =
    subst (λ (t : List ℕ). Consumes told new ((format_line second ++ 10 ∷ []) ++ t))
    (sym (append-nil (certificate_text c ++ 10 ∷ [])))
    (Consumes-trans told mid new (format_line second ++ 10 ∷ []) (certificate_text c ++ 10 ∷ []) first later)

-- nothing was read of the text
pub all-comes : (ahead : Ahead) (told : Option (List ℕ)) → ahead ≡ record { held = []; reads = most_reads }
    → coming ahead told ≡ told
all-comes ahead None fresh = refl
all-comes ahead (Some bytes) fresh = ap (λ (a : Ahead). Some (a.held ++ bytes)) fresh

-- ---- how often the reader was asked

-- no more was read than these bytes, and one read
asked-on : (first old now : Reader) (left new : Option (List ℕ)) (front bytes : List ℕ) (more all : ℕ)
    → HasAsked first left 0 old → Consumes first.told left front → Consumes left new bytes
    → now.asked ≤ old.asked + more → more ≤ length bytes + all → HasAsked first new all now
asked-on first old now left new front bytes more all asked is read few le = known first.told left new asked is read
  where
    known : (told left new : Option (List ℕ))
        → IfSome told (λ xs. IfSome left (λ ys. old.asked + length ys ≤ first.asked + length xs + 0))
        → Consumes told left front → Consumes left new bytes
        → IfSome told (λ xs. IfSome new (λ ys. now.asked + length ys ≤ first.asked + length xs + all))
    known None left new asked is read = tt
    known (Some xs) None new asked is read = absurd is
    known (Some xs) (Some ys) None asked is read = tt
    known (Some xs) (Some ys) (Some zs) asked is read =
        omega (arith, asked, few, le, ap length read, length-append bytes zs)

-- no fewer bytes are gone than stand in what came
gives-read : (limit : ℕ) (old new : Option (List ℕ)) (next : Next) (l : List ℕ) → Gives limit old next l new
    → (bytes : List ℕ) × Consumes old new bytes × (length l ≤ length bytes)
gives-read limit None new next l gives = (l, tt, omega arith)
gives-read limit (Some xs) None next l gives = absurd gives
gives-read limit (Some xs) (Some ys) Line l gives =
    (l ++ 10 ∷ [], gives.2 ∙ sym (append_assoc l (10 ∷ []) ys), omega (arith, length-append l (10 ∷ [])))
gives-read limit (Some xs) (Some ys) Cut l gives =
    (l, gives.3 ∙ sym (append-nil l) ∙ ap (λ (r : List ℕ). l ++ r) (sym gives.4), omega arith)
gives-read limit (Some xs) (Some ys) TooLong l gives = (l, gives.1, omega arith)
gives-read limit (Some xs) (Some ys) End l gives = ([], gives.0 ∙ sym gives.2, omega (arith, ap length gives.1))

-- a verdict by what came next: no more was read than that, and one read
pub near-next : (count second n : ℕ) (first old now : Reader) (left new : Option (List ℕ)) (front : List ℕ)
    (p : Progress) (next : Next) (l : List ℕ) (v : Verdict) → 0 < count → HasAsked first left 0 old
    → Consumes first.told left front
    → ComesBehind p first.told left n next l new → now.asked ≤ old.asked + (length l + 1)
    → IsFound second first.told new 0 v → IsVerdictNear count first now v
near-next count second n first old now left new front p next l v some asked read is few found =
    let came = gives-read is.limit left new next l is.gives in
    let more = asked-on first old now left new front came.0 (length l + 1) 1 asked read came.1 few
    (omega (arith, came.2)) in
    near count second 1 first now v (answer-of second 0 1 1 first now new v found more (omega arith))
    (omega (arith, some))

-- the rules of a certificate by itself are three
pub keeps-all : (decisions : List Decision) → KeepsItself decisions fault.Ranks
    → KeepsItself decisions fault.DecidedTwice → KeepsItself decisions fault.WalkShape → (f : Fault)
    → KeepsItself decisions f
keeps-all decisions ranks once walks fault.Ranks = ranks
keeps-all decisions ranks once walks fault.DecidedTwice = once
keeps-all decisions ranks once walks fault.WalkShape = walks
keeps-all decisions ranks once walks f = tt

-- ---- how long a section may be

pub most-within : (count many most : ℕ) → 0 < count → most ≤ 3145726 + many / count / 2 → IsMost count many most
most-within count many most some le =
    let each = many / count in
    let half = each / 2 in
    let few : 2 * half ≤ each = omega arith in
    let all : count * each ≤ many = omega (arith, some) in
    let most-half : longest most ≤ 4194304 + half = omega (arith, le) in
    let sized : 2 * count * longest most ≤ 2 * count * (4194304 + half) = mul-le-mul_left (2 * count) most-half in
    let split : 2 * count * (4194304 + half) ≡ 2 * count * 4194304 + 2 * count * half =
    mul-add (2 * count) 4194304 half in
    let turned : 2 * count * half ≡ count * (2 * half) = ap (λ n. n * half) (mul_comm 2 count)
    ∙ mul_assoc count 2 half in
    let fewer : count * (2 * half) ≤ count * each = mul-le-mul_left count few in
    omega (arith, sized, split, turned, fewer, all)
