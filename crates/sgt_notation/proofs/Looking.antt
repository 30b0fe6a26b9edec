-- What a look found, joined to what came before it and comes after it.
use Rattle.std.proofs.Common.{◌≡◌, ◌≢◌, ◌⊎◌, inl, inr, ℕ, zero, suc, ◌+◌, ◌-◌, List, [], ◌∷◌, ◌++◌, take, drop, Option, Some, None, IfSome, ◌≤◌, sym, ap, ap₂, subst, length, ◌<◌, ◌∙◌, append_assoc, arith, length-append, length-take}
use Rattle.std.proofs.lemmas.List.{take-append-drop, take-append-le, drop-drop}
use Rattle.std.proofs.lemmas.List.Elements.{All-append, All-take}
use Rattle.std.proofs.lemmas.Grind.{common_steps}
use Rattle.std.specs.Io.KnownBytes.{Consumes}
use native.Mathlib.Numerals.{unary_clauses}
use Rattle.sgt_notation.specs.Spelling.{HasNoLf}
use Rattle.sgt_notation.specs.Lines.{Ahead, IsLongerThan, coming, Gives, Spends, SpendsNext}
use Rattle.sgt_notation.specs.Private.{IsLeft, Looks, Moves, Outgrows}
use Rattle.sgt_notation.specs.declared.lines.Next.{Next}
use Rattle.sgt_notation.specs.declared.lines.Next.TheVariants.{Line, Cut, TooLong, End}

-- a line that is longer than this by its front
longer-append : (size : ℕ) (front back : List ℕ) → IsLongerThan size front → IsLongerThan size (front ++ back)
longer-append size front back h = (
  simp length-append (omega (arith, h.0)),
  subst HasNoLf (sym (take-append-le (size + 1) front back (omega (arith, h.0)))) h.1,
)

pub gives_found : (limit : ℕ) (s0 s1 s2 : Ahead) (t0 t1 : Option (List ℕ)) (line line' : List ℕ) (next : Next) (n : ℕ)
    → HasNoLf line → Consumes (coming s0 t0) (coming s1 t1) line → Looks limit s1.held line (Some next) n line'
    → IsLeft s1.held (Some next) n s2.held
    → Gives limit (coming s0 t0) next line' (coming s2 t1)
gives_found limit s0 s1 s2 None t1 line line' next n plain takes looks left = tt
gives_found limit s0 s1 s2 (Some xs) None line line' next n plain takes looks left = absurd takes
gives_found limit s0 s1 s2 (Some xs) (Some ys) line line' Line n plain takes looks left =
    let part = take n s1.held in
    let together : HasNoLf (line ++ part) = All-append (λ b. b ≢ 10) line part plain looks.1 in
    let split : s1.held ≡ part ++ 10 ∷ s2.held = rw left looks.2 in
    let whole : (line ++ part) ++ 10 ∷ (s2.held ++ ys) ≡ line ++ ((part ++ 10 ∷ s2.held) ++ ys) = simp append_assoc in
    let ended : line' ++ 10 ∷ (s2.held ++ ys) ≡ line ++ (s1.held ++ ys) = ap (λ l. l ++ 10 ∷ (s2.held ++ ys)) looks.3
    ∙ (whole ∙ ap (λ h. line ++ (h ++ ys)) (sym split)) in
    (rw looks.3 together, looks.4, takes ∙ sym ended)
gives_found limit s0 s1 s2 (Some xs) (Some ys) line line' TooLong n plain takes looks left =
    let part = take n s1.held in
    let together : HasNoLf (line ++ part) = All-append (λ b. b ≢ 10) line part plain looks.1 in
    let long : limit < length (line ++ part) = simp (length-append, length-take) (omega (arith, looks.0, looks.2)) in
    let whole : s0.held ++ xs ≡ (line ++ part) ++ (drop n s1.held ++ ys) = takes
    ∙ (ap (λ h. line ++ (h ++ ys)) (sym (take-append-drop n s1.held)) ∙ simp append_assoc) in (
      subst (IsLongerThan limit) (sym whole) (longer-append limit (line ++ part) (drop n s1.held ++ ys) (
        long,
        All-take (λ b. b ≢ 10) (limit + 1) (line ++ part) together,
      )),
      takes ∙ ap₂ (λ (l : List ℕ) (h : List ℕ). l ++ (h ++ ys)) (sym looks.3) (sym left),
    )
gives_found limit s0 s1 s2 (Some xs) (Some ys) line line' Cut n plain takes looks left = absurd looks
gives_found limit s0 s1 s2 (Some xs) (Some ys) line line' End n plain takes looks left = absurd looks

drop_take : (m n : ℕ) (xs : List ℕ) → drop m (take n xs) ≡ take (n - m) (drop m xs)
drop_take zero n xs = simp unary_clauses
drop_take (suc m) zero xs = simp unary_clauses (grind (arith, common_steps))
drop_take (suc m) (suc n) [] = grind (arith, common_steps)
drop_take (suc m) (suc n) (x ∷ xs) = let e : suc n - suc m ≡ n - m = omega arith in rw e (drop_take m n xs)

-- a window that begins m places later
pub window_later : (start end m : ℕ) (xs : List ℕ)
    → take (end - (start + m)) (drop (start + m) xs) ≡ drop m (take (end - start) (drop start xs))
window_later start end m xs =
    let e : end - (start + m) ≡ (end - start) - m = omega arith in
    rw (e, ← drop-drop m start xs) (sym (drop_take m (end - start) (drop start xs)))

-- over a look no byte is lost but the LF
pub moves_found : (limit : ℕ) (held held' line line' : List ℕ) (found : Option Next) (n : ℕ)
    → Looks limit held line found n line' → IsLeft held found n held'
    → Moves found (length held + length line) (length held' + length line')
moves_found limit held held' line line' (Some Line) n looks left =
    let all = ap length looks.2 ∙ length-append (take n held) (10 ∷ drop (n + 1) held) in
    let grown = ap length looks.3 ∙ length-append line (take n held) in
    let less = ap length left in
    omega (arith, all, grown, less)
moves_found limit held held' line line' (Some TooLong) n looks left = let same = ap length looks.3 in let less =
    ap length left in omega (arith, same, less)
moves_found limit held held' line line' (Some Cut) n looks left = absurd looks
moves_found limit held held' line line' (Some End) n looks left = absurd looks
moves_found limit held held' line line' None n looks left =
    let grown = ap length looks.2 ∙ length-append line held in
    let less = ap length left in
    omega (arith, grown, less)

-- what stands in the line after such a look has no LF, and is no longer than the limit
pub line_found : (limit : ℕ) (held line line' : List ℕ) (next : Next) (n : ℕ) → HasNoLf line → length line ≤ limit
    → Looks limit held line (Some next) n line' → HasNoLf line' × (length line' ≤ limit)
line_found limit held line line' Line n plain short looks =
    (subst HasNoLf (sym looks.3) (All-append (λ b. b ≢ 10) line (take n held) plain looks.1), looks.4)
line_found limit held line line' TooLong n plain short looks =
    (subst HasNoLf (sym looks.3) plain, subst (λ (l : List ℕ). length l ≤ limit) (sym looks.3) short)
line_found limit held line line' Cut n plain short looks = absurd looks
line_found limit held line line' End n plain short looks = absurd looks

-- a look never meets the end of the source
pub found-not_ended : {P : Type 0} (limit : ℕ) (held line line' : List ℕ) (next : Next) (n : ℕ)
    → Looks limit held line (Some next) n line' → (next ≡ Cut) ⊎ (next ≡ End) → P
found-not_ended limit held line line' Line n looks ended = elim ended [ inl e ↦ absurd cc | inr e ↦ absurd cc ]
found-not_ended limit held line line' TooLong n looks ended = elim ended [ inl e ↦ absurd cc | inr e ↦ absurd cc ]
found-not_ended limit held line line' Cut n looks ended = absurd looks
found-not_ended limit held line line' End n looks ended = absurd looks

pub found-spends : (limit : ℕ) (held line line' : List ℕ) (next : Next) (n reads reads' : ℕ)
    (old new : Option (List ℕ)) → Looks limit held line (Some next) n line' → Spends reads old reads' new
    → SpendsNext next reads old reads' new
found-spends limit held line line' Line n reads reads' old new looks spends = spends
found-spends limit held line line' TooLong n reads reads' old new looks spends = spends
found-spends limit held line line' Cut n reads reads' old new looks spends = absurd looks
found-spends limit held line line' End n reads reads' old new looks spends = absurd looks
