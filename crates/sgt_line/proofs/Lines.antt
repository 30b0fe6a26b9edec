-- Where a line begins.
use Rattle.std.proofs.lemmas.Grind.{common_steps}
use Rattle.std.proofs.lemmas.Bool.{cases_lt}
use Rattle.std.proofs.Common.{◌≡◌, ◌∙◌, ◌+◌, ◌-◌, ◌<◌, ◌≤◌, ℕ, Bool, true, false, List, [], ◌∷◌, ◌++◌, Option, Some, None, append_assoc, ap, arith, drop, inl, inr, length, length-append, refl, subst, sym, take, take-append-drop}
use Rattle.std.specs.Prelude.{IsTrue, codes, is_some}
use Rattle.memchr.specs.Find.{FindsNeedle, OccursAt}
use Rattle.memchr.proofs.lemmas.MatchLemmas.{OccursAt-from_part, OccursAt-split}
use Rattle.sgt_line.specs.Written.{AreLines, HasRefusal, IsCutAt}
use Rattle.sgt_line.specs.private.Found.{BeginsAt, FindsLine}

take_front : (front rest : List ℕ) → take (length front) (front ++ rest) ≡ front
take_front front rest = grind (arith, common_steps)

drop_front : (front rest : List ℕ) → drop (length front) (front ++ rest) ≡ rest
drop_front front rest = grind (arith, common_steps)

drop_both : (front head behind : List ℕ) → drop (length front + length head) (front ++ (head ++ behind)) ≡ behind
drop_both front head behind =
    ap (drop (length front + length head)) (sym (append_assoc front head behind))
    ∙ (ap (λ n. drop n ((front ++ head) ++ behind)) (sym (length-append front head))
    ∙ drop_front (front ++ head) behind)

whole : (xs : List ℕ) (n : ℕ) → n ≡ length xs → take n xs ≡ xs
whole xs n e = grind (arith, common_steps)

-- the text is cut at the place where a line begins so
pub cut_there : (text head : List ℕ) (place : ℕ) → BeginsAt text head place
    → AreLines (take place text)
    × (text ≡ take place text ++
    (head ++ take (length text - (place + length head)) (drop (place + length head) text)))
cut_there text head place begins =
    let front = begins.0 in
    let behind = begins.1 in
    let taken : take place text ≡ front =
    ap (λ n. take n text) (sym begins.3) ∙ (ap (take (length front)) begins.4 ∙ take_front front (head ++ behind)) in
    let dropped : drop (place + length head) text ≡ behind =
    ap (λ n. drop (n + length head) text) (sym begins.3)
    ∙ (ap (drop (length front + length head)) begins.4 ∙ drop_both front head behind) in
    let size : length text - (place + length head) ≡ length behind =
    omega (arith, ap length begins.4, length-append front (head ++ behind), length-append head behind, begins.3) in
    let last : take (length text - (place + length head)) (drop (place + length head) text) ≡ behind =
    ap (take (length text - (place + length head))) dropped ∙ whole behind _ size in (
      subst AreLines (sym taken) begins.2,
      begins.4
          ∙ (ap (λ l. l ++ (head ++ behind)) (sym taken) ∙ ap (λ l. take place text ++ (head ++ l)) (sym last)),
    )

-- at the start
pub begins_first : (text head rest : List ℕ) → text ≡ head ++ rest → FindsLine text head (Some 0)
begins_first text head rest e = (([], rest, inl refl, refl, e), λ place begins. omega arith)

-- the line behind the LF that a needle of an LF begins with
pub begins_behind : (text head : List ℕ) (place : ℕ) → OccursAt text (10 ∷ head) place → BeginsAt text head (place + 1)
begins_behind text head place occurs =
    let split = OccursAt-split text (10 ∷ head) place occurs in
    let behind = drop (place + length (10 ∷ head)) text in
    let front = take place text in
    let room = occurs.fits in (
      front ++ (10 ∷ []),
      behind,
      inr (front, refl),
      grind (arith, common_steps),
      sym (take-append-drop place text)
          ∙ (ap (λ l. front ++ l) split ∙ sym (append_assoc front (10 ∷ []) (head ++ behind))),
    )

occurs_there : (text head before behind : List ℕ) → text ≡ (before ++ (10 ∷ [])) ++ (head ++ behind)
    → OccursAt text (10 ∷ head) (length before)
occurs_there text head before behind e =
    let other : text ≡ before ++ (10 ∷ (head ++ behind)) = e ∙ append_assoc before (10 ∷ []) (head ++ behind) in
    let dropped : drop (length before) text ≡ 10 ∷ (head ++ behind) =
    ap (drop (length before)) other ∙ drop_front before (10 ∷ (head ++ behind)) in
    OccursAt-from_part text (10 ∷ head) (length before)
    (omega (arith, ap length other, length-append before (10 ∷ (head ++ behind)), length-append head behind))
    (ap (take (length (10 ∷ head))) dropped ∙ take_front (10 ∷ head) behind)

-- where no line begins so at the start, the first that does is behind the first such LF
pub begins_later : (text head : List ℕ) (found : Option ℕ) → ((rest : List ℕ) → text ≡ head ++ rest → ⊥)
    → FindsNeedle text (10 ∷ head) 0 found
    → (place : ℕ) → BeginsAt text head place → (before : List ℕ) × (length before + 1 ≡ place)
    × OccursAt text (10 ∷ head) (length before)
begins_later text head found start finds place (front, behind, inl none, size, e) =
    absurd (start behind (e ∙ ap (λ l. l ++ (head ++ behind)) none))
begins_later text head found start finds place (front, behind, inr (before, last), size, e) = (
  before,
  omega (arith, ap length last, length-append before (10 ∷ []), size),
  occurs_there text head before behind (e ∙ ap (λ l. l ++ (head ++ behind)) last),
)

pub finds_line : (text head : List ℕ) (place : ℕ) → ((rest : List ℕ) → text ≡ head ++ rest → ⊥)
    → FindsNeedle text (10 ∷ head) 0 (Some place)
    → FindsLine text head (Some (place + 1))
finds_line text head place start finds = (
  begins_behind text head place finds.1,
  λ other begins.
      let later = begins_later text head (Some place) start finds other begins in
      elim (cases_lt (length later.0) place) [
        | inl less ↦ absurd (finds.0.before (length later.0) (omega arith) less later.2)
        | inr not_less ↦ omega (arith, later.1)
      ],
)

pub finds_none : (text head : List ℕ) → ((rest : List ℕ) → text ≡ head ++ rest → ⊥)
    → FindsNeedle text (10 ∷ head) 0 None
    → FindsLine text head None
finds_none text head start finds = λ place begins.
    let later = begins_later text head None start finds place begins in
    finds (length later.0) (omega arith) (omega (arith, later.2.fits)) later.2

-- a reply refuses its event exactly where a line is found
pub refusal_found : (replies : List ℕ) (found : Option ℕ) (is : Bool) → is ≡ is_some found → FindsLine replies (codes "! E") found
    → (IsTrue is → HasRefusal replies) × (HasRefusal replies → IsTrue is)
refusal_found replies (Some place) is e finds = (λ yes. (finds.0.0, finds.0.1, finds.0.2, finds.0.4), λ has. e)
refusal_found replies None is e finds =
    (λ yes. absurd cc, λ has. absurd (finds (length has.0) (has.0, has.1, has.2, refl, has.3)))
