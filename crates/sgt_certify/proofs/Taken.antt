-- How far a reader was read, against all that it told.
use Rattle.std.proofs.Common.{◌≡◌, ℕ, List, [], ◌∷◌, ◌++◌, take, drop, Option, Some, None, IfSome, true, false, refl, sym, ap, ap₂, subst, ◌∙◌, arith, append_assoc}
use Rattle.std.specs.Io.KnownBytes.{Consumes}
use Rattle.std.proofs.lemmas.List.{append-nil, take-append-drop}
use Rattle.sgt_names.specs.Limits.{max_line}
use Rattle.sgt_notation.specs.Lines.{Ahead, Gives, Spends, coming, passed}
use Rattle.sgt_notation.specs.declared.lines.Next.TheVariants.{Line, Cut, TooLong, End}
use Rattle.sgt_audit.specs.declared.faults.Fault.{Fault}
use Rattle.sgt_certify_faults.specs.Faults.{IsFirstFault}
use Rattle.sgt_certify.specs.Answer.{IsTaken}
use Rattle.sgt_notation.proofs.Texts.{spends-none}

pub nothing-taken : (told : Option (List ℕ)) (ahead : Ahead) (text : List ℕ) → text ≡ [] → ahead.held ≡ []
    → Consumes told (coming ahead told) text
nothing-taken None ahead text none fresh = tt
nothing-taken (Some bytes) ahead text none fresh =
    ap₂ (λ (t held : List ℕ). t ++ (held ++ bytes)) (sym none) (sym fresh)

-- the lines that are held whole, moved to the text
pub held-taken : (told rest : Option (List ℕ)) (n : ℕ) (ahead later : Ahead) (text more : List ℕ)
    → Consumes told (coming ahead rest) text
    → later ≡ passed n ahead → more ≡ text ++ take n ahead.held → Consumes told (coming later rest) more
held-taken None rest n ahead later text more met same is = tt
held-taken (Some bytes) None n ahead later text more met same is = absurd met
held-taken (Some bytes) (Some left) n ahead later text more met same is =
    met ∙ ap (λ (h : List ℕ). text ++ (h ++ left)) (sym (take-append-drop n ahead.held))
    ∙ ap (λ (t : List ℕ). text ++ t) (append_assoc (take n ahead.held) (drop n ahead.held) left)
    ∙ sym (append_assoc text (take n ahead.held) (drop n ahead.held ++ left))
    ∙ ap₂ (λ (t h : List ℕ). t ++ (h ++ left)) (sym is) (ap (λ (a : Ahead). a.held) (sym same))

pub line-taken : (told old new : Option (List ℕ)) (limit : ℕ) (text line more : List ℕ) → Consumes told old text
    → Gives limit old Line line new
    → more ≡ (text ++ line) ++ 10 ∷ [] → Consumes told new more
line-taken None old new limit text line more rest gives is = tt
line-taken (Some bytes) None new limit text line more rest gives is = absurd rest
line-taken (Some bytes) (Some xs) None limit text line more rest gives is = absurd gives
line-taken (Some bytes) (Some xs) (Some ys) limit text line more rest gives is =
    rest ∙ ap (λ (t : List ℕ). text ++ t) gives.2 ∙ sym (append_assoc text line (10 ∷ ys))
    ∙ sym (append_assoc (text ++ line) (10 ∷ []) ys) ∙ ap (λ (t : List ℕ). t ++ ys) (sym is)

pub cut-taken : (told old new : Option (List ℕ)) (limit : ℕ) (text line more : List ℕ) → Consumes told old text
    → Gives limit old Cut line new
    → more ≡ text ++ line → IsTaken told more true
cut-taken None old new limit text line more rest gives is = tt
cut-taken (Some bytes) None new limit text line more rest gives is = absurd rest
cut-taken (Some bytes) (Some xs) None limit text line more rest gives is = absurd gives
cut-taken (Some bytes) (Some xs) (Some ys) limit text line more rest gives is =
    ([], rest ∙ ap (λ (t : List ℕ). text ++ t) gives.3 ∙ sym is ∙ sym (append-nil more), refl)

pub end-taken : (told old new : Option (List ℕ)) (limit : ℕ) (text line : List ℕ) → Consumes told old text
    → Gives limit old End line new
    → IsTaken told text true
end-taken None old new limit text line rest gives = tt
end-taken (Some bytes) None new limit text line rest gives = absurd rest
end-taken (Some bytes) (Some xs) None limit text line rest gives = absurd gives
end-taken (Some bytes) (Some xs) (Some ys) limit text line rest gives =
    ([], rest ∙ ap (λ (t : List ℕ). text ++ t) gives.0, refl)

pub long-taken : (told old new : Option (List ℕ)) (text line : List ℕ) → Consumes told old text
    → Gives max_line old TooLong line new
    → IsTaken told text false
long-taken None old new text line rest gives = tt
long-taken (Some bytes) None new text line rest gives = absurd rest
long-taken (Some bytes) (Some xs) None text line rest gives = absurd gives
long-taken (Some bytes) (Some xs) (Some ys) text line rest gives = (xs, rest, gives.0)

pub fault-taken : (told rest : Option (List ℕ)) (text : List ℕ) (n : ℕ) (f : Fault) → Consumes told rest text
    → ((more : List ℕ) → IsFirstFault (text ++ more) n f) → IfSome told (λ bytes. IsFirstFault bytes n f)
fault-taken None rest text n f met first = tt
fault-taken (Some bytes) None text n f met first = absurd met
fault-taken (Some bytes) (Some xs) text n f met first = subst (λ (t : List ℕ). IsFirstFault t n f) (sym met) (first xs)

-- ---- the reads

pub spends_on : (told mid new : Option (List ℕ)) (a b b' c : ℕ) → b' ≡ b → Spends a told b mid → Spends b' mid c new
    → Spends a told c new
spends_on None mid new a b b' c same first later = tt
spends_on (Some xs) None new a b b' c same first later = absurd first
spends_on (Some xs) (Some ys) None a b b' c same first later = absurd later
spends_on (Some xs) (Some ys) (Some zs) a b b' c same first later = omega arith
