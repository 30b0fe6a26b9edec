-- Words in a text: in front, behind, and the first of them in the middle.
use Rattle.std.proofs.Common.{◌≡◌, ◌≢◌, ℕ, ◌+◌, ◌-◌, ◌≤◌, Bool, true, false, List, ◌++◌, length, take, drop, get_or, Option, Some, None, inl, inr, refl, sym, subst, ap, ◌∙◌, arith, length-append, codes}
use Rattle.std.specs.Prelude.{◌↔◌, IsTrue, MatchOption, MatchBool}
use Rattle.std.specs.Str.Pattern.{FindsText, FindsTextPrefix, FindsTextSuffix, HasSuffixMatch, StripsPrefix, SplitsAroundMatch}
use Rattle.std.proofs.lemmas.Bool.{cases_lt, false≢true}
use Rattle.std.proofs.lemmas.List.{take-append-drop, drop_at, get_or-append-add}
use Rattle.std.proofs.lemmas.Str.Pattern.{IsSplitOnceResult, split_parts}
use Rattle.sgt_page.specs.Verdict.{EndsSo, Lacks, TellsFault, TellsNoFault}
use denote.Ref.{Bor}

pub strip-text : (p bs : List ℕ) (r : Option (Bor (List ℕ)))
    → MatchOption r (FindsTextPrefix p bs None) (λ x. StripsPrefix (FindsTextPrefix p) bs x.now)
    → MatchOption r ((rest : List ℕ) → bs ≢ p ++ rest) (λ x. bs ≡ p ++ x.now)
strip-text p bs None h = λ rest e. h rest e
strip-text p bs (Some x) h = h.1.1 ∙ ap (λ l. p ++ l) (sym h.2)

pub ends-text : (r : Bool) (n s : List ℕ)
    → MatchBool r (HasSuffixMatch (FindsTextSuffix n) s) (FindsTextSuffix n s None) → IsTrue r ↔ EndsSo s n
ends-text true n s h = (λ yes. (take (length s - h.0) s, h.1.1), λ has. refl)
ends-text false n s h = (λ yes. absurd (false≢true yes), λ has. absurd (h has.0 has.1))

pub split-first : (p bs x y : List ℕ) → SplitsAroundMatch (FindsText p) bs x y
    → (bs ≡ x ++ (p ++ y))
    × ((before behind : List ℕ) → bs ≡ before ++ (p ++ behind) → length x ≤ length before)
split-first p bs x y h = (
  sym (take-append-drop h.0 bs) ∙ ap (λ l. take h.0 bs ++ l) h.2.1.split ∙ (λ k. sym h.3 k ++ (p ++ sym h.4 k)),
  λ before behind e. elim (cases_lt (length before) (length x)) [
    | inl less ↦ absurd (h.2.0 (length before) (omega (arith, less, h.6)) behind
        (ap (drop (length before)) e ∙ drop_at before (p ++ behind) (length before) refl))
    | inr le ↦ le
  ],
)

-- what stands behind the first such word has none of these bytes, nor has what stands behind another
pub lacks-later : (s f b front behind p : List ℕ) (c : ℕ) → s ≡ front ++ (p ++ behind) → s ≡ f ++ (p ++ b)
    → length front ≤ length f → Lacks c behind → Lacks c b
lacks-later s f b front behind p c first other le lacks n less is =
    let k = length f - length front + n in
    let at : get_or s (length f + (length p + n)) 0 ≡ get_or b n 0 =
    ap (λ (l : List ℕ). get_or l (length f + (length p + n)) 0) other
    ∙ get_or-append-add f (p ++ b) (length p + n) 0 ∙ get_or-append-add p b n 0 in
    let here : get_or s (length front + (length p + k)) 0 ≡ get_or behind k 0 =
    ap (λ (l : List ℕ). get_or l (length front + (length p + k)) 0) first
    ∙ get_or-append-add front (p ++ behind) (length p + k) 0 ∙ get_or-append-add p behind k 0 in
    let same : length front + (length p + k) ≡ length f + (length p + n) = omega (arith, le) in
    let one : length s ≡ length front + length (p ++ behind) = ap length first ∙ length-append front (p ++ behind) in
    let two : length s ≡ length f + length (p ++ b) = ap length other ∙ length-append f (p ++ b) in
    let in_one = length-append p behind in
    let in_two = length-append p b in
    lacks k (omega (arith, one, two, in_one, in_two, le, less)) (sym here ∙ ap (λ m. get_or s m 0) same ∙ at ∙ is)

-- a line with a fault is cut behind the number of that line
pub fault-split : (line place : List ℕ) (r : Option (Bor (List ℕ) × Bor (List ℕ))) → line ≡ codes "no line " ++ place
    → IsSplitOnceResult 32 place r
    → MatchOption r (TellsNoFault line) (λ f. TellsFault line f.0.now f.1.now)
fault-split line place None is h = λ other e.
    let both : codes "no line " ++ place ≡ codes "no line " ++ other = sym is ∙ e in
    let same : place ≡ other = cc in
    subst (λ (t : List ℕ). Lacks 32 t) same (split_parts 32 place None h (omega arith))
fault-split line place (Some x) is h =
    let parts = split_parts 32 place (Some x) h (omega arith) in
    (is ∙ ap (λ (t : List ℕ). codes "no line " ++ t) parts.0, parts.1)
