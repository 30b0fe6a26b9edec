-- The lines of an answer, step by step.
use Rattle.std.proofs.Common.{◌≡◌, ◌≢◌, ◌==◌, ◌++◌, ◌+◌, ◌<◌, ◌≤◌, ℕ, zero, suc, true, List, [], ◌∷◌, Some, get_or, length, take, drop, map, option_map, codes, refl, sym, ap, ap₂, ◌∙◌, subst, append_assoc, append-nil, arith, inl, inr}
use Rattle.std.specs.Prelude.{slice_get}
use Rattle.std.proofs.lemmas.Bool.{false≢true}
use Rattle.std.proofs.lemmas.Bool.Decides.{eqb_tells}
use Rattle.std.proofs.lemmas.List.{length-map, take_all}
use Rattle.std.proofs.lemmas.List.Elements.{recursion_from_All}
use Rattle.std.proofs.lemmas.Option.{same_Some, slice_get-get_or, slice_get-map}
use Rattle.sgt_names.proofs.Lists.{take_next}
use Rattle.sgt_notation.specs.Spelling.{HasNoLf}
use Rattle.sgt_notation.proofs.OneSpelling.{cut_at_byte}
use Rattle.sgt_notation.proofs.Unspelled.{never}
use Rattle.sgt_history_picture.specs.Told.{AreTold, IsCircle, IsCycleTold, IsStep, Lead, Step, step_of, step_text}
use Rattle.sgt_history_picture.specs.declared.told.Told.{Told}
use Rattle.sgt_history_picture.proofs.Steps.{one-step}

-- these steps are told by the front of a text
pub record IsFront (text rest : List ℕ) (steps : List Step) : Type 0 where
  pub so_far : (more : List Step) → AreTold rest more → AreTold text (steps ++ more)
  pub left : (all : List Step) → AreTold text all → (more : List Step) × AreTold rest more

pub front-none : (text : List ℕ) → IsFront text text []
front-none text = record { so_far = λ more told. told; left = λ all told. (all, told) }

-- a text that begins with this line and an LF is told by the line's step, and what is behind it
one-line : (rest line behind : List ℕ) (s : Step) (more : List Step) → HasNoLf line → rest ≡ line ++ 10 ∷ behind
    → AreTold rest (s ∷ more) → (line ≡ step_text s) × AreTold behind more
one-line rest line behind s more plain cut told =
    let same = cut_at_byte 10 line (step_text s) behind told.0 (recursion_from_All (λ b. b ≢ 10) line plain)
    (recursion_from_All (λ b. b ≢ 10) (step_text s) told.2) (sym cut ∙ told.3) in
    (same.0, subst (λ (t : List ℕ). AreTold t more) (sym same.1) told.4)

no-nothing : (rest line behind : List ℕ) → rest ≡ line ++ 10 ∷ behind → rest ≡ [] → ⊥
no-nothing rest [] behind cut none = cc
no-nothing rest (b ∷ line) behind cut none = cc

left-behind : (rest line behind : List ℕ) (more : List Step) → HasNoLf line → rest ≡ line ++ 10 ∷ behind
    → AreTold rest more → (more' : List Step) × AreTold behind more'
left-behind rest line behind [] plain cut none = absurd (no-nothing rest line behind cut none)
left-behind rest line behind (s ∷ more) plain cut told = (more, (one-line rest line behind s more plain cut told).1)

-- one more line
pub front-more : (text rest line behind : List ℕ) (steps : List Step) (s : Step) → IsFront text rest steps → IsStep s
    → line ≡ step_text s
    → HasNoLf line → rest ≡ line ++ 10 ∷ behind → IsFront text behind (steps ++ s ∷ [])
front-more text rest line behind steps s front is spelled plain cut = record {
  so_far = λ more told. subst (AreTold text) (sym (append_assoc steps (s ∷ []) more))
      (front.so_far (s ∷ more) (
        behind,
        is,
        subst HasNoLf spelled plain,
        cut
            ∙ ap (λ (t : List ℕ). t ++ 10 ∷ behind) spelled,
        told,
      ));
  left = λ all told. let h = front.left all told in left-behind rest line behind h.0 plain cut h.1;
}

-- nothing is left
pub front-whole : (text : List ℕ) (steps : List Step) → IsFront text [] steps → AreTold text steps
front-whole text steps front = subst (AreTold text) (append-nil steps) (front.so_far [] refl)

-- what is left begins with a line that tells no step
pub front-no : (text rest line behind : List ℕ) (steps : List Step) → IsFront text rest steps → HasNoLf line
    → rest ≡ line ++ 10 ∷ behind
    → ((s : Step) → IsStep s → line ≡ step_text s → ⊥) → (all : List Step) → AreTold text all → ⊥
front-no text rest line behind steps front plain cut none all told =
    let h = front.left all told in no-step h.0 h.1
  where
    no-step : (more : List Step) → AreTold rest more → ⊥
    no-step [] nothing = no-nothing rest line behind cut nothing
    no-step (s ∷ more) told' = none s told'.1 (one-line rest line behind s more plain cut told').0

-- what is left has no LF
pub front-cut : (text rest : List ℕ) (steps : List Step) → IsFront text rest steps → HasNoLf rest → rest ≢ []
    → (all : List Step) → AreTold text all → ⊥
front-cut text rest steps front plain some all told =
    let h = front.left all told in no-line h.0 h.1
  where
    no-line : (more : List Step) → AreTold rest more → ⊥
    no-line [] nothing = some nothing
    no-line (s ∷ more) told' = never 10 rest (step_text s) told'.0 plain told'.3

pub is-nothing : (text : List ℕ) → true ≡ (length text == 0) → text ≡ []
is-nothing [] is = refl
is-nothing (b ∷ text) is = elim (eqb_tells (length (b ∷ text)) 0) [
  | inl h ↦ absurd (omega (arith, h.1))
  | inr h ↦ absurd (false≢true (sym h.0 ∙ sym is))
]

-- the same text and steps, written in other words
pub front-same : (text rest rest' : List ℕ) (steps steps' : List Step) → rest ≡ rest' → steps ≡ steps'
    → IsFront text rest steps → IsFront text rest' steps'
front-same text rest rest' steps steps' same same' front =
    subst (λ (ss : List Step). IsFront text rest' ss) same' (subst (λ (t : List ℕ). IsFront text t steps) same front)

-- a text tells one list of steps
pub one-told : (text : List ℕ) (steps steps' : List Step) → AreTold text steps → AreTold text steps' → steps ≡ steps'
one-told text [] [] told told' = refl
one-told text [] (t ∷ steps') told told' = absurd (no-nothing text (step_text t) told'.0 told'.3 told)
one-told text (s ∷ steps) [] told told' = absurd (no-nothing text (step_text s) told.0 told.3 told')
one-told text (s ∷ steps) (t ∷ steps') told told' =
    let first = one-line text (step_text s) told.0 t steps' told.2 told.3 told' in
    ap₂ (λ (x : Step) (xs : List Step). x ∷ xs) (one-step s t told.1 told'.1 first.0)
    (one-told told.0 steps steps' told.4 first.1)

-- ---- an answer

-- behind the word `no` stand the name, an LF and the steps
pub behind-no : (answer told name : List ℕ) (steps : List Step) → answer ≡ codes "no " ++ told → (is : IsCycleTold answer name steps) → told ≡ name ++ 10 ∷ is.rest
behind-no answer told name steps begins is = ap (λ (t : List ℕ). drop 3 t) (sym begins ∙ is.is)

pub no-name : (answer told name : List ℕ) (steps : List Step) → answer ≡ codes "no " ++ told → HasNoLf told → IsCycleTold answer name steps → ⊥
no-name answer told name steps begins plain is =
    never 10 told name is.rest plain (behind-no answer told name steps begins is)

-- the steps that are told behind the name
pub told-behind : (answer told name line behind : List ℕ) (steps : List Step) → answer ≡ codes "no " ++ told → HasNoLf line → told ≡ line ++ 10 ∷ behind
    → IsCycleTold answer name steps → AreTold behind steps × IsCircle steps
told-behind answer told name line behind steps begins plain cut is =
    let same = cut_at_byte 10 line name behind is.rest (recursion_from_All (λ b. b ≢ 10) line plain)
    (recursion_from_All (λ b. b ≢ 10) name is.named)
    (sym cut ∙ behind-no answer told name steps begins is) in
    (subst (λ (t : List ℕ). AreTold t steps) (sym same.1) is.told, is.circle)

-- steps that don't lead round are told there
pub no-round : (behind : List ℕ) (steps steps' : List Step) → AreTold behind steps → (IsCircle steps → ⊥)
    → AreTold behind steps' → IsCircle steps' → ⊥
no-round behind steps steps' told apart told' is = apart (subst IsCircle (one-told behind steps' steps told' told) is)

-- ---- round

lead-push : (from at : List ℕ) (steps : List Step) (s : Step) → Lead from steps at → s.from ≡ at
    → Lead from (steps ++ s ∷ []) s.to
lead-push from at [] s here next = (next ∙ sym here, refl)
lead-push from at (t ∷ steps) s here next = (here.0, lead-push t.to at steps s here.1 next)

-- steps lead to one end
one-end : (from at to : List ℕ) (steps : List Step) → Lead from steps at → Lead from steps to → at ≡ to
one-end from at to [] here there = sym here ∙ there
one-end from at to (s ∷ steps) here there = one-end s.to at to steps here.1 there.1

-- a step begins where the ones before it lead to
goes-on : (from at to : List ℕ) (steps : List Step) (k : ℕ) (s : Step) → slice_get steps k ≡ Some s
    → Lead from (take k steps) at → Lead from steps to → s.from ≡ at
goes-on from at to [] k s found here there = absurd cc
goes-on from at to (t ∷ steps) zero s found here there = ap (λ (x : Step). x.from) (sym (same_Some t s found))
    ∙ there.0 ∙ here
goes-on from at to (t ∷ steps) (suc k) s found here there = goes-on t.to at to steps k s found here.1 there.1

told-at : (rest : List Told) (k : ℕ) (d : Told) → k < length rest
    → slice_get (map step_of rest) k ≡ Some (step_of (get_or rest k d))
told-at rest k d within = slice_get-map step_of rest k ∙ ap (option_map step_of) (slice_get-get_or rest k d within)

-- one more step
pub lead-next : (from at : List ℕ) (rest : List Told) (k : ℕ) (d : Told) → k < length rest
    → Lead from (take k (map step_of rest)) at
    → (get_or rest k d).from.now ≡ at → Lead from (take (k + 1) (map step_of rest)) (get_or rest k d).to.now
lead-next from at rest k d within here next =
    let s = step_of (get_or rest k d) in
    subst (λ (xs : List Step). Lead from xs s.to) (sym (take_next (map step_of rest) k s (told-at rest k d within)))
    (lead-push from at (take k (map step_of rest)) s here next)

-- a step that begins elsewhere
pub lead-off : (from at to : List ℕ) (rest : List Told) (k : ℕ) (d : Told) → k < length rest
    → Lead from (take k (map step_of rest)) at
    → (get_or rest k d).from.now ≢ at → Lead from (map step_of rest) to → ⊥
lead-off from at to rest k d within here apart there =
    apart (goes-on from at to (map step_of rest) k (step_of (get_or rest k d)) (told-at rest k d within) here there)

-- all steps
pub lead-end : (from at to : List ℕ) (rest : List Told) (k : ℕ) → length rest ≤ k
    → Lead from (take k (map step_of rest)) at
    → (at ≡ to → Lead from (map step_of rest) to) × (Lead from (map step_of rest) to → at ≡ to)
lead-end from at to rest k all here =
    let whole = subst (λ (xs : List Step). Lead from xs at) (take_all k (map step_of rest) (simp length-map all))
    here in (
      λ same. subst (λ (t : List ℕ). Lead from (map step_of rest) t) same whole,
      λ there. one-end from at to (map step_of rest) whole there,
    )
