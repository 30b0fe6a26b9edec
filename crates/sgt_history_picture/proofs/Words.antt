-- Words of a line are found in one way.
use Rattle.std.proofs.Common.{◌≡◌, ◌≢◌, ◌+◌, ◌++◌, ℕ, List, [], ◌∷◌, Some, take, refl, sym, ap, ap₂, ◌∙◌, subst}
use Rattle.std.specs.Prelude.{slice_get}
use Rattle.sgt_names.proofs.Lists.{heads, tails, take_next}
use Rattle.sgt_history_picture.specs.Words.{HasNoGap, after, next}
use Rattle.sgt_history_picture.specs.declared.word.Place.{Place}
use Rattle.sgt_history_picture.specs.declared.word.Place.TheVariants.{Outside}

pub after-push : (place : Place) (text : List ℕ) (b : ℕ) → after place (text ++ b ∷ []) ≡ next (after place text) b
after-push place [] b = refl
after-push place (c ∷ text) b = after-push (next place c) text b

pub gap-push : (place : Place) (text : List ℕ) (b : ℕ) → HasNoGap place text → (after place text ≡ Outside → b ≢ 32)
    → HasNoGap place (text ++ b ∷ [])
gap-push place [] b none last = (last, tt)
gap-push place (c ∷ text) b none last = (none.0, gap-push (next place c) text b none.1 last)

-- a text without a gap begins with no word behind which a space stands
pub no-word : (place : Place) (word rest : List ℕ) → HasNoGap place (word ++ 32 ∷ rest) → after place word ≡ Outside → ⊥
no-word place [] rest none ends = none.0 ends refl
no-word place (b ∷ word) rest none ends = no-word (next place b) word rest none.1 ends

-- behind two words that a text begins with the same stands
pub one-word : (place : Place) (word word' rest rest' : List ℕ) → HasNoGap place word → after place word ≡ Outside
    → HasNoGap place word' → after place word' ≡ Outside → word ++ 32 ∷ rest ≡ word' ++ 32 ∷ rest'
    → (word ≡ word') × (rest ≡ rest')
one-word place [] [] rest rest' none ends none' ends' same = (refl, tails 32 32 rest rest' same)
one-word place [] (b ∷ word') rest rest' none ends none' ends' same =
    absurd (none'.0 ends (sym (heads 32 b rest (word' ++ 32 ∷ rest') same)))
one-word place (b ∷ word) [] rest rest' none ends none' ends' same =
    absurd (none.0 ends' (heads b 32 (word ++ 32 ∷ rest) rest' same))
one-word place (b ∷ word) (d ∷ word') rest rest' none ends none' ends' same =
    let head = heads b d (word ++ 32 ∷ rest) (word' ++ 32 ∷ rest') same in
    let more = one-word (next place b) word word' rest rest' none.1 ends
    (subst (λ (x : ℕ). HasNoGap (next place x) word') (sym head) none'.1)
    (subst (λ (x : ℕ). after (next place x) word' ≡ Outside) (sym head) ends')
    (tails b d (word ++ 32 ∷ rest) (word' ++ 32 ∷ rest') same) in
    (ap₂ (λ z zs. z ∷ zs) head more.0, more.1)

-- one more byte of a text
pub gap-next : (text : List ℕ) (k b : ℕ) (place now : Place) → slice_get text k ≡ Some b
    → HasNoGap Outside (take k text) → place ≡ after Outside (take k text)
    → (place ≡ Outside → b ≢ 32) → now ≡ next place b → HasNoGap Outside (take (k + 1) text)
    × (now ≡ after Outside (take (k + 1) text))
gap-next text k b place now at none stands last is =
    let more = sym (take_next text k b at) in (
      subst (HasNoGap Outside) more (gap-push Outside (take k text) b none (λ ends. last (stands ∙ ends))),
      is ∙ ap (λ (p : Place). next p b) stands ∙ sym (after-push Outside (take k text) b) ∙ ap (after Outside) more,
    )
