-- Words that stand on a line.
use Rattle.std.specs.Prelude.{IfNone}
use Rattle.sgt_line.specs.Clashes.{Clashes, HasWord, IsAmong, IsBesideObject, IsBesideOrder, WritesOverInput}
use Rattle.sgt_line.specs.Parts.{Parts}
use Rattle.std.proofs.lemmas.Option.{same_Some}
use Rattle.std.proofs.Common.{◌≡◌, ◌⊎◌, ◌<◌, ◌∙◌, ℕ, zero, suc, Option, Some, None, List, [], ◌∷◌, Any, get_or, ap, length, refl, sym, subst, arith, inl, inr}

module _ {A : Type 0} (P : A → Type 0) (w : A) (ws : List A) where
  any_later : Any P ws → Any P (w ∷ ws)
  any_later (k, x, within, at, holds) = (suc k, x, omega (arith, within), at, holds)

  any_behind : (P w → ⊥) → Any P (w ∷ ws) → Any P ws
  any_behind other (zero, x, within, at, holds) = absurd (other (subst P (sym at) holds))
  any_behind other (suc k, x, within, at, holds) = (k, x, omega (arith, within), at, holds)

  -- the first does
  pub of_the_first : (xs : List A) → xs ≡ w ∷ ws → P w → Any P xs
  of_the_first xs e holds = subst (Any P) (sym e) (0, w, omega arith, refl, holds)

  -- where the first does not, one of the others does
  pub of_the_others : (xs : List A) (S : Type 0) → xs ≡ w ∷ ws → (P w → ⊥) → (S → Any P ws) × (Any P ws → S)
      → (S → Any P xs) × (Any P xs → S)
  of_the_others xs S e other both =
      (λ some. subst (Any P) (sym e) (any_later (both.0 some)), λ has. both.1 (any_behind other (subst (Any P) e has)))

-- the first of the words is this one
pub first_is : (xs rest : List (List ℕ)) (w v : List ℕ) (S : Type 0) → xs ≡ w ∷ rest → (S → w ≡ v) × (w ≡ v → S)
    → (S → (options : List (List ℕ)) × (xs ≡ v ∷ options)) × (((options : List (List ℕ)) × (xs ≡ v ∷ options)) → S)
first_is xs rest w v S e both = (
  λ yes. (rest, e ∙ ap (λ x. x ∷ rest) (both.0 yes)),
  λ told. both.1 (ap (λ l. get_or l 0 w) (sym e ∙ told.1)),
)

-- what holds where nothing is found
pub none_weaker : {A : Type 0} (o : Option A) (P Q : Type 0) → (P → Q) → IfNone o P → IfNone o Q
none_weaker None P Q so holds = so holds
none_weaker (Some x) P Q so holds = tt

-- where nothing is written over what is read, and nothing stands beside an order or an object, nothing clashes
pub nothing_clashes : (p : Parts) → (WritesOverInput p → ⊥)
    → ((text : List ℕ) → IsBesideOrder p text ⊎ IsBesideObject p text → ⊥)
    → (text : List ℕ) → Clashes p text → ⊥
nothing_clashes p over beside text (inl order) = beside text order
nothing_clashes p over beside text (inr (writes, is)) = over writes

-- the file is among these words
pub among_words : (file : Option (List ℕ)) (word : List ℕ) (words : List (List ℕ)) (S : Type 0) → file ≡ Some word
    → (S → HasWord word words) × (HasWord word words → S) → (S → IsAmong file words) × (IsAmong file words → S)
among_words file word words S at both = (
  λ yes. (word, at, both.0 yes),
  λ told.
      let one = same_Some told.0 word (sym told.1 ∙ at) in
      both.1 (subst (λ w. HasWord w words) one told.2),
)

neither : (p : Parts) → ((text : List ℕ) → IsBesideOrder p text → ⊥) → ((text : List ℕ) → IsBesideObject p text → ⊥)
    → (text : List ℕ) → IsBesideOrder p text ⊎ IsBesideObject p text → ⊥
neither p order object text (inl beside) = order text beside
neither p order object text (inr beside) = object text beside

-- where nothing stands beside an order, nothing does beside an order or an object where nothing does beside an object
pub none_beside : {A : Type 0} (o : Option A) (p : Parts) → ((text : List ℕ) → IsBesideOrder p text → ⊥)
    → IfNone o ((text : List ℕ) → IsBesideObject p text → ⊥)
    → IfNone o ((text : List ℕ) → IsBesideOrder p text ⊎ IsBesideObject p text → ⊥)
none_beside None p order object = neither p order object
none_beside (Some x) p order object = tt
