-- What a draft showed before one of its items was changed.
use Rattle.std.proofs.Common.{◌≡◌, ◌∙◌, ℕ, suc, ◌+◌, List, ◌∷◌, ◌++◌, length, Option, Some, None, refl, sym, ap, subst, arith}
use Rattle.std.specs.Prelude.{IfSome, slice_get, find}
use Rattle.std.specs.Option.{option_or, option_to_list}
use Rattle.std.specs.declared.cmp.Ordering.TheVariants.{Less}
use Rattle.std.proofs.lemmas.List.Folds.{find-append}
use Rattle.std.proofs.lemmas.Option.{slice_get_within}
use Rattle.sgt_names.specs.Draft.{place_cmp, place_of, touched_at, AreRising, ChangesOnly}
use Rattle.sgt_names.specs.declared.draft.Touch.{Touch}
use Rattle.sgt_names.proofs.Lists.{back_at, front_at, middle_at}
use Rattle.sgt_names.proofs.Places.{AllPairs_at}
use Rattle.sgt_names.proofs.Ranged.{find_none}
use Rattle.sgt_names.proofs.Touched.{here_false, here_true, is_here, less_apart}

abbrev Rises : Touch → Touch → Type 0
Rises t u = place_cmp (place_of t) (place_of u) ≡ Less

-- in a draft that rises the items in front of one are others, and so are those behind it
front_apart : (front rest : List Touch) (t : Touch) → AreRising (front ++ t ∷ rest)
    → find (is_here (place_of t)) front ≡ None
front_apart front rest t rising = find_none (is_here (place_of t)) front (λ m b at.
    here_false (place_of t) b
    (less_apart (place_of b) (place_of t) (AllPairs_at Rises (front ++ t ∷ rest) m (length front) b t rising
    (slice_get_within front m b at) (front_at front (t ∷ rest) m b at) (middle_at front t rest))))

rest_apart : (front rest : List Touch) (t : Touch) → AreRising (front ++ t ∷ rest)
    → find (is_here (place_of t)) rest ≡ None
rest_apart front rest t rising = find_none (is_here (place_of t)) rest (λ m b at.
    let before : Rises t b = AllPairs_at Rises (front ++ t ∷ rest) (length front) (length front + suc m) t b rising
    (omega arith) (middle_at front t rest) (back_at front (t ∷ rest) (suc m) ∙ at) in
    here_false (place_of t) b (λ same. less_apart (place_of t) (place_of b) before (sym same)))

found : (there : Option Touch) (rest : List Touch) (t : Touch) → IfSome there (λ u. place_of u ≡ place_of t)
    → find (is_here (place_of t)) rest ≡ None → find (is_here (place_of t)) (option_to_list there ++ rest) ≡ there
found None rest t place none = none
found (Some u) rest t place none = rw (here_true (place_of t) u place) refl

pub was_there : (old new : List Touch) (t : Touch) → AreRising new → (c : ChangesOnly old new t)
    → touched_at old (place_of t) ≡ c.there
was_there old new t rising c =
    let rises : AreRising (c.front ++ t ∷ c.rest) = subst AreRising c.is rising in
    let rest = option_to_list c.there ++ c.rest in
    ap (λ ts. touched_at ts (place_of t)) c.was ∙ find-append (is_here (place_of t)) c.front rest
    ∙ ap (λ o. option_or o (find (is_here (place_of t)) rest)) (front_apart c.front c.rest t rises)
    ∙ found c.there c.rest t c.place (rest_apart c.front c.rest t rises)
