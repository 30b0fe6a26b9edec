-- What a change of one touched item shows, and what it leaves.
use Rattle.std.proofs.Common.{◌≡◌, ◌≢◌, List, [], ◌∷◌, ◌++◌, length, Option, Some, None, if◌then◌else◌, refl, sym, ap, ◌∙◌, subst}
use Rattle.std.specs.Prelude.{slice_get, find, IfSome}
use Rattle.std.specs.Option.{option_to_list}
use Rattle.std.proofs.lemmas.Option.{slice_get_within, same_Some}
use Rattle.sgt_names.specs.Draft.{Place, place_of, AreRising, touched_at}
use Rattle.sgt_names.specs.declared.draft.Touch.{Touch}
use Rattle.sgt_names.proofs.Lists.{middle_at}
use Rattle.sgt_names.proofs.Touched.{is_here, here_false, touched_found}

module _ (t : Touch) (rest : List Touch) where
  pub shown_there : (new front : List Touch) → new ≡ front ++ t ∷ rest → AreRising new
      → touched_at new (place_of t) ≡ Some t
  shown_there new front is rising =
      let here : slice_get new (length front) ≡ Some t =
      subst (λ ts. slice_get ts (length front) ≡ Some t) (sym is) (middle_at front t rest) in
      touched_found new (place_of t) (length front) t rising
      (record {
        within = slice_get_within new (length front) t here;
        is =
            λ a at. ap place_of (same_Some a t (sym at ∙ here));
      }) here

  module _ (p : Place) (apart : p ≢ place_of t) where
    passed : (u : Touch) → place_of u ≡ place_of t → (o : Option Touch) → (if is_here p u then Some u else o) ≡ o
    passed u same o = ap (λ b. if b then Some u else o) (here_false p u (λ at. apart (sym at ∙ same)))

    without : (there : Option Touch) → IfSome there (λ u. place_of u ≡ place_of t)
        → find (is_here p) (option_to_list there ++ rest) ≡ find (is_here p) rest
    without None same = refl
    without (Some u) same = passed u same (find (is_here p) rest)

    pub shown_elsewhere : (front : List Touch) (there : Option Touch) → IfSome there (λ u. place_of u ≡ place_of t)
        → find (is_here p) (front ++ t ∷ rest) ≡ find (is_here p) (front ++ (option_to_list there ++ rest))
    shown_elsewhere [] there same = passed t refl (find (is_here p) rest) ∙ sym (without there same)
    shown_elsewhere (f ∷ front) there same =
        ap (λ o. if is_here p f then Some f else o) (shown_elsewhere front there same)
