-- The members and items of a `Value`, and those of its data.
use Rattle.std.proofs.Common.{◌≡◌, List, [], ◌∷◌, length, map, Bool, Option, Some, None, option_map, String, Vec, Global, Bor, refl, sym, ap, ◌∙◌, arith}
use Rattle.std.specs.List.{list_all}
use Rattle.std.proofs.lemmas.List.Folds.{list_all-map}
use Rattle.serde_json.specs.Data.{Data}
use Rattle.serde_json.specs.View.{view, items_of, items_view, members_view}
use Rattle.serde_json.specs.declared.value.Value.{Value}
use Rattle.sgt_bundle.specs.Line.{items_list, members_count}

pub members_count-members_view : (es : List (String Global × Value)) → members_count (members_view es) ≡ length es
members_count-members_view [] = refl
members_count-members_view (e ∷ es) = let later = members_count-members_view es in omega (arith, later)

pub items_list-items_of : (ds : List Data) → items_list (items_of ds) ≡ ds
items_list-items_of [] = refl
items_list-items_of (d ∷ ds) = ap (λ xs. d ∷ xs) (items_list-items_of ds)

pub list_of_vec : (r : Option (Bor (Vec Value Global)))
    → option_map (λ v. map view v.now.items) r ≡ option_map items_list (option_map (λ v. items_view v.now.items) r)
list_of_vec None = refl
list_of_vec (Some v) = rw items_list-items_of

-- a test of each value is one of each item
pub all-items_view : (test : Data → Bool) (vs : List Value)
    → list_all (λ v. test (view v)) vs ≡ list_all test (items_list (items_view vs))
all-items_view test vs = sym (list_all-map test view vs) ∙ ap (list_all test) (sym (items_list-items_of (map view vs)))
