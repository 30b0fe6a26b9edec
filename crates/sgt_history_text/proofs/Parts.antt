-- When a value of JSON is an operation.
use Rattle.std.proofs.Common.{◌≡◌, ℕ, ◌+◌, ◌<◌, ◌≤◌, ◌^◌, List, [], ◌∷◌, ◌++◌, map, length, take, get_or, slice_get, Option, Some, None, IfSome, All, option_map, refl, sym, ap, ap₂, ◌∙◌, subst, arith, codes, decimal}
use Rattle.std.proofs.lemmas.Fmt.{decimal_injective}
use Rattle.json.specs.Json.{Json, null, boolean, number, string, array, object, Items, no_items, item}
use Rattle.json.specs.Find.{at}
use Rattle.json.specs.Value.{items_of}
use Rattle.sgt_history.specs.declared.history.Kind.{Kind}
use Rattle.sgt_history.specs.declared.history.Kind.TheVariants.{Read, Write}
use Rattle.sgt_history.specs.declared.history.Operation.{Operation}
use Rattle.sgt_history_text.specs.Line.{IsOperation, kind_word, operation_json}
use Rattle.sgt_history_text.specs.Name.{IsItem, IsValue}
use Rattle.sgt_history_text.proofs.Telling.{number_is}

-- an array of these elements and no fifth
pub operation_is : (j i : Json) (k : Kind) (n : ℕ) (v : Option Json) → at 0 j ≡ Some (string (kind_word k))
    → at 1 j ≡ Some i
    → at 2 j ≡ Some (number (decimal n)) → at 3 j ≡ v → at 4 j ≡ None
    → j ≡ operation_json (record { version = n; item = i; kind = k; value = v })
operation_is null i k n v a b c d e = absurd cc
operation_is (boolean t) i k n v a b c d e = absurd cc
operation_is (number s) i k n v a b c d e = absurd cc
operation_is (string s) i k n v a b c d e = absurd cc
operation_is (object ms) i k n v a b c d e = absurd cc
operation_is (array no_items) i k n v a b c d e = absurd cc
operation_is (array (item x no_items)) i k n v a b c d e = absurd cc
operation_is (array (item x (item y no_items))) i k n v a b c d e = absurd cc
operation_is (array (item x (item y (item z no_items)))) i k n None a b c d e = cc
operation_is (array (item x (item y (item z no_items)))) i k n (Some g) a b c d e = absurd cc
operation_is (array (item x (item y (item z (item w no_items))))) i k n None a b c d e = absurd cc
operation_is (array (item x (item y (item z (item w no_items))))) i k n (Some g) a b c d e = cc
operation_is (array (item x (item y (item z (item w (item u us)))))) i k n v a b c d e = absurd cc

at_given : (j i : Json) (k : Kind) (n : ℕ) (v : Option Json)
    → at 3 (operation_json (record { version = n; item = i; kind = k; value = v })) ≡ v
at_given j i k n None = refl
at_given j i k n (Some g) = refl

at_end : (j i : Json) (k : Kind) (n : ℕ) (v : Option Json)
    → at 4 (operation_json (record { version = n; item = i; kind = k; value = v })) ≡ None
at_end j i k n None = refl
at_end j i k n (Some g) = refl

-- what stands in an operation
pub record HasParts (j : Json) (o : Operation Json Json) : Type 0 where
  pub kind : at 0 j ≡ Some (string (kind_word o.kind))
  pub item : at 1 j ≡ Some o.item
  pub version : at 2 j ≡ Some (number (decimal o.version))
  pub given : at 3 j ≡ o.value
  pub end : at 4 j ≡ None

pub parts_of : (j : Json) (o : Operation Json Json) → j ≡ operation_json o → HasParts j o
parts_of j o e = record {
  kind = ap (at 0) e;
  item = ap (at 1) e;
  version = ap (at 2) e;
  given = ap (at 3) e ∙ at_given j o.item o.kind o.version o.value;
  end = ap (at 4) e ∙ at_end j o.item o.kind o.version o.value;
}

-- ---- a list of them

pub same_items : (xs ys : List Json) → items_of xs ≡ items_of ys → xs ≡ ys
same_items [] [] e = refl
same_items [] (y ∷ ys) e = absurd cc
same_items (x ∷ xs) [] e = absurd cc
same_items (x ∷ xs) (y ∷ ys) e =
    let first : x ≡ y = cc in
    let rest : items_of xs ≡ items_of ys = cc in
    rw (first, same_items xs ys rest) refl

-- ---- one of them

letters : (r w : ℕ) → r ≡ 114 → w ≡ 119 → r ≡ w → ⊥
letters r w e f g = omega arith

same_kind : (k l : Kind) → kind_word k ≡ kind_word l → k ≡ l
same_kind Read Read e = refl
same_kind Read Write e = absurd (letters (get_or (codes "r") 0 0) (get_or (codes "w") 0 0) refl refl (ap (λ l. get_or l 0 0) e))
same_kind Write Read e = absurd (letters (get_or (codes "r") 0 0) (get_or (codes "w") 0 0) refl refl (sym (ap (λ l. get_or l 0 0) e)))
same_kind Write Write e = refl

string_is : (s t : List ℕ) → Some (string s) ≡ Some (string t) → s ≡ t
string_is s t e = cc

-- an operation of that kind and version is above 0, if it writes
pub must_have : (j : Json) (k : Kind) (n : ℕ) (o : Operation Json Json) → at 0 j ≡ Some (string (kind_word k))
    → at 2 j ≡ Some (number (decimal n))
    → n < 2 ^ 64 → IsOperation o → j ≡ operation_json o → k ≡ Write → 0 < n
must_have j k n o kind version fits is e write =
    let parts = parts_of j o e in
    let same : k ≡ o.kind = same_kind k o.kind (string_is (kind_word k) (kind_word o.kind) (sym kind ∙ parts.kind)) in
    let digits : decimal n ≡ decimal o.version = number_is (decimal n) (decimal o.version) (sym version
    ∙ parts.version) in
    let versions : n ≡ o.version = decimal_injective n o.version fits is.version_fits digits in
    let above = is.positive (sym same ∙ write) in omega (arith, above, versions)

pub found_operation : (j i : Json) (k : Kind) (n : ℕ) (v : Option Json) → at 0 j ≡ Some (string (kind_word k))
    → at 1 j ≡ Some i
    → at 2 j ≡ Some (number (decimal n)) → at 3 j ≡ v → at 4 j ≡ None → IsItem i → n < 2 ^ 64 → (k ≡ Write → 0 < n)
    → IfSome v IsValue
    → IsOperation (record { version = n; item = i; kind = k; value = v })
    × (j ≡ operation_json (record { version = n; item = i; kind = k; value = v }))
found_operation j i k n v a b c d e is_item fits above is_given = (
  record { item_is = is_item; version_fits = fits; positive = above; value_is = is_given },
  operation_is j i k n v a b c d e,
)
