-- Texts of values, of which no two are equal: one looked up, one more.
use Rattle.std.proofs.Common.{◌≡◌, ℕ, zero, suc, List, [], ◌∷◌, ◌++◌, length, slice_get, Option, Some, None, IfSome, option_map, refl, sym, ap, ◌∙◌, subst, ⊎_elim, arith}
use Rattle.std.specs.Prelude.{Contains}
use Rattle.std.proofs.lemmas.List.{append-nil, length-map, map_push}
use Rattle.std.proofs.lemmas.Option.{slice_get-map}
use Rattle.std.proofs.Common.{negsuc}
use Rattle.json.specs.Json.{Json, null, boolean, number, string, array, object}
use Rattle.json.specs.Print.{IsNumber}
use Rattle.json.specs.Tree.{HasNumbers}
use Rattle.json.proofs.Printed.Decimals.{IsNumber-decimal, IsNumber-signed_decimal}
use Rattle.sgt_names.proofs.Lists.{map_at}
use Rattle.sgt_names.proofs.Places.{Contains_at, Contains-from_at}
use Rattle.sgt_history_text.specs.Built.{AreKept, IsNumbered}
use Rattle.sgt_history_text.specs.Name.{compact, IsKey, IsNegative, IsValue, IsWhole}
use Rattle.sgt_history_text.specs.Table.{IsInterned, IsNew}
use Rattle.sgt_history_text.specs.declared.table.Interned.{Interned}
use Rattle.sgt_history_text.specs.declared.table.Interned.TheVariants.{Old, New}
use Rattle.sgt_history_text.proofs.Lookups.{once-push}
use Rattle.sgt_history_text.proofs.Trees.{same_compact}
use Rattle.sgt_names.proofs.Elements.{get-push_cases, get-push_last}

-- ---- names and values can be written

whole_number : (digits : List ℕ) → IsWhole digits → IsNumber digits
whole_number digits (n, fits, e) = subst IsNumber (sym e) (IsNumber-decimal n fits)

negative_number : (digits : List ℕ) → IsNegative digits → IsNumber digits
negative_number digits (zero, above, most, e) = absurd (omega arith)
negative_number digits (suc n, above, most, e) =
    subst IsNumber (sym e) (IsNumber-signed_decimal (negsuc n) (omega arith))

pub key_numbers : (least most : ℕ) (j : Json) → IsKey least most j → HasNumbers j
key_numbers least most null k = absurd k
key_numbers least most (boolean b) k = absurd k
key_numbers least most (number s) k = whole_number s k
key_numbers least most (string s) k = tt
key_numbers least most (array js) k = absurd k
key_numbers least most (object ms) k = absurd k

pub value_numbers : (j : Json) → IsValue j → HasNumbers j
value_numbers null k = tt
value_numbers (boolean b) k = tt
value_numbers (number s) k = ⊎_elim (λ w. whole_number s w) (λ w. negative_number s w) k
value_numbers (string s) k = tt
value_numbers (array js) k = absurd k
value_numbers (object ms) k = absurd k

pub given_numbers : (v : Option Json) → IfSome v IsValue → IfSome v HasNumbers
given_numbers None k = tt
given_numbers (Some j) k = value_numbers j k

-- ---- what was looked up

pub interned_is : (texts : List (List ℕ)) (text other : List ℕ) (r s : Interned) (new : List (List ℕ))
    → IsInterned texts text r new → text ≡ other → r ≡ s
    → IsInterned texts other s new
interned_is texts text other r s new i e f =
    subst (λ t. IsInterned texts t s new) e (subst (λ q. IsInterned texts text q new) f i)

-- ---- none

pub kept_none : AreKept [] []
kept_none = record { texts_are = refl; once = λ i j x e f. absurd cc; writable = λ n j e. absurd cc }

-- ---- one

module _ (texts : List (List ℕ)) (js : List Json) (j : Json) (kept : AreKept texts js) (numbers : HasNumbers j) where
  -- where its text is there, so is it, with the same number
  pub kept_at : (n : ℕ) → slice_get texts n ≡ Some (compact j) → slice_get js n ≡ Some j
  kept_at n e =
      let i = map_at compact js n (compact j) (sym (ap (λ l. slice_get l n) kept.texts_are) ∙ e) in
      i.1 ∙ ap Some (same_compact i.0 j (kept.writable n i.0 i.1) numbers i.2)

  -- where its text is new, so is it
  pub kept_new : IsNew texts (compact j) → (n : ℕ) → slice_get js n ≡ Some j → ⊥
  kept_new fresh n e =
      fresh n (ap (λ l. slice_get l n) kept.texts_are ∙ slice_get-map compact js n ∙ ap (option_map compact) e)

  pub kept_push : IsNew texts (compact j) → AreKept (texts ++ compact j ∷ []) (js ++ j ∷ [])
  kept_push fresh = record {
    texts_are = ap (λ l. l ++ compact j ∷ []) kept.texts_are ∙ sym (map_push compact js j);
    once = once-push js j kept.once (kept_new fresh);
    writable = λ n i e. ⊎_elim (λ f. kept.writable n i f) (λ f. subst HasNumbers f.1 numbers)
        (get-push_cases js j n i e);
  }

  pub kept_length : length texts ≡ length js
  kept_length = ap length kept.texts_are ∙ length-map js compact

  pub numbered_old : (new : List (List ℕ)) (n : ℕ) → IsInterned texts (compact j) (Old n) new → IsNumbered js j new n
  numbered_old new n (there, same) = record {
    more = [];
    kept = subst (λ l. AreKept new l) (sym (append-nil js)) (subst (λ t. AreKept t js) (sym same) kept);
    there = ap (λ l. slice_get l n) (append-nil js) ∙ kept_at n there;
  }

  pub numbered_new : (new : List (List ℕ)) (n : ℕ) → IsInterned texts (compact j) (New n) new → IsNumbered js j new n
  numbered_new new n (is, more, fresh) = record {
    more = j ∷ [];
    kept = subst (λ t. AreKept t (js ++ j ∷ [])) (sym more) (kept_push fresh);
    there = ap (slice_get (js ++ j ∷ [])) (is ∙ kept_length) ∙ get-push_last js j;
  }

  pub contains_old : (new : List (List ℕ)) (n : ℕ) → IsInterned texts (compact j) (Old n) new → Contains js j
  contains_old new n (there, same) = Contains-from_at js n j (kept_at n there)

  pub absent_new : IsNew texts (compact j) → Contains js j → ⊥
  absent_new fresh in_js = let at = Contains_at js j in_js in kept_new fresh at.0 at.1
