-- Operations of an array, put one after another.
use Rattle.std.proofs.Common.{◌≡◌, ℕ, suc, ◌<◌, Bool, true, false, List, [], ◌∷◌, ◌++◌, map, All, Option, Some, None, refl, sym, ap, ap₂, ◌∙◌, subst, arith, inl, inr, ◌⊎◌}
use Rattle.std.proofs.lemmas.List.{map_push}
use Rattle.std.proofs.lemmas.List.Elements.{All-push}
use Rattle.std.proofs.lemmas.Option.{same_Some}
use Rattle.std.specs.Prelude.{MatchOption}
use Rattle.json.specs.Json.{Json, array, object, Items, no_items, item, Members, after_end_array}
use Rattle.json.specs.Token.{Token, begin_array, begin_object}
use Rattle.json.specs.Tree.{json_tokens, items_tokens}
use Rattle.json.specs.Value.{items_of}
use Rattle.sgt_history.specs.Transaction.{Transaction}
use Rattle.sgt_history.specs.declared.history.Operation.{Operation}
use Rattle.sgt_history_text.specs.Built.{IsBuilt}
use Rattle.sgt_history_text.specs.Line.{IsOperation, operation_json}
use Rattle.sgt_history_text.specs.Members.{AreOperations, IsNoOperation, IsPut, IsPutNext, Puts, Replaces}
use Rattle.sgt_history_text.specs.Shallow.{Closes, IsFront, IsScalar, IsSeenAs, NoValue, bracket}
use Rattle.sgt_history_text.specs.declared.building.Builder.{Builder}
use Rattle.sgt_history_text.proofs.Fronts.{array_end, array_goes_on, front_array, front_object, same_front}
use Rattle.sgt_history_text.proofs.Gathered.{before_items, before_items-end, before_items-snoc, snoc_item}
use Rattle.sgt_history_text.proofs.Solid.{elements, first_item, rest_items}

-- ---- elements

-- one of them is no operation
abbrev pub HasOther : Items → Type 0
HasOther no_items = ⊥
HasOther (item j js) = IsNoOperation j ⊎ HasOther js

other_last : (js : Items) (j : Json) → IsNoOperation j → HasOther (snoc_item js j)
other_last no_items j none = inl none
other_last (item i js) j none = inr (other_last js j none)

other_more : (js : Items) (j : Json) → HasOther js → HasOther (snoc_item js j)
other_more no_items j other = absurd other
other_more (item i js) j (inl none) = inl none
other_more (item i js) j (inr other) = inr (other_more js j other)

other_none : (js : Items) → HasOther js → (os : List (Operation Json Json)) → All IsOperation os
    → js ≡ items_of (map operation_json os) → ⊥
other_none no_items other os all e = other
other_none (item j js) other [] all e = absurd cc
other_none (item j js) (inl none) (o ∷ os) all e =
    none o (all 0 o (omega arith)) (first_item j (operation_json o) js (items_of (map operation_json os)) e)
other_none (item j js) (inr other) (o ∷ os) all e =
    other_none js other os (λ k d lt. all (suc k) d (omega (arith, lt)))
    (rest_items j (operation_json o) js (items_of (map operation_json os)) e)

items_of-push : (xs : List Json) (x : Json) → items_of (xs ++ x ∷ []) ≡ snoc_item (items_of xs) x
items_of-push [] x = refl
items_of-push (y ∷ xs) x = ap (λ l. item y l) (items_of-push xs x)

-- all are operations, which were put; or one is none
abbrev pub AreAll : Items → Bool → List (Operation Json Json) → Type 0
AreAll js true put = (js ≡ items_of (map operation_json put)) × All IsOperation put
AreAll js false put = HasOther js

all_none : (put : List (Operation Json Json)) → put ≡ [] → All IsOperation put
all_none put e = subst (λ os. All IsOperation os) (sym e) (λ k d lt. absurd (omega (arith, lt)))

abbrev pub StandsSo : List Json → List (Transaction Json Json) → Builder → Items → Bool → Type 0
StandsSo ids h b js are = (put : List (Operation Json Json)) × IsBuilt b ids h put × AreAll js are put

stands_next : (ids : List Json) (h : List (Transaction Json Json)) (b b' : Builder) (js : Items) (j : Json) (are is : Bool)
    → StandsSo ids h b js are → IsPutNext are b b' j is → StandsSo ids h b' (snoc_item js j) is
stands_next ids h b b' js j true true (put, built, (same, all)) (o, is, j_is, pushed) = (
  put ++ o ∷ [],
  pushed ids h put built,
  (
    ap₂ snoc_item same j_is ∙ sym (items_of-push (map operation_json put) (operation_json o))
        ∙ ap items_of (sym (map_push operation_json put o)),
    All-push IsOperation put o all is,
  ),
)
stands_next ids h b b' js j true false (put, built, _) (none, stays) = (put, stays ids h put built, other_last js j none)
stands_next ids h b b' js j false true stands next = absurd next
stands_next ids h b b' js j false false (put, built, other) stays =
    (put, stays ids h put built, other_more js j other)

same_array : (xs ys : Items) → Some (array xs) ≡ Some (array ys) → xs ≡ ys
same_array xs ys e = elements xs ys (same_Some (array xs) (array ys) e)

stands_end : (ids : List Json) (h : List (Transaction Json Json)) (b : Builder) (js : Items) (are : Bool)
    → StandsSo ids h b js are
    → (put : List (Operation Json Json)) × IsBuilt b ids h put × AreOperations (Some (array js)) are put
stands_end ids h b js true (put, built, (same, all)) = (put, built, (ap (λ l. Some (array l)) same, all))
stands_end ids h b js false (put, built, other) =
    (put, built, λ os all e. other_none js other os all (same_array js (items_of (map operation_json os)) e))

-- ---- one after another

pub record Goes (start now : List Token) (b b' : Builder) (are : Bool) : Type 0 where
  pub js : Items
  pub text : start ≡ before_items js now
  pub stands : (ids : List Json) (h : List (Transaction Json Json)) → IsBuilt b ids h [] → StandsSo ids h b' js are
  pub back : (rest : List Token) → Closes false start rest → Closes false now rest

module _ (start : List Token) (b : Builder) where
  pub goes_none : Goes start start b b true
  goes_none = record {
    js = no_items;
    text = refl;
    stands = λ ids h built. ([], built, (refl, all_none [] refl));
    back = λ rest c. c;
  }

  module _ (now : List Token) (b' : Builder) (are : Bool) (g : Goes start now b b' are) where
    pub goes_next : (taken new : List Token) (b'' : Builder) (is : Bool) → (after_end_array now ≡ None) × (taken ≡ now)
        → (j : Json) × (taken ≡ json_tokens j ++ new) × IsPutNext are b' b'' j is
        → Goes start new b b'' is
    goes_next taken new b'' is (none, same) (j, e, next) = record {
      js = snoc_item g.js j;
      text = g.text ∙ ap (before_items g.js) (sym same ∙ e) ∙ sym (before_items-snoc g.js j new);
      stands = λ ids h built. stands_next ids h b' b'' g.js j are is (g.stands ids h built) next;
      back = λ rest c. (let k = (array_goes_on now rest none).0 (g.back rest c) in
          subst (λ l. Closes false l rest) (sym (same_front j k.1.0 new k.0 (sym (sym same ∙ e) ∙ k.1.1)).1) k.2);
    }

    pub goes_fails : (taken : List Token) → (after_end_array now ≡ None) × (taken ≡ now) → NoValue taken
        → (rest : List Token) → Closes false start rest → ⊥
    goes_fails taken (none, same) fails rest c =
        let k = (array_goes_on now rest none).0 (g.back rest c) in
        fails k.0 (subst (λ l. IsFront l k.0) (sym same) k.1)

    pub goes_end : (new : List Token) → after_end_array now ≡ Some new
        → (js : Items) × (start ≡ items_tokens js ++ new) × Puts b b' (Some (array js)) are
    goes_end new e = (
      g.js,
      g.text ∙ ap (before_items g.js) (array_end now new e) ∙ before_items-end g.js new,
      λ ids h built. stands_end ids h b' g.js are (g.stands ids h built),
    )

-- ---- a value in place of what was put

-- an object and a scalar are no array of operations
other_value : (j : Json) → ((js : Items) → j ≡ array js → ⊥) → (os : List (Operation Json Json))
    → Some j ≡ Some (array (items_of (map operation_json os))) → ⊥
other_value j none os e = none (items_of (map operation_json os)) (same_Some j (array (items_of (map operation_json os))) e)

scalar_other : (j : Json) → IsScalar j → (js : Items) → j ≡ array js → ⊥
scalar_other j s js e = subst IsScalar e s

module _ (old mid new : List Token) (b c d : Builder) (forgot : (ids : List Json) (h : List (Transaction Json Json))
    (begun : List (Operation Json Json)) → IsBuilt b ids h begun → IsBuilt c ids h []) where
  replaced : (j : Json) → ((js : Items) → j ≡ array js → ⊥) → Replaces b c (Some j) false
  replaced j none ids h begun built = ([], forgot ids h begun built, λ os all e. other_value j none os e)

  pub replaced_scalar : (j : Json) → (old ≡ json_tokens j ++ new) × IsScalar j
      → (j : Json) × (old ≡ json_tokens j ++ new) × Replaces b c (Some j) false
  replaced_scalar j (e, s) = (j, e, replaced j (scalar_other j s))

  not_array : (ms : Members) (js : Items) → object ms ≡ array js → ⊥
  not_array ms js e = absurd cc

  pub replaced_object : old ≡ begin_object ∷ mid → (found : Option Bool)
      → MatchOption found ((rest : List Token) → Closes true mid rest → ⊥) (λ are. (are ≡ false) × Closes true mid new)
      → MatchOption found (NoValue old) (λ are. (j : Json) × (old ≡ json_tokens j ++ new) × Replaces b c (Some j) are)
  replaced_object e None none =
      λ rest front. none rest ((front_object mid rest).0 (subst (λ l. IsFront l rest) e front))
  replaced_object e (Some are) (unset, (ms, text)) = (
    object ms,
    e ∙ ap (λ l. begin_object ∷ l) text,
    subst (λ (a : Bool). Replaces b c (Some (object ms)) a) (sym unset) (replaced (object ms) (not_array ms)),
  )

  pub replaced_array : old ≡ begin_array ∷ mid → (found : Option Bool)
      → MatchOption found ((rest : List Token) → Closes false mid rest → ⊥)
      (λ are. (js : Items) × (mid ≡ items_tokens js ++ new) × Puts c d (Some (array js)) are)
      → MatchOption found (NoValue old) (λ are. (j : Json) × (old ≡ json_tokens j ++ new) × Replaces b d (Some j) are)
  replaced_array e None none =
      λ rest front. none rest ((front_array mid rest).0 (subst (λ l. IsFront l rest) e front))
  replaced_array e (Some are) (js, text, puts) = (
    array js,
    e ∙ ap (λ l. begin_array ∷ l) text,
    λ ids h begun built. puts ids h (forgot ids h begun built),
  )

-- ---- one value

module _ (b : Builder) (old new : List Token) (v : Json)
    (read : (j : Json) × (old ≡ json_tokens j ++ new) × IsSeenAs j v) where
  pub put_other : ((o : Operation Json Json) → IsOperation o → v ≡ operation_json o → ⊥)
      → (j : Json) × (old ≡ json_tokens j ++ new) × IsPut b b j false
  put_other none = (
    read.0,
    read.1,
    (λ o is same. none o is ((read.2 o is).0 same), λ ids h begun built. built),
  )

  pub put_one : (b' : Builder) (o : Operation Json Json) → IsOperation o → v ≡ operation_json o
      → ((ids : List Json) (h : List (Transaction Json Json)) (begun : List (Operation Json Json))
      → IsBuilt b ids h begun → IsBuilt b' ids h (begun ++ o ∷ []))
      → (j : Json) × (old ≡ json_tokens j ++ new) × IsPut b b' j true
  put_one b' o is same pushed = (read.0, read.1, (o, is, (read.2 o is).1 same, pushed))

module _ (old new : List Token) (b b' : Builder) where
  pub next_put : (are : Bool) → are ≡ true → (found : Option Bool)
      → MatchOption found (NoValue old) (λ is. (j : Json) × (old ≡ json_tokens j ++ new) × IsPut b b' j is)
      → MatchOption found (NoValue old)
      (λ is. (j : Json) × (old ≡ json_tokens j ++ new) × IsPutNext are b b' j is)
  next_put true e found put = put
  next_put false e found put = absurd cc

  pub next_passed : (are : Bool) → are ≡ false → IsFront old new
      → (j : Json) × (old ≡ json_tokens j ++ new) × IsPutNext are b b j false
  next_passed true e front = absurd cc
  next_passed false e (j, text) = (j, text, λ ids h begun built. built)

-- what stands first is a bracket, and an array's
pub opens_array : (ts mid : List Token) (b : Bool) → ts ≡ bracket b ∷ mid → b ≡ false → ts ≡ begin_array ∷ mid
opens_array ts mid b e is = e ∙ ap (λ k. bracket k ∷ mid) is
