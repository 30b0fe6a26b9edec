-- Tokens of values, one behind another: where a value begins, and where an object or an array is closed.
use Rattle.std.proofs.Common.{◌≡◌, ◌↔◌, ℕ, ◌+◌, Bool, true, false, List, [], ◌∷◌, ◌++◌, Option, Some, None, option_map, refl, sym, ap, ◌∙◌, subst, arith, append_assoc}
use Rattle.std.specs.Bool.{MatchBool}
use Rattle.std.specs.Borrow.{Bor}
use Rattle.std.specs.Prelude.{is_some, not, MatchOption}
use Rattle.std.proofs.lemmas.Bool.{false≢true}
use Rattle.std.proofs.lemmas.Option.{same_Some}
use Rattle.json.specs.Token.{Token, begin_object, end_object, begin_array, end_array, key, bad}
use Rattle.json.specs.Token as token
use Rattle.json.specs.Json.{Json, null, boolean, number, string, array, object, Items, no_items, item, Members, no_members, member, value, after_end_array, read_key}
use Rattle.json.specs.Tree.{json_tokens, items_tokens, members_tokens, depth}
use Rattle.json.proofs.Printed.Trees.{value-json_tokens}
use Rattle.sgt_names.proofs.Lists.{tails}
use Rattle.json.specs.Value.{value_view}
use Rattle.json.specs.declared.value.Value.{Value}
use Rattle.sgt_history_text.specs.Shallow.{AfterValue, Closes, Enters, IsFront, IsScalar, IsSeenAs, NoValue, ReadsAs, arrays, empty, leaf, map_items}

-- one value stands in front at most
pub same_front : (i j : Json) (r s : List Token) → json_tokens i ++ r ≡ json_tokens j ++ s → (i ≡ j) × (r ≡ s)
same_front i j r s e =
    let d = depth i + depth j in
    let both : Some (i, r) ≡ Some (j, s) = sym (value-json_tokens i d r (omega arith)) ∙ ap (value d) e
    ∙ value-json_tokens j d s (omega arith) in
    let pair = same_Some (i, r) (j, s) both in (ap (λ p. p.0) pair, ap (λ p. p.1) pair)

-- ---- where no value begins

-- these tokens begin none
abbrev pub IsOther : Token → Type 0
IsOther begin_object = ⊥
IsOther end_object = Unit {0}
IsOther begin_array = ⊥
IsOther end_array = Unit {0}
IsOther (key s) = Unit {0}
IsOther (token.string s) = ⊥
IsOther (token.number s) = ⊥
IsOther (token.boolean b) = ⊥
IsOther token.null = ⊥
IsOther bad = Unit {0}

pub heads_are : (t u : Token) (ts us : List Token) → t ∷ ts ≡ u ∷ us → t ≡ u
heads_are t u ts us e = cc

pub no_value : (t : Token) (ts : List Token) → IsOther t → NoValue (t ∷ ts)
no_value t ts other rest (null, e) = subst IsOther (heads_are t token.null ts _ e) other
no_value t ts other rest (boolean b, e) = subst IsOther (heads_are t (token.boolean b) ts _ e) other
no_value t ts other rest (number s, e) = subst IsOther (heads_are t (token.number s) ts _ e) other
no_value t ts other rest (string s, e) = subst IsOther (heads_are t (token.string s) ts _ e) other
no_value t ts other rest (array js, e) = subst IsOther (heads_are t begin_array ts _ e) other
no_value t ts other rest (object ms, e) = subst IsOther (heads_are t begin_object ts _ e) other

pub no_value_at : (old new : List Token) (t : Token) → old ≡ t ∷ new → IsOther t → NoValue old
no_value_at old new t e other = subst NoValue (sym e) (no_value t new other)

nothing_no_value : NoValue []
nothing_no_value rest (null, e) = cc
nothing_no_value rest (boolean b, e) = cc
nothing_no_value rest (number s, e) = cc
nothing_no_value rest (string s, e) = cc
nothing_no_value rest (array js, e) = cc
nothing_no_value rest (object ms, e) = cc

pub nothing_at : (old : List Token) → old ≡ [] → NoValue old
nothing_at old e = subst NoValue (sym e) nothing_no_value

-- ---- an object's first token

no_key : (k : List ℕ) → Some k ≡ None → ⊥
no_key k e = absurd cc

pub key_none : (ts new : List Token) → read_key ts ≡ Some (None, new) → ts ≡ end_object ∷ new
key_none [] new e = absurd cc
key_none (begin_object ∷ ts) new e = absurd cc
key_none (end_object ∷ ts) new e = ap (λ l. end_object ∷ l) (ap (λ p. p.1) (same_Some (None, ts) (None, new) e))
key_none (begin_array ∷ ts) new e = absurd cc
key_none (end_array ∷ ts) new e = absurd cc
key_none (key s ∷ ts) new e = absurd (no_key s (ap (λ p. p.0) (same_Some (Some s, ts) (None, new) e)))
key_none (token.string s ∷ ts) new e = absurd cc
key_none (token.number s ∷ ts) new e = absurd cc
key_none (token.boolean b ∷ ts) new e = absurd cc
key_none (token.null ∷ ts) new e = absurd cc
key_none (bad ∷ ts) new e = absurd cc

pub key_some : (ts new : List Token) (k : List ℕ) → read_key ts ≡ Some (Some k, new) → ts ≡ key k ∷ new
key_some [] new k e = absurd cc
key_some (begin_object ∷ ts) new k e = absurd cc
key_some (end_object ∷ ts) new k e = absurd (no_key k (sym (ap (λ p. p.0) (same_Some (None, ts) (Some k, new) e))))
key_some (begin_array ∷ ts) new k e = absurd cc
key_some (end_array ∷ ts) new k e = absurd cc
key_some (key s ∷ ts) new k e =
    let pair = same_Some (Some s, ts) (Some k, new) e in
    let name : s ≡ k = same_Some s k (ap (λ p. p.0) pair) in
    let rest : ts ≡ new = ap (λ p. p.1) pair in
    rw (name, rest) refl
key_some (token.string s ∷ ts) new k e = absurd cc
key_some (token.number s ∷ ts) new k e = absurd cc
key_some (token.boolean b ∷ ts) new k e = absurd cc
key_some (token.null ∷ ts) new k e = absurd cc
key_some (bad ∷ ts) new k e = absurd cc

pub array_end : (ts new : List Token) → after_end_array ts ≡ Some new → ts ≡ end_array ∷ new
array_end [] new e = absurd cc
array_end (begin_object ∷ ts) new e = absurd cc
array_end (end_object ∷ ts) new e = absurd cc
array_end (begin_array ∷ ts) new e = absurd cc
array_end (end_array ∷ ts) new e = ap (λ l. end_array ∷ l) (same_Some ts new e)
array_end (key s ∷ ts) new e = absurd cc
array_end (token.string s ∷ ts) new e = absurd cc
array_end (token.number s ∷ ts) new e = absurd cc
array_end (token.boolean b ∷ ts) new e = absurd cc
array_end (token.null ∷ ts) new e = absurd cc
array_end (bad ∷ ts) new e = absurd cc

-- ---- what is closed there

key_no_end : (k : List ℕ) (ts us : List Token) → key k ∷ ts ≡ end_object ∷ us → ⊥
key_no_end k ts us e = absurd cc

none_some : {A : Type 0} (o : Option A) (x : A) → o ≡ None → o ≡ Some x → ⊥
none_some o x e f = absurd cc

pub object_closes : (new rest : List Token) → Closes true (end_object ∷ new) rest ↔ (new ≡ rest)
object_closes new rest = (on, λ e. (no_members, ap (λ l. end_object ∷ l) e))
  where
    on : Closes true (end_object ∷ new) rest → new ≡ rest
    on (no_members, e) = tails end_object end_object new rest e
    on (member k j ms, e) = absurd (key_no_end k _ new (sym e))

pub object_goes_on : (k : List ℕ) (new rest : List Token) → Closes true (key k ∷ new) rest ↔ AfterValue true new rest
object_goes_on k new rest = (on, back)
  where
    on : Closes true (key k ∷ new) rest → AfterValue true new rest
    on (no_members, e) = absurd (key_no_end k new rest e)
    on (member l j ms, e) = (
      members_tokens ms ++ rest,
      (j, tails (key k) (key l) new _ e ∙ append_assoc (json_tokens j) (members_tokens ms) rest),
      (ms, refl),
    )

    back : AfterValue true new rest → Closes true (key k ∷ new) rest
    back (mid, (j, e), (ms, f)) = (
      member k j ms,
      ap (λ l. key k ∷ l) (e ∙ ap (λ l. json_tokens j ++ l) f
          ∙ sym (append_assoc (json_tokens j) (members_tokens ms) rest)),
    )

pub object_fails : (ts rest : List Token) → read_key ts ≡ None → Closes true ts rest → ⊥
object_fails ts rest none (no_members, e) = none_some (read_key ts) _ none (ap read_key e)
object_fails ts rest none (member k j ms, e) = none_some (read_key ts) _ none (ap read_key e)

pub array_closes : (new rest : List Token) → Closes false (end_array ∷ new) rest ↔ (new ≡ rest)
array_closes new rest = (on, λ e. (no_items, ap (λ l. end_array ∷ l) e))
  where
    on : Closes false (end_array ∷ new) rest → new ≡ rest
    on (no_items, e) = tails end_array end_array new rest e
    on (item j js, e) =
        absurd (no_value end_array new tt (items_tokens js ++ rest) (
          j,
          e
              ∙ append_assoc (json_tokens j) (items_tokens js) rest,
        ))

pub array_goes_on : (ts rest : List Token) → after_end_array ts ≡ None → Closes false ts rest ↔ AfterValue false ts rest
array_goes_on ts rest none = (on, back)
  where
    on : Closes false ts rest → AfterValue false ts rest
    on (no_items, e) = absurd (none_some (after_end_array ts) _ none (ap after_end_array e))
    on (item j js, e) = (
      items_tokens js ++ rest,
      (j, e ∙ append_assoc (json_tokens j) (items_tokens js) rest),
      (js, refl),
    )

    back : AfterValue false ts rest → Closes false ts rest
    back (mid, (j, e), (js, f)) = (
      item j js,
      e ∙ ap (λ l. json_tokens j ++ l) f ∙ sym (append_assoc (json_tokens j) (items_tokens js) rest),
    )

-- ---- one step into what is open

pub enters_closed : (old new : List Token) → old ≡ end_object ∷ new → Enters true old new (Some true)
enters_closed old new e rest = subst (λ l. Closes true l rest ↔ (new ≡ rest)) (sym e) (object_closes new rest)

pub enters_key : (old new : List Token) (k : List ℕ) → old ≡ key k ∷ new → Enters true old new (Some false)
enters_key old new k e rest =
    subst (λ l. Closes true l rest ↔ AfterValue true new rest) (sym e) (object_goes_on k new rest)

pub enters_end : (old new : List Token) → old ≡ end_array ∷ new → Enters false old new (Some true)
enters_end old new e rest = subst (λ l. Closes false l rest ↔ (new ≡ rest)) (sym e) (array_closes new rest)

pub enters_item : (old new : List Token) → after_end_array old ≡ None → new ≡ old → Enters false old new (Some false)
enters_item old new none same rest =
    subst (λ l. Closes false old rest ↔ AfterValue false l rest) (sym same) (array_goes_on old rest none)

pub enters_array : (b : Bool) (old new : List Token) (r : Bool) → b ≡ false
    → MatchBool r (after_end_array old ≡ Some new) ((after_end_array old ≡ None) × (new ≡ old))
    → Enters b old new (Some r)
enters_array b old new true is m =
    subst (λ k. Enters k old new (Some true)) (sym is) (enters_end old new (array_end old new m))
enters_array b old new false is m = subst (λ k. Enters k old new (Some false)) (sym is) (enters_item old new m.0 m.1)

pub enters_object : (b : Bool) (old new : List Token) (k : Option (Bor (List ℕ))) (r : Bool) → b ≡ true
    → read_key old ≡ Some (option_map (λ s. s.now) k, new)
    → is_some k ≡ not r → Enters b old new (Some r)
enters_object b old new None true is e none =
    subst (λ k. Enters k old new (Some true)) (sym is) (enters_closed old new (key_none old new e))
enters_object b old new None false is e none = absurd (false≢true none)
enters_object b old new (Some k) true is e none = absurd (false≢true (sym none))
enters_object b old new (Some k) false is e none =
    subst (λ k. Enters k old new (Some false)) (sym is) (enters_key old new k.now (key_some old new k.now e))

pub enters_bad : (b : Bool) (old new : List Token) → b ≡ true → read_key old ≡ None → Enters b old new None
enters_bad b old new is e = subst (λ k. Enters k old new None) (sym is) (λ rest c. object_fails old rest e c)

-- ---- a value that begins

pub front_object : (new mid : List Token) → IsFront (begin_object ∷ new) mid ↔ Closes true new mid
front_object new mid = (on, λ c. (object c.0, ap (λ l. begin_object ∷ l) c.1))
  where
    on : IsFront (begin_object ∷ new) mid → Closes true new mid
    on (null, e) = absurd cc
    on (boolean b, e) = absurd cc
    on (number s, e) = absurd cc
    on (string s, e) = absurd cc
    on (array js, e) = absurd (brackets new _ e)
      where
        brackets : (ts us : List Token) → begin_object ∷ ts ≡ begin_array ∷ us → ⊥
        brackets ts us e = absurd cc
    on (object ms, e) = (ms, tails begin_object begin_object new _ e)

pub front_array : (new mid : List Token) → IsFront (begin_array ∷ new) mid ↔ Closes false new mid
front_array new mid = (on, λ c. (array c.0, ap (λ l. begin_array ∷ l) c.1))
  where
    on : IsFront (begin_array ∷ new) mid → Closes false new mid
    on (null, e) = absurd cc
    on (boolean b, e) = absurd cc
    on (number s, e) = absurd cc
    on (string s, e) = absurd cc
    on (object ms, e) = absurd (brackets new _ e)
      where
        brackets : (ts us : List Token) → begin_array ∷ ts ≡ begin_object ∷ us → ⊥
        brackets ts us e = absurd cc
    on (array js, e) = (js, tails begin_array begin_array new _ e)

pub front_scalar : (i : Json) (old new mid : List Token) → old ≡ json_tokens i ++ new → IsFront old mid ↔ (new ≡ mid)
front_scalar i old new mid e = (
  λ (j, f). (same_front i j new mid (sym e ∙ f)).1,
  λ f. (i, e ∙ ap (λ l. json_tokens i ++ l) f),
)

-- ---- a value that was read

module _ {A : Type 0} (old mid new : List Token) where
  pub found_object : (f : Json → Json) → ((ms : Members) → f (object ms) ≡ empty true) → old ≡ begin_object ∷ mid
      → (found : Option (Value A))
      → MatchOption found ((rest : List Token) → Closes true mid rest
      → ⊥) (λ v. Closes true mid new × (value_view v ≡ empty true))
      → MatchOption found (NoValue old) (λ v. ReadsAs f old (value_view v) new)
  found_object f leaves e None none =
      λ rest front. none rest ((front_object mid rest).0 (subst (λ l. IsFront l rest) e front))
  found_object f leaves e (Some v) (c, is) = (object c.0, e ∙ ap (λ l. begin_object ∷ l) c.1, is ∙ sym (leaves c.0))

  pub found_array : (f : Json → Json) → ((js : Items) → f (array js) ≡ empty false) → old ≡ begin_array ∷ mid
      → (found : Option (Value A))
      → MatchOption found ((rest : List Token) → Closes false mid rest
      → ⊥) (λ v. Closes false mid new × (value_view v ≡ empty false))
      → MatchOption found (NoValue old) (λ v. ReadsAs f old (value_view v) new)
  found_array f leaves e None none =
      λ rest front. none rest ((front_array mid rest).0 (subst (λ l. IsFront l rest) e front))
  found_array f leaves e (Some v) (c, is) = (array c.0, e ∙ ap (λ l. begin_array ∷ l) c.1, is ∙ sym (leaves c.0))

-- ---- a value of which it is seen whether it is an operation

module _ {A : Type 0} (old mid new : List Token) where
  pub row_items : old ≡ begin_array ∷ mid → (found : Option (Value A))
      → MatchOption found ((rest : List Token) → Closes false mid rest → ⊥)
      (λ v. (js : Items) × (mid ≡ items_tokens js ++ new) × IsSeenAs (array js) (value_view v))
      → MatchOption found (NoValue old)
      (λ v. (j : Json) × (old ≡ json_tokens j ++ new) × IsSeenAs j (value_view v))
  row_items e None none = λ rest front. none rest ((front_array mid rest).0 (subst (λ l. IsFront l rest) e front))
  row_items e (Some v) (js, text, is) = (array js, e ∙ ap (λ l. begin_array ∷ l) text, is)
