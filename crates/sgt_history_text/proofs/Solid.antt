-- What a transaction's members are is seen of what was read to some depth.
use Rattle.std.proofs.Common.{◌≡◌, ℕ, suc, ◌<◌, ◌≤◌, Bool, true, false, List, Option, Some, None, option_map, IfSome, refl, sym, ap, ap₂, ◌∙◌, subst, arith, codes, decimal}
use Rattle.std.proofs.lemmas.Option.{same_Some}
use Rattle.json.specs.Json.{Json, null, boolean, number, string, array, object, Items, no_items, item, Members}
use Rattle.json.specs.Find.{get, get_member}
use Rattle.sgt_history.specs.declared.history.Operation.{Operation}
use Rattle.sgt_history_text.specs.Line.{IsOperation, end_word, given, kind_word, operation_json}
use Rattle.sgt_history_text.specs.Name.{IsKey, IsValue}
use Rattle.sgt_history_time.specs.declared.times.Times.{Times}
use Rattle.sgt_history_text.specs.Members.{HasMembers, is_told}
use Rattle.sgt_history_text.specs.Parsed.{AreTimes, IsHead, IsSession}
use Rattle.sgt_history_text.specs.Shallow.{IsScalar, IsSeenAs, arrays, empty, leaf, map_items}

-- it is as it is read, and nothing else is read so
record IsSolid (f : Json → Json) (y : Json) : Type 0 where
  pub fixed : f y ≡ y
  pub back : (x : Json) → f x ≡ y → x ≡ y

-- ---- scalars

not_scalar : (x y : Json) → IsScalar y → (IsScalar x → ⊥) → x ≡ y → ⊥
not_scalar x y s other e = other (subst IsScalar (sym e) s)

leaf_fixed : (y : Json) → IsScalar y → leaf y ≡ y
leaf_fixed null s = refl
leaf_fixed (boolean b) s = refl
leaf_fixed (number n) s = refl
leaf_fixed (string n) s = refl
leaf_fixed (array js) s = absurd s
leaf_fixed (object ms) s = absurd s

leaf_back : (y : Json) → IsScalar y → (x : Json) → leaf x ≡ y → x ≡ y
leaf_back y s null e = e
leaf_back y s (boolean b) e = e
leaf_back y s (number n) e = e
leaf_back y s (string n) e = e
leaf_back y s (array js) e = absurd (not_scalar (empty false) y s (λ h. h) e)
leaf_back y s (object ms) e = absurd (not_scalar (empty true) y s (λ h. h) e)

leaf_solid : (y : Json) → IsScalar y → IsSolid leaf y
leaf_solid y s = record { fixed = leaf_fixed y s; back = leaf_back y s }

pub arrays_fixed : (f : Json → Json) (y : Json) → IsScalar y → arrays f y ≡ y
arrays_fixed f null s = refl
arrays_fixed f (boolean b) s = refl
arrays_fixed f (number n) s = refl
arrays_fixed f (string n) s = refl
arrays_fixed f (array js) s = absurd s
arrays_fixed f (object ms) s = absurd s

key_scalar : (least most : ℕ) (j : Json) → IsKey least most j → IsScalar j
key_scalar least most null k = absurd k
key_scalar least most (boolean b) k = absurd k
key_scalar least most (number s) k = tt
key_scalar least most (string s) k = tt
key_scalar least most (array js) k = absurd k
key_scalar least most (object ms) k = absurd k

value_scalar : (j : Json) → IsValue j → IsScalar j
value_scalar null k = tt
value_scalar (boolean b) k = tt
value_scalar (number s) k = tt
value_scalar (string s) k = tt
value_scalar (array js) k = absurd k
value_scalar (object ms) k = absurd k

-- ---- arrays

abbrev AreSolid : (Json → Json) → Items → Type 0
AreSolid f no_items = Unit {0}
AreSolid f (item j js) = IsSolid f j × AreSolid f js

pub first_item : (x y : Json) (xs ys : Items) → item x xs ≡ item y ys → x ≡ y
first_item x y xs ys e = cc

pub rest_items : (x y : Json) (xs ys : Items) → item x xs ≡ item y ys → xs ≡ ys
rest_items x y xs ys e = cc

pub elements : (xs ys : Items) → array xs ≡ array ys → xs ≡ ys
elements xs ys e = cc

items_fixed : (f : Json → Json) (ks : Items) → AreSolid f ks → map_items f ks ≡ ks
items_fixed f no_items s = refl
items_fixed f (item k ks) s = ap₂ item s.0.fixed (items_fixed f ks s.1)

items_back : (f : Json → Json) (ks js : Items) → AreSolid f ks → map_items f js ≡ ks → js ≡ ks
items_back f no_items no_items s e = refl
items_back f no_items (item j js) s e = absurd cc
items_back f (item k ks) no_items s e = absurd cc
items_back f (item k ks) (item j js) s e =
    ap₂ item (s.0.back j (first_item (f j) k (map_items f js) ks e))
    (items_back f ks js s.1 (rest_items (f j) k (map_items f js) ks e))

array_back : (f : Json → Json) (ks : Items) → AreSolid f ks → (x : Json) → arrays f x ≡ array ks → x ≡ array ks
array_back f ks s null e = absurd cc
array_back f ks s (boolean b) e = absurd cc
array_back f ks s (number n) e = absurd cc
array_back f ks s (string n) e = absurd cc
array_back f ks s (object ms) e = absurd cc
array_back f ks s (array js) e = ap array (items_back f ks js s (elements (map_items f js) ks e))

array_solid : (f : Json → Json) (ks : Items) → AreSolid f ks → IsSolid (arrays f) (array ks)
array_solid f ks s = record { fixed = ap array (items_fixed f ks s); back = array_back f ks s }

given_solid : (v : Option Json) → IfSome v IsValue → AreSolid leaf (given v)
given_solid None k = tt
given_solid (Some j) k = (leaf_solid j (value_scalar j k), tt)

operation_solid : (o : Operation Json Json) → IsOperation o → IsSolid (arrays leaf) (operation_json o)
operation_solid o is =
    array_solid leaf
    (item (string (kind_word o.kind)) (item o.item (item (number (decimal o.version)) (given o.value)))) (
      leaf_solid (string (kind_word o.kind)) tt,
      (
        leaf_solid o.item (key_scalar 0 1024 o.item is.item_is),
        (leaf_solid (number (decimal o.version)) tt, given_solid o.value is.value_is),
      ),
    )

-- ---- an operation is seen of what was read of it

pub seen_from : (j v : Json) → v ≡ arrays leaf j → IsSeenAs j v
seen_from j v read o is =
    let solid = operation_solid o is in
    (λ e. read ∙ ap (arrays leaf) e ∙ solid.fixed, λ e. solid.back j (sym read ∙ e))

abbrev pub count_items : Items → ℕ
count_items no_items = 0
count_items (item j js) = suc (count_items js)

few_given : (v : Option Json) → count_items (given v) ≤ 1
few_given None = omega arith
few_given (Some j) = omega arith

-- more elements are none
pub long_none : (js : Items) → 4 < count_items js → (o : Operation Json Json) → array js ≡ operation_json o → ⊥
long_none js long o e =
    let same = elements js (item (string (kind_word o.kind)) (item o.item (item (number (decimal o.version)) (given o.value)))) e in
    let size : count_items js ≡ suc (suc (suc (count_items (given o.value)))) = ap count_items same in
    absurd (omega (arith, long, size, few_given o.value))

pub seen_long : (js : Items) (v : Json) (ks : Items) → v ≡ array ks → 4 < count_items js → 4 < count_items ks
    → IsSeenAs (array js) v
seen_long js v ks read long long' o is = (
  λ e. absurd (long_none js long o e),
  λ e. absurd (long_none ks long' o (sym read ∙ e)),
)

-- ---- members

some_back : (f : Json → Json) (o : Option Json) (y : Json) → IsSolid f y → option_map f o ≡ Some y → o ≡ Some y
some_back f None y s e = absurd cc
some_back f (Some x) y s e = ap Some (s.back x (same_Some (f x) y e))

module _ (f : Json → Json) (found read : Option Json) (is : read ≡ option_map f found) (y : Json) (s : IsSolid f y)
  where
    member_on : read ≡ Some y → found ≡ Some y
    member_on e = some_back f found y s (sym is ∙ e)

    member_back : found ≡ Some y → read ≡ Some y
    member_back e = is ∙ ap (option_map f) e ∙ ap Some s.fixed

-- ---- of what is kept so deep, it says what the object says

module _ (ms : Members) (v : Json) (has : HasMembers ms v) where
  -- the member of a told name, if it has no depth
  there_on : (name : List ℕ) → is_told name ≡ true → (y : Json) → IsScalar y
      → get name v ≡ Some y → get_member name ms ≡ Some y
  there_on name told y s = member_on leaf (get_member name ms) (get name v) (has name told) y (leaf_solid y s)

  there_back : (name : List ℕ) → is_told name ≡ true → (y : Json) → IsScalar y
      → get_member name ms ≡ Some y → get name v ≡ Some y
  there_back name told y s = member_back leaf (get_member name ms) (get name v) (has name told) y (leaf_solid y s)

  pub head_on : (id : Json) (commits : Bool) → IsHead v id commits → IsHead (object ms) id commits
  head_on id commits is = record {
    tx = there_on (codes "tx") refl id (key_scalar 1 256 id is.id_is) is.tx;
    end = there_on (codes "end") refl (string (end_word commits)) tt is.end;
    id_is = is.id_is;
  }

  pub head_back : (id : Json) (commits : Bool) → IsHead (object ms) id commits → IsHead v id commits
  head_back id commits is = record {
    tx = there_back (codes "tx") refl id (key_scalar 1 256 id is.id_is) is.tx;
    end = there_back (codes "end") refl (string (end_word commits)) tt is.end;
    id_is = is.id_is;
  }

  -- ---- and when it ran, and its session, exactly where it does

  pub times_on : (x : Times) → AreTimes v x → AreTimes (object ms) x
  times_on x is = record {
    begin = there_on (codes "begin") refl (number (decimal x.begin)) tt is.begin;
    done = there_on (codes "done") refl (number (decimal x.done)) tt is.done;
    in_order = is.in_order;
    fits = is.fits;
  }

  pub times_back : (x : Times) → AreTimes (object ms) x → AreTimes v x
  times_back x is = record {
    begin = there_back (codes "begin") refl (number (decimal x.begin)) tt is.begin;
    done = there_back (codes "done") refl (number (decimal x.done)) tt is.done;
    in_order = is.in_order;
    fits = is.fits;
  }

  pub session_on : (s : Json) → IsSession v s → IsSession (object ms) s
  session_on s is = record {
    there = there_on (codes "session") refl s (key_scalar 0 1024 s is.session_is) is.there;
    session_is = is.session_is;
  }

  pub session_back : (s : Json) → IsSession (object ms) s → IsSession v s
  session_back s is = record {
    there = there_back (codes "session") refl s (key_scalar 0 1024 s is.session_is) is.there;
    session_is = is.session_is;
  }
