-- Elements of an array, and members of an object, read one after another.
use Rattle.std.proofs.Common.{◌≡◌, ℕ, zero, suc, ◌<◌, Bool, true, false, cond, List, [], ◌∷◌, ◌++◌, map, Option, Some, None, option_map, length, length-append, get_or, take, drop, refl, sym, ap, ap₂, ◌∙◌, subst, arith, append_assoc, inl, inr, ◌⊎◌, codes}
use Rattle.std.specs.Prelude.{IfSome, slice_get}
use Rattle.std.specs.Bool.{MatchBool}
use Rattle.std.specs.Str.{bytes_eq}
use Rattle.std.proofs.lemmas.Bool.{both_ways, cases_Bool, cond-false, cond-true}
use Rattle.std.proofs.lemmas.Option.{slice_get-get_or}
use Rattle.std.proofs.lemmas.Slice.Eq.{bytes_eq-Decides}
use Rattle.json.specs.Find.{get, get_member, later_or}
use Rattle.std.specs.Borrow.{Bor}
use Rattle.json.specs.Token.{Token, end_object, end_array, key}
use Rattle.json.specs.Json.{Json, array, object, Items, no_items, item, Members, no_members, member, after_end_array}
use Rattle.json.specs.Tree.{json_tokens, items_tokens, members_tokens}
use Rattle.json.specs.Value.{items_of, value_view, items_view, members_view}
use Rattle.json.specs.declared.value.Value.{Value}
use Rattle.sgt_history.specs.declared.history.Operation.{Operation}
use Rattle.sgt_history_text.specs.Line.{operation_json}
use Rattle.sgt_history_text.specs.Members.{AreOperations, ArePutFor, HasMembers, IsMemberTaken, IsReadFrom, IsToldTaken, Puts, Replaces, get_with, is_told, operations_in}
use Rattle.sgt_history_text.specs.Shallow.{AfterValue, Closes, IsFront, IsPartKept, IsSeenAs, NoValue, ReadsAs, leaf, map_items}
use Rattle.sgt_history_text.specs.declared.building.Builder.{Builder}
use Rattle.sgt_history_text.specs.declared.members.Found.{Found}
use Rattle.sgt_history_text.specs.declared.members.Object.{Object}
use Rattle.sgt_history_text.proofs.Fronts.{array_end, array_goes_on, object_goes_on, same_front}
use Rattle.sgt_history_text.proofs.Solid.{count_items, seen_from, seen_long}

-- ---- elements

abbrev pub snoc_item : Items → Json → Items
snoc_item no_items j = item j no_items
snoc_item (item i js) j = item i (snoc_item js j)

abbrev pub before_items : Items → List Token → List Token
before_items no_items ts = ts
before_items (item j js) ts = json_tokens j ++ before_items js ts

pub before_items-snoc : (js : Items) (j : Json) (ts : List Token)
    → before_items (snoc_item js j) ts ≡ before_items js (json_tokens j ++ ts)
before_items-snoc no_items j ts = refl
before_items-snoc (item i js) j ts = ap (λ l. json_tokens i ++ l) (before_items-snoc js j ts)

pub before_items-end : (js : Items) (ts : List Token) → before_items js (end_array ∷ ts) ≡ items_tokens js ++ ts
before_items-end no_items ts = refl
before_items-end (item j js) ts =
    ap (λ l. json_tokens j ++ l) (before_items-end js ts) ∙ sym (append_assoc (json_tokens j) (items_tokens js) ts)

map_items-snoc : (f : Json → Json) (js : Items) (j : Json)
    → map_items f (snoc_item js j) ≡ snoc_item (map_items f js) (f j)
map_items-snoc f no_items j = refl
map_items-snoc f (item i js) j = ap (λ l. item (f i) l) (map_items-snoc f js j)

items_view-push : {A : Type 0} (vs : List (Value A)) (v : Value A)
    → items_view (vs ++ v ∷ []) ≡ snoc_item (items_view vs) (value_view v)
items_view-push [] v = refl
items_view-push (w ∷ vs) v = ap (λ l. item (value_view w) l) (items_view-push vs v)

count-view : {A : Type 0} (vs : List (Value A)) → count_items (items_view vs) ≡ length vs
count-view [] = refl
count-view (v ∷ vs) = ap suc (count-view vs)

count-map : (f : Json → Json) (js : Items) → count_items (map_items f js) ≡ count_items js
count-map f no_items = refl
count-map f (item j js) = ap suc (count-map f js)

count-snoc : (js : Items) (j : Json) → count_items (snoc_item js j) ≡ suc (count_items js)
count-snoc no_items j = refl
count-snoc (item i js) j = ap suc (count-snoc js j)

-- these are the elements, as they are read; or both are more than an operation has
abbrev pub AreParts : {A : Type 0} → List (Value A) → Items → Type 0
AreParts vs js = (items_view vs ≡ map_items leaf js) ⊎ ((4 < length vs) × (4 < count_items js))

parts_next : {A : Type 0} (vs us : List (Value A)) (v : Value A) (js : Items) (j : Json) → AreParts vs js
    → value_view v ≡ leaf j → IsPartKept vs v us → AreParts us (snoc_item js j)
parts_next vs us v js j (inl same) is (inl e) =
    inl (ap items_view e ∙ items_view-push vs v ∙ ap₂ snoc_item same is ∙ sym (map_items-snoc leaf js j))
parts_next vs us v js j (inl same) is (inr (long, e)) = inr (
  omega (arith, long, ap length e),
  omega (arith, long, count-snoc js j, count-view vs, ap count_items same, count-map leaf js),
)
parts_next vs us v js j (inr (long, many)) is (inl e) =
    inr (omega (arith, long, ap length e, length-append vs (v ∷ [])), omega (arith, many, count-snoc js j))
parts_next vs us v js j (inr (long, many)) is (inr (_, e)) =
    inr (omega (arith, long, ap length e), omega (arith, many, count-snoc js j))

-- these are the elements up to there
pub record Gathers {A : Type 0} (start now : List Token) (vs : List (Value A)) : Type 0 where
  pub js : Items
  pub text : start ≡ before_items js now
  pub same : AreParts vs js
  pub back : (rest : List Token) → Closes false start rest → Closes false now rest

module _ {A : Type 0} (start : List Token) where
  pub gathers_none : Gathers {A = A} start start []
  gathers_none = record { js = no_items; text = refl; same = inl refl; back = λ rest c. c }

  module _ (now : List Token) (vs : List (Value A)) (g : Gathers start now vs) where
    pub gathers_next : (taken new : List Token) (v : Value A) (us : List (Value A))
        → (after_end_array now ≡ None) × (taken ≡ now)
        → ReadsAs leaf taken (value_view v) new → IsPartKept vs v us
        → Gathers start new us
    gathers_next taken new v us (none, same) (j, e, is) kept = record {
      js = snoc_item g.js j;
      text = g.text ∙ ap (before_items g.js) (sym same ∙ e) ∙ sym (before_items-snoc g.js j new);
      same = parts_next vs us v g.js j g.same is kept;
      back = λ rest c. (let k = (array_goes_on now rest none).0 (g.back rest c) in
          subst (λ l. Closes false l rest) (sym (same_front j k.1.0 new k.0 (sym (sym same ∙ e) ∙ k.1.1)).1) k.2);
    }

    pub gathers_fails : (taken : List Token) → (after_end_array now ≡ None) × (taken ≡ now) → NoValue taken
        → (rest : List Token) → Closes false start rest → ⊥
    gathers_fails taken (none, same) fails rest c =
        let k = (array_goes_on now rest none).0 (g.back rest c) in
        fails k.0 (subst (λ l. IsFront l k.0) (sym same) k.1)

    pub gathers_end : (new : List Token) (w : Json) → after_end_array now ≡ Some new → w ≡ array (items_view vs)
        → (js : Items) × (start ≡ items_tokens js ++ new) × IsSeenAs (array js) w
    gathers_end new w e is = (
      g.js,
      g.text ∙ ap (before_items g.js) (array_end now new e) ∙ before_items-end g.js new,
      elim g.same [
        | inl same ↦ seen_from (array g.js) w (is ∙ ap array same)
        | inr long ↦ seen_long g.js w (items_view vs) is long.1 (omega (arith, long.0, count-view vs))
      ],
    )

-- ---- members

abbrev pub snoc_member : Members → List ℕ → Json → Members
snoc_member no_members k j = member k j no_members
snoc_member (member l i ms) k j = member l i (snoc_member ms k j)

abbrev pub before_members : Members → List Token → List Token
before_members no_members ts = ts
before_members (member k j ms) ts = key k ∷ (json_tokens j ++ before_members ms ts)

before_members-snoc : (ms : Members) (k : List ℕ) (j : Json) (ts : List Token)
    → before_members (snoc_member ms k j) ts ≡ before_members ms (key k ∷ (json_tokens j ++ ts))
before_members-snoc no_members k j ts = refl
before_members-snoc (member l i ms) k j ts = ap (λ t. key l ∷ (json_tokens i ++ t)) (before_members-snoc ms k j ts)

before_members-end : (ms : Members) (ts : List Token) → before_members ms (end_object ∷ ts) ≡ members_tokens ms ++ ts
before_members-end no_members ts = refl
before_members-end (member k j ms) ts =
    ap (λ l. key k ∷ l) (ap (λ l. json_tokens j ++ l) (before_members-end ms ts)
    ∙ sym (append_assoc (json_tokens j) (members_tokens ms) ts))

later-cond : (b : Bool) (j : Json) (o e : Option Json)
    → later_or (cond b (Some j) o) e ≡ cond b (Some j) (later_or o e)
later-cond true j o e = refl
later-cond false j o e = refl

mapped-cond : (f : Json → Json) (b : Bool) (j : Json) (o : Option Json)
    → cond b (Some (f j)) (option_map f o) ≡ option_map f (cond b (Some j) o)
mapped-cond f true j o = refl
mapped-cond f false j o = refl

-- the last member is the one that is found
get-snoc : (ms : Members) (k : List ℕ) (j : Json) (name : List ℕ)
    → get_member name (snoc_member ms k j) ≡ get_with ms k j name
get-snoc no_members k j name = refl
get-snoc (member l i ms) k j name =
    ap (λ o. later_or o (cond (bytes_eq l name) (Some i) None)) (get-snoc ms k j name)
    ∙ later-cond (bytes_eq k name) j (get_member name ms) (cond (bytes_eq l name) (Some i) None)

members_view-push : {A : Type 0} (vs : List (Bor (List ℕ) × Value A)) (k : Bor (List ℕ)) (v : Value A)
    → members_view (vs ++ (k, v) ∷ []) ≡ snoc_member (members_view vs) k.now (value_view v)
members_view-push [] k v = refl
members_view-push (w ∷ vs) k v = ap (λ t. member w.0.now (value_view w.1) t) (members_view-push vs k v)

-- one member more, behind those that are kept
pub get-push : {A : Type 0} (vs : List (Bor (List ℕ) × Value A)) (k : Bor (List ℕ)) (v : Value A) (name : List ℕ)
    → get_member name (members_view (vs ++ (k, v) ∷ [])) ≡ get_with (members_view vs) k.now (value_view v) name
get-push vs k v name = ap (get_member name) (members_view-push vs k v)
    ∙ get-snoc (members_view vs) k.now (value_view v) name

later-none : (o : Option Json) → later_or o None ≡ o
later-none None = refl
later-none (Some j) = refl

-- without one of another name the same is found
pub get-removed : {A : Type 0} (vs : List (Bor (List ℕ) × Value A)) (at : ℕ) (name : List ℕ) → at < length vs
    → ((d : Bor (List ℕ) × Value A) → bytes_eq (get_or vs at d).0.now name ≡ false)
    → get_member name (members_view (take at vs ++ drop (suc at) vs)) ≡ get_member name (members_view vs)
get-removed [] at name lt other = absurd (omega arith)
get-removed (w ∷ vs) zero name lt other =
    let found = get_member name (members_view vs) in
    sym (ap (λ b. later_or found (cond b (Some (value_view w.1)) None)) (other w) ∙ later-none found)
get-removed (w ∷ vs) (suc at) name lt other =
    ap (λ o. later_or o (cond (bytes_eq w.0.now name) (Some (value_view w.1)) None))
    (get-removed vs at name (omega (arith, lt)) other)

other-name : (k l name : List ℕ) → bytes_eq k l ≡ true → bytes_eq l name ≡ false → bytes_eq k name ≡ false
other-name k l name same apart =
    ap (λ n. bytes_eq n name) ((bytes_eq-Decides k l).0 same) ∙ apart

-- without one of this name the same is found under any other
pub get-forgotten : {A : Type 0} (vs : List (Bor (List ℕ) × Value A)) (at : ℕ) (k : List ℕ) → at < length vs
    → IfSome (slice_get vs at) (λ m. bytes_eq m.0.now k ≡ true) → (name : List ℕ) → bytes_eq k name ≡ false
    → get_member name (members_view (take at vs ++ drop (suc at) vs)) ≡ get_member name (members_view vs)
get-forgotten vs at k lt same name apart = get-removed vs at name lt (λ d. other-name (get_or vs at d).0.now k name
    (subst (λ o. IfSome o (λ m. bytes_eq m.0.now k ≡ true)) (slice_get-get_or vs at d lt) same) apart)

-- a member stands behind what is left of those before
pub get-put : {A : Type 0} (us vs : List (Bor (List ℕ) × Value A)) (k : Bor (List ℕ)) (v : Value A)
    → ((name : List ℕ) → bytes_eq k.now name ≡ false
    → get_member name (members_view us) ≡ get_member name (members_view vs))
    → (name : List ℕ)
    → get_member name (members_view (us ++ (k, v) ∷ [])) ≡ get_with (members_view vs) k.now (value_view v) name
get-put us vs k v same name = get-push us k v name ∙ elim (cases_Bool (bytes_eq k.now name)) [
  | inl same_name ↦ cond-true (bytes_eq k.now name) _ _ same_name ∙ sym (cond-true (bytes_eq k.now name) _ _ same_name)
  | inr apart ↦ ap (λ o. cond (bytes_eq k.now name) (Some (value_view v)) o) (same name apart)
]

-- a name that says nothing is none of those that do
pub untold : (k name : List ℕ) → is_told k ≡ false → is_told name ≡ true → bytes_eq k name ≡ false
untold k name none told = elim (cases_Bool (bytes_eq k name)) [
  | inl same_name ↦ absurd (both_ways (is_told k) none (ap is_told ((bytes_eq-Decides k name).0 same_name) ∙ told))
  | inr apart ↦ apart
]

match_on : {P Q : Type 0} (R : Type 0) (r : Bool) → (P → Q) → MatchBool r P R → MatchBool r Q R
match_on R true on found = on found
match_on R false on found = found

module _ (old new : List Token) (k : List ℕ) (f f' : Found) (b b' : Builder) where
  -- a member of another name than "ops" leaves the operations
  pub taken_member : bytes_eq k (codes "ops") ≡ false → f'.operations ≡ f.operations → b' ≡ b
      → IsToldTaken old new k (members_view f.members.items) (members_view f'.members.items)
      → IsMemberTaken old new k f f' b b'
  taken_member other same same_builder t = record {
    j = t.j;
    text = t.text;
    kept = t.kept;
    put = λ value ids h put.
        subst (λ o. ArePutFor ids h o f'.operations b') (sym (cond-false (bytes_eq k (codes "ops")) _ _ other))
        (subst (λ (a : Bool). ArePutFor ids h value a b') (sym same)
        (subst (λ (d : Builder). ArePutFor ids h value f.operations d) (sym same_builder) put));
  }

  -- one of that name the members
  pub taken_operations : bytes_eq k (codes "ops") ≡ true → f'.members.items ≡ f.members.items
      → (j : Json) × (old ≡ json_tokens j ++ new) × Replaces b b' (Some j) f'.operations
      → IsMemberTaken old new k f f' b b'
  taken_operations is same (j, e, replaces) = record {
    j = j;
    text = e;
    kept = λ name told. ap (λ vs. get_member name (members_view vs)) same
        ∙ sym (cond-false (bytes_eq k name) _ _
        (ap (λ n. bytes_eq n name) ((bytes_eq-Decides k (codes "ops")).0 is) ∙ untold (codes "ops") name refl told));
    put = λ value ids h put.
        subst (λ o. ArePutFor ids h o f'.operations b') (sym (cond-true (bytes_eq k (codes "ops")) _ _ is))
        (replaces ids h put.0 put.1);
  }

-- so it is where a value comes; else there is none
module _ (old new : List Token) (k : List ℕ) (f f' : Found) (b b' : Builder) (r : Bool) where
  pub told_found : bytes_eq k (codes "ops") ≡ false → f'.operations ≡ f.operations → b' ≡ b
      → MatchBool r (IsToldTaken old new k (members_view f.members.items) (members_view f'.members.items)) (NoValue old)
      → MatchBool r (IsMemberTaken old new k f f' b b') (NoValue old)
  told_found other same same_builder found =
      match_on (NoValue old) r (λ t. taken_member old new k f f' b b' other same same_builder t) found

  pub operations_found : bytes_eq k (codes "ops") ≡ true → f'.members.items ≡ f.members.items
      → MatchBool r ((j : Json) × (old ≡ json_tokens j ++ new) × Replaces b b' (Some j) f'.operations) (NoValue old)
      → MatchBool r (IsMemberTaken old new k f f' b b') (NoValue old)
  operations_found is same found = match_on (NoValue old) r (λ t. taken_operations old new k f f' b b' is same t) found

-- of the members up to there these are kept, and the operations were put
pub record Collects (start now : List Token) (b b' : Builder) (f : Found) : Type 0 where
  pub ms : Members
  pub text : start ≡ before_members ms now
  pub same : HasMembers ms (object (members_view f.members.items))
  pub put : Puts b b' (operations_in ms) f.operations
  pub back : (rest : List Token) → Closes true start rest → Closes true now rest

no_operations : (os : List (Operation Json Json)) → None ≡ Some (array (items_of (map operation_json os))) → ⊥
no_operations os e = absurd cc

module _ (start : List Token) (b : Builder) where
  pub collects_none : (f : Found) → f.members.items ≡ [] → f.operations ≡ false → Collects start start b b f
  collects_none f none unset = record {
    ms = no_members;
    text = refl;
    same = λ name told. ap (λ vs. get name (object (members_view vs))) none;
    put = λ ids h built. ([], built, subst (λ (a : Bool). AreOperations None a []) (sym unset) (λ os all e. no_operations os e));
    back = λ rest c. c;
  }

  module _ (now : List Token) (b' : Builder) (f : Found) (g : Collects start now b b' f) where
    value_comes : (taken : List Token) (k : List ℕ) → now ≡ key k ∷ taken → (rest : List Token)
        → Closes true start rest → AfterValue true taken rest
    value_comes taken k e rest c = (object_goes_on k taken rest).0 (subst (λ l. Closes true l rest) e (g.back rest c))

    pub collects_next : (taken new : List Token) (k : List ℕ) (f' : Found) (b'' : Builder)
        → now ≡ key k ∷ taken → IsMemberTaken taken new k f f' b' b''
        → Collects start new b b'' f'
    collects_next taken new k f' b'' comes t = record {
      ms = snoc_member g.ms k t.j;
      text = g.text ∙ ap (before_members g.ms) (comes ∙ ap (λ l. key k ∷ l) t.text)
          ∙ sym (before_members-snoc g.ms k t.j new);
      same = λ name told. t.kept name told
          ∙ ap (λ o. cond (bytes_eq k name) (Some (leaf t.j)) o) (g.same name told)
          ∙ mapped-cond leaf (bytes_eq k name) t.j (get_member name g.ms)
          ∙ ap (option_map leaf) (sym (get-snoc g.ms k t.j name));
      put = λ ids h built. subst (λ o. ArePutFor ids h o f'.operations b'')
          (sym (get-snoc g.ms k t.j (codes "ops"))) (t.put (operations_in g.ms) ids h (g.put ids h built));
      back = λ rest c. (let m = value_comes taken k comes rest c in
          subst (λ l. Closes true l rest) (sym (same_front t.j m.1.0 new m.0 (sym t.text ∙ m.1.1)).1) m.2);
    }

    pub collects_fails : (taken : List Token) (k : List ℕ) → now ≡ key k ∷ taken → NoValue taken → (rest : List Token)
        → Closes true start rest → ⊥
    collects_fails taken k comes fails rest c = let m = value_comes taken k comes rest c in fails m.0 m.1

    pub collects_end : (new : List Token) (o : Object) → now ≡ end_object ∷ new
        → value_view o.members ≡ object (members_view f.members.items) → o.operations ≡ f.operations
        → (ms : Members) × (start ≡ members_tokens ms ++ new) × IsReadFrom b b' ms o
    collects_end new o e is same = (
      g.ms,
      g.text ∙ ap (before_members g.ms) e ∙ before_members-end g.ms new,
      record {
        has = λ name told. ap (get name) is ∙ g.same name told;
        put = subst (λ (a : Bool). Puts b b' (operations_in g.ms) a) (sym same) g.put;
      },
    )
