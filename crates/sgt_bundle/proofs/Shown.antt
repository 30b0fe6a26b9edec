-- The values whose tokens are read one by one.
use Rattle.std.proofs.Common.{◌≡◌, ℕ, ◌<◌, true, Bool, List, [], ◌∷◌, ◌++◌, length, Option, Some, None, refl, sym, ap, ◌∙◌, append_assoc, arith, lit≤, codes, decimal}
use Rattle.std.specs.Prelude.{option_map, option_and_then}
use Rattle.std.specs.List.{list_all}
use Rattle.std.proofs.lemmas.Bool.{and_from}
use Rattle.std.proofs.lemmas.List.{length-append}
use Rattle.json.specs.Token.{Token}
use Rattle.json.specs.Json as json
use Rattle.json.specs.Json.{after_end_array}
use Rattle.json.specs.Tree as tree
use Rattle.json.specs.Lex.{tokens}
use Rattle.json.proofs.Printed.Trees.{value-json_tokens}
use Rattle.serde_json.specs.Data.{Data, number, unsigned, string, array, object, no_items, item, no_members, member}
use Rattle.serde_json.specs.Read.{read, of_json, of_items, max_depth}
use Rattle.serde_json.proofs.Numbers.{number_of-decimal}
use Rattle.sgt_bundle.specs.Line.{is_certificate_object, is_decision_object, is_step_object, items_list}
use Rattle.sgt_bundle.specs.Private.{HasItems, HasNumber, HasText, HasValue}

-- ---- one value

pub step-has : (ts t1 t2 t3 t4 t5 t6 t7 t8 t9 new : List Token) → ts ≡ Token.begin_object ∷ t1
    → t1 ≡ Token.key (codes "item") ∷ t2 → HasText t2 t3 → t3 ≡ Token.key (codes "kind") ∷ t4 → HasText t4 t5
    → t5 ≡ Token.key (codes "site") ∷ t6 → HasNumber t6 t7 → t7 ≡ Token.key (codes "to") ∷ t8 → HasNumber t8 t9
    → t9 ≡ Token.end_object ∷ new → HasValue is_step_object 1 ts new
step-has ts t1 t2 t3 t4 t5 t6 t7 t8 t9 new opens item_key x kind_key k site_key s to_key t close =
    let n = s.1.0 in
    let m = t.1.0 in (
      json.object (json.member (codes "item") (json.string x.0) (json.member (codes "kind") (json.string k.0)
          (json.member (codes "site") (json.number (decimal n)) (json.member (codes "to") (json.number (decimal m)) json.no_members)))),
      object (member (codes "item") (string x.0) (member (codes "kind") (string k.0) (member (codes "site") (number (unsigned n)) (member (codes "to") (number (unsigned m)) no_members)))),
      rw (opens, item_key, x.1, kind_key, k.1, site_key, s.2, s.1.2, to_key, t.2, t.1.2, close) refl,
      rw (number_of-decimal n s.1.1, number_of-decimal m t.1.1) refl,
      refl,
      lit≤ tt,
    )

pub commit-has : (ts t1 t2 t3 t4 t5 new : List Token) → ts ≡ Token.begin_object ∷ t1
    → t1 ≡ Token.key (codes "commit") ∷ t2 → HasNumber t2 t3 → t3 ≡ Token.key (codes "rank") ∷ t4 → HasNumber t4 t5
    → t5 ≡ Token.end_object ∷ new → HasValue is_decision_object 3 ts new
commit-has ts t1 t2 t3 t4 t5 new opens commit_key s rank_key t close =
    let n = s.1.0 in
    let m = t.1.0 in (
      json.object (json.member (codes "commit") (json.number (decimal n)) (json.member (codes "rank") (json.number (decimal m)) json.no_members)),
      object (member (codes "commit") (number (unsigned n)) (member (codes "rank") (number (unsigned m)) no_members)),
      rw (opens, commit_key, s.2, s.1.2, rank_key, t.2, t.1.2, close) refl,
      rw (number_of-decimal n s.1.1, number_of-decimal m t.1.1) refl,
      refl,
      lit≤ tt,
    )

pub withdraw-has : (ts t1 t2 t3 new : List Token) → ts ≡ Token.begin_object ∷ t1 → t1 ≡ Token.key (codes "withdraw") ∷ t2 → HasNumber t2 t3
    → t3 ≡ Token.end_object ∷ new → HasValue is_decision_object 3 ts new
withdraw-has ts t1 t2 t3 new opens withdraw_key s close =
    let n = s.1.0 in (
      json.object (json.member (codes "withdraw") (json.number (decimal n)) json.no_members),
      object (member (codes "withdraw") (number (unsigned n)) no_members),
      rw (opens, withdraw_key, s.2, s.1.2, close) refl,
      rw (number_of-decimal n s.1.1) refl,
      refl,
      lit≤ tt,
    )

-- the tokens of a list, and those behind the object that it ends
closed : (js : json.Items) (more new : List Token)
    → tree.items_tokens js ++ (more ++ new) ≡ (tree.items_tokens js ++ more) ++ new
closed js more new = sym (append_assoc (tree.items_tokens js) more new)

pub refuse-has : (ts t1 t2 t3 t4 t5 t6 new : List Token) → ts ≡ Token.begin_object ∷ t1
    → t1 ≡ Token.key (codes "refuse") ∷ t2 → HasNumber t2 t3 → t3 ≡ Token.key (codes "walk") ∷ t4 → t4 ≡ Token.begin_array ∷ t5
    → HasItems is_step_object 1 t5 t6 → t6 ≡ Token.end_object ∷ new → HasValue is_decision_object 3 ts new
refuse-has ts t1 t2 t3 t4 t5 t6 new opens refuse_key s walk_key bracket walk close =
    let n = s.1.0 in
    let js = walk.0 in
    let ds = walk.1 in (
      json.object (json.member (codes "refuse") (json.number (decimal n)) (json.member (codes "walk") (json.array js) json.no_members)),
      object (member (codes "refuse") (number (unsigned n)) (member (codes "walk") (array ds) no_members)),
      rw (opens, refuse_key, s.2, s.1.2, walk_key, bracket, walk.2, close, closed js (Token.end_object ∷ []) new) refl,
      rw (number_of-decimal n s.1.1, walk.3) refl,
      rw walk.4 refl,
      omega (arith, walk.5),
    )

pub certificate-has : (ts t1 t2 t3 t4 t5 t6 new : List Token) → ts ≡ Token.begin_object ∷ t1
    → t1 ≡ Token.key (codes "decisions") ∷ t2 → t2 ≡ Token.begin_array ∷ t3 → HasItems is_decision_object 3 t3 t4
    → t4 ≡ Token.key (codes "sites") ∷ t5 → HasNumber t5 t6 → t6 ≡ Token.end_object ∷ new → HasValue is_certificate_object 5 ts new
certificate-has ts t1 t2 t3 t4 t5 t6 new opens decisions_key bracket list sites_key s close =
    let n = s.1.0 in
    let js = list.0 in
    let ds = list.1 in (
      json.object (json.member (codes "decisions") (json.array js) (json.member (codes "sites") (json.number (decimal n)) json.no_members)),
      object (member (codes "decisions") (array ds) (member (codes "sites") (number (unsigned n)) no_members)),
      rw (opens, decisions_key, bracket, list.2, sites_key, s.2, s.1.2, close, closed js (Token.key (codes "sites") ∷ Token.number (decimal n) ∷ Token.end_object ∷ []) new) refl,
      rw (list.3, number_of-decimal n s.1.1) refl,
      rw list.4 refl,
      omega (arith, list.5),
    )

-- ---- a list

end-array : (ts new : List Token) → after_end_array ts ≡ Some new → ts ≡ Token.end_array ∷ new
end-array [] new e = cc
end-array (Token.begin_object ∷ ts) new e = cc
end-array (Token.end_object ∷ ts) new e = cc
end-array (Token.begin_array ∷ ts) new e = cc
end-array (Token.end_array ∷ ts) new e = cc
end-array (Token.key s ∷ ts) new e = cc
end-array (Token.string s ∷ ts) new e = cc
end-array (Token.number s ∷ ts) new e = cc
end-array (Token.boolean b ∷ ts) new e = cc
end-array (Token.null ∷ ts) new e = cc
end-array (Token.bad ∷ ts) new e = cc

pub no_more : (test : Data → Bool) (deep : ℕ) (ts new : List Token) → after_end_array ts ≡ Some new
    → HasItems test deep ts new
no_more test deep ts new e = (json.no_items, no_items, end-array ts new e, refl, refl, omega arith)

pub one_more : (test : Data → Bool) (deep : ℕ) (ts r new : List Token) → HasValue test deep ts r
    → HasItems test deep r new → HasItems test deep ts new
one_more test deep ts r new v more = (
  json.item v.0 more.0,
  item v.1 more.1,
  v.2 ∙ ap (λ t. tree.json_tokens v.0 ++ t) more.2
      ∙ sym (append_assoc (tree.json_tokens v.0) (tree.items_tokens more.0) new),
  ap (option_and_then (λ d. option_map (item d) (of_items more.0))) v.3 ∙ ap (option_map (item v.1)) more.3,
  and_from (test v.1) (list_all test (items_list more.1)) v.4 more.4,
  omega (arith, v.5, more.5),
)

some-token : (j : json.Json) (rest : List Token) → length rest < length (tree.json_tokens j ++ rest)
some-token json.null rest = omega arith
some-token (json.boolean b) rest = omega arith
some-token (json.number s) rest = omega arith
some-token (json.string s) rest = omega arith
some-token (json.array js) rest = omega (arith, length-append (tree.items_tokens js) rest)
some-token (json.object ms) rest = omega (arith, length-append (tree.members_tokens ms) rest)

-- a value takes a token at least
pub fewer : (test : Data → Bool) (deep : ℕ) (ts r : List Token) → HasValue test deep ts r → length r < length ts
fewer test deep ts r v = rw v.2 (some-token v.0 r)

-- ---- the whole text

abbrev whole : Option (json.Json × List Token) → Option Data
whole o = option_and_then of_json (option_and_then (λ p. json.if_last p.0 p.1) o)

none-read : (o : Option (json.Json × List Token)) → option_map (λ p. p.1) o ≡ None → whole o ≡ None
none-read None e = refl
none-read (Some p) e = cc

more-read : (o : Option (json.Json × List Token)) (t : Token) (ts : List Token)
    → option_map (λ p. p.1) o ≡ Some (t ∷ ts) → whole o ≡ None
more-read None t ts e = cc
more-read (Some (j, [])) t ts e = cc
more-read (Some (j, u ∷ us)) t ts e = refl

-- the value that stands in front is that of the text, where nothing stands behind it
pub shape_read : (text : List ℕ) (test : Data → Bool) (ts rest : List Token) → ts ≡ tokens text
    → HasValue test 5 ts rest → rest ≡ []
    → (d : Data) × (read text ≡ Some d) × (test d ≡ true)
shape_read text test ts rest is v none =
    let front : tokens text ≡ tree.json_tokens v.0 ++ [] = sym is ∙ v.2 ∙ ap (λ t. tree.json_tokens v.0 ++ t) none in
    let parsed : json.value max_depth (tokens text) ≡ Some (v.0, []) = ap (json.value max_depth) front
    ∙ value-json_tokens v.0 max_depth [] (omega (arith, v.5)) in
    (v.1, ap whole parsed ∙ v.3, v.4)

-- no value stands in front
pub broken_read : (text : List ℕ) (ts : List Token) → ts ≡ tokens text → json.skip_value max_depth ts ≡ None
    → read text ≡ None
broken_read text ts is e = none-read (json.value max_depth (tokens text)) (ap (json.skip_value max_depth) (sym is) ∙ e)

-- something stands behind it
pub further_read : (text : List ℕ) (ts rest more : List Token) (t : Token) → ts ≡ tokens text
    → json.skip_value max_depth ts ≡ Some rest → rest ≡ t ∷ more → read text ≡ None
further_read text ts rest more t is e stands =
    more-read (json.value max_depth (tokens text)) t more (ap (json.skip_value max_depth) (sym is) ∙ e ∙ ap Some stands)
