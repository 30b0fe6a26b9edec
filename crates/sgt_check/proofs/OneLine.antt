-- A line spells one transaction, with one id.
use Rattle.std.proofs.Common.{◌≡◌, ℕ, ◌+◌, ◌<◌, ◌≤◌, ◌^◌, Bool, true, false, List, [], ◌∷◌, ◌++◌, Option, Some, None, map, refl, sym, ap, ap₂, ◌∙◌, codes, decimal, arith}
use Rattle.std.specs.List.{AllByRecursion}
use Rattle.std.proofs.lemmas.Fmt.{decimal_injective}
use Rattle.std.proofs.lemmas.List.Elements.{recursion_from_All}
use Rattle.std.proofs.lemmas.List.{append-nil}
use Rattle.std.proofs.lemmas.Option.{same_Some}
use Rattle.json.specs.Find.{get}
use Rattle.json.specs.Json.{Json, string, number, array, object, Items}
use Rattle.json.specs.Value.{items_of}
use Rattle.sgt_history.specs.Transaction.{Transaction}
use Rattle.sgt_history.specs.declared.history.Kind.{Kind}
use Rattle.sgt_history.specs.declared.history.Kind.TheVariants.{Read, Write}
use Rattle.sgt_history.specs.declared.history.Operation.{Operation}
use Rattle.sgt_history_text.specs.Line.{IsLine, IsOperation, end_word, kind_word, operation_json}
use Rattle.json.specs.Find.{at}
use Rattle.json.specs.Json.{no_items, item, value}
use Rattle.json.specs.Tree.{depth, json_tokens}
use Rattle.json.proofs.Printed.Trees.{value-json_tokens}
use Rattle.sgt_history_text.proofs.Trees.{read_back, same_tokens}
use Rattle.sgt_history_text.proofs.Parts.{same_items}
use Rattle.sgt_names.proofs.Lists.{heads, tails}
use Rattle.sgt_history_text.proofs.Solid.{elements}

-- ---- values of JSON

-- ---- operations

at_given : (i : Json) (k : Kind) (n : ℕ) (v : Option Json)
    → at 3 (operation_json (record { version = n; item = i; kind = k; value = v })) ≡ v
at_given i k n None = refl
at_given i k n (Some g) = refl

same_string : (s t : List ℕ) → string s ≡ string t → s ≡ t
same_string s t e = cc

r-or-w : ◌≡◌ {A = List ℕ} (114 ∷ []) (119 ∷ []) → ⊥
r-or-w e = omega (arith, heads 114 119 [] [] e)

same_kind : (k l : Kind) → string (kind_word k) ≡ string (kind_word l) → k ≡ l
same_kind Read Read e = refl
same_kind Read Write e = absurd (r-or-w (same_string (kind_word Read) (kind_word Write) e))
same_kind Write Read e = absurd (r-or-w (sym (same_string (kind_word Write) (kind_word Read) e)))
same_kind Write Write e = refl

same_end : (b c : Bool) → string (end_word b) ≡ string (end_word c) → b ≡ c
same_end true true e = refl
same_end true false e = absurd cc
same_end false true e = absurd cc
same_end false false e = refl

same_digits : (s t : List ℕ) → number s ≡ number t → s ≡ t
same_digits s t e = cc

same_parts : (v w : ℕ) (i j : Json) (k l : Kind) (a b : Option Json) → v ≡ w → i ≡ j → k ≡ l → a ≡ b
    → ◌≡◌ {A = Operation Json Json} (record { version = v; item = i; kind = k; value = a })
    (record { version = w; item = j; kind = l; value = b })
same_parts v w i j k l a b one two three four = rw (one, two, three, four) refl

same_operation : (o p : Operation Json Json) → IsOperation o → IsOperation p → operation_json o ≡ operation_json p
    → o ≡ p
same_operation o p is is' e =
    same_parts o.version p.version o.item p.item o.kind p.kind o.value p.value
    (decimal_injective o.version p.version is.version_fits is'.version_fits
    (same_digits (decimal o.version) (decimal p.version)
    (same_Some (number (decimal o.version)) (number (decimal p.version)) (ap (at 2) e))))
    (same_Some o.item p.item (ap (at 1) e))
    (same_kind o.kind p.kind (same_Some (string (kind_word o.kind)) (string (kind_word p.kind)) (ap (at 0) e)))
    (sym (at_given o.item o.kind o.version o.value) ∙ ap (at 3) e ∙ at_given p.item p.kind p.version p.value)

same_operations : (os ps : List (Operation Json Json)) → AllByRecursion IsOperation os → AllByRecursion IsOperation ps
    → map operation_json os ≡ map operation_json ps → os ≡ ps
same_operations [] [] is is' e = refl
same_operations [] (p ∷ ps) is is' e = absurd cc
same_operations (o ∷ os) [] is is' e = absurd cc
same_operations (o ∷ os) (p ∷ ps) is is' e =
    let first =
    same_operation o p is.0 is'.0 (heads (operation_json o) (operation_json p) (map operation_json os)
    (map operation_json ps) e) in
    let rest =
    same_operations os ps is.1 is'.1 (tails (operation_json o) (operation_json p) (map operation_json os)
    (map operation_json ps) e) in
    ap₂ (λ (x : Operation Json Json) (xs : List (Operation Json Json)). x ∷ xs) first rest

same_transaction : (b c : Bool) (os ps : List (Operation Json Json)) → b ≡ c → os ≡ ps
    → ◌≡◌ {A = Transaction Json Json} (record { commits = b; operations = os })
    (record { commits = c; operations = ps })
same_transaction b c os ps one two = rw (one, two) refl

pub line-one : (line : List ℕ) (id id' : Json) (t t' : Transaction Json Json) → IsLine line id t → IsLine line id' t'
    → (id ≡ id') × (t ≡ t')
line-one line id id' t t' a b =
    let same : object a.members ≡ object b.members =
    same_tokens (object a.members) (object b.members) (sym a.is_object.tokens_are ∙ b.is_object.tokens_are) in
    let end = same_Some (string (end_word t.commits)) (string (end_word t'.commits)) (sym a.end ∙ ap (get (codes "end")) same ∙ b.end) in
    let ops =
    same_Some (array (items_of (map operation_json t.operations)))
    (array (items_of (map operation_json t'.operations)))
    (sym a.ops ∙ ap (get (codes "ops")) same ∙ b.ops) in
    let items = same_items (map operation_json t.operations) (map operation_json t'.operations)
    (elements (items_of (map operation_json t.operations)) (items_of (map operation_json t'.operations)) ops) in (
      same_Some id id' (sym a.tx ∙ ap (get (codes "tx")) same ∙ b.tx),
      same_transaction t.commits t'.commits t.operations t'.operations (same_end t.commits t'.commits end)
          (same_operations t.operations t'.operations (recursion_from_All IsOperation t.operations a.each)
          (recursion_from_All IsOperation t'.operations b.each) items),
    )
