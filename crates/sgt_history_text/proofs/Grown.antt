-- What is kept of the lines, with one operation more, one line more.
use Rattle.std.proofs.Common.{◌≡◌, ℕ, Bool, List, [], ◌∷◌, ◌++◌, Option, Some, None, refl, sym, subst}
use Rattle.std.proofs.lemmas.List.{append-nil}
use Rattle.json.specs.Json.{Json}
use Rattle.json.specs.Tree.{HasNumbers}
use Rattle.sgt_history.specs.History.{closed_of, open_of}
use Rattle.sgt_history.specs.Transaction.{Transaction}
use Rattle.sgt_history.specs.declared.history.Operation.{Operation}
use Rattle.sgt_history_text.specs.Built.{AreKept, IsBuilt, IsNumberedOperation, IsNumberedValue, NamesHistory, NamesOperation, NamesOperations, NamesValue}
use Rattle.sgt_history_text.specs.Name.{compact}
use Rattle.sgt_history_text.specs.Table.{IsNew}
use Rattle.sgt_history_text.specs.declared.building.Builder.{Builder}
use Rattle.sgt_history_text.proofs.Kept.{kept_push}
use Rattle.sgt_history_text.proofs.Named.{history_more, history_push, operations_more, operations_push}

-- the values that are kept then, and the number's among them
pub record ValueNamed (old : List Json) (v : Option Json) (texts : List (List ℕ)) (n : Option ℕ) : Type 0 where
  pub more : List Json
  pub kept : AreKept texts (old ++ more)
  pub named : NamesValue (old ++ more) n v

pub value_named : (old : List Json) (v : Option Json) (texts : List (List ℕ)) (n : Option ℕ)
    → IsNumberedValue old v texts n → ValueNamed old v texts n
value_named old None texts None h = record {
  more = [];
  kept = subst (λ l. AreKept texts l) (sym (append-nil old)) h;
  named = tt;
}
value_named old None texts (Some n) h = absurd h
value_named old (Some j) texts None h = absurd h
value_named old (Some j) texts (Some n) h = record { more = h.more; kept = h.kept; named = h.there }

module _ (b b' : Builder) (ids : List Json) (h : List (Transaction Json Json)) (begun : List (Operation Json Json))
    (built : IsBuilt b ids h begun) where
  -- one operation more
  pub built_operation : (o : Operation ℕ ℕ) (p : Operation Json Json)
      → IsNumberedOperation built.items built.values p b'.items b'.values o
      → b'.ids ≡ b.ids → closed_of b'.history ≡ closed_of b.history → open_of b'.history ≡ open_of b.history ++ o ∷ []
      → IsBuilt b' ids h (begun ++ p ∷ [])
  built_operation o p n same_ids same_closed more_open =
      let item = n.item_is in
      let value = value_named built.values p.value b'.values o.value n.value_is in
      let items = built.items ++ item.more in
      let values = built.values ++ value.more in
      let named : NamesOperation items values o p = record {
        version_is = n.version_is;
        kind_is = n.kind_is;
        item_is =
            item.there;
        value_is = value.named;
      } in
      let opened = operations_push items values (open_of b.history) begun o p
      (operations_more built.items built.values item.more value.more (open_of b.history) begun built.opened) named in
      record {
        items = items;
        values = values;
        ids_kept = subst (λ t. AreKept t ids) (sym same_ids) built.ids_kept;
        items_kept = item.kept;
        values_kept = value.kept;
        closed = subst (λ c. NamesHistory items values c h) (sym same_closed)
            (history_more built.items built.values item.more value.more (closed_of b.history) h built.closed);
        opened = subst (λ os. NamesOperations items values os (begun ++ p ∷ [])) (sym more_open) opened;
      }

  -- the line's end
  pub built_line : (id : Json) (commits : Bool) → HasNumbers id → IsNew b.ids (compact id)
      → b'.ids ≡ b.ids ++ compact id ∷ []
      → b'.items ≡ b.items → b'.values ≡ b.values
      → closed_of b'.history ≡ closed_of b.history ++ record { commits = commits; operations = open_of b.history } ∷ []
      → open_of b'.history ≡ []
      → IsBuilt b' (ids ++ id ∷ []) (h ++ record { commits = commits; operations = begun } ∷ []) []
  built_line id commits numbers fresh more_ids same_items same_values more_closed none_open = record {
    items = built.items;
    values = built.values;
    ids_kept =
        subst (λ t. AreKept t (ids ++ id ∷ [])) (sym more_ids) (kept_push b.ids ids id built.ids_kept numbers fresh);
    items_kept = subst (λ t. AreKept t built.items) (sym same_items) built.items_kept;
    values_kept = subst (λ t. AreKept t built.values) (sym same_values) built.values_kept;
    closed = subst (λ c. NamesHistory built.items built.values c (h ++ record {
      commits = commits;
      operations =
          begun;
    } ∷ [])) (sym more_closed)
        (history_push built.items built.values (closed_of b.history) h (record {
          commits = commits;
          operations =
              open_of b.history;
        }) (record { commits = commits; operations = begun })
        built.closed refl built.opened);
    opened = subst (λ os. NamesOperations built.items built.values os []) (sym none_open) tt;
  }

  -- what was begun is let go
  pub built_forgotten : b'.ids ≡ b.ids → b'.items ≡ b.items → b'.values ≡ b.values
      → closed_of b'.history ≡ closed_of b.history → open_of b'.history ≡ [] → IsBuilt b' ids h []
  built_forgotten same_ids same_items same_values same_closed none_open = record {
    items = built.items;
    values = built.values;
    ids_kept = subst (λ t. AreKept t ids) (sym same_ids) built.ids_kept;
    items_kept = subst (λ t. AreKept t built.items) (sym same_items) built.items_kept;
    values_kept = subst (λ t. AreKept t built.values) (sym same_values) built.values_kept;
    closed = subst (λ c. NamesHistory built.items built.values c h) (sym same_closed) built.closed;
    opened = subst (λ os. NamesOperations built.items built.values os []) (sym none_open) tt;
  }
