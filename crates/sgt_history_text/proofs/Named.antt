-- Histories whose items and values are numbered, and the same ones named.
use Rattle.std.proofs.Common.{◌≡◌, ℕ, ◌<◌, zero, suc, List, [], ◌∷◌, ◌++◌, map, length, slice_get, Option, Some, None, IfSome, refl, sym, ap, ap₂, ◌∙◌, subst}
use Rattle.std.proofs.lemmas.Option.{get_or_from_slice_get, same_Some, slice_get_within}
use Rattle.json.specs.Json.{Json, null}
use Rattle.sgt_names.proofs.Lists.{front_at}
use Rattle.sgt_names.proofs.Places.{Contains_at}
use Rattle.sgt_history.specs.Serial.{IsIn, KeepApart, StandOnce}
use Rattle.sgt_history.specs.Transaction.{Transaction, renamed, renamed_operation, renamed_value}
use Rattle.sgt_history.specs.declared.history.Operation.{Operation}
use Rattle.sgt_history_text.specs.Built.{NamesHistory, NamesOperation, NamesOperations, NamesValue}
use Rattle.sgt_history_text.specs.Reading.{IsWithin, nth}

-- ---- more names

pub value_more : (values more : List Json) (n : Option ℕ) (v : Option Json) → NamesValue values n v
    → NamesValue (values ++ more) n v
value_more values more None None h = tt
value_more values more None (Some j) h = absurd h
value_more values more (Some n) None h = absurd h
value_more values more (Some n) (Some j) h = front_at values more n j h

module _ (items values i v : List Json) where
  operation_more : (o : Operation ℕ ℕ) (p : Operation Json Json) → NamesOperation items values o p
      → NamesOperation (items ++ i) (values ++ v) o p
  operation_more o p h = record {
    version_is = h.version_is;
    kind_is = h.kind_is;
    item_is = front_at items i o.item p.item h.item_is;
    value_is = value_more values v o.value p.value h.value_is;
  }

  pub operations_more : (os : List (Operation ℕ ℕ)) (ps : List (Operation Json Json))
      → NamesOperations items values os ps
      → NamesOperations (items ++ i) (values ++ v) os ps
  operations_more [] [] h = tt
  operations_more [] (p ∷ ps) h = absurd h
  operations_more (o ∷ os) [] h = absurd h
  operations_more (o ∷ os) (p ∷ ps) h = (operation_more o p h.0, operations_more os ps h.1)

  pub history_more : (ts : List (Transaction ℕ ℕ)) (us : List (Transaction Json Json)) → NamesHistory items values ts us
      → NamesHistory (items ++ i) (values ++ v) ts us
  history_more [] [] h = tt
  history_more [] (u ∷ us) h = absurd h
  history_more (t ∷ ts) [] h = absurd h
  history_more (t ∷ ts) (u ∷ us) h = (h.0, operations_more t.operations u.operations h.1, history_more ts us h.2)

module _ (items values : List Json) where
  -- ---- one more at the end

  pub operations_push : (os : List (Operation ℕ ℕ)) (ps : List (Operation Json Json)) (o : Operation ℕ ℕ)
      (p : Operation Json Json)
      → NamesOperations items values os ps → NamesOperation items values o p
      → NamesOperations items values (os ++ o ∷ []) (ps ++ p ∷ [])
  operations_push [] [] o p h k = (k, tt)
  operations_push [] (q ∷ ps) o p h k = absurd h
  operations_push (n ∷ os) [] o p h k = absurd h
  operations_push (n ∷ os) (q ∷ ps) o p h k = (h.0, operations_push os ps o p h.1 k)

  pub history_push : (ts : List (Transaction ℕ ℕ)) (us : List (Transaction Json Json)) (t : Transaction ℕ ℕ)
      (u : Transaction Json Json)
      → NamesHistory items values ts us → t.commits ≡ u.commits → NamesOperations items values t.operations u.operations
      → NamesHistory items values (ts ++ t ∷ []) (us ++ u ∷ [])
  history_push [] [] t u h c k = (c, k, tt)
  history_push [] (w ∷ us) t u h c k = absurd h
  history_push (s ∷ ts) [] t u h c k = absurd h
  history_push (s ∷ ts) (w ∷ us) t u h c k = (h.0, h.1, history_push ts us t u h.2 c k)

  pub history_length : (ts : List (Transaction ℕ ℕ)) (us : List (Transaction Json Json))
      → NamesHistory items values ts us → length ts ≡ length us
  history_length [] [] h = refl
  history_length [] (u ∷ us) h = absurd h
  history_length (t ∷ ts) [] h = absurd h
  history_length (t ∷ ts) (u ∷ us) h = ap suc (history_length ts us h.2)

  -- ---- the named one is the numbered one, renamed

  renamed_value-is : (n : Option ℕ) (v : Option Json) → NamesValue values n v → v ≡ renamed_value (nth values) n
  renamed_value-is None None h = refl
  renamed_value-is None (Some j) h = absurd h
  renamed_value-is (Some n) None h = absurd h
  renamed_value-is (Some n) (Some j) h = ap Some (sym (get_or_from_slice_get values n j null h))

  renamed_operation-is : (o : Operation ℕ ℕ) (p : Operation Json Json) → NamesOperation items values o p
      → p ≡ renamed_operation (nth items) (nth values) o
  renamed_operation-is o p h =
      let item : p.item ≡ nth items o.item = sym (get_or_from_slice_get items o.item p.item null h.item_is) in
      let value = renamed_value-is o.value p.value h.value_is in
      ap (λ n. record { version = n; item = p.item; kind = p.kind; value = p.value }) (sym h.version_is)
      ∙ ap (λ i. record { version = o.version; item = i; kind = p.kind; value = p.value }) item
      ∙ ap (λ k. record { version = o.version; item = nth items o.item; kind = k; value = p.value }) (sym h.kind_is)
      ∙ ap (λ v. record { version = o.version; item = nth items o.item; kind = o.kind; value = v }) value

  renamed_operations-are : (os : List (Operation ℕ ℕ)) (ps : List (Operation Json Json))
      → NamesOperations items values os ps
      → ps ≡ map (renamed_operation (nth items) (nth values)) os
  renamed_operations-are [] [] h = refl
  renamed_operations-are [] (p ∷ ps) h = absurd h
  renamed_operations-are (o ∷ os) [] h = absurd h
  renamed_operations-are (o ∷ os) (p ∷ ps) h =
      ap₂ (λ x xs. x ∷ xs) (renamed_operation-is o p h.0) (renamed_operations-are os ps h.1)

  renamed_transaction-is : (t : Transaction ℕ ℕ) (u : Transaction Json Json) → t.commits ≡ u.commits
      → NamesOperations items values t.operations u.operations
      → u ≡ renamed (nth items) (nth values) t
  renamed_transaction-is t u c h =
      ap₂ (λ b os. record { commits = b; operations = os }) (sym c) (renamed_operations-are t.operations u.operations h)

  pub renamed_history-is : (ts : List (Transaction ℕ ℕ)) (us : List (Transaction Json Json))
      → NamesHistory items values ts us
      → us ≡ map (renamed (nth items) (nth values)) ts
  renamed_history-is [] [] h = refl
  renamed_history-is [] (u ∷ us) h = absurd h
  renamed_history-is (t ∷ ts) [] h = absurd h
  renamed_history-is (t ∷ ts) (u ∷ us) h =
      ap₂ (λ x xs. x ∷ xs) (renamed_transaction-is t u h.0 h.1) (renamed_history-is ts us h.2)

  -- ---- each operation has its names

  named_at : (os : List (Operation ℕ ℕ)) (ps : List (Operation Json Json)) (n : ℕ) (o : Operation ℕ ℕ)
      → NamesOperations items values os ps
      → slice_get os n ≡ Some o → (p : Operation Json Json) × NamesOperation items values o p
  named_at [] ps n o h e = absurd cc
  named_at (q ∷ os) [] n o h e = absurd h
  named_at (q ∷ os) (p ∷ ps) zero o h e = (p, subst (λ k. NamesOperation items values k p) (same_Some q o e) h.0)
  named_at (q ∷ os) (p ∷ ps) (suc n) o h e = named_at os ps n o h.1 e

  transaction_at : (ts : List (Transaction ℕ ℕ)) (us : List (Transaction Json Json)) (n : ℕ) (t : Transaction ℕ ℕ)
      → NamesHistory items values ts us
      → slice_get ts n ≡ Some t → (ps : List (Operation Json Json)) × NamesOperations items values t.operations ps
  transaction_at [] us n t h e = absurd cc
  transaction_at (s ∷ ts) [] n t h e = absurd h
  transaction_at (s ∷ ts) (u ∷ us) zero t h e = (
    u.operations,
    subst (λ k. NamesOperations items values k u.operations) (ap (λ k. k.operations) (same_Some s t e)) h.1,
  )
  transaction_at (s ∷ ts) (u ∷ us) (suc n) t h e = transaction_at ts us n t h.2 e

  named_in : (ts : List (Transaction ℕ ℕ)) (us : List (Transaction Json Json)) (o : Operation ℕ ℕ)
      → NamesHistory items values ts us → IsIn ts o
      → (p : Operation Json Json) × NamesOperation items values o p
  named_in ts us o h (line, t, there, inside) =
      let ps = transaction_at ts us line t h there in
      let at = Contains_at t.operations o inside in
      named_at t.operations ps.0 at.0 o ps.1 at.1

  value_named : (n : ℕ) (given : Option ℕ) (v : Option Json) → NamesValue values given v → given ≡ Some n
      → slice_get values n ≡ Some (nth values n)
  value_named n None v h e = absurd cc
  value_named n (Some m) None h e = absurd h
  value_named n (Some m) (Some j) h e =
      let there : slice_get values n ≡ Some j = ap (slice_get values) (sym (same_Some m n e)) ∙ h in
      there ∙ ap Some (sym (get_or_from_slice_get values n j null there))

  item_named : (o : Operation ℕ ℕ) (p : Operation Json Json) → NamesOperation items values o p
      → slice_get items o.item ≡ Some (nth items o.item)
  item_named o p h = h.item_is ∙ ap Some (sym (get_or_from_slice_get items o.item p.item null h.item_is))

  pub kept_apart : (ts : List (Transaction ℕ ℕ)) (us : List (Transaction Json Json)) → NamesHistory items values ts us
      → StandOnce items → StandOnce values
      → KeepApart (nth items) (nth values) ts
  kept_apart ts us h once_item once_value = record {
    items = λ o p in_o in_p e.
        let a = named_in ts us o h in_o in
        let b = named_in ts us p h in_p in
        once_item o.item p.item (nth items p.item) (item_named o a.0 a.1 ∙ ap Some e) (item_named p b.0 b.1);
    values = λ o p v w in_o in_p ev ew e.
        let a = named_in ts us o h in_o in
        let b = named_in ts us p h in_p in
        once_value v w (nth values w) (value_named v o.value a.0.value a.1.value_is ev
        ∙ ap Some e) (value_named w p.value b.0.value b.1.value_is ew);
  }

  -- ---- and numbers of names

  value_within : (given : Option ℕ) (v : Option Json) → NamesValue values given v
      → IfSome given (λ n. n < length values)
  value_within None v h = tt
  value_within (Some n) None h = absurd h
  value_within (Some n) (Some j) h = slice_get_within values n j h

  pub operation_within : (o : Operation ℕ ℕ) (p : Operation Json Json) → NamesOperation items values o p
      → IsWithin (length items) (length values) o
  operation_within o p h = record {
    item = slice_get_within items o.item p.item h.item_is;
    value = value_within o.value p.value h.value_is;
  }
