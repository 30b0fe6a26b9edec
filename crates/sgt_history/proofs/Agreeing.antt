-- Where no line has a fault, no version is written by two transactions, and the values that are given in an order of
-- all committed transactions agree.
use Rattle.std.proofs.Common.{◌≡◌, ◌≢◌, ℕ, ◌<◌, List, Some, sym, ap, ◌∙◌, subst, inl, inr, ◌⊎◌}
use Rattle.std.specs.Prelude.{slice_get}
use Rattle.std.proofs.lemmas.Bool.{cases_eq, cases_order}
use Rattle.std.proofs.lemmas.Option.{same_Some}
use Rattle.sgt_names.proofs.Places.{Contains_at}
use Rattle.sgt_history.specs.declared.history.Operation.{Operation}
use Rattle.sgt_history.specs.declared.named.Flaw.TheVariants.{Duplicate, Value}
use Rattle.sgt_history.specs.Transaction.{Transaction}
use Rattle.sgt_history.specs.Serial.{IsOrder, ValuesAgree, run_of}
use Rattle.sgt_history.specs.Conflicts.{Writes}
use Rattle.sgt_history.specs.Flaws.{IsFaultless}
use Rattle.sgt_history.proofs.Runs.{one_at}
use Rattle.sgt_history.proofs.Excluded.{IsRun, in_order}

pub one_transaction : (h : List (Transaction ℕ ℕ)) (line : ℕ) (t u : Transaction ℕ ℕ) → slice_get h line ≡ Some t
    → slice_get h line ≡ Some u → t ≡ u
one_transaction h line t u a b = same_Some t u (sym a ∙ b)

module _ (h : List (Transaction ℕ ℕ)) (faultless : IsFaultless h) where
  -- no version is written by two
  pub one_writer : (l m x v : ℕ) → Writes h l x v → Writes h m x v → l ≡ m
  one_writer l m x v a b =
      elim (cases_order l m) [
        | inl e ↦ e
        | inr (inl lt) ↦ absurd (again l m a b lt)
        | inr (inr gt) ↦ absurd (again m l b a gt)
      ]
    where
      again : (l m : ℕ) → Writes h l x v → Writes h m x v → l < m → ⊥
      again l m a b lt = faultless m Duplicate b.place (record {
        t = b.t;
        o = b.o;
        is = b.is;
        has = (
          b.writes.write,
          l,
          lt,
          subst (Writes h l b.o.item) (sym b.version_is) (subst (λ y. Writes h l y v) (sym b.writes.item) a),
        );
      })

module _ (h : List (Transaction ℕ ℕ)) (faultless : IsFaultless h) (order : List ℕ) (ordered : IsOrder h order) where
  value-fault : (p q : ℕ) (o w : Operation ℕ ℕ) → (a : IsRun h order p o) → (b : IsRun h order q w)
      → (a.found.line < b.found.line) ⊎ ((a.found.line ≡ b.found.line) × (a.found.j < b.found.j))
      → o.item ≡ w.item → o.version ≡ w.version → (u v : ℕ) → o.value ≡ Some u → w.value ≡ Some v → u ≢ v → ⊥
  value-fault p q o w a b before item version u v given given' apart =
      faultless b.found.line Value b.found.j (record {
        t = b.found.t;
        o = w;
        is = b.is;
        has = record {
          value = v;
          given = given';
          line_of = a.found.line;
          place_of = a.found.j;
          t = a.found.t;
          other = o;
          is = a.is;
          before = before;
          item_is = item;
          version_is = version;
          value_of = u;
          given_of = given;
          apart = λ e. apart (sym e);
        };
      })

  pub values_agree : ValuesAgree (run_of h order)
  values_agree o w in_o in_w item version u v given given' =
      let at = Contains_at (run_of h order) o in_o in
      let at' = Contains_at (run_of h order) w in_w in
      let a = in_order h order ordered at.0 o at.1 in
      let b = in_order h order ordered at'.0 w at'.1 in
      elim (cases_eq u v) [
        | inl e ↦ e
        | inr apart ↦ absurd (elim (cases_order a.found.line b.found.line) [
          | inl line ↦
              let same = one_transaction h b.found.line a.found.t b.found.t (ap (slice_get h) (sym line)
              ∙ a.is.committed.0) b.is.committed.0 in
              elim (cases_order a.found.j b.found.j) [
                | inl j ↦
                    let here = ap (λ (t : Transaction ℕ ℕ). slice_get t.operations a.found.j) (sym same) ∙ a.is.there in
                    let one = one_at b.found.t.operations a.found.j b.found.j o w j here b.is.there in
                    apart (same_Some u v (sym given ∙ ap (λ (x : Operation ℕ ℕ). x.value) one ∙ given'))
                | inr (inl lt) ↦ value-fault at.0 at'.0 o w a b (inr (line, lt)) item version u v given given' apart
                | inr (inr gt) ↦ value-fault at'.0 at.0 w o b a (inr (sym line, gt)) (sym item)
                    (sym version) v u given' given (λ e. apart (sym e))
              ]
          | inr (inl lt) ↦ value-fault at.0 at'.0 o w a b (inl lt) item version u v given given' apart
          | inr (inr gt) ↦ value-fault at'.0 at.0 w o b a (inl gt) (sym item) (sym version) v u given' given
              (λ e. apart (sym e))
        ])
      ]
