-- Other names that keep items and values apart change nothing of what serves.
use Rattle.std.proofs.Common.{◌≡◌, ℕ, zero, suc, ◌+◌, ◌<◌, ◌≤◌, true, List, [], ◌∷◌, ◌++◌, Some, None, Option, refl, sym, ap, ◌∙◌, subst, arith, inl, inr, map, ◌⊎◌}
use Rattle.std.specs.Prelude.{slice_get, Contains, option_map}
use Rattle.std.proofs.lemmas.Option.{same_Some, slice_get-map}
use Rattle.sgt_names.proofs.Lists.{option_cases, map_at}
use Rattle.sgt_names.proofs.Places.{Contains_at, Contains-from_at}
use Rattle.sgt_history.specs.declared.history.Operation.{Operation}
use Rattle.sgt_history.specs.Transaction.{Transaction, renamed_value, renamed_operation, renamed}
use Rattle.sgt_history.specs.Serial.{IsCommitted, IsOrder, operations_in, run_of, IsWriteOf, NoneWrites, IsLastWritten, Has, Follows, RunsRight, ValuesAgree, Serves, IsSerializable, IsIn, KeepApart}
use Rattle.sgt_history.proofs.Placed.{IsFound, found_in_run}
use Rattle.sgt_names.proofs.Elements.{get-mapped}

map_append : {A B : Type 0} (f : A → B) (xs ys : List A) → map f (xs ++ ys) ≡ map f xs ++ map f ys
map_append f [] ys = refl
map_append f (x ∷ xs) ys = ap (λ zs. f x ∷ zs) (map_append f xs ys)

pub value_of : {V W : Type 0} (g : V → W) (o : Option V) (w : W) → renamed_value g o ≡ Some w
    → (v : V) × (o ≡ Some v) × (g v ≡ w)
value_of g None w e = absurd (cc (e))
value_of g (Some v) w e = (v, refl, same_Some (g v) w e)

module _ {I J V W : Type 0} (f : I → J) (g : V → W) (h : List (Transaction I V)) (apart : KeepApart f g h) where
  operations-renamed : (o : Option (Transaction I V))
      → operations_in (option_map (renamed f g) o) ≡ map (renamed_operation f g) (operations_in o)
  operations-renamed None = refl
  operations-renamed (Some t) = refl

  pub run-renamed : (order : List ℕ) → run_of (map (renamed f g) h) order ≡ map (renamed_operation f g) (run_of h order)
  run-renamed [] = refl
  run-renamed (l ∷ ls) =
      let first = ap operations_in (slice_get-map (renamed f g) h l) ∙ operations-renamed (slice_get h l) in
      rw (first, run-renamed ls)
      (sym (map_append (renamed_operation f g) (operations_in (slice_get h l)) (run_of h ls)))

  -- what stands in a run is in the history
  in_history : (order : List ℕ) (p : ℕ) (o : Operation I V) → slice_get (run_of h order) p ≡ Some o → IsIn h o
  in_history order p o e =
      let at = found_in_run h order p o e in
      (at.line, at.t, at.placed.in_line, Contains-from_at at.t.operations at.j o at.placed.there)

  write-on : (o : Operation I V) (x : I) → IsWriteOf o x → IsWriteOf (renamed_operation f g o) (f x)
  write-on o x w = record { write = w.write; item = ap f w.item }

  module _ (order : List ℕ) where
    write-back : (p q : ℕ) (o u : Operation I V) → slice_get (run_of h order) p ≡ Some o
        → slice_get (run_of h order) q ≡ Some u
        → IsWriteOf (renamed_operation f g o) (f u.item) → IsWriteOf o u.item
    write-back p q o u e e' w = record {
      write = w.write;
      item = apart.items o u (in_history order p o e) (in_history order q u e') w.item;
    }

    pub has-on : (p q v : ℕ) (u : Operation I V) → slice_get (run_of h order) q ≡ Some u
        → Has (run_of h order) p u.item v
        → Has (map (renamed_operation f g) (run_of h order)) p (f u.item) v
    has-on p q v u e (inl a) = inl (record {
      last = a.last;
      o = renamed_operation f g a.o;
      before = a.before;
      there = get-mapped (renamed_operation f g) (run_of h order) a.last a.o a.there;
      writes = write-on a.o u.item a.writes;
      version_is = a.version_is;
      none = λ r w above below at writes.
          let old = map_at (renamed_operation f g) (run_of h order) r w at in
          a.none r old.0 above below old.1
          (write-back r q old.0 u old.1 e (subst (λ k. IsWriteOf k (f u.item)) (sym old.2) writes));
    })
    has-on p q v u e (inr b) = inr (
      b.0,
      λ r w above below at writes.
          let old = map_at (renamed_operation f g) (run_of h order) r w at in
          b.1 r old.0 above below old.1
          (write-back r q old.0 u old.1 e (subst (λ k. IsWriteOf k (f u.item)) (sym old.2) writes)),
    )

    pub has-back : (p q v : ℕ) (u : Operation I V) → slice_get (run_of h order) q ≡ Some u
        → Has (map (renamed_operation f g) (run_of h order)) p (f u.item) v → Has (run_of h order) p u.item v
    has-back p q v u e (inl a) =
        let old = map_at (renamed_operation f g) (run_of h order) a.last a.o a.there in
        inl (record {
          last = a.last;
          o = old.0;
          before = a.before;
          there = old.1;
          writes = write-back a.last q old.0 u old.1 e (subst (λ k. IsWriteOf k (f u.item)) (sym old.2) a.writes);
          version_is = ap (λ k. k.version) old.2 ∙ a.version_is;
          none = λ r w above below at writes.
              a.none r (renamed_operation f g w) above below
              (get-mapped (renamed_operation f g) (run_of h order) r w at) (write-on w u.item writes);
        })
    has-back p q v u e (inr b) = inr (
      b.0,
      λ r w above below at writes.
          b.1 r (renamed_operation f g w) above below
          (get-mapped (renamed_operation f g) (run_of h order) r w at) (write-on w u.item writes),
    )

    right-on : RunsRight (run_of h order) → RunsRight (map (renamed_operation f g) (run_of h order))
    right-on right p w at =
        let old = map_at (renamed_operation f g) (run_of h order) p w at in
        let follows = right p old.0 old.1 in
        subst (λ k. Follows (map (renamed_operation f g) (run_of h order)) p k) old.2 (record {
          read = λ e. has-on p p old.0.version old.0 old.1 (follows.read e);
          write = λ e. let b = follows.write e in (b.0, has-on p p b.0 old.0 old.1 b.1, b.2);
        })

    right-back : RunsRight (map (renamed_operation f g) (run_of h order)) → RunsRight (run_of h order)
    right-back right p o at =
        let follows = right p (renamed_operation f g o) (get-mapped (renamed_operation f g) (run_of h order) p o at) in
        record {
          read = λ e. has-back p p o.version o at (follows.read e);
          write = λ e. let b = follows.write e in (b.0, has-back p p b.0 o at b.1, b.2);
        }

    values-on : ValuesAgree (run_of h order) → ValuesAgree (map (renamed_operation f g) (run_of h order))
    values-on agree o u in_o in_u item version v w given given' =
        let at = Contains_at (map (renamed_operation f g) (run_of h order)) o in_o in
        let at' = Contains_at (map (renamed_operation f g) (run_of h order)) u in_u in
        let old = map_at (renamed_operation f g) (run_of h order) at.0 o at.1 in
        let old' = map_at (renamed_operation f g) (run_of h order) at'.0 u at'.1 in
        let one = value_of g old.0.value v (ap (λ k. k.value) old.2 ∙ given) in
        let two = value_of g old'.0.value w (ap (λ k. k.value) old'.2 ∙ given') in
        let items = apart.items old.0 old'.0 (in_history order at.0 old.0 old.1) (in_history order at'.0 old'.0 old'.1)
        (ap (λ k. k.item) old.2 ∙ item ∙ sym (ap (λ k. k.item) old'.2)) in
        let same =
        agree old.0 old'.0 (Contains-from_at (run_of h order) at.0 old.0 old.1)
        (Contains-from_at (run_of h order) at'.0 old'.0 old'.1)
        items (ap (λ k. k.version) old.2 ∙ version ∙ sym (ap (λ k. k.version) old'.2)) one.0 two.0 one.1 two.1 in
        sym one.2 ∙ ap g same ∙ two.2

    values-back : ValuesAgree (map (renamed_operation f g) (run_of h order)) → ValuesAgree (run_of h order)
    values-back agree o u in_o in_u item version v w given given' =
        let at = Contains_at (run_of h order) o in_o in
        let at' = Contains_at (run_of h order) u in_u in
        let new = Contains-from_at (map (renamed_operation f g) (run_of h order)) at.0 (renamed_operation f g o)
        (get-mapped (renamed_operation f g) (run_of h order) at.0 o at.1) in
        let new' = Contains-from_at (map (renamed_operation f g) (run_of h order)) at'.0 (renamed_operation f g u)
        (get-mapped (renamed_operation f g) (run_of h order) at'.0 u at'.1) in
        let same = agree (renamed_operation f g o) (renamed_operation f g u) new new' (ap f item) version (g v) (g w)
        (ap (renamed_value g) given) (ap (renamed_value g) given') in
        apart.values o u v w (in_history order at.0 o at.1) (in_history order at'.0 u at'.1) given given' same

    pub order-on : IsOrder h order → IsOrder (map (renamed f g) h) order
    order-on ordered = record {
      committed = λ line there.
          let c = ordered.committed line there in
          (renamed f g c.0, (get-mapped (renamed f g) h line c.0 c.1.0, c.1.1));
      all = λ line t c.
          let old = map_at (renamed f g) h line t c.0 in
          ordered.all line old.0 (old.1, ap (λ k. k.commits) old.2 ∙ c.1);
      once = ordered.once;
    }

    order-back : IsOrder (map (renamed f g) h) order → IsOrder h order
    order-back ordered = record {
      committed = λ line there.
          let c = ordered.committed line there in
          let old = map_at (renamed f g) h line c.0 c.1.0 in
          (old.0, (old.1, ap (λ k. k.commits) old.2 ∙ c.1.1));
      all = λ line t c. ordered.all line (renamed f g t) (get-mapped (renamed f g) h line t c.0, c.1);
      once = ordered.once;
    }

    pub serves-on : Serves h order → Serves (map (renamed f g) h) order
    serves-on s = record {
      ordered = order-on s.ordered;
      right = subst RunsRight (sym (run-renamed order)) (right-on s.right);
      values = subst ValuesAgree (sym (run-renamed order)) (values-on s.values);
    }

    pub serves-back : Serves (map (renamed f g) h) order → Serves h order
    serves-back s = record {
      ordered = order-back s.ordered;
      right = right-back (subst RunsRight (run-renamed order) s.right);
      values = values-back (subst ValuesAgree (run-renamed order) s.values);
    }

  pub serializable-on : IsSerializable h → IsSerializable (map (renamed f g) h)
  serializable-on (order, s) = (order, serves-on order s)

  pub serializable-back : IsSerializable (map (renamed f g) h) → IsSerializable h
  serializable-back (order, s) = (order, serves-back order s)
