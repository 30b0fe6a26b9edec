-- Writes, reads and conflicts of a history whose items and values have other names.
use Rattle.std.proofs.Common.{◌≡◌, ◌≢◌, ℕ, suc, ◌<◌, ◌≤◌, List, [], ◌∷◌, ◌++◌, Some, None, Option, refl, sym, ap, ◌∙◌, subst, map}
use Rattle.std.specs.Prelude.{slice_get, option_map}
use Rattle.std.proofs.lemmas.Option.{same_Some, slice_get-map}
use Rattle.sgt_names.proofs.Lists.{map_at}
use Rattle.sgt_names.proofs.Places.{Contains-from_at}
use Rattle.sgt_history.specs.declared.history.Operation.{Operation}
use Rattle.sgt_history.specs.declared.named.Conflict.{Conflict}
use Rattle.sgt_history.specs.declared.named.Conflict.TheVariants.{WriteWrite, WriteRead, ReadWrite}
use Rattle.sgt_history.specs.declared.named.Graph.{Graph}
use Rattle.sgt_history.specs.Transaction.{Transaction, renamed_value, renamed_operation, renamed}
use Rattle.sgt_history.specs.Serial.{IsCommitted, IsWriteOf, NoneWrites, IsLastWritten, IsIn, KeepApart}
use Rattle.sgt_history.specs.Conflicts.{IsOperation, Writes, Reads, IsNext, HaveConflict, IsAmong, ConflictIn, IsChain, IsCycle, HasCycle}
use Rattle.sgt_names.proofs.Elements.{get-mapped}
use Rattle.sgt_history.proofs.Renaming.{value_of}

module _ {I J V W : Type 0} (f : I → J) (g : V → W) (h : List (Transaction I V)) (apart : KeepApart f g h) where
  -- some operation of the history has this item
  abbrev pub Occurs : I → Type 0
  Occurs x = (u : Operation I V) × IsIn h u × (u.item ≡ x)

  -- ---- operations

  pub in_it : (line place : ℕ) (t : Transaction I V) (o : Operation I V) → slice_get h line ≡ Some t
      → slice_get t.operations place ≡ Some o → IsIn h o
  in_it line place t o at there = (line, t, at, Contains-from_at t.operations place o there)

  pub occurs : (line place : ℕ) (t : Transaction I V) (o : Operation I V) → slice_get h line ≡ Some t
      → slice_get t.operations place ≡ Some o → Occurs o.item
  occurs line place t o at there = (o, in_it line place t o at there, refl)

  pub committed-on : (line : ℕ) (t : Transaction I V) → IsCommitted h line t
      → IsCommitted (map (renamed f g) h) line (renamed f g t)
  committed-on line t c = (get-mapped (renamed f g) h line t c.0, c.1)

  pub record Before (line : ℕ) (t' : Transaction J W) : Type 0 where
    pub t : Transaction I V
    pub at : slice_get h line ≡ Some t
    pub is : renamed f g t ≡ t'

  pub line-back : (line : ℕ) (t' : Transaction J W) → slice_get (map (renamed f g) h) line ≡ Some t' → Before line t'
  line-back line t' e = let old = map_at (renamed f g) h line t' e in record { t = old.0; at = old.1; is = old.2 }

  pub operation-on : (line place : ℕ) (t : Transaction I V) (o : Operation I V) → IsOperation h line place t o
      → IsOperation (map (renamed f g) h) line place (renamed f g t) (renamed_operation f g o)
  operation-on line place t o is = record {
    committed = committed-on line t is.committed;
    there = get-mapped (renamed_operation f g) t.operations place o is.there;
  }

  pub record Was (line place : ℕ) (t' : Transaction J W) (o' : Operation J W) : Type 0 where
    pub t : Transaction I V
    pub o : Operation I V
    pub is : IsOperation h line place t o
    pub t_is : renamed f g t ≡ t'
    pub o_is : renamed_operation f g o ≡ o'

  pub operation-back : (line place : ℕ) (t' : Transaction J W) (o' : Operation J W)
      → IsOperation (map (renamed f g) h) line place t' o'
      → Was line place t' o'
  operation-back line place t' o' is =
      let old = line-back line t' is.committed.0 in
      let one = map_at (renamed_operation f g) old.t.operations place o'
      (subst (λ (k : Transaction J W). slice_get k.operations place ≡ Some o') (sym old.is) is.there) in
      record {
        t = old.t;
        o = one.0;
        is = record {
          committed = (old.at, ap (λ (k : Transaction J W). k.commits) old.is ∙ is.committed.1);
          there =
              one.1;
        };
        t_is = old.is;
        o_is = one.2;
      }

  -- ---- writes

  pub write-on : (o : Operation I V) (x : I) → IsWriteOf o x → IsWriteOf (renamed_operation f g o) (f x)
  write-on o x w = record { write = w.write; item = ap f w.item }

  pub write-back : (o : Operation I V) (x : I) → IsIn h o → Occurs x → IsWriteOf (renamed_operation f g o) (f x)
      → IsWriteOf o x
  write-back o x there (u, in_u, is) w = record {
    write = w.write;
    item = apart.items o u there in_u (w.item ∙ sym (ap f is)) ∙ is;
  }

  pub none-on : (line : ℕ) (t : Transaction I V) (x : I) (a b : ℕ) → slice_get h line ≡ Some t → Occurs x
      → NoneWrites t.operations a b x
      → NoneWrites (renamed f g t).operations a b (f x)
  none-on line t x a b at oc none place o' low high there writes =
      let old = map_at (renamed_operation f g) t.operations place o' there in
      none place old.0 low high old.1
      (write-back old.0 x (in_it line place t old.0 at old.1) oc
      (subst (λ (k : Operation J W). IsWriteOf k (f x)) (sym old.2) writes))

  pub none-back : (t : Transaction I V) (x : I) (a b : ℕ) → NoneWrites (renamed f g t).operations a b (f x)
      → NoneWrites t.operations a b x
  none-back t x a b none place o low high there writes =
      none place (renamed_operation f g o) low high (get-mapped (renamed_operation f g) t.operations place o there)
      (write-on o x writes)

  pub last-on : (line : ℕ) (t : Transaction I V) (place : ℕ) (x : I) (v : ℕ) → slice_get h line ≡ Some t → Occurs x
      → IsLastWritten t.operations place x v
      → IsLastWritten (renamed f g t).operations place (f x) v
  last-on line t place x v at oc own = record {
    last = own.last;
    o = renamed_operation f g own.o;
    before = own.before;
    there = get-mapped (renamed_operation f g) t.operations own.last own.o own.there;
    writes = write-on own.o x own.writes;
    version_is = own.version_is;
    none = none-on line t x (suc own.last) place at oc own.none;
  }

  pub last-back : (line : ℕ) (t : Transaction I V) (place : ℕ) (x : I) (v : ℕ) → slice_get h line ≡ Some t → Occurs x
      → IsLastWritten (renamed f g t).operations place (f x) v → IsLastWritten t.operations place x v
  last-back line t place x v at oc own =
      let old = map_at (renamed_operation f g) t.operations own.last own.o own.there in
      record {
        last = own.last;
        o = old.0;
        before = own.before;
        there = old.1;
        writes = write-back old.0 x (in_it line own.last t old.0 at old.1) oc
            (subst (λ (k : Operation J W). IsWriteOf k (f x)) (sym old.2) own.writes);
        version_is = ap (λ (k : Operation J W). k.version) old.2 ∙ own.version_is;
        none = none-back t x (suc own.last) place own.none;
      }

  pub writes-on : (line : ℕ) (x : I) (v : ℕ) → Writes h line x v → Writes (map (renamed f g) h) line (f x) v
  writes-on line x v w = record {
    place = w.place;
    t = renamed f g w.t;
    o = renamed_operation f g w.o;
    is = operation-on line w.place w.t w.o w.is;
    writes = write-on w.o x w.writes;
    version_is = w.version_is;
  }

  pub writes-back : (line : ℕ) (x : I) (v : ℕ) → Occurs x → Writes (map (renamed f g) h) line (f x) v
      → Writes h line x v
  writes-back line x v oc w =
      let old = operation-back line w.place w.t w.o w.is in
      record {
        place = w.place;
        t = old.t;
        o = old.o;
        is = old.is;
        writes = write-back old.o x (in_it line w.place old.t old.o old.is.committed.0 old.is.there) oc
            (subst (λ (k : Operation J W). IsWriteOf k (f x)) (sym old.o_is) w.writes);
        version_is = ap (λ (k : Operation J W). k.version) old.o_is ∙ w.version_is;
      }

  pub writes-occur : (line : ℕ) (x : I) (v : ℕ) → Writes h line x v → Occurs x
  writes-occur line x v w = (w.o, in_it line w.place w.t w.o w.is.committed.0 w.is.there, w.writes.item)

  -- ---- reads

  pub reads-occur : (line : ℕ) (x : I) (v : ℕ) → Reads h line x v → Occurs x
  reads-occur line x v r = (r.o, in_it line r.place r.t r.o r.is.committed.0 r.is.there, r.item_is)

  pub reads-on : (line : ℕ) (x : I) (v : ℕ) → Reads h line x v → Reads (map (renamed f g) h) line (f x) v
  reads-on line x v r = record {
    place = r.place;
    t = renamed f g r.t;
    o = renamed_operation f g r.o;
    is = operation-on line r.place r.t r.o r.is;
    read = r.read;
    item_is = ap f r.item_is;
    version_is = r.version_is;
    foreign = none-on line r.t x 0 r.place r.is.committed.0 (reads-occur line x v r) r.foreign;
  }

  pub reads-back : (line : ℕ) (x : I) (v : ℕ) → Occurs x → Reads (map (renamed f g) h) line (f x) v → Reads h line x v
  reads-back line x v (u, in_u, is) r =
      let old = operation-back line r.place r.t r.o r.is in
      let here = in_it line r.place old.t old.o old.is.committed.0 old.is.there in
      record {
        place = r.place;
        t = old.t;
        o = old.o;
        is = old.is;
        read = ap (λ (k : Operation J W). k.kind) old.o_is ∙ r.read;
        item_is = apart.items old.o u here in_u (ap (λ (k : Operation J W). k.item) old.o_is ∙ r.item_is
            ∙ sym (ap f is)) ∙ is;
        version_is = ap (λ (k : Operation J W). k.version) old.o_is ∙ r.version_is;
        foreign =
            none-back old.t x 0 r.place (subst (λ (k : Transaction J W). NoneWrites k.operations 0 r.place (f x))
            (sym old.t_is) r.foreign);
      }

  -- ---- conflicts

  pub next-on : (x : I) (v w : ℕ) → Occurs x → IsNext h x v w → IsNext (map (renamed f g) h) (f x) v w
  next-on x v w oc next = record {
    above = next.above;
    least = λ line version writes lt. next.least line version (writes-back line x version oc writes) lt;
  }

  pub next-back : (x : I) (v w : ℕ) → IsNext (map (renamed f g) h) (f x) v w → IsNext h x v w
  next-back x v w next = record {
    above = next.above;
    least = λ line version writes lt. next.least line version (writes-on line x version writes) lt;
  }

  pub conflict-on : (kind : Conflict) (from to : ℕ) (x : I) (v w : ℕ) → HaveConflict h kind from to x v w
      → HaveConflict (map (renamed f g) h) kind from to (f x) v w
  conflict-on WriteWrite from to x v w (other, one, two, next) =
      (other, writes-on from x v one, writes-on to x w two, next-on x v w (writes-occur from x v one) next)
  conflict-on WriteRead from to x v w (other, one, two, same) =
      (other, writes-on from x v one, reads-on to x w two, same)
  conflict-on ReadWrite from to x v w (other, one, two, next) =
      (other, reads-on from x v one, writes-on to x w two, next-on x v w (reads-occur from x v one) next)

  conflict-back : (kind : Conflict) (from to : ℕ) (x : I) (v w : ℕ) → Occurs x
      → HaveConflict (map (renamed f g) h) kind from to (f x) v w
      → HaveConflict h kind from to x v w
  conflict-back WriteWrite from to x v w oc (other, one, two, next) =
      (other, writes-back from x v oc one, writes-back to x w oc two, next-back x v w next)
  conflict-back WriteRead from to x v w oc (other, one, two, same) =
      (other, writes-back from x v oc one, reads-back to x w oc two, same)
  conflict-back ReadWrite from to x v w oc (other, one, two, next) =
      (other, reads-back from x v oc one, writes-back to x w oc two, next-back x v w next)

  -- the item of a write or read of the other history has an old name
  record Named (x' : J) : Type 0 where
    pub x : I
    pub there : Occurs x
    pub is : f x ≡ x'

  writes-named : (line : ℕ) (x' : J) (v : ℕ) → Writes (map (renamed f g) h) line x' v → Named x'
  writes-named line x' v w =
      let old = operation-back line w.place w.t w.o w.is in
      record {
        x = old.o.item;
        there = occurs line w.place old.t old.o old.is.committed.0 old.is.there;
        is = ap (λ (k : Operation J W). k.item) old.o_is ∙ w.writes.item;
      }

  reads-named : (line : ℕ) (x' : J) (v : ℕ) → Reads (map (renamed f g) h) line x' v → Named x'
  reads-named line x' v r =
      let old = operation-back line r.place r.t r.o r.is in
      record {
        x = old.o.item;
        there = occurs line r.place old.t old.o old.is.committed.0 old.is.there;
        is = ap (λ (k : Operation J W). k.item) old.o_is ∙ r.item_is;
      }

  named : (kind : Conflict) (from to : ℕ) (x' : J) (v w : ℕ) → HaveConflict (map (renamed f g) h) kind from to x' v w
      → Named x'
  named WriteWrite from to x' v w c = writes-named from x' v c.1
  named WriteRead from to x' v w c = writes-named from x' v c.1
  named ReadWrite from to x' v w c = reads-named from x' v c.1

  -- a conflict of the other history is one of this
  pub conflict-named : (kind : Conflict) (from to : ℕ) (x' : J) (v w : ℕ)
      → HaveConflict (map (renamed f g) h) kind from to x' v w
      → (x : I) × HaveConflict h kind from to x v w
  conflict-named kind from to x' v w c =
      let old = named kind from to x' v w c in (
        old.x,
        conflict-back kind from to old.x v w old.there
            (subst (λ (y : J). HaveConflict (map (renamed f g) h) kind from to y v w) (sym old.is) c),
      )

  -- and of the item that has the name
  pub conflict-named_item : (kind : Conflict) (from to : ℕ) (x' : J) (v w : ℕ)
      → HaveConflict (map (renamed f g) h) kind from to x' v w
      → (x : I) × HaveConflict h kind from to x v w × (f x ≡ x')
  conflict-named_item kind from to x' v w c =
      let old = named kind from to x' v w c in (
        old.x,
        conflict-back kind from to old.x v w old.there
            (subst (λ (y : J). HaveConflict (map (renamed f g) h) kind from to y v w) (sym old.is) c),
        old.is,
      )

  conflict_in-back : (k : Graph) (from to : ℕ) → ConflictIn (map (renamed f g) h) k from to → ConflictIn h k from to
  conflict_in-back k from to c =
      let old = conflict-named c.kind from to c.x c.v c.w c.conflict in
      record { kind = c.kind; among = c.among; x = old.0; v = c.v; w = c.w; conflict = old.1 }

  chain-back : (k : Graph) (a : ℕ) (bs : List ℕ) → IsChain (ConflictIn (map (renamed f g) h) k) a bs
      → IsChain (ConflictIn h k) a bs
  chain-back k a [] c = tt
  chain-back k a (b ∷ bs) (one, rest) = (conflict_in-back k a b one, chain-back k b bs rest)

  pub cycle_is-back : (k : Graph) (cycle : List ℕ) → IsCycle (ConflictIn (map (renamed f g) h) k) cycle
      → IsCycle (ConflictIn h k) cycle
  cycle_is-back k [] c = absurd c
  cycle_is-back k (a ∷ between) c = chain-back k a (between ++ a ∷ []) c

  pub cycle-back : (k : Graph) → HasCycle (map (renamed f g) h) k → HasCycle h k
  cycle-back k (cycle, is) = (cycle, cycle_is-back k cycle is)

  pub conflict_in-on : (k : Graph) (from to : ℕ) → ConflictIn h k from to → ConflictIn (map (renamed f g) h) k from to
  conflict_in-on k from to c = record {
    kind = c.kind;
    among = c.among;
    x = f c.x;
    v = c.v;
    w = c.w;
    conflict = conflict-on c.kind from to c.x c.v c.w c.conflict;
  }

  chain-on : (k : Graph) (a : ℕ) (bs : List ℕ) → IsChain (ConflictIn h k) a bs
      → IsChain (ConflictIn (map (renamed f g) h) k) a bs
  chain-on k a [] c = tt
  chain-on k a (b ∷ bs) (one, rest) = (conflict_in-on k a b one, chain-on k b bs rest)

  pub cycle_is-on : (k : Graph) (cycle : List ℕ) → IsCycle (ConflictIn h k) cycle
      → IsCycle (ConflictIn (map (renamed f g) h) k) cycle
  cycle_is-on k [] c = absurd c
  cycle_is-on k (a ∷ between) c = chain-on k a (between ++ a ∷ []) c

  pub cycle-on : (k : Graph) → HasCycle h k → HasCycle (map (renamed f g) h) k
  cycle-on k (cycle, is) = (cycle, cycle_is-on k cycle is)
