-- The faults of a history whose items and values have other names.
use Rattle.std.proofs.Common.{◌≡◌, ◌≢◌, ℕ, ◌<◌, ◌≤◌, List, Some, Option, refl, sym, ap, ◌∙◌, subst, map, inl, inr, ◌⊎◌}
use Rattle.std.specs.Prelude.{slice_get}
use Rattle.sgt_names.proofs.Lists.{map_at}
use Rattle.sgt_history.specs.declared.history.Operation.{Operation}
use Rattle.sgt_history.specs.declared.named.Flaw.{Flaw}
use Rattle.sgt_history.specs.declared.named.Flaw.TheVariants.{Internal, Duplicate, AbortedRead, Unwritten, IntermediateRead, Value}
use Rattle.sgt_history.specs.Transaction.{Transaction, renamed_value, renamed_operation, renamed}
use Rattle.sgt_history.specs.Serial.{IsCommitted, IsWriteOf, NoneWrites, IsIn, KeepApart}
use Rattle.sgt_history.specs.Conflicts.{IsOperation, Writes}
use Rattle.sgt_history.specs.Flaws.{IsOtherOwn, IsNotGreater, IsFuture, IsForeign, NoneCommitted, AbortedWrites, IsFirstWriter, IsOtherValue, HasFlaw, IsFaulty, IsFaultless, IsFirstFault}
use Rattle.sgt_history_evidence.proofs.Renamed.{Occurs, in_it, occurs, line-back, operation-on, operation-back, write-on, write-back, none-on, none-back, last-on, last-back, writes-on, writes-back}
use Rattle.sgt_names.proofs.Elements.{get-mapped}
use Rattle.sgt_history.proofs.Renaming.{value_of}

module _ {I J V W : Type 0} (f : I → J) (g : V → W) (h : List (Transaction I V)) (apart : KeepApart f g h) where
  -- ---- of its own transaction

  other_own-on : (line place : ℕ) (t : Transaction I V) (o : Operation I V) → IsOperation h line place t o
      → IsOtherOwn t place o
      → IsOtherOwn (renamed f g t) place (renamed_operation f g o)
  other_own-on line place t o is own = record {
    read = own.read;
    version = own.version;
    own = last-on f g h apart line t place o.item own.version is.committed.0
        (occurs f g h apart line place t o is.committed.0 is.there) own.own;
    other = own.other;
  }

  other_own-back : (line place : ℕ) (t : Transaction I V) (o : Operation I V) → IsOperation h line place t o
      → IsOtherOwn (renamed f g t) place (renamed_operation f g o) → IsOtherOwn t place o
  other_own-back line place t o is own = record {
    read = own.read;
    version = own.version;
    own = last-back f g h apart line t place o.item own.version is.committed.0
        (occurs f g h apart line place t o is.committed.0 is.there) own.own;
    other = own.other;
  }

  not_greater-on : (line place : ℕ) (t : Transaction I V) (o : Operation I V) → IsOperation h line place t o
      → IsNotGreater t place o
      → IsNotGreater (renamed f g t) place (renamed_operation f g o)
  not_greater-on line place t o is own = record {
    write = own.write;
    version = own.version;
    own = last-on f g h apart line t place o.item own.version is.committed.0
        (occurs f g h apart line place t o is.committed.0 is.there) own.own;
    most = own.most;
  }

  not_greater-back : (line place : ℕ) (t : Transaction I V) (o : Operation I V) → IsOperation h line place t o
      → IsNotGreater (renamed f g t) place (renamed_operation f g o) → IsNotGreater t place o
  not_greater-back line place t o is own = record {
    write = own.write;
    version = own.version;
    own = last-back f g h apart line t place o.item own.version is.committed.0
        (occurs f g h apart line place t o is.committed.0 is.there) own.own;
    most = own.most;
  }

  pub future-on : (line place : ℕ) (t : Transaction I V) (o : Operation I V) → IsOperation h line place t o
      → IsFuture t place o
      → IsFuture (renamed f g t) place (renamed_operation f g o)
  future-on line place t o is later = record {
    read = later.read;
    foreign =
        none-on f g h apart line t o.item 0 place is.committed.0
        (occurs f g h apart line place t o is.committed.0 is.there) later.foreign;
    later = later.later;
    by = renamed_operation f g later.by;
    there = get-mapped (renamed_operation f g) t.operations later.later later.by later.there;
    writes = write-on f g h apart later.by o.item later.writes;
    version_is = later.version_is;
  }

  future-back : (line place : ℕ) (t : Transaction I V) (o : Operation I V) → IsOperation h line place t o
      → IsFuture (renamed f g t) place (renamed_operation f g o) → IsFuture t place o
  future-back line place t o is later =
      let old = map_at (renamed_operation f g) t.operations later.later later.by later.there in
      record {
        read = later.read;
        foreign = none-back f g h apart t o.item 0 place later.foreign;
        later = later.later;
        by = old.0;
        there = old.1;
        writes = write-back f g h apart old.0 o.item (in_it f g h apart line later.later t old.0 is.committed.0 old.1)
            (occurs f g h apart line place t o is.committed.0 is.there)
            (subst (λ (k : Operation J W). IsWriteOf k (f o.item)) (sym old.2) later.writes);
        version_is = ap (λ (k : Operation J W). k.version) old.2 ∙ later.version_is;
      }

  -- ---- of others

  foreign-on : (line place : ℕ) (t : Transaction I V) (o : Operation I V) → IsOperation h line place t o
      → IsForeign t place o
      → IsForeign (renamed f g t) place (renamed_operation f g o)
  foreign-on line place t o is foreign = record {
    read = foreign.read;
    foreign =
        none-on f g h apart line t o.item 0 place is.committed.0
        (occurs f g h apart line place t o is.committed.0 is.there) foreign.foreign;
    not_first = foreign.not_first;
  }

  foreign-back : (place : ℕ) (t : Transaction I V) (o : Operation I V)
      → IsForeign (renamed f g t) place (renamed_operation f g o) → IsForeign t place o
  foreign-back place t o foreign = record {
    read = foreign.read;
    foreign = none-back f g h apart t o.item 0 place foreign.foreign;
    not_first = foreign.not_first;
  }

  none_committed-on : (x : I) (v : ℕ) → Occurs f g h apart x → NoneCommitted h x v
      → NoneCommitted (map (renamed f g) h) (f x) v
  none_committed-on x v oc none line writes = none line (writes-back f g h apart line x v oc writes)

  none_committed-back : (x : I) (v : ℕ) → NoneCommitted (map (renamed f g) h) (f x) v → NoneCommitted h x v
  none_committed-back x v none line writes = none line (writes-on f g h apart line x v writes)

  pub aborted-on : (line : ℕ) (x : I) (v : ℕ) → AbortedWrites h line x v
      → AbortedWrites (map (renamed f g) h) line (f x) v
  aborted-on line x v w = record {
    t = renamed f g w.t;
    in_line = get-mapped (renamed f g) h line w.t w.in_line;
    aborts = w.aborts;
    place = w.place;
    o = renamed_operation f g w.o;
    there = get-mapped (renamed_operation f g) w.t.operations w.place w.o w.there;
    writes = write-on f g h apart w.o x w.writes;
    version_is = w.version_is;
  }

  pub aborted-back : (line : ℕ) (x : I) (v : ℕ) → Occurs f g h apart x
      → AbortedWrites (map (renamed f g) h) line (f x) v → AbortedWrites h line x v
  aborted-back line x v oc w =
      let old = line-back f g h apart line w.t w.in_line in
      let one = map_at (renamed_operation f g) old.t.operations w.place w.o
      (subst (λ (k : Transaction J W). slice_get k.operations w.place ≡ Some w.o) (sym old.is) w.there) in
      record {
        t = old.t;
        in_line = old.at;
        aborts = ap (λ (k : Transaction J W). k.commits) old.is ∙ w.aborts;
        place = w.place;
        o = one.0;
        there = one.1;
        writes = write-back f g h apart one.0 x (in_it f g h apart line w.place old.t one.0 old.at one.1) oc
            (subst (λ (k : Operation J W). IsWriteOf k (f x)) (sym one.2) w.writes);
        version_is = ap (λ (k : Operation J W). k.version) one.2 ∙ w.version_is;
      }

  first_writer-on : (line : ℕ) (x : I) (v : ℕ) → Occurs f g h apart x → IsFirstWriter h line x v
      → IsFirstWriter (map (renamed f g) h) line (f x) v
  first_writer-on line x v oc w = record {
    writes = writes-on f g h apart line x v w.writes;
    first = λ other writes. w.first other (writes-back f g h apart other x v oc writes);
  }

  first_writer-back : (line : ℕ) (x : I) (v : ℕ) → Occurs f g h apart x
      → IsFirstWriter (map (renamed f g) h) line (f x) v → IsFirstWriter h line x v
  first_writer-back line x v oc w = record {
    writes = writes-back f g h apart line x v oc w.writes;
    first = λ other writes. w.first other (writes-on f g h apart other x v writes);
  }

  -- ---- of values

  abbrev pub other_value-on : (line place : ℕ) (t : Transaction I V) (o : Operation I V)
      → IsOperation h line place t o → IsOtherValue h line place o
      → IsOtherValue (map (renamed f g) h) line place (renamed_operation f g o)
  other_value-on line place t o is v = record {
    value = g v.value;
    given = ap (renamed_value g) v.given;
    line_of = v.line_of;
    place_of = v.place_of;
    t = renamed f g v.t;
    other = renamed_operation f g v.other;
    is = operation-on f g h apart v.line_of v.place_of v.t v.other v.is;
    before = v.before;
    item_is = ap f v.item_is;
    version_is = v.version_is;
    value_of = g v.value_of;
    given_of = ap (renamed_value g) v.given_of;
    apart = λ same. v.apart
        (apart.values o v.other v.value v.value_of (in_it f g h apart line place t o is.committed.0 is.there)
        (in_it f g h apart v.line_of v.place_of v.t v.other v.is.committed.0 v.is.there) v.given v.given_of same);
  }

  other_value-back : (line place : ℕ) (t : Transaction I V) (o : Operation I V) → IsOperation h line place t o
      → IsOtherValue (map (renamed f g) h) line place (renamed_operation f g o) → IsOtherValue h line place o
  other_value-back line place t o is v =
      let old = operation-back f g h apart v.line_of v.place_of v.t v.other v.is in
      let one = value_of g o.value v.value v.given in
      let two = value_of g old.o.value v.value_of (ap (λ (k : Operation J W). k.value) old.o_is ∙ v.given_of) in
      record {
        value = one.0;
        given = one.1;
        line_of = v.line_of;
        place_of = v.place_of;
        t = old.t;
        other = old.o;
        is = old.is;
        before = v.before;
        item_is =
            apart.items old.o o (in_it f g h apart v.line_of v.place_of old.t old.o old.is.committed.0 old.is.there)
            (in_it f g h apart line place t o is.committed.0 is.there) (ap (λ (k : Operation J W). k.item) old.o_is
            ∙ v.item_is);
        version_is = ap (λ (k : Operation J W). k.version) old.o_is ∙ v.version_is;
        value_of = two.0;
        given_of = two.1;
        apart = λ same. v.apart (sym one.2 ∙ ap g same ∙ two.2);
      }

  -- ---- the table

  has-on : (line place : ℕ) (t : Transaction I V) (o : Operation I V) → IsOperation h line place t o → (flaw : Flaw)
      → HasFlaw h line place t o flaw
      → HasFlaw (map (renamed f g) h) line place (renamed f g t) (renamed_operation f g o) flaw
  has-on line place t o is Internal (inl a) = inl (other_own-on line place t o is a)
  has-on line place t o is Internal (inr (inl b)) = inr (inl (not_greater-on line place t o is b))
  has-on line place t o is Internal (inr (inr c)) = inr (inr (future-on line place t o is c))
  has-on line place t o is Duplicate (write, earlier, before, writes) =
      (write, earlier, before, writes-on f g h apart earlier o.item o.version writes)
  has-on line place t o is AbortedRead (foreign, none, by, aborted) = (
    foreign-on line place t o is foreign,
    none_committed-on o.item o.version (occurs f g h apart line place t o is.committed.0 is.there) none,
    by,
    aborted-on by o.item o.version aborted,
  )
  has-on line place t o is Unwritten (foreign, none, nobody) = (
    foreign-on line place t o is foreign,
    none_committed-on o.item o.version (occurs f g h apart line place t o is.committed.0 is.there) none,
    λ by writes. nobody by
        (aborted-back by o.item o.version (occurs f g h apart line place t o is.committed.0 is.there) writes),
  )
  has-on line place t o is IntermediateRead (foreign, by, first, greater, above, writes) = (
    foreign-on line place t o is foreign,
    by,
    first_writer-on by o.item o.version (occurs f g h apart line place t o is.committed.0 is.there) first,
    greater,
    above,
    writes-on f g h apart by o.item greater writes,
  )
  has-on line place t o is Value v = other_value-on line place t o is v

  has-back : (line place : ℕ) (t : Transaction I V) (o : Operation I V) → IsOperation h line place t o → (flaw : Flaw)
      → HasFlaw (map (renamed f g) h) line place (renamed f g t) (renamed_operation f g o) flaw
      → HasFlaw h line place t o flaw
  has-back line place t o is Internal (inl a) = inl (other_own-back line place t o is a)
  has-back line place t o is Internal (inr (inl b)) = inr (inl (not_greater-back line place t o is b))
  has-back line place t o is Internal (inr (inr c)) = inr (inr (future-back line place t o is c))
  has-back line place t o is Duplicate (write, earlier, before, writes) = (
    write,
    earlier,
    before,
    writes-back f g h apart earlier o.item o.version (occurs f g h apart line place t o is.committed.0 is.there)
        writes,
  )
  has-back line place t o is AbortedRead (foreign, none, by, aborted) = (
    foreign-back place t o foreign,
    none_committed-back o.item o.version none,
    by,
    aborted-back by o.item o.version (occurs f g h apart line place t o is.committed.0 is.there) aborted,
  )
  has-back line place t o is Unwritten (foreign, none, nobody) = (
    foreign-back place t o foreign,
    none_committed-back o.item o.version none,
    λ by writes. nobody by (aborted-on by o.item o.version writes),
  )
  has-back line place t o is IntermediateRead (foreign, by, first, greater, above, writes) = (
    foreign-back place t o foreign,
    by,
    first_writer-back by o.item o.version (occurs f g h apart line place t o is.committed.0 is.there) first,
    greater,
    above,
    writes-back f g h apart by o.item greater (occurs f g h apart line place t o is.committed.0 is.there) writes,
  )
  has-back line place t o is Value v = other_value-back line place t o is v

  pub faulty-on : (line : ℕ) (flaw : Flaw) (place : ℕ) → IsFaulty h line flaw place
      → IsFaulty (map (renamed f g) h) line flaw place
  faulty-on line flaw place a = record {
    t = renamed f g a.t;
    o = renamed_operation f g a.o;
    is = operation-on f g h apart line place a.t a.o a.is;
    has = has-on line place a.t a.o a.is flaw a.has;
  }

  pub faulty-back : (line : ℕ) (flaw : Flaw) (place : ℕ) → IsFaulty (map (renamed f g) h) line flaw place
      → IsFaulty h line flaw place
  faulty-back line flaw place a =
      let old = operation-back f g h apart line place a.t a.o a.is in
      record {
        t = old.t;
        o = old.o;
        is = old.is;
        has = has-back line place old.t old.o old.is flaw
            (subst (λ (k : Transaction J W). HasFlaw (map (renamed f g) h) line place k (renamed_operation f g old.o)
            flaw) (sym old.t_is)
            (subst (λ (k : Operation J W). HasFlaw (map (renamed f g) h) line place a.t k flaw) (sym old.o_is) a.has));
      }

  pub first_fault-on : (line : ℕ) (flaw : Flaw) (place : ℕ) → IsFirstFault h line flaw place
      → IsFirstFault (map (renamed f g) h) line flaw place
  first_fault-on line flaw place a = record {
    faulty = faulty-on line flaw place a.faulty;
    first = λ line' flaw' place' other. a.first line' flaw' place' (faulty-back line' flaw' place' other);
  }

  pub faultless-on : IsFaultless h → IsFaultless (map (renamed f g) h)
  faultless-on none line flaw place other = none line flaw place (faulty-back line flaw place other)
