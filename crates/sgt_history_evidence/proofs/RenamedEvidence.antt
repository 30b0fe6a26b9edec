-- What stands behind a fault of a history whose items and values have other names.
use Rattle.std.proofs.Common.{◌≡◌, ◌≢◌, ℕ, ◌<◌, ◌≤◌, Bool, true, false, List, Some, refl, sym, ap, ◌∙◌, subst, map}
use Rattle.std.specs.Prelude.{slice_get}
use Rattle.sgt_names.proofs.Lists.{map_at}
use Rattle.sgt_history.specs.declared.history.Operation.{Operation}
use Rattle.sgt_history.specs.declared.named.Flaw.{Flaw}
use Rattle.sgt_history.specs.declared.named.Flaw.TheVariants.{Internal, Duplicate, AbortedRead, Unwritten, IntermediateRead, Value}
use Rattle.sgt_history.specs.Transaction.{Transaction, renamed_value, renamed_operation, renamed}
use Rattle.sgt_history.specs.Serial.{IsWriteOf, KeepApart}
use Rattle.sgt_history.specs.Conflicts.{IsOperation}
use Rattle.sgt_history_evidence.specs.Evidence.{IsAgainstOwn, IsSurpassed, IsGivenOtherwise, IsEvidence}
use Rattle.sgt_history_evidence.specs.Values.{IsGift, GivesIn, GivesAt, IsFirstInLine, IsFirstGiven}
use Rattle.sgt_history_evidence.specs.Writers.{WritesIn, WritesAs, IsFirstAs, IsLeastGreater}
use Rattle.sgt_history_evidence.specs.declared.evidence.Evidence.{Evidence}
use Rattle.sgt_history_evidence.specs.declared.evidence.Evidence.TheVariants.{Nothing, Wrote, WritesLater, Writer, Surpassed, Gives}
use Rattle.sgt_history_evidence.proofs.Renamed.{Occurs, in_it, occurs, line-back, write-on, write-back, last-on, committed-on}
use Rattle.sgt_history_evidence.proofs.RenamedFlaws.{future-on, other_value-on}
use Rattle.sgt_names.proofs.Elements.{get-mapped}
use Rattle.sgt_history.proofs.Renaming.{value_of}

module _ {I J V W : Type 0} (f : I → J) (g : V → W) (h : List (Transaction I V)) (apart : KeepApart f g h) where
  -- ---- writers

  writes_in-on : (t : Transaction I V) (x : I) (v : ℕ) → WritesIn t.operations x v
      → WritesIn (renamed f g t).operations (f x) v
  writes_in-on t x v w = record {
    place = w.place;
    o = renamed_operation f g w.o;
    there = get-mapped (renamed_operation f g) t.operations w.place w.o w.there;
    writes = write-on f g h apart w.o x w.writes;
    version_is = w.version_is;
  }

  writes_in-back : (line : ℕ) (t : Transaction I V) (x : I) (v : ℕ) → slice_get h line ≡ Some t → Occurs f g h apart x
      → WritesIn (renamed f g t).operations (f x) v → WritesIn t.operations x v
  writes_in-back line t x v at oc w =
      let old = map_at (renamed_operation f g) t.operations w.place w.o w.there in
      record {
        place = w.place;
        o = old.0;
        there = old.1;
        writes = write-back f g h apart old.0 x (in_it f g h apart line w.place t old.0 at old.1) oc
            (subst (λ (k : Operation J W). IsWriteOf k (f x)) (sym old.2) w.writes);
        version_is = ap (λ (k : Operation J W). k.version) old.2 ∙ w.version_is;
      }

  writes_as-on : (commits : Bool) (x : I) (v line : ℕ) → WritesAs commits h x v line
      → WritesAs commits (map (renamed f g) h) (f x) v line
  writes_as-on commits x v line w = record {
    t = renamed f g w.t;
    in_line = get-mapped (renamed f g) h line w.t w.in_line;
    commits_is = w.commits_is;
    is = writes_in-on w.t x v w.is;
  }

  writes_as-back : (commits : Bool) (x : I) (v line : ℕ) → Occurs f g h apart x
      → WritesAs commits (map (renamed f g) h) (f x) v line
      → WritesAs commits h x v line
  writes_as-back commits x v line oc w =
      let old = line-back f g h apart line w.t w.in_line in
      record {
        t = old.t;
        in_line = old.at;
        commits_is = ap (λ (k : Transaction J W). k.commits) old.is ∙ w.commits_is;
        is = writes_in-back line old.t x v old.at oc (subst (λ (k : Transaction J W). WritesIn k.operations (f x) v)
            (sym old.is) w.is);
      }

  first_as-on : (commits : Bool) (x : I) (v line : ℕ) → Occurs f g h apart x → IsFirstAs commits h x v line
      → IsFirstAs commits (map (renamed f g) h) (f x) v line
  first_as-on commits x v line oc w = record {
    writes = writes_as-on commits x v line w.writes;
    first = λ other writes. w.first other (writes_as-back commits x v other oc writes);
  }

  surpassed-on : (o : Operation I V) (by greater : ℕ) → Occurs f g h apart o.item → IsSurpassed h o by greater
      → IsSurpassed (map (renamed f g) h) (renamed_operation f g o) by greater
  surpassed-on o by greater oc s = record {
    first = first_as-on true o.item o.version by oc s.first;
    t = renamed f g s.t;
    in_line = get-mapped (renamed f g) h by s.t s.in_line;
    least = record {
      writes = writes_in-on s.t o.item greater s.least.writes;
      above = s.least.above;
      least = λ other writes above. s.least.least other (writes_in-back by s.t o.item other s.in_line oc writes) above;
    };
  }

  -- ---- values

  gives-on : (x : I) (v line place : ℕ) → GivesAt h x v line place → GivesAt (map (renamed f g) h) (f x) v line place
  gives-on x v line place a = record {
    t = renamed f g a.t;
    committed = committed-on f g h apart line a.t a.committed;
    is = record {
      o = renamed_operation f g a.is.o;
      there = get-mapped (renamed_operation f g) a.t.operations place a.is.o a.is.there;
      gift = record {
        item_is = ap f a.is.gift.item_is;
        version_is = a.is.gift.version_is;
        value = g a.is.gift.value;
        given = ap (renamed_value g) a.is.gift.given;
      };
    };
  }

  gives-back : (x : I) (v line place : ℕ) → Occurs f g h apart x → GivesAt (map (renamed f g) h) (f x) v line place
      → GivesAt h x v line place
  gives-back x v line place (u, in_u, is) a =
      let old = line-back f g h apart line a.t a.committed.0 in
      let one = map_at (renamed_operation f g) old.t.operations place a.is.o
      (subst (λ (k : Transaction J W). slice_get k.operations place ≡ Some a.is.o) (sym old.is) a.is.there) in
      let value = value_of g one.0.value a.is.gift.value (ap (λ (k : Operation J W). k.value) one.2
      ∙ a.is.gift.given) in
      record {
        t = old.t;
        committed = (old.at, ap (λ (k : Transaction J W). k.commits) old.is ∙ a.committed.1);
        is = record {
          o = one.0;
          there = one.1;
          gift = record {
            item_is = apart.items one.0 u (in_it f g h apart line place old.t one.0 old.at one.1) in_u
                (ap (λ (k : Operation J W). k.item) one.2 ∙ a.is.gift.item_is ∙ sym (ap f is)) ∙ is;
            version_is = ap (λ (k : Operation J W). k.version) one.2 ∙ a.is.gift.version_is;
            value = value.0;
            given = value.1;
          };
        };
      }

  first_given-on : (x : I) (v line place : ℕ) → Occurs f g h apart x → IsFirstGiven h x v line place
      → IsFirstGiven (map (renamed f g) h) (f x) v line place
  first_given-on x v line place oc a = record {
    here = record {
      gives = gives-on x v line place a.here.gives;
      first = λ other gives. a.here.first other (gives-back x v line other oc gives);
    };
    first = λ line' place' gives. a.first line' place' (gives-back x v line' place' oc gives);
  }

  given_otherwise-on : (line place : ℕ) (t : Transaction I V) (o : Operation I V) → IsOperation h line place t o
      → (by at : ℕ)
      → IsGivenOtherwise h line place o by at
      → IsGivenOtherwise (map (renamed f g) h) line place (renamed_operation f g o) by at
  given_otherwise-on line place t o is by at a = record {
    first = first_given-on o.item o.version by at (occurs f g h apart line place t o is.committed.0 is.there) a.first;
    other = other_value-on f g h apart line place t o is a.other;
    line_is = a.line_is;
    place_is = a.place_is;
  }

  -- ---- evidence

  against_own-on : (line place : ℕ) (t : Transaction I V) (o : Operation I V) → IsOperation h line place t o
      → (version : ℕ) → IsAgainstOwn t place o version
      → IsAgainstOwn (renamed f g t) place (renamed_operation f g o) version
  against_own-on line place t o is version a = record {
    own = last-on f g h apart line t place o.item version is.committed.0
        (occurs f g h apart line place t o is.committed.0 is.there) a.own;
    read = a.read;
    write = a.write;
  }

  pub evidence-on : (line place : ℕ) (t : Transaction I V) (o : Operation I V) → IsOperation h line place t o
      → (flaw : Flaw) (evidence : Evidence)
      → IsEvidence h line place t o flaw evidence
      → IsEvidence (map (renamed f g) h) line place (renamed f g t) (renamed_operation f g o) flaw evidence
  evidence-on line place t o is Internal (Wrote version) e = against_own-on line place t o is version e
  evidence-on line place t o is Internal WritesLater e = future-on f g h apart line place t o is e
  evidence-on line place t o is Duplicate (Writer by) (before, first) =
      (before, first_as-on true o.item o.version by (occurs f g h apart line place t o is.committed.0 is.there) first)
  evidence-on line place t o is AbortedRead (Writer by) first =
      first_as-on false o.item o.version by (occurs f g h apart line place t o is.committed.0 is.there) first
  evidence-on line place t o is Unwritten Nothing e = tt
  evidence-on line place t o is IntermediateRead (Surpassed by greater) e =
      surpassed-on o by greater (occurs f g h apart line place t o is.committed.0 is.there) e
  evidence-on line place t o is Value (Gives by at) e = given_otherwise-on line place t o is by at e
  evidence-on line place t o is flaw evidence e = absurd e
