-- The blocks that end a transaction.
use Rattle.std.proofs.Common.{◌≡◌, ℕ, zero, suc, Bool, true, false, List, [], ◌∷◌, ◌++◌, map, refl, sym, ◌∙◌, arith, inl, inr, AllPairs, Contains, Some, subst, ap}
use Rattle.std.specs.Option.{ForSome}
use Rattle.std.proofs.lemmas.List.Elements.{Contains-append_cases}
use Rattle.std.proofs.lemmas.Option.{same_Some}
use Rattle.sgt_names.specs.Name.{Name}
use Rattle.sgt_names.specs.Entry.{tx_of, item_of, Writes, IsEnd, IsOpen, Continues}
use Rattle.sgt_names.specs.Log.{names}
use Rattle.sgt_names.specs.declared.entry.Change.{Change}
use Rattle.sgt_names.specs.declared.entry.Change.TheVariants.{Put, Add}
use Rattle.sgt_names.specs.declared.entry.Entry.{Entry}
use Rattle.sgt_names.specs.declared.entry.Entry.TheVariants as entry
use Rattle.sgt_names.specs.declared.entry.Holding.{Holding}
use Rattle.sgt_names.proofs.Places.{AllPairs-from_at, AllPairs_at}
use Rattle.sgt_site.specs.State.{change_entry, want_entry}
use Rattle.sgt_bundle.specs.declared.certificate.Step.{Step}
use Rattle.sgt_certifier.specs.Certifier.{Ruling, committed, refused, withdrawn}
use Rattle.sgt_core_model.proofs.Kept.{IsRead, SuitsRuling, AreBlocks, AreApart}
use Rattle.sgt_core_model.proofs.Entries.{of_change, change_tx, want_tx, change_item, want_item, change_open, want_open, change_suits, want_suits, want_writes}
use Rattle.sgt_core_model.proofs.Legal.{IsBlock, WritesApart, block_of}
use Rattle.sgt_names.proofs.Elements.{contains-cases, contains-none}
use Rattle.sgt_names.proofs.Lists.{map_at}
use Rattle.sgt_site.proofs.Entries.{writes_one}

-- how the private changes of i are written where it is decided so, with this end behind them
record IsForm (i : ℕ) (r : Ruling) (make : Name → Change → Entry) (last : Entry) : Type 0 where
  pub own : (x : Name) (c : Change) → tx_of (make x c) ≡ i
  pub item : (x : Name) (c : Change) → item_of (make x c) ≡ Some x
  pub opens : (x : Name) (c : Change) → IsOpen (make x c)
  pub suits : (x : Name) (c : Change) → SuitsRuling (make x c) r
  pub writes : (x : Name) (c : Change) (y : Name) → Writes y (make x c) → x ≡ y
  pub next : (x y : Name) (c d : Change) → Continues (make x c) (make y d)
  pub ends : (x : Name) (c : Change) → Continues (make x c) last
  pub last_own : tx_of last ≡ i
  pub last_end : IsEnd last
  pub last_suits : SuitsRuling last r

change_next : (i : ℕ) (x y : Name) (c d : Change) → Continues (change_entry i x c) (change_entry i y d)
change_next i x y (Put v) (Put w) = refl
change_next i x y (Put v) (Add w) = refl
change_next i x y (Add v) (Put w) = refl
change_next i x y (Add v) (Add w) = refl

change_ends : (i : ℕ) (x : Name) (c : Change) → Continues (change_entry i x c) (entry.Commit i)
change_ends i x (Put v) = refl
change_ends i x (Add v) = refl

want_next : (i : ℕ) (x y : Name) (c d : Change) → Continues (want_entry i x c) (want_entry i y d)
want_next i x y (Put v) (Put w) = refl
want_next i x y (Put v) (Add w) = refl
want_next i x y (Add v) (Put w) = refl
want_next i x y (Add v) (Add w) = refl

want_ends : (i : ℕ) (x : Name) (c : Change) → Continues (want_entry i x c) (entry.Refuse i)
want_ends i x (Put v) = refl
want_ends i x (Add v) = refl

committed_form : (i : ℕ) → IsForm i (committed i) (change_entry i) (entry.Commit i)
committed_form i = record {
  own = change_tx i;
  item = change_item i;
  opens = change_open i;
  suits = change_suits i i;
  writes = writes_one i;
  next = change_next i;
  ends = change_ends i;
  last_own = refl;
  last_end = tt;
  last_suits = tt;
}

refused_form : (i : ℕ) (walk : List Step) → IsForm i (refused i walk) (want_entry i) (entry.Refuse i)
refused_form i walk = record {
  own = want_tx i;
  item = want_item i;
  opens = want_open i;
  suits = want_suits i i walk;
  writes = want_writes i;
  next = want_next i;
  ends = want_ends i;
  last_own = refl;
  last_end = tt;
  last_suits = tt;
}

module _ (i : ℕ) (r : Ruling) (make : Name → Change → Entry) (last : Entry) (form : IsForm i r make last) where
  form-block : (items : List Holding) (cs : List (Name × Change))
      → ((d : Name × Change) → Contains cs d → Contains (names items) d.0)
      → AllPairs AreApart cs → IsBlock items i r (map (λ (d : Name × Change). make d.0 d.1) cs) last
  form-block items cs known once = record {
    own = λ e c. let m = of_change make cs e c in ap tx_of (sym m.2) ∙ form.own m.0.0 m.0.1;
    known = λ e c. let m = of_change make cs e c in
        subst (λ f. ForSome (item_of f) (Contains (names items))) m.2
        (λ y is. subst (Contains (names items)) (same_Some m.0.0 y (sym (form.item m.0.0 m.0.1) ∙ is)) (known m.0 m.1));
    opens = λ e c. let m = of_change make cs e c in subst IsOpen m.2 (form.opens m.0.0 m.0.1);
    suits = λ e c. let m = of_change make cs e c in subst (λ f. SuitsRuling f r) m.2 (form.suits m.0.0 m.0.1);
    apart = AllPairs-from_at WritesApart (map (λ (d : Name × Change). make d.0 d.1) cs) (λ p q e f lt at_e at_f x we wf.
        let g = map_at (λ (d : Name × Change). make d.0 d.1) cs p e at_e in
        let h = map_at (λ (d : Name × Change). make d.0 d.1) cs q f at_f in
        AllPairs_at AreApart cs p q g.0 h.0 once lt g.1 h.1
        (form.writes g.0.0 g.0.1 x (subst (Writes x) (sym g.2) we)
        ∙ sym (form.writes h.0.0 h.0.1 x (subst (Writes x) (sym h.2) wf))));
    last_own = form.last_own;
    last_end = form.last_end;
    last_suits = form.last_suits;
  }

  no_open : (e : Entry) → IsEnd e → IsOpen e → ⊥
  no_open (entry.Commit tx) h k = k
  no_open (entry.Refuse tx) h k = k
  no_open (entry.Withdraw tx) h k = k
  no_open _ h k = h

  form-blocks : (cs : List (Name × Change)) → AreBlocks (map (λ (d : Name × Change). make d.0 d.1) cs ++ last ∷ [])
  form-blocks [] zero e at_n opens =
      absurd (no_open last form.last_end (subst IsOpen (sym (same_Some last e at_n)) opens))
  form-blocks [] (suc n) e at_n opens = absurd cc
  form-blocks (d ∷ []) zero e at_n opens =
      (last, refl, subst (λ f. Continues f last) (same_Some (make d.0 d.1) e at_n) (form.ends d.0 d.1))
  form-blocks (d ∷ g ∷ gs) zero e at_n opens = (
    make g.0 g.1,
    refl,
    subst (λ f. Continues f (make g.0 g.1)) (same_Some (make d.0 d.1) e at_n)
        (form.next d.0 g.0 d.1 g.1),
  )
  form-blocks (d ∷ ds) (suc n) e at_n opens = form-blocks ds n e at_n opens

pub blocks-nil : AreBlocks []
blocks-nil n e at_n opens = absurd cc

-- ---- the three kinds

pub committed-block : (items : List Holding) (i : ℕ) (cs : List (Name × Change))
    → ((d : Name × Change) → Contains cs d → Contains (names items) d.0)
    → AllPairs AreApart cs
    → IsBlock items i (committed i) (map (λ (d : Name × Change). change_entry i d.0 d.1) cs) (entry.Commit i)
committed-block items i cs known once =
    form-block i (committed i) (change_entry i) (entry.Commit i) (committed_form i) items cs known once

pub committed-blocks : (i : ℕ) (cs : List (Name × Change))
    → AreBlocks (map (λ (d : Name × Change). change_entry i d.0 d.1) cs ++ entry.Commit i ∷ [])
committed-blocks i cs = form-blocks i (committed i) (change_entry i) (entry.Commit i) (committed_form i) cs

pub refused-block : (items : List Holding) (i : ℕ) (walk : List Step) (cs : List (Name × Change))
    → ((d : Name × Change) → Contains cs d → Contains (names items) d.0) → AllPairs AreApart cs
    → IsBlock items i (refused i walk) (map (λ (d : Name × Change). want_entry i d.0 d.1) cs) (entry.Refuse i)
refused-block items i walk cs known once =
    form-block i (refused i walk) (want_entry i) (entry.Refuse i) (refused_form i walk) items cs known once

pub refused-blocks : (i : ℕ) (walk : List Step) (cs : List (Name × Change))
    → AreBlocks (map (λ (d : Name × Change). want_entry i d.0 d.1) cs ++ entry.Refuse i ∷ [])
refused-blocks i walk cs = form-blocks i (refused i walk) (want_entry i) (entry.Refuse i) (refused_form i walk) cs

pub withdrawn-block : (items : List Holding) (i : ℕ) → IsBlock items i (withdrawn i) [] (entry.Withdraw i)
withdrawn-block items i = record {
  own = λ e c. absurd (contains-none e c);
  known = λ e c. absurd (contains-none e c);
  opens = λ e c. absurd (contains-none e c);
  suits = λ e c. absurd (contains-none e c);
  apart = λ p q d lt within. absurd (omega arith);
  last_own = refl;
  last_end = tt;
  last_suits = tt;
}

pub withdrawn-blocks : (i : ℕ) → AreBlocks (entry.Withdraw i ∷ [])
withdrawn-blocks i zero e at_n opens = absurd (subst IsOpen (sym (same_Some (entry.Withdraw i) e at_n)) opens)
withdrawn-blocks i (suc n) e at_n opens = absurd cc

pub either_blocks : (ops : List Entry) (last : Entry) → AreBlocks (ops ++ last ∷ []) → (b : Bool)
    → AreBlocks (block_of b ops last)
either_blocks ops last h true = h
either_blocks ops last h false = blocks-nil

-- a block has no reads
pub block_reads : (items : List Holding) (i : ℕ) (r : Ruling) (ops : List Entry) (last : Entry)
    → IsBlock items i r ops last
    → (t : Bool) (e : Entry) → Contains (block_of t ops last) e → IsRead e → ⊥
block_reads items i r ops last b false e c k = contains-none e c
block_reads items i r ops last b true e c k = elim (Contains-append_cases ops (last ∷ []) e c) [
  | inl op ↦ open_read e (b.opens e op) k
  | inr end ↦ elim (contains-cases last [] e end) [
    | inl is ↦ end_read e (subst IsEnd is b.last_end) k
    | inr none ↦ absurd (contains-none e none)
  ]
]
  where
    open_read : (e : Entry) → IsOpen e → IsRead e → ⊥
    open_read (entry.Read tx x v) h k = h
    open_read _ h k = k

    end_read : (e : Entry) → IsEnd e → IsRead e → ⊥
    end_read (entry.Read tx x v) h k = h
    end_read _ h k = k
