-- The blocks that end a transaction: orderly by themselves, and fit to follow the log under its pledge.
use Rattle.std.proofs.Common.{◌≡◌, ℕ, zero, suc, ◌+◌, ◌<◌, List, [], ◌∷◌, ◌++◌, length, map, get_or, Some, None, refl, sym, ap, ◌∙◌, subst, arith, inl, inr, All, Contains, length-append}
use Rattle.std.specs.Prelude.{slice_get, ◌≢◌, option_map}
use Rattle.std.specs.Option.{ForSome}
use Rattle.std.specs.Ordering.{nat_cmp}
use Rattle.std.specs.Cmp.Lexicographic.{slice_cmp}
use Rattle.std.specs.declared.cmp.Ordering.TheVariants.{Less, Equal}
use Rattle.std.proofs.lemmas.Bool.{cases_lt}
use Rattle.std.proofs.lemmas.Cmp.{nat_list_cmp_total, tied_itself}
use Rattle.std.proofs.lemmas.List.{length-map}
use Rattle.std.proofs.lemmas.Option.{slice_get_within, slice_get-get_or, slice_get-map, same_Some}
use Rattle.sgt_names.specs.Name.{Name}
use Rattle.sgt_names.specs.Ordered.{IsRisingBy}
use Rattle.sgt_names.specs.Entry.{tx_of, item_of, Reads, Writes, IsEnd, IsOpen, Continues, Repeats}
use Rattle.sgt_names.specs.Log.{names, IsOrderly}
use Rattle.sgt_names.specs.declared.entry.Entry.{Entry}
use Rattle.sgt_names.specs.declared.entry.Entry.TheVariants.{Read, Commit, Refuse}
use Rattle.sgt_names.specs.declared.entry.Change.{Change}
use Rattle.sgt_names.specs.declared.entry.Change.TheVariants.{Put, Add}
use Rattle.sgt_names.specs.declared.entry.Holding.{Holding}
use Rattle.sgt_names.proofs.Places.{Contains_at, All_at, All-from_at, AllPairs_at, AllPairs-from_at}
use Rattle.sgt_site.specs.State.{SiteState, IsSite, HasEnded, change_entry, want_entry}
use Rattle.sgt_names.proofs.Lists.{front_at, back_at, map_at, Any_at, Any-from_at}
use Rattle.sgt_site.proofs.Appends.{get_cases, MayFollow}
use Rattle.sgt_site.proofs.Entries.{tx_of-change_entry}
use Rattle.sgt_site.proofs.Projections.{no_write}

-- how the entries of a block and its end behave
pub record MakeBlocks (W : ℕ → Name → Change → Entry) (E : ℕ → Entry) : Type 0 where
  pub tx : (t : ℕ) (x : Name) (v : Change) → tx_of (W t x v) ≡ t
  pub end_tx : (t : ℕ) → tx_of (E t) ≡ t
  pub item : (t : ℕ) (x : Name) (v : Change) → item_of (W t x v) ≡ Some x
  pub end_item : (t : ℕ) → item_of (E t) ≡ None
  pub reads : (y : Name) (t : ℕ) (x : Name) (v : Change) → Reads y (W t x v) → ⊥
  pub writes : (y : Name) (t : ℕ) (x : Name) (v : Change) → Writes y (W t x v) → x ≡ y
  pub end_reads : (y : Name) (t : ℕ) → Reads y (E t) → ⊥
  pub end_writes : (y : Name) (t : ℕ) → Writes y (E t) → ⊥
  pub opens : (t : ℕ) (x : Name) (v : Change) → IsEnd (W t x v) → ⊥
  pub ends : (t : ℕ) → IsEnd (E t)
  pub shut : (t : ℕ) → IsOpen (E t) → ⊥
  pub goes_on : (t : ℕ) (x y : Name) (v w : Change) → Continues (W t x v) (W t y w)
  pub closes : (t : ℕ) (x : Name) (v : Change) → Continues (W t x v) (E t)

pub commits-blocks : MakeBlocks change_entry Commit
commits-blocks = record {
  tx = tx_of-change_entry;
  end_tx = λ t. refl;
  item = by_item;
  end_item = λ t. refl;
  reads = by_read;
  writes = by_write;
  end_reads = λ y t h. h;
  end_writes = λ y t h. h;
  opens = by_end;
  ends = λ t. tt;
  shut = λ t h. h;
  goes_on = by_next;
  closes = by_last;
}
  where
    by_item : (t : ℕ) (x : Name) (c : Change) → item_of (change_entry t x c) ≡ Some x
    by_item t x (Put v) = refl
    by_item t x (Add v) = refl

    by_read : (y : Name) (t : ℕ) (x : Name) (c : Change) → Reads y (change_entry t x c) → ⊥
    by_read y t x (Put v) h = h
    by_read y t x (Add v) h = h

    by_write : (y : Name) (t : ℕ) (x : Name) (c : Change) → Writes y (change_entry t x c) → x ≡ y
    by_write y t x (Put v) h = h
    by_write y t x (Add v) h = h

    by_end : (t : ℕ) (x : Name) (c : Change) → IsEnd (change_entry t x c) → ⊥
    by_end t x (Put v) h = h
    by_end t x (Add v) h = h

    by_next : (t : ℕ) (x y : Name) (c d : Change) → Continues (change_entry t x c) (change_entry t y d)
    by_next t x y (Put v) (Put w) = refl
    by_next t x y (Put v) (Add w) = refl
    by_next t x y (Add v) (Put w) = refl
    by_next t x y (Add v) (Add w) = refl

    by_last : (t : ℕ) (x : Name) (c : Change) → Continues (change_entry t x c) (Commit t)
    by_last t x (Put v) = refl
    by_last t x (Add v) = refl

pub refusals-blocks : MakeBlocks want_entry Refuse
refusals-blocks = record {
  tx = by_tx;
  end_tx = λ t. refl;
  item = by_item;
  end_item = λ t. refl;
  reads = by_read;
  writes = by_write;
  end_reads = λ y t h. h;
  end_writes = λ y t h. h;
  opens = by_end;
  ends = λ t. tt;
  shut = λ t h. h;
  goes_on = by_next;
  closes = by_last;
}
  where
    by_tx : (t : ℕ) (x : Name) (c : Change) → tx_of (want_entry t x c) ≡ t
    by_tx t x (Put v) = refl
    by_tx t x (Add v) = refl

    by_item : (t : ℕ) (x : Name) (c : Change) → item_of (want_entry t x c) ≡ Some x
    by_item t x (Put v) = refl
    by_item t x (Add v) = refl

    by_read : (y : Name) (t : ℕ) (x : Name) (c : Change) → Reads y (want_entry t x c) → ⊥
    by_read y t x (Put v) h = h
    by_read y t x (Add v) h = h

    by_write : (y : Name) (t : ℕ) (x : Name) (c : Change) → Writes y (want_entry t x c) → x ≡ y
    by_write y t x (Put v) h = h
    by_write y t x (Add v) h = h

    by_end : (t : ℕ) (x : Name) (c : Change) → IsEnd (want_entry t x c) → ⊥
    by_end t x (Put v) h = h
    by_end t x (Add v) h = h

    by_next : (t : ℕ) (x y : Name) (c d : Change) → Continues (want_entry t x c) (want_entry t y d)
    by_next t x y (Put v) (Put w) = refl
    by_next t x y (Put v) (Add w) = refl
    by_next t x y (Add v) (Put w) = refl
    by_next t x y (Add v) (Add w) = refl

    by_last : (t : ℕ) (x : Name) (c : Change) → Continues (want_entry t x c) (Refuse t)
    by_last t x (Put v) = refl
    by_last t x (Add v) = refl

module _ (W : ℕ → Name → Change → Entry) (E : ℕ → Entry) (make : MakeBlocks W E) (tx : ℕ) (ws : List (Name × Change))
  where
    abbrev pub block : List Entry
    block = map (λ (w : Name × Change). W tx w.0 w.1) ws ++ E tx ∷ []

    -- an entry of the block is one of its writes or its end
    pub in_block : {P : Type 0} (n : ℕ) (e : Entry) → slice_get block n ≡ Some e
        → ((w : Name × Change) → slice_get ws n ≡ Some w → e ≡ W tx w.0 w.1 → P) → (n ≡ length ws → e ≡ E tx → P) → P
    in_block {P} n e at write last = get_cases (map (λ (w : Name × Change). W tx w.0 w.1) ws) (E tx ∷ []) n e at
        (λ front. let from = map_at (λ (w : Name × Change). W tx w.0 w.1) ws n e front in
        write from.0 from.1 (sym from.2))
        (λ m is back. by_place m is back)
      where
        by_place : (m : ℕ) → n ≡ length (map (λ (w : Name × Change). W tx w.0 w.1) ws) + m
            → slice_get (E tx ∷ []) m ≡ Some e → P
        by_place zero is back = last (let l : length (map (λ (w : Name × Change). W tx w.0 w.1) ws) ≡ length ws =
            length-map ws (λ (w : Name × Change). W tx w.0 w.1) in omega (arith, l, is)) (sym (same_Some (E tx) e back))
        by_place (suc m) is back = absurd cc

    pub block_tx : (n : ℕ) (e : Entry) → slice_get block n ≡ Some e → tx_of e ≡ tx
    block_tx n e at = in_block n e at (λ w here is. ap tx_of is ∙ make.tx tx w.0 w.1) (λ here is. ap tx_of is
        ∙ make.end_tx tx)

    pub at_end : slice_get block (length ws) ≡ Some (E tx)
    at_end =
        let l : length (map (λ (w : Name × Change). W tx w.0 w.1) ws) ≡ length ws =
        length-map ws (λ (w : Name × Change). W tx w.0 w.1) in
        let place : length ws ≡ length (map (λ (w : Name × Change). W tx w.0 w.1) ws) + 0 = omega (arith, l) in
        ap (slice_get block) place ∙ back_at (map (λ (w : Name × Change). W tx w.0 w.1) ws) (E tx ∷ []) 0

    pub block_ends : HasEnded block tx
    block_ends = Any-from_at (λ e. (tx_of e ≡ tx) × IsEnd e) block (length ws) (E tx) at_end (
      make.end_tx tx,
      make.ends tx,
    )

    pub block_alone : (t : ℕ) → HasEnded block t → t ≡ tx
    block_alone t has = let a = Any_at (λ e. (tx_of e ≡ t) × IsEnd e) block has in sym a.3.0 ∙ block_tx a.0 a.1 a.2

    pub no_reads : (m t : ℕ) (x : Name) (v : ℕ) → slice_get block m ≡ Some (Read t x v) → ⊥
    no_reads m t x v at = in_block m (Read t x v) at
        (λ w here is. make.reads x tx w.0 w.1 (subst (Reads x) is refl))
        (λ here is. make.end_reads x tx (subst (Reads x) is refl))

    -- a block is in order by itself
    pub block_orderly : (items : List Holding) → IsRisingBy (λ w. w.0) (slice_cmp nat_cmp) ws
        → All (λ w. Contains (names items) w.0) ws → IsOrderly items block
    block_orderly items rising known = record {
      known = All-from_at (λ e. ForSome (item_of e) (Contains (names items))) block (λ n e at. in_block n e at
          (λ w here is y of. subst (Contains (names items)) (same_Some w.0 y (sym (ap item_of is ∙ make.item tx w.0 w.1)
          ∙ of)) (All_at (λ (w : Name × Change). Contains (names items) w.0) ws n w known here))
          (λ here is y of. absurd (let none = sym (ap item_of is ∙ make.end_item tx) ∙ of in cc)));
      once = AllPairs-from_at (λ e f. (x : Name) → Repeats x e f
          → ⊥) block (λ p q e f lt at_p at_q y repeats. in_block q f at_q
          (λ u at_u is_u. in_block p e at_p
          (λ w at_w is_w. twice p q w u y lt at_w at_u
          (subst (λ g. Repeats y g (W tx u.0 u.1)) is_w (subst (Repeats y e) is_u repeats)))
          (λ last is_e. ended_first y f (subst (λ g. Repeats y g f) is_e repeats)))
          (λ last is_f. ended_last y e (subst (Repeats y e) is_f repeats)));
      blocks = λ n e at opens. in_block n e at
          (λ w here is. next n w here e is)
          (λ last is. absurd (make.shut tx (subst IsOpen is opens)));
      closed = AllPairs-from_at (λ e f. IsEnd e
          → tx_of e ≢ tx_of f) block (λ p q e f lt at_p at_q ends same. in_block p e at_p
          (λ w here is. make.opens tx w.0 w.1 (subst IsEnd is ends))
          (λ last is.
          let within = slice_get_within block q f at_q in
          let l : length block ≡ length ws + 1 =
          length-append (map (λ (w : Name × Change). W tx w.0 w.1) ws) (E tx ∷ [])
          ∙ ap (λ k. k + 1) (length-map ws (λ (w : Name × Change). W tx w.0 w.1)) in
          absurd (omega (arith, within, l, last, lt))));
    }
      where
        ended_first : (y : Name) (f : Entry) → Repeats y (E tx) f → ⊥
        ended_first y f (same, inl reads) = make.end_reads y tx reads.0
        ended_first y f (same, inr writes) = make.end_writes y tx writes.0

        ended_last : (y : Name) (e : Entry) → Repeats y e (E tx) → ⊥
        ended_last y e (same, inl reads) = make.end_reads y tx reads.1
        ended_last y e (same, inr writes) = make.end_writes y tx writes.1

        twice : (p q : ℕ) (w u : Name × Change) (y : Name) → p < q → slice_get ws p ≡ Some w → slice_get ws q ≡ Some u
            → Repeats y (W tx w.0 w.1) (W tx u.0 u.1) → ⊥
        twice p q w u y lt at_w at_u (same, inl reads) = make.reads y tx w.0 w.1 reads.0
        twice p q w u y lt at_w at_u (same, inr writes) =
            let less : slice_cmp nat_cmp w.0 u.0 ≡ Less =
            AllPairs_at (λ (a b : Name × Change). slice_cmp nat_cmp a.0 b.0 ≡ Less) ws p q w u rising lt at_w at_u in
            let tied : slice_cmp nat_cmp w.0 u.0 ≡ Equal =
            subst (λ z. slice_cmp nat_cmp w.0 z ≡ Equal) (make.writes y tx w.0 w.1 writes.0
            ∙ sym (make.writes y tx u.0 u.1 writes.1)) (tied_itself nat_list_cmp_total w.0) in
            absurd cc

        next : (n : ℕ) (w : Name × Change) → slice_get ws n ≡ Some w → (e : Entry) → e ≡ W tx w.0 w.1
            → (f : Entry) × (slice_get block (suc n) ≡ Some f) × Continues e f
        next n w here e is = elim (cases_lt (suc n) (length ws)) [
          | inl lt ↦
              let u = get_or ws (suc n) w in
              let there = slice_get-get_or ws (suc n) w lt in (
                W tx u.0 u.1,
                front_at (map (λ (w : Name × Change). W tx w.0 w.1) ws) (E tx ∷ []) (suc n) (W tx u.0 u.1)
                    (slice_get-map (λ (w : Name × Change). W tx w.0 w.1) ws (suc n)
                    ∙ ap (λ o. option_map (λ (w : Name × Change). W tx w.0 w.1) o) there),
                subst (λ g. Continues g (W tx u.0 u.1)) (sym is) (make.goes_on tx w.0 u.0 w.1 u.1),
              )
          | inr le ↦
              let within = slice_get_within ws n w here in
              let last : suc n ≡ length ws = omega (arith, within, le) in (
                E tx,
                ap (slice_get block) last
                    ∙ at_end,
                subst (λ g. Continues g (E tx)) (sym is) (make.closes tx w.0 w.1),
              )
        ]

    -- it may follow the log of a site where the transaction has not ended
    pub block_follows : (s : SiteState) → IsSite s → (HasEnded s.entries tx → ⊥) → MayFollow s.entries block
    block_follows s site active = record {
      once = λ e f in_es in_bs y repeats.
          let from = Contains_at s.entries e in_es in
          let at = Contains_at block f in_bs in
          in_block at.0 f at.1
          (λ w here is. again e from.0 from.1 y w (subst (Repeats y e) is repeats))
          (λ last is. at_last e y (subst (Repeats y e) is repeats));
      closed = λ e f in_es in_bs ends same.
          let from = Contains_at s.entries e in_es in
          let at = Contains_at block f in_bs in
          active (Any-from_at (λ e. (tx_of e ≡ tx) × IsEnd e) s.entries from.0 e from.1 (
            same ∙ block_tx at.0 f at.1,
            ends,
          ));
    }
      where
        at_last : (e : Entry) (y : Name) → Repeats y e (E tx) → ⊥
        at_last e y (same, inl reads) = make.end_reads y tx reads.1
        at_last e y (same, inr writes) = make.end_writes y tx writes.1

        again : (e : Entry) (n : ℕ) → slice_get s.entries n ≡ Some e → (y : Name) (w : Name × Change)
            → Repeats y e (W tx w.0 w.1) → ⊥
        again e n at y w (same, inl reads) = make.reads y tx w.0 w.1 reads.1
        again e n at y w (same, inr writes) = no_write s site tx active n y e at (same ∙ make.tx tx w.0 w.1) writes.0
