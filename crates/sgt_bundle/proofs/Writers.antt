-- In a valid log the committed changes and reads of an item stand in rising rank, but for increments among themselves.
use Rattle.std.proofs.Common.{◌≡◌, ◌≢◌, ℕ, zero, suc, ◌+◌, ◌-◌, ◌<◌, ◌≤◌, List, ◌∷◌, ◌++◌, take, drop, Option, Some, refl, sym, ap, ap₂, ◌∙◌, subst, arith, inl, inr}
use Rattle.std.specs.Prelude.{slice_get}
use Rattle.std.specs.List.{filter_map}
use Rattle.std.proofs.lemmas.Bool.{cases_eq, lt-ltb, le-ltb}
use Rattle.std.proofs.lemmas.List.{append-nil}
use Rattle.std.proofs.lemmas.Option.{same_Some}
use Rattle.sgt_names.specs.Name.{Name}
use Rattle.sgt_names.specs.Entry.{tx_of, change_of, Writes, IsEnd, GoesOn, Repeats}
use Rattle.sgt_names.specs.Log.{IsOrderly}
use Rattle.sgt_names.specs.declared.entry.Change.{Change}
use Rattle.sgt_names.specs.declared.entry.Entry.{Entry}
use Rattle.sgt_names.specs.declared.entry.Entry.TheVariants.{Read, Write, Add}
use Rattle.sgt_names.specs.declared.entry.Holding.{Holding}
use Rattle.sgt_names.specs.declared.entry.Kind.TheVariants.{Wr, Rw, Ww}
use Rattle.sgt_names.proofs.Places.{All_at, AllPairs_at, slice_get-take, slice_get-drop, split_at}
use Rattle.sgt_names.proofs.Chosen.{chosen, under, chosen-append, chosen-silent, chosen-all, chosen-none}
use Rattle.sgt_names.proofs.Increments.{RisesButAdds, IsChange, change-is, change-writes, change-adds, change-opens, change-goes_on, goes_on_cases}
use Rattle.sgt_bundle.specs.Certificate.{decided_tx, IsDecidedOnce, IsCommitted, Suits}
use Rattle.sgt_bundle.specs.Valid.{IsDecided, Agrees, RiseInRank, IsRanked}
use Rattle.sgt_bundle.specs.declared.certificate.Decision.{Decision}
use Rattle.sgt_bundle.specs.declared.certificate.Decision.TheVariants as decision
use Rattle.sgt_bundle.proofs.Ranks.{rank_of, rank_of-committed, committed-rank_of}

-- what suits a change is a commit
commit-of : (e : Entry) (d : Decision) → IsChange e → Suits e d → (rank : ℕ) × (d ≡ decision.Commit (decided_tx d) rank)
commit-of (Write tx x v) (decision.Commit t rank) is suits = (rank, refl)
commit-of (Add tx x v) (decision.Commit t rank) is suits = (rank, refl)
commit-of (Write tx x v) _ is suits = absurd suits
commit-of (Add tx x v) _ is suits = absurd suits
commit-of _ d is suits = absurd is

abbrev Once : Entry → Entry → Type 0
Once e f = (x : Name) → Repeats x e f → ⊥

abbrev Closed : Entry → Entry → Type 0
Closed e f = IsEnd e → tx_of e ≢ tx_of f

module _ (ds : List Decision) (once : IsDecidedOnce ds) (items : List Holding) (log : List Entry)
    (orderly : IsOrderly items log) (agrees : Agrees ds log) (ranked : IsRanked ds log) where
  abbrev pub key : Entry → Option ℕ
  key e = rank_of ds (tx_of e)

  -- who changed an item is committed
  pub writer-committed : (n : ℕ) (e : Entry) → slice_get log n ≡ Some e → IsChange e
      → (rank : ℕ) × (number : ℕ) × IsCommitted ds number (tx_of e) rank
  writer-committed n e at is =
      let d = All_at (λ e. (number : ℕ) × IsDecided ds e number) log n e agrees.decided at in
      let c = commit-of e d.1.0 is d.1.3 in
      (c.0, d.0, d.1.1 ∙ ap Some c.1 ∙ ap (λ t. Some (decision.Commit t c.0)) d.1.2)

  -- two changes of an item are of two transactions
  changes-apart : (m n : ℕ) (a b : Entry) (x : Name) → m < n → slice_get log m ≡ Some a → slice_get log n ≡ Some b
      → Writes x a → Writes x b → tx_of a ≢ tx_of b
  changes-apart m n a b x lt at_m at_n first second same =
      AllPairs_at Once log m n a b orderly.once lt at_m at_n x (same, inr (first, second))

  -- the changes of an item stand in rising rank, but for two increments
  pub changes-rise : (x : Name) → RisesButAdds key (change_of x) log
  changes-rise x m n a b r s v w lt at_m at_n key_a key_b val_a val_b other =
      let first = change-writes x a v val_a in
      let second = change-writes x b w val_b in
      let i = committed-rank_of ds (tx_of a) r key_a in
      let j = committed-rank_of ds (tx_of b) s key_b in
      AllPairs_at (RiseInRank ds) log m n a b ranked lt at_m at_n Ww x i.0 j.0 r s (
        first,
        second,
        λ is_a is_b. other (change-adds x a v val_a is_a) (change-adds x b w val_b is_b),
      )
      (changes-apart m n a b x lt at_m at_n first second) i.1 j.1

  -- no transaction reads after a change of its own: the block of its changes goes on to its commit
  pub reads-first : (d p n : ℕ) (e : Entry) (y : Name) (w : ℕ) → n ≡ p + suc d → slice_get log p ≡ Some e → IsChange e
      → slice_get log n ≡ Some (Read (tx_of e) y w) → ⊥
  reads-first zero p n e y w far at_p is at_n =
      let next = orderly.blocks p e at_p (change-opens e is) in
      let here : n ≡ suc p = omega arith in
      let f-is = same_Some next.0 (Read (tx_of e) y w) (sym next.1 ∙ ap (slice_get log) (sym here) ∙ at_n) in
      subst (GoesOn (tx_of e)) f-is (change-goes_on e next.0 is next.2)
  reads-first (suc d) p n e y w far at_p is at_n =
      let next = orderly.blocks p e at_p (change-opens e is) in
      let f = next.0 in
      let goes = goes_on_cases (tx_of e) f (change-goes_on e f is next.2) in
      elim goes.1 [
        | inl more ↦ reads-first d (suc p) n f y w (omega arith) next.1 more (at_n ∙ ap (λ t. Some (Read t y w)) goes.0)
        | inr ended ↦ AllPairs_at Closed log (suc p) n f (Read (tx_of e) y w) orderly.closed (omega arith) next.1 at_n
            ended (sym goes.0)
      ]

  -- before a committed read of an item stand just the changes of it of smaller rank
  pub before-read : (n tx : ℕ) (x : Name) (v number r : ℕ) → slice_get log n ≡ Some (Read tx x v)
      → IsCommitted ds number tx r → chosen key (change_of x) (under r) log ≡ filter_map (change_of x) (take n log)
  before-read n tx x v number r at committed =
      let read = Read tx x v in
      let front = chosen-all key (change_of x) (under r) (take n log) (λ k a c here gives.
      let place = slice_get-take log n k a here in
      let at_k = place.1 in
      let is = change-is x a c gives in
      let writer = writer-committed k a at_k is in
      let apart : tx_of a ≢ tx = λ same. reads-first (n - suc k) k n a x v (omega (arith, place.0)) at_k is (at
      ∙ ap (λ t. Some (Read t x v)) (sym same)) in
      let less : writer.0 < r =
      AllPairs_at (RiseInRank ds) log k n a read ranked place.0 at_k at Wr x writer.1 number writer.0 r
      (change-writes x a c gives, refl) apart writer.2 committed in
      ap (under r) (rank_of-committed ds writer.1 (tx_of a) writer.0 once writer.2) ∙ lt-ltb writer.0 r less) in
      let back = chosen-none key (change_of x) (under r) (drop (suc n) log) (λ k a c here gives.
      let at_k = sym (slice_get-drop log (suc n) k) ∙ here in
      let writer = writer-committed (suc n + k) a at_k (change-is x a c gives) in
      let more : r ≤ writer.0 = elim (cases_eq tx (tx_of a)) [
        | inl same ↦
            let equal = same_Some r writer.0 (sym (rank_of-committed ds number tx r once committed)
            ∙ ap (rank_of ds) same ∙ rank_of-committed ds writer.1 (tx_of a) writer.0 once writer.2) in
            omega arith
        | inr apart ↦
            let less : r < writer.0 =
            AllPairs_at (RiseInRank ds) log n (suc n + k) read a ranked (omega arith) at at_k Rw x number writer.1
            r writer.0 (refl, change-writes x a c gives) apart committed writer.2 in
            omega arith
      ] in
      ap (under r) (rank_of-committed ds writer.1 (tx_of a) writer.0 once writer.2) ∙ le-ltb writer.0 r more) in
      ap (chosen key (change_of x) (under r)) (split_at log n read at)
      ∙ chosen-append key (change_of x) (under r) (take n log) (read ∷ drop (suc n) log)
      ∙ ap₂ (λ (us vs : List Change). us ++ vs) front
      (chosen-silent key (change_of x) (under r) read (drop (suc n) log) refl ∙ back)
      ∙ append-nil (filter_map (change_of x) (take n log))
