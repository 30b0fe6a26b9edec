-- The lines of sections are finitely many, so that one is found among them where there is one.
use Rattle.std.proofs.Common.{◌≡◌, ◌^◌, ℕ, zero, suc, ◌<◌, ◌≤◌, true, List, [], ◌∷◌, length, refl, arith, inl, inr}
use Rattle.std.specs.Prelude.{◌&&◌, ◌||◌, ◌==◌, nat_le}
use Rattle.std.specs.List.{list_all}
use Rattle.std.proofs.lemmas.Bool.{and_parts, or_left}
use Rattle.sgt_names.specs.Limits.{max_sites}
use Rattle.sgt_names.specs.Name.{Name, IsName, is_name_byte, is_small_letter}
use Rattle.sgt_names.proofs.Stored.{name_byte-low}
use Rattle.sgt_names.specs.declared.entry.Entry.{Entry}
use Rattle.sgt_names.specs.declared.entry.Entry.TheVariants.{Read, Write, Add, Want, WantAdd, Commit, Refuse, Withdraw}
use Rattle.sgt_names.specs.declared.entry.Holding.{Holding}
use Rattle.sgt_notation.specs.Spelling.{IsTx, IsValue, IsSite, IsHolding, IsEntry, IsLine}
use Rattle.sgt_notation.specs.Private.{IsOperation}
use Rattle.sgt_notation.specs.declared.SectionLine.{SectionLine}
use Rattle.sgt_notation.specs.declared.SectionLine.TheVariants.{Site, Initial, Logged, Final, End}
use Rattle.sgt_notation.proofs.Decidable.{Decidable, decidable-three, decidable-test, decidable-less, decidable-most, or_else, IsSearched, searched-below, searched-where, searched-both, searched-made, IsWithin, searched-lists}

-- ---- names

decidable-name : (x : Name) → Decidable (IsName x)
decidable-name [] = inr (λ h. h)
decidable-name (c ∷ cs) =
    decidable-three (decidable-test (is_small_letter c)) (decidable-test (list_all is_name_byte cs))
    (decidable-less (length cs) 16)

bytes-within : (most : ℕ) (cs : List ℕ) → list_all is_name_byte cs ≡ true → length cs ≤ most → IsWithin 128 most cs
bytes-within most [] all short = tt
bytes-within zero (c ∷ cs) all short = absurd (omega arith)
bytes-within (suc most) (c ∷ cs) all short =
    let both = and_parts (is_name_byte c) (list_all is_name_byte cs) all in
    (name_byte-low c both.0, bytes-within most cs both.1 (omega arith))

name-within : (x : Name) → IsName x → IsWithin 128 16 x
name-within [] h = absurd h
name-within (c ∷ cs) h = (
  name_byte-low c (or_left (is_small_letter c || (nat_le 48 c && nat_le c 57)) (c == 95)
      (or_left (is_small_letter c) (nat_le 48 c && nat_le c 57) h.0)),
  bytes-within 15 cs h.1 (omega (arith, h.2)),
)

pub searched-names : IsSearched Name IsName
searched-names = searched-where (IsWithin 128 16) IsName (searched-lists 128 16) decidable-name name-within

-- ---- numbers

pub searched-txs : IsSearched ℕ IsTx
searched-txs =
    searched-where (λ n. n < 2 ^ 32) IsTx (searched-below (2 ^ 32))
    (λ n. elim (decidable-most 1 n) [
      | inl le ↦ elim (decidable-less n (2 ^ 32)) [ inl lt ↦ inl (le, lt) | inr never ↦ inr (λ h. never h.1) ]
      | inr never ↦ inr (λ h. never h.0)
    ])
    (λ n h. h.1)

-- ---- entries

searched-operations : IsSearched (ℕ × Name × ℕ) IsOperation
searched-operations =
    searched-made (λ o. IsTx o.0 × (IsName o.1.0 × IsValue o.1.1)) IsOperation
    (λ (o : ℕ × (Name × ℕ)). (o.0, o.1.0, o.1.1))
    (searched-both IsTx (λ p. IsName p.0 × IsValue p.1) searched-txs
    (searched-both IsName IsValue searched-names (searched-below (2 ^ 64))))
    (λ o h. (h.0, h.1.0, h.1.1)) (λ o h. ((o.0, (o.1, o.2)), (h.0, (h.1, h.2)), refl))

module _ (Q : Entry → Type 0) where
  -- none of the operations, and of the ends, of one kind
  abbrev NoOperation : (ℕ → Name → ℕ → Entry) → Type 0
  NoOperation make = ((o : ℕ × Name × ℕ) × IsOperation o × Q (make o.0 o.1 o.2)) → ⊥

  abbrev NoEnd : (ℕ → Entry) → Type 0
  NoEnd make = ((tx : ℕ) × IsTx tx × Q (make tx)) → ⊥

  no-entry : NoOperation Read → NoOperation Write → NoOperation Add → NoOperation Want → NoOperation WantAdd
      → NoEnd Commit → NoEnd Refuse → NoEnd Withdraw
      → (e : Entry) → IsEntry e → Q e → ⊥
  no-entry r w d p q c n a (Read tx x v) is h = r ((tx, x, v), is, h)
  no-entry r w d p q c n a (Write tx x v) is h = w ((tx, x, v), is, h)
  no-entry r w d p q c n a (Add tx x v) is h = d ((tx, x, v), is, h)
  no-entry r w d p q c n a (Want tx x v) is h = p ((tx, x, v), is, h)
  no-entry r w d p q c n a (WantAdd tx x v) is h = q ((tx, x, v), is, h)
  no-entry r w d p q c n a (Commit tx) is h = c (tx, is, h)
  no-entry r w d p q c n a (Refuse tx) is h = n (tx, is, h)
  no-entry r w d p q c n a (Withdraw tx) is h = a (tx, is, h)

  module _ (each : (e : Entry) → Decidable (Q e)) where
    operation-of : (make : ℕ → Name → ℕ → Entry) → Decidable ((o : ℕ × Name × ℕ) × IsOperation o × Q (make o.0 o.1 o.2))
    operation-of make = searched-operations (λ o. Q (make o.0 o.1 o.2)) (λ o. each (make o.0 o.1 o.2))

    end-of : (make : ℕ → Entry) → Decidable ((tx : ℕ) × IsTx tx × Q (make tx))
    end-of make = searched-txs (λ tx. Q (make tx)) (λ tx. each (make tx))

    entry-found : Decidable ((e : Entry) × IsEntry e × Q e)
    entry-found =
        or_else (operation-of Read) (λ h. (Read h.0.0 h.0.1 h.0.2, h.1, h.2)) (λ r.
        or_else (operation-of Write) (λ h. (Write h.0.0 h.0.1 h.0.2, h.1, h.2)) (λ w.
        or_else (operation-of Add) (λ h. (Add h.0.0 h.0.1 h.0.2, h.1, h.2)) (λ d.
        or_else (operation-of Want) (λ h. (Want h.0.0 h.0.1 h.0.2, h.1, h.2)) (λ p.
        or_else (operation-of WantAdd) (λ h. (WantAdd h.0.0 h.0.1 h.0.2, h.1, h.2)) (λ q.
        or_else (end-of Commit) (λ h. (Commit h.0, h.1, h.2)) (λ c.
        or_else (end-of Refuse) (λ h. (Refuse h.0, h.1, h.2)) (λ n.
        or_else (end-of Withdraw) (λ h. (Withdraw h.0, h.1, h.2)) (λ a.
        inr (λ h. no-entry r w d p q c n a h.0 h.1 h.2)))))))))

searched-entries : IsSearched Entry IsEntry
searched-entries Q each = entry-found Q each

-- ---- lines

pub searched-holdings : IsSearched Holding IsHolding
searched-holdings =
    searched-made (λ p. IsName p.0 × IsValue p.1) IsHolding (λ (p : Name × ℕ). record { item = p.0; value = p.1 })
    (searched-both IsName IsValue searched-names (searched-below (2 ^ 64)))
    (λ p h. (h.0, h.1)) (λ h is. ((h.item, h.value), (is.0, is.1), refl))

module _ (Q : SectionLine → Type 0) where
  no-line : (((k : ℕ) × IsSite k × Q (Site k)) → ⊥) → (((h : Holding) × IsHolding h × Q (Initial h)) → ⊥)
      → (((e : Entry) × IsEntry e × Q (Logged e)) → ⊥)
      → (((h : Holding) × IsHolding h × Q (Final h)) → ⊥) → (Q End → ⊥) → (l : SectionLine) → IsLine l → Q l → ⊥
  no-line s i e f n (Site k) is h = s (k, is, h)
  no-line s i e f n (Initial x) is h = i (x, is, h)
  no-line s i e f n (Logged x) is h = e (x, is, h)
  no-line s i e f n (Final x) is h = f (x, is, h)
  no-line s i e f n End is h = n h

  line-found : ((l : SectionLine) → Decidable (Q l)) → Decidable ((l : SectionLine) × IsLine l × Q l)
  line-found each =
      or_else (searched-below max_sites (λ k. Q (Site k)) (λ k. each (Site k))) (λ h. (Site h.0, h.1, h.2)) (λ s.
      or_else (searched-holdings (λ h. Q (Initial h)) (λ h. each (Initial h))) (λ h. (Initial h.0, h.1, h.2)) (λ i.
      or_else (searched-entries (λ e. Q (Logged e)) (λ e. each (Logged e))) (λ h. (Logged h.0, h.1, h.2)) (λ e.
      or_else (searched-holdings (λ h. Q (Final h)) (λ h. each (Final h))) (λ h. (Final h.0, h.1, h.2)) (λ f.
      or_else (each End) (λ h. (End, tt, h)) (λ n.
      inr (λ h. no-line s i e f n h.0 h.1 h.2))))))

-- a line that is so is found, or there is none
pub searched-lines : IsSearched SectionLine IsLine
searched-lines Q each = line-found Q each
