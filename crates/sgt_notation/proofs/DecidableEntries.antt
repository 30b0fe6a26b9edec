-- Of two entries of a log it is known whether one goes on with the other's block, conflicts with it or repeats it.
use Rattle.std.proofs.Common.{◌≡◌, ℕ, Option, Some, None, refl, sym, ap, ◌∙◌, subst, inl, inr}
use Rattle.std.proofs.lemmas.Bool.{cases_eq}
use Rattle.std.proofs.lemmas.Option.{same_Some}
use Rattle.sgt_names.specs.Name.{Name}
use Rattle.sgt_names.specs.Entry.{tx_of, item_of, is_increment, IsEnd, IsOpen, GoesOn, GoesOnAsking, Continues, Reads, Writes, Clash, Repeats}
use Rattle.sgt_names.specs.declared.entry.Entry.{Entry}
use Rattle.sgt_names.specs.declared.entry.Entry.TheVariants.{Read, Write, Add, Want, WantAdd, Commit, Refuse, Withdraw}
use Rattle.sgt_names.specs.declared.entry.Kind.{Kind}
use Rattle.sgt_names.specs.declared.entry.Kind.TheVariants.{Wr, Rw, Ww}
use Rattle.sgt_notation.proofs.Decidable.{Decidable, decidable-as, decidable-both, decidable-three, decidable-either, decidable-if, decidable-not, decidable-test, decidable-text, or_else}

-- ---- one entry

pub decidable-end : (e : Entry) → Decidable (IsEnd e)
decidable-end (Commit tx) = inl tt
decidable-end (Refuse tx) = inl tt
decidable-end (Withdraw tx) = inl tt
decidable-end _ = inr (λ h. h)

pub decidable-open : (e : Entry) → Decidable (IsOpen e)
decidable-open (Write tx x v) = inl tt
decidable-open (Add tx x v) = inl tt
decidable-open (Want tx x v) = inl tt
decidable-open (WantAdd tx x v) = inl tt
decidable-open _ = inr (λ h. h)

decidable-reads : (x : Name) (e : Entry) → Decidable (Reads x e)
decidable-reads x (Read tx y v) = decidable-text y x
decidable-reads x _ = inr (λ h. h)

decidable-writes : (x : Name) (e : Entry) → Decidable (Writes x e)
decidable-writes x (Write tx y v) = decidable-text y x
decidable-writes x (Add tx y v) = decidable-text y x
decidable-writes x (Want tx y v) = decidable-text y x
decidable-writes x (WantAdd tx y v) = decidable-text y x
decidable-writes x _ = inr (λ h. h)

pub reads-item : (x : Name) (e : Entry) → Reads x e → item_of e ≡ Some x
reads-item x (Read tx y v) h = ap Some h
reads-item x _ h = absurd h

pub writes-item : (x : Name) (e : Entry) → Writes x e → item_of e ≡ Some x
writes-item x (Write tx y v) h = ap Some h
writes-item x (Add tx y v) h = ap Some h
writes-item x (Want tx y v) h = ap Some h
writes-item x (WantAdd tx y v) h = ap Some h
writes-item x _ h = absurd h

-- ---- the next entry of a block

decidable-goes_on : (i : ℕ) (e : Entry) → Decidable (GoesOn i e)
decidable-goes_on i (Write j x v) = cases_eq i j
decidable-goes_on i (Add j x v) = cases_eq i j
decidable-goes_on i (Commit j) = cases_eq i j
decidable-goes_on i _ = inr (λ h. h)

decidable-goes_on_asking : (i : ℕ) (e : Entry) → Decidable (GoesOnAsking i e)
decidable-goes_on_asking i (Want j x v) = cases_eq i j
decidable-goes_on_asking i (WantAdd j x v) = cases_eq i j
decidable-goes_on_asking i (Refuse j) = cases_eq i j
decidable-goes_on_asking i _ = inr (λ h. h)

pub decidable-continues : (e f : Entry) → Decidable (Continues e f)
decidable-continues (Write i x v) f = decidable-goes_on i f
decidable-continues (Add i x v) f = decidable-goes_on i f
decidable-continues (Want i x v) f = decidable-goes_on_asking i f
decidable-continues (WantAdd i x v) f = decidable-goes_on_asking i f
decidable-continues _ f = inr (λ h. h)

-- ---- two operations on one item

-- an item with this property stands in the entry, or it has none with it
of_item : (P : Name → Type 0) (e : Entry) → ((x : Name) → Decidable (P x)) → ((x : Name) → P x → item_of e ≡ Some x)
    → Decidable ((x : Name) × P x)
of_item P e each on = from (item_of e) refl
  where
    from : (o : Option Name) → item_of e ≡ o → Decidable ((x : Name) × P x)
    from None none = inr (λ h. let same : None ≡ Some h.0 = sym none ∙ on h.0 h.1 in cc)
    from (Some x) is =
        decidable-as (λ p. (x, p)) (λ h. subst P (same_Some h.0 x (sym (on h.0 h.1) ∙ is)) h.1) (each x)

pub decidable-clash : (kind : Kind) (x : Name) (e f : Entry) → Decidable (Clash kind x e f)
decidable-clash Wr x e f = decidable-both (decidable-writes x e) (decidable-reads x f)
decidable-clash Rw x e f = decidable-both (decidable-reads x e) (decidable-writes x f)
decidable-clash Ww x e f =
    decidable-three (decidable-writes x e) (decidable-writes x f)
    (decidable-if (decidable-test (is_increment e)) (λ added. decidable-not (decidable-test (is_increment f))))

pub clash-item : (kind : Kind) (x : Name) (e f : Entry) → Clash kind x e f → item_of e ≡ Some x
clash-item Wr x e f h = writes-item x e h.0
clash-item Rw x e f h = reads-item x e h.0
clash-item Ww x e f h = writes-item x e h.0

-- of some kind, on some item
pub decidable-clashes : (e f : Entry) → Decidable ((kind : Kind) × (x : Name) × Clash kind x e f)
decidable-clashes e f =
    or_else (on_item Wr) (λ h. (Wr, h.0, h.1))
    (λ wr. or_else (on_item Rw) (λ h. (Rw, h.0, h.1)) (λ rw. or_else (on_item Ww) (λ h. (Ww, h.0, h.1)) (λ ww.
    inr (λ h. none wr rw ww h.0 h.1 h.2))))
  where
    on_item : (kind : Kind) → Decidable ((x : Name) × Clash kind x e f)
    on_item kind = of_item (λ x. Clash kind x e f) e (λ x. decidable-clash kind x e f) (λ x h. clash-item kind x e f h)

    none : (((x : Name) × Clash Wr x e f) → ⊥) → (((x : Name) × Clash Rw x e f) → ⊥)
        → (((x : Name) × Clash Ww x e f) → ⊥)
        → (kind : Kind) (x : Name) → Clash kind x e f → ⊥
    none wr rw ww Wr x h = wr (x, h)
    none wr rw ww Rw x h = rw (x, h)
    none wr rw ww Ww x h = ww (x, h)

repeats-item : (x : Name) (e f : Entry) → Repeats x e f → item_of e ≡ Some x
repeats-item x e f h = elim h.1 [ inl reads ↦ reads-item x e reads.0 | inr writes ↦ writes-item x e writes.0 ]

-- no item of the first entry is repeated by the second
pub decidable-first : (e f : Entry) → Decidable ((x : Name) → Repeats x e f → ⊥)
decidable-first e f =
    decidable-as (λ none x h. none (x, h)) (λ none h. none h.0 h.1)
    (decidable-not (of_item (λ x. Repeats x e f) e (λ x. decidable-both (cases_eq (tx_of e) (tx_of f))
    (decidable-either (decidable-both (decidable-reads x e) (decidable-reads x f))
    (decidable-both (decidable-writes x e) (decidable-writes x f)))) (λ x h. repeats-item x e f h)))
