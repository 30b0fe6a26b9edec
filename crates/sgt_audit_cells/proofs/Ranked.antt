-- The greatest ranks of a cell, against the rule on pairs of entries, and after one more entry.
use Rattle.std.proofs.Common.{◌≡◌, ◌≢◌, ℕ, ◌<◌, ◌≤◌, max, List, [], ◌∷◌, ◌++◌, Option, Some, None, refl, sym, ◌∙◌, subst, arith, inl, inr, ◌⊎◌, All, Contains}
use Rattle.std.specs.Prelude.{◌↔◌}
use Rattle.std.proofs.lemmas.Bool.{cases_order, true≢false}
use Rattle.std.proofs.lemmas.Option.{same_Some}
use Rattle.std.proofs.lemmas.List.Elements.{Contains-push, Contains-append_left, Contains-push_cases}
use Rattle.sgt_names.proofs.Places.{All_at, All-from_at, Contains_at, Contains-from_at}
use Rattle.sgt_names.specs.Name.{Name}
use Rattle.sgt_names.specs.Entry.{tx_of, item_of, Reads, Writes, IsIncrement}
use Rattle.sgt_names.specs.declared.entry.Entry.{Entry}
use Rattle.sgt_names.specs.declared.entry.Entry.TheVariants.{Read, Write, Add, Want, WantAdd, Commit, Refuse, Withdraw}
use Rattle.sgt_names.specs.declared.entry.Holding.{Holding}
use Rattle.sgt_names.specs.declared.entry.Kind.TheVariants.{Wr, Rw, Ww}
use Rattle.sgt_bundle.specs.Certificate.{IsCommitted, IsDecidedOnce, AreRanks, ranks}
use Rattle.sgt_bundle.specs.Valid.{RiseInRank}
use Rattle.sgt_bundle.specs.declared.certificate.Decision.{Decision}
use Rattle.sgt_bundle.proofs.Ranks.{rank_of-committed, of_rank}
use Rattle.sgt_audit_cells.specs.declared.cell.Cell.{Cell}
use Rattle.sgt_audit_cells.specs.Cells.{IsGreatest, IsRankedWith, Puts, Increments, IsCell, IsRankOf}
use Rattle.sgt_audit_cells.specs.private.Noted.{IsUpTo, Passes, raised}

pub one-rank : (ds : List Decision) (m n tx r s : ℕ) → IsDecidedOnce ds → IsCommitted ds m tx r
    → IsCommitted ds n tx s → r ≡ s
one-rank ds m n tx r s once a b = same_Some r s (sym (rank_of-committed ds m tx r once a)
    ∙ rank_of-committed ds n tx s once b)

pub one-of_rank : (ds : List Decision) (m n t u r : ℕ) → AreRanks (ranks ds) → IsCommitted ds m t r
    → IsCommitted ds n u r → t ≡ u
one-of_rank ds m n t u r are a b =
    elim (of_rank ds r are.apart) [
      | inl none ↦ absurd (none.none m t a)
      | inr found ↦ found.1.only m t a ∙ sym (found.1.only n u b)
    ]

-- ---- the greatest number

-- the greatest is up to a number just where all are
pub up_to-all : (Has : Entry → ℕ → Type 0) (entries : List Entry) (top : Option ℕ) (s : ℕ) → IsGreatest Has entries top
    → IsUpTo s top ↔ ((f : Entry) (r : ℕ) → Contains entries f → Has f r → r ≤ s)
up_to-all Has entries None s is = (λ up f r here has. absurd (is f r here has), λ all. tt)
up_to-all Has entries (Some t) s (met, most) = (
  λ up f r here has. let le = most f r here has in omega arith,
  λ all. all met.0 t met.1 met.2,
)

-- what an entry has, if it has one
abbrev pub IsOnly : (ℕ → Type 0) → Option ℕ → Type 0
IsOnly P None = (r : ℕ) → P r → ⊥
IsOnly P (Some s) = P s × ((r : ℕ) → P r → r ≡ s)

-- an entry that has none leaves the greatest
pub greatest-left : (Has : Entry → ℕ → Type 0) (entries : List Entry) (top : Option ℕ) (e : Entry)
    → ((r : ℕ) → Has e r → ⊥) → IsGreatest Has entries top → IsGreatest Has (entries ++ e ∷ []) top
greatest-left Has entries None e not is = λ f r here has.
    elim (Contains-push_cases entries e f here) [
      | inl old ↦ is f r old has
      | inr new ↦ not r (subst (λ g. Has g r) (sym new) has)
    ]
greatest-left Has entries (Some t) e not (met, most) = (
  (met.0, Contains-append_left entries (e ∷ []) met.0 met.1, met.2),
  λ f r here has.
      elim (Contains-push_cases entries e f here) [
        | inl old ↦ most f r old has
        | inr new ↦ absurd (not r (subst (λ g. Has g r) (sym new) has))
      ],
)

-- one that has one raises it
pub greatest-raised : (Has : Entry → ℕ → Type 0) (entries : List Entry) (top rank : Option ℕ) (e : Entry)
    → IsOnly (Has e) rank → IsGreatest Has entries top → IsGreatest Has (entries ++ e ∷ []) (raised top rank)
greatest-raised Has entries top None e none is = greatest-left Has entries top e none is
greatest-raised Has entries None (Some s) e (has_s, only) is = (
  (e, Contains-push entries e, has_s),
  λ f r here has.
      elim (Contains-push_cases entries e f here) [
        | inl old ↦ absurd (is f r old has)
        | inr new ↦ let eq = only r (subst (λ g. Has g r) (sym new) has) in omega arith
      ],
)
greatest-raised Has entries (Some t) (Some s) e (has_s, only) (met, most) = (
  greatest,
  λ f r here has.
      elim (Contains-push_cases entries e f here) [
        | inl old ↦ let le = most f r old has in omega arith
        | inr new ↦ let eq = only r (subst (λ g. Has g r) (sym new) has) in omega arith
      ],
)
  where
    greatest : (f : Entry) × Contains (entries ++ e ∷ []) f × Has f (max t s)
    greatest =
        elim (cases_order t s) [
          | inl same ↦ (e, Contains-push entries e, subst (Has e) (omega arith) has_s)
          | inr (inl less) ↦ (e, Contains-push entries e, subst (Has e) (omega arith) has_s)
          | inr (inr more) ↦ (
            met.0,
            Contains-append_left entries (e ∷ []) met.0 met.1,
            subst (Has met.0) (omega arith) met.2,
          )
        ]

-- ---- ranks

-- the rank of an entry that does it
pub ranked-only : (ds : List Decision) (Does : Entry → Type 0) (e : Entry) (rank : Option ℕ) → IsDecidedOnce ds
    → Does e → IsRankOf ds (tx_of e) rank → IsOnly (IsRankedWith ds Does e) rank
ranked-only ds Does e None once does none = λ r has. none r has.1
ranked-only ds Does e (Some s) once does by =
    ((does, by), λ r has. one-rank ds has.1.0 by.0 (tx_of e) r s once has.1.1 by.1)

module _ (ds : List Decision) (entries : List Entry) (once : IsDecidedOnce ds) (are : AreRanks (ranks ds)) (e : Entry)
    (n s : ℕ) (by : IsCommitted ds n (tx_of e) s) where
  -- each entry that does it, of another committed transaction, is of smaller rank
  abbrev pub AllBelow : (Entry → Type 0) → Type 0
  AllBelow Does = (f : Entry) (m r : ℕ) → Contains entries f → Does f → tx_of f ≢ tx_of e
      → IsCommitted ds m (tx_of f) r → r < s

  pub up_to-below : (Does : Entry → Type 0) (top : Option ℕ) → IsGreatest (IsRankedWith ds Does) entries top
      → IsUpTo s top → AllBelow Does
  up_to-below Does top is up = λ f m r here does apart at.
      let le = (up_to-all (IsRankedWith ds Does) entries top s is).0 up f r here (does, (m, at)) in
      elim (cases_order r s) [
        | inl same ↦ absurd
            (apart (one-of_rank ds m n (tx_of f) (tx_of e) s are (subst (IsCommitted ds m (tx_of f)) same at) by))
        | inr (inl less) ↦ less
        | inr (inr more) ↦ absurd (omega arith)
      ]

  pub below-up_to : (Does : Entry → Type 0) (top : Option ℕ) → IsGreatest (IsRankedWith ds Does) entries top
      → AllBelow Does → IsUpTo s top
  below-up_to Does None is below = tt
  below-up_to Does (Some t) (met, most) below =
      elim (cases_order t s) [
        | inl same ↦ omega arith
        | inr (inl less) ↦ omega arith
        | inr (inr more) ↦
            let has = met.2 in
            let lt = below met.0 has.1.0 t met.1 has.0
            (λ same. absurd (let eq =
            one-rank ds has.1.0 n (tx_of e) t s once (subst (λ tx. IsCommitted ds has.1.0 tx t) same has.1.1)
            by in omega arith)) has.1.1 in
            absurd (omega arith)
      ]

-- one pair
abbrev Rises : List Decision → Entry → Entry → Type 0
Rises ds e f = RiseInRank ds f e

each-is : (ds : List Decision) (entries : List Entry) (e f : Entry) → All (Rises ds e) entries → Contains entries f
    → RiseInRank ds f e
each-is ds entries e f all here = let at = Contains_at entries f here in All_at (Rises ds e) entries at.0 f all at.1

pub all-are : (ds : List Decision) (entries : List Entry) (e : Entry)
    → ((f : Entry) → Contains entries f → RiseInRank ds f e) → All (Rises ds e) entries
all-are ds entries e h = All-from_at (Rises ds e) entries (λ n f at. h f (Contains-from_at entries n f at))

pub same-name : (x y : Name) → Some x ≡ Some y → x ≡ y
same-name x y e = same_Some x y e

-- ---- writes and increments

writes-cases : (x : Name) (f : Entry) → Writes x f → Puts x f ⊎ Increments x f
writes-cases x (Write tx y v) w = inl w
writes-cases x (Want tx y v) w = inl w
writes-cases x (Add tx y v) w = inr w
writes-cases x (WantAdd tx y v) w = inr w
writes-cases x _ w = absurd w

writes-puts : (x : Name) (f : Entry) → Writes x f → (IsIncrement f → ⊥) → Puts x f
writes-puts x (Write tx y v) w not = w
writes-puts x (Want tx y v) w not = w
writes-puts x (Add tx y v) w not = absurd (not refl)
writes-puts x (WantAdd tx y v) w not = absurd (not refl)
writes-puts x _ w not = absurd w

puts-writes : (x : Name) (f : Entry) → Puts x f → Writes x f
puts-writes x (Write tx y v) p = p
puts-writes x (Want tx y v) p = p
puts-writes x _ p = absurd p

puts-plain : (x : Name) (f : Entry) → Puts x f → IsIncrement f → ⊥
puts-plain x (Write tx y v) p is = true≢false (sym is)
puts-plain x (Want tx y v) p is = true≢false (sym is)
puts-plain x _ p is = absurd p

increments-writes : (x : Name) (f : Entry) → Increments x f → Writes x f
increments-writes x (Add tx y v) a = a
increments-writes x (WantAdd tx y v) a = a
increments-writes x _ a = absurd a

-- ---- the cell decides the rule

module _ (ds : List Decision) (items : List Holding) (entries : List Entry) (c : Cell) (once : IsDecidedOnce ds)
    (are : AreRanks (ranks ds)) (is : IsCell ds items entries c) where
  -- a read: the writers and the incrementers before it
  read-decides : (tx : ℕ) (v n s : ℕ) → IsCommitted ds n tx s → (IsUpTo s c.writer × IsUpTo s c.adder)
      ↔ All (Rises ds (Read tx c.name v)) entries
  read-decides tx v n s by =
      let e = Read tx c.name v in (
        λ up. all-are ds entries e (λ f here. elim [
          | Wr ↦ λ x i j r t clash apart at_i at_j.
              let w = subst (λ y. Writes y f) (sym clash.1) clash.0 in
              let eq = one-rank ds j n tx t s once at_j by in
              elim (writes-cases c.name f w) [
                | inl puts ↦ let lt =
                    up_to-below ds entries once are e n s by (Puts c.name) c.writer is.writer up.0 f i r here puts
                    apart at_i in omega arith
                | inr adds ↦ let lt =
                    up_to-below ds entries once are e n s by (Increments c.name) c.adder is.adder up.1 f i r here adds
                    apart at_i in omega arith
              ]
          | Rw ↦ λ x i j r t clash. absurd clash.1
          | Ww ↦ λ x i j r t clash. absurd clash.1
        ]),
        λ all. (
          below-up_to ds entries once are e n s by (Puts c.name) c.writer is.writer
              (λ f i r here w apart at_i. each-is ds entries e f all here Wr c.name i n r s (
                puts-writes c.name f w,
                refl,
              ) apart at_i by),
          below-up_to ds entries once are e n s by (Increments c.name) c.adder is.adder
              (λ f i r here w apart at_i. each-is ds entries e f all here Wr c.name i n r s
              (increments-writes c.name f w, refl) apart at_i by),
        ),
      )

  module _ (e : Entry) (n s : ℕ) (by : IsCommitted ds n (tx_of e) s) (writes : Writes c.name e) (alone : (x : Name)
      → Writes x e → x ≡ c.name) (no_read : (x : Name) → Reads x e → ⊥) where
    -- a write: the readers, the writers and the incrementers before it
    put-decides : (IsIncrement e → ⊥) → (IsUpTo s c.reader × IsUpTo s c.writer × IsUpTo s c.adder)
        ↔ All (Rises ds e) entries
    put-decides plain = (
      λ up. all-are ds entries e (λ f here. elim [
        | Wr ↦ λ x i j r t clash. absurd (no_read x clash.1)
        | Rw ↦ λ x i j r t clash apart at_i at_j. let d = subst (λ y. Reads y f) (alone x clash.1) clash.0 in
            let lt = up_to-below ds entries once are e n s by (Reads c.name) c.reader is.reader up.0 f i r here d
            apart at_i in
            let eq = one-rank ds j n (tx_of e) t s once at_j by in omega arith
        | Ww ↦ λ x i j r t clash apart at_i at_j.
            let d = subst (λ y. Writes y f) (alone x clash.1) clash.0 in
            let eq = one-rank ds j n (tx_of e) t s once at_j by in
            elim (writes-cases c.name f d) [
              | inl puts ↦ let lt =
                  up_to-below ds entries once are e n s by (Puts c.name) c.writer is.writer up.1 f i r here puts apart
                  at_i in omega arith
              | inr adds ↦ let lt =
                  up_to-below ds entries once are e n s by (Increments c.name) c.adder is.adder up.2 f i r here adds
                  apart at_i in omega arith
            ]
      ]),
      λ all. (
        below-up_to ds entries once are e n s by (Reads c.name) c.reader is.reader
            (λ f i r here d apart at_i. each-is ds entries e f all here Rw c.name i n r s (d, writes) apart at_i by),
        below-up_to ds entries once are e n s by (Puts c.name) c.writer is.writer
            (λ f i r here d apart at_i. each-is ds entries e f all here Ww c.name i n r s (
              puts-writes c.name f d,
              writes,
              λ p q. plain q,
            ) apart at_i by),
        below-up_to ds entries once are e n s by (Increments c.name) c.adder is.adder
            (λ f i r here d apart at_i. each-is ds entries e f all here Ww c.name i n r s
            (increments-writes c.name f d, writes, λ p q. plain q) apart at_i by),
      ),
    )

    -- an increment: the readers and the writers before it
    add-decides : IsIncrement e → (IsUpTo s c.reader × IsUpTo s c.writer) ↔ All (Rises ds e) entries
    add-decides adds = (
      λ up. all-are ds entries e (λ f here. elim [
        | Wr ↦ λ x i j r t clash. absurd (no_read x clash.1)
        | Rw ↦ λ x i j r t clash apart at_i at_j. let d = subst (λ y. Reads y f) (alone x clash.1) clash.0 in
            let lt = up_to-below ds entries once are e n s by (Reads c.name) c.reader is.reader up.0 f i r here d
            apart at_i in
            let eq = one-rank ds j n (tx_of e) t s once at_j by in omega arith
        | Ww ↦ λ x i j r t clash apart at_i at_j.
            let d = subst (λ y. Writes y f) (alone x clash.1) clash.0 in
            let eq = one-rank ds j n (tx_of e) t s once at_j by in
            let lt = up_to-below ds entries once are e n s by (Puts c.name) c.writer is.writer up.1 f i r here
            (writes-puts c.name f d (λ p. clash.2 p adds)) apart at_i in omega arith
      ]),
      λ all. (
        below-up_to ds entries once are e n s by (Reads c.name) c.reader is.reader
            (λ f i r here d apart at_i. each-is ds entries e f all here Rw c.name i n r s (d, writes) apart at_i by),
        below-up_to ds entries once are e n s by (Puts c.name) c.writer is.writer
            (λ f i r here d apart at_i. each-is ds entries e f all here Ww c.name i n r s (
              puts-writes c.name f d,
              writes,
              λ p q. puts-plain c.name f d p,
            ) apart at_i by),
      ),
    )

  pub passes-decides : (e : Entry) (rank : Option ℕ) → item_of e ≡ Some c.name → IsRankOf ds (tx_of e) rank
      → Passes c e rank ↔ All (Rises ds e) entries
  passes-decides e None on none =
      (λ up. all-are ds entries e (λ f here k x i j r t clash apart at_i at_j. absurd (none t (j, at_j))), λ all. tt)
  passes-decides (Read tx x v) (Some s) on (n, by) =
      subst (λ y. (IsUpTo s c.writer × IsUpTo s c.adder) ↔ All (Rises ds (Read tx y v)) entries)
      (sym (same-name x c.name on)) (read-decides tx v n s by)
  passes-decides (Write tx x v) (Some s) on (n, by) =
      put-decides (Write tx x v) n s by (same-name x c.name on) (λ y w. sym w ∙ same-name x c.name on) (λ y r. r)
      (λ is. true≢false (sym is))
  passes-decides (Want tx x v) (Some s) on (n, by) =
      put-decides (Want tx x v) n s by (same-name x c.name on) (λ y w. sym w ∙ same-name x c.name on) (λ y r. r)
      (λ is. true≢false (sym is))
  passes-decides (Add tx x v) (Some s) on (n, by) =
      add-decides (Add tx x v) n s by (same-name x c.name on) (λ y w. sym w ∙ same-name x c.name on) (λ y r. r) refl
  passes-decides (WantAdd tx x v) (Some s) on (n, by) =
      add-decides (WantAdd tx x v) n s by (same-name x c.name on) (λ y w. sym w ∙ same-name x c.name on) (λ y r. r) refl
  passes-decides (Commit tx) (Some s) on by = absurd cc
  passes-decides (Refuse tx) (Some s) on by = absurd cc
  passes-decides (Withdraw tx) (Some s) on by = absurd cc
