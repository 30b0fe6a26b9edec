-- The definitions of a site, shown on small logs: transaction 1 read x, wrote it, and was committed; then 2 read x.
use Rattle.std.proofs.Common.{◌≡◌, ℕ, zero, suc, List, [], ◌∷◌, ◌++◌, true, false, Some, refl, sym, ap, ◌∙◌, subst, lit<, arith, take, Contains}
use Rattle.std.specs.Prelude.{codes, slice_get}
use Rattle.std.proofs.lemmas.Option.{same_Some}
use Rattle.std.proofs.lemmas.Bool.{eqb-false}
use Rattle.std.specs.Ordering.{nat_cmp}
use Rattle.std.specs.Cmp.Lexicographic.{slice_cmp}
use Rattle.std.specs.declared.cmp.Ordering.TheVariants.{Less}
use Rattle.sgt_names.specs.Name.{Name}
use Rattle.sgt_names.specs.Entry.{tx_of, IsEnd}
use Rattle.sgt_names.specs.declared.entry.Entry.{Entry}
use Rattle.sgt_names.specs.declared.entry.Entry.TheVariants.{Read, Write, Add, Want, WantAdd, Commit, Refuse, Withdraw}
use Rattle.sgt_names.specs.declared.entry.Change.TheVariants.{Put}
use Rattle.sgt_names.specs.declared.entry.Change.TheVariants as change
use Rattle.sgt_names.specs.declared.entry.Holding.{Holding}
use Rattle.sgt_names.proofs.Places.{Contains-from_at, AllPairs_at}
use Rattle.sgt_arena.specs.declared.handle.Handle.{Handle}
use Rattle.sgt_site.specs.State.{version_at, HasRead, HasEnded, LogsRead, KeepsReads, writers_of, IsReader, commit_block, refuse_block, withdraw_block, AreItems}
use Rattle.sgt_site.specs.declared.cell.Install.{Install}
use Rattle.sgt_names.proofs.Lists.{Any_at}
use Rattle.sgt_site.proofs.Basics.{is_single}

abbrev x : Name
x = codes "x"

abbrev y : Name
y = codes "y"

abbrev log : List Entry
log = Read 1 x 5 ∷ Write 1 x 6 ∷ Commit 1 ∷ Read 2 x 6 ∷ []

abbrev handle : Handle
handle = record { index = 7; generation = 0 }

abbrev installed : List Install
installed = record { tx = 1; handle = handle } ∷ []

-- a version counts the writes of its item, and no reads
pub version-counts_writes : version_at log x ≡ 1
version-counts_writes = refl

pub version-of_its_item : version_at log y ≡ 0
version-of_its_item = refl

pub version-counts_no_wants : version_at (Want 1 x 6 ∷ Refuse 1 ∷ []) x ≡ 0
version-counts_no_wants = refl

-- the writer of x, and none of y
pub writer-of_x : writers_of installed log x ≡ record { tx = 1; handle = handle; increment = false } ∷ []
writer-of_x = refl

pub writer-of_y : writers_of installed log y ≡ []
writer-of_y = refl

-- an increment is a writer, and counts for the version; one that was asked for is none
abbrev adding : List Entry
adding = Write 1 x 6 ∷ Commit 1 ∷ Add 2 x 3 ∷ Commit 2 ∷ WantAdd 3 x 4 ∷ Refuse 3 ∷ []

pub version-counts_increments : version_at adding x ≡ 2
version-counts_increments = refl

pub writers-of_increments : writers_of (installed ++ record { tx = 2; handle = handle } ∷ []) adding x ≡ record {
  tx =
      1;
  handle = handle;
  increment = false;
} ∷ record { tx = 2; handle = handle; increment = true } ∷ []
writers-of_increments = refl

-- the blocks
pub block-of_a_commit : commit_block 1 ((x, Put 6) ∷ (y, change.Add 3) ∷ []) ≡ Write 1 x 6 ∷ Add 1 y 3 ∷ Commit 1 ∷ []
block-of_a_commit = refl

pub block-of_a_refusal : refuse_block 1 ((x, change.Add 6) ∷ (y, Put 3) ∷ []) ≡ WantAdd 1 x 6 ∷ Want 1 y 3 ∷ Refuse 1
    ∷ []
block-of_a_refusal = refl

pub block-of_a_withdrawal : withdraw_block 1 ≡ Withdraw 1 ∷ []
block-of_a_withdrawal = refl

-- 1 has ended, 2 hasn't; both have read x
pub first-ended : HasEnded log 1
first-ended = (2, Commit 1, lit< tt, refl, (refl, tt))

no_end : (n : ℕ) (e : Entry) → slice_get log n ≡ Some e → tx_of e ≡ 2 → IsEnd e → ⊥
no_end zero e at of end = eqb-false 1 2 refl (ap tx_of (same_Some (Read 1 x 5) e at) ∙ of)
no_end (suc zero) e at of end = eqb-false 1 2 refl (ap tx_of (same_Some (Write 1 x 6) e at) ∙ of)
no_end (suc (suc zero)) e at of end = eqb-false 1 2 refl (ap tx_of (same_Some (Commit 1) e at) ∙ of)
no_end (suc (suc (suc zero))) e at of end = subst IsEnd (sym (same_Some (Read 2 x 6) e at)) end
no_end (suc (suc (suc (suc n)))) e at of end = absurd cc

pub second-not_ended : HasEnded log 2 → ⊥
second-not_ended ended = let e = Any_at (λ e. (tx_of e ≡ 2) × IsEnd e) log ended in no_end e.0 e.1 e.2 e.3.0 e.3.1

pub second-has_read : HasRead log 2 x
second-has_read = (3, Read 2 x 6, lit< tt, refl, (refl, refl))

-- the only read of 2 is of x, with the value 6 at version 1
read_is : (n : ℕ) (z : Name) (v : ℕ) → slice_get log n ≡ Some (Read 2 z v) → (x ≡ z) × (6 ≡ v) × (3 ≡ n)
read_is zero z v at = absurd (eqb-false 1 2 refl (ap tx_of (same_Some (Read 1 x 5) (Read 2 z v) at)))
read_is (suc zero) z v at = absurd cc
read_is (suc (suc zero)) z v at = absurd cc
read_is (suc (suc (suc zero))) z v at = (cc, cc, refl)
read_is (suc (suc (suc (suc n)))) z v at = absurd cc

abbrev kept : List (Name × ℕ × ℕ)
kept = (x, 6, 1) ∷ []

pub second-keeps_its_read : KeepsReads log 2 kept
second-keeps_its_read z v n = (there, back)
  where
    there : Contains {X = Name × ℕ × ℕ} kept (z, v, n) → LogsRead log 2 z v n
    there has = subst (λ (k : Name × ℕ × ℕ). LogsRead log 2 k.0 k.1 k.2) (sym (is_single (x, 6, 1) (z, v, n) has))
        (record { place = 3; at = refl; version = refl })

    back : LogsRead log 2 z v n → Contains {X = Name × ℕ × ℕ} kept (z, v, n)
    back r =
        let is = read_is r.place z v r.at in
        let version : 1 ≡ n = ap (λ m. version_at (take m log) x) is.2 ∙ ap (version_at (take r.place log)) is.0
        ∙ r.version in
        subst (λ (a : Name). Contains {X = Name × ℕ × ℕ} kept (a, v, n)) is.0
        (subst (λ (b : ℕ). Contains {X = Name × ℕ × ℕ} kept (x, b, n)) is.1
        (subst (λ (c : ℕ). Contains {X = Name × ℕ × ℕ} kept (x, 6, c)) version
        (Contains-from_at kept 0 (x, 6, 1) refl)))

-- a draft that kept another version, or nothing, doesn't keep the reads of the log
pub second-not_at_another_version : KeepsReads log 2 ((x, 6, 0) ∷ []) → ⊥
second-not_at_another_version keeps =
    let e = is_single (x, 6, 0) (x, 6, 1) ((keeps x 6 1).1 (record { place = 3; at = refl; version = refl })) in
    eqb-false 1 0 refl (ap (λ (k : Name × ℕ × ℕ). k.2) e)

pub second-not_without_reads : KeepsReads log 2 [] → ⊥
second-not_without_reads keeps = let has = (keeps x 6 1).1 (record { place = 3; at = refl; version = refl }) in
    absurd (omega (arith, has.1))

-- transaction 1 read x at version 0, before its own write
pub first-reader : IsReader installed log x (record { tx = 1; handle = handle; version = 0 })
first-reader = (refl, (5, record { place = 0; at = refl; version = refl }))

-- who has no handle is no reader
pub second-no_reader : (h : Handle) (n : ℕ) → IsReader installed log x (record { tx = 2; handle = h; version = n }) → ⊥
second-no_reader h n is = absurd (let none = is.0 in cc)

-- names have to rise
abbrev falling : List Holding
falling = record { item = y; value = 2 } ∷ record { item = x; value = 5 } ∷ []

pub falling-no_items : AreItems falling → ⊥
falling-no_items are =
    let rises : slice_cmp nat_cmp y x ≡ Less =
    AllPairs_at (λ (a b : Holding). slice_cmp nat_cmp a.item b.item ≡ Less) falling 0 1
    (record { item = y; value = 2 }) (record { item = x; value = 5 }) are.rising (lit< tt) refl refl in
    absurd cc
