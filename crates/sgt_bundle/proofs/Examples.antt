-- Cases that the definitions let in and refuse, each pinned by one small example.
use Rattle.std.proofs.Common.{◌≡◌, ◌≢◌, ℕ, zero, suc, List, [], ◌∷◌, ◌++◌, length, refl, sym, ap, ◌∙◌, subst, Some, get_or, arith, lit<, lit≤, ◌<◌, ◌≤◌}
use Rattle.std.specs.Prelude.{codes, slice_get, All, AllPairs, Contains, IsSome}
use Rattle.sgt_names.specs.Name.{Name}
use Rattle.sgt_names.specs.Entry.{tx_of}
use Rattle.sgt_names.specs.declared.entry.Entry.{Entry}
use Rattle.sgt_names.specs.declared.entry.Holding.{Holding}
use Rattle.std.proofs.lemmas.Option.{same_Some}
use Rattle.std.proofs.lemmas.List.Elements.{All-from_recursion}
use Rattle.std.specs.Fmt.{digits}
use Rattle.serde_json.proofs.OnLiterals.{serde_json_on_literals}
use Rattle.sgt_names.specs.declared.entry.Entry.TheVariants as e
use Rattle.sgt_names.specs.declared.entry.Kind.TheVariants.{Wr, Rw, Ww}
use Rattle.sgt_names.proofs.Places.{All_at, AllPairs_at, AllPairs-from_recursion, Contains_at, Contains-from_at}
use Rattle.sgt_notation.specs.Spelling.{text_of_lines}
use Rattle.sgt_bundle.specs.Parts.{FitTogether, Parts}
use Rattle.sgt_bundle.specs.Certificate.{decided_tx, IsDecidedOnce, Suits, IsCommitted, AreRanks, IsCycle, by_rank, stops}
use Rattle.sgt_bundle.specs.Valid.{RefusedLieOnCycles, Agrees, IsDecided, EndInOrder, RiseInRank, IsLogged, AreLogged, IsValid}
use Rattle.sgt_bundle.specs.Serial.{SerialAgrees, RunsOn, Store, entries_of, initial_store, store_after}
use Rattle.sgt_bundle.specs.Text.{text_of, certificate_text}
use Rattle.sgt_bundle.specs.declared.bundle.SiteLog.{SiteLog}
use Rattle.sgt_bundle.specs.declared.certificate.Step.{Step}
use Rattle.sgt_bundle.specs.declared.certificate.Decision.{Decision}
use Rattle.sgt_bundle.specs.declared.certificate.Decision.TheVariants.{Commit, Refuse, Withdraw}
use Rattle.sgt_bundle.proofs.WorkedBundles.{x, y, cycle, swapped, first_log}
use Rattle.sgt_bundle.proofs.Tested.{valid-from_test}

differ : (a b : ℕ) → a ≢ b → Some a ≡ Some b → ⊥
differ a b apart h = apart (same_Some a b h)

-- ---- decisions

-- committed and withdrawn
pub twice-not_once : IsDecidedOnce (Commit 1 0 ∷ Withdraw 1 ∷ []) → ⊥
twice-not_once once = AllPairs_at (λ d f. decided_tx d ≢ decided_tx f) (Commit 1 0 ∷ Withdraw 1 ∷ []) 0 1 (Commit 1 0)
    (Withdraw 1) once (lit< tt) refl refl refl

-- one commit, of rank 1
pub from_one-not_ranks : AreRanks (1 ∷ []) → ⊥
from_one-not_ranks r = let wrong : 1 < 1 = All_at (λ n. n < 1) (1 ∷ []) 0 1 r.below refl in absurd (omega arith)

pub equal-not_ranks : AreRanks (0 ∷ 0 ∷ []) → ⊥
equal-not_ranks r = AllPairs_at (λ m n. m ≢ n) (0 ∷ 0 ∷ []) 0 1 0 0 r.apart (lit< tt) refl refl refl

-- ranks in falling order are ranks
pub falling-ranks : AreRanks (1 ∷ 0 ∷ [])
falling-ranks = record {
  below = All-from_recursion (λ n. n < 2) (1 ∷ 0 ∷ []) (lit< tt, (lit< tt, tt));
  apart = AllPairs-from_recursion (λ m n. m ≢ n) (1 ∷ 0 ∷ []) (((λ h. absurd (omega arith)), tt), (tt, tt));
}

-- by rank, and equal ranks by the order of the decisions; a rank may be left out, and who isn't committed is
pub order-by_rank : by_rank (Commit 7 2 ∷ Withdraw 3 ∷ Commit 4 2 ∷ Refuse 5 [] ∷ Commit 9 0 ∷ []) ≡ 9 ∷ 7 ∷ 4 ∷ []
order-by_rank = refl

-- ---- entries and decisions

pub wants-refused : (Suits (e.Want 1 x 8) (Commit 1 0) → ⊥)
    × ((Suits (e.Want 1 x 8) (Withdraw 1) → ⊥) × Suits (e.Want 1 x 8) (Refuse 1 []))
wants-refused = ((λ h. h), ((λ h. h), tt))

pub writes-committed : (Suits (e.Write 1 x 8) (Refuse 1 []) → ⊥)
    × ((Suits (e.Write 1 x 8) (Withdraw 1) → ⊥) × Suits (e.Write 1 x 8) (Commit 1 0))
writes-committed = ((λ h. h), ((λ h. h), tt))

pub commit-own_kind : (Suits (e.Commit 1) (Refuse 1 []) → ⊥)
    × ((Suits (e.Commit 1) (Withdraw 1) → ⊥) × Suits (e.Commit 1) (Commit 1 0))
commit-own_kind = ((λ h. h), ((λ h. h), tt))

pub refuse-own_kind : (Suits (e.Refuse 1) (Commit 1 0) → ⊥)
    × ((Suits (e.Refuse 1) (Withdraw 1) → ⊥) × Suits (e.Refuse 1) (Refuse 1 []))
refuse-own_kind = ((λ h. h), ((λ h. h), tt))

pub withdraw-own_kind : (Suits (e.Withdraw 1) (Commit 1 0) → ⊥)
    × ((Suits (e.Withdraw 1) (Refuse 1 []) → ⊥) × Suits (e.Withdraw 1) (Withdraw 1))
withdraw-own_kind = ((λ h. h), ((λ h. h), tt))

-- the ends of 2 and then 1, which was decided first
pub turned_ends-not_agree : Agrees (Commit 1 0 ∷ Commit 2 1 ∷ []) (e.Commit 2 ∷ e.Commit 1 ∷ []) → ⊥
turned_ends-not_agree a =
    let ds = Commit 1 0 ∷ Commit 2 1 ∷ [] in
    let wrong : 1 ≤ 0 = AllPairs_at (EndInOrder ds) (e.Commit 2 ∷ e.Commit 1 ∷ []) 0 1 (e.Commit 2)
    (e.Commit 1) a.in_order (lit< tt) refl refl tt tt 1 0 (Commit 2 1, refl, refl, tt) (
      Commit 1 0,
      refl,
      refl,
      tt,
    ) in
    absurd (omega arith)

nobody : (number : ℕ) (d : Decision) → slice_get [] number ≡ Some d → ⊥
nobody number d at = absurd cc

-- who isn't decided at all
pub undecided-not_agree : Agrees [] (e.Read 1 x 5 ∷ []) → ⊥
undecided-not_agree a = let told = All_at (λ en. (number : ℕ) × IsDecided [] en number) (e.Read 1 x 5 ∷ []) 0
    (e.Read 1 x 5) a.decided refl in nobody told.0 told.1.0 told.1.1

-- ---- ranks and conflicts

-- a conflict between equal ranks
pub equal-not_risen : RiseInRank (Commit 1 0 ∷ Commit 2 0 ∷ []) (e.Write 1 x 7) (e.Write 2 x 7) → ⊥
equal-not_risen r = let wrong : 0 < 0 =
    r Ww x 0 1 0 0 (refl, refl, λ p q. absurd cc) (λ same. absurd (omega arith)) refl refl in absurd (omega arith)

-- each kind of conflict is asked for
pub write_read-not_risen : RiseInRank (Commit 1 1 ∷ Commit 2 0 ∷ []) (e.Write 1 x 7) (e.Read 2 x 7) → ⊥
write_read-not_risen r = let wrong : 1 < 0 = r Wr x 0 1 1 0 (refl, refl) (λ same. absurd (omega arith)) refl refl in
    absurd (omega arith)

pub read_write-not_risen : RiseInRank (Commit 1 1 ∷ Commit 2 0 ∷ []) (e.Read 1 x 5) (e.Write 2 x 7) → ⊥
read_write-not_risen r = let wrong : 1 < 0 = r Rw x 0 1 1 0 (refl, refl) (λ same. absurd (omega arith)) refl refl in
    absurd (omega arith)

-- a want counts as a write
pub want-not_risen : RiseInRank (Commit 1 1 ∷ Commit 2 0 ∷ []) (e.Read 1 x 5) (e.Want 2 x 7) → ⊥
want-not_risen r = let wrong : 1 < 0 = r Rw x 0 1 1 0 (refl, refl) (λ same. absurd (omega arith)) refl refl in
    absurd (omega arith)

-- ---- walks

abbrev to : ℕ → Step
to tx = record { label = record { site = 0; item = x; kind = Rw }; to = tx }

-- all but the last
abbrev front : List ℕ → List ℕ
front [] = []
front (a ∷ []) = []
front (a ∷ b ∷ more) = a ∷ front (b ∷ more)

front-append : (xs : List ℕ) (last : ℕ) → front (xs ++ last ∷ []) ≡ xs
front-append [] last = refl
front-append (a ∷ []) last = refl
front-append (a ∷ b ∷ more) last = ap (λ (l : List ℕ). a ∷ l) (front-append (b ∷ more) last)

-- the transactions between are all that the walk leads to but the last
between-is : (ds : List Decision) (number tx : ℕ) (walk : List Step) (c : IsCycle ds number tx walk)
    → c.between ≡ front (stops walk)
between-is ds number tx walk c = sym (front-append c.between tx) ∙ sym (ap front c.closed)

short : 1 ≤ 0 → ⊥
short h = absurd (omega arith)

ends_apart : ◌≡◌ {A = List ℕ} (1 ∷ 3 ∷ []) (1 ∷ 2 ∷ []) → ⊥
ends_apart h = differ 3 2 (λ same. absurd (omega arith)) (ap (λ (l : List ℕ). slice_get l 1) h)

-- one step, from a transaction to itself
pub one_step-no_cycle : IsCycle (Commit 1 0 ∷ Refuse 2 (to 2 ∷ []) ∷ []) 1 2 (to 2 ∷ []) → ⊥
one_step-no_cycle c =
    short (subst (λ (l : List ℕ). 1 ≤ length l) (between-is (Commit 1 0 ∷ Refuse 2 (to 2 ∷ []) ∷ []) 1 2
    (to 2 ∷ []) c) c.long)

pub no_step-no_cycle : IsCycle (Refuse 2 [] ∷ []) 0 2 [] → ⊥
no_step-no_cycle c = short (subst (λ (l : List ℕ). 1 ≤ length l) (between-is (Refuse 2 [] ∷ []) 0 2 [] c) c.long)

-- it leads to another transaction
pub open-no_cycle : IsCycle (Commit 1 0 ∷ Commit 3 1 ∷ Refuse 2 (to 1 ∷ to 3 ∷ []) ∷ []) 2 2 (to 1 ∷ to 3 ∷ []) → ⊥
open-no_cycle c =
    ends_apart (subst (λ (l : List ℕ). ◌≡◌ {A = List ℕ} (1 ∷ 3 ∷ []) (l ++ 2 ∷ []))
    (between-is (Commit 1 0 ∷ Commit 3 1 ∷ Refuse 2 (to 1 ∷ to 3 ∷ []) ∷ []) 2 2 (to 1 ∷ to 3 ∷ []) c) c.closed)

-- it comes through one transaction twice
pub twice_through-no_cycle : IsCycle (Commit 1 0 ∷ Refuse 2 (to 1 ∷ to 1 ∷ to 2 ∷ []) ∷ []) 1 2
    (to 1 ∷ to 1 ∷ to 2 ∷ []) → ⊥
twice_through-no_cycle c =
    AllPairs_at (λ a b. a ≢ b) (1 ∷ 1 ∷ []) 0 1 1 1
    (subst (λ (l : List ℕ). AllPairs (λ a b. a ≢ b) l)
    (between-is (Commit 1 0 ∷ Refuse 2 (to 1 ∷ to 1 ∷ to 2 ∷ []) ∷ []) 1 2 (to 1 ∷ to 1 ∷ to 2 ∷ []) c)
    c.distinct) (lit< tt) refl refl refl

-- it comes through the refused one itself (which another decision commits)
pub through_itself-no_cycle : IsCycle (Commit 2 0 ∷ Refuse 2 (to 2 ∷ to 2 ∷ []) ∷ []) 1 2 (to 2 ∷ to 2 ∷ []) → ⊥
through_itself-no_cycle c =
    All_at (λ a. a ≢ 2) (2 ∷ []) 0 2
    (subst (λ (l : List ℕ). All (λ a. a ≢ 2) l) (between-is (Commit 2 0 ∷ Refuse 2 (to 2 ∷ to 2 ∷ []) ∷ []) 1 2
    (to 2 ∷ to 2 ∷ []) c) c.others) refl refl

abbrev Earlier : List Decision → ℕ → ℕ → Type 0
Earlier ds number a = (m : ℕ) × (rank : ℕ) × (m < number) × IsCommitted ds m a rank

first_earlier : (ds : List Decision) (number tx : ℕ) → IsCycle ds number tx (to 1 ∷ to 2 ∷ []) → Earlier ds number 1
first_earlier ds number tx c =
    All_at (Earlier ds number) (1 ∷ []) 0 1
    (subst (λ (l : List ℕ). All (Earlier ds number) l) (between-is ds number tx (to 1 ∷ to 2 ∷ []) c) c.earlier)
    refl

none_earlier : (ds : List Decision) → Earlier ds 0 1 → ⊥
none_earlier ds (m, rank, lt, at) = absurd (omega arith)

-- it comes through a transaction that was committed later
pub through_later-no_cycle : IsCycle (Refuse 2 (to 1 ∷ to 2 ∷ []) ∷ Commit 1 0 ∷ []) 0 2 (to 1 ∷ to 2 ∷ []) → ⊥
through_later-no_cycle c =
    none_earlier (Refuse 2 (to 1 ∷ to 2 ∷ []) ∷ Commit 1 0 ∷ [])
    (first_earlier (Refuse 2 (to 1 ∷ to 2 ∷ []) ∷ Commit 1 0 ∷ []) 0 2 c)

-- it comes through a withdrawn transaction
withdrawn-not_earlier : (ds : List Decision) → Earlier (Withdraw 1 ∷ ds) 1 1 → ⊥
withdrawn-not_earlier ds (zero, rank, lt, at) = absurd cc
withdrawn-not_earlier ds (suc m, rank, lt, at) = absurd (omega arith)

pub through_withdrawn-no_cycle : IsCycle (Withdraw 1 ∷ Refuse 2 (to 1 ∷ to 2 ∷ []) ∷ []) 1 2 (to 1 ∷ to 2 ∷ []) → ⊥
through_withdrawn-no_cycle c =
    withdrawn-not_earlier (Refuse 2 (to 1 ∷ to 2 ∷ []) ∷ [])
    (first_earlier (Withdraw 1 ∷ Refuse 2 (to 1 ∷ to 2 ∷ []) ∷ []) 1 2 c)

-- it comes through a refused transaction
refused-not_earlier : (ds : List Decision) → Earlier (Refuse 1 [] ∷ ds) 1 1 → ⊥
refused-not_earlier ds (zero, rank, lt, at) = absurd cc
refused-not_earlier ds (suc m, rank, lt, at) = absurd (omega arith)

pub through_refused-no_cycle : IsCycle (Refuse 1 [] ∷ Refuse 2 (to 1 ∷ to 2 ∷ []) ∷ []) 1 2 (to 1 ∷ to 2 ∷ []) → ⊥
through_refused-no_cycle c =
    refused-not_earlier (Refuse 2 (to 1 ∷ to 2 ∷ []) ∷ [])
    (first_earlier (Refuse 1 [] ∷ Refuse 2 (to 1 ∷ to 2 ∷ []) ∷ []) 1 2 c)

-- a step at a site that isn't there
pub other_site-not_logged : IsLogged cycle.sites 2 (record {
  label = record { site = 1; item = y; kind = Rw };
  to =
      1;
}) → ⊥
other_site-not_logged (log, at, c) = absurd cc

-- ---- the serial run

-- one site with an item x=5, whose log ends with this value
abbrev pub of_x : List Decision → List Entry → ℕ → Parts
of_x ds entries v = record {
  certificate = record { sites = 1; decisions = ds };
  sites = record {
    items = record { item = x; value = 5 } ∷ [];
    entries = entries;
    finals =
        record { item = x; value = v } ∷ [];
  } ∷ [];
}

-- a read of another value
pub other_read-not_serial : SerialAgrees (of_x (Commit 1 0 ∷ []) (e.Read 1 x 4 ∷ e.Write 1 x 6 ∷ e.Commit 1 ∷ []) 6) → ⊥
other_read-not_serial h =
    differ 5 4 (λ same. absurd (omega arith))
    (h.0.reads 0 x 4 (Contains-from_at (e.Read 1 x 4 ∷ e.Write 1 x 6 ∷ e.Commit 1 ∷ []) 0 (e.Read 1 x 4) refl))

-- another final value
pub other_final-not_serial : SerialAgrees (of_x (Commit 1 0 ∷ []) (e.Write 1 x 6 ∷ e.Commit 1 ∷ []) 7) → ⊥
other_final-not_serial h =
    let log : SiteLog = record {
      items = record { item = x; value = 5 } ∷ [];
      entries =
          e.Write 1 x 6 ∷ e.Commit 1 ∷ [];
      finals = record { item = x; value = 7 } ∷ [];
    } in
    differ 6 7 (λ same. absurd (omega arith)) (h.1 0 log refl 0 (record { item = x; value = 0 }) (lit< tt))

-- all reads come before the own writes, wherever they stand in the log
pub late_read-not_serial : SerialAgrees (of_x (Commit 1 0 ∷ []) (e.Write 1 x 6 ∷ e.Read 1 x 6 ∷ e.Commit 1 ∷ []) 6) → ⊥
late_read-not_serial h =
    differ 5 6 (λ same. absurd (omega arith))
    (h.0.reads 0 x 6 (Contains-from_at (e.Write 1 x 6 ∷ e.Read 1 x 6 ∷ e.Commit 1 ∷ []) 1 (e.Read 1 x 6) refl))

-- the transactions run by rank, and not in the order of the decisions or of the log
pub other_order-not_serial : SerialAgrees
    (of_x (Commit 1 1 ∷ Commit 2 0 ∷ []) (e.Write 1 x 6 ∷ e.Commit 1 ∷ e.Read 2 x 6 ∷ e.Commit 2 ∷ []) 6) → ⊥
other_order-not_serial h =
    differ 5 6 (λ same. absurd (omega arith))
    (h.0.reads 0 x 6 (Contains-from_at (e.Write 1 x 6 ∷ e.Commit 1 ∷ e.Read 2 x 6 ∷ e.Commit 2 ∷ []) 2
    (e.Read 2 x 6) refl))

-- a read and a write of an item that isn't there
pub read_of_no_item-not_serial : SerialAgrees (of_x (Commit 1 0 ∷ []) (e.Read 1 y 0 ∷ e.Commit 1 ∷ []) 5) → ⊥
read_of_no_item-not_serial h = let wrong =
    h.0.reads 0 y 0 (Contains-from_at (e.Read 1 y 0 ∷ e.Commit 1 ∷ []) 0 (e.Read 1 y 0) refl) in absurd cc

pub write_of_no_item-not_serial : SerialAgrees (of_x (Commit 1 0 ∷ []) (e.Write 1 y 0 ∷ e.Commit 1 ∷ []) 5) → ⊥
write_of_no_item-not_serial h = let wrong =
    h.0.writes 0 y 0 (Contains-from_at (e.Write 1 y 0 ∷ e.Commit 1 ∷ []) 0 (e.Write 1 y 0) refl) in absurd cc

-- The values cannot tell: two writers of one value that are ranked the other way round run serially, though the
-- bundle isn't valid.
swapped-no_read : (n tx : ℕ) (i : Name) (v : ℕ) → slice_get (first_log swapped).entries n ≡ Some (e.Read tx i v) → ⊥
swapped-no_read zero tx i v at = absurd cc
swapped-no_read (suc zero) tx i v at = absurd cc
swapped-no_read (suc (suc zero)) tx i v at = absurd cc
swapped-no_read (suc (suc (suc zero))) tx i v at = absurd cc
swapped-no_read (suc (suc (suc (suc n)))) tx i v at = absurd cc

swapped-write : (n tx : ℕ) (i : Name) (v : ℕ) → slice_get (first_log swapped).entries n ≡ Some (e.Write tx i v) → x ≡ i
swapped-write zero tx i v at = cc
swapped-write (suc zero) tx i v at = absurd cc
swapped-write (suc (suc zero)) tx i v at = cc
swapped-write (suc (suc (suc zero))) tx i v at = absurd cc
swapped-write (suc (suc (suc (suc n)))) tx i v at = absurd cc

swapped-reads : (store : Store) (tx s : ℕ) (i : Name) (v : ℕ) → Contains (entries_of swapped.sites s) (e.Read tx i v)
    → store s i ≡ Some v
swapped-reads store tx zero i v c = let at = Contains_at (first_log swapped).entries (e.Read tx i v) c in
    absurd (swapped-no_read at.0 tx i v at.1)
swapped-reads store tx (suc s) i v (n, lt, is) = absurd (omega arith)

swapped-add : (n tx : ℕ) (i : Name) (v : ℕ) → slice_get (first_log swapped).entries n ≡ Some (e.Add tx i v) → ⊥
swapped-add zero tx i v at = absurd cc
swapped-add (suc zero) tx i v at = absurd cc
swapped-add (suc (suc zero)) tx i v at = absurd cc
swapped-add (suc (suc (suc zero))) tx i v at = absurd cc
swapped-add (suc (suc (suc (suc n)))) tx i v at = absurd cc

swapped-adds : (store : Store) (tx s : ℕ) (i : Name) (v : ℕ) → Contains (entries_of swapped.sites s) (e.Add tx i v)
    → IsSome (store s i)
swapped-adds store tx zero i v c = let at = Contains_at (first_log swapped).entries (e.Add tx i v) c in
    absurd (swapped-add at.0 tx i v at.1)
swapped-adds store tx (suc s) i v (n, lt, is) = absurd (omega arith)

swapped-writes : (store : Store) → IsSome (store 0 x) → (tx s : ℕ) (i : Name) (v : ℕ)
    → Contains (entries_of swapped.sites s) (e.Write tx i v) → IsSome (store s i)
swapped-writes store here tx zero i v c =
    let at = Contains_at (first_log swapped).entries (e.Write tx i v) c in
    subst (λ (j : Name). IsSome (store 0 j)) (swapped-write at.0 tx i v at.1) here
swapped-writes store here tx (suc s) i v (n, lt, is) = absurd (omega arith)

swapped-runs : (store : Store) (tx : ℕ) → IsSome (store 0 x) → RunsOn swapped.sites tx store
swapped-runs store tx here = record {
  reads = swapped-reads store tx;
  writes = swapped-writes store here tx;
  adds =
      swapped-adds store tx;
}

swapped-finals : (store : Store) → store 0 x ≡ Some 7 → (s : ℕ) (log : SiteLog) → slice_get swapped.sites s ≡ Some log
    → All (λ (h : Holding). store s h.item ≡ Some h.value) log.finals
swapped-finals store here zero log at =
    subst (λ (l : SiteLog). All (λ (h : Holding). store 0 h.item ≡ Some h.value) l.finals)
    (same_Some (first_log swapped) log at)
    (All-from_recursion (λ (h : Holding). store 0 h.item ≡ Some h.value) (record { item = x; value = 7 } ∷ []) (
      here,
      tt,
    ))
swapped-finals store here (suc s) log at = absurd cc

pub swapped-serial : SerialAgrees swapped
swapped-serial =
    let first = initial_store swapped.sites in
    let second = store_after swapped.sites 2 first in
    (swapped-runs first 2 refl, (swapped-runs second 1 refl, swapped-finals (store_after swapped.sites 1 second) refl))

-- ---- bundles of more sites

-- A reader is torn by the installs of a writer at two sites, and refused: it reads x after the write and y before it.
abbrev torn_walk : List Step
torn_walk = record { label = record { site = 1; item = y; kind = Rw }; to = 1 } ∷ record {
  label =
      record { site = 0; item = x; kind = Wr };
  to = 2;
} ∷ []

abbrev pub torn : Parts
torn = record {
  certificate = record { sites = 2; decisions = Commit 1 0 ∷ Refuse 2 torn_walk ∷ [] };
  sites = record {
    items = record { item = x; value = 5 } ∷ [];
    entries = e.Write 1 x 6 ∷ e.Commit 1 ∷ e.Read 2 x 6 ∷ e.Refuse 2 ∷ [];
    finals = record { item = x; value = 6 } ∷ [];
  } ∷ record {
    items = record { item = y; value = 2 } ∷ [];
    entries = e.Read 2 y 2 ∷ e.Write 1 y 3 ∷ e.Commit 1 ∷ e.Refuse 2 ∷ [];
    finals = record { item = y; value = 3 } ∷ [];
  } ∷ [];
}

pub torn-text : text_of torn ≡ text_of_lines (codes "sgt 1" ∷ codes "{\"decisions\":[{\"commit\":1,\"rank\":0},{\"refuse\":2,\"walk\":[{\"item\":\"y\",\"kind\":\"rw\",\"site\":1,\"to\":1},{\"item\":\"x\",\"kind\":\"wr\",\"site\":0,\"to\":2}]}],\"sites\":2}"
    ∷ codes "site 0" ∷ codes "item x=5" ∷ codes "w1[x]=6" ∷ codes "c1" ∷ codes "r2[x]=6" ∷ codes "n2" ∷ codes "final x=6" ∷ codes "end"
    ∷ codes "site 1" ∷ codes "item y=2" ∷ codes "r2[y]=2" ∷ codes "w1[y]=3" ∷ codes "c1" ∷ codes "n2" ∷ codes "final y=3" ∷ codes "end" ∷ [])
unfolding digits serde_json_on_literals
torn-text = refl

abbrev site_of : Parts → ℕ → SiteLog
site_of b s = get_or b.sites s (record { items = []; entries = []; finals = [] })

torn-shape : IsCycle torn.certificate.decisions 1 2 torn_walk
torn-shape = record {
  between = 1 ∷ [];
  long = lit≤ tt;
  closed = refl;
  distinct = AllPairs-from_recursion (λ a b. a ≢ b) (1 ∷ []) (tt, tt);
  others = All-from_recursion (λ a. a ≢ 2) (1 ∷ []) ((λ h. absurd (omega arith)), tt);
  earlier = All-from_recursion (Earlier torn.certificate.decisions 1) (1 ∷ []) ((0, 0, lit< tt, refl), tt);
}

torn-logged : AreLogged torn.sites 2 torn_walk
torn-logged = (
  (
    site_of torn 1,
    refl,
    record {
      p = 0;
      q = 1;
      e = e.Read 2 y 2;
      f = e.Write 1 y 3;
      before = lit< tt;
      first =
          refl;
      second = refl;
      from = refl;
      to = refl;
      apart = λ h. absurd (omega arith);
      clash = (refl, refl);
    },
  ),
  (
    (
      site_of torn 0,
      refl,
      record {
        p = 0;
        q = 2;
        e = e.Write 1 x 6;
        f = e.Read 2 x 6;
        before = lit< tt;
        first =
            refl;
        second = refl;
        from = refl;
        to = refl;
        apart = λ h. absurd (omega arith);
        clash = (refl, refl);
      },
    ),
    tt,
  ),
)

torn-only : (p : ℕ) (en : Entry) → slice_get (site_of torn 1).entries p ≡ Some en → tx_of en ≡ 3 → ⊥
torn-only zero en at = subst (λ d. tx_of d ≡ 3 → ⊥) (same_Some (e.Read 2 y 2) en at) (λ h. absurd (omega arith))
torn-only (suc zero) en at = subst (λ d. tx_of d ≡ 3 → ⊥) (same_Some (e.Write 1 y 3) en at) (λ h. absurd (omega arith))
torn-only (suc (suc zero)) en at =
    subst (λ d. tx_of d ≡ 3 → ⊥) (same_Some (e.Commit 1) en at) (λ h. absurd (omega arith))
torn-only (suc (suc (suc zero))) en at =
    subst (λ d. tx_of d ≡ 3 → ⊥) (same_Some (e.Refuse 2) en at) (λ h. absurd (omega arith))
torn-only (suc (suc (suc (suc p)))) en at = absurd cc

-- the same steps, from a transaction that isn't in the conflict
pub other_start-not_logged : AreLogged torn.sites 3 torn_walk → ⊥
other_start-not_logged ((log, at, c), rest) =
    torn-only c.p c.e (subst (λ (l : SiteLog). slice_get l.entries c.p ≡ Some c.e)
    (sym (same_Some (site_of torn 1) log at)) c.first) c.from

torn-cycles : RefusedLieOnCycles torn
torn-cycles zero tx walk at = absurd cc
torn-cycles (suc zero) tx walk at =
    let tx-is : 2 ≡ tx = cc in
    let walk-is : torn_walk ≡ walk = cc in
    subst (λ t. IsCycle torn.certificate.decisions 1 t walk × AreLogged torn.sites t walk) tx-is
    (subst (λ w. IsCycle torn.certificate.decisions 1 2 w × AreLogged torn.sites 2 w) walk-is (
      torn-shape,
      torn-logged,
    ))
torn-cycles (suc (suc n)) tx walk at = absurd cc

pub torn-valid : IsValid torn
torn-valid = valid-from_test torn refl torn-cycles

-- One name at two sites is two items; a transaction is withdrawn at the third site, which has none.
abbrev pub equal_names : Parts
equal_names = record {
  certificate = record { sites = 3; decisions = Withdraw 3 ∷ Commit 1 0 ∷ [] };
  sites = record {
    items = record { item = x; value = 5 } ∷ [];
    entries = e.Read 1 x 5 ∷ e.Commit 1 ∷ [];
    finals = record { item = x; value = 5 } ∷ [];
  } ∷ record {
    items = record { item = x; value = 9 } ∷ [];
    entries = e.Read 1 x 9 ∷ e.Write 1 x 1 ∷ e.Commit 1 ∷ [];
    finals = record { item = x; value = 1 } ∷ [];
  } ∷ record { items = []; entries = e.Withdraw 3 ∷ []; finals = [] } ∷ [];
}

pub equal_names-text : text_of equal_names ≡ text_of_lines (codes "sgt 1" ∷ codes "{\"decisions\":[{\"withdraw\":3},{\"commit\":1,\"rank\":0}],\"sites\":3}"
    ∷ codes "site 0" ∷ codes "item x=5" ∷ codes "r1[x]=5" ∷ codes "c1" ∷ codes "final x=5" ∷ codes "end"
    ∷ codes "site 1" ∷ codes "item x=9" ∷ codes "r1[x]=9" ∷ codes "w1[x]=1" ∷ codes "c1" ∷ codes "final x=1" ∷ codes "end"
    ∷ codes "site 2" ∷ codes "a3" ∷ codes "end" ∷ [])
unfolding digits serde_json_on_literals
equal_names-text = refl

equal_names-cycles : RefusedLieOnCycles equal_names
equal_names-cycles zero tx walk at = absurd cc
equal_names-cycles (suc zero) tx walk at = absurd cc
equal_names-cycles (suc (suc n)) tx walk at = absurd cc

pub equal_names-valid : IsValid equal_names
equal_names-valid = valid-from_test equal_names refl equal_names-cycles

-- Two readers against their ranks: reads don't conflict. A third transaction is committed and stands in no log, a
-- fourth reads and is withdrawn.
abbrev pub readers : Parts
readers =
    of_x (Commit 1 2 ∷ Commit 2 0 ∷ Commit 7 1 ∷ Withdraw 4 ∷ [])
    (e.Read 1 x 5 ∷ e.Read 4 x 5 ∷ e.Read 2 x 5 ∷ e.Commit 1 ∷ e.Commit 2 ∷ e.Withdraw 4 ∷ []) 5

readers-cycles : RefusedLieOnCycles readers
readers-cycles zero tx walk at = absurd cc
readers-cycles (suc zero) tx walk at = absurd cc
readers-cycles (suc (suc zero)) tx walk at = absurd cc
readers-cycles (suc (suc (suc zero))) tx walk at = absurd cc
readers-cycles (suc (suc (suc (suc n)))) tx walk at = absurd cc

pub readers-valid : IsValid readers
readers-valid = valid-from_test readers refl readers-cycles

-- the text of the third kind
pub ww-text : certificate_text
    (record {
      sites = 1;
      decisions =
          Refuse 2 (record { label = record { site = 0; item = x; kind = Ww }; to = 2 } ∷ []) ∷ [];
    })
    ≡ codes "{\"decisions\":[{\"refuse\":2,\"walk\":[{\"item\":\"x\",\"kind\":\"ww\",\"site\":0,\"to\":2}]}],\"sites\":1}"
unfolding digits serde_json_on_literals
ww-text = refl

-- ---- parts that do not fit together

-- a step at a site that there isn't
pub step_beyond-not_fit : (sites : List SiteLog)
    → FitTogether
    (record {
      certificate =
          record {
            sites = 1;
            decisions =
                Refuse 2 (record { label = record { site = 1; item = x; kind = Ww }; to = 2 } ∷ []) ∷ [];
          };
      sites = sites;
    }) → ⊥
step_beyond-not_fit sites h =
    let step : Step = record { label = record { site = 1; item = x; kind = Ww }; to = 2 } in
    let within : 1 < 1 = h.steps 0 (Refuse 2 (step ∷ [])) (lit< tt) 0 step (lit< tt) in
    absurd (omega arith)

-- no site, more than there may be, or fewer logs than the certificate says
pub no_site-not_fit : FitTogether (record { certificate = record { sites = 0; decisions = [] }; sites = [] }) → ⊥
no_site-not_fit h = omega (arith, h.shape.some)

pub sixty_five-not_fit : (sites : List SiteLog)
    → FitTogether (record { certificate = record { sites = 65; decisions = [] }; sites = sites }) → ⊥
sixty_five-not_fit sites h = omega (arith, h.shape.few)

pub log_missing-not_fit : FitTogether (record { certificate = record { sites = 1; decisions = [] }; sites = [] }) → ⊥
log_missing-not_fit h = omega (arith, h.shape.each)
