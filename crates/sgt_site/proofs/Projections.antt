-- The writers and versions of an item, as chosen from the log.
use Rattle.std.proofs.Common.{◌≡◌, ℕ, zero, suc, true, List, [], ◌∷◌, length, map, take, Option, Some, refl, sym, ap, ◌∙◌, subst, arith, inl, inr, Contains}
use Rattle.std.specs.Prelude.{slice_get, ◌==◌, if◌then◌else◌, ◌≢◌}
use Rattle.std.proofs.lemmas.Bool.{cases_Bool, cases_order}
use Rattle.std.proofs.lemmas.Bool.Decides.{nat_tests}
use Rattle.std.proofs.lemmas.Option.{same_Some}
use Rattle.sgt_names.specs.Name.{Name}
use Rattle.sgt_names.specs.Entry.{tx_of, change_of, is_increment, Writes, IsEnd}
use Rattle.sgt_names.specs.declared.entry.Change.{Change}
use Rattle.sgt_names.specs.declared.entry.Entry.{Entry}
use Rattle.sgt_names.specs.declared.entry.Entry.TheVariants.{Commit, Refuse}
use Rattle.sgt_names.proofs.Lists.{option_cases, Any-from_at}
use Rattle.sgt_names.proofs.Places.{Contains_at, Contains-from_at, slice_get-take, AllPairs_at}
use Rattle.sgt_arena.specs.declared.handle.Handle.{Handle}
use Rattle.sgt_site.specs.declared.cell.Install.{Install}
use Rattle.sgt_site.specs.declared.cell.Writer.{Writer}
use Rattle.sgt_site.specs.State.{SiteState, IsSite, HasEnded, IsWant, version_at, handle_of, writer, writers_of, committed_in}
use Rattle.sgt_site.proofs.Appends.{chosen_at, chosen_from, count_before}
use Rattle.sgt_site.proofs.Entries.{change_or_want}

-- who has a handle is among the installed
handle_given : (is : List Install) (tx : ℕ) (h : Handle) → handle_of is tx ≡ Some h → Contains (map (λ i. i.tx) is) tx
handle_given [] tx h e = absurd cc
handle_given (i ∷ is) tx h e = elim (cases_Bool (i.tx == tx)) [
  | inl hit ↦ let same : i.tx ≡ tx = grind (arith, nat_tests) in
      Contains-from_at (map (λ (j : Install). j.tx) (i ∷ is)) 0 tx (ap Some same)
  | inr miss ↦
      let rest : handle_of is tx ≡ Some h = sym (ap (λ b. if b then Some i.handle else handle_of is tx) miss) ∙ e in
      let at = Contains_at (map (λ (j : Install). j.tx) is) tx (handle_given is tx h rest) in
      Contains-from_at (map (λ (j : Install). j.tx) (i ∷ is)) (suc at.0) tx at.1
]

-- and who is among them has one
given_handle : (is : List Install) (n tx : ℕ) → slice_get (map (λ i. i.tx) is) n ≡ Some tx
    → (h : Handle) × (handle_of is tx ≡ Some h)
given_handle [] n tx at = absurd cc
given_handle (i ∷ is) zero tx at = let hit : (i.tx == tx) ≡ true = let same : i.tx ≡ tx = cc in
    grind (arith, nat_tests) in (i.handle, ap (λ b. if b then Some i.handle else handle_of is tx) hit)
given_handle (i ∷ is) (suc n) tx at = elim (cases_Bool (i.tx == tx)) [
  | inl hit ↦ (i.handle, ap (λ b. if b then Some i.handle else handle_of is tx) hit)
  | inr miss ↦ let r = given_handle is n tx at in (
    r.0,
    ap (λ b. if b then Some i.handle else handle_of is tx) miss
        ∙ r.1,
  )
]

-- each transaction that changes an item has a handle
abbrev pub AllGiven : List Install → List Entry → Type 0
AllGiven is es = (n : ℕ) (e : Entry) (x : Name) (c : Change) → slice_get es n ≡ Some e → change_of x e ≡ Some c
    → (h : Handle) × (handle_of is (tx_of e) ≡ Some h)

-- so the versions count the writers
pub length-writers : (is : List Install) (es : List Entry) (x : Name) → AllGiven is es
    → length (writers_of is es x) ≡ version_at es x
length-writers is [] x all = refl
length-writers is (e ∷ es) x all =
    let rest = length-writers is es x (λ n. all (suc n)) in
    elim (option_cases (change_of x e)) [
      | inl none ↦ rw none rest
      | inr some ↦ let given = all 0 e x some.0 refl some.1 in rw (some.1, given.1) (ap suc rest)
    ]

-- a writer, as the log has it
pub record IsWriting (is : List Install) (x : Name) (e : Entry) (w : Writer) : Type 0 where
  pub change : Change
  pub changes : change_of x e ≡ Some change
  pub tx : tx_of e ≡ w.tx
  pub adds : is_increment e ≡ w.increment
  pub given : handle_of is w.tx ≡ Some w.handle

pub writer_is : (is : List Install) (x : Name) (e : Entry) (w : Writer) → writer is x e ≡ Some w → IsWriting is x e w
writer_is is x e w h = elim (option_cases (change_of x e)) [
  | inl none ↦ absurd (let q = rw none at h in cc)
  | inr some ↦ elim (option_cases (handle_of is (tx_of e))) [
    | inl none ↦ absurd (let q = rw (some.1, none) at h in cc)
    | inr given ↦
        let same : record { tx = tx_of e; handle = given.0; increment = is_increment e } ≡ w =
        same_Some _ w (rw (some.1, given.1) at h) in
        let tx : tx_of e ≡ w.tx = ap (λ (u : Writer). u.tx) same in
        record {
          change = some.0;
          changes = some.1;
          tx = tx;
          adds = ap (λ (u : Writer). u.increment) same;
          given =
              ap (handle_of is) (sym tx) ∙ given.1 ∙ ap Some (ap (λ (u : Writer). u.handle) same);
        }
  ]
]

commit_is : (e : Entry) (tx : ℕ) → committed_in e ≡ Some tx → e ≡ Commit tx
commit_is (Commit t) tx h = ap Commit (same_Some t tx h)
commit_is _ tx h = absurd cc

-- the change of number k: where it is in the log
pub record WriterAt (s : SiteState) (x : Name) (k : ℕ) (w : Writer) : Type 0 where
  pub place : ℕ
  pub entry : Entry
  pub at : slice_get s.entries place ≡ Some entry
  pub number : version_at (take place s.entries) x ≡ k
  pub is : IsWriting s.installed x entry w

module _ (s : SiteState) (site : IsSite s) where
  -- who has a commit or a refusal in the log has ended
  pub ended-commit : (tx : ℕ) → Contains s.entries (Commit tx) → HasEnded s.entries tx
  ended-commit tx has = let at = Contains_at s.entries (Commit tx) has in
      Any-from_at (λ e. (tx_of e ≡ tx) × IsEnd e) s.entries at.0 (Commit tx) at.1 (refl, tt)

  ended-refuse : (tx : ℕ) → Contains s.entries (Refuse tx) → HasEnded s.entries tx
  ended-refuse tx has = let at = Contains_at s.entries (Refuse tx) has in
      Any-from_at (λ e. (tx_of e ≡ tx) × IsEnd e) s.entries at.0 (Refuse tx) at.1 (refl, tt)

  -- who has not ended has written nothing here
  pub no_write : (tx : ℕ) → (HasEnded s.entries tx → ⊥) → (p : ℕ) (x : Name) (e : Entry)
      → slice_get s.entries p ≡ Some e → tx_of e ≡ tx → Writes x e → ⊥
  no_write tx active p x e at own writes =
      let has = Contains-from_at s.entries p e at in
      change_or_want x e writes
      (λ c is. active (subst (HasEnded s.entries) own (ended-commit (tx_of e) (site.changes e x c has is))))
      (λ want. active (subst (HasEnded s.entries) own (ended-refuse (tx_of e) (site.wants e has want))))

  -- who is committed has a handle, and who has a handle is committed
  committed_of : (tx : ℕ) → Contains s.entries (Commit tx) → (h : Handle) × (handle_of s.installed tx ≡ Some h)
  committed_of tx has =
      let at = Contains_at s.entries (Commit tx) has in
      given_handle s.installed (count_before committed_in s.entries at.0) tx
      (ap (λ (us : List ℕ). slice_get us (count_before committed_in s.entries at.0)) site.given
      ∙ chosen_from committed_in s.entries at.0 (Commit tx) tx at.1 refl)

  pub commit_with_handle : (tx : ℕ) (h : Handle) → handle_of s.installed tx ≡ Some h → Contains s.entries (Commit tx)
  commit_with_handle tx h given =
      let at = Contains_at (map (λ (i : Install). i.tx) s.installed) tx (handle_given s.installed tx h given) in
      let from = chosen_at committed_in s.entries at.0 tx (sym (ap (λ (us : List ℕ). slice_get us at.0) site.given)
      ∙ at.1) in
      Contains-from_at s.entries from.0 (Commit tx) (from.2 ∙ ap Some (commit_is from.1 tx from.3))

  pub ended_with_handle : (tx : ℕ) (h : Handle) → handle_of s.installed tx ≡ Some h → HasEnded s.entries tx
  ended_with_handle tx h given = ended-commit tx (commit_with_handle tx h given)

  -- a committed transaction has asked for nothing in vain
  pub wanted_no_handle : (e : Entry) (h : Handle) (p : ℕ) → handle_of s.installed (tx_of e) ≡ Some h
      → slice_get s.entries p ≡ Some e → IsWant e → ⊥
  wanted_no_handle e h p given at wants =
      let c = Contains_at s.entries (Commit (tx_of e)) (commit_with_handle (tx_of e) h given) in
      let r = Contains_at s.entries (Refuse (tx_of e)) (site.wants e (Contains-from_at s.entries p e at) wants) in
      elim (cases_order c.0 r.0) [
        | inl same ↦ let q : ◌≡◌ {A = Option Entry} (Some (Commit (tx_of e))) (Some (Refuse (tx_of e))) = sym c.1
            ∙ ap (slice_get s.entries) same ∙ r.1 in absurd cc
        | inr (inl lt) ↦ AllPairs_at (λ e f. IsEnd e → tx_of e ≢ tx_of f) s.entries c.0 r.0 (Commit (tx_of e))
            (Refuse (tx_of e)) site.orderly.closed lt c.1 r.1 tt refl
        | inr (inr gt) ↦ AllPairs_at (λ e f. IsEnd e → tx_of e ≢ tx_of f) s.entries r.0 c.0 (Refuse (tx_of e))
            (Commit (tx_of e)) site.orderly.closed gt r.1 c.1 tt refl
      ]

  pub all_given : AllGiven s.installed s.entries
  all_given n e x c at is = committed_of (tx_of e) (site.changes e x c (Contains-from_at s.entries n e at) is)

  version_of : (x : Name) (q : ℕ) → count_before (writer s.installed x) s.entries q ≡ version_at (take q s.entries) x
  version_of x q =
      length-writers s.installed (take q s.entries) x
      (λ n e y c at. all_given n e y c (slice_get-take s.entries q n e at).1)

  pub writer_at : (x : Name) (k : ℕ) (w : Writer) → slice_get (writers_of s.installed s.entries x) k ≡ Some w
      → WriterAt s x k w
  writer_at x k w at =
      let c = chosen_at (writer s.installed x) s.entries k w at in
      record {
        place = c.0;
        entry = c.1;
        at = c.2;
        number = sym (version_of x c.0) ∙ c.4;
        is =
            writer_is s.installed x c.1 w c.3;
      }

  -- and which number a change has
  pub writer_from : (x : Name) (q : ℕ) (e : Entry) (c : Change) (h : Handle) → slice_get s.entries q ≡ Some e
      → change_of x e ≡ Some c → handle_of s.installed (tx_of e) ≡ Some h
      → slice_get (writers_of s.installed s.entries x) (version_at (take q s.entries) x) ≡ Some
      (record { tx = tx_of e; handle = h; increment = is_increment e })
  writer_from x q e c h at changes given =
      let is : writer s.installed x e ≡ Some (record { tx = tx_of e; handle = h; increment = is_increment e }) =
      rw (changes, given) refl in
      ap (slice_get (writers_of s.installed s.entries x)) (sym (version_of x q))
      ∙ chosen_from (writer s.installed x) s.entries q e (record {
        tx = tx_of e;
        handle = h;
        increment =
            is_increment e;
      }) at is
