-- The installs that the certifier was told of are those that the logs tell.
use Rattle.std.proofs.Common.{◌≡◌, ◌<◌, ◌≤◌, ℕ, Bool, true, false, cond, List, [], ◌∷◌, ◌++◌, length, map, refl, sym, ◌∙◌, arith, ◌⊎◌, inl, inr, Contains, Some, None, subst, ap}
use Rattle.std.specs.List.{cons_option}
use Rattle.std.proofs.lemmas.Bool.{cases_eq, eq-eqb, ne_eqb}
use Rattle.std.proofs.lemmas.List.{append-nil}
use Rattle.std.proofs.lemmas.List.Elements.{filter_map-append, Contains-append_cases, Contains-append_left, Contains-append_right}
use Rattle.sgt_names.specs.Name.{Name}
use Rattle.sgt_names.specs.Entry.{tx_of, IsOpen}
use Rattle.sgt_names.specs.declared.entry.Change.{Change}
use Rattle.sgt_names.specs.declared.entry.Change.TheVariants.{Put, Add}
use Rattle.sgt_names.specs.declared.entry.Entry.{Entry}
use Rattle.sgt_names.specs.declared.entry.Entry.TheVariants as entry
use Rattle.sgt_names.specs.declared.entry.Holding.{Holding}
use Rattle.sgt_site.specs.State.{change_entry, want_entry, commit_block, refuse_block}
use Rattle.sgt_certifier.specs.Certifier.{Install, Ruling, committed, refused, withdrawn, ruled, serial}
use Rattle.sgt_certifier.proofs.Members.{cons_here}
use Rattle.sgt_certifier.proofs.Ruling.{AllPairs-push}
use Rattle.sgt_core_model.specs.Core.{CoreState, fresh, only_at, touches, as_changes, withdrawn_block, noted}
use Rattle.sgt_core_model.specs.Runs.{changed_item, changed_by, IsLoggedInstall}
use Rattle.sgt_core_model.proofs.Kept.{SuitsRuling, NotEnded, IsLegal, IsSound, IsCounted, AreInstalls}
use Rattle.sgt_core_model.proofs.Entries.{of_change, change_tx, want_open}
use Rattle.sgt_core_model.proofs.Legal.{pairs_across}
use Rattle.sgt_core_model.proofs.LegalSteps.{only_here, only_there}
use Rattle.sgt_core_model.proofs.Counted.{items_of, install_at}
use Rattle.sgt_names.proofs.Elements.{contains-cases, contains-none}

-- ---- what a transaction changes in entries

changed-append : (tx : ℕ) (xs ys : List Entry) → changed_by tx (xs ++ ys) ≡ changed_by tx xs ++ changed_by tx ys
changed-append tx xs ys = filter_map-append (changed_item tx) xs ys

-- nothing more behind them
changed-same : (tx : ℕ) (xs ys : List Entry) → changed_by tx ys ≡ [] → changed_by tx (xs ++ ys) ≡ changed_by tx xs
changed-same tx xs ys none = changed-append tx xs ys
    ∙ (ap (λ zs. changed_by tx xs ++ zs) none ∙ append-nil (changed_by tx xs))

own_item : (i : ℕ) (x : Name) (c : Change) → changed_item i (change_entry i x c) ≡ Some x
own_item i x (Put v) = rw (eq-eqb i i refl) refl
own_item i x (Add v) = rw (eq-eqb i i refl) refl

other_item : (tx i : ℕ) (x : Name) (c : Change) → (i ≡ tx → ⊥) → changed_item tx (change_entry i x c) ≡ None
other_item tx i x (Put v) other = rw (ne_eqb i tx other) refl
other_item tx i x (Add v) other = rw (ne_eqb i tx other) refl

want_none : (tx i : ℕ) (x : Name) (c : Change) → changed_item tx (want_entry i x c) ≡ None
want_none tx i x (Put v) = refl
want_none tx i x (Add v) = refl

changed_own : (i : ℕ) (cs : List (Name × Change)) → changed_by i (as_changes i cs) ≡ items_of cs
changed_own i [] = refl
changed_own i (d ∷ ds) =
    ap (λ o. cons_option o (changed_by i (as_changes i ds))) (own_item i d.0 d.1)
    ∙ ap (λ xs. d.0 ∷ xs) (changed_own i ds)

-- in its own block, those of its private changes
block_own : (i : ℕ) (cs : List (Name × Change)) → changed_by i (commit_block i cs) ≡ items_of cs
block_own i cs = changed-same i (as_changes i cs) (entry.Commit i ∷ []) refl ∙ changed_own i cs

block_none : (tx : ℕ) (make : Name → Change → Entry) (last : Entry) (cs : List (Name × Change))
    → ((x : Name) (c : Change) → changed_item tx (make x c) ≡ None)
    → changed_item tx last ≡ None → changed_by tx (map (λ (d : Name × Change). make d.0 d.1) cs ++ last ∷ []) ≡ []
block_none tx make last [] each end = ap (λ o. cons_option o []) end
block_none tx make last (d ∷ ds) each end =
    ap (λ o. cons_option o (changed_by tx (map (λ (f : Name × Change). make f.0 f.1) ds ++ last ∷ []))) (each d.0 d.1)
    ∙ block_none tx make last ds each end

-- in another's block, none
block_other : (tx i : ℕ) (cs : List (Name × Change)) → (i ≡ tx → ⊥) → changed_by tx (commit_block i cs) ≡ []
block_other tx i cs other = block_none tx (change_entry i) (entry.Commit i) cs (λ x c. other_item tx i x c other) refl

-- ---- the commit in a block

last_here : (i : ℕ) (cs : List (Name × Change)) → Contains (commit_block i cs) (entry.Commit i)
last_here i cs = Contains-append_right (as_changes i cs) (entry.Commit i ∷ []) (entry.Commit i)
    (cons_here (entry.Commit i) [])

commit_own : (i tx : ℕ) (cs : List (Name × Change)) → Contains (commit_block i cs) (entry.Commit tx) → tx ≡ i
commit_own i tx cs m = elim (Contains-append_cases (as_changes i cs) (entry.Commit i ∷ []) (entry.Commit tx) m) [
  | inl op ↦ let d = of_change (change_entry i) cs (entry.Commit tx) op in ap tx_of (sym d.2) ∙ change_tx i d.0.0 d.0.1
  | inr end ↦ elim (contains-cases (entry.Commit i) [] (entry.Commit tx) end) [
    | inl is ↦ ap tx_of (sym is)
    | inr none ↦ absurd (contains-none (entry.Commit tx) none)
  ]
]

-- ---- entries that tell no install

pub record AreQuiet (entries : List Entry) : Type 0 where
  pub commits : (tx : ℕ) → Contains entries (entry.Commit tx) → ⊥
  pub changes : (tx : ℕ) → changed_by tx entries ≡ []

quiet_nil : AreQuiet []
quiet_nil = record { commits = λ tx. contains-none (entry.Commit tx); changes = λ tx. refl }

-- one entry alone, or none
quiet_one : (e : Entry) → ((tx : ℕ) → e ≡ entry.Commit tx → ⊥) → ((tx : ℕ) → changed_item tx e ≡ None)
    → AreQuiet (e ∷ [])
quiet_one e commit none = record {
  commits = λ tx m. elim (contains-cases e [] (entry.Commit tx) m) [
    | inl is ↦ commit tx is
    | inr later ↦ contains-none (entry.Commit tx) later
  ];
  changes = λ tx. ap (λ o. cons_option o []) (none tx);
}

quiet_at : (k : ℕ) (es : List Entry) → AreQuiet es → (s : ℕ) → AreQuiet (only_at k es s)
quiet_at k es quiet s =
    elim (cases_eq s k) [
      | inl here ↦ subst (λ n. AreQuiet (only_at k es n)) (sym here) (subst AreQuiet (sym (only_here k es)) quiet)
      | inr there ↦ subst AreQuiet (sym (only_there k es s there)) quiet_nil
    ]

pub read-quiet : (k tx : ℕ) (x : Name) (v s : ℕ) → AreQuiet (only_at k (entry.Read tx x v ∷ []) s)
read-quiet k tx x v s =
    quiet_at k (entry.Read tx x v ∷ []) (quiet_one (entry.Read tx x v) (λ t is. absurd cc) (λ t. refl)) s

pub withdrawn-quiet : (c : CoreState) (tx s : ℕ) → AreQuiet (withdrawn_block c tx s)
withdrawn-quiet c tx s = either (touches c tx s)
  where
    either : (t : Bool) → AreQuiet (cond t (entry.Withdraw tx ∷ []) [])
    either true = quiet_one (entry.Withdraw tx) (λ t is. absurd cc) (λ t. refl)
    either false = quiet_nil

refused-quiet : (i : ℕ) (cs : List (Name × Change)) → AreQuiet (refuse_block i cs)
refused-quiet i cs = record {
  commits =
      λ tx m. elim (Contains-append_cases (map (λ (d : Name × Change). want_entry i d.0 d.1) cs) (entry.Refuse i ∷ [])
      (entry.Commit tx) m) [
        | inl op ↦ let d = of_change (want_entry i) cs (entry.Commit tx) op in
            subst IsOpen d.2 (want_open i d.0.0 d.0.1)
        | inr end ↦ elim (contains-cases (entry.Refuse i) [] (entry.Commit tx) end) [
          | inl is ↦ absurd cc
          | inr none ↦ contains-none (entry.Commit tx) none
        ]
      ];
  changes = λ tx. block_none tx (want_entry i) (entry.Refuse i) cs (λ x c. want_none tx i x c) refl;
}

-- ---- one step after another

-- the logs grow by entries that tell none
pub grown-installs : (logs more : ℕ → List Entry) (installs : List Install) → ((s : ℕ) → AreQuiet (more s))
    → AreInstalls logs installs
    → AreInstalls (λ s. logs s ++ more s) installs
grown-installs logs more installs quiet h =
    let same : (s tx : ℕ) → changed_by tx (logs s ++ more s) ≡ changed_by tx (logs s) =
    λ s tx. changed-same tx (logs s) (more s) ((quiet s).changes tx) in
    let longer : (s tx : ℕ) → Contains (logs s) (entry.Commit tx) → Contains (logs s ++ more s) (entry.Commit tx) =
    λ s tx m. Contains-append_left (logs s) (more s) (entry.Commit tx) m in
    let was : (s tx : ℕ) → Contains (logs s ++ more s) (entry.Commit tx) → Contains (logs s) (entry.Commit tx) =
    λ s tx m. elim (Contains-append_cases (logs s) (more s) (entry.Commit tx) m) [
      | inl old ↦ old
      | inr new ↦ absurd ((quiet s).commits tx new)
    ] in
    record {
      noted = λ a. (
        λ m. let l = (h.noted a).0 m in record {
          logged = longer a.site a.tx l.logged;
          items = l.items
              ∙ sym (same a.site a.tx);
        },
        λ l. (h.noted a).1 (record { logged = was a.site a.tx l.logged; items = l.items ∙ same a.site a.tx }),
      );
      once = h.once;
      uncommitted = λ s tx none. same s tx ∙ h.uncommitted s tx (λ m. none (longer s tx m));
    }

-- the block of a commit is written at the site k, where the commit doesn't stand yet
module _ (logs : ℕ → List Entry) (installs : List Install) (i k : ℕ) (cs : List (Name × Change))
    (new : Contains (logs k) (entry.Commit i) → ⊥)
    (h : AreInstalls logs installs) where
  abbrev after : ℕ → List Entry
  after s = logs s ++ only_at k (commit_block i cs) s

  abbrev install : Install
  install = install_at i k (items_of cs)

  longer : (s tx : ℕ) → Contains (logs s) (entry.Commit tx) → Contains (after s) (entry.Commit tx)
  longer s tx m = Contains-append_left (logs s) (only_at k (commit_block i cs) s) (entry.Commit tx) m

  -- who is committed in a log is another, or at another site
  was_other : (s tx : ℕ) → Contains (logs s) (entry.Commit tx) → s ≡ k → tx ≡ i → ⊥
  was_other s tx m here own =
      new (subst (λ n. Contains (logs n) (entry.Commit i)) here (subst (λ t. Contains (logs s) (entry.Commit t)) own m))

  others_same : (s tx : ℕ) → (s ≡ k → tx ≡ i → ⊥) → changed_by tx (after s) ≡ changed_by tx (logs s)
  others_same s tx other = changed-same tx (logs s) (only_at k (commit_block i cs) s) (elim (cases_eq s k) [
    | inl here ↦ subst (λ n. changed_by tx (only_at k (commit_block i cs) n) ≡ []) (sym here)
        (ap (changed_by tx) (only_here k (commit_block i cs)) ∙ block_other tx i cs (λ own. other here (sym own)))
    | inr there ↦ ap (changed_by tx) (only_there k (commit_block i cs) s there)
  ])

  own_changes : changed_by i (after k) ≡ items_of cs
  own_changes =
      changed-append i (logs k) (only_at k (commit_block i cs) k)
      ∙ (ap (λ xs. xs ++ changed_by i (only_at k (commit_block i cs) k)) (h.uncommitted k i new)
      ∙ (ap (changed_by i) (only_here k (commit_block i cs)) ∙ block_own i cs))

  own_commit : Contains (after k) (entry.Commit i)
  own_commit = Contains-append_right (logs k) (only_at k (commit_block i cs) k) (entry.Commit i)
      (subst (λ es. Contains es (entry.Commit i)) (sym (only_here k (commit_block i cs))) (last_here i cs))

  commit_cases : (s tx : ℕ) → Contains (after s) (entry.Commit tx) → Contains (logs s) (entry.Commit tx)
      ⊎ ((s ≡ k) × (tx ≡ i))
  commit_cases s tx m = elim (Contains-append_cases (logs s) (only_at k (commit_block i cs) s) (entry.Commit tx) m) [
    | inl old ↦ inl old
    | inr block ↦ elim (cases_eq s k) [
      | inl here ↦
          let at_k = subst (λ n. Contains (only_at k (commit_block i cs) n) (entry.Commit tx)) here block in
          inr (
            here,
            commit_own i tx cs (subst (λ es. Contains es (entry.Commit tx)) (only_here k (commit_block i cs)) at_k),
          )
      | inr there ↦ absurd
          (contains-none (entry.Commit tx)
          (subst (λ es. Contains es (entry.Commit tx)) (only_there k (commit_block i cs) s there) block))
    ]
  ]

  told : (a : Install) → Contains (installs ++ install ∷ []) a → IsLoggedInstall after a
  told a m = elim (Contains-append_cases installs (install ∷ []) a m) [
    | inl old ↦
        let l = (h.noted a).0 old in
        record {
          logged = longer a.site a.tx l.logged;
          items = l.items
              ∙ sym (others_same a.site a.tx (was_other a.site a.tx l.logged));
        }
    | inr last ↦ elim (contains-cases install [] a last) [
      | inl is ↦ subst (IsLoggedInstall after) is (record { logged = own_commit; items = sym own_changes })
      | inr none ↦ absurd (contains-none a none)
    ]
  ]

  noted_after : (a : Install) → IsLoggedInstall after a → Contains (installs ++ install ∷ []) a
  noted_after a l = elim (commit_cases a.site a.tx l.logged) [
    | inl old ↦ Contains-append_left installs (install ∷ []) a
        ((h.noted a).1 (record { logged = old; items = l.items ∙ others_same a.site a.tx (was_other a.site a.tx old) }))
    | inr own ↦
        let items : items_of cs ≡ a.items =
        sym (l.items
        ∙ (ap (λ t. changed_by t (after a.site)) own.1 ∙ (ap (λ s. changed_by i (after s)) own.0 ∙ own_changes))) in
        let is : install ≡ a = ap (λ t. install_at t k (items_of cs)) (sym own.1)
        ∙ (ap (λ s. install_at a.tx s (items_of cs)) (sym own.0) ∙ ap (install_at a.tx a.site) items) in
        Contains-append_right installs (install ∷ []) a (subst (Contains (install ∷ [])) is (cons_here install []))
  ]

  committed-installs : AreInstalls after (installs ++ install ∷ [])
  committed-installs = record {
    noted = λ a. (told a, noted_after a);
    once = AllPairs-push (λ (a b : Install). (a.tx ≡ b.tx) × (a.site ≡ b.site) → ⊥) installs install h.once
        (λ a m same. was_other a.site a.tx ((h.noted a).0 m).logged same.1 same.0);
    uncommitted = λ s tx none.
        others_same s tx
        (λ here own. none (subst (λ n. Contains (after n) (entry.Commit tx)) (sym here)
        (subst (λ t. Contains (after k) (entry.Commit t)) (sym own) own_commit)))
        ∙ h.uncommitted s tx (λ m. none (longer s tx m));
  }

-- where its commit is due, it doesn't stand yet
not_yet : (c : CoreState) (i k : ℕ) → k < length c.items → IsLegal c → c.due k ≡ commit_block i (c.changes i k)
    → Contains (c.entries k) (entry.Commit i) → ⊥
not_yet c i k inside h block m =
    pairs_across NotEnded (c.entries k) (c.due k) (h.sites k inside).log.closed (entry.Commit i) (entry.Commit i) m
    (subst (λ es. Contains es (entry.Commit i)) (sym block) (last_here i (c.changes i k))) tt refl

-- the block of k is written, and noted if it is a commit's
pub install-installs : (c : CoreState) (i k : ℕ) → c.certifier.step ≡ Some i → (c.due k ≡ [] → ⊥) → k < length c.items
    → IsLegal c → IsCounted c
    → AreInstalls c.entries c.certifier.installs
    → AreInstalls (λ s. c.entries s ++ only_at k (c.due k) s) (noted c i k).installs
install-installs c i k own due inside legal counted h = elim (counted.due i k own) [
  | inl none ↦ absurd (due none)
  | inr some ↦ elim some [
    | inl p ↦ rw p.0
        (subst (λ es. AreInstalls (λ s. c.entries s ++ only_at k es s)
        (c.certifier.installs ++ install_at i k (items_of (c.changes i k)) ∷ [])) (sym p.1)
        (committed-installs c.entries c.certifier.installs i k (c.changes i k) (not_yet c i k inside legal p.1) h))
    | inr p ↦ rw p.0 (subst (λ es. AreInstalls (λ s. c.entries s ++ only_at k es s) c.certifier.installs) (sym p.1)
        (grown-installs c.entries (only_at k (refuse_block i (c.changes i k))) c.certifier.installs
        (quiet_at k (refuse_block i (c.changes i k)) (refused-quiet i (c.changes i k))) h))
  ]
]

pub fresh-installs : (items : List (List Holding)) → AreInstalls (fresh items).entries (fresh items).certifier.installs
fresh-installs items = record {
  noted = λ a. (λ m. absurd (contains-none a m), λ l. absurd (contains-none (entry.Commit a.tx) l.logged));
  once = λ p q d lt within. absurd (omega arith);
  uncommitted = λ s tx none. refl;
}

-- ---- who is committed in a log is committed

suits_commit : (tx : ℕ) (r : Ruling) → SuitsRuling (entry.Commit tx) r → ruled r ≡ tx → r ≡ committed tx
suits_commit tx (committed i) suits own = ap committed own
suits_commit tx (refused i walk) suits own = absurd suits
suits_commit tx (withdrawn i) suits own = absurd suits

-- and the log is of a site
pub logged-inside : (c : CoreState) (s tx : ℕ) → IsSound c → Contains (c.entries s) (entry.Commit tx)
    → s < length c.items
logged-inside c s tx h m =
    let out : length c.items ≤ s
    → ⊥ = λ le. contains-none (entry.Commit tx)
    (subst (λ es. Contains es (entry.Commit tx)) (h.walked.outside s le) m) in
    omega (arith, out)

pub logged-committed : (c : CoreState) (s tx : ℕ) → IsSound c → Contains (c.entries s) (entry.Commit tx)
    → Contains (serial c.certifier) tx
logged-committed c s tx h m =
    elim ((h.legal.sites s (logged-inside c s tx h m)).log.stands (entry.Commit tx)
    (Contains-append_left (c.entries s) (c.due s) (entry.Commit tx) m)) [
      | inl read ↦ absurd read.0
      | inr done ↦
          let by = done.0.1 in
          h.ruled.to_serial done.0.0 tx (by.1 ∙ ap Some (suits_commit tx by.0 by.3 by.2))
    ]
