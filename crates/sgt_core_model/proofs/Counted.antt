-- The installs that the certifier was told of count the changes of each item.
use Rattle.std.proofs.Common.{◌≡◌, ◌+◌, ℕ, suc, Bool, true, false, cond, List, [], ◌∷◌, ◌++◌, length, map, refl, sym, ◌∙◌, arith, ◌⊎◌, inl, inr, AllPairs, Contains, Option, Some, None, subst, ap}
use Rattle.std.specs.Prelude.{◌==◌, ◌||◌, count_by}
use Rattle.std.specs.List.{filter_map, list_any, AllByRecursion, cons_option}
use Rattle.std.specs.Str.{bytes_eq}
use Rattle.std.proofs.lemmas.Bool.{cases_Bool, cases_eq, eq-eqb, ne_eqb, true≢false}
use Rattle.std.proofs.lemmas.List.{length-append}
use Rattle.std.proofs.lemmas.List.Elements.{filter_map-append}
use Rattle.std.proofs.lemmas.List.Sums.{sum_by-append}
use Rattle.std.proofs.lemmas.Option.{same_Some}
use Rattle.std.proofs.lemmas.Slice.Eq.{bytes_eq-Decides}
use Rattle.sgt_names.specs.Name.{Name}
use Rattle.sgt_names.specs.Entry.{change_of}
use Rattle.sgt_names.specs.declared.entry.Change.{Change}
use Rattle.sgt_names.specs.declared.entry.Change.TheVariants.{Put, Add}
use Rattle.sgt_names.specs.declared.entry.Entry.{Entry}
use Rattle.sgt_names.specs.declared.entry.Entry.TheVariants as entry
use Rattle.sgt_names.specs.declared.entry.Holding.{Holding}
use Rattle.sgt_names.proofs.Places.{PairsByRecursion, recursion_from_AllPairs}
use Rattle.sgt_site.specs.State.{version_at, change_entry, want_entry, commit_block, refuse_block}
use Rattle.sgt_bundle.specs.declared.certificate.Step.{Step}
use Rattle.sgt_certifier.specs.Certifier.{State, Arc, Install, Commits, Refuses, with_finished, with_install}
use Rattle.sgt_certifier.specs.History.{changes_item}
use Rattle.sgt_certifier.proofs.Members.{placed_self}
use Rattle.sgt_core_model.specs.Core.{OpenStep, CoreState, fresh, with_entries, only_at, changed_at, put_in, with_change, touches, as_changes, committed_block, refused_block, withdrawn_block, is_committed, noted}
use Rattle.sgt_core_model.proofs.Kept.{AreApart, IsDueBlock, IsCounted}
use Rattle.sgt_core_model.proofs.Entries.{as_wants}
use Rattle.sgt_core_model.proofs.LegalSteps.{only_here, only_there, cleared_here, cleared_there}
use Rattle.sgt_core_model.proofs.Faults.{is_in-Decides}

-- ---- the versions that entries make

version-append : (xs ys : List Entry) (x : Name) → version_at (xs ++ ys) x ≡ version_at xs x + version_at ys x
version-append xs ys x = ap length (filter_map-append (change_of x) xs ys)
    ∙ length-append (filter_map (change_of x) xs) (filter_map (change_of x) ys)

change_hit : (i : ℕ) (y : Name) (c : Change) (x : Name) → bytes_eq y x ≡ true
    → change_of x (change_entry i y c) ≡ Some c
change_hit i y (Put v) x hit = rw hit refl
change_hit i y (Add v) x hit = rw hit refl

change_miss : (i : ℕ) (y : Name) (c : Change) (x : Name) → bytes_eq y x ≡ false
    → change_of x (change_entry i y c) ≡ None
change_miss i y (Put v) x miss = rw miss refl
change_miss i y (Add v) x miss = rw miss refl

want_none : (i : ℕ) (y : Name) (c : Change) (x : Name) → change_of x (want_entry i y c) ≡ None
want_none i y (Put v) x = refl
want_none i y (Add v) x = refl

-- one entry in front
version_more : (x : Name) (e : Entry) (es : List Entry) (c : Change) → change_of x e ≡ Some c
    → version_at (e ∷ es) x ≡ suc (version_at es x)
version_more x e es c is = ap (λ o. length (cons_option o (filter_map (change_of x) es))) is

version_same : (x : Name) (e : Entry) (es : List Entry) → change_of x e ≡ None → version_at (e ∷ es) x ≡ version_at es x
version_same x e es is = ap (λ o. length (cons_option o (filter_map (change_of x) es))) is

-- the items of the changes
abbrev pub items_of : List (Name × Change) → List Name
items_of cs = map (λ (d : Name × Change). d.0) cs

turned : (x y : Name) (b : Bool) → bytes_eq x y ≡ b → bytes_eq y x ≡ b
turned x y true e = (bytes_eq-Decides y x).1 (sym ((bytes_eq-Decides x y).0 e))
turned x y false e =
    elim (cases_Bool (bytes_eq y x)) [
      | inl hit ↦ absurd (true≢false (sym ((bytes_eq-Decides x y).1 (sym ((bytes_eq-Decides y x).0 hit))) ∙ e))
      | inr miss ↦ miss
    ]

none-version : (i : ℕ) (x : Name) (cs : List (Name × Change)) → list_any (bytes_eq x) (items_of cs) ≡ false
    → version_at (as_changes i cs) x ≡ 0
none-version i x [] e = refl
none-version i x (d ∷ ds) e =
    elim (cases_Bool (bytes_eq x d.0)) [
      | inl hit ↦ absurd (true≢false (subst (λ b. (b || list_any (bytes_eq x) (items_of ds)) ≡ false) hit e))
      | inr miss ↦
          version_same x (change_entry i d.0 d.1) (as_changes i ds) (change_miss i d.0 d.1 x (turned x d.0 false miss))
          ∙ none-version i x ds (subst (λ b. (b || list_any (bytes_eq x) (items_of ds)) ≡ false) miss e)
    ]

-- an item of which all others are apart isn't among theirs
not_again : (x : Name) (d : Name × Change) (ds : List (Name × Change)) → d.0 ≡ x → AllByRecursion (AreApart d) ds
    → list_any (bytes_eq x) (items_of ds) ≡ false
not_again x d [] is apart = refl
not_again x d (f ∷ fs) is apart =
    elim (cases_Bool (bytes_eq x f.0)) [
      | inl hit ↦ absurd (apart.0 (is ∙ (bytes_eq-Decides x f.0).0 hit))
      | inr miss ↦ rw miss (not_again x d fs is apart.1)
    ]

one-version : (i : ℕ) (x : Name) (cs : List (Name × Change)) → PairsByRecursion AreApart cs
    → list_any (bytes_eq x) (items_of cs) ≡ true
    → version_at (as_changes i cs) x ≡ 1
one-version i x [] once e = absurd (true≢false (sym e))
one-version i x (d ∷ ds) once e =
    elim (cases_Bool (bytes_eq x d.0)) [
      | inl hit ↦
          version_more x (change_entry i d.0 d.1) (as_changes i ds) d.1 (change_hit i d.0 d.1 x (turned x d.0 true hit))
          ∙ ap suc (none-version i x ds (not_again x d ds (sym ((bytes_eq-Decides x d.0).0 hit)) once.0))
      | inr miss ↦
          version_same x (change_entry i d.0 d.1) (as_changes i ds) (change_miss i d.0 d.1 x (turned x d.0 false miss))
          ∙ one-version i x ds once.1 (subst (λ b. (b || list_any (bytes_eq x) (items_of ds)) ≡ true) miss e)
    ]

wants-version : (i : ℕ) (x : Name) (cs : List (Name × Change)) → version_at (as_wants i cs) x ≡ 0
wants-version i x [] = refl
wants-version i x (d ∷ ds) = version_same x (want_entry i d.0 d.1) (as_wants i ds) (want_none i d.0 d.1 x)
    ∙ wants-version i x ds

refused-version : (i : ℕ) (x : Name) (cs : List (Name × Change)) → version_at (refuse_block i cs) x ≡ 0
refused-version i x cs = version-append (as_wants i cs) (entry.Refuse i ∷ []) x
    ∙ (let e = wants-version i x cs in omega arith)

-- ---- the installs

-- an install of these items at a site
abbrev pub install_at : ℕ → ℕ → List Name → Install
install_at i s items = record { tx = i; site = s; items = items }

count_push : (p : Install → Bool) (xs : List Install) (a : Install) (b : Bool) → p a ≡ b
    → count_by p (xs ++ a ∷ []) ≡ count_by p xs + cond b 1 0
count_push p xs a b e =
    let one : count_by p (a ∷ []) ≡ cond b 1 0 = ap (λ t. 0 + cond t 1 0) e ∙ nothing b in
    sum_by-append (λ x. cond (p x) 1 0) xs (a ∷ []) ∙ ap (λ n. count_by p xs + n) one
  where
    nothing : (b : Bool) → 0 + cond b 1 0 ≡ cond b 1 0
    nothing true = refl
    nothing false = refl

-- an install at the site counts the items that it changes
count_here : (s : ℕ) (x : Name) (xs : List Install) (i : ℕ) (items : List Name) (b : Bool)
    → list_any (bytes_eq x) items ≡ b
    → count_by (changes_item s x) (xs ++ install_at i s items ∷ []) ≡ count_by (changes_item s x) xs + cond b 1 0
count_here s x xs i items b e = count_push (changes_item s x) xs (install_at i s items) b (rw (eq-eqb s s refl) e)

-- and none elsewhere
count_there : (s t : ℕ) (x : Name) (xs : List Install) (i : ℕ) (items : List Name) → (t ≡ s → ⊥)
    → count_by (changes_item t x) (xs ++ install_at i s items ∷ []) ≡ count_by (changes_item t x) xs
count_there s t x xs i items other =
    let miss : changes_item t x (install_at i s items) ≡ false = rw (ne_eqb s t (λ is. other (sym is))) refl in
    let e = count_push (changes_item t x) xs (install_at i s items) false miss in
    omega arith

-- the versions of a block are those of its items
committed-version : (i : ℕ) (x : Name) (cs : List (Name × Change)) (b : Bool) → AllPairs AreApart cs
    → list_any (bytes_eq x) (items_of cs) ≡ b
    → version_at (commit_block i cs) x ≡ cond b 1 0
committed-version i x cs true once e =
    version-append (as_changes i cs) (entry.Commit i ∷ []) x
    ∙ (let one = one-version i x cs (recursion_from_AllPairs AreApart cs once) e in omega arith)
committed-version i x cs false once e =
    version-append (as_changes i cs) (entry.Commit i ∷ []) x ∙ (let none = none-version i x cs e in omega arith)

-- ---- one event after another

-- entries that change nothing
pub grown-counted : (c : CoreState) (more : ℕ → List Entry) → ((s : ℕ) (x : Name) → version_at (more s) x ≡ 0)
    → IsCounted c → IsCounted (with_entries c more)
grown-counted c more none k = record {
  due = k.due;
  counts = λ s x. version-append (c.entries s) (more s) x
      ∙ (let zero_more = none s x in let was = k.counts s x in omega arith);
}

pub read-none : (k tx : ℕ) (x : Name) (v s : ℕ) (y : Name) → version_at (only_at k (entry.Read tx x v ∷ []) s) y ≡ 0
read-none k tx x v s y =
    elim (cases_eq s k) [
      | inl here ↦ subst (λ n. version_at (only_at k (entry.Read tx x v ∷ []) n) y ≡ 0) (sym here)
          (subst (λ es. version_at es y ≡ 0) (sym (only_here k (entry.Read tx x v ∷ []))) refl)
      | inr there ↦ subst (λ es. version_at es y ≡ 0) (sym (only_there k (entry.Read tx x v ∷ []) s there)) refl
    ]

pub withdrawn-none : (c : CoreState) (tx s : ℕ) (y : Name) → version_at (withdrawn_block c tx s) y ≡ 0
withdrawn-none c tx s y = elim (cases_Bool (touches c tx s)) [ inl hit ↦ rw hit refl | inr miss ↦ rw miss refl ]

-- the same logs, and nothing decided
pub idle-counted : (c : CoreState) (mid : State) (step : Option OpenStep) → mid.step ≡ None
    → mid.installs ≡ c.certifier.installs → IsCounted c
    → IsCounted (record c { certifier = mid; step = step })
idle-counted c mid step none same k = record {
  due = λ i s e. absurd (let f : Some i ≡ None = sym e ∙ none in cc);
  counts = λ s x. k.counts s x ∙ ap (count_by (changes_item s x)) (sym same);
}

pub change-counted : (c : CoreState) (tx s : ℕ) (x : Name) (change : Change) → (c.certifier.step ≡ Some tx → ⊥)
    → IsCounted c → IsCounted (with_change c tx s x change)
change-counted c tx s x change free k = record {
  due = λ i t e.
      let other : i ≡ tx → ⊥ = λ is. free (subst (λ j. c.certifier.step ≡ Some j) is e) in
      let same : c.changes i t ≡ (with_change c tx s x change).changes i t
      = ap (λ b. cond b (changed_at s (put_in (x, change) (c.changes tx s)) (c.changes tx)) (c.changes i) t)
      (sym (ne_eqb i tx other)) in
      subst (λ cs. (c.due t ≡ []) ⊎ (((is_committed c i ≡ true) × (c.due t ≡ commit_block i cs))
      ⊎ ((is_committed c i ≡ false) × (c.due t ≡ refuse_block i cs)))) same (k.due i t e);
  counts = k.counts;
}

either : (t : Bool) (es : List Entry) → (cond t es [] ≡ []) ⊎ (cond t es [] ≡ es)
either true es = inr refl
either false es = inl refl

pub yes-counted : (c : CoreState) (i : ℕ) (arcs : List Arc) (mid : State) → Commits c.certifier i arcs mid → IsCounted c
    → IsCounted (record c { certifier = mid; due = committed_block c i })
yes-counted c i arcs mid m k = record {
  due = λ j s e.
      let is : i ≡ j = same_Some i j (sym (ap (λ (t : State). t.step) m.after) ∙ e) in
      let there : Contains mid.order i
      = subst (λ (t : State). Contains t.order i) (sym m.after)
      (subst (λ p. Contains p i) (sym m.placed.2) (placed_self m.placed.0 c.certifier.order i)) in
      let hit = (is_in-Decides mid.order i).1 there in
      subst (λ t. IsDueBlock (record c { certifier = mid; due = committed_block c i }) t s) is
      (elim (either (touches c i s) (commit_block i (c.changes i s))) [
        | inl none ↦ inl none
        | inr some ↦ inr (inl (hit, some))
      ]);
  counts = λ s x. k.counts s x ∙ ap (λ (t : State). count_by (changes_item s x) t.installs) (sym m.after);
}

pub no-counted : (c : CoreState) (i : ℕ) (arcs : List Arc) (walk : List Step) (mid : State)
    → (Contains c.certifier.order i → ⊥)
    → Refuses c.certifier i arcs walk mid → IsCounted c
    → IsCounted (record c { certifier = mid; due = refused_block c i })
no-counted c i arcs walk mid out r k = record {
  due = λ j s e.
      let is : i ≡ j = same_Some i j (sym (ap (λ (t : State). t.step) r.after) ∙ e) in
      let absent : Contains mid.order i → ⊥ = λ m. out (subst (λ (t : State). Contains t.order i) r.after m) in
      let miss : list_any (λ t. t == i) mid.order ≡ false =
      elim (cases_Bool (list_any (λ t. t == i) mid.order))
      [ inl hit ↦ absurd (absent ((is_in-Decides mid.order i).0 hit)) | inr no_hit ↦ no_hit ] in
      subst (λ t. IsDueBlock (record c { certifier = mid; due = refused_block c i }) t s) is
      (elim (either (touches c i s) (refuse_block i (c.changes i s))) [
        | inl none ↦ inl none
        | inr some ↦ inr (inr (miss, some))
      ]);
  counts = λ s x. k.counts s x ∙ ap (λ (t : State). count_by (changes_item s x) t.installs) (sym r.after);
}

pub closing-counted : (c : CoreState) (i : ℕ) → IsCounted c
    → IsCounted (record c { certifier = with_finished c.certifier i; step = None; due = λ s. [] })
closing-counted c i k = record { due = λ j s e. absurd cc; counts = k.counts }

-- a block is written, where the counts come out with it
written-counted : (c : CoreState) (i k : ℕ) (mid : State) → c.certifier.step ≡ Some i → mid.step ≡ c.certifier.step
    → mid.order ≡ c.certifier.order
    → ((s : ℕ) (x : Name)
    → version_at (c.entries s ++ only_at k (c.due k) s) x ≡ count_by (changes_item s x) mid.installs) → IsCounted c
    → IsCounted (record (with_entries c (only_at k (c.due k))) { certifier = mid; due = changed_at k [] c.due })
written-counted c i k mid own same_step same_order counts h = record {
  due = λ j s e. elim (cases_eq s k) [
    | inl here ↦ inl (subst (λ n. changed_at k [] c.due n ≡ []) (sym here) (cleared_here k c.due))
    | inr there ↦
        let stays = cleared_there k c.due s there in
        let same : is_committed c j ≡ list_any (λ t. t == j) mid.order = ap (list_any (λ t. t == j)) (sym same_order) in
        elim (h.due j s (sym same_step ∙ e)) [
          | inl none ↦ inl (stays ∙ none)
          | inr some ↦ elim some [
            | inl p ↦ inr (inl (sym same ∙ p.0, stays ∙ p.1))
            | inr p ↦ inr (inr (sym same ∙ p.0, stays ∙ p.1))
          ]
        ]
  ];
  counts = counts;
}

-- the versions elsewhere are the same
elsewhere : (c : CoreState) (k s : ℕ) (x : Name) → (s ≡ k → ⊥)
    → version_at (c.entries s ++ only_at k (c.due k) s) x ≡ version_at (c.entries s) x
elsewhere c k s x there =
    let none : version_at (only_at k (c.due k) s) x ≡ 0 = ap (λ es. version_at es x) (only_there k (c.due k) s there) in
    version-append (c.entries s) (only_at k (c.due k) s) x ∙ (omega arith)

-- and here those of the block come on top
on_top : (c : CoreState) (k : ℕ) (x : Name)
    → version_at (c.entries k ++ only_at k (c.due k) k) x ≡ version_at (c.entries k) x + version_at (c.due k) x
on_top c k x = version-append (c.entries k) (only_at k (c.due k) k) x
    ∙ ap (λ es. version_at (c.entries k) x + version_at es x) (only_here k (c.due k))

committed-counts : (c : CoreState) (i k : ℕ) → AllPairs AreApart (c.changes i k)
    → c.due k ≡ commit_block i (c.changes i k) → IsCounted c → (s : ℕ) (x : Name)
    → version_at (c.entries s ++ only_at k (c.due k) s) x ≡ count_by (changes_item s x)
    (c.certifier.installs ++ install_at i k (items_of (c.changes i k)) ∷ [])
committed-counts c i k once block h s x =
    let items = items_of (c.changes i k) in
    elim (cases_eq s k) [
      | inl here ↦
          let b = list_any (bytes_eq x) items in
          let added : version_at (c.due k) x ≡ cond b 1 0 = ap (λ es. version_at es x) block
          ∙ committed-version i x (c.changes i k) b once refl in
          let counted = count_here k x c.certifier.installs i items b refl in
          let was = h.counts k x in
          let top = on_top c k x in
          subst (λ n. version_at (c.entries n ++ only_at k (c.due k) n) x ≡ count_by (changes_item n x)
          (c.certifier.installs ++ install_at i k items ∷ [])) (sym here)
          (top ∙ (ap (λ n. n + version_at (c.due k) x) was
          ∙ (ap (λ n. count_by (changes_item k x) c.certifier.installs + n) added ∙ sym counted)))
      | inr there ↦ elsewhere c k s x there
          ∙ (h.counts s x ∙ sym (count_there k s x c.certifier.installs i items there))
    ]

refused-counts : (c : CoreState) (i k : ℕ) → c.due k ≡ refuse_block i (c.changes i k) → IsCounted c → (s : ℕ) (x : Name)
    → version_at (c.entries s ++ only_at k (c.due k) s) x ≡ count_by (changes_item s x) c.certifier.installs
refused-counts c i k block h s x =
    elim (cases_eq s k) [
      | inl here ↦
          let none : version_at (c.due k) x ≡ 0 = ap (λ es. version_at es x) block
          ∙ refused-version i x (c.changes i k) in
          let was = h.counts k x in
          let top = on_top c k x in
          subst (λ n. version_at (c.entries n ++ only_at k (c.due k) n) x ≡ count_by (changes_item n x)
          c.certifier.installs) (sym here) (omega arith)
      | inr there ↦ elsewhere c k s x there ∙ h.counts s x
    ]

-- the block of k is written, and noted if it is a commit's
pub install-counted : (c : CoreState) (i k : ℕ) → c.certifier.step ≡ Some i → (c.due k ≡ [] → ⊥)
    → AllPairs AreApart (c.changes i k) → IsCounted c
    → IsCounted (record (with_entries c (only_at k (c.due k))) { certifier = noted c i k; due = changed_at k [] c.due })
install-counted c i k own due once h = elim (h.due i k own) [
  | inl none ↦ absurd (due none)
  | inr some ↦ elim some [
    | inl p ↦ rw p.0 (written-counted c i k (with_install c.certifier i k (items_of (c.changes i k))) own refl refl
        (committed-counts c i k once p.1 h) h)
    | inr p ↦ rw p.0 (written-counted c i k c.certifier own refl refl (refused-counts c i k p.1 h) h)
  ]
]

pub fresh-counted : (items : List (List Holding)) → IsCounted (fresh items)
fresh-counted items = record { due = λ i s e. absurd cc; counts = λ s x. refl }
