-- Each step of the core keeps the logs legal.
use Rattle.std.proofs.Common.{◌≡◌, ◌<◌, ℕ, suc, Bool, true, false, cond, List, [], ◌∷◌, ◌++◌, length, refl, sym, ◌∙◌, inl, inr, arith, Contains, Option, Some, None, subst, ap}
use Rattle.std.specs.Prelude.{◌==◌, ◌||◌, ◌&&◌, not}
use Rattle.std.specs.List.{list_all, list_any}
use Rattle.std.proofs.lemmas.Bool.{cases_Bool, cases_eq, eq-eqb, ne_eqb, true≢false}
use Rattle.std.proofs.lemmas.List.{append-nil}
use Rattle.std.proofs.lemmas.List.Elements.{Contains-append_left}
use Rattle.std.proofs.lemmas.Option.{same_Some}
use Rattle.sgt_names.specs.Name.{Name}
use Rattle.sgt_names.specs.Entry.{tx_of, Reads}
use Rattle.sgt_names.specs.Log.{names, value_at}
use Rattle.sgt_names.specs.declared.entry.Entry.{Entry}
use Rattle.sgt_names.specs.declared.entry.Entry.TheVariants as entry
use Rattle.sgt_names.specs.declared.entry.Holding.{Holding}
use Rattle.sgt_bundle.specs.declared.certificate.Step.{Step}
use Rattle.sgt_certifier.specs.Certifier.{State, Arc, committed, refused, withdrawn, Commits, Refuses, with_begun, with_finished, with_withdrawn, with_install, with_closed}
use Rattle.sgt_certifier.specs.Sound.{IsRuled}
use Rattle.sgt_certifier.proofs.Members.{cons_here, member_filter}
use Rattle.sgt_core_model.specs.Core.{OpenStep, CoreState, fresh, items_at, sites_of, with_entries, only_at, changed_at, touches, is_some_change, as_changes, is_empty, is_written, committed_block, refused_block, withdrawn_block}
use Rattle.sgt_core_model.proofs.Kept.{IsOrdered, IsFree, IsLegalSite, IsLegal}
use Rattle.sgt_core_model.proofs.Entries.{as_wants}
use Rattle.sgt_core_model.proofs.Legal.{Decides}
use Rattle.sgt_core_model.proofs.LegalSites.{site-state, site-read, site-written, site-due}
use Rattle.sgt_core_model.proofs.Blocks.{committed-block, committed-blocks, refused-block, refused-blocks, withdrawn-block, withdrawn-blocks, either_blocks}
use Rattle.sgt_names.proofs.Elements.{contains-cases, contains-none}

-- who has an entry at the site touches it
any_here : (p : Entry → Bool) (xs : List Entry) (e : Entry) → Contains xs e → p e ≡ true → list_any p xs ≡ true
any_here p [] e c t = absurd (contains-none e c)
any_here p (x ∷ xs) e c t =
    elim (cases_Bool (p x)) [
      | inl hit ↦ rw hit refl
      | inr miss ↦ rw miss (elim (contains-cases x xs e c) [
        | inl is ↦ absurd (true≢false (sym t ∙ subst (λ f. p f ≡ false) is miss))
        | inr later ↦ any_here p xs e later t
      ])
    ]

pub touches_own : (c : CoreState) (i s : ℕ) (e : Entry) → Contains (c.entries s) e → tx_of e ≡ i → touches c i s ≡ true
touches_own c i s e m own =
    ap (λ b. b || is_some_change (c.changes i s))
    (any_here (λ f. tx_of f == i) (c.entries s) e m (eq-eqb (tx_of e) i own))

-- ---- at one site

pub only_here : (k : ℕ) (es : List Entry) → only_at k es k ≡ es
only_here k es = ap (λ b. cond b es []) (eq-eqb k k refl)

pub only_there : (k : ℕ) (es : List Entry) (s : ℕ) → (s ≡ k → ⊥) → only_at k es s ≡ []
only_there k es s ne = ap (λ b. cond b es []) (ne_eqb s k ne)

pub cleared_here : (k : ℕ) (due : ℕ → List Entry) → changed_at k [] due k ≡ []
cleared_here k due = ap (λ b. cond b [] (due k)) (eq-eqb k k refl)

pub cleared_there : (k : ℕ) (due : ℕ → List Entry) (s : ℕ) → (s ≡ k → ⊥) → changed_at k [] due s ≡ due s
cleared_there k due s ne = ap (λ b. cond b [] (due s)) (ne_eqb s k ne)

-- the logs of the other sites stay
pub unchanged_there : (c : CoreState) (k s : ℕ) (es : List Entry) → (s ≡ k → ⊥)
    → c.entries s ≡ c.entries s ++ only_at k es s
unchanged_there c k s es ne = sym (append-nil (c.entries s)) ∙ ap (λ xs. c.entries s ++ xs) (sym (only_there k es s ne))

pub begin-legal : (c : CoreState) → IsLegal c → IsLegal (record c { certifier = with_begun c.certifier })
begin-legal c h = record {
  sites = λ s lt. site-state (items_at c s) c.certifier (with_begun c.certifier) (c.entries s) (c.due s) refl
      (λ j f. (Contains-append_left c.certifier.active (suc c.certifier.begun ∷ []) j f.0, f.1)) (h.sites s lt);
  changes_known = h.changes_known;
  changes_once = h.changes_once;
}

pub read-legal_at : (c : CoreState) (t k : ℕ) (x : Name) (v : ℕ) → IsLegal c → IsRuled c.certifier
    → IsFree c.certifier t → Contains (names (items_at c k)) x → ((e : Entry) → Contains (c.entries k) e → tx_of e ≡ t
    → Reads x e → ⊥)
    → value_at (items_at c k) (c.entries k) x ≡ Some v → IsLegal (with_entries c (only_at k (entry.Read t x v ∷ [])))
read-legal_at c t k x v h ruled_ free known fresh legal = record {
  sites = λ s lt. elim (cases_eq s k) [
    | inl here ↦
        let at_k =
        site-read (items_at c k) c.certifier (c.entries k) (c.due k) t x v
        (h.sites k (subst (λ n. n < length c.items) here lt)) ruled_ free known fresh legal in
        let at_k2 : IsLegalSite (items_at c k) c.certifier (c.entries k ++ only_at k (entry.Read t x v ∷ []) k)
        (c.due k)
        = subst (λ es. IsLegalSite (items_at c k) c.certifier (c.entries k ++ es) (c.due k))
        (sym (only_here k (entry.Read t x v ∷ []))) at_k in
        subst (λ n. IsLegalSite (items_at c n) c.certifier (c.entries n ++ only_at k (entry.Read t x v ∷ []) n)
        (c.due n)) (sym here) at_k2
    | inr there ↦ subst (λ es. IsLegalSite (items_at c s) c.certifier es (c.due s))
        (unchanged_there c k s (entry.Read t x v ∷ []) there) (h.sites s lt)
  ];
  changes_known = h.changes_known;
  changes_once = h.changes_once;
}

-- the step ends where no block is due any more
pub all_pass : (p : ℕ → Bool) (xs : List ℕ) (x : ℕ) → list_all p xs ≡ true → Contains xs x → p x ≡ true
all_pass p [] x t c = absurd (contains-none x c)
all_pass p (y ∷ ys) x t c =
    elim (cases_Bool (p y)) [
      | inl hit ↦ elim (contains-cases y ys x c) [
        | inl is ↦ subst (λ z. p z ≡ true) is hit
        | inr later ↦ all_pass p ys x (subst (λ b. (b && list_all p ys) ≡ true) hit t) later
      ]
      | inr miss ↦ absurd (true≢false (sym (subst (λ b. (b && list_all p ys) ≡ true) miss t)))
    ]

pub empty_is : (es : List Entry) → is_empty es ≡ true → es ≡ []
empty_is [] t = refl
empty_is (e ∷ es) t = absurd (true≢false (sym t))

pub closing-legal : (c : CoreState) (i : ℕ) → ((s : ℕ) → s < length c.items → Contains (sites_of c) s) → IsLegal c
    → c.certifier.step ≡ Some i
    → is_written c ≡ true → IsLegal (record c { certifier = with_finished c.certifier i; step = None; due = λ s. [] })
closing-legal c i there h open_i done = record {
  sites = λ s lt.
      let none : c.due s ≡ [] =
      empty_is (c.due s) (all_pass (λ n. is_empty (c.due n)) (sites_of c) s done (there s lt)) in
      site-state (items_at c s) c.certifier (with_finished c.certifier i) (c.entries s) [] refl
      (λ j f. (
        member_filter (λ a. not (a == i)) c.certifier.active j f.0
            (ap not (ne_eqb j i (λ same. f.1 (open_i ∙ ap Some (sym same))))),
        λ e. absurd cc,
      ))
      (subst (IsLegalSite (items_at c s) c.certifier (c.entries s)) none (h.sites s lt));
  changes_known = h.changes_known;
  changes_once = h.changes_once;
}

pub install-legal : (c : CoreState) (k : ℕ) → IsLegal c
    → IsLegal (record (with_entries c (only_at k (c.due k))) { due = changed_at k [] c.due })
install-legal c k h = record {
  sites = λ s lt. elim (cases_eq s k) [
    | inl here ↦
        let at_k =
        site-written (items_at c k) c.certifier (c.entries k) (c.due k)
        (h.sites k (subst (λ n. n < length c.items) here lt)) in
        let with_due : IsLegalSite (items_at c k) c.certifier (c.entries k ++ c.due k) (changed_at k [] c.due k)
        = subst (IsLegalSite (items_at c k) c.certifier (c.entries k ++ c.due k)) (sym (cleared_here k c.due)) at_k in
        let at_k2 : IsLegalSite (items_at c k) c.certifier (c.entries k ++ only_at k (c.due k) k)
        (changed_at k [] c.due k)
        = subst (λ es. IsLegalSite (items_at c k) c.certifier (c.entries k ++ es) (changed_at k [] c.due k))
        (sym (only_here k (c.due k))) with_due in
        subst (λ n. IsLegalSite (items_at c n) c.certifier (c.entries n ++ only_at k (c.due k) n)
        (changed_at k [] c.due n)) (sym here) at_k2
    | inr other ↦
        let same : IsLegalSite (items_at c s) c.certifier (c.entries s ++ only_at k (c.due k) s) (c.due s)
        = subst (λ es. IsLegalSite (items_at c s) c.certifier es (c.due s)) (unchanged_there c k s (c.due k) other)
        (h.sites s lt) in
        subst (IsLegalSite (items_at c s) c.certifier (c.entries s ++ only_at k (c.due k) s))
        (sym (cleared_there k c.due s other)) same
  ];
  changes_known = h.changes_known;
  changes_once = h.changes_once;
}

pub noted-legal : (c : CoreState) (i s : ℕ) (items : List Name) → IsLegal c
    → IsLegal (record c { certifier = with_install c.certifier i s items })
noted-legal c i s items h = record {
  sites = λ k lt. site-state (items_at c k) c.certifier (with_install c.certifier i s items) (c.entries k)
      (c.due k) refl (λ j f. f) (h.sites k lt);
  changes_known = h.changes_known;
  changes_once = h.changes_once;
}

-- no block is due while no step is open
pub none_due : (c : CoreState) (s : ℕ) → IsOrdered c → c.certifier.step ≡ None → c.due s ≡ []
none_due c s o none = empty (c.due s) (λ e m. let f : None ≡ Some (tx_of e) = sym none ∙ o.due s e m in cc)
  where
    empty : (es : List Entry) → ((e : Entry) → Contains es e → ⊥) → es ≡ []
    empty [] h = refl
    empty (e ∷ es) h = absurd (h e (cons_here e es))

idle_site : (c : CoreState) (s : ℕ) → IsOrdered c → IsLegal c → c.certifier.step ≡ None → s < length c.items
    → IsLegalSite (items_at c s) c.certifier (c.entries s) []
idle_site c s o h none lt = subst (IsLegalSite (items_at c s) c.certifier (c.entries s)) (none_due c s o none)
    (h.sites s lt)

free_idle : (s : State) (i : ℕ) → s.step ≡ None → Contains s.active i → IsFree s i
free_idle s i none active = (active, λ e. let f : None ≡ Some i = sym none ∙ e in absurd cc)

pub yes-legal : (c : CoreState) (i : ℕ) (arcs : List Arc) (mid : State) → IsOrdered c → IsRuled c.certifier
    → IsLegal c → c.certifier.step ≡ None
    → Contains c.certifier.active i → Commits c.certifier i arcs mid
    → IsLegal (record c { certifier = mid; due = committed_block c i })
yes-legal c i arcs mid o ruled_ h none active m =
    let d : Decides c.certifier i (committed i) mid = record {
      rulings = ap (λ s. s.rulings) m.after;
      of_i = refl;
      others = λ j ne f. subst (λ s. IsFree s j) (sym m.after) (f.0, λ e. ne (sym (same_Some i j e)));
    } in
    record {
      sites = λ s lt. site-due (items_at c s) c.certifier mid (c.entries s) i (committed i)
          (as_changes i (c.changes i s)) (entry.Commit i) (touches c i s)
          (idle_site c s o h none lt) ruled_ (free_idle c.certifier i none active) d
          (committed-block (items_at c s) i (c.changes i s) (h.changes_known i s) (h.changes_once i s))
          (either_blocks (as_changes i (c.changes i s)) (entry.Commit i) (committed-blocks i (c.changes i s)))
          (touches_own c i s);
      changes_known = h.changes_known;
      changes_once = h.changes_once;
    }

pub no-legal : (c : CoreState) (i : ℕ) (arcs : List Arc) (walk : List Step) (mid : State) → IsOrdered c
    → IsRuled c.certifier → IsLegal c
    → c.certifier.step ≡ None → Contains c.certifier.active i → Refuses c.certifier i arcs walk mid
    → IsLegal (record c { certifier = mid; due = refused_block c i })
no-legal c i arcs walk mid o ruled_ h none active m =
    let d : Decides c.certifier i (refused i walk) mid = record {
      rulings = ap (λ s. s.rulings) m.after;
      of_i = refl;
      others = λ j ne f. subst (λ s. IsFree s j) (sym m.after) (f.0, λ e. ne (sym (same_Some i j e)));
    } in
    record {
      sites = λ s lt. site-due (items_at c s) c.certifier mid (c.entries s) i (refused i walk)
          (as_wants i (c.changes i s)) (entry.Refuse i) (touches c i s)
          (idle_site c s o h none lt) ruled_ (free_idle c.certifier i none active) d
          (refused-block (items_at c s) i walk (c.changes i s) (h.changes_known i s) (h.changes_once i s))
          (either_blocks (as_wants i (c.changes i s)) (entry.Refuse i) (refused-blocks i walk (c.changes i s)))
          (touches_own c i s);
      changes_known = h.changes_known;
      changes_once = h.changes_once;
    }

pub withdraw-legal : (c : CoreState) (i : ℕ) → IsOrdered c → IsRuled c.certifier → IsLegal c → c.certifier.step ≡ None
    → Contains c.certifier.active i
    → IsLegal (record (with_entries c (withdrawn_block c i)) { certifier = with_withdrawn c.certifier i })
withdraw-legal c i o ruled_ h none active =
    let d : Decides c.certifier i (withdrawn i) (with_withdrawn c.certifier i) = record {
      rulings = refl;
      of_i = refl;
      others = λ j ne f. (member_filter (λ a. not (a == i)) c.certifier.active j f.0 (ap not (ne_eqb j i ne)), f.1);
    } in
    record {
      sites = λ s lt.
          let due = site-due (items_at c s) c.certifier (with_withdrawn c.certifier i) (c.entries s) i (withdrawn i)
          [] (entry.Withdraw i) (touches c i s) (idle_site c s o h none lt) ruled_
          (free_idle c.certifier i none active) d
          (withdrawn-block (items_at c s) i) (either_blocks [] (entry.Withdraw i) (withdrawn-blocks i))
          (touches_own c i s) in
          subst (IsLegalSite (items_at c s) (with_withdrawn c.certifier i) (c.entries s ++ withdrawn_block c i s))
          (sym (none_due c s o none)) (site-written (items_at c s) (with_withdrawn c.certifier i) (c.entries s)
          (withdrawn_block c i s) due);
      changes_known = h.changes_known;
      changes_once = h.changes_once;
    }

pub close-legal : (c : CoreState) → IsLegal c → c.certifier.active ≡ []
    → IsLegal (record c { certifier = with_closed c.certifier })
close-legal c h none = record {
  sites = λ s lt. site-state (items_at c s) c.certifier (with_closed c.certifier) (c.entries s) (c.due s) refl
      (λ j f. absurd (contains-none j (subst (λ ts. Contains ts j) none f.0))) (h.sites s lt);
  changes_known = h.changes_known;
  changes_once = h.changes_once;
}

pub gather-legal : (c : CoreState) (step : Option OpenStep) → IsLegal c → IsLegal (record c { step = step })
gather-legal c step h = record { sites = h.sites; changes_known = h.changes_known; changes_once = h.changes_once }

pub fresh-legal : (items : List (List Holding)) → IsLegal (fresh items)
fresh-legal items = record {
  sites = λ s lt. record {
    log = record {
      known = λ e c. absurd (contains-none e c);
      once = λ i j d l within. absurd (omega arith);
      closed = λ i j d l within. absurd (omega arith);
      stands = λ e c. absurd (contains-none e c);
      in_order = λ i j d l within. absurd (omega arith);
    };
    blocks = λ n e at_n. absurd cc;
    due_blocks = λ n e at_n. absurd cc;
    reads = λ n t x v at_n. absurd cc;
    due_reads = λ e c. absurd (contains-none e c);
  };
  changes_known = λ t s d c. absurd (contains-none d c);
  changes_once = λ t s i j d l within. absurd (omega arith);
}
