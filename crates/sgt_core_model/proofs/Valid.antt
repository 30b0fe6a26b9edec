-- When no transaction is active, the logs with the certificate are valid.
use Rattle.std.proofs.Common.{◌≡◌, ◌<◌, ◌+◌, ℕ, zero, suc, cond, List, [], ◌∷◌, ◌++◌, length, map, refl, sym, ◌∙◌, arith, inl, inr, AllPairs, Contains, Some, subst, ap, zero-add, ap₂}
use Rattle.std.specs.Prelude.{slice_get, unwrap_or, Any, fold}
use Rattle.std.specs.List.{enumerate_from, filter_map}
use Rattle.std.specs.Str.{bytes_eq}
use Rattle.std.proofs.lemmas.Bool.{cases_Bool, true≢false}
use Rattle.std.proofs.lemmas.Slice.Eq.{bytes_eq-Decides}
use Rattle.std.proofs.lemmas.List.{append-nil}
use Rattle.std.proofs.lemmas.List.Elements.{Contains-append_left}
use Rattle.std.proofs.lemmas.Option.{same_Some, slice_get_within}
use Rattle.sgt_names.specs.Name.{Name}
use Rattle.sgt_names.specs.Entry.{tx_of, change_of, IsEnd, Repeats}
use Rattle.sgt_names.specs.Log.{names, value_in, value_with, value_at, IsFormed, FinalsAreLegal, Conflicts}
use Rattle.sgt_names.specs.declared.entry.Change.{Change}
use Rattle.sgt_names.specs.declared.entry.Change.TheVariants.{Put, Add}
use Rattle.sgt_names.specs.declared.entry.Entry.{Entry}
use Rattle.sgt_names.specs.declared.entry.Entry.TheVariants as entry
use Rattle.sgt_names.specs.declared.entry.Holding.{Holding}
use Rattle.sgt_names.proofs.Places.{All-from_at, AllPairs-from_at, AllPairs_at, Contains-from_at, slice_get-none}
use Rattle.sgt_names.proofs.Lists.{option_cases, map_at}
use Rattle.sgt_bundle.specs.Certificate.{decided_tx, Suits}
use Rattle.sgt_bundle.specs.Valid.{IsDecided, EndInOrder, Agrees, RiseInRank, IsRanked, IsLogged, AreLogged, IsValidLog, IsValid}
use Rattle.sgt_bundle.specs.declared.certificate.Step.{Step}
use Rattle.sgt_bundle.specs.declared.bundle.SiteLog.{SiteLog}
use Rattle.sgt_bundle.specs.declared.certificate.Decision.{Decision}
use Rattle.sgt_bundle.specs.declared.certificate.Decision.TheVariants as decision
use Rattle.sgt_certifier.specs.Certifier.{Ruling, committed, refused, withdrawn, ruled, serial, ranked, place_in}
use Rattle.sgt_certifier.proofs.Members.{cons_here, forward}
use Rattle.sgt_certifier.proofs.Ruling.{certificate-once, certificate-ranks, certificate-cycles, decided_ranked, ranked_refusal}
use Rattle.sgt_core_model.specs.Core.{CoreState, items_in, items_at, finals_of, site_log, bundle_of}
use Rattle.sgt_core_model.specs.Runs.{IsLoggedConflict}
use Rattle.sgt_core_model.proofs.Kept.{SuitsRuling, IsRuledBy, IsLegalSite, EndInRulingOrder, IsAt, AreAt, IsSound, written}
use Rattle.sgt_core_model.proofs.Conflicting.{in_longer}
use Rattle.sgt_core_model.proofs.Ordered.{ordered-serial}
use Rattle.sgt_bundle.proofs.Headline.{listed}
use Rattle.sgt_names.proofs.Elements.{contains-cases, contains-none, get-mapped}

-- ---- values

changed_some : (v : ℕ) (c : Change) → (w : ℕ) × (value_with (Some v) c ≡ Some w)
changed_some v (Put u) = (u, refl)
changed_some v (Add u) = (_, refl)

changes_some : (v : ℕ) (cs : List Change) → (w : ℕ) × (fold value_with (Some v) cs ≡ Some w)
changes_some v [] = (v, refl)
changes_some v (c ∷ cs) =
    let u = changed_some v c in
    let w = changes_some u.0 cs in
    (w.0, ap (λ o. fold value_with o cs) u.1 ∙ w.1)

-- a listed item has a value at the end of any entries
pub valued : (items : List Holding) (es : List Entry) (x : Name) → Contains (names items) x
    → (w : ℕ) × (value_at items es x ≡ Some w)
valued items es x c =
    let v = listed items x c in
    let w = changes_some v.0 (filter_map (change_of x) es) in
    (w.0, ap (λ o. fold value_with o (filter_map (change_of x) es)) v.1 ∙ w.1)

abbrev final_of : List Holding → List Entry → Holding → Holding
final_of items es h = record { item = h.item; value = unwrap_or (value_at items es h.item) 0 }

finals-legal : (items : List Holding) (es : List Entry) → FinalsAreLegal items es (finals_of items es)
finals-legal items es = All-from_at (λ (h : Holding). value_at items es h.item ≡ Some h.value) (finals_of items es)
    (λ n f at_n.
    let m = map_at (final_of items es) items n f at_n in
    let h = m.0 in
    let in_names : Contains (names items) h.item =
    Contains-from_at (names items) n h.item (get-mapped (λ (k : Holding). k.item) items n h m.1) in
    let w = valued items es h.item in_names in
    subst (λ (k : Holding). value_at items es k.item ≡ Some k.value) m.2 (w.1
    ∙ ap Some (sym (ap (λ o. unwrap_or o 0) w.1))))

-- ---- decisions

suits-ranked : (order : List ℕ) (e : Entry) (r : Ruling) → SuitsRuling e r → Suits e (ranked order r)
suits-ranked order (entry.Read tx x v) r h = tt
suits-ranked order (entry.Write tx x v) (committed i) h = tt
suits-ranked order (entry.Add tx x v) (committed i) h = tt
suits-ranked order (entry.Want tx x v) (refused i w) h = tt
suits-ranked order (entry.WantAdd tx x v) (refused i w) h = tt
suits-ranked order (entry.Commit tx) (committed i) h = tt
suits-ranked order (entry.Refuse tx) (refused i w) h = tt
suits-ranked order (entry.Withdraw tx) (withdrawn i) h = tt
suits-ranked order _ _ h = absurd h

commit_is : (order : List ℕ) (r : Ruling) (tx rank : ℕ) → ranked order r ≡ decision.Commit tx rank
    → (r ≡ committed tx) × (place_in order tx ≡ rank)
commit_is order (committed u) tx rank e =
    let u_is : u ≡ tx = cc in
    let rank_is : place_in order u ≡ rank = cc in
    (ap committed u_is, sym (ap (place_in order) u_is) ∙ rank_is)
commit_is order (refused u walk) tx rank e = absurd cc
commit_is order (withdrawn u) tx rank e = absurd cc

-- ---- one log

module _ (c : CoreState) (h : IsSound c) (none : c.certifier.active ≡ []) (s : ℕ) (lt : s < length c.items) where
  abbrev order : List ℕ
  order = serial c.certifier

  abbrev decisions : List Decision
  decisions = map (ranked order) c.certifier.rulings

  abbrev log : List Entry
  log = c.entries s ++ c.due s

  legal : IsLegalSite (items_at c s) c.certifier (c.entries s) (c.due s)
  legal = h.legal.sites s lt

  idle : (e : Entry) → Contains (c.due s) e → ⊥
  idle e m =
      contains-none (tx_of e)
      (subst (λ ts. Contains ts (tx_of e)) none (h.ordered.certifier.open_active (tx_of e) (h.ordered.due s e m)))

  due_is : c.due s ≡ []
  due_is = empty (c.due s) idle
    where
      empty : (es : List Entry) → ((e : Entry) → Contains es e → ⊥) → es ≡ []
      empty [] g = refl
      empty (e ∷ es) g = absurd (g e (cons_here e es))

  pub log_is : log ≡ c.entries s
  log_is = ap (λ es. c.entries s ++ es) due_is ∙ append-nil (c.entries s)

  in_log : (e : Entry) → Contains (c.entries s) e → Contains log e
  in_log e m = Contains-append_left (c.entries s) (c.due s) e m

  -- each entry is decided, and its transaction has an end
  done : (e : Entry) → Contains (c.entries s) e → ((n : ℕ) × IsRuledBy c.certifier.rulings e n)
      × ((f : Entry) × Contains (c.entries s) f × IsEnd f × (tx_of f ≡ tx_of e))
  done e m = elim (legal.log.stands e (in_log e m)) [
    | inl read ↦ absurd (contains-none (tx_of e) (subst (λ ts. Contains ts (tx_of e)) none read.1.0))
    | inr d ↦ (d.0, (d.1.0, subst (λ es. Contains es d.1.0) log_is d.1.1, d.1.2, d.1.3))
  ]

  formed : IsFormed (items_at c s) (c.entries s)
  formed = (
    record {
      known = All-from_at _ (c.entries s)
          (λ n e at_n. legal.log.known e (in_log e (Contains-from_at (c.entries s) n e at_n)));
      once = subst (AllPairs (λ e f. (x : Name) → Repeats x e f → ⊥)) log_is legal.log.once;
      blocks = legal.blocks;
      closed = subst (AllPairs (λ e f. IsEnd e → tx_of e ≡ tx_of f → ⊥)) log_is legal.log.closed;
    },
    All-from_at (λ e. Any (λ f. IsEnd f × (tx_of f ≡ tx_of e)) (c.entries s)) (c.entries s) (λ n e at_n.
        let d = (done e (Contains-from_at (c.entries s) n e at_n)).1 in
        (d.1.0, d.0, d.1.1, d.1.2, (d.2, d.3))),
  )

  ruling_of : (e : Entry) (n : ℕ) → IsDecided decisions e n
      → (r : Ruling) × (slice_get c.certifier.rulings n ≡ Some r) × (ruled r ≡ tx_of e)
  ruling_of e n d =
      let m = map_at (ranked order) c.certifier.rulings n d.0 d.1 in
      (m.0, m.1, sym (decided_ranked order m.0) ∙ ap decided_tx m.2 ∙ d.2)

  agrees : Agrees decisions (c.entries s)
  agrees = record {
    decided = All-from_at (λ e. (n : ℕ) × IsDecided decisions e n) (c.entries s) (λ n e at_n.
        let by = (done e (Contains-from_at (c.entries s) n e at_n)).0 in
        let r = by.1 in (
          by.0,
          (
            ranked order r.0,
            get-mapped (ranked order) c.certifier.rulings by.0 r.0 r.1,
            decided_ranked order r.0
                ∙ r.2,
            suits-ranked order e r.0 r.3,
          ),
        ));
    in_order =
        subst (AllPairs (EndInOrder decisions)) log_is
        (AllPairs-from_at (EndInOrder decisions) log (λ p q e f le at_e at_f end end_f m n de df.
        let a = ruling_of e m de in
        let b = ruling_of f n df in
        AllPairs_at (EndInRulingOrder c.certifier.rulings) log p q e f legal.log.in_order le at_e at_f end end_f m n
        a.0 b.0 a.1 b.1 a.2 b.2));
  }

  is_ranked : IsRanked decisions (c.entries s)
  is_ranked =
      AllPairs-from_at (RiseInRank decisions) (c.entries s)
      (λ p q e f le at_e at_f kind x m n r r_ clash apart first_com second_com.
      let a = map_at (ranked order) c.certifier.rulings m (decision.Commit (tx_of e) r) first_com in
      let b = map_at (ranked order) c.certifier.rulings n (decision.Commit (tx_of f) r_) second_com in
      let a_is = commit_is order a.0 (tx_of e) r a.2 in
      let b_is = commit_is order b.0 (tx_of f) r_ b.2 in
      let e_in = h.ruled.to_serial m (tx_of e) (a.1 ∙ ap Some a_is.0) in
      let f_in = h.ruled.to_serial n (tx_of f) (b.1 ∙ ap Some b_is.0) in
      let conflict : Conflicts (c.entries s) kind x (tx_of e) (tx_of f) =
      record {
        p = p;
        q = q;
        e = e;
        f = f;
        before = le;
        first = at_e;
        second = at_f;
        from = refl;
        to =
            refl;
        apart = apart;
        clash = clash;
      } in
      let less = forward (IsLoggedConflict (written c)) order (ordered-serial c h.ordered) (tx_of e)
      (tx_of f) e_in f_in (s, kind, x, in_longer (c.entries s) (c.due s) kind x (tx_of e) (tx_of f) conflict)
      apart in
      let r_is = a_is.1 in
      let r__is = b_is.1 in
      omega arith)

  pub valid_log : IsValidLog decisions (site_log (items_at c s) (c.entries s))
  valid_log = record {
    formed = formed;
    reads = legal.reads;
    finals = finals-legal (items_at c s) (c.entries s);
    agrees = agrees;
    ranked = is_ranked;
  }

-- ---- the bundle

pub enumerated : {A : Type 0} (m : ℕ) (xs : List A) (k : ℕ) (p : ℕ × A) → slice_get (enumerate_from m xs) k ≡ Some p
    → (p.0 ≡ m + k) × (slice_get xs k ≡ Some p.1)
enumerated m [] k p h = absurd cc
enumerated m (x ∷ xs) zero p h =
    let e = same_Some (m, x) p h in
    (sym (ap (λ q. q.0) e) ∙ omega arith, ap (λ q. Some q.1) e)
enumerated m (x ∷ xs) (suc k) p h = let r = enumerated (m + 1) xs k p h in (r.0 ∙ omega arith, r.1)

enumerate_place : {A : Type 0} (m : ℕ) (xs : List A) (k : ℕ) (x : A) → slice_get xs k ≡ Some x
    → slice_get (enumerate_from m xs) k ≡ Some (m + k, x)
enumerate_place m [] k x h = absurd cc
enumerate_place m (y ∷ ys) zero x h =
    let e : m ≡ m + 0 = omega arith in
    ap₂ (λ i z. Some (i, z)) e (same_Some y x h)
enumerate_place m (y ∷ ys) (suc k) x h =
    let e : m + 1 + k ≡ m + suc k = omega arith in
    enumerate_place (m + 1) ys k x h ∙ ap (λ i. Some (i, x)) e

valid_site : (c : CoreState) → IsSound c → c.certifier.active ≡ [] → (n : ℕ) (log : SiteLog)
    → slice_get (bundle_of c).sites n ≡ Some log → IsValidLog (bundle_of c).certificate.decisions log
valid_site c h none n log at_n =
    let m = map_at (λ (p : ℕ × List Holding). site_log p.1 (c.entries p.0)) (enumerate_from 0 c.items) n log at_n in
    let p = m.0 in
    let e = enumerated 0 c.items n p m.1 in
    let number : p.0 ≡ n = e.0 ∙ zero-add n in
    let valid = valid_log c h none n (slice_get_within c.items n p.1 e.1) in
    let items_is : items_at c n ≡ p.1 = ap items_in e.1 in
    let at_p : IsValidLog (map (ranked (serial c.certifier)) c.certifier.rulings) (site_log p.1 (c.entries p.0)) =
    subst (λ i. IsValidLog (map (ranked (serial c.certifier)) c.certifier.rulings) (site_log p.1 (c.entries i)))
    (sym number)
    (subst (λ items. IsValidLog (map (ranked (serial c.certifier)) c.certifier.rulings)
    (site_log items (c.entries n))) items_is valid) in
    subst (IsValidLog (map (ranked (serial c.certifier)) c.certifier.rulings)) m.2 at_p

logged_step : (c : CoreState) → IsSound c → c.certifier.active ≡ [] → (a : ℕ) (step : Step)
    → IsAt c step.label a step.to → IsLogged (bundle_of c).sites a step
logged_step c h none a step at =
    let s = step.label.site in
    elim (option_cases (slice_get c.items s)) [
      | inl absent ↦ let out = slice_get-none c.items s absent in let in_ = at.site in absurd (omega arith)
      | inr present ↦
          let items = present.0 in
          let place = get-mapped (λ (p : ℕ × List Holding). site_log p.1 (c.entries p.0)) (enumerate_from 0 c.items) s
          (0 + s, items) (enumerate_place 0 c.items s items present.1) in
          let at_s : slice_get (bundle_of c).sites s ≡ Some (site_log items (c.entries s)) = place
          ∙ ap (λ i. Some (site_log items (c.entries i))) (zero-add s) in (
            site_log items (c.entries s),
            at_s,
            subst (λ es. Conflicts es step.label.kind step.label.item a step.to)
                (log_is c h none s at.site) at.conflict,
          )
    ]

logged_walk : (c : CoreState) → IsSound c → c.certifier.active ≡ [] → (a : ℕ) (steps : List Step) → AreAt c a steps
    → AreLogged (bundle_of c).sites a steps
logged_walk c h none a [] at = tt
logged_walk c h none a (step ∷ steps) at = (logged_step c h none a step at.0, logged_walk c h none step.to steps at.1)

pub valid-bundle : (c : CoreState) → IsSound c → c.certifier.active ≡ [] → IsValid (bundle_of c)
valid-bundle c h none = record {
  logs = All-from_at (IsValidLog (bundle_of c).certificate.decisions) (bundle_of c).sites (valid_site c h none);
  once = certificate-once c.certifier h.ruled;
  ranks = certificate-ranks c.certifier h.ruled;
  cycles = λ n tx walk at_n.
      let m = map_at (ranked (serial c.certifier)) c.certifier.rulings n (decision.Refuse tx walk) at_n in (
        certificate-cycles c.certifier h.ruled n tx walk at_n,
        logged_walk c h none tx walk (h.walked.walks n tx walk (m.1
            ∙ ap Some (ranked_refusal (serial c.certifier) m.0 tx walk m.2))),
      );
}
