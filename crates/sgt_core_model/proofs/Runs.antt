-- Every run keeps what each state of the core keeps: one lemma for each event, and one place where all events are
-- gone through.
use Rattle.std.proofs.Common.{◌≡◌, ◌<◌, ◌≤◌, ◌+◌, ℕ, zero, suc, Bool, true, false, cond, List, [], ◌∷◌, ◌++◌, length, refl, sym, ◌∙◌, arith, ◌⊎◌, inl, inr, Contains, Option, Some, None, subst, ap}
use Rattle.std.specs.Prelude.{◌&&◌, ◌||◌, ◌==◌}
use Rattle.std.specs.List.{list_all, list_any, range_with_len}
use Rattle.std.specs.Str.{bytes_eq}
use Rattle.std.proofs.lemmas.Bool.{cases_Bool, cases_eq, true≢false, eqb-true, ne_eqb}
use Rattle.std.proofs.lemmas.List.Elements.{Contains-append_cases, Contains-append_left, Contains-append_right}
use Rattle.std.proofs.lemmas.Option.{same_Some}
use Rattle.std.proofs.lemmas.Slice.Eq.{bytes_eq-Decides}
use Rattle.sgt_names.specs.Name.{Name}
use Rattle.sgt_names.specs.Entry.{tx_of}
use Rattle.sgt_names.specs.Log.{names}
use Rattle.sgt_names.specs.declared.entry.Change.{Change}
use Rattle.sgt_names.specs.declared.entry.Entry.{Entry}
use Rattle.sgt_names.specs.declared.entry.Entry.TheVariants as entry
use Rattle.sgt_names.specs.declared.entry.Holding.{Holding}
use Rattle.sgt_names.proofs.Lists.{option_cases}
use Rattle.sgt_certifier.specs.Certifier.{State, with_begun, with_withdrawn, with_install, with_closed}
use Rattle.sgt_certifier.proofs.Members.{cons_here, member_filter}
use Rattle.sgt_certifier.proofs.Replaying.{contains_cases}
use Rattle.sgt_certifier.proofs.Keeping.{uncommitted}
use Rattle.sgt_certifier.proofs.Ruling.{opening-ruled, begun-ruled, finished-ruled, withdrawn-ruled, refused-ruled, committed-ruled, closed-ruled, renoted-ruled}
use Rattle.sgt_notation.specs.declared.event.Event.{Event}
use Rattle.sgt_notation.specs.declared.event.Event.TheVariants.{Begin, Read, Put, Add, Gather, Decide, Install as Write, Commit, Withdraw, Close}
use Rattle.sgt_core_model.specs.declared.reply.Reply.{Reply}
use Rattle.sgt_core_model.specs.declared.reply.Reply.TheVariants.{Begun, Value, Kept, Gathered, Yes, No, Installed, Withdrawn, Closed, Fault}
use Rattle.sgt_core_model.specs.declared.reply.CoreFault.TheVariants as fault
use Rattle.sgt_core_model.specs.Core.{OpenStep, CoreState, fresh, sites_of, items_at, with_entries, only_at, changed_at, with_change, look, touches, touched, is_some_change, put_in, as_changes, committed_block, refused_block, withdrawn_block, is_empty, is_written, closed_if_written, is_committed, noted, installed}
use Rattle.sgt_core_model.specs.Step.{StepIs, IsOwnOpen, IsOtherOpen, gathered_in, IsGathered, IsDecided, IsOfSite, tx_in, IsAllowed, AfterMemory, ReadsSite, Reads, CommitsAt, RefusesAt, Does, ServesAll, MayStep, Run}
use Rattle.sgt_core_model.proofs.Kept.{IsSound, IsThere, IsCounted, AreInstalls, IsKept}
use Rattle.sgt_core_model.proofs.Counted.{grown-counted, read-none, withdrawn-none, idle-counted, change-counted, yes-counted, no-counted, closing-counted, install-counted, fresh-counted}
use Rattle.sgt_core_model.proofs.Installs.{grown-installs, read-quiet, withdrawn-quiet, install-installs, fresh-installs}
use Rattle.sgt_core_model.proofs.Entries.{as_wants}
use Rattle.sgt_core_model.proofs.Ordered.{moved_block, only_tx, closing-ordered, begin-ordered, read-ordered, same-ordered, yes-ordered, no-ordered, install-ordered, noted-ordered, withdraw-ordered, close-ordered, fresh-ordered}
use Rattle.sgt_core_model.proofs.LegalSteps.{begin-legal, read-legal_at, closing-legal, install-legal, noted-legal, yes-legal, no-legal, withdraw-legal, close-legal, gather-legal, fresh-legal, none_due, touches_own}
use Rattle.sgt_core_model.proofs.Changes.{change-legal, unread}
use Rattle.sgt_core_model.proofs.Walks.{untouched_outside, closing-walked, yes-walked, no-walked, install-walked, withdraw-walked, read-walked, same-walked, site_of_item, fresh-walked}
use Rattle.sgt_names.proofs.Elements.{contains-cases, contains-later, contains-none, or_right}

-- ---- what an allowed event says

pub at_most : (a b : ℕ) → (a < b → ⊥) → b ≤ a
at_most a b out = omega (arith, out)

pub below : (a b : ℕ) → (a ≤ b → ⊥) → b < a
below a b out = omega (arith, out)

pub is_active : (c : CoreState) (event : Event) (tx : ℕ) → IsAllowed c event → tx_in event ≡ Some tx
    → Contains c.certifier.active tx
is_active c event tx allowed e = elim (contains_cases c.certifier.active tx) [
  | inl active ↦ active
  | inr none ↦ absurd
      (allowed fault.Ended (tx, e, (at_most c.certifier.begun tx (λ lt. allowed fault.Unknown (tx, e, lt)), none)))
]

pub none_open : (c : CoreState) → ((c.step ≡ None → ⊥) → ⊥) → c.step ≡ None
none_open c twice =
    elim (option_cases c.step) [
      | inl none ↦ none
      | inr some ↦ absurd (twice (λ e. let f : Some some.0 ≡ None = sym some.1 ∙ e in cc))
    ]

-- with no step open the certifier has none open
pub idle : (c : CoreState) → IsKept c → c.step ≡ None → c.certifier.step ≡ None
idle c h closed =
    elim (option_cases c.certifier.step) [
      | inl none ↦ none
      | inr some ↦ absurd (subst (StepIs (λ t. t ≡ some.0)) closed (h.together some.0 some.1))
    ]

-- if no other step is open and tx isn't decided, the certifier has no step open
undecided : (c : CoreState) (tx : ℕ) → IsKept c → (IsOtherOpen c tx → ⊥) → (IsDecided c tx → ⊥)
    → c.certifier.step ≡ None
undecided c tx h no_other not_decided =
    elim (option_cases c.certifier.step) [
      | inl none ↦ none
      | inr some ↦
          elim (option_cases c.step) [
            | inl closed ↦ absurd (subst (StepIs (λ t. t ≡ some.0)) closed (h.together some.0 some.1))
            | inr open_step ↦
                let own : open_step.0.tx ≡ some.0 =
                subst (StepIs (λ t. t ≡ some.0)) open_step.1 (h.together some.0 some.1) in
                elim (cases_eq open_step.0.tx tx) [
                  | inl same ↦ absurd (not_decided (some.1 ∙ ap Some (sym own ∙ same)))
                  | inr other ↦ absurd (no_other (subst (StepIs (λ t. t ≡ tx → ⊥)) (sym open_step.1) other))
                ]
          ]
    ]

pub is_decided : (c : CoreState) (tx : ℕ) → ((IsDecided c tx → ⊥) → ⊥) → IsDecided c tx
is_decided c tx twice =
    elim (option_cases c.certifier.step) [
      | inl none ↦ absurd (twice (λ e. let f : Some tx ≡ None = sym e ∙ none in cc))
      | inr some ↦
          elim (cases_eq some.0 tx) [
            | inl same ↦ some.1 ∙ ap Some same
            | inr other ↦ absurd (twice (λ e. let f : Some some.0 ≡ Some tx = sym some.1 ∙ e in other cc))
          ]
    ]

-- who touches a site is there
pub touching_there : (c : CoreState) (i s : ℕ) → touches c i s ≡ true → IsThere c i s
touching_there c i s hit = either (list_any (λ e. tx_of e == i) (c.entries s)) refl
  where
    logged : (es : List Entry) → list_any (λ e. tx_of e == i) es ≡ true → (e : Entry) × Contains es e × (tx_of e ≡ i)
    logged [] e = absurd (true≢false (sym e))
    logged (f ∷ fs) e =
        elim (cases_Bool (tx_of f == i)) [
          | inl own ↦ (f, cons_here f fs, eqb-true (tx_of f) i own)
          | inr other ↦ let r = logged fs (subst (λ b. (b || list_any (λ e. tx_of e == i) fs) ≡ true) other e) in
              (r.0, contains-later f fs r.0 r.1, r.2)
        ]

    either : (t : Bool) → list_any (λ e. tx_of e == i) (c.entries s) ≡ t → IsThere c i s
    either true e = let r = logged (c.entries s) e in inl (
      r.0,
      Contains-append_left (c.entries s) (c.due s) r.0 r.1,
      r.2,
    )
    either false e = inr (subst (λ b. (b || is_some_change (c.changes i s)) ≡ true) e hit)

-- where a Gather is allowed, its transaction isn't decided
gather_decided : (c : CoreState) (tx s : ℕ) → IsKept c → IsAllowed c (Gather tx s) → IsDecided c tx → ⊥
gather_decided c tx s k allowed decided =
    elim (cases_Bool (touches c tx s)) [
      | inl hit ↦ allowed fault.AlreadyDone (k.together tx decided, k.gathered tx s decided (touching_there c tx s hit))
      | inr miss ↦ allowed fault.NotTouched miss
    ]

none_active : (xs : List ℕ) → ((xs ≡ [] → ⊥) → ⊥) → xs ≡ []
none_active [] twice = refl
none_active (x ∷ xs) twice = absurd (twice (λ e. cc))

name_cases : (xs : List Name) (x : Name) → Contains xs x ⊎ (Contains xs x → ⊥)
name_cases [] x = inr (contains-none x)
name_cases (y ∷ ys) x =
    elim (cases_Bool (bytes_eq y x)) [
      | inl hit ↦ inl (subst (Contains (y ∷ ys)) ((bytes_eq-Decides y x).0 hit) (cons_here y ys))
      | inr miss ↦ elim (name_cases ys x) [
        | inl later ↦ inl (contains-later y ys x later)
        | inr none ↦ inr (λ c. elim (contains-cases y ys x c) [
          | inl is ↦ true≢false (sym ((bytes_eq-Decides y x).1 is)
              ∙ miss)
          | inr later ↦ none later
        ])
      ]
    ]

pub known_item : (c : CoreState) (s : ℕ) (x : Name) → ((IsOfSite c s x → ⊥) → ⊥) → Contains (names (items_at c s)) x
known_item c s x twice = elim (name_cases (names (items_at c s)) x) [
  | inl known ↦ known
  | inr none ↦ absurd (twice none)
]

range_has : (low n k : ℕ) → k < n → Contains (range_with_len low n) (low + k)
range_has low zero k lt = absurd (omega arith)
range_has low (suc n) zero lt = let e : low ≡ low + 0 = omega arith in
    subst (Contains (low ∷ range_with_len (low + 1) n)) e (cons_here low (range_with_len (low + 1) n))
range_has low (suc n) (suc k) lt =
    let e : low + 1 + k ≡ low + suc k = omega arith in
    contains-later low (range_with_len (low + 1) n) (low + suc k)
    (subst (Contains (range_with_len (low + 1) n)) e (range_has (low + 1) n k (omega arith)))

pub is_site : (c : CoreState) (s : ℕ) → s < length c.items → Contains (sites_of c) s
is_site c s lt = let e : 0 + s ≡ s = omega arith in subst (Contains (sites_of c)) e (range_has 0 (length c.items) s lt)

-- ---- the end of a step

-- the step closes, or it stays open, and is the core's
ending-kept : (c : CoreState) (i : ℕ) → IsSound c → c.certifier.step ≡ Some i → (is_written c ≡ false → IsOwnOpen c i)
    → ((s : ℕ) → IsThere c i s → Contains (gathered_in c.step) s) → IsCounted c
    → AreInstalls c.entries c.certifier.installs → IsKept (closed_if_written c i)
ending-kept c i h open_i own gathered counted installs =
    elim (cases_Bool (is_written c)) [
      | inl done ↦ rw done (record {
        sound = record {
          ordered = closing-ordered c i h.ordered open_i;
          ruled = finished-ruled c.certifier i h.ruled open_i;
          legal = closing-legal c i (is_site c) h.legal open_i done;
          walked = closing-walked c i (is_site c) h.walked done;
        };
        together = λ j e. absurd cc;
        gathered = λ j s e m. absurd cc;
        counted = closing-counted c i counted;
        installs = installs;
      })
      | inr left ↦ rw left (record {
        sound = h;
        together = λ j e. subst (IsOwnOpen c) (same_Some i j (sym open_i ∙ e)) (own left);
        gathered = λ j s e m. gathered s (subst (λ t. IsThere c t s) (sym (same_Some i j (sym open_i ∙ e))) m);
        counted = counted;
        installs = installs;
      })
    ]

-- a test that fails of all fails of one
some_fails : (p : ℕ → Bool) (xs : List ℕ) → list_all p xs ≡ false → (x : ℕ) × Contains xs x × (p x ≡ false)
some_fails p [] e = absurd (true≢false e)
some_fails p (x ∷ xs) e =
    elim (cases_Bool (p x)) [
      | inl hit ↦
          let rest : list_all p xs ≡ false = subst (λ b. (b && list_all p xs) ≡ false) hit e in
          let r = some_fails p xs rest in (r.0, contains-later x xs r.0 r.1, r.2)
      | inr miss ↦ (x, cons_here x xs, miss)
    ]

-- a block that isn't empty is one of a site that is touched
due_touched : (t : Bool) (ops : List Entry) → is_empty (cond t ops []) ≡ false → t ≡ true
due_touched true ops e = refl
due_touched false ops e = absurd (true≢false e)

own_if_gathered : (c : CoreState) (tx s : ℕ) → ((IsGathered c tx s → ⊥) → ⊥) → IsOwnOpen c tx
own_if_gathered c tx s twice =
    elim (option_cases c.step) [
      | inl none ↦ absurd (twice (λ g. subst (StepIs (λ t. t ≡ tx)) none g.0))
      | inr some ↦
          elim (cases_eq some.0.tx tx) [
            | inl same ↦ subst (StepIs (λ t. t ≡ tx)) (sym some.1) same
            | inr other ↦ absurd (twice (λ g. other (subst (StepIs (λ t. t ≡ tx)) some.1 g.0)))
          ]
    ]

-- while a block of tx is due, its step is open
still_open : (c : CoreState) (tx : ℕ) (last : Entry) (ops : ℕ → List Entry)
    → ((s : ℕ) → Contains (touched c tx) s → (IsGathered c tx s → ⊥) → ⊥)
    → list_all (λ s. is_empty (cond (touches c tx s) (ops s ++ last ∷ []) [])) (sites_of c) ≡ false → IsOwnOpen c tx
still_open c tx last ops gathered left =
    let r = some_fails (λ s. is_empty (cond (touches c tx s) (ops s ++ last ∷ []) [])) (sites_of c) left in
    own_if_gathered c tx r.0
    (gathered r.0
    (member_filter (touches c tx) (sites_of c) r.0 r.1 (due_touched (touches c tx r.0) (ops r.0 ++ last ∷ []) r.2)))

-- at its decision a transaction is there, with its block, only where it touches
block_touches : (c : CoreState) (tx : ℕ) (mid : State) (last : Entry) (ops : ℕ → List Entry) (s : ℕ)
    → IsThere (record c { certifier = mid; due = λ n. cond (touches c tx n) (ops n ++ last ∷ []) [] }) tx s
    → touches c tx s ≡ true
block_touches c tx mid last ops s there = elim there [
  | inl logged ↦ elim (Contains-append_cases (c.entries s) (cond (touches c tx s) (ops s ++ last ∷ []) []) logged.0
      logged.1) [
        | inl was ↦ touches_own c tx s logged.0 was logged.2
        | inr new ↦ only_if (touches c tx s) (ops s ++ last ∷ []) logged.0 new
      ]
  | inr some ↦ ap (λ b. list_any (λ e. tx_of e == tx) (c.entries s) || b) some
      ∙ or_right (list_any (λ e. tx_of e == tx) (c.entries s))
]
  where
    only_if : (t : Bool) (es : List Entry) (e : Entry) → Contains (cond t es []) e → t ≡ true
    only_if true es e m = refl
    only_if false es e m = absurd (contains-none e m)

-- and there it is gathered
pub block_gathered : (c : CoreState) (tx : ℕ) → IsSound c
    → ((s : ℕ) → Contains (touched c tx) s → (IsGathered c tx s → ⊥) → ⊥)
    → (s : ℕ) → touches c tx s ≡ true → Contains (gathered_in c.step) s
block_gathered c tx h gathered s hit =
    let inside =
    below (length c.items) s (λ out. true≢false (sym hit ∙ untouched_outside c tx s h.walked h.legal out)) in
    elim (contains_cases (gathered_in c.step) s) [
      | inl is ↦ is
      | inr none ↦ absurd (gathered s (member_filter (touches c tx) (sites_of c) s (is_site c s inside) hit)
          (λ g. none g.1))
    ]

-- who stands in the longer log with another's entries put in stood there before
there_before : (c : CoreState) (tx : ℕ) (more : ℕ → List Entry)
    → ((s : ℕ) (e : Entry) → Contains (more s) e → tx_of e ≡ tx) → (i s : ℕ) → (i ≡ tx → ⊥)
    → IsThere (with_entries c more) i s → IsThere c i s
there_before c tx more own i s other there = elim there [
  | inl logged ↦ elim (Contains-append_cases (c.entries s ++ more s) (c.due s) logged.0 logged.1) [
    | inl front ↦ elim (Contains-append_cases (c.entries s) (more s) logged.0 front) [
      | inl was ↦ inl (logged.0, Contains-append_left (c.entries s) (c.due s) logged.0 was, logged.2)
      | inr new ↦ absurd (other (sym logged.2 ∙ own s logged.0 new))
    ]
    | inr due ↦ inl (logged.0, Contains-append_right (c.entries s) (c.due s) logged.0 due, logged.2)
  ]
  | inr some ↦ inr some
]

-- ---- one event after another

begin-kept : (c : CoreState) → IsKept c → IsAllowed c Begin → IsKept (record c { certifier = with_begun c.certifier })
begin-kept c k allowed = record {
  sound = record {
    ordered = begin-ordered c k.sound.ordered (idle c k (none_open c (allowed fault.StepOpen)));
    ruled = begun-ruled c.certifier k.sound.ruled;
    legal = begin-legal c k.sound.legal;
    walked = same-walked c (with_begun c.certifier) c.changes c.step k.sound.walked (λ arc m. m) refl;
  };
  together = k.together;
  gathered = k.gathered;
  counted = idle-counted c (with_begun c.certifier) c.step (idle c k (none_open c (allowed fault.StepOpen))) refl
      k.counted;
  installs = k.installs;
}

read_tx : (k tx : ℕ) (x : Name) (v s : ℕ) (e : Entry) → Contains (only_at k (entry.Read tx x v ∷ []) s) e → tx_of e ≡ tx
read_tx k tx x v s e m =
    only_tx k (entry.Read tx x v ∷ []) tx (λ f n. elim (contains-cases (entry.Read tx x v) [] f n) [
      | inl is ↦ ap tx_of (sym is)
      | inr none ↦ absurd (contains-none f none)
    ]) s e m

reads_site-kept : (c : CoreState) (tx s : ℕ) (x : Name) (v : ℕ) (new : CoreState) → IsKept c
    → IsAllowed c (Read tx s x) → look c tx s x ≡ None
    → ReadsSite c tx s x v new → IsKept new
reads_site-kept c tx s x v new k allowed none r =
    let active = is_active c (Read tx s x) tx allowed refl in
    let free : c.certifier.step ≡ Some tx → ⊥ = λ e. allowed fault.StepOpen (k.together tx e) in
    let known = known_item c s x (allowed fault.UnknownItem) in
    subst IsKept (sym r.2) (record {
      sound = record {
        ordered = read-ordered c tx s x r.0 k.sound.ordered active free;
        ruled = k.sound.ruled;
        legal = read-legal_at c tx s x r.0 k.sound.legal k.sound.ruled (active, free) known (unread c tx s x none) r.1;
        walked = read-walked c s (entry.Read tx x r.0) (site_of_item c s x known) k.sound.walked;
      };
      together = k.together;
      gathered = λ i t e there. k.gathered i t e
          (there_before c tx (only_at s (entry.Read tx x r.0 ∷ [])) (read_tx s tx x r.0) i t
          (λ is. free (subst (λ j. c.certifier.step ≡ Some j) is e)) there);
      counted = grown-counted c (only_at s (entry.Read tx x r.0 ∷ [])) (read-none s tx x r.0) k.counted;
      installs = grown-installs c.entries (only_at s (entry.Read tx x r.0 ∷ [])) c.certifier.installs
          (read-quiet s tx x r.0) k.installs;
    })

reads-kept : (c : CoreState) (tx s : ℕ) (x : Name) (v : ℕ) (found : Option ℕ) (new : CoreState) → IsKept c
    → IsAllowed c (Read tx s x)
    → look c tx s x ≡ found → Reads c tx s x v found new → IsKept new
reads-kept c tx s x v (Some w) new k allowed is r = subst IsKept (sym r.1) k
reads-kept c tx s x v None new k allowed is r = reads_site-kept c tx s x v new k allowed is r

change-kept : (c : CoreState) (tx s : ℕ) (x : Name) (change : Change) → IsKept c → (IsOwnOpen c tx → ⊥)
    → ((IsOfSite c s x → ⊥) → ⊥)
    → IsKept (with_change c tx s x change)
change-kept c tx s x change k closed known = record {
  sound = record {
    ordered = same-ordered c (with_change c tx s x change).changes c.step k.sound.ordered;
    ruled = k.sound.ruled;
    legal = change-legal c tx s x change k.sound.legal (known_item c s x known);
    walked = same-walked c c.certifier (with_change c tx s x change).changes c.step k.sound.walked (λ arc m. m) refl;
  };
  together = k.together;
  gathered = λ i t e there. k.gathered i t e (elim there [
    | inl logged ↦ inl logged
    | inr some ↦
        let other : i ≡ tx → ⊥ = λ is. closed (k.together tx (subst (λ j. c.certifier.step ≡ Some j) is e)) in
        inr (subst
        (λ b. is_some_change (cond b (changed_at s (put_in (x, change) (c.changes tx s)) (c.changes tx))
        (c.changes i) t) ≡ true) (ne_eqb i tx other) some)
  ]);
  counted = change-counted c tx s x change (λ e. closed (k.together tx e)) k.counted;
  installs = k.installs;
}

-- another step is open, or none, while nothing is decided
step-kept : (c : CoreState) (step : Option OpenStep) → IsKept c → c.certifier.step ≡ None
    → IsKept (record c { step = step })
step-kept c step k none = record {
  sound = record {
    ordered = same-ordered c c.changes step k.sound.ordered;
    ruled = k.sound.ruled;
    legal = gather-legal c step k.sound.legal;
    walked = same-walked c c.certifier c.changes step k.sound.walked (λ arc m. m) refl;
  };
  together = λ i e. absurd (let f : Some i ≡ None = sym e ∙ none in cc);
  gathered = λ i s e m. absurd (let f : Some i ≡ None = sym e ∙ none in cc);
  counted = idle-counted c c.certifier step none refl k.counted;
  installs = k.installs;
}

pub gather_idle : (c : CoreState) (tx s : ℕ) → IsKept c → IsAllowed c (Gather tx s) → c.certifier.step ≡ None
gather_idle c tx s k allowed = undecided c tx k (allowed fault.StepOpen) (gather_decided c tx s k allowed)

pub decide_idle : (c : CoreState) (tx : ℕ) → IsKept c → IsAllowed c (Decide tx) → c.certifier.step ≡ None
decide_idle c tx k allowed = undecided c tx k (allowed fault.StepOpen) (allowed fault.AlreadyDone)

yes-kept : (c : CoreState) (tx : ℕ) (new : CoreState) → IsKept c → IsAllowed c (Decide tx) → CommitsAt c tx new
    → IsKept new
yes-kept c tx new k allowed d =
    let h = k.sound in
    let none = decide_idle c tx k allowed in
    let active = is_active c (Decide tx) tx allowed refl in
    subst IsKept (sym d.after) (ending-kept (record c { certifier = d.certifier; due = committed_block c tx }) tx
    (record {
      ordered = yes-ordered c tx d.arcs d.certifier h.ordered none active d.edges d.commits;
      ruled = committed-ruled c.certifier tx d.arcs d.certifier h.ordered.certifier h.ruled none active d.commits;
      legal = yes-legal c tx d.arcs d.certifier h.ordered h.ruled h.legal none active d.commits;
      walked = yes-walked c tx d.arcs d.certifier h.walked h.legal (λ s. none_due c s h.ordered none) d.edges d.commits;
    }) (ap (λ (s : State). s.step) d.commits.after)
    (still_open c tx (entry.Commit tx) (λ s. as_changes tx (c.changes tx s))
    (λ s m g. allowed fault.NotGathered (s, m, g)))
    (λ s m. block_gathered c tx h (λ t n g. allowed fault.NotGathered (t, n, g)) s
    (block_touches c tx d.certifier (entry.Commit tx) (λ n. as_changes tx (c.changes tx n)) s m))
    (yes-counted c tx d.arcs d.certifier d.commits k.counted) (subst (λ (s : State). AreInstalls c.entries s.installs)
    (sym d.commits.after) k.installs))

no-kept : (c : CoreState) (tx : ℕ) (new : CoreState) → IsKept c → IsAllowed c (Decide tx) → RefusesAt c tx new
    → IsKept new
no-kept c tx new k allowed d =
    let h = k.sound in
    let none = decide_idle c tx k allowed in
    let active = is_active c (Decide tx) tx allowed refl in
    let out = uncommitted c.certifier tx h.ordered.certifier none active in
    subst IsKept (sym d.after) (ending-kept (record c { certifier = d.certifier; due = refused_block c tx }) tx
    (record {
      ordered = no-ordered c tx d.arcs d.walk d.certifier h.ordered none active d.refuses;
      ruled = refused-ruled c.certifier tx d.arcs d.walk d.certifier h.ordered.certifier h.ruled none active out
          d.refuses;
      legal = no-legal c tx d.arcs d.walk d.certifier h.ordered h.ruled h.legal none active d.refuses;
      walked = no-walked c tx d.arcs d.walk d.certifier h.walked h.legal (λ s. none_due c s h.ordered none) d.edges
          d.refuses;
    }) (ap (λ (s : State). s.step) d.refuses.after)
    (still_open c tx (entry.Refuse tx) (λ s. as_wants tx (c.changes tx s))
    (λ s m g. allowed fault.NotGathered (s, m, g)))
    (λ s m. block_gathered c tx h (λ t n g. allowed fault.NotGathered (t, n, g)) s
    (block_touches c tx d.certifier (entry.Refuse tx) (λ n. as_wants tx (c.changes tx n)) s m))
    (no-counted c tx d.arcs d.walk d.certifier out d.refuses k.counted)
    (subst (λ (s : State). AreInstalls c.entries s.installs) (sym d.refuses.after) k.installs))

-- the install is noted, or there is nothing to note
noted-sound : (c : CoreState) (tx s : ℕ) → IsSound c → IsSound (record c { certifier = noted c tx s })
noted-sound c tx s h =
    elim (cases_Bool (is_committed c tx)) [
      | inl hit ↦ rw hit (record {
        ordered = noted-ordered c tx s _ h.ordered;
        ruled = renoted-ruled c.certifier _ h.ruled;
        legal = noted-legal c tx s _ h.legal;
        walked = same-walked c (with_install c.certifier tx s _) c.changes c.step h.walked (λ arc m. m) refl;
      })
      | inr miss ↦ rw miss h
    ]

pub noted-step : (c : CoreState) (tx s : ℕ) → (noted c tx s).step ≡ c.certifier.step
noted-step c tx s = elim (cases_Bool (is_committed c tx)) [ inl hit ↦ rw hit refl | inr miss ↦ rw miss refl ]

-- where an install is allowed, a block is due
install_due : (c : CoreState) (tx s : ℕ) → IsAllowed c (Write tx s) → c.due s ≡ [] → ⊥
install_due c tx s allowed none =
    elim (cases_Bool (touches c tx s)) [
      | inl hit ↦ allowed fault.AlreadyDone (hit, none)
      | inr miss ↦ allowed fault.NotTouched miss
    ]

install-kept : (c : CoreState) (tx s : ℕ) → IsKept c → IsAllowed c (Write tx s) → IsKept (installed c tx s)
install-kept c tx s k allowed =
    let open_tx = is_decided c tx (allowed fault.NotGathered) in
    let mid : CoreState = record c { certifier = noted c tx s } in
    let h = noted-sound c tx s k.sound in
    let inside = below (length c.items) s (allowed fault.UnknownItem) in
    ending-kept (record (with_entries mid (only_at s (mid.due s))) { due = changed_at s [] mid.due }) tx (record {
      ordered = install-ordered mid s h.ordered;
      ruled = h.ruled;
      legal = install-legal mid s h.legal;
      walked = install-walked mid s inside h.walked;
    }) (noted-step c tx s ∙ open_tx) (λ left. k.together tx open_tx) (λ t there. k.gathered tx t open_tx (elim there [
      | inl logged ↦ inl (
        logged.0,
        subst (λ es. Contains es logged.0) (moved_block c.entries c.due s t) logged.1,
        logged.2,
      )
      | inr some ↦ inr some
    ])) (install-counted c tx s open_tx (install_due c tx s allowed) (k.sound.legal.changes_once tx s) k.counted)
    (install-installs c tx s open_tx (install_due c tx s allowed) inside k.sound.legal k.counted k.installs)

withdraw-kept : (c : CoreState) (tx : ℕ) → IsKept c → IsAllowed c (Withdraw tx)
    → IsKept (record (with_entries c (withdrawn_block c tx)) { certifier = with_withdrawn c.certifier tx })
withdraw-kept c tx k allowed =
    let h = k.sound in
    let none = idle c k (none_open c (allowed fault.StepOpen)) in
    let active = is_active c (Withdraw tx) tx allowed refl in
    record {
      sound = record {
        ordered = withdraw-ordered c tx h.ordered none active;
        ruled = withdrawn-ruled c.certifier tx h.ordered.certifier h.ruled none active;
        legal = withdraw-legal c tx h.ordered h.ruled h.legal none active;
        walked = withdraw-walked c tx h.walked h.legal;
      };
      together = k.together;
      gathered = λ i s e m. absurd (let f : Some i ≡ None = sym e ∙ none in cc);
      counted = idle-counted (with_entries c (withdrawn_block c tx)) (with_withdrawn c.certifier tx) c.step none refl
          (grown-counted c (withdrawn_block c tx) (withdrawn-none c tx) k.counted);
      installs = grown-installs c.entries (withdrawn_block c tx) c.certifier.installs (withdrawn-quiet c tx) k.installs;
    }

close-kept : (c : CoreState) → IsKept c → IsAllowed c Close → IsKept (record c { certifier = with_closed c.certifier })
close-kept c k allowed =
    let none = none_active c.certifier.active (allowed fault.ActiveLeft) in
    let closed = idle c k (none_open c (allowed fault.StepOpen)) in
    record {
      sound = record {
        ordered = close-ordered c k.sound.ordered closed none;
        ruled = closed-ruled c.certifier k.sound.ruled;
        legal = close-legal c k.sound.legal none;
        walked = same-walked c (with_closed c.certifier) c.changes c.step k.sound.walked
            (λ arc m. absurd (contains-none arc m)) refl;
      };
      together = k.together;
      gathered = λ i s e m. absurd (let f : Some i ≡ None = sym e ∙ closed in cc);
      counted = idle-counted c (with_closed c.certifier) c.step closed refl k.counted;
      installs = k.installs;
    }

-- ---- all events

pub serves-kept : (old : CoreState) (event : Event) (reply : Reply) (new : CoreState) → IsKept old
    → IsAllowed old event → Does old event reply new → IsKept new
serves-kept old Begin (Begun tx) new k allowed d = subst IsKept (sym d.1) (begin-kept old k allowed)
serves-kept old (Read tx s x) (Value v) new k allowed d = reads-kept old tx s x v (look old tx s x) new k allowed refl d
serves-kept old (Put tx s x v) Kept new k allowed d =
    subst IsKept (sym d) (change-kept old tx s x _ k (allowed fault.StepOpen) (allowed fault.UnknownItem))
serves-kept old (Add tx s x v) Kept new k allowed d =
    subst IsKept (sym d) (change-kept old tx s x _ k (allowed fault.StepOpen) (allowed fault.UnknownItem))
serves-kept old (Gather tx s) Gathered new k allowed d =
    subst IsKept (sym d) (step-kept old _ k (gather_idle old tx s k allowed))
serves-kept old (Decide tx) Yes new k allowed d = yes-kept old tx new k allowed d
serves-kept old (Decide tx) No new k allowed d = no-kept old tx new k allowed d
serves-kept old (Write tx s) Installed new k allowed d = subst IsKept (sym d) (install-kept old tx s k allowed)
serves-kept old (Withdraw tx) Withdrawn new k allowed d = subst IsKept (sym d) (withdraw-kept old tx k allowed)
serves-kept old Close (Closed ranks) new k allowed d = subst IsKept (sym d.1) (close-kept old k allowed)
serves-kept old _ _ new k allowed d = absurd d

pub serves_all-kept : (old : CoreState) (events : List Event) (replies : List Reply) (new : CoreState) → IsKept old
    → ServesAll old events replies new → IsKept new
serves_all-kept old [] [] new k r = subst IsKept (sym r) k
serves_all-kept old (event ∷ events) (reply ∷ replies) new k r =
    serves_all-kept r.0 events replies new (serves-kept old event reply r.0 k r.1.0 r.1.1) r.2
serves_all-kept old _ _ new k r = absurd r

memory-kept : (old : CoreState) (event : Event) (new : CoreState) → IsKept old → IsAllowed old event
    → AfterMemory old event new → IsKept new
memory-kept old (Gather tx s) new k allowed d =
    subst IsKept (sym d) (step-kept old None k (gather_idle old tx s k allowed))
memory-kept old (Decide tx) new k allowed d = subst IsKept (sym d) (step-kept old None k (decide_idle old tx k allowed))
memory-kept old (Commit tx) new k allowed d =
    subst IsKept (sym d) (step-kept old None k (idle old k (none_open old (allowed fault.StepOpen))))
memory-kept old (Write tx s) new k allowed d = absurd d
memory-kept old (Read tx s x) new k allowed d = subst IsKept (sym d.1) k
memory-kept old Begin new k allowed d = subst IsKept (sym d) k
memory-kept old (Put tx s x v) new k allowed d = subst IsKept (sym d) k
memory-kept old (Add tx s x v) new k allowed d = subst IsKept (sym d) k
memory-kept old (Withdraw tx) new k allowed d = subst IsKept (sym d) k
memory-kept old Close new k allowed d = subst IsKept (sym d) k

pub may_step-kept : (old : CoreState) (event : Event) (reply : Reply) (new : CoreState) → IsKept old
    → MayStep old event reply new → IsKept new
may_step-kept old event (Fault fault.Memory) new k r = memory-kept old event new k r.0 r.1
may_step-kept old event (Fault f) new k r = subst IsKept (sym r.1) k
may_step-kept old (Commit tx) reply new k r = serves_all-kept old _ _ new k r.1
may_step-kept old event reply new k r = serves-kept old event reply new k r.0 r.1

run-kept : (old : CoreState) (events : List Event) (replies : List Reply) (new : CoreState) → IsKept old
    → Run old events replies new → IsKept new
run-kept old [] [] new k r = subst IsKept (sym r) k
run-kept old (event ∷ events) (reply ∷ replies) new k r =
    run-kept r.0 events replies new (may_step-kept old event reply r.0 k r.1) r.2
run-kept old _ _ new k r = absurd r

pub fresh-kept : (items : List (List Holding)) → IsKept (fresh items)
fresh-kept items = record {
  sound = record {
    ordered = fresh-ordered items;
    ruled = opening-ruled;
    legal = fresh-legal items;
    walked =
        fresh-walked items;
  };
  together = λ i e. absurd cc;
  gathered = λ i s e m. absurd cc;
  counted = fresh-counted items;
  installs = fresh-installs items;
}

-- what every run of fresh sites keeps
pub runs-kept : (items : List (List Holding)) (events : List Event) (replies : List Reply) (c : CoreState)
    → Run (fresh items) events replies c → IsKept c
runs-kept items events replies c r = run-kept (fresh items) events replies c (fresh-kept items) r
