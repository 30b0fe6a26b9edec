-- Each allowed event has an answer: a commit as a whole, and so every event.
use Rattle.std.proofs.Common.{◌≡◌, ◌<◌, ◌≤◌, ◌+◌, ℕ, zero, suc, Bool, true, false, cond, List, [], ◌∷◌, ◌++◌, length, map, refl, sym, ◌∙◌, arith, inl, inr, Contains, Option, Some, None, subst, ap}
use Rattle.std.specs.Prelude.{◌==◌, ◌||◌, filter}
use Rattle.std.specs.List.{list_any, range_with_len}
use Rattle.std.proofs.lemmas.Bool.{cases_Bool, true≢false}
use Rattle.std.proofs.lemmas.Option.{same_Some}
use Rattle.sgt_names.specs.Entry.{tx_of}
use Rattle.sgt_names.specs.declared.entry.Entry.{Entry}
use Rattle.sgt_certifier.specs.Certifier.{State}
use Rattle.sgt_certifier.proofs.Members.{cons_here, filter_member}
use Rattle.sgt_notation.specs.declared.event.Event.{Event}
use Rattle.sgt_notation.specs.declared.event.Event.TheVariants.{Gather, Decide, Install as Write, Commit}
use Rattle.sgt_core_model.specs.declared.reply.Reply.{Reply}
use Rattle.sgt_core_model.specs.declared.reply.Reply.TheVariants.{Yes, No, Gathered, Installed}
use Rattle.sgt_core_model.specs.declared.reply.CoreFault.TheVariants as fault
use Rattle.sgt_core_model.specs.Core.{OpenStep, CoreState, sites_of, with_entries, only_at, changed_at, touches, touched, is_some_change, is_empty, is_written, closed_if_written, committed_block, refused_block, decided, is_committed, noted, installed}
use Rattle.sgt_core_model.specs.Step.{StepIs, IsOtherOpen, gathered_in, IsGathered, IsAllowed, ServesAll, MayStep}
use Rattle.sgt_core_model.specs.Runs.{IsAnswer}
use Rattle.sgt_core_model.proofs.Kept.{IsKept}
use Rattle.sgt_core_model.proofs.LegalSteps.{all_pass, empty_is, cleared_there}
use Rattle.sgt_core_model.proofs.Cycles.{AreDistinct}
use Rattle.sgt_core_model.proofs.Runs.{is_active, at_most, none_open, idle, is_site, noted-step, serves_all-kept}
use Rattle.sgt_core_model.proofs.Going.{verdict}
use Rattle.sgt_names.proofs.Elements.{contains-cases, contains-later, contains-none}

-- ---- lists

pub append-all : (a : CoreState) (xs ys : List Event) (rs qs : List Reply) (b c : CoreState) → ServesAll a xs rs b
    → ServesAll b ys qs c → ServesAll a (xs ++ ys) (rs ++ qs) c
append-all a [] ys [] qs b c first second = subst (λ s. ServesAll s ys qs c) first second
append-all a (x ∷ xs) ys (r ∷ rs) qs b c first second =
    (first.0, first.1, append-all first.0 xs ys rs qs b c first.2 second)
append-all a [] ys (r ∷ rs) qs b c first second = absurd first
append-all a (x ∷ xs) ys [] qs b c first second = absurd first

pub in_range : (low n k : ℕ) → Contains (range_with_len low n) k → (low ≤ k) × (k < low + n)
in_range low zero k m = absurd (contains-none k m)
in_range low (suc n) k m = elim (contains-cases low (range_with_len (low + 1) n) k m) [
  | inl is ↦ (omega (arith, is), omega (arith, is))
  | inr later ↦ let r = in_range (low + 1) n k later in (omega (arith, r.0), omega (arith, r.1))
]

pub range-distinct : (low n : ℕ) → AreDistinct (range_with_len low n)
range-distinct low zero = tt
range-distinct low (suc n) = (λ m. let r = in_range (low + 1) n low m in omega (arith, r.0), range-distinct (low + 1) n)

pub filter-distinct : (p : ℕ → Bool) (xs : List ℕ) → AreDistinct xs → AreDistinct (filter p xs)
filter-distinct p [] d = tt
filter-distinct p (x ∷ xs) d =
    elim (cases_Bool (p x)) [
      | inl hit ↦ rw hit (λ m. d.0 (filter_member p xs x m).0, filter-distinct p xs d.1)
      | inr miss ↦ rw miss (filter-distinct p xs d.1)
    ]

pub any_append : (p : Entry → Bool) (xs ys : List Entry) → list_any p xs ≡ true → list_any p (xs ++ ys) ≡ true
any_append p [] ys e = absurd (true≢false (sym e))
any_append p (x ∷ xs) ys e =
    elim (cases_Bool (p x)) [
      | inl hit ↦ rw hit refl
      | inr miss ↦ rw miss (any_append p xs ys (subst (λ b. (b || list_any p xs) ≡ true) miss e))
    ]

pub no_block : (ops : List Entry) (last : Entry) → ops ++ last ∷ [] ≡ [] → ⊥
no_block [] last e = absurd cc
no_block (o ∷ os) last e = absurd cc

-- ---- who goes on with its step

-- the transaction is active, and no other's step is open
pub record IsGoing (c : CoreState) (tx : ℕ) : Type 0 where
  pub active : Contains c.certifier.active tx
  pub begun : tx ≤ c.certifier.begun
  pub alone : IsOtherOpen c tx → ⊥

pub unknown : (c : CoreState) (tx t : ℕ) → IsGoing c tx → Some tx ≡ Some t → c.certifier.begun < t → ⊥
unknown c tx t g e lt = let le = g.begun in let is = same_Some tx t e in omega arith

pub ended : (c : CoreState) (tx t : ℕ) → IsGoing c tx → Some tx ≡ Some t → (Contains c.certifier.active t → ⊥) → ⊥
ended c tx t g e none = none (subst (Contains c.certifier.active) (same_Some tx t e) g.active)

-- ---- it is gathered at each of its sites

-- a site that tx touches and where it isn't gathered
pub record IsToGather (c : CoreState) (tx s : ℕ) : Type 0 where
  pub inside : s < length c.items
  pub touched : touches c tx s ≡ true
  pub fresh : Contains (gathered_in c.step) s → ⊥

pub gather_allowed : (c : CoreState) (tx s : ℕ) → IsGoing c tx → IsToGather c tx s → IsAllowed c (Gather tx s)
gather_allowed c tx s g t fault.Unknown h = unknown c tx h.0 g h.1 h.2
gather_allowed c tx s g t fault.Ended h = ended c tx h.0 g h.1 h.2.1
gather_allowed c tx s g t fault.StepOpen h = g.alone h
gather_allowed c tx s g t fault.UnknownItem h = let lt = t.inside in absurd (omega arith)
gather_allowed c tx s g t fault.AlreadyDone h = t.fresh h.1
gather_allowed c tx s g t fault.NotTouched h = true≢false (sym t.touched ∙ h)
gather_allowed c tx s g t _ h = h

-- after all were gathered, only the step has changed
pub record AreGathered (c : CoreState) (tx : ℕ) (sites : List ℕ) : Type 0 where
  pub step : Option OpenStep
  pub serves : ServesAll c (map (Gather tx) sites) (map (λ s. Gathered) sites) (record c { step = step })
  pub alone : IsOtherOpen (record c { step = step }) tx → ⊥
  pub gathered : (s : ℕ) → Contains sites s → IsGathered (record c { step = step }) tx s
  pub kept : (s : ℕ) → IsGathered c tx s → IsGathered (record c { step = step }) tx s

unfoldable pub gather_all : (c : CoreState) (tx : ℕ) (sites : List ℕ) → IsGoing c tx → AreDistinct sites
    → ((s : ℕ) → Contains sites s → IsToGather c tx s) → AreGathered c tx sites
gather_all c tx [] g d each = record {
  step = c.step;
  serves = refl;
  alone = g.alone;
  gathered =
      λ s m. absurd (contains-none s m);
  kept = λ s h. h;
}
gather_all c tx (s ∷ ss) g d each =
    let mid : CoreState = record c { step = Some (record { tx = tx; gathered = s ∷ gathered_in c.step }) } in
    let going : IsGoing mid tx = record { active = g.active; begun = g.begun; alone = λ n. n refl } in
    let here = each s (cons_here s ss) in
    let rest = gather_all mid tx ss going d.1 (λ t m. let e = each t (contains-later s ss t m) in record {
      inside = e.inside;
      touched = e.touched;
      fresh = λ n. elim (contains-cases s (gathered_in c.step) t n) [
        | inl is ↦ d.0 (subst (Contains ss) (sym is) m)
        | inr was ↦ e.fresh was
      ];
    }) in
    let own : IsGathered mid tx s = (refl, cons_here s (gathered_in c.step)) in
    record {
      step = rest.step;
      serves = (mid, (gather_allowed c tx s g here, refl), rest.serves);
      alone = rest.alone;
      gathered = λ t m. elim (contains-cases s ss t m) [
        | inl is ↦ subst (IsGathered (record c { step = rest.step }) tx) is (rest.kept s own)
        | inr later ↦ rest.gathered t later
      ];
      kept = λ t h. rest.kept t (refl, contains-later s (gathered_in c.step) t h.1);
    }

-- ---- its block is written at each of its sites

-- a site that tx touches, and where its block is due
pub record IsToWrite (c : CoreState) (tx s : ℕ) : Type 0 where
  pub inside : s < length c.items
  pub touched : touches c tx s ≡ true
  pub due : c.due s ≡ [] → ⊥

pub write_allowed : (c : CoreState) (tx s : ℕ) → IsGoing c tx → c.certifier.step ≡ Some tx → IsToWrite c tx s
    → IsAllowed c (Write tx s)
write_allowed c tx s g own t fault.Unknown h = unknown c tx h.0 g h.1 h.2
write_allowed c tx s g own t fault.Ended h = ended c tx h.0 g h.1 h.2.1
write_allowed c tx s g own t fault.StepOpen h = g.alone h
write_allowed c tx s g own t fault.UnknownItem h = let lt = t.inside in absurd (omega arith)
write_allowed c tx s g own t fault.NotGathered h = h own
write_allowed c tx s g own t fault.AlreadyDone h = t.due h.1
write_allowed c tx s g own t fault.NotTouched h = true≢false (sym t.touched ∙ h)
write_allowed c tx s g own t _ h = h

-- while a block is due the step stays open
pub stays_open : (c : CoreState) (tx s : ℕ) → s < length c.items → (c.due s ≡ [] → ⊥) → closed_if_written c tx ≡ c
stays_open c tx s inside due =
    elim (cases_Bool (is_written c)) [
      | inl done ↦ absurd
          (due (empty_is (c.due s) (all_pass (λ n. is_empty (c.due n)) (sites_of c) s done (is_site c s inside))))
      | inr left ↦ rw left refl
    ]

pub noted_active : (c : CoreState) (tx s : ℕ) → (noted c tx s).active ≡ c.certifier.active
noted_active c tx s = elim (cases_Bool (is_committed c tx)) [ inl hit ↦ rw hit refl | inr miss ↦ rw miss refl ]

pub noted_begun : (c : CoreState) (tx s : ℕ) → (noted c tx s).begun ≡ c.certifier.begun
noted_begun c tx s = elim (cases_Bool (is_committed c tx)) [ inl hit ↦ rw hit refl | inr miss ↦ rw miss refl ]

pub still_touched : (c : CoreState) (tx s : ℕ) (more : List Entry) → touches c tx s ≡ true
    → (list_any (λ e. tx_of e == tx) (c.entries s ++ more) || is_some_change (c.changes tx s)) ≡ true
still_touched c tx s more hit =
    elim (cases_Bool (list_any (λ e. tx_of e == tx) (c.entries s))) [
      | inl logged ↦ ap (λ b. b || is_some_change (c.changes tx s))
          (any_append (λ e. tx_of e == tx) (c.entries s) more logged)
      | inr none ↦
          let some : is_some_change (c.changes tx s) ≡ true =
          subst (λ b. (b || is_some_change (c.changes tx s)) ≡ true) none hit in
          ap (λ b. list_any (λ e. tx_of e == tx) (c.entries s ++ more) || b) some
          ∙ or_last (list_any (λ e. tx_of e == tx) (c.entries s ++ more))
    ]
  where
    or_last : (b : Bool) → (b || true) ≡ true
    or_last true = refl
    or_last false = refl

unfoldable pub write_all : (c : CoreState) (tx : ℕ) (sites : List ℕ) → IsGoing c tx → c.certifier.step ≡ Some tx
    → AreDistinct sites
    → ((s : ℕ) → Contains sites s → IsToWrite c tx s)
    → (new : CoreState) × ServesAll c (map (Write tx) sites) (map (λ s. Installed) sites) new
write_all c tx [] g own d each = (c, refl)
write_all c tx (s ∷ []) g own d each =
    (installed c tx s, (installed c tx s, (write_allowed c tx s g own (each s (cons_here s [])), refl), refl))
write_all c tx (s ∷ t ∷ ts) g own d each =
    let mid : CoreState = record (with_entries c (only_at s (c.due s))) {
      certifier = noted c tx s;
      due =
          changed_at s [] c.due;
    } in
    let due_there : (n : ℕ) → Contains (t ∷ ts) n → mid.due n ≡ [] → ⊥
    = λ n m e. (each n (contains-later s (t ∷ ts) n m)).due
    (sym (cleared_there s c.due n (λ is. d.0 (subst (Contains (t ∷ ts)) is m))) ∙ e) in
    let inside_t = (each t (contains-later s (t ∷ ts) t (cons_here t ts))).inside in
    let open_still : installed c tx s ≡ mid = stays_open mid tx t inside_t (due_there t (cons_here t ts)) in
    let going : IsGoing mid tx = record {
      active = subst (λ xs. Contains xs tx) (sym (noted_active c tx s)) g.active;
      begun = subst (λ n. tx ≤ n) (sym (noted_begun c tx s)) g.begun;
      alone = g.alone;
    } in
    let rest = write_all mid tx (t ∷ ts) going (noted-step c tx s ∙ own) d.1 (λ n m. let e =
    each n (contains-later s (t ∷ ts) n m) in record {
      inside = e.inside;
      touched = still_touched c tx n (only_at s (c.due s) n) e.touched;
      due = due_there n m;
    }) in
    (rest.0, (mid, (write_allowed c tx s g own (each s (cons_here s (t ∷ ts))), sym open_still), rest.1))

-- ---- the whole commit

pub decide_allowed : (c : CoreState) (tx : ℕ) → IsGoing c tx → c.certifier.step ≡ None
    → ((s : ℕ) → Contains (touched c tx) s → IsGathered c tx s) → IsAllowed c (Decide tx)
decide_allowed c tx g none all fault.Unknown h = unknown c tx h.0 g h.1 h.2
decide_allowed c tx g none all fault.Ended h = ended c tx h.0 g h.1 h.2.1
decide_allowed c tx g none all fault.StepOpen h = g.alone h
decide_allowed c tx g none all fault.NotGathered h = h.2 (all h.0 h.1)
decide_allowed c tx g none all fault.AlreadyDone h = let e : Some tx ≡ None = sym h ∙ none in absurd cc
decide_allowed c tx g none all _ h = h

-- after a decision with these blocks, all are written
unfoldable pub finishes : (c : CoreState) (tx : ℕ) (mid : State) (block : ℕ → List Entry) (sites : List ℕ)
    → IsGoing (record c { certifier = mid; due = block }) tx → mid.step ≡ Some tx
    → AreDistinct sites → ((s : ℕ) → Contains sites s → IsToWrite (record c { certifier = mid; due = block }) tx s)
    → (new : CoreState) × ServesAll (decided c tx mid block) (map (Write tx) sites) (map (λ s. Installed) sites) new
finishes c tx mid block [] g own d each = (decided c tx mid block, refl)
finishes c tx mid block (s ∷ ss) g own d each =
    let after : CoreState = record c { certifier = mid; due = block } in
    let here = each s (cons_here s ss) in
    let open_still : decided c tx mid block ≡ after = stays_open after tx s here.inside here.due in
    let r = write_all after tx (s ∷ ss) g own d each in (
      r.0,
      subst (λ (a : CoreState). ServesAll a (map (Write tx) (s ∷ ss)) (map (λ n. Installed) (s ∷ ss)) r.0)
          (sym open_still) r.1,
    )

pub some_block : (t : Bool) (ops : List Entry) (last : Entry) → t ≡ true → cond t (ops ++ last ∷ []) [] ≡ [] → ⊥
some_block true ops last e none = no_block ops last none
some_block false ops last e none = true≢false (sym e)

unfoldable pub commits : (c : CoreState) (tx : ℕ) → IsKept c → IsAllowed c (Commit tx)
    → (reply : Reply) × (new : CoreState) × MayStep c (Commit tx) reply new × IsAnswer reply
commits c tx k allowed =
    let sites = touched c tx in
    let closed = none_open c (allowed fault.StepOpen) in
    let none = idle c k closed in
    let active = is_active c (Commit tx) tx allowed refl in
    let begun = at_most c.certifier.begun tx (λ lt. allowed fault.Unknown (tx, refl, lt)) in
    let going : IsGoing c tx =
    record {
      active = active;
      begun = begun;
      alone = subst (λ o. StepIs (λ t. t ≡ tx → ⊥) o
          → ⊥) (sym closed) (λ n. n);
    } in
    let distinct = filter-distinct (touches c tx) (sites_of c) (range-distinct 0 (length c.items)) in
    let inside : (s : ℕ) → Contains sites s → s < length c.items = λ s m.
    let r = in_range 0 (length c.items) s (filter_member (touches c tx) (sites_of c) s m).0 in
    omega (arith, r.1) in
    let hit : (s : ℕ) → Contains sites s → touches c tx s ≡ true =
    λ s m. (filter_member (touches c tx) (sites_of c) s m).1 in
    let all = gather_all c tx sites going distinct (λ s m. record {
      inside = inside s m;
      touched = hit s m;
      fresh = subst (λ o. Contains (gathered_in o) s → ⊥) (sym closed) (contains-none s);
    }) in
    let mid : CoreState = record c { step = all.step } in
    let mid_going : IsGoing mid tx = record { active = active; begun = begun; alone = all.alone } in
    let may = decide_allowed mid tx mid_going none all.gathered in
    let mid_kept = serves_all-kept c (map (Gather tx) sites) (map (λ s. Gathered) sites) mid k all.serves in
    elim (verdict mid tx mid_kept.sound none active) [
      | inl r ↦
          let v = r.1 in
          let after = v.commits.after in
          let rest = finishes mid tx v.certifier (committed_block mid tx) sites (record {
            active = subst (λ (s : State). Contains s.active tx) (sym after) active;
            begun = subst (λ (s : State). tx ≤ s.begun) (sym after) begun;
            alone = all.alone;
          }) (ap (λ (s : State). s.step) after) distinct (λ s m. record {
            inside = inside s m;
            touched = hit s m;
            due = some_block (touches c tx s) _ _ (hit s m);
          }) in (
            Yes,
            rest.0,
            (
              allowed,
              append-all c (map (Gather tx) sites) (Decide tx ∷ map (Write tx) sites) (map (λ s. Gathered) sites)
                  (Yes ∷ map (λ s. Installed) sites) mid rest.0 all.serves (
                    r.0,
                    (may, v),
                    subst (λ (a : CoreState). ServesAll a (map (Write tx) sites) (map (λ s. Installed) sites)
                        rest.0) (sym v.after) rest.1,
                  ),
            ),
            tt,
          )
      | inr r ↦
          let v = r.1 in
          let after = v.refuses.after in
          let rest = finishes mid tx v.certifier (refused_block mid tx) sites (record {
            active = subst (λ (s : State). Contains s.active tx) (sym after) active;
            begun = subst (λ (s : State). tx ≤ s.begun) (sym after) begun;
            alone = all.alone;
          }) (ap (λ (s : State). s.step) after) distinct (λ s m. record {
            inside = inside s m;
            touched = hit s m;
            due = some_block (touches c tx s) _ _ (hit s m);
          }) in (
            No,
            rest.0,
            (
              allowed,
              append-all c (map (Gather tx) sites) (Decide tx ∷ map (Write tx) sites) (map (λ s. Gathered) sites)
                  (No ∷ map (λ s. Installed) sites) mid rest.0 all.serves (
                    r.0,
                    (may, v),
                    subst (λ (a : CoreState). ServesAll a (map (Write tx) sites) (map (λ s. Installed) sites)
                        rest.0) (sym v.after) rest.1,
                  ),
            ),
            tt,
          )
    ]
