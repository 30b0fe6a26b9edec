-- What the checks of a set tell: that it is stuck.
use Rattle.std.proofs.Common.{◌≡◌, inl, inr, ◌⊎◌, ℕ, ◌<◌, ◌≤◌, arith, true, false, List, [], ◌∷◌, ◌++◌, Some, BTreeSet, length, sym, refl, ap, ◌∙◌, subst, suc, Contains}
use Rattle.std.specs.Prelude.{slice_get}
use Rattle.std.specs.BTreeSet.{contains}
use Rattle.std.specs.Ordering.{nat_cmp}
use Rattle.std.proofs.lemmas.Bool.{cases_order, true≢false}
use Rattle.std.proofs.lemmas.Option.{same_Some, slice_get_within}
use Rattle.std.proofs.lemmas.List.Elements.{Contains-append_cases}
use Rattle.sgt_names.proofs.Places.{All_at, Contains_at, Contains-from_at}
use Rattle.sgt_names.proofs.Lists.{All-weaken, heads, tails}
use Rattle.sgt_names.specs.Entry.{tx_of, IsEnd}
use Rattle.sgt_names.specs.declared.entry.Entry.{Entry}
use Rattle.sgt_names.specs.Log.{Conflicts}
use Rattle.sgt_names.specs.declared.entry.Entry.TheVariants.{Commit}
use Rattle.sgt_bundle.specs.Certificate.{stops}
use Rattle.sgt_bundle.specs.Valid.{AreLogged}
use Rattle.sgt_bundle.specs.declared.certificate.Step.{Step}
use Rattle.sgt_bundle.specs.declared.bundle.SiteLog.{SiteLog}
use Rattle.sgt_certify_logs.specs.Witness.{EndsBefore, IsFree, IsIn, IsStuck, LiesOnCycle}
use Rattle.sgt_certify_stuck.proofs.Elements.{contains_cases, each-in}
use Rattle.sgt_certify_stuck.specs.Apart.{HasNoWalk, HasTx}
use Rattle.sgt_certify_stuck.specs.Circles.{IsBeyond, IsCircle, IsEncircled, LeadNowhere, ShowsStuck, members_of}
use Rattle.sgt_certify_stuck.specs.declared.stuck.Circle.{Circle}
use Rattle.sgt_certify_stuck.specs.declared.stuck.StuckSet.{StuckSet}
use Rattle.sgt_certify_stuck.specs.Ends.{AllDecided, IsFirstLeft}
use Rattle.sgt_certify_stuck.specs.private.Ends.{AreShown, AreUncommitted, EndsBehind, HasFree, IsBehind, IsNext, IsNextInAll}

-- ---- no walk

pub bool_or : (set : BTreeSet ℕ) (t : ℕ) → (contains nat_cmp set t ≡ true) ⊎ (contains nat_cmp set t ≡ false)
bool_or set t = elim (contains nat_cmp set t) as (λ b. (b ≡ true) ⊎ (b ≡ false)) [ true ↦ inl refl | false ↦ inr refl ]

module _ (sites : List SiteLog) (committed : List ℕ) (circle : Circle) (whole : IsCircle sites committed circle) where
  leads : (From To : ℕ → Type 0) → LeadNowhere sites From To → (a : ℕ) (s : Step) (log : SiteLog)
      → slice_get sites s.label.site ≡ Some log
      → Conflicts log.entries s.label.kind s.label.item a s.to → From a → To s.to → ⊥
  leads From To none a s log at c from to =
      none log (Contains-from_at sites s.label.site log at) s.label.kind s.label.item c.p c.q c.e c.f c.before c.first
      c.second
      (subst From (sym c.from) from) (subst To (sym c.to) to) c.clash

  -- from one that is met no walk leads back
  from_met : (a : ℕ) (walk : List Step) (between : List ℕ) → Contains circle.met.items a → AreLogged sites a walk
      → stops walk ≡ between ++ circle.tx ∷ [] → ((k t : ℕ) → slice_get between k ≡ Some t → Contains committed t) → ⊥
  from_met a [] [] here logged ends through = absurd cc
  from_met a [] (b ∷ bs) here logged ends through = absurd cc
  from_met a (s ∷ walk) [] here logged ends through =
      leads (Contains circle.met.items) (λ (t : ℕ). t ≡ circle.tx) whole.back a s logged.0.0 logged.0.1 logged.0.2
      here (heads _ _ _ _ ends)
  from_met a (s ∷ walk) (b ∷ bs) here logged ends through =
      let to = heads _ _ _ _ ends in
      elim (contains_cases circle.met.items s.to) [
        | inl inside ↦ from_met s.to walk bs inside logged.1 (tails _ _ _ _ ends) (λ k t at. through (suc k) t at)
        | inr outside ↦ leads (Contains circle.met.items) (IsBeyond committed circle) whole.onward a s logged.0.0
            logged.0.1 logged.0.2 here
            (subst (Contains committed) (sym to) (through 0 b refl), outside)
      ]

  pub no-walk : HasNoWalk sites committed circle.tx
  no-walk [] [] logged ends through = absurd cc
  no-walk [] (b ∷ bs) logged ends through = absurd cc
  no-walk (s ∷ walk) [] logged ends through = logged.0.2.apart (sym (heads _ _ _ _ ends))
  no-walk (s ∷ walk) (b ∷ bs) logged ends through =
      let to = heads _ _ _ _ ends in
      let each = λ (k t : ℕ) (at : slice_get (b ∷ bs) k ≡ Some t). All_at (Contains committed) (b ∷ bs) k t through
      at in
      elim (contains_cases circle.met.items s.to) [
        | inl inside ↦ from_met s.to walk bs inside logged.1 (tails _ _ _ _ ends) (λ k t at. each (suc k) t at)
        | inr outside ↦ leads (λ (t : ℕ). t ≡ circle.tx) (IsBeyond committed circle) whole.first circle.tx s
            logged.0.0 logged.0.1 logged.0.2 refl
            (subst (Contains committed) (sym to) (each 0 b refl), outside)
      ]

-- ---- what the circles show

module _ (sites : List SiteLog) (stuck : StuckSet) (shows : ShowsStuck sites stuck) where
  commits : (t : ℕ) → Contains (members_of stuck) t → IsIn sites (Commit t) → Contains stuck.committed.items t
  commits t among is =
      elim (Contains-append_cases stuck.committed.items stuck.others.items t among) [
        | inl here ↦ here
        | inr there ↦ absurd (shows.others t there is)
      ]

  off-cycles : (t : ℕ) → IsEncircled sites stuck t → LiesOnCycle sites (members_of stuck) t → ⊥
  off-cycles t encircled cycle =
      let circle = encircled.1 in
      let none : HasNoWalk sites stuck.committed.items t =
      subst (HasNoWalk sites stuck.committed.items) circle.2
      (no-walk sites stuck.committed.items circle.0 circle.3) in
      none cycle.walk cycle.between cycle.logged cycle.closed
      (All-weaken (λ (a : ℕ). Contains (members_of stuck) a × IsIn sites (Commit a)) (Contains stuck.committed.items)
      cycle.between
      (λ a both. commits a both.0 both.1) cycle.through)

  pub shown-stuck : IsStuck sites (members_of stuck)
  shown-stuck = record {
    free = shows.free;
    refused = λ t free. ((shows.refused t free).0, off-cycles t (shows.refused t free));
  }

-- ---- the checks

module _ (sites : List SiteLog) (stuck : StuckSet) (decided rest : BTreeSet ℕ)
    (has : (t : ℕ) → Contains (members_of stuck) t → HasTx decided t)
    (only : (t : ℕ) → HasTx decided t → Contains (members_of stuck) t)
    (has_rest : (t : ℕ) → Contains stuck.others.items t → HasTx rest t)
    (only_rest : (t : ℕ) → HasTx rest t → Contains stuck.others.items t) where
  free-of : (log : SiteLog) → Contains sites log → (k tx : ℕ) → IsFirstLeft log.entries decided k tx
      → IsNextInAll sites decided tx
      → IsFree sites (members_of stuck) tx
  free-of log here k tx (e, at, end, is, out, before) next = record {
    ends = (e, (log, here, Contains-from_at log.entries k e at), end, is);
    open_yet = λ among. true≢false (sym (has tx among) ∙ out);
    next = λ u earlier. only u (next u earlier);
  }

  out-of : (t : ℕ) → (Contains (members_of stuck) t → ⊥) → contains nat_cmp decided t ≡ false
  out-of t outside = elim (bool_or decided t) [ inl inside ↦ absurd (outside (only t inside)) | inr out ↦ out ]

  first-of : (t : ℕ) → IsFree sites (members_of stuck) t
      → (log : SiteLog) × Contains sites log × (k : ℕ) × IsFirstLeft log.entries decided k t
  first-of t free =
      let e = free.ends.0 in
      let log = free.ends.1.0 in
      let here = free.ends.1.1 in
      let end = free.ends.2 in
      let is = free.ends.3 in
      let at = Contains_at log.entries e free.ends.1.2 in (
        log,
        here,
        at.0,
        (
          e,
          at.1,
          end,
          is,
          out-of t free.open_yet,
          λ j f lt at_j end_f.
              has (tx_of f) (free.next (tx_of f) (record {
                log = log;
                here = here;
                p = j;
                q = at.0;
                e = f;
                f = e;
                before = lt;
                first = at_j;
                second = at.1;
                from = refl;
                to = is;
                ends = (end_f, end);
              })),
        ),
      )

  pub shows-stuck : AreUncommitted sites rest → HasFree sites decided → AreShown sites stuck decided
      → ShowsStuck sites stuck
  shows-stuck none (log, here, (k, tx, first, next)) shown = record {
    others = λ t among is.
        let at = Contains_at is.0.entries (Commit t) is.2 in
        none is.0 is.1 at.0 t at.1 (has_rest t among);
    free = (tx, free-of log here k tx first next);
    refused = λ t free.
        let w = first-of t free in
        shown w.0 w.1 w.2 t w.3 (λ u earlier. has u (free.next u earlier));
  }

  pub shows-uncommitted : ShowsStuck sites stuck → AreUncommitted sites rest
  shows-uncommitted shows log here k t at inside =
      shows.others t (only_rest t inside) (log, here, Contains-from_at log.entries k (Commit t) at)

  pub shows-free : ShowsStuck sites stuck → HasFree sites decided
  shows-free shows =
      let t = shows.free.0 in
      let free = shows.free.1 in
      let w = first-of t free in
      (w.0, w.1, (w.2, t, w.3, λ u earlier. has u (free.next u earlier)))

  pub shows-shown : ShowsStuck sites stuck → AreShown sites stuck decided
  shows-shown shows log here k tx first next = shows.refused tx (free-of log here k tx first next)

-- two that are the first left in a log are one
pub one-left : (entries : List Entry) (decided : BTreeSet ℕ) (k t n u : ℕ) → IsFirstLeft entries decided k t
    → IsFirstLeft entries decided n u → t ≡ u
one-left entries decided k t n u (e, at, end, is, out, before) (f, there, ends, its, outside, front) =
    elim (cases_order k n) [
      | inl same ↦ sym is ∙ ap tx_of (same_Some e f (sym at ∙ ap (slice_get entries) same ∙ there)) ∙ its
      | inr (inl less) ↦ absurd (true≢false (sym (front k e less at end) ∙ ap (contains nat_cmp decided) is ∙ out))
      | inr (inr more) ↦ absurd (true≢false (sym (before n f more there ends) ∙ ap (contains nat_cmp decided) its
          ∙ outside))
    ]

-- ---- ends

pub behind-waits : (sites : List SiteLog) (log : SiteLog) (decided : BTreeSet ℕ) (tx : ℕ) → Contains sites log
    → IsBehind log.entries decided tx
    → (u : ℕ) × EndsBefore sites u tx × (contains nat_cmp decided u ≡ false)
behind-waits sites log decided tx here (q, f, left, at, end, is) = (
  tx_of left.1,
  record {
    log = log;
    here = here;
    p = left.0;
    q = q;
    e = left.1;
    f = f;
    before = left.2;
    first = left.3;
    second = at;
    from = refl;
    to = is;
    ends = (left.4, end);
  },
  left.5,
)

-- where each log lets it be next, nobody who isn't decided ends before it
pub nobody-waits : (sites : List SiteLog) (decided : BTreeSet ℕ) (tx n : ℕ) → length sites ≤ n
    → ((i : ℕ) (log : SiteLog) → i < n → slice_get sites i ≡ Some log → IsNext log.entries decided tx)
    → (u : ℕ) → EndsBefore sites u tx → HasTx decided u
nobody-waits sites decided tx n all next u h =
    subst (HasTx decided) h.from
    (each-in (λ (log : SiteLog). IsNext log.entries decided tx) sites n all next h.log h.here h.q h.f h.second
    h.ends.1 h.to h.p h.e h.before h.first h.ends.0)

pub left-behind : (entries : List Entry) (decided : BTreeSet ℕ) (place left tx : ℕ)
    → IsFirstLeft entries decided place left
    → EndsBehind entries place tx → IsBehind entries decided tx
left-behind entries decided place left tx (e, at, end, is, out, before) (q, f, behind, there, ends, its) = (
  q,
  f,
  (place, e, behind, at, end, subst (λ (t : ℕ). contains nat_cmp decided t ≡ false) (sym is) out),
  there,
  ends,
  its,
)

pub none-behind : (entries : List Entry) (decided : BTreeSet ℕ) (place left tx : ℕ)
    → IsFirstLeft entries decided place left
    → (EndsBehind entries place tx → ⊥) → IsNext entries decided tx
none-behind entries decided place left tx (e, at, end, is, out, before) none q f there ends its k g lt at-k end-k =
    elim (cases_order k place) [
      | inl same ↦ absurd (none (q, f, subst (λ (n : ℕ). n < q) same lt, there, ends, its))
      | inr (inl front) ↦ before k g front at-k end-k
      | inr (inr behind) ↦ absurd (none (q, f, omega (arith, behind, lt), there, ends, its))
    ]

pub all-next : (entries : List Entry) (decided : BTreeSet ℕ) (tx : ℕ) → AllDecided entries decided (length entries)
    → IsNext entries decided tx
all-next entries decided tx all q f there ends its k g lt at-k end-k =
    all k g (slice_get_within entries k g at-k) at-k end-k

-- where whoever ends in the log is decided, nobody is left
pub none-left : (entries : List Entry) (decided : BTreeSet ℕ) (k t : ℕ) → AllDecided entries decided (length entries)
    → IsFirstLeft entries decided k t → ⊥
none-left entries decided k t all (e, at, end, is, out, before) =
    true≢false (sym (all k e (slice_get_within entries k e at) at end) ∙ ap (contains nat_cmp decided) is ∙ out)
