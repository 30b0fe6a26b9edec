-- While an order is looked through for the first line that passes one.
use Rattle.std.proofs.Common.{◌≡◌, ℕ, ◌+◌, ◌<◌, ◌≤◌, ◌⊎◌, List, [], Option, Some, None, length, set, sym, ap, ◌∙◌, subst, arith, inl, inr}
use Rattle.std.specs.Prelude.{◌↔◌, slice_get}
use Rattle.std.proofs.lemmas.Bool.{cases_lt}
use Rattle.std.proofs.lemmas.Option.{same_Some, slice_get_within}
use Rattle.sgt_history_time.specs.declared.times.Times.{Times}
use Rattle.sgt_history_kept.specs.declared.asked.Asked.{Asked}
use Rattle.sgt_history_kept.specs.declared.passed.Began.{Began}
use Rattle.sgt_history_kept.specs.declared.passed.Passed.{Passed}
use Rattle.sgt_history_kept.specs.declared.passed.Reason.TheVariants as reason
use Rattle.sgt_history_kept.specs.declared.passed.Unkept.{Unkept}
use Rattle.sgt_history_time.specs.Kept.{IsBefore, IsEarlier, Keeps, KeepsRealTime, KeepsSessions}
use Rattle.sgt_history_kept.specs.Seen.{ComesAhead, ComesBehind, ComesLast, EndsBefore, EndsBehind, IsLatestWith}
use Rattle.sgt_history_kept.specs.Unkept.{IsFirstUnkept, IsNoLater, KeepsTo, PassesInSession, PassesInTime, StandsAmong}
use Rattle.sgt_history_time.proofs.InSessions.{same-session}
use Rattle.sgt_names.proofs.Elements.{get-set_here, get_set_elsewhere}

-- ---- the first lines of an order

none-among : (order : List ℕ) (x : ℕ) → StandsAmong order 0 x → ⊥
none-among order x a = omega (arith, a.1)

among-here : (order : List ℕ) (n x : ℕ) → slice_get order n ≡ Some x → StandsAmong order (n + 1) x
among-here order n x at = (n, omega arith, at)

among-more : (order : List ℕ) (n x : ℕ) → StandsAmong order n x → StandsAmong order (n + 1) x
among-more order n x a = (a.0, omega (arith, a.1), a.2)

among-cases : (order : List ℕ) (n line x : ℕ) → slice_get order n ≡ Some line → StandsAmong order (n + 1) x
    → StandsAmong order n x ⊎ (line ≡ x)
among-cases order n line x at a = elim (cases_lt a.0 n) [
  | inl less ↦ inl (a.0, less, a.2)
  | inr ge ↦
      let same : n ≡ a.0 = omega (arith, a.1, ge) in
      inr (same_Some line x (sym at ∙ ap (slice_get order) same ∙ a.2))
]

keeps-none : (R : ℕ → ℕ → Type 0) (order : List ℕ) → KeepsTo R order 0
keeps-none R order place line other lt at among r = omega (arith, lt)

keeps-next : (R : ℕ → ℕ → Type 0) (order : List ℕ) (n line : ℕ) → slice_get order n ≡ Some line → KeepsTo R order n
    → ((other : ℕ) → StandsAmong order (n + 1) other → R line other → ⊥) → KeepsTo R order (n + 1)
keeps-next R order n line here so none place x other lt at among r = elim (cases_lt place n) [
  | inl less ↦ so place x other less at among r
  | inr ge ↦
      let same : n ≡ place = omega (arith, lt, ge) in
      let x_is : line ≡ x = same_Some line x (sym here ∙ ap (slice_get order) same ∙ at) in
      none other (subst (λ (k : ℕ). StandsAmong order (k + 1) other) (sym same) among)
      (subst (λ (z : ℕ). R z other) (sym x_is) r)
]

keeps-whole : (R : ℕ → ℕ → Type 0) (order : List ℕ) (n : ℕ) → length order ≤ n → KeepsTo R order n → Keeps R order
keeps-whole R order n all so i j first second at at' r = elim (cases_lt i j) [
  | inl lt ↦ lt
  | inr ge ↦ absurd (so i first second (omega (arith, slice_get_within order i first at, all)) at (
    j,
    omega (arith, ge),
    at',
  ) r)
]

-- a line that passes one
breaks : (R : ℕ → ℕ → Type 0) (order : List ℕ) (place line other : ℕ) → slice_get order place ≡ Some line
    → StandsAmong order (place + 1) other → R line other
    → Keeps R order → ⊥
breaks R order place line other at among r keeps = omega (arith, keeps place among.0 line other at among.2 r, among.1)

abbrev pub unkept-of : ℕ → ℕ → Passed → Unkept
unkept-of place line p = record { place = place; line = line; other = p.other; reason = p.reason }

-- ---- sessions

pub record UpTo (last : List (Option ℕ)) (session line : ℕ) : Type 0 where
  pub end : ℕ
  pub at : slice_get last session ≡ Some (Some end)
  pub most : line ≤ end

-- of the first n lines these are the greatest of their sessions
pub record AreLast (order : List ℕ) (sessions : List (Option ℕ)) (n : ℕ) (last : List (Option ℕ)) : Type 0 where
  pub most : (line session : ℕ) → StandsAmong order n line → slice_get sessions line ≡ Some (Some session)
      → UpTo last session line
  pub met : (session line : ℕ) → slice_get last session ≡ Some (Some line)
      → StandsAmong order n line × (slice_get sessions line ≡ Some (Some session))

last-none : (order : List ℕ) (sessions last : List (Option ℕ)) → last ≡ [] → AreLast order sessions 0 last
last-none order sessions last is = record {
  most = λ line session among of_it. absurd (none-among order line among);
  met = λ session line at. let f = ap (λ (l : List (Option ℕ)). slice_get l session) (sym is) ∙ at in absurd cc;
}

last-next : (order : List ℕ) (sessions last new : List (Option ℕ)) (n line : ℕ) → AreLast order sessions n last
    → slice_get order n ≡ Some line
    → ComesBehind sessions last line → ComesLast sessions last line new → AreLast order sessions (n + 1) new
last-next order sessions last new n line so here behind comes = record { most = most; met = met }
  where
    kept : (session x : ℕ) → UpTo last session x → UpTo new session x
    kept session x old = elim (same-session (slice_get sessions line) session) [
      | inl own ↦ record {
        end = line;
        at = comes.own session own;
        most =
            omega (arith, old.most, behind session old.end own old.at);
      }
      | inr apart ↦ record { end = old.end; at = (comes.others session old.end apart).1 old.at; most = old.most }
    ]

    most : (x session : ℕ) → StandsAmong order (n + 1) x → slice_get sessions x ≡ Some (Some session)
        → UpTo new session x
    most x session among of_it = elim (among-cases order n line x here among) [
      | inl before ↦ kept session x (so.most x session before of_it)
      | inr same ↦ record {
        end = line;
        at = comes.own session (ap (slice_get sessions) same ∙ of_it);
        most =
            omega (arith, same);
      }
    ]

    met : (session x : ℕ) → slice_get new session ≡ Some (Some x)
        → StandsAmong order (n + 1) x × (slice_get sessions x ≡ Some (Some session))
    met session x at = elim (same-session (slice_get sessions line) session) [
      | inl own ↦
          let same : line ≡ x =
          same_Some line x (same_Some (Some line) (Some x) (sym (comes.own session own) ∙ at)) in (
            subst (StandsAmong order (n + 1)) same (among-here order n line here),
            ap (slice_get sessions) (sym same)
                ∙ own,
          )
      | inr apart ↦
          let old = so.met session x ((comes.others session x apart).0 at) in
          (among-more order n x old.0, old.1)
    ]

-- no line of its session that stands among those up to it is greater
session-passes_none : (order : List ℕ) (sessions last : List (Option ℕ)) (n line : ℕ) → AreLast order sessions n last
    → slice_get order n ≡ Some line
    → ComesBehind sessions last line → (other : ℕ) → StandsAmong order (n + 1) other → IsEarlier sessions line other → ⊥
session-passes_none order sessions last n line so here behind other among e =
    elim (among-cases order n line other here among) [
      | inl before ↦
          let up = so.most other e.session before e.second_at in
          omega (arith, up.most, behind e.session up.end e.first_at up.at, e.earlier)
      | inr same ↦ omega (arith, same, e.earlier)
    ]

session-passes : (order : List ℕ) (sessions last : List (Option ℕ)) (n line : ℕ) (p : Passed)
    → AreLast order sessions n last → slice_get order n ≡ Some line
    → ComesAhead sessions last line p → PassesInSession sessions order (unkept-of n line p)
session-passes order sessions last n line p so here ahead =
    let met = so.met ahead.session p.other ahead.last_is in
    record {
      session = ahead.session;
      reason_is = ahead.reason_is;
      own = ahead.own;
      of_other = met.1;
      earlier = ahead.earlier;
      among = among-more order n p.other met.0;
      greatest = λ x among e. elim (among-cases order n line x here among) [
        | inl before ↦
            let up = so.most x e.session before e.second_at in
            let session_is : e.session ≡ ahead.session =
            same_Some e.session ahead.session (same_Some (Some e.session) (Some ahead.session) (sym e.first_at
            ∙ ahead.own)) in
            let end_is : up.end ≡ p.other = same_Some up.end p.other (same_Some (Some up.end) (Some p.other)
            (sym up.at ∙ ap (slice_get last) session_is ∙ ahead.last_is)) in
            omega (arith, up.most, end_is)
        | inr same ↦ omega (arith, same, ahead.earlier)
      ];
    }

-- ---- real time

no_later-trans : (a x b y c z : ℕ) → IsNoLater a x b y → IsNoLater b y c z → IsNoLater a x c z
no_later-trans a x b y c z (inl lt) (inl lt') = inl (omega (arith, lt, lt'))
no_later-trans a x b y c z (inl lt) (inr (e, le)) = inl (omega (arith, lt, e))
no_later-trans a x b y c z (inr (e, le)) (inl lt) = inl (omega (arith, lt, e))
no_later-trans a x b y c z (inr (e, le)) (inr (e', le')) = inr (omega (arith, e, e'), omega (arith, le, le'))

-- the latest of the first n is the one of these
pub record IsLatestOf (order : List ℕ) (times : List (Option Times)) (n : ℕ) (latest : Option Began) : Type 0 where
  pub most : (x : ℕ) (ran : Times) → StandsAmong order n x → slice_get times x ≡ Some (Some ran)
      → (l : Began) × (latest ≡ Some l) × IsNoLater x ran.begin l.line l.begin
  pub met : (l : Began) → latest ≡ Some l → StandsAmong order n l.line × (ran : Times)
      × (slice_get times l.line ≡ Some (Some ran)) × (ran.begin ≡ l.begin)

latest-none : (order : List ℕ) (times : List (Option Times)) (latest : Option Began) → latest ≡ None
    → IsLatestOf order times 0 latest
latest-none order times latest is = record {
  most = λ x ran among at. absurd (none-among order x among);
  met = λ l e. let f = sym is ∙ e in absurd cc;
}

latest-next : (order : List ℕ) (times : List (Option Times)) (n line : ℕ) (latest next : Option Began)
    → IsLatestOf order times n latest → slice_get order n ≡ Some line
    → IsLatestWith times latest line next → IsLatestOf order times (n + 1) next
latest-next order times n line latest next so here w = record { most = most; met = met }
  where
    most : (x : ℕ) (ran : Times) → StandsAmong order (n + 1) x → slice_get times x ≡ Some (Some ran)
        → (l : Began) × (next ≡ Some l) × IsNoLater x ran.begin l.line l.begin
    most x ran among at = elim (among-cases order n line x here among) [
      | inl before ↦
          let old = so.most x ran before at in
          let new = w.old old.0 old.1 in
          (new.0, new.1, no_later-trans x ran.begin old.0.line old.0.begin new.0.line new.0.begin old.2 new.2)
      | inr same ↦
          let new = w.own ran (ap (slice_get times) same ∙ at) in
          (new.0, new.1, subst (λ (k : ℕ). IsNoLater k ran.begin new.0.line new.0.begin) same new.2)
    ]

    met : (l : Began) → next ≡ Some l → StandsAmong order (n + 1) l.line × (ran : Times)
        × (slice_get times l.line ≡ Some (Some ran)) × (ran.begin ≡ l.begin)
    met l e = elim (w.one l e) [
      | inl same ↦
          let old = so.met l same in
          (among-more order n l.line old.0, old.1, old.2, old.3)
      | inr (x, at, line_is, begin_is) ↦ (
        subst (StandsAmong order (n + 1)) (sym line_is) (among-here order n line here),
        x,
        ap (slice_get times) line_is ∙ at,
        sym begin_is,
      )
    ]

time-passes_none : (order : List ℕ) (times : List (Option Times)) (n line : ℕ) (latest : Option Began)
    → IsLatestOf order times n latest
    → EndsBehind times latest line → (other : ℕ) → StandsAmong order n other → IsBefore times line other → ⊥
time-passes_none order times n line latest so behind other among e =
    let l = so.most other e.b among e.second_at in
    elim l.2 [
      | inl less ↦ omega (arith, less, behind e.a l.0 e.first_at l.1, e.before)
      | inr (same, le) ↦ omega (arith, same, behind e.a l.0 e.first_at l.1, e.before)
    ]

time-passes : (order : List ℕ) (times : List (Option Times)) (n line : ℕ) (latest : Option Began) (p : Passed)
    → IsLatestOf order times (n + 1) latest
    → EndsBefore times latest line p → PassesInTime times order (unkept-of n line p)
time-passes order times n line latest p so ends =
    let met = so.met ends.l ends.latest_is in
    record {
      ran = ends.ran;
      other_ran = met.1;
      reason_is = ends.reason_is ∙ ap (reason.Time ends.ran.done) (sym met.3);
      own = ends.own;
      of_other = ap (slice_get times) ends.other_is ∙ met.2;
      before = omega (arith, ends.before, met.3);
      among = subst (StandsAmong order (n + 1)) (sym ends.other_is) met.0;
      greatest = λ x x_ran among at.
          let old = so.most x x_ran among at in
          let same : old.0 ≡ ends.l = same_Some old.0 ends.l (sym old.1 ∙ ends.latest_is) in
          let bound : IsNoLater x x_ran.begin ends.l.line ends.l.begin =
          subst (λ (l : Began). IsNoLater x x_ran.begin l.line l.begin) same old.2 in
          subst (λ (k : ℕ). IsNoLater x x_ran.begin k met.1.begin) (sym ends.other_is)
          (subst (IsNoLater x x_ran.begin ends.l.line) (sym met.3) bound);
    }

-- ---- both

-- none of the first n passes one, and this is what is known of them
pub record AreSeen (order : List ℕ) (a : Asked) (n : ℕ) (latest : Option Began) (last : List (Option ℕ)) : Type 0 where
  pub in_time : KeepsTo (IsBefore a.times.items) order n
  pub in_sessions : KeepsTo (IsEarlier a.sessions.items) order n
  pub latest_is : IsLatestOf order a.times.items n latest
  pub last_are : AreLast order a.sessions.items n last

pub seen-none : (order : List ℕ) (a : Asked) (latest : Option Began) (last : List (Option ℕ)) → latest ≡ None
    → last ≡ [] → AreSeen order a 0 latest last
seen-none order a latest last latest_is last_is = record {
  in_time = keeps-none (IsBefore a.times.items) order;
  in_sessions = keeps-none (IsEarlier a.sessions.items) order;
  latest_is = latest-none order a.times.items latest latest_is;
  last_are = last-none order a.sessions.items last last_is;
}

pub seen-next : (order : List ℕ) (a : Asked) (n line : ℕ) (latest next : Option Began) (last new : List (Option ℕ))
    → AreSeen order a n latest last → slice_get order n ≡ Some line
    → IsLatestWith a.times.items latest line next → ComesBehind a.sessions.items last line
    × EndsBehind a.times.items next line
    → ComesLast a.sessions.items last line new → AreSeen order a (n + 1) next new
seen-next order a n line latest next last new so here w behind comes =
    let latest_is = latest-next order a.times.items n line latest next so.latest_is here w in
    record {
      in_time =
          keeps-next (IsBefore a.times.items) order n line here so.in_time
          (time-passes_none order a.times.items (n + 1) line next latest_is behind.1);
      in_sessions = keeps-next (IsEarlier a.sessions.items) order n line here so.in_sessions
          (session-passes_none order a.sessions.items last n line so.last_are here behind.0);
      latest_is = latest_is;
      last_are = last-next order a.sessions.items last new n line so.last_are here behind.0 comes;
    }

pub seen-passes : (order : List ℕ) (a : Asked) (n line : ℕ) (latest next : Option Began) (last : List (Option ℕ))
    (p : Passed) → AreSeen order a n latest last
    → slice_get order n ≡ Some line → IsLatestWith a.times.items latest line next
    → ComesAhead a.sessions.items last line p
    ⊎ (ComesBehind a.sessions.items last line × EndsBefore a.times.items next line p)
    → IsFirstUnkept order a (unkept-of n line p)
seen-passes order a n line latest next last p so here w (inl ahead) = record {
  at = here;
  in_time = so.in_time;
  in_sessions = so.in_sessions;
  passes = inl (session-passes order a.sessions.items last n line p so.last_are here ahead);
}
seen-passes order a n line latest next last p so here w (inr (behind, ends)) = record {
  at = here;
  in_time = so.in_time;
  in_sessions = so.in_sessions;
  passes = inr (
    session-passes_none order a.sessions.items last n line so.last_are here behind,
    time-passes order a.times.items n line next p
        (latest-next order a.times.items n line latest next so.latest_is here w) ends,
  );
}

pub seen-whole : (order : List ℕ) (a : Asked) (n : ℕ) (latest : Option Began) (last : List (Option ℕ))
    → length order ≤ n → AreSeen order a n latest last
    → KeepsRealTime order a.times.items × KeepsSessions order a.sessions.items
seen-whole order a n latest last all so = (
  keeps-whole (IsBefore a.times.items) order n all so.in_time,
  keeps-whole (IsEarlier a.sessions.items) order n all so.in_sessions,
)

pub unkept-breaks : (order : List ℕ) (a : Asked) (u : Unkept) → IsFirstUnkept order a u
    → KeepsRealTime order a.times.items × KeepsSessions order a.sessions.items → ⊥
unkept-breaks order a u first keeps = elim first.passes [
  | inl s ↦ breaks (IsEarlier a.sessions.items) order u.place u.line u.other first.at s.among
      (record { session = s.session; first_at = s.own; second_at = s.of_other; earlier = s.earlier }) keeps.1
  | inr (none, t) ↦ breaks (IsBefore a.times.items) order u.place u.line u.other first.at t.among
      (record { a = t.ran; b = t.other_ran; first_at = t.own; second_at = t.of_other; before = t.before }) keeps.0
]

-- the line was noted as the last of its session
pub noted-last : (sessions old wide : List (Option ℕ)) (line session : ℕ)
    → slice_get sessions line ≡ Some (Some session) → session < length wide
    → ((s before : ℕ) → slice_get wide s ≡ Some (Some before) ↔ slice_get old s ≡ Some (Some before))
    → ComesLast sessions old line (set wide session (Some line))
noted-last sessions old wide line session own within same = record {
  own = λ s at.
      let is : session ≡ s = same_Some session s (same_Some (Some session) (Some s) (sym own ∙ at)) in
      ap (slice_get (set wide session (Some line))) (sym is) ∙ get-set_here wide session (Some line) within;
  others = λ s before apart.
      let elsewhere =
      get_set_elsewhere wide session s (Some line) (λ e. apart (own ∙ ap (λ k. Some (Some k)) (sym e))) in
      (λ at. (same s before).0 (sym elsewhere ∙ at), λ at. elsewhere ∙ (same s before).1 at);
}
