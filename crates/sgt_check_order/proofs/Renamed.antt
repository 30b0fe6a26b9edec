-- What is told of an order and a numbered history is told of the history with its names.
use Rattle.std.proofs.Common.{◌≡◌, ℕ, zero, suc, ◌+◌, Bool, true, false, List, [], ◌∷◌, ◌++◌, Option, Some, None, map, length, take, codes, arith, refl, sym, ap, ap₂, ◌∙◌, subst, inl, inr}
use Rattle.std.specs.List.{AllByRecursion}
use Rattle.std.specs.Prelude.{slice_get, IfSome}
use Rattle.std.proofs.Math.Path.{fun_ext}
use Rattle.std.proofs.lemmas.List.{length-map}
use Rattle.std.proofs.lemmas.List.Elements.{All-from_recursion}
use Rattle.std.proofs.lemmas.Option.{same_Some, slice_get_within}
use Rattle.json.specs.Json.{Json}
use Rattle.sgt_names.specs.declared.outcome.Outcome.{Outcome}
use Rattle.sgt_names.specs.declared.outcome.Outcome.TheVariants.{Yes, No, Unreadable}
use Rattle.sgt_names.proofs.Lists.{map_at}
use Rattle.sgt_history.proofs.Renaming.{has-back, has-on, order-on, run-renamed, serves-on}
use Rattle.sgt_history.specs.History.{closed_of}
use Rattle.sgt_history.specs.Serial.{Follows, IsCommitted, KeepApart, RunsRight, run_of}
use Rattle.sgt_history.specs.Transaction.{Transaction, renamed, renamed_operation}
use Rattle.sgt_history.specs.declared.history.Operation.{Operation}
use Rattle.sgt_history_evidence.proofs.Renamed.{operation-on}
use Rattle.sgt_history_evidence.proofs.RenamedFlaws.{faultless-on}
use Rattle.sgt_history_kept.specs.declared.passed.Reason.{Reason}
use Rattle.sgt_history_kept.specs.declared.passed.Reason.TheVariants.{Session, Time}
use Rattle.sgt_history_text.specs.Ids.{AreIds}
use Rattle.sgt_history_text.specs.Moment.{AreEntries, AreTold, HasTimes, IsEntry}
use Rattle.sgt_history_text.specs.Name.{IsId}
use Rattle.sgt_history_text.specs.Reading.{IsReading, nth}
use Rattle.sgt_history_text.specs.Text.{SpellEach}
use Rattle.sgt_history_text.specs.declared.reading.Reading.{Reading}
use Rattle.sgt_history_text.specs.declared.wanted.Wanted.{Wanted}
use Rattle.sgt_history_time.specs.declared.times.Times.{Times}
use Rattle.sgt_history_time.specs.Kept.{IsEarlier}
use Rattle.sgt_history_time.specs.Serializable.{ServesKeeping}
use Rattle.sgt_check.proofs.Named.{faulty-answer}
use Rattle.sgt_check.proofs.Spelled.{aborted-same, committed-same, numbered, spelled-is, text-is}
use Rattle.sgt_check.specs.Answer.{compactly}
use Rattle.sgt_check.specs.Text.{Spelling, counts_text}
use Rattle.sgt_check.specs.Told.{spelled, text_at}
use Rattle.sgt_check_kept.specs.declared.setting.Setting.{Setting}
use Rattle.sgt_check_kept.proofs.Sessions.{earlier-back, of-session-on}
use Rattle.sgt_check_order.specs.Answer.{IsAnswer, IsBackTold, IsBreakTold, IsJudged, IsOrderJudged, IsServed, IsStrayTold}
use Rattle.sgt_check_order.specs.Kept.{AreKeptTo, IsReason, Kept, kept_by}
use Rattle.sgt_check_order.specs.Order.{IsFirstStray, IsStray}
use Rattle.sgt_check_order.specs.Run.{IsBreak, IsFirstBreak}
use Rattle.sgt_check_order.specs.Text.{back_text, break_text, reason_text}
use Rattle.sgt_check_order.specs.Told.{AreRuns, IsTold, kept_of}
use Rattle.sgt_names.proofs.Elements.{get-mapped}

-- ---- other names

module _ {I J V W : Type 0} (f : I → J) (g : V → W) (h : List (Transaction I V)) (apart : KeepApart f g h) where
  abbrev other : List (Transaction J W)
  other = map (renamed f g) h

  committed-on : (line : ℕ) (t : Transaction I V) → IsCommitted h line t → IsCommitted other line (renamed f g t)
  committed-on line t c = (get-mapped (renamed f g) h line t c.0, c.1)

  committed-back : (line : ℕ) (t : Transaction J W) → IsCommitted other line t
      → (u : Transaction I V) × IsCommitted h line u
  committed-back line t c =
      let old = map_at (renamed f g) h line t c.0 in
      (old.0, (old.1, ap (λ k. k.commits) old.2 ∙ c.1))

  stray-same : (ids : List Json) (before : List ℕ) (line : Option (List ℕ)) → IsStray h ids before line
      → IsStray other ids before line
  stray-same ids before None (number, t, committed, missing) =
      (number, renamed f g t, committed-on number t committed, missing)
  stray-same ids before (Some line) stray = λ number t names committed.
      let old = committed-back number t committed in
      stray number old.0 names old.1

  pub stray-on : (ids : List Json) (bytes : List ℕ) (number : ℕ) → IsFirstStray h ids bytes number
      → IsFirstStray other ids bytes number
  stray-on ids bytes number s = record {
    before = s.before;
    names = s.names;
    committed = λ k in_it. let c = s.committed k in_it in (renamed f g c.0, committed-on k c.0 c.1);
    once = s.once;
    stray = stray-same ids s.before _ s.stray;
    number_is = s.number_is;
  }

  module _ (order : List ℕ) where
    abbrev run : List (Operation I V)
    run = run_of h order

    abbrev named_run : List (Operation J W)
    named_run = map (renamed_operation f g) run

    follows-on : (p : ℕ) (o : Operation I V) → slice_get run p ≡ Some o → Follows run p o
        → Follows named_run p (renamed_operation f g o)
    follows-on p o at follows = record {
      read = λ e. has-on f g h apart order p p o.version o at (follows.read e);
      write = λ e. let b = follows.write e in (b.0, has-on f g h apart order p p b.0 o at b.1, b.2);
    }

    follows-back : (p : ℕ) (o : Operation I V) → slice_get run p ≡ Some o
        → Follows named_run p (renamed_operation f g o) → Follows run p o
    follows-back p o at follows = record {
      read = λ e. has-back f g h apart order p p o.version o at (follows.read e);
      write = λ e. let b = follows.write e in (b.0, has-back f g h apart order p p b.0 o at b.1, b.2);
    }

    break-same : (p : ℕ) (o : Operation I V) (found : ℕ) → IsBreak run p o found
        → IsBreak named_run p (renamed_operation f g o) found
    break-same p o found b = record {
      there = get-mapped (renamed_operation f g) run p o b.there;
      has = has-on f g h apart order p p found o b.there b.has;
      breaks = λ follows. b.breaks (follows-back p o b.there follows);
      before = λ earlier w lt at.
          let old = map_at (renamed_operation f g) run earlier w at in
          subst (λ (u : Operation J W). Follows named_run earlier u) old.2
          (follows-on earlier old.0 old.1 (b.before earlier old.0 lt old.1));
    }

    pub break-on : (line : ℕ) (o : Operation I V) (found : ℕ) → IsFirstBreak h order line o found
        → IsFirstBreak other order line (renamed_operation f g o) found
    break-on line o found b = record {
      place = b.place;
      in_order = b.in_order;
      at = b.at;
      t = renamed f g b.t;
      is = operation-on f g h apart line b.at b.t o b.is;
      breaks = subst (λ (l : List (Operation J W)). IsBreak l (length (run_of other (take b.place order)) + b.at)
          (renamed_operation f g o) found)
          (sym (run-renamed f g h apart order))
          (subst (λ n. IsBreak named_run (n + b.at) (renamed_operation f g o) found) (sym before)
          (break-same (length (run_of h (take b.place order)) + b.at) o found b.breaks));
    }
      where
        before : length (run_of other (take b.place order)) ≡ length (run_of h (take b.place order))
        before = ap length (run-renamed f g h apart (take b.place order))
            ∙ length-map (run_of h (take b.place order)) (renamed_operation f g)

    pub right-on : RunsRight run → RunsRight (run_of other order)
    right-on right = subst RunsRight (sym (run-renamed f g h apart order)) named-right
      where
        named-right : RunsRight named_run
        named-right p w at =
            let old = map_at (renamed_operation f g) run p w at in
            subst (λ (u : Operation J W). Follows named_run p u) old.2 (follows-on p old.0 old.1 (right p old.0 old.1))

-- ---- the ids of a text

each-id : (lines : List (List ℕ)) (ids : List Json) (h : List (Transaction Json Json)) → SpellEach lines ids h
    → AllByRecursion IsId ids
each-id [] [] h s = tt
each-id [] (id ∷ ids) h s = absurd s
each-id (line ∷ lines) [] h s = absurd s
each-id (line ∷ lines) (id ∷ ids) [] s = absurd s
each-id (line ∷ lines) (id ∷ ids) (t ∷ h) s = (s.2.id_is, each-id lines ids h s.3)

-- ---- when transactions ran

entry-has : {E : Type 0} (Is : E → Type 0) (commits : Bool) (o : Option E) (e : E) → IsEntry Is commits o → o ≡ Some e
    → Is e
entry-has Is true (Some x) e is same = subst Is (same_Some x e same) is
entry-has Is true None e is same = absurd is
entry-has Is false (Some x) e is same = absurd is
entry-has Is false None e is same = absurd cc

entries-run : (lines : List (List ℕ)) (h : List (Transaction Json Json)) (es : List (Option Times))
    → AreEntries HasTimes lines h es → AreRuns es
entries-run [] [] [] are k e at = absurd (omega (arith, slice_get_within [] k (Some e) at))
entries-run [] [] (x ∷ es) are k e at = absurd are
entries-run [] (t ∷ ts) es are k e at = absurd are
entries-run (line ∷ lines) [] es are k e at = absurd are
entries-run (line ∷ lines) (t ∷ ts) [] are k e at = absurd are
entries-run (line ∷ lines) (t ∷ ts) (x ∷ es) are zero e at =
    (entry-has (HasTimes line) t.commits x e are.0 (same_Some x (Some e) at)).in_order
entries-run (line ∷ lines) (t ∷ ts) (x ∷ es) are (suc k) e at = entries-run lines ts es are.1 k e at

told-run : (wanted : Bool) (lines : List (List ℕ)) (h : List (Transaction Json Json)) (es : List (Option Times))
    → AreTold HasTimes wanted lines h es → AreRuns es
told-run true lines h es are k e at = entries-run lines h es are k e at
told-run false lines h es none k e at =
    absurd (omega (
      arith,
      slice_get_within [] k (Some e) (ap (λ (xs : List (Option Times)). slice_get xs k) (sym none)
          ∙ at),
    ))

-- ---- what is told

-- how items and values are written doesn't count in steps
back-same : (ids items values : List Json) (name : ℕ → List ℕ) (line other : ℕ) (r : Reason)
    → reason_text (numbered ids items values) name line other r ≡ reason_text (compactly ids) name line other r
back-same ids items values name line second (Session n) = refl
back-same ids items values name line second (Time done begin) = refl

module _ (w : Wanted) (order bytes : List ℕ) (r : Reading) (is : IsReading w bytes r) where
  pub ids-are : AreIds r.ids is.ids
  ids-are = record {
    texts_are = is.id_texts;
    once = is.spells.apart;
    each = All-from_recursion _ _ (each-id is.spells.lines is.ids _ is.spells.spell);
  }

  abbrev setting : Setting
  setting = record {
    naming = record { ids = r.ids; items = r.items; values = r.values };
    sessions = r.session_names;
    asked = record { times = r.times; sessions = r.sessions };
  }

  -- the numbered history
  abbrev m : List (Transaction ℕ ℕ)
  m = closed_of r.history

  abbrev named : List (Transaction Json Json)
  named = map (renamed (nth is.items) (nth is.values)) m

  abbrev sessions_named : List Json
  sessions_named = is.sessions_are.names

  abbrev kept : Kept Json
  kept = kept_by r.times.items is.sessions sessions_named

  pub runs : AreRuns r.times.items
  runs = told-run w.real_time is.spells.lines named r.times.items is.tell.timed

  spelled_as : spelled setting.naming ≡ numbered is.ids is.items is.values
  spelled_as = spelled-is setting.naming is.ids is.items is.values is.id_texts is.item_texts is.value_texts

  earlier : (a b : ℕ) → IsEarlier is.sessions a b → IsEarlier r.sessions.items a b
  earlier a b e =
      earlier-back sessions_named r.sessions.items is.sessions is.sessions_are.each is.sessions_are.kept.once a b e

  -- ---- what is kept

  keeps-on : (o : List ℕ) → ServesKeeping m r.times.items r.sessions.items o
      → ServesKeeping named r.times.items is.sessions o
  keeps-on o keeps = record {
    serves = serves-on (nth is.items) (nth is.values) m is.apart o keeps.serves;
    in_time = keeps.in_time;
    in_sessions = λ i j first second at at' e. keeps.in_sessions i j first second at at' (earlier first second e);
  }

  before-on : (o : List ℕ) (n : ℕ) → AreKeptTo (kept_of setting) o n → AreKeptTo kept o n
  before-on o n a = record {
    in_time = a.in_time;
    in_sessions = λ place line other lt at among e. a.in_sessions place line other lt at among (earlier line other e);
  }

  reason-on : (o : List ℕ) (place line other : ℕ) (reason : Reason)
      → IsReason (kept_of setting) o place line other reason → IsReason kept o place line other reason
  reason-on o place line second (Session n) g = record {
    of_session = of-session-on sessions_named r.sessions.items is.sessions is.sessions_are.each line second n
        g.of_session;
    among = g.among;
    greatest = λ x among e. g.greatest x among (earlier line x e);
  }
  reason-on o place line second (Time done begin) (none, latest) =
      (λ x among e. none x among (earlier line x e), latest)

  -- ---- the answer

  served : (text : List ℕ) → IsServed order is.ids (kept_of setting) m text → IsServed order is.ids kept named text
  served text a = record {
    order = a.order;
    names = a.names;
    keeps = keeps-on a.order a.keeps;
    text_is = a.text_is
        ∙ ap₂ (λ (c d : ℕ). counts_text c d) (sym (committed-same (nth is.items) (nth is.values) m))
        (sym (aborted-same (nth is.items) (nth is.values) m));
  }

  stray : (text : List ℕ) → IsStrayTold order is.ids m text → IsStrayTold order is.ids named text
  stray text a = record {
    faultless = faultless-on (nth is.items) (nth is.values) m is.apart a.faultless;
    number = a.number;
    first = stray-on (nth is.items) (nth is.values) m is.apart is.ids order a.number a.first;
    text_is = a.text_is;
  }

  broken : (text : List ℕ) → IsBreakTold order is.ids (spelled setting.naming) (kept_of setting) m text
      → IsBreakTold order is.ids (compactly is.ids) kept named text
  unfolding break-on
  broken text a = record {
    faultless = faultless-on (nth is.items) (nth is.values) m is.apart a.faultless;
    order = a.order;
    names = a.names;
    ordered = order-on (nth is.items) (nth is.values) m is.apart a.order a.ordered;
    line = a.line;
    o = renamed_operation (nth is.items) (nth is.values) a.o;
    found = a.found;
    first = break-on (nth is.items) (nth is.values) m is.apart a.order a.line a.o a.found a.first;
    before = before-on a.order a.first.place a.before;
    text_is = a.text_is ∙ ap (λ (s : Spelling ℕ ℕ). break_text s a.line a.o a.found) spelled_as;
  }

  back : (text : List ℕ) → IsBackTold order is.ids (spelled setting.naming) (kept_of setting) m text
      → IsBackTold order is.ids (compactly is.ids) kept named text
  back text a = record {
    faultless = faultless-on (nth is.items) (nth is.values) m is.apart a.faultless;
    order = a.order;
    names = a.names;
    ordered = order-on (nth is.items) (nth is.values) m is.apart a.order a.ordered;
    u = a.u;
    first = record {
      at = a.first.at;
      before = before-on a.order a.u.place a.first.before;
      reason = reason-on a.order a.u.place a.u.line a.u.other a.u.reason a.first.reason;
    };
    right = right-on (nth is.items) (nth is.values) m is.apart (take (a.u.place + 1) a.order) a.right;
    text_is = a.text_is
        ∙ ap (λ (s : Spelling ℕ ℕ). back_text s (text_at r.session_names) a.u) spelled_as
        ∙ ap (λ (name : ℕ → List ℕ). back_text (numbered is.ids is.items is.values) name a.u)
        (fun_ext (text-is r.session_names sessions_named is.sessions_are.kept.texts_are))
        ∙ ap (λ (line : List ℕ). codes "no order\n" ++ line) (back-same is.ids is.items is.values kept.name a.u.line a.u.other a.u.reason);
  }

  judged : (outcome : Outcome) (text : List ℕ)
      → IsJudged order is.ids (spelled setting.naming) (kept_of setting) m outcome text
      → IsJudged order is.ids (compactly is.ids) kept named outcome text
  judged Yes text a = served text a
  judged No text (inl a) = inl (stray text a)
  judged No text (inr (inl a)) = inr (inl (broken text a))
  judged No text (inr (inr a)) = inr (inr (back text a))
  judged Unreadable text a = absurd a

  answered : (outcome : Outcome) (text : List ℕ)
      → IsJudged order is.ids (spelled setting.naming) (kept_of setting) m outcome text
      → IsOrderJudged w order bytes outcome text
  answered outcome text a = record {
    ids = is.ids;
    h = named;
    times = r.times.items;
    sessions = is.sessions;
    spells = record { spells = is.spells; tell = is.tell };
    names = sessions_named;
    judged = judged outcome text a;
  }

  pub told : (outcome : Outcome) (text : List ℕ) → IsTold order is.ids setting m outcome text
      → IsAnswer w order bytes outcome text
  told Yes text a = answered Yes text a
  told No text (inl a) =
      inl (faulty-answer w (record { order = false }) bytes r is setting.naming refl refl refl text a)
  told No text (inr a) = inr (answered No text a)
  told Unreadable text a = absurd a

-- ---- of what a reader told

pub told-if : (w : Wanted) (lines : Option (List ℕ)) (bytes : List ℕ) (r : Reading) (is : IsReading w bytes r)
    (s : Setting)
    → s ≡ record {
      naming = record { ids = r.ids; items = r.items; values = r.values };
      sessions = r.session_names;
      asked = record { times = r.times; sessions = r.sessions };
    }
    → (outcome : Outcome) (text : List ℕ)
    → IfSome lines (λ order. IsTold order is.ids s (closed_of r.history) outcome text)
    → IfSome lines (λ order. IsAnswer w order bytes outcome text)
told-if w None bytes r is s same outcome text a = tt
told-if w (Some order) bytes r is s same outcome text a =
    told w order bytes r is outcome text
    (subst (λ (s : Setting). IsTold order is.ids s (closed_of r.history) outcome text) same a)
