-- What lines tell, with that of one line more.
use Rattle.std.proofs.Common.{◌≡◌, ℕ, Bool, true, false, List, [], ◌∷◌, ◌++◌, Option, Some, None, refl, sym, ap, ◌∙◌, subst}
use Rattle.json.specs.Json.{Json}
use Rattle.sgt_history.specs.Transaction.{Transaction}
use Rattle.sgt_history_time.specs.declared.times.Times.{Times}
use Rattle.sgt_history_text.specs.Built.{AreMoments, AreSessions, IsNumberedValue, NamesEach, NamesValue}
use Rattle.sgt_history_text.specs.Moment.{AreEntries, AreTold, HasSession, HasTimes, IsEntry, IsWantedEntry, Tell, with_entry}
use Rattle.sgt_history_text.specs.declared.moments.Moments.{Moments}
use Rattle.sgt_history_text.specs.declared.wanted.Wanted.{Wanted}
use Rattle.sgt_history_text.proofs.Grown.{value_named}
use Rattle.sgt_history_text.proofs.Kept.{kept_none}
use Rattle.sgt_history_text.proofs.Named.{value_more}

-- ---- entries

module _ {E : Type 0} (Has : List ℕ → E → Type 0) where
  pub entries-push : (lines : List (List ℕ)) (h : List (Transaction Json Json)) (es : List (Option E)) (line : List ℕ)
      (t : Transaction Json Json) (e : Option E)
      → AreEntries Has lines h es → IsEntry (Has line) t.commits e
      → AreEntries Has (lines ++ line ∷ []) (h ++ t ∷ []) (es ++ e ∷ [])
  entries-push [] [] [] line t e are is = (is, tt)
  entries-push [] [] (x ∷ es) line t e are is = absurd are
  entries-push [] (u ∷ us) es line t e are is = absurd are
  entries-push (l ∷ ls) [] es line t e are is = absurd are
  entries-push (l ∷ ls) (u ∷ us) [] line t e are is = absurd are
  entries-push (l ∷ ls) (u ∷ us) (x ∷ es) line t e are is = (are.0, entries-push ls us es line t e are.1 is)

  pub told-none : (wanted : Bool) → AreTold Has wanted [] [] []
  told-none true = tt
  told-none false = refl

  pub told-push : (wanted : Bool) (lines : List (List ℕ)) (h : List (Transaction Json Json)) (es : List (Option E))
      (line : List ℕ) (t : Transaction Json Json)
      (e : Option E) → AreTold Has wanted lines h es → IsWantedEntry (Has line) wanted t.commits e
      → AreTold Has wanted (lines ++ line ∷ []) (h ++ t ∷ []) (with_entry wanted es e)
  told-push true lines h es line t e are is = entries-push lines h es line t e are is
  told-push false lines h es line t e are is = are

-- ---- numbers of sessions

each-more : (names more : List Json) (ns : List (Option ℕ)) (es : List (Option Json)) → NamesEach names ns es
    → NamesEach (names ++ more) ns es
each-more names more [] [] h = tt
each-more names more [] (e ∷ es) h = absurd h
each-more names more (n ∷ ns) [] h = absurd h
each-more names more (n ∷ ns) (e ∷ es) h = (value_more names more n e h.0, each-more names more ns es h.1)

each-named : (names : List Json) (ns : List (Option ℕ)) (es : List (Option Json)) (n : Option ℕ) (e : Option Json)
    → NamesEach names ns es → NamesValue names n e
    → NamesEach names (ns ++ n ∷ []) (es ++ e ∷ [])
each-named names [] [] n e h k = (k, tt)
each-named names [] (x ∷ es) n e h k = absurd h
each-named names (m ∷ ns) [] n e h k = absurd h
each-named names (m ∷ ns) (x ∷ es) n e h k = (h.0, each-named names ns es n e h.1 k)

pub sessions-none : AreSessions [] [] []
sessions-none = record { names = []; kept = kept_none; each = tt }

pub sessions-push : (texts new : List (List ℕ)) (ns : List (Option ℕ)) (es : List (Option Json)) (n : Option ℕ)
    (e : Option Json) (s : AreSessions texts ns es)
    → IsNumberedValue s.names e new n → AreSessions new (ns ++ n ∷ []) (es ++ e ∷ [])
sessions-push texts new ns es n e s numbered =
    let value = value_named s.names e new n numbered in
    record {
      names = s.names ++ value.more;
      kept = value.kept;
      each = each-named (s.names ++ value.more) ns es n e (each-more s.names value.more ns es s.each) value.named;
    }

-- ---- all of it

pub moments-none : (m : Moments) → m.names ≡ [] → m.times.items ≡ [] → m.sessions.items ≡ []
    → AreMoments m.wanted m [] []
moments-none m no_names no_times no_sessions = record {
  sessions = [];
  wanted_is = refl;
  sessions_are = subst (λ (texts : List (List ℕ)). AreSessions texts m.sessions.items []) (sym no_names)
      (subst (λ (ns : List (Option ℕ)). AreSessions [] ns []) (sym no_sessions) sessions-none);
  tell = record {
    timed = subst (λ (es : List (Option Times)). AreTold HasTimes m.wanted.real_time [] [] es) (sym no_times)
        (told-none HasTimes m.wanted.real_time);
    sessioned = told-none HasSession m.wanted.sessions;
  };
}

pub moments-push : (w : Wanted) (m m' : Moments) (lines : List (List ℕ)) (h : List (Transaction Json Json))
    (line : List ℕ) (t : Transaction Json Json)
    (x : Option Times) (s : Option Json) (are : AreMoments w m lines h)
    → IsWantedEntry (HasTimes line) w.real_time t.commits x
    → IsWantedEntry (HasSession line) w.sessions t.commits s → m'.wanted ≡ m.wanted
    → m'.times.items ≡ with_entry m.wanted.real_time m.times.items x
    → AreSessions m'.names m'.sessions.items (with_entry m.wanted.sessions are.sessions s)
    → AreMoments w m' (lines ++ line ∷ []) (h ++ t ∷ [])
moments-push w m m' lines h line t x s are times_are session_is same more_times more_sessions = record {
  sessions = with_entry m.wanted.sessions are.sessions s;
  wanted_is = same ∙ are.wanted_is;
  sessions_are = more_sessions;
  tell = record {
    timed = subst (λ (es : List (Option Times)). AreTold HasTimes w.real_time (lines ++ line ∷ []) (h ++ t ∷ []) es)
        (ap (λ (v : Wanted). with_entry v.real_time m.times.items x) (sym are.wanted_is) ∙ sym more_times)
        (told-push HasTimes w.real_time lines h m.times.items line t x are.tell.timed times_are);
    sessioned =
        subst (λ (v : Wanted). AreTold HasSession w.sessions (lines ++ line ∷ []) (h ++ t ∷ [])
        (with_entry v.sessions are.sessions s)) (sym are.wanted_is)
        (told-push HasSession w.sessions lines h are.sessions line t s are.tell.sessioned session_is);
  };
}
