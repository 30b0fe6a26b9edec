-- What is kept of all lines is a reading of the bytes that spell them.
use Rattle.std.proofs.Common.{◌≡◌, ℕ, ◌+◌, ◌-◌, ◌≤◌, suc, List, [], ◌∷◌, ◌++◌, map, length, take, drop, slice_get, Option, Some, None, IfSome, All, Vec, refl, sym, ap, ◌∙◌, subst, arith}
use Rattle.std.specs.Global.{Global}
use Rattle.std.specs.List.{AllByRecursion}
use Rattle.std.proofs.lemmas.List.{take-append-drop, drop-drop}
use Rattle.std.proofs.lemmas.List.Elements.{All-from_recursion}
use Rattle.std.proofs.lemmas.Option.{same_Some}
use Rattle.json.specs.Json.{Json}
use Rattle.sgt_names.proofs.Lists.{AllByRecursion-append}
use Rattle.sgt_history.specs.Cut.{cut, end_of, EndsRise}
use Rattle.sgt_history.specs.History.{closed_of, open_of}
use Rattle.sgt_history.specs.Serial.{KeepApart}
use Rattle.sgt_history.specs.Transaction.{Transaction, renamed}
use Rattle.sgt_history.specs.declared.history.Line.{Line}
use Rattle.sgt_history.specs.declared.history.Operation.{Operation}
use Rattle.sgt_history_time.specs.declared.times.Times.{Times}
use Rattle.sgt_history_text.specs.Built.{AreMoments, AreSessions, IsBuilt, NamesHistory, NamesOperations}
use Rattle.sgt_history_text.specs.Moment.{Tell}
use Rattle.sgt_history_text.specs.Reading.{IsReading, IsStop, IsToldOf, IsWithin, nth}
use Rattle.sgt_history_text.specs.Text.{Spells, SpellsWith}
use Rattle.sgt_history_text.specs.declared.building.Builder.{Builder}
use Rattle.sgt_history_text.specs.declared.moments.Moments.{Moments}
use Rattle.sgt_history_text.specs.declared.reading.HistoryText.TheVariants.{Read}
use Rattle.sgt_history_text.specs.declared.reading.Reading.{Reading}
use Rattle.sgt_history_text.specs.declared.reading.Stop.TheVariants.{Ended}
use Rattle.sgt_history_text.specs.declared.wanted.Wanted.{Wanted}
use Rattle.sgt_history_text.proofs.Going.{each-same}
use Rattle.sgt_history_text.proofs.Named.{history_length, kept_apart, operation_within, renamed_history-is}

-- ---- the operations of all lines, one behind another

-- each line ends behind the one before
abbrev Rise : ℕ → List Line → Type 0
Rise from [] = Unit {0}
Rise from (l ∷ ls) = (from ≤ l.end) × Rise l.end ls

rise_from : (from : ℕ) (lines : List Line) → EndsRise lines → ((l : Line) → slice_get lines 0 ≡ Some l → from ≤ l.end)
    → Rise from lines
rise_from from [] rise first = tt
rise_from from (l ∷ []) rise first = (first l refl, tt)
rise_from from (l ∷ m ∷ ls) rise first = (
  first l refl,
  rise_from l.end (m ∷ ls) (λ i j d le lt. rise (suc i) (suc j) d (omega arith) (omega arith))
      (λ k e. subst (λ x. l.end ≤ x.end) (same_Some m k e) (rise 0 1 l (omega arith) (omega arith))),
)

taken_all : (n : ℕ) (xs : List (Operation ℕ ℕ)) → take n xs ++ drop n xs ≡ xs
taken_all n xs = take-append-drop n xs

sum : (from end : ℕ) → from ≤ end → from + (end - from) ≡ end
sum from end h = omega arith

dropped : (from end : ℕ) (ops : List (Operation ℕ ℕ)) → from ≤ end → drop (end - from) (drop from ops) ≡ drop end ops
dropped from end ops h = drop-drop (end - from) from ops ∙ ap (λ n. drop n ops) (sum from end h)

module _ (P : Operation ℕ ℕ → Type 0) where
  -- what all transactions' operations have, and those behind them, all have
  all_cut : (from : ℕ) (lines : List Line) (ops : List (Operation ℕ ℕ)) → Rise from lines
      → AllByRecursion (λ t. AllByRecursion P t.operations) (cut from lines ops)
      → AllByRecursion P (drop (end_of from lines) ops) → AllByRecursion P (drop from ops)
  all_cut from [] ops rise each rest = rest
  all_cut from (l ∷ ls) ops rise each rest =
      let later = all_cut l.end ls ops rise.1 each.1 rest in
      subst (AllByRecursion P)
      (ap (λ t. take (l.end - from) (drop from ops) ++ t) (sym (dropped from l.end ops rise.0))
      ∙ taken_all (l.end - from) (drop from ops))
      (AllByRecursion-append P (take (l.end - from) (drop from ops)) (drop l.end ops) each.0 later)

module _ (items values : List Json) where
  operations_within : (os : List (Operation ℕ ℕ)) (ps : List (Operation Json Json)) → NamesOperations items values os ps
      → AllByRecursion (IsWithin (length items) (length values)) os
  operations_within [] ps h = tt
  operations_within (o ∷ os) [] h = absurd h
  operations_within (o ∷ os) (p ∷ ps) h = (operation_within items values o p h.0, operations_within os ps h.1)

  history_within : (ts : List (Transaction ℕ ℕ)) (us : List (Transaction Json Json)) → NamesHistory items values ts us
      → AllByRecursion (λ t. AllByRecursion (IsWithin (length items) (length values)) t.operations) ts
  history_within [] us h = tt
  history_within (t ∷ ts) [] h = absurd h
  history_within (t ∷ ts) (u ∷ us) h = (operations_within t.operations u.operations h.1, history_within ts us h.2)

length-cut : (from : ℕ) (lines : List Line) (ops : List (Operation ℕ ℕ)) → length (cut from lines ops) ≡ length lines
length-cut from [] ops = refl
length-cut from (l ∷ ls) ops = ap suc (length-cut l.end ls ops)

-- the bytes spell the same history under another name for it, and its lines tell the same
renamed_spells : (w : Wanted) (bytes : List ℕ) (ids : List Json) (h g : List (Transaction Json Json))
    (times : List (Option Times)) (sessions : List (Option Json))
    → h ≡ g → SpellsWith w bytes ids h times sessions → SpellsWith w bytes ids g times sessions
renamed_spells w bytes ids h g times sessions same s = subst (λ k. SpellsWith w bytes ids k times sessions) same s

pub is_reading : (w : Wanted) (bytes : List ℕ) (b : Builder) (m : Moments) (r : Reading) (ids : List Json)
    (h : List (Transaction Json Json))
    → EndsRise b.history.lines.items → IsBuilt b ids h [] → (spells : Spells bytes ids h)
    → AreMoments w m spells.lines h
    → r.history ≡ b.history → r.ids ≡ b.ids → r.items ≡ b.items → r.values ≡ b.values
    → r.times ≡ m.times → r.sessions ≡ m.sessions → r.session_names ≡ m.names → IsReading w bytes r
is_reading w bytes b m r ids h rising built spells moments same_history same_ids same_items same_values same_times
    same_sessions same_names =
    let whole =
    renamed_spells w bytes ids h (map (renamed (nth built.items) (nth built.values)) (closed_of r.history))
    m.times.items moments.sessions
    (renamed_history-is built.items built.values (closed_of b.history) h built.closed
    ∙ ap (λ g. map (renamed (nth built.items) (nth built.values)) (closed_of g)) (sym same_history))
    (record { spells = spells; tell = moments.tell }) in
    record {
      ids = ids;
      items = built.items;
      values = built.values;
      spells = whole.spells;
      apart = subst (λ g. KeepApart (nth built.items) (nth built.values) (closed_of g)) (sym same_history)
          (kept_apart built.items built.values (closed_of b.history) h built.closed built.items_kept.once
          built.values_kept.once);
      id_texts = same_ids ∙ built.ids_kept.texts_are;
      item_texts = same_items ∙ built.items_kept.texts_are;
      value_texts = same_values ∙ built.values_kept.texts_are;
      count = each-same spells.lines ids h spells.spell
          ∙ sym (history_length built.items built.values (closed_of b.history) h built.closed)
          ∙ length-cut 0 b.history.lines.items b.history.operations.items
          ∙ ap (λ g. length g.lines.items) (sym same_history);
      within = subst (λ g. All (IsWithin (length built.items) (length built.values)) g.operations.items)
          (sym same_history)
          (All-from_recursion _ _
          (all_cut (IsWithin (length built.items) (length built.values)) 0 b.history.lines.items
          b.history.operations.items
          (rise_from 0 b.history.lines.items rising (λ l e. omega arith))
          (history_within built.items built.values (closed_of b.history) h built.closed)
          (operations_within built.items built.values (open_of b.history) [] built.opened)));
      sessions = moments.sessions;
      tell = subst (λ (ts : Vec (Option Times) Global). Tell w whole.spells.lines
          (map (renamed (nth built.items) (nth built.values)) (closed_of r.history)) ts.items moments.sessions)
          (sym same_times) whole.tell;
      sessions_are = subst (λ (texts : List (List ℕ)). AreSessions texts r.sessions.items moments.sessions)
          (sym same_names)
          (subst (λ (ns : Vec (Option ℕ) Global). AreSessions m.names ns.items moments.sessions) (sym same_sessions)
          moments.sessions_are);
    }

-- ---- what is told of the reader's bytes

pub told_reading : (w v : Wanted) (told : Option (List ℕ)) (b : Builder) (m : Moments) (r : Reading) → v ≡ w
    → IsStop v told b m Ended
    → ((u : Wanted) (bytes : List ℕ) (ids : List Json) (h : List (Transaction Json Json)) → IsBuilt b ids h []
    → (spells : Spells bytes ids h) → AreMoments u m spells.lines h → IsReading u bytes r)
    → IfSome told (λ bytes. IsToldOf w bytes (Read r))
told_reading w v None b m r same stop reads = tt
told_reading w v (Some bytes) b m r same (ids, h, built, known) reads =
    subst (λ (u : Wanted). IsReading u bytes r) same (reads v bytes ids h built known.0 known.1)
