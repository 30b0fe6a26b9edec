-- What is told of a numbered history answers the bytes that spell it.
use Rattle.std.proofs.Common.{◌≡◌, ℕ, Bool, true, false, List, ◌++◌, map, take, refl, sym, ap, ap₂, ◌∙◌, subst, inl, inr}
use Rattle.json.specs.Json.{Json}
use Rattle.sgt_names.specs.declared.outcome.Outcome.{Outcome}
use Rattle.sgt_names.specs.declared.outcome.Outcome.TheVariants.{Yes, No, Unreadable}
use Rattle.sgt_names.proofs.Lists.{All-weaken, map_at}
use Rattle.sgt_names.proofs.Places.{All-from_at, All_at}
use Rattle.sgt_history.proofs.Renaming.{serves-on}
use Rattle.sgt_history.specs.Conflicts.{HaveConflict, IsAmong}
use Rattle.sgt_history.specs.History.{closed_of}
use Rattle.sgt_history.specs.Transaction.{Transaction, renamed, renamed_operation}
use Rattle.sgt_history.specs.declared.named.Conflict.{Conflict}
use Rattle.sgt_history.specs.declared.named.Graph.{Graph}
use Rattle.sgt_history.specs.declared.named.Graph.TheVariants.{Whole}
use Rattle.sgt_history_evidence.proofs.Renamed.{conflict-named_item, conflict-on, conflict_in-on, cycle-back, cycle-on, cycle_is-back, cycle_is-on, operation-on}
use Rattle.sgt_history_evidence.proofs.RenamedEvidence.{evidence-on}
use Rattle.sgt_history_evidence.proofs.RenamedFlaws.{faultless-on, first_fault-on}
use Rattle.sgt_history_text.specs.Name.{IsItem}
use Rattle.sgt_history_text.specs.Reading.{IsReading, nth}
use Rattle.sgt_history_text.specs.declared.reading.Reading.{Reading}
use Rattle.sgt_history_text.specs.declared.wanted.Wanted.{Wanted}
use Rattle.sgt_history_verdict.specs.Steps.{IsStep, IsToldBefore, Leads, lines_of}
use Rattle.sgt_history_verdict.specs.Verdict.{MayFollow}
use Rattle.sgt_history_verdict.specs.declared.step.Step.{Step}
use Rattle.sgt_check.specs.Answer.{IsAnswer, IsCycleTold, IsFaultTold, IsStepOf, IsYes, compactly}
use Rattle.sgt_check.specs.Rank.{AreRanks, IsShownBefore}
use Rattle.sgt_check.specs.Text.{aborted_of, committed_of, counts_text, cycle_text, fault_text, order_part, Spelling}
use Rattle.sgt_check.specs.Told.{IsCyclicTold, IsFaultyTold, IsSerialTold, IsTold, spelled}
use Rattle.sgt_check.specs.declared.naming.Naming.{Naming}
use Rattle.sgt_check.specs.declared.options.Options.{Options}
use Rattle.sgt_check.proofs.Shown.{Occurrence, apart_here, occurrence, shown_before, spelled_item}
use Rattle.sgt_check.proofs.Spelled.{aborted-same, committed-same, fault-same, numbered, spelled-is}

module _ (w : Wanted) (options : Options) (bytes : List ℕ) (r : Reading) (is : IsReading w bytes r) (n : Naming)
    (ids_are : n.ids ≡ r.ids) (items_are : n.items ≡ r.items) (values_are : n.values ≡ r.values) where
  -- the numbered history
  abbrev pub m : List (Transaction ℕ ℕ)
  m = closed_of r.history

  abbrev pub named : List (Transaction Json Json)
  named = map (renamed (nth is.items) (nth is.values)) m

  pub spelled_as : spelled n ≡ numbered is.ids is.items is.values
  spelled_as = spelled-is n is.ids is.items is.values (ids_are ∙ is.id_texts) (items_are ∙ is.item_texts) (values_are
      ∙ is.value_texts)

  follow-back : (written : List ℕ) (line : ℕ) → MayFollow named written line → MayFollow m written line
  follow-back written line may =
      let at = map_at (renamed (nth is.items) (nth is.values)) m line may.t may.committed.0 in
      record {
        t = at.0;
        committed = (at.1, ap (λ (u : Transaction Json Json). u.commits) at.2 ∙ may.committed.1);
        left = may.left;
        behind = λ from c. may.behind from (conflict_in-on (nth is.items) (nth is.values) m is.apart Whole from line c);
      }

  serial-answer : (text : List ℕ) → IsSerialTold options n m text → IsYes options bytes text
  serial-answer text a = record {
    ids = is.ids;
    h = named;
    spells = is.spells;
    order = a.order;
    serves = serves-on (nth is.items) (nth is.values) m is.apart a.order a.serves;
    least = λ place line other at may. a.least place line other at (follow-back (take place a.order) other may);
    text_is = a.text_is
        ∙ ap (λ (s : Spelling ℕ ℕ). counts_text (committed_of m) (aborted_of m) ++ order_part options.order s a.order)
        spelled_as
        ∙ ap₂ (λ (c d : ℕ). counts_text c d ++ order_part options.order (numbered is.ids is.items is.values) a.order)
        (sym (committed-same (nth is.items) (nth is.values) m)) (sym (aborted-same (nth is.items) (nth is.values) m))
        ∙ ordered options.order;
  }
    where
      ordered : (b : Bool)
          → counts_text (committed_of named) (aborted_of named) ++ order_part b (numbered is.ids is.items is.values)
          a.order
          ≡ counts_text (committed_of named) (aborted_of named) ++ order_part b (compactly is.ids) a.order
      ordered true = refl
      ordered false = refl

  pub faulty-answer : (text : List ℕ) → IsFaultyTold n m text → IsFaultTold bytes text
  faulty-answer text a =
      let f = a.fault in
      let told = a.told in
      record {
        ids = is.ids;
        h = named;
        spells = is.spells;
        line = f.line;
        flaw = f.flaw;
        place = f.place;
        first = first_fault-on (nth is.items) (nth is.values) m is.apart f.line f.flaw f.place a.first;
        t = renamed (nth is.items) (nth is.values) told.t;
        o = renamed_operation (nth is.items) (nth is.values) told.o;
        is = operation-on (nth is.items) (nth is.values) m is.apart f.line f.place told.t told.o told.is;
        evidence = told.evidence;
        behind = evidence-on (nth is.items) (nth is.values) m is.apart f.line f.place told.t told.o told.is f.flaw
            told.evidence told.behind;
        text_is = a.text_is ∙ ap (λ (s : Spelling ℕ ℕ). fault_text s m f.line f.flaw told.o told.evidence) spelled_as
            ∙ sym (fault-same (nth is.items) (nth is.values) (compactly is.ids) m f.line f.flaw told.o told.evidence);
      }

  pub step-on : {g : Graph} (s : Step) → IsStep m g s → IsStepOf named (nth is.items) g s
  step-on s step = record {
    among = step.among;
    conflict = conflict-on (nth is.items) (nth is.values) m is.apart s.kind s.from s.to s.item s.from_version
        s.to_version step.conflict;
  }

  pub shown-first : (g : Graph) (ranks : List ℕ) → AreRanks n.items ranks → (s : Step) → IsStep m g s
      → ((t : Step) → IsStep m g t → Leads t s.from s.to → IsToldBefore ranks s t)
      → (kind : Conflict) (x : Json) (v w : ℕ) → IsAmong g kind → HaveConflict named kind s.from s.to x v w
      → IsShownBefore s.kind (nth is.items s.item) s.from_version kind x v
  shown-first g ranks ranks_are s step told kind x v w among c =
      let old = conflict-named_item (nth is.items) (nth is.values) m is.apart kind s.from s.to x v w c in
      let t : Step = record { kind = kind; from = s.from; to = s.to; item = old.0; from_version = v; to_version = w } in
      let here = conflict-on (nth is.items) (nth is.values) m is.apart s.kind s.from s.to s.item s.from_version
      s.to_version step.conflict in
      let item : (y : Json) → Occurrence named y → IsItem y =
      λ y oc. spelled_item is.spells.lines is.ids named y is.spells.spell oc in
      let one = item (nth is.items s.item)
      (occurrence named s.kind s.from s.to (nth is.items s.item) s.from_version s.to_version here) in
      let two = item x (occurrence named kind s.from s.to x v w c) in
      subst (λ (y : Json). IsShownBefore s.kind (nth is.items s.item) s.from_version kind y v) old.2
      (shown_before n.items is.items ranks (items_are ∙ is.item_texts) ranks_are s t one (subst IsItem (sym old.2) two)
      (apart_here (nth is.items) (nth is.values) m is.apart s.item old.0
      (occurrence m s.kind s.from s.to s.item s.from_version s.to_version step.conflict)
      (occurrence m kind s.from s.to old.0 v w old.1))
      (told t (record { among = among; conflict = old.1 }) (refl, refl)))

  pub cyclic-answer : (text : List ℕ) → IsCyclicTold n m text → IsCycleTold bytes text
  cyclic-answer text a = record {
    ids = is.ids;
    h = named;
    spells = is.spells;
    faultless = faultless-on (nth is.items) (nth is.values) m is.apart a.faultless;
    graph = a.graph;
    has = cycle-on (nth is.items) (nth is.values) m is.apart a.graph a.graph_is.has;
    least = λ less below cycle. a.graph_is.least less below
        (cycle-back (nth is.items) (nth is.values) m is.apart less cycle);
    items = is.items;
    steps = a.steps;
    are = record {
      some = a.shown.are.some;
      each = All-weaken (IsStep m a.graph) (IsStepOf named (nth is.items) a.graph) a.steps (λ s step. step-on s step)
          a.shown.are.each;
      onward = a.shown.are.onward;
    };
    is = cycle_is-on (nth is.items) (nth is.values) m is.apart a.graph (lines_of a.steps) a.shown.cycle_is.is;
    first = λ other c. a.shown.cycle_is.first other (cycle_is-back (nth is.items) (nth is.values) m is.apart a.graph other c);
    shown = All-from_at (λ (s : Step). (kind : Conflict) (x : Json) (v w : ℕ) → IsAmong a.graph kind
        → HaveConflict named kind s.from s.to x v w
        → IsShownBefore s.kind (nth is.items s.item) s.from_version kind x v)
        a.steps
        (λ place s at. shown-first a.graph a.shown.ranks a.shown.ranks_are s (All_at (IsStep m a.graph) a.steps place s a.shown.are.each at)
        (All_at (λ (s : Step). (t : Step) → IsStep m a.graph t → Leads t s.from s.to → IsToldBefore a.shown.ranks s t)
        a.steps place s a.shown.told_first at));
    text_is = a.text_is ∙ ap (λ (s : Spelling ℕ ℕ). cycle_text s a.steps) spelled_as;
  }

  pub told-answer : (outcome : Outcome) (text : List ℕ) → IsTold options n m outcome text
      → IsAnswer options bytes outcome text
  told-answer Yes text a = serial-answer text a
  told-answer No text (inl a) = inl (faulty-answer text a)
  told-answer No text (inr a) = inr (cyclic-answer text a)
  told-answer Unreadable text a = absurd a
