-- What is told of a numbered history answers the bytes that spell it.
use Rattle.std.proofs.Common.{◌≡◌, ℕ, ◌<◌, ◌≤◌, Bool, true, false, List, [], ◌++◌, Option, Some, map, take, arith, refl, sym, ap, ap₂, ◌∙◌, subst, inl, inr, ◌⊎◌}
use Rattle.std.specs.List.{flat_map}
use Rattle.std.specs.Prelude.{slice_get}
use Rattle.std.proofs.Math.Path.{fun_ext}
use Rattle.json.specs.Json.{Json}
use Rattle.sgt_names.specs.declared.outcome.Outcome.{Outcome}
use Rattle.sgt_names.specs.declared.outcome.Outcome.TheVariants.{Yes, No, Unreadable}
use Rattle.sgt_names.proofs.Lists.{map_at}
use Rattle.sgt_history.proofs.Renaming.{serves-on}
use Rattle.sgt_history.specs.Conflicts.{ConflictIn, HaveConflict, IsCycle}
use Rattle.sgt_history.specs.History.{closed_of}
use Rattle.sgt_history.specs.Serial.{IsCommitted}
use Rattle.sgt_history.specs.Transaction.{Transaction, renamed}
use Rattle.sgt_history.specs.declared.named.Graph.TheVariants.{Whole}
use Rattle.sgt_history_evidence.proofs.Renamed.{conflict-named, conflict_in-on, cycle-back}
use Rattle.sgt_history_evidence.proofs.RenamedFlaws.{faultless-on}
use Rattle.sgt_history_kept.proofs.Rounds.{steps-cycle}
use Rattle.sgt_history_kept.specs.Least.{MayStandBehind}
use Rattle.sgt_history_kept.specs.FirstCycle.{IsFirstCycleOf}
use Rattle.sgt_history_kept.specs.Sooner.{IsCycleKeeping}
use Rattle.sgt_history_text.specs.Moment.{HasSession, HasTimes}
use Rattle.sgt_history_text.specs.Name.{compact}
use Rattle.sgt_history_text.specs.Reading.{IsReading, nth}
use Rattle.sgt_history_text.specs.Text.{SpellsWith}
use Rattle.sgt_history_text.specs.declared.reading.Reading.{Reading}
use Rattle.sgt_history_text.specs.declared.wanted.Wanted.{Wanted}
use Rattle.sgt_history_time.specs.declared.times.Times.{Times}
use Rattle.sgt_history_time.specs.Steps.{StandsBefore}
use Rattle.sgt_check.specs.Answer.{by_number, compactly}
use Rattle.sgt_check.specs.Rank.{AreRanks}
use Rattle.sgt_check.specs.Text.{Spelling, aborted_of, committed_of, counts_text, order_part}
use Rattle.sgt_check.specs.Told.{spelled, text_at}
use Rattle.sgt_check.specs.declared.naming.Naming.{Naming}
use Rattle.sgt_check.specs.declared.options.Options.{Options}
use Rattle.sgt_check.proofs.Named as plain
use Rattle.sgt_check.proofs.Spelled.{aborted-same, committed-same, numbered, text-is}
use Rattle.sgt_check_kept.specs.Answer.{AreLinksOf, IsKeptAnswer, IsKeptCycleTold, IsKeptYes, IsLinkOf}
use Rattle.sgt_check_kept.specs.Link.{IsLinkBetween}
use Rattle.sgt_check_kept.specs.Text.{class_text, kept_text, kind_text, link_text, read_writes, timed}
use Rattle.sgt_check_kept.specs.Told.{AreAsked, IsKeptSerialTold, IsKeptTold, IsLinksTold}
use Rattle.sgt_check_kept.specs.declared.link.Link.{Link}
use Rattle.sgt_check_kept.specs.declared.link.Link.TheVariants as link
use Rattle.sgt_check_kept.specs.declared.setting.Setting.{Setting}
use Rattle.sgt_check_kept.proofs.Committed.{told-commit}
use Rattle.sgt_check_kept.proofs.Sessions.{earlier-back, earlier-on, each-there, of-session-on}

-- how values are written doesn't count in steps
link-same : (ids items values : List Json) (name : ℕ → List ℕ) (l : Link)
    → link_text (numbered ids items values) name l ≡ link_text (by_number ids items) name l
link-same ids items values name (link.Conflict s) = refl
link-same ids items values name (link.Session from to session) = refl
link-same ids items values name (link.Time from to done begin) = refl

module _ (w : Wanted) (options : Options) (bytes : List ℕ) (r : Reading) (is : IsReading w bytes r) where
  -- the numbered history
  abbrev m : List (Transaction ℕ ℕ)
  m = closed_of r.history

  abbrev named : List (Transaction Json Json)
  named = map (renamed (nth is.items) (nth is.values)) m

  abbrev naming : Naming
  naming = record { ids = r.ids; items = r.items; values = r.values }

  abbrev setting : Setting
  setting = record {
    naming = naming;
    sessions = r.session_names;
    asked =
        record { times = r.times; sessions = r.sessions };
  }

  abbrev names : List Json
  names = is.sessions_are.names

  with_moments : SpellsWith w bytes is.ids named r.times.items is.sessions
  with_moments = record { spells = is.spells; tell = is.tell }

  -- ---- what is asked

  committed-back : (line : ℕ) → ((t : Transaction Json Json) × IsCommitted named line t)
      → (t : Transaction ℕ ℕ) × IsCommitted m line t
  committed-back line (t, (there, commits)) =
      let at = map_at (renamed (nth is.items) (nth is.values)) m line t there in
      (at.0, (at.1, ap (λ (u : Transaction Json Json). u.commits) at.2 ∙ commits))

  are-asked : AreAsked m setting.asked
  are-asked = record {
    timed = λ line x at. committed-back line
        (told-commit HasTimes w.real_time is.spells.lines named r.times.items is.tell.timed line x at);
    sessioned = λ line n at.
        let s = each-there names r.sessions.items is.sessions is.sessions_are.each line n at in
        committed-back line (told-commit HasSession w.sessions is.spells.lines named is.sessions is.tell.sessioned
        line s.j s.at);
  }

  stands-on : (times : List (Option Times)) (a b : ℕ) → StandsBefore m times r.sessions.items a b
      → StandsBefore named times is.sessions a b
  stands-on times a b (inl c) = inl (conflict_in-on (nth is.items) (nth is.values) m is.apart Whole a b c)
  stands-on times a b (inr (inl e)) =
      inr (inl (earlier-on names r.sessions.items is.sessions is.sessions_are.each a b e))
  stands-on times a b (inr (inr e)) = inr (inr e)

  conflict-back : (a b : ℕ) → ConflictIn named Whole a b → ConflictIn m Whole a b
  conflict-back a b c =
      let old = conflict-named (nth is.items) (nth is.values) m is.apart c.kind a b c.x c.v c.w c.conflict in
      record { kind = c.kind; among = c.among; x = old.0; v = c.v; w = c.w; conflict = old.1 }

  stands-back : (times : List (Option Times)) (a b : ℕ) → StandsBefore named times is.sessions a b
      → StandsBefore m times r.sessions.items a b
  stands-back times a b (inl c) = inl (conflict-back a b c)
  stands-back times a b (inr (inl e)) =
      inr (inl (earlier-back names r.sessions.items is.sessions is.sessions_are.each is.sessions_are.kept.once a b e))
  stands-back times a b (inr (inr e)) = inr (inr e)

  cycle-on : (times : List (Option Times)) (cycle : List ℕ) → IsCycle (StandsBefore m times r.sessions.items) cycle
      → IsCycle (StandsBefore named times is.sessions) cycle
  cycle-on times = steps-cycle (StandsBefore m times r.sessions.items) (StandsBefore named times is.sessions)
      (stands-on times)

  first-on : (times : List (Option Times)) (cycle : List ℕ)
      → IsFirstCycleOf (StandsBefore m times r.sessions.items) cycle
      → IsFirstCycleOf (StandsBefore named times is.sessions) cycle
  first-on times cycle told = record {
    is = cycle-on times cycle told.is;
    first = λ other c. told.first other
        (steps-cycle (StandsBefore named times is.sessions) (StandsBefore m times r.sessions.items) (stands-back times)
        other c);
  }

  kept_cycle-on : (cycle : List ℕ) → IsCycleKeeping m r.times.items r.sessions.items cycle
      → IsCycleKeeping named r.times.items is.sessions cycle
  kept_cycle-on cycle told = record {
    is = cycle-on r.times.items cycle told.is;
    first = elim told.first [
      | inl alone ↦ inl (first-on [] cycle alone)
      | inr both ↦ inr (
        λ other c. both.0 other
            (steps-cycle (StandsBefore named [] is.sessions) (StandsBefore m [] r.sessions.items) (stands-back []) other c),
        first-on r.times.items cycle both.1,
      )
    ];
  }

  -- ---- an order

  stand-back : (written : List ℕ) (line : ℕ) → MayStandBehind named r.times.items is.sessions written line
      → MayStandBehind m r.times.items r.sessions.items written line
  stand-back written line may =
      let old = committed-back line (may.t, may.committed) in
      record {
        t = old.0;
        committed = old.1;
        left = may.left;
        behind = λ from step. may.behind from (stands-on r.times.items from line step);
      }

  serial-answer : (text : List ℕ) → IsKeptSerialTold options setting m text → IsKeptYes w options bytes text
  serial-answer text a = record {
    ids = is.ids;
    h = named;
    times = r.times.items;
    sessions = is.sessions;
    spells = with_moments;
    order = a.order;
    keeps = record {
      serves = serves-on (nth is.items) (nth is.values) m is.apart a.order a.keeps.serves;
      in_time = a.keeps.in_time;
      in_sessions = λ i j first second at at' e.
          a.keeps.in_sessions i j first second at at'
          (earlier-back names r.sessions.items is.sessions is.sessions_are.each is.sessions_are.kept.once first second
          e);
    };
    least = λ place line other at may. a.least place line other at (stand-back (take place a.order) other may);
    text_is = a.text_is
        ∙ ap (λ (s : Spelling ℕ ℕ). counts_text (committed_of m) (aborted_of m) ++ order_part options.order s a.order)
        (plain.spelled_as w options bytes r is naming refl refl refl)
        ∙ ap₂ (λ (c d : ℕ). counts_text c d ++ order_part options.order (numbered is.ids is.items is.values) a.order)
        (sym (committed-same (nth is.items) (nth is.values) m)) (sym (aborted-same (nth is.items) (nth is.values) m))
        ∙ ordered options.order;
  }
    where
      ordered : (b : Bool)
          → counts_text (committed_of named) (aborted_of named) ++ order_part b (numbered is.ids is.items is.values)
          a.order
          ≡ counts_text (committed_of named) (aborted_of named) ++ order_part b (compactly is.ids) a.order
      ordered true = refl
      ordered false = refl

  -- ---- a cycle

  link-on : (ranks : List ℕ) → AreRanks r.items ranks → (a b : ℕ) (l : Link)
      → IsLinkBetween m setting.asked ranks a b l
      → IsLinkOf named r.times.items is.sessions (nth is.items) (nth names) a b l
  link-on ranks ranks_are a b (link.Conflict s) (step, leads, told) = (
    plain.step-on w options bytes r is naming refl refl refl s step,
    leads,
    λ kind x v u c. plain.shown-first w options bytes r is naming refl refl refl Whole ranks ranks_are s step
        (λ t there to. told t there (to.0 ∙ leads.0, to.1 ∙ leads.1)) kind x v u tt
        (subst (λ (n : ℕ). HaveConflict named kind s.from n x v u) (sym leads.1)
        (subst (λ (n : ℕ). HaveConflict named kind n b x v u) (sym leads.0) c)),
  )
  link-on ranks ranks_are a b (link.Session from to session) (one, two, none, of) = (
    one,
    two,
    λ c. none (conflict-back a b c),
    of-session-on names r.sessions.items is.sessions is.sessions_are.each a b session of,
  )
  link-on ranks ranks_are a b (link.Time from to done begin) (one, two, none, apart, times) = (
    one,
    two,
    λ c. none (conflict-back a b c),
    λ e. apart (earlier-back names r.sessions.items is.sessions is.sessions_are.each is.sessions_are.kept.once a b e),
    times,
  )

  links-text : (links : List Link) → kept_text (spelled naming) (text_at r.session_names) links
      ≡ kept_text (by_number is.ids is.items) (λ n. compact (nth names n)) links
  links-text links =
      ap (λ (s : Spelling ℕ ℕ). kept_text s (text_at r.session_names) links)
      (plain.spelled_as w options bytes r is naming refl refl refl)
      ∙ ap (λ (name : ℕ → List ℕ). kept_text (numbered is.ids is.items is.values) name links)
      (fun_ext (text-is r.session_names names is.sessions_are.kept.texts_are))
      ∙ ap (λ (f : Link → List ℕ). class_text (read_writes links) ++ (kind_text (timed links) ++ flat_map f links))
      (fun_ext (link-same is.ids is.items is.values (λ n. compact (nth names n))))

  cycle-answer : (text : List ℕ) → IsLinksTold setting m text → IsKeptCycleTold w bytes text
  cycle-answer text a = record {
    ids = is.ids;
    h = named;
    times = r.times.items;
    sessions = is.sessions;
    spells = with_moments;
    faultless = faultless-on (nth is.items) (nth is.values) m is.apart a.faultless;
    alone = λ c. a.alone (cycle-back (nth is.items) (nth is.values) m is.apart Whole c);
    lines = a.lines;
    cycle = (kept_cycle-on a.lines a.cycle).is;
    first = (kept_cycle-on a.lines a.cycle).first;
    items = is.items;
    names = names;
    links = a.links;
    along = record {
      size = a.along.2.size;
      each = λ place x y l at at_x at_y. link-on a.along.0 a.along.1 x y l (a.along.2.each place x y l at at_x at_y);
    };
    text_is = a.text_is ∙ links-text a.links;
  }

  -- ---- the answer

  kept-answer : (outcome : Outcome) (text : List ℕ) → IsKeptTold options setting m outcome text
      → IsKeptAnswer w options bytes outcome text
  kept-answer Yes text a = serial-answer text a
  kept-answer No text (inl a) = inl (plain.faulty-answer w options bytes r is naming refl refl refl text a)
  kept-answer No text (inr (inl a)) = inr (inl (plain.cyclic-answer w options bytes r is naming refl refl refl text a))
  kept-answer No text (inr (inr a)) = inr (inr (cycle-answer text a))
  kept-answer Unreadable text a = absurd a

  pub told-answer : (outcome : Outcome) (text : List ℕ)
      → (AreAsked m setting.asked → IsKeptTold options setting m outcome text)
      → IsKeptAnswer w options bytes outcome text
  told-answer outcome text told = kept-answer outcome text (told are-asked)
