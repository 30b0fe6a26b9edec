-- An input of a replay is one of sites and, behind them, events: what one more line can be.
use Rattle.std.proofs.Common.{◌≡◌, ◌≢◌, ℕ, ◌+◌, ◌≤◌, List, [], ◌∷◌, ◌++◌, length, refl, ap, arith, inl, inr, ◌⊎◌}
use Rattle.std.specs.Prelude.{All, Bool, true, false, Result, Ok, Err, IfOk}
use Rattle.std.proofs.lemmas.Bool.{cases_eq}
use Rattle.std.proofs.lemmas.List.Elements.{recursion_from_All}
use Rattle.sgt_notation.specs.Events.{IsEventLine, IsSiteLine, event_text, site_text}
use Rattle.sgt_notation.specs.Reading.{SpellsNone}
use Rattle.sgt_notation.specs.declared.event.Event.TheVariants.{Gather, Decide}
use Rattle.sgt_notation.specs.declared.event.EventLine.{EventLine}
use Rattle.sgt_notation.specs.declared.event.EventLine.TheVariants.{One}
use Rattle.sgt_notation.specs.declared.event.SiteLine.{SiteLine}
use Rattle.sgt_notation.proofs.Decidable.{Decidable, decidable-if, decidable-text}
use Rattle.sgt_notation.proofs.OneEvent.{event-no_lf, event-one, event-short}
use Rattle.sgt_notation.proofs.OneSpelling.{apart}
use Rattle.sgt_names.proofs.Elements.{empty-length}
use Rattle.sgt_input.proofs.Sited.{IsKind}
use Rattle.sgt_input.proofs.SitedLines as sited
use Rattle.sgt_core.specs.declared.input.Input.{Input}
use Rattle.sgt_core.specs.Input.{Begins, IsBegun, input_lines}
use Rattle.sgt_core.specs.private.Taking.{Takes, TakesEvent}
use Rattle.sgt_core.proofs.SearchedEvents.{searched-events}

-- no event is spelled like a site
event-no_site : (l : SiteLine) (e : EventLine) → IsEventLine e → site_text l ≡ event_text e → ⊥
event-no_site l (One (Gather tx s)) is same = absurd is
event-no_site l (One (Decide tx)) is same = absurd is
event-no_site l e is same = absurd (apart (site_text l) (event_text e) refl same)

no-site : (ss : List SiteLine) → Decidable (ss ≡ [])
no-site [] = inl refl
no-site (s ∷ ss) = inr (λ e. cc)

pub events-kind : IsKind IsBegun (λ (i : Input). i.sites) (λ (i : Input). i.events) event_text (λ (ss : List SiteLine). IsEventLine)
    (λ (ss : List SiteLine) (n : ℕ). ss ≡ [] → n ≡ 0)
events-kind = record {
  to = λ i is. record {
    few = is.few;
    numbered = is.numbered;
    each = is.each;
    others = is.events;
    count = λ none. ap length (is.first none);
  };
  from = λ i is. record {
    few = is.few;
    numbered = is.numbered;
    each = is.each;
    events = is.others;
    first = λ none. empty-length i.events (is.count none);
  };
  make = λ ss es. record { sites = ss; events = es };
  sites-made = λ ss es. refl;
  others-made = λ ss es. refl;
  same = λ i j there also t. record { sites = there t; events = also t };
  plain = λ ss e is. (
    recursion_from_All (λ c. c ≢ 10) (event_text e) (event-no_lf e is),
    let short = event-short e is in omega (arith, short),
  );
  one = λ ss ts. event-one;
  apart = λ ss. event-no_site;
  found = λ ss x. searched-events (λ e. x ≡ event_text e) (λ e. decidable-text x (event_text e));
  none = λ ss empty. refl;
  fewer = λ ss m n le count empty. let none = count empty in omega (arith, le, none);
  room = λ ss n. decidable-if (no-site ss) (λ _. cases_eq n 0);
  somewhere = λ es all count. empty-length es (count refl);
}

-- an event is kept
pub took-event : (old new : Input) (line : List ℕ) → old.sites ≢ [] → new.sites ≡ old.sites
    → TakesEvent old.events line new.events true → Takes old line new true
took-event old new line some kept (e, is, text, more) =
    sited.took-other events-kind old new line e kept is text more (λ begun none. absurd (some none))

-- a line that spells neither may not stand there
pub took-none : (old : Input) (line : List ℕ)
    → (old.events ≡ [] → (l : SiteLine) → IsSiteLine l → l.site ≡ length old.sites → line ≢ site_text l)
    → (old.sites ≢ [] → SpellsNone IsEventLine event_text line) → IsBegun old → Begins (input_lines old ++ line ∷ [])
    → ⊥
took-none old line no_site no_event =
    sited.took-none events-kind old line no_site
    (λ e is count. no_event (λ none. let more = count none in omega (arith, more)) e is)

-- the line was looked at as an event
pub after-event : {E : Type 0} (r : Result Bool E) (old new : Input) (line : List ℕ) → new.sites ≡ old.sites
    → (IsBegun old → old.sites ≢ [])
    → (old.events ≡ [] → (l : SiteLine) → IsSiteLine l → l.site ≡ length old.sites → line ≢ site_text l)
    → IfOk r (TakesEvent old.events line new.events) → IfOk r (Takes old line new)
after-event (Err e) old new line kept some none takes = tt
after-event (Ok true) old new line kept some none takes = λ begun. took-event old new line (some begun) kept takes begun
after-event (Ok false) old new line kept some none takes = took-none old line none (λ _. takes.0)
