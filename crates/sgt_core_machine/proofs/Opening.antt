-- A machine over fresh sites, and runs of it.
use Rattle.std.proofs.Common.{◌≡◌, ◌<◌, ◌≤◌, ◌+◌, ℕ, zero, suc, List, [], ◌∷◌, ◌++◌, length, map, refl, sym, ◌∙◌, arith, inl, inr, All, Some, None, subst, ap, take}
use Rattle.std.specs.Prelude.{slice_get}
use Rattle.std.proofs.lemmas.List.{length_push, length-take-le, length-map}
use Rattle.std.proofs.lemmas.List.Elements.{All-push}
use Rattle.std.proofs.lemmas.Option.{same_Some, slice_get_within}
use Rattle.sgt_names.specs.Limits.{max_sites}
use Rattle.sgt_names.specs.declared.entry.Holding.{Holding}
use Rattle.sgt_names.proofs.Lists.{front_at, take_next, middle_at, within_at, map_at}
use Rattle.sgt_names.proofs.Places.{All-from_at}
use Rattle.sgt_site.specs.State.{AreItems, opened}
use Rattle.sgt_certifier.specs.Certifier.{State, opening}
use Rattle.sgt_certifier.proofs.Members.{place_cases}
use Rattle.sgt_core_machine.proofs.OwnHandles.{own_none}
use Rattle.sgt_notation.specs.declared.event.Event.{Event}
use Rattle.sgt_core_model.specs.declared.reply.Reply.{Reply}
use Rattle.sgt_core_machine.specs.declared.machine.Place.{Place}
use Rattle.sgt_core_machine.specs.declared.machine.Part.TheVariants.{Idle}
use Rattle.sgt_core_model.specs.Core.{fresh}
use Rattle.sgt_core_model.specs.Step.{MayStep, Run}
use Rattle.sgt_core_machine.specs.Machine.{Parts, Carries, IsPlace, AreOpened, StandsFor, GoesOn}
use Rattle.sgt_core_machine.proofs.Standing.{run_more}
use Rattle.sgt_names.proofs.Elements.{contains-none}

-- ---- sites

last_is : (places : List Place) (p q : Place) (i k n : ℕ) → k ≡ length places + n → slice_get (p ∷ []) n ≡ Some q
    → length places ≡ i → (k ≡ i) × (p ≡ q)
last_is places p q i k zero e found count = (omega (arith, e, count), same_Some p q found)
last_is places p q i k (suc n) e found count = absurd cc

pub one_opened : (sites : List (List Holding)) (places : List Place) (i : ℕ) (items : List Holding) (p : Place)
    → i < length sites → slice_get sites i ≡ Some items → AreOpened (take i sites) places
    → AreItems items → p ≡ record { site = opened i items; part = Idle }
    → AreOpened (take (i + 1) sites) (places ++ p ∷ [])
one_opened sites places i items p lt at h are is =
    let more = take_next sites i items at in
    let front : length (take i sites) ≡ i = length-take-le i sites (omega (arith, lt)) in
    let long = h.long in
    let count : length places ≡ i = long ∙ front in
    record {
      long = length_push places p
          ∙ (ap (λ n. n + 1) long ∙ (sym (length_push (take i sites) items) ∙ ap length (sym more)));
      each = λ k q found. elim (place_cases places (p ∷ []) k q found) [
        | inl old ↦
            let e = h.each k q old.1 in
            (e.0, ap (λ l. slice_get l k) more ∙ front_at (take i sites) (items ∷ []) k e.0 e.1, e.2, e.3)
        | inr last ↦
            let same : (k ≡ i) × (p ≡ q) = last_is places p q i k last.0 last.1 last.2 count in
            let here : slice_get (take (i + 1) sites) i ≡ Some items = ap (λ l. slice_get l i) more
            ∙ subst (λ n. slice_get (take i sites ++ items ∷ []) n ≡ Some items) front
            (middle_at (take i sites) items []) in (
              items,
              ap (slice_get (take (i + 1) sites)) same.0 ∙ here,
              are,
              sym same.1
                  ∙ (is ∙ ap (λ n. record { site = opened n items; part = Idle }) (sym same.0)),
            )
      ];
    }

-- one more site's items are in order
pub items_more : (sites : List (List Holding)) (i : ℕ) (items : List Holding) → slice_get sites i ≡ Some items
    → All AreItems (take i sites) → AreItems items → All AreItems (take (i + 1) sites)
items_more sites i items at all are =
    subst (All AreItems) (sym (take_next sites i items at)) (All-push AreItems (take i sites) items all are)

-- each site's items are in order
pub opened_items : (sites : List (List Holding)) (places : List Place) → AreOpened sites places → All AreItems sites
opened_items sites places h = All-from_at AreItems sites (λ k items at.
    let lt = slice_get_within sites k items at in
    let long = h.long in
    let p = within_at places k (omega (arith, lt, long)) in
    let e = h.each k p.0 p.1 in
    subst AreItems (same_Some e.0 items (sym e.1 ∙ at)) e.2)

pub same_lists : {A : Type 0} (xs ys : List A) → length xs ≡ length ys
    → ((k : ℕ) (x : A) → slice_get ys k ≡ Some x → slice_get xs k ≡ Some x) → xs ≡ ys
same_lists [] [] long h = refl
same_lists [] (y ∷ ys) long h = absurd (omega (arith, long))
same_lists (x ∷ xs) [] long h = absurd (omega (arith, long))
same_lists (x ∷ xs) (y ∷ ys) long h =
    let first : x ≡ y = same_Some x y (h 0 y refl) in
    ap (λ z. z ∷ xs) first ∙ ap (λ zs. y ∷ zs) (same_lists xs ys (omega (arith, long)) (λ k z at. h (suc k) z at))

abbrev start : List Place → State → Parts
start places certifier = record {
  places = places;
  certifier = certifier;
  begun = 0;
  before = 0;
  table = [];
  step =
      None;
}

pub new_stands : (sites : List (List Holding)) (places : List Place) (certifier : State) → AreOpened sites places
    → certifier ≡ opening → 1 ≤ length sites → length sites ≤ max_sites
    → StandsFor (record { places = places; certifier = certifier; begun = 0; before = 0; table = []; step = None })
    (fresh sites)
new_stands sites places certifier h is some few = record {
  reached = (sites, ([], ([], refl)));
  sites = record { some = some; few = few; each = opened_items sites places h };
  items = same_lists sites (map (λ (p : Place). p.site.items) places) (sym h.long
      ∙ sym (length-map places (λ (p : Place). p.site.items))) (λ k items at.
      let p = map_at (λ (q : Place). q.site.items) places k items at in
      let e = h.each k p.0 p.1 in
      let same : e.0 ≡ items = ap (λ (q : Place). q.site.items) (sym e.3) ∙ p.2 in
      e.1 ∙ ap Some same);
  certifier =
      subst (λ (s : State). Carries s opening) (sym is)
      (record {
        same = refl;
        noted = record {
          open_step = λ tx o site n. absurd (contains-none n.1 (n.0, n.2, n.3));
          committed = λ i m. absurd (contains-none i m);
        };
        fewer = λ arc m. m;
        lead =
            λ a b j. absurd (contains-none _ j.1);
      });
  before = refl;
  begun = refl;
  window = refl;
  unborn = λ tx s lt. refl;
  running = λ k slot at. absurd cc;
  places = λ k p at.
      let e = h.each k p at in
      subst (λ (q : Place). IsPlace (start places certifier) (fresh sites) k q) (sym e.3) (record {
        number = refl;
        entries = refl;
        handles = λ i m. absurd (contains-none i m);
        apart = own_none;
        part = (refl, refl, contains-none k);
      });
  step = (refl, refl);
}

-- ---- runs

pub run_on : (first mid last : Parts) (events : List Event) (replies : List Reply) (event : Event) (reply : Reply)
    → GoesOn (λ c d. Run c events replies d) first mid
    → GoesOn (λ c d. MayStep c event reply d) mid last
    → GoesOn (λ c d. Run c (events ++ event ∷ []) (replies ++ reply ∷ []) d) first last
run_on first mid last events replies event reply run go c s =
    let a = run c s in
    let b = go a.0 a.2 in
    (b.0, run_more c events replies a.0 event reply b.0 a.1 b.1, b.2)
