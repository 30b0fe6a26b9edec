-- What lines that keep the rules say of the decisions on the transactions of their entries.
use Rattle.std.proofs.Common.{◌≡◌, ◌≢◌, Bool, ℕ, zero, suc, List, [], ◌∷◌, ◌++◌, take, drop, Some, inl, inr, sym, ap, ◌∙◌, subst, arith, All, Contains}
use Rattle.std.specs.Prelude.{fold, slice_get, Any, ◌⊎◌}
use Rattle.std.specs.List.{filter_map}
use Rattle.std.proofs.lemmas.List.Elements.{Contains-push_cases}
use Rattle.std.proofs.lemmas.Option.{same_Some, none-some}
use Rattle.sgt_names.proofs.Lists.{All-map, All-from_map, All-weaken, Any-from_at}
use Rattle.sgt_names.proofs.Places.{All_at, All-from_at, AllPairs_at, Contains_at, Contains-from_at, slice_get-take, split_at}
use Rattle.sgt_names.specs.Entry.{tx_of, IsEnd}
use Rattle.sgt_names.specs.Log.{AllEnded}
use Rattle.sgt_names.specs.declared.entry.Entry.{Entry}
use Rattle.sgt_notation.specs.declared.SectionLine.{SectionLine}
use Rattle.sgt_notation.specs.declared.SectionLine.TheVariants.{Site, Initial, Logged, Final, End}
use Rattle.sgt_bundle.specs.Certificate.{decided_tx, IsDecidedOnce}
use Rattle.sgt_bundle.specs.Valid.{IsDecided, EndInOrder}
use Rattle.sgt_bundle.specs.declared.certificate.Certificate.{Certificate}
use Rattle.sgt_bundle.specs.declared.certificate.Decision.{Decision}
use Rattle.sgt_audit.specs.declared.faults.Fault.TheVariants as fault
use Rattle.sgt_audit.specs.Faults.{section_with, open_section, entries_in, Keeps, AllKept}
use Rattle.sgt_audit.specs.Faults.{logged_in as entry_in}
use Rattle.sgt_explain_lines.specs.Numbered.{numbered_entries}
use Rattle.sgt_explain_lines.specs.Values.{entries_of}
use Rattle.sgt_explain_lines.specs.declared.section.Logged.{Logged as LoggedEntry}
use Rattle.sgt_explain_decisions.specs.Placed.{IsFirstOn, IsUndecided}
use Rattle.sgt_explain_decisions.specs.Decided.{IsNotLater, IsOvertaken}
use Rattle.sgt_explain_decisions.specs.Ends.{HasEnd}
use Rattle.sgt_explain_decisions.proofs.Besides.{first-unique}
use Rattle.sgt_explain.proofs.FaultyLine.{entries-same}

-- where each transaction has one decision, that of an entry is the first on its transaction
pub decided-first : (ds : List Decision) (e : Entry) (n : ℕ) → IsDecidedOnce ds → IsDecided ds e n
    → IsFirstOn ds (tx_of e) n
decided-first ds e n once is = record {
  decision = is.0;
  on = record { there = is.1; on = is.2 };
  before = All-from_at (λ (d : Decision). decided_tx d ≢ tx_of e) (take n ds) (λ m d at same.
      let one = slice_get-take ds n m d at in
      AllPairs_at (λ (a b : Decision). decided_tx a ≢ decided_tx b) ds m n d is.0 once one.0 one.1 is.1 (same
      ∙ sym is.2));
}

pub decided-some : (ds : List Decision) (e : Entry) (n : ℕ) → IsDecided ds e n → IsUndecided ds (tx_of e) → ⊥
decided-some ds e n is none = All_at (λ (d : Decision). decided_tx d ≢ tx_of e) ds n is.0 none is.1 is.2

-- ---- F14

-- where no end before is decided later, each stands in order
in-order : (ds : List Decision) (l : LoggedEntry) (e : Entry) (own : ℕ) → IsDecidedOnce ds
    → IsFirstOn ds (tx_of e) own → IsNotLater ds own l → EndInOrder ds l.entry e
in-order ds l e own once first not_later = λ end end' m n is is'.
    let low = not_later m (end, decided-first ds l.entry m once is) in
    let same = first-unique ds (tx_of e) own n first (decided-first ds e n once is') in
    omega (arith, low, same)

pub overtaken-by : (c : Certificate) (before : List SectionLine) (l : LoggedEntry) → IsDecidedOnce c.decisions
    → Keeps c before (Logged l.entry) fault.End
    → (Keeps c before (Logged l.entry) fault.DecisionOrder → ⊥) → IsOvertaken c.decisions (numbered_entries before) l
overtaken-by c before l once ended broken =
    let ds = c.decisions in
    let first = decided-first ds l.entry ended.0.0 once ended.0.1 in
    record {
      own = ended.0.0;
      decided = first;
      later = λ all. broken (subst (All (λ f. EndInOrder ds f l.entry)) (entries-same before)
          (All-from_map (λ f. EndInOrder ds f l.entry) (λ (k : LoggedEntry). k.entry) (numbered_entries before)
          (All-weaken (IsNotLater ds ended.0.0) (λ (k : LoggedEntry). EndInOrder ds k.entry l.entry)
          (numbered_entries before)
          (λ k h. in-order ds k l.entry ended.0.0 once first h) all)));
    }

-- ---- F15

-- what stands in the open section stands among the lines
open-among : (section ls : List SectionLine) (l : SectionLine) → Contains (fold section_with section ls) l
    → Contains section l ⊎ Contains ls l
open-among section [] l has = inl has
open-among section (k ∷ ls) l has =
    elim (open-among (section_with section k) ls l has) [
      | inl early ↦ one-with k early
      | inr late ↦ inr (behind late)
    ]
  where
    behind : Contains ls l → Contains (k ∷ ls) l
    behind late = let at = Contains_at ls l late in Contains-from_at (k ∷ ls) (suc at.0) l at.1

    first : (m : SectionLine) → m ≡ l → Contains (m ∷ ls) l
    first m same = Contains-from_at (m ∷ ls) 0 l (ap Some same)

    pushed : (m : SectionLine) → Contains (section ++ m ∷ []) l → Contains section l ⊎ Contains (m ∷ ls) l
    pushed m early = elim (Contains-push_cases section m l early) [
      | inl there ↦ inl there
      | inr same ↦ inr (first m same)
    ]

    one-with : (m : SectionLine) → Contains (section_with section m) l → Contains section l ⊎ Contains (m ∷ ls) l
    one-with (Site n) early = let at = Contains_at {A = SectionLine} [] l early in absurd (none-some l at.1)
    one-with (Initial h) early = pushed (Initial h) early
    one-with (Logged e) early = pushed (Logged e) early
    one-with (Final h) early = pushed (Final h) early
    one-with End early = pushed End early

entry-among : (ls : List SectionLine) (e : Entry) → Contains (filter_map entry_in ls) e → Contains ls (Logged e)
entry-among ls e has = let at = Contains_at (filter_map entry_in ls) e has in let found = from ls at.0 at.1 in
    Contains-from_at ls found.0 (Logged e) found.1
  where
    from : (ks : List SectionLine) (n : ℕ) → slice_get (filter_map entry_in ks) n ≡ Some e
        → (m : ℕ) × (slice_get ks m ≡ Some (Logged e))
    from [] n at = absurd (none-some e at)
    from (Logged f ∷ ks) zero at = (0, ap Some (ap Logged (same_Some f e at)))
    from (Logged f ∷ ks) (suc n) at = let more = from ks n at in (suc more.0, more.1)
    from (Site k ∷ ks) n at = let more = from ks n at in (suc more.0, more.1)
    from (Initial h ∷ ks) n at = let more = from ks n at in (suc more.0, more.1)
    from (Final h ∷ ks) n at = let more = from ks n at in (suc more.0, more.1)
    from (End ∷ ks) n at = let more = from ks n at in (suc more.0, more.1)

-- an entry of the open section is one of the lines
pub entry-line : (before : List SectionLine) (e : Entry) → Contains (entries_in before) e → Contains before (Logged e)
entry-line before e has =
    elim (open-among [] before (Logged e) (entry-among (open_section before) e has)) [
      | inl none ↦ (let at = Contains_at {A = SectionLine} [] (Logged e) none in absurd (none-some (Logged e) at.1))
      | inr there ↦ there
    ]

-- each entry of lines that keep the rules has a decision on its transaction
pub all-decided : (second : Bool) (c : Certificate) (before : List SectionLine) → AllKept second c before
    → All (λ (l : LoggedEntry). IsUndecided c.decisions (tx_of l.entry) → ⊥) (numbered_entries before)
all-decided second c before kept =
    All-map (λ (e : Entry). IsUndecided c.decisions (tx_of e)
    → ⊥) (λ (l : LoggedEntry). l.entry) (numbered_entries before)
    (subst (All (λ (e : Entry). IsUndecided c.decisions (tx_of e) → ⊥)) (sym (entries-same before))
    (All-from_at (λ (e : Entry). IsUndecided c.decisions (tx_of e) → ⊥) (entries_in before) (λ n e at.
    let has = Contains_at before (Logged e) (entry-line before e (Contains-from_at (entries_in before) n e at)) in
    let keeps =
    (kept.lines (take has.0 before) (drop (suc has.0) before) (Logged e)
    (split_at before has.0 (Logged e) has.1)).1 fault.End in
    decided-some c.decisions e keeps.0.0 keeps.0.1)))

any-end : (entries : List LoggedEntry) (tx : ℕ) → HasEnd entries tx
    → Any (λ f. IsEnd f × (tx_of f ≡ tx)) (entries_of entries)
any-end entries tx has =
    let at = Contains_at entries has.0 has.1 in
    Any-from_at (λ f. IsEnd f × (tx_of f ≡ tx)) (entries_of entries) at.0 has.0.entry (mapped entries at.0 at.1) has.2
  where
    mapped : (ls : List LoggedEntry) (n : ℕ) → slice_get ls n ≡ Some has.0
        → slice_get (entries_of ls) n ≡ Some has.0.entry
    mapped [] n at = absurd (none-some has.0 at)
    mapped (l ∷ ls) zero at = ap Some (ap (λ (k : LoggedEntry). k.entry) (same_Some l has.0 at))
    mapped (l ∷ ls) (suc n) at = mapped ls n at

all-ended : (before : List SectionLine)
    → All (λ (l : LoggedEntry). HasEnd (numbered_entries before) (tx_of l.entry)) (numbered_entries before)
    → AllEnded (entries_in before)
all-ended before all =
    subst AllEnded (entries-same before)
    (All-from_map (λ (e : Entry). Any (λ f. IsEnd f × (tx_of f ≡ tx_of e)) (entries_of (numbered_entries before)))
    (λ (l : LoggedEntry). l.entry) (numbered_entries before)
    (All-weaken (λ (l : LoggedEntry). HasEnd (numbered_entries before) (tx_of l.entry))
    (λ (l : LoggedEntry). Any (λ f. IsEnd f × (tx_of f ≡ tx_of l.entry)) (entries_of (numbered_entries before)))
    (numbered_entries before) (λ l h. any-end (numbered_entries before) (tx_of l.entry) h) all))

-- the line before which each transaction has its end keeps the rule
pub ended-kept : (c : Certificate) (before : List SectionLine) (line : SectionLine)
    → All (λ (l : LoggedEntry). HasEnd (numbered_entries before) (tx_of l.entry)) (numbered_entries before)
    → Keeps c before line fault.NotEnded
ended-kept c before (Site k) all = tt
ended-kept c before (Initial h) all = tt
ended-kept c before (Logged e) all = tt
ended-kept c before (Final h) all = all-ended before all
ended-kept c before End all = all-ended before all
