-- Lines that keep their rules, whichever these are: what of a log needs no certificate.
use Rattle.std.proofs.Common.{◌≡◌, ◌≢◌, ℕ, suc, ◌+◌, ◌<◌, Bool, List, [], ◌∷◌, ◌++◌, take, Some, None, sym, ap, ap₂, ◌∙◌, subst, arith, inl, inr, IsTrue, All, Contains}
use Rattle.std.specs.Prelude.{slice_get}
use Rattle.std.specs.Option.{ForSome}
use Rattle.std.specs.List.{last_or}
use Rattle.std.proofs.lemmas.List.{take_all, nil_from_length}
use Rattle.sgt_names.specs.Name.{Name}
use Rattle.sgt_names.specs.Entry.{tx_of, item_of, IsEnd, IsOpen, Continues, Repeats}
use Rattle.sgt_names.specs.Log.{names, value_at, AllEnded, IsOrderly}
use Rattle.sgt_names.specs.declared.entry.Entry.{Entry}
use Rattle.sgt_names.specs.declared.entry.Entry.TheVariants.{Read}
use Rattle.sgt_names.specs.declared.entry.Holding.{Holding}
use Rattle.sgt_names.proofs.Places.{All_at, All-from_at, AllPairs-from_at, slice_get-take_at, take-next, slice_get-none}
use Rattle.sgt_names.proofs.Lists.{option_cases}
use Rattle.sgt_notation.specs.Spelling.{IsHolding, IsEntry}
use Rattle.sgt_notation.specs.declared.SectionLine.{SectionLine}
use Rattle.sgt_notation.specs.declared.SectionLine.TheVariants.{Initial, Logged, Final, End}
use Rattle.sgt_bundle.specs.Text.{sections_from, IsLog, has_increments}
use Rattle.sgt_bundle.specs.declared.bundle.SiteLog.{SiteLog}
use Rattle.sgt_audit.specs.declared.faults.Fault.{Fault}
use Rattle.sgt_audit.specs.declared.faults.Fault.TheVariants as fault
use Rattle.sgt_audit.specs.Faults.{IsLineIn, items_in, entries_in}
use Rattle.sgt_audit.proofs.Formats.{AllowsEntry, all-allowed}
use Rattle.sgt_audit.proofs.SectionLines.{up_to, items_in-is, entries_in-is, last_logged, around, within_text, at_initial, at_logged, at_final, at_end}
use Rattle.sgt_audit.proofs.MayFollow.{end-logged}

pub logged-same : (e f : Entry) → Logged e ≡ Logged f → f ≡ e
logged-same e f h = cc

pub final-logged : (h : Holding) (e : Entry) → Final h ≡ Logged e → ⊥
final-logged h e same = cc

-- what a line keeps, after the lines before it
abbrev pub LineRule : Type 1
LineRule = List SectionLine → SectionLine → Fault → Type 0

-- each is a line of its format, and keeps every rule behind the lines before it
abbrev pub AreKeptBy : LineRule → Bool → List SectionLine → Type 0
AreKeptBy rule second lines = (earlier later : List SectionLine) (l : SectionLine) → lines ≡ earlier ++ l ∷ later
    → IsLineIn second l × ((f : Fault) → rule earlier l f)

-- what the rules say of logs, whatever they say of a certificate
pub record SpeaksOfLogs (rule : LineRule) : Type 0 where
  pub item : (b : List SectionLine) (e : Entry) → rule b (Logged e) fault.Item
      → ForSome (item_of e) (Contains (names (items_in b)))
  pub twice : (b : List SectionLine) (e : Entry) → rule b (Logged e) fault.Twice
      → All (λ f. (x : Name) → Repeats x f e → ⊥) (entries_in b)
  pub reads : (b : List SectionLine) (tx : ℕ) (x : Name) (v : ℕ) → rule b (Logged (Read tx x v)) fault.ReadValue
      → value_at (items_in b) (entries_in b) x ≡ Some v
  pub block : (b : List SectionLine) (l : SectionLine) → rule b l fault.Block → (f : Entry)
      → last_or None b ≡ Some (Logged f) → IsOpen f → (e : Entry) × (l ≡ Logged e) × Continues f e
  pub closed : (b : List SectionLine) (e : Entry) → rule b (Logged e) fault.End
      → All (λ f. IsEnd f → tx_of f ≢ tx_of e) (entries_in b)
  pub ended : (b : List SectionLine) → rule b End fault.NotEnded → AllEnded (entries_in b)
  pub final : (b : List SectionLine) (h : Holding) → rule b (Final h) fault.Final
      → value_at (items_in b) (entries_in b) h.item ≡ Some h.value

module _ (rule : LineRule) (own : SpeaksOfLogs rule) (second : Bool) (before : List SectionLine)
    (kept : AreKeptBy rule second before) where
  -- each line of a log keeps the rules
  module _ (k : ℕ) (log : SiteLog) (front back : List SectionLine) (whole : before ≡ within_text front back k log) where
    pub keeps_entry : (n : ℕ) (e : Entry) → slice_get log.entries n ≡ Some e → (f : Fault)
        → rule (up_to front k log.items (take n log.entries) []) (Logged e) f
    keeps_entry n e at = let cut = at_logged front back k log n e at in
        (kept (up_to front k log.items (take n log.entries) []) cut.0 (Logged e) (whole ∙ cut.1)).1

    keeps_final : (n : ℕ) (h : Holding) → slice_get log.finals n ≡ Some h → (f : Fault)
        → rule (up_to front k log.items log.entries (take n log.finals)) (Final h) f
    keeps_final n h at = let cut = at_final front back k log n h at in
        (kept (up_to front k log.items log.entries (take n log.finals)) cut.0 (Final h) (whole ∙ cut.1)).1

    keeps_end : (f : Fault) → rule (up_to front k log.items log.entries log.finals) End f
    keeps_end =
        (kept (up_to front k log.items log.entries log.finals) back End (whole ∙ at_end front back k log)).1

    -- what is listed and logged in front of an entry
    entry_items : (n : ℕ) → items_in (up_to front k log.items (take n log.entries) []) ≡ log.items
    entry_items n = items_in-is front k log.items (take n log.entries) []

    entry_entries : (n : ℕ) → entries_in (up_to front k log.items (take n log.entries) []) ≡ take n log.entries
    entry_entries n = entries_in-is front k log.items (take n log.entries) []

    pub all_before : (P : Entry → Type 0) (p q : ℕ) (e : Entry) → p < q → slice_get log.entries p ≡ Some e
        → All P (entries_in (up_to front k log.items (take q log.entries) [])) → P e
    all_before P p q e lt at all =
        All_at P (take q log.entries) p e (subst (All P) (entry_entries q) all)
        (slice_get-take_at log.entries q p e lt at)

    -- a block goes on, and does not end with the log
    goes_on : (n : ℕ) (e : Entry) → slice_get log.entries n ≡ Some e → IsOpen e → (f : Entry)
        → slice_get log.entries (suc n) ≡ Some f → (f : Entry) × (slice_get log.entries (suc n) ≡ Some f)
        × Continues e f
    goes_on n e at is_open f next =
        let last = ap (λ es. last_or None (up_to front k log.items es [])) (take-next log.entries n e at)
        ∙ last_logged front k log.items (take n log.entries) e in
        let g = own.block (up_to front k log.items (take (suc n) log.entries) []) (Logged f)
        (keeps_entry (suc n) f next fault.Block) e last is_open in
        (f, next, subst (Continues e) (logged-same f g.0 g.1) g.2)

    ends_open : (n : ℕ) (e : Entry) → slice_get log.entries n ≡ Some e → IsOpen e
        → slice_get log.entries (suc n) ≡ None → ⊥
    ends_open n e at is_open none =
        let all = sym (take_all (suc n) log.entries (slice_get-none log.entries (suc n) none))
        ∙ take-next log.entries n e at in
        let last = ap (λ es. last_or None (up_to front k log.items es [])) all
        ∙ last_logged front k log.items (take n log.entries) e in
        elim (option_cases (slice_get log.finals 0)) [
          | inl no_final ↦
              let empty = nil_from_length log.finals (omega (arith, slice_get-none log.finals 0 no_final)) in
              let g = own.block (up_to front k log.items log.entries log.finals) End (keeps_end fault.Block) e
              (ap (λ fs. last_or None (up_to front k log.items log.entries fs)) empty ∙ last) is_open in
              end-logged g.0 g.1
          | inr final ↦
              let g = own.block (up_to front k log.items log.entries []) (Final final.0)
              (keeps_final 0 final.0 final.1 fault.Block) e last is_open in
              final-logged final.0 g.0 g.1
        ]

    orderly : IsOrderly log.items log.entries
    orderly = record {
      known = All-from_at (λ e. ForSome (item_of e) (Contains (names log.items))) log.entries (λ n e at.
          subst (λ items. ForSome (item_of e) (Contains (names items))) (entry_items n)
          (own.item (up_to front k log.items (take n log.entries) []) e (keeps_entry n e at fault.Item)));
      once = AllPairs-from_at (λ e f. (x : Name) → Repeats x e f → ⊥) log.entries (λ p q e f lt at_p at_q.
          all_before (λ g. (x : Name) → Repeats x g f → ⊥) p q e lt at_p
          (own.twice (up_to front k log.items (take q log.entries) []) f (keeps_entry q f at_q fault.Twice)));
      blocks = λ n e at is_open. elim (option_cases (slice_get log.entries (suc n))) [
        | inl none ↦ absurd (ends_open n e at is_open none)
        | inr more ↦ goes_on n e at is_open more.0 more.1
      ];
      closed = AllPairs-from_at (λ e f. IsEnd e → tx_of e ≢ tx_of f) log.entries (λ p q e f lt at_p at_q.
          all_before (λ g. IsEnd g → tx_of g ≢ tx_of f) p q e lt at_p
          (own.closed (up_to front k log.items (take q log.entries) []) f (keeps_entry q f at_q fault.End)));
    }

    pub formed : IsOrderly log.items log.entries × AllEnded log.entries
    formed = (
      orderly,
      subst AllEnded (entries_in-is front k log.items log.entries log.finals)
          (own.ended (up_to front k log.items log.entries log.finals) (keeps_end fault.NotEnded)),
    )

    pub reads : (n tx : ℕ) (x : Name) (v : ℕ) → slice_get log.entries n ≡ Some (Read tx x v)
        → value_at log.items (take n log.entries) x ≡ Some v
    reads n tx x v at = sym (ap₂ (λ is es. value_at is es x) (entry_items n) (entry_entries n))
        ∙ own.reads (up_to front k log.items (take n log.entries) []) tx x v
        (keeps_entry n (Read tx x v) at fault.ReadValue)

    pub finals : All (λ h. value_at log.items log.entries h.item ≡ Some h.value) log.finals
    finals = All-from_at (λ h. value_at log.items log.entries h.item ≡ Some h.value) log.finals (λ n h at.
        sym (ap₂ (λ is es. value_at is es h.item) (items_in-is front k log.items log.entries (take n log.finals))
        (entries_in-is front k log.items log.entries (take n log.finals)))
        ∙ own.final (up_to front k log.items log.entries (take n log.finals)) h (keeps_final n h at fault.Final))

    -- its numbers and names are in range
    pub spelled-log : IsLog log
    spelled-log = record {
      items = All-from_at IsHolding log.items (λ n h at. let cut = at_initial front back k log n h at in
          (kept (up_to front k (take n log.items) [] []) cut.0 (Initial h) (whole ∙ cut.1)).0.0);
      entries = All-from_at IsEntry log.entries (λ n e at. let cut = at_logged front back k log n e at in
          (kept (up_to front k log.items (take n log.entries) []) cut.0 (Logged e) (whole ∙ cut.1)).0.0);
      finals = All-from_at IsHolding log.finals (λ n h at. let cut = at_final front back k log n h at in
          (kept (up_to front k log.items log.entries (take n log.finals)) cut.0 (Final h) (whole ∙ cut.1)).0.0);
    }

    -- its format allows its increments
    pub allowed-log : All (AllowsEntry second) log.entries
    allowed-log = All-from_at (AllowsEntry second) log.entries (λ n e at.
        let cut = at_logged front back k log n e at in
        (kept (up_to front k log.items (take n log.entries) []) cut.0 (Logged e) (whole ∙ cut.1)).0.1)

  -- the logs of all sections
  module _ (logs : List SiteLog) (all : sections_from 0 logs ≡ before) where
    pub logs-spelled : All IsLog logs
    logs-spelled = All-from_at IsLog logs (λ s log at. let a = around 0 logs s log at in
        spelled-log (0 + s) log a.front a.back (sym all ∙ a.whole))

    pub logs-allowed : IsTrue (has_increments logs) → IsTrue second
    logs-allowed = all-allowed second logs (λ s log at. let a = around 0 logs s log at in
        allowed-log (0 + s) log a.front a.back (sym all ∙ a.whole))
