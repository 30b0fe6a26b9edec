-- A line of a section keeps a rule or it doesn't, behind lines that keep every rule.
use Rattle.std.proofs.Common.{◌≡◌, ◌≢◌, ℕ, ◌<◌, Bool, List, [], ◌∷◌, ◌++◌, Option, Some, None, refl, subst, lit<, inl, inr, Any, Contains}
use Rattle.std.specs.List.{last_or}
use Rattle.std.proofs.lemmas.Bool.{cases_eq}
use Rattle.sgt_names.specs.Name.{Name}
use Rattle.sgt_names.specs.Entry.{tx_of, item_of, is_increment, IsEnd, IsOpen, Continues, Repeats}
use Rattle.sgt_names.specs.Log.{names, value_at, AllEnded}
use Rattle.sgt_names.specs.declared.entry.Entry.{Entry}
use Rattle.sgt_names.specs.declared.entry.Entry.TheVariants as entry
use Rattle.sgt_notation.specs.Spelling.{line_text}
use Rattle.sgt_notation.specs.declared.SectionLine.{SectionLine}
use Rattle.sgt_notation.specs.declared.SectionLine.TheVariants.{Site, Initial, Logged, Final, End}
use Rattle.sgt_notation.proofs.Decidable.{Decidable, decidable-as, decidable-both, decidable-not, decidable-if, decidable-test, decidable-text, decidable-value, decidable-ForSome, decidable-All, decidable-Any, decidable-Contains}
use Rattle.sgt_notation.proofs.DecidableEntries.{decidable-end, decidable-open, decidable-continues, decidable-first}
use Rattle.sgt_notation.proofs.SearchedLines.{searched-lines}
use Rattle.sgt_bundle.specs.Valid.{EndInOrder, RiseInRank}
use Rattle.sgt_bundle.specs.Text.{Begins}
use Rattle.sgt_bundle.specs.declared.certificate.Certificate.{Certificate}
use Rattle.sgt_audit.specs.declared.faults.Fault.{Fault}
use Rattle.sgt_audit.specs.declared.faults.Fault.TheVariants as fault
use Rattle.sgt_audit.specs.Faults.{fault_number, items_in, entries_in, Keeps, Allows, IsLineIn}
use Rattle.sgt_audit.proofs.decidable.Entries.{decidable-number, decidable-in_order, decidable-rise}
use Rattle.sgt_audit.proofs.decidable.Sections.{HasBegun, decidable-begins, more-begun, decidable-behind}

-- ---- notation

decidable-allows : (second : Bool) (line : SectionLine) → Decidable (Allows second line)
decidable-allows second (Logged e) = decidable-if (decidable-test (is_increment e)) (λ added. decidable-test second)
decidable-allows second _ = inl tt

pub decidable-line : (second : Bool) (l : List ℕ)
    → Decidable ((line : SectionLine) × IsLineIn second line × (l ≡ line_text line))
decidable-line second l =
    decidable-as (λ h. (h.0, (h.1, h.2.0), h.2.1)) (λ h. (h.0, h.1.0, (h.1.1, h.2)))
    (searched-lines (λ line. Allows second line × (l ≡ line_text line))
    (λ line. decidable-both (decidable-allows second line) (decidable-text l (line_text line))))

-- ---- the rules of an entry

decidable-ended : (es : List Entry) → Decidable (AllEnded es)
decidable-ended es =
    decidable-All (λ e. Any (λ f. IsEnd f × (tx_of f ≡ tx_of e)) es)
    (λ e. decidable-Any (λ f. IsEnd f × (tx_of f ≡ tx_of e))
    (λ f. decidable-both (decidable-end f) (cases_eq (tx_of f) (tx_of e))) es) es

module _ (c : Certificate) (before : List SectionLine) where
  decidable-read : (e : Entry) → Decidable (Keeps c before (Logged e) fault.ReadValue)
  decidable-read (entry.Read tx x v) = decidable-value cases_eq (value_at (items_in before) (entries_in before) x) v
  decidable-read _ = inl tt

  decidable-entry : (e : Entry) (f : Fault) → Decidable (Begins c.sites (before ++ Logged e ∷ []))
      → Decidable (Keeps c before (Logged e) fault.Block) → Decidable (Keeps c before (Logged e) f)
  decidable-entry e fault.Section section block = section
  decidable-entry e fault.Item section block =
      decidable-ForSome (Contains (names (items_in before)))
      (λ x. decidable-Contains decidable-text (names (items_in before)) x) (item_of e)
  decidable-entry e fault.Twice section block =
      decidable-All (λ f. (x : Name) → Repeats x f e → ⊥) (λ f. decidable-first f e) (entries_in before)
  decidable-entry e fault.ReadValue section block = decidable-read e
  decidable-entry e fault.RankOrder section block =
      decidable-All (λ f. RiseInRank c.decisions f e) (λ f. decidable-rise c.decisions f e) (entries_in before)
  decidable-entry e fault.Block section block = block
  decidable-entry e fault.End section block =
      decidable-both (decidable-number c.decisions e)
      (decidable-All (λ f. IsEnd f
      → tx_of f ≢ tx_of e)
      (λ f. decidable-if (decidable-end f) (λ ends. decidable-not (cases_eq (tx_of f) (tx_of e))))
      (entries_in before))
  decidable-entry e fault.DecisionOrder section block =
      decidable-All (λ f. EndInOrder c.decisions f e) (λ f. decidable-in_order c.decisions f e) (entries_in before)
  decidable-entry e _ section block = inl tt

  -- ---- the block that is open

  goes-on : (f : Entry) (line : SectionLine) → Decidable ((e : Entry) × (line ≡ Logged e) × Continues f e)
  goes-on f (Logged e) =
      decidable-as (λ on. (e, refl, on)) (λ h. let same = h.1 in let is : h.0 ≡ e = cc in subst (Continues f) is h.2)
      (decidable-continues f e)
  goes-on f (Site k) = inr (λ h. let same = h.1 in cc)
  goes-on f (Initial x) = inr (λ h. let same = h.1 in cc)
  goes-on f (Final x) = inr (λ h. let same = h.1 in cc)
  goes-on f End = inr (λ h. let same = h.1 in cc)

  decidable-block : (line : SectionLine) (o : Option SectionLine)
      → Decidable ((f : Entry) → o ≡ Some (Logged f) → IsOpen f → (e : Entry) × (line ≡ Logged e) × Continues f e)
  decidable-block line (Some (Logged g)) =
      decidable-as
      (λ on f e. let same : g ≡ f = cc in
      subst (λ f. IsOpen f → (e : Entry) × (line ≡ Logged e) × Continues f e) same on)
      (λ all. all g refl) (decidable-if (decidable-open g) (λ opens. goes-on g line))
  decidable-block line _ = inl (λ f e. absurd cc)

  -- ---- each rule

  module _ (held : HasBegun c before) where
    decidable-last : (f : Fault) → (fault_number fault.Section < fault_number f → Begins c.sites (before ++ End ∷ []))
        → Decidable (Keeps c before End fault.Block) → Decidable (Keeps c before End f)
    decidable-last fault.Section below block = decidable-begins c before held End
    decidable-last fault.Block below block = block
    decidable-last fault.NotEnded below block = decidable-ended (entries_in before)
    decidable-last fault.WalkStep below block =
        decidable-as (λ behind logs each e. behind logs each e) (λ behind logs each e. behind logs each e)
        (decidable-behind c (before ++ End ∷ []) (more-begun c before held End (below (lit< tt))))
    decidable-last _ below block = inl tt

    decidable-other : (line : SectionLine) (f : Fault)
        → (fault_number fault.Section < fault_number f → Begins c.sites (before ++ line ∷ []))
        → Decidable (Keeps c before line fault.Block) → Decidable (Keeps c before line f)
    decidable-other (Logged e) f below block = decidable-entry e f (decidable-begins c before held (Logged e)) block
    decidable-other End f below block = decidable-last f below block
    decidable-other (Final h) fault.NotEnded below block = decidable-ended (entries_in before)
    decidable-other (Final h) fault.Final below block =
        decidable-value cases_eq (value_at (items_in before) (entries_in before) h.item) h.value
    decidable-other line fault.Section below block = decidable-begins c before held line
    decidable-other line fault.Block below block = block
    decidable-other _ _ below block = inl tt

    -- the rule of walks is asked for only where the sections go on with the line
    pub decidable-keeps : (line : SectionLine) (f : Fault)
        → (fault_number fault.Section < fault_number f → Begins c.sites (before ++ line ∷ []))
        → Decidable (Keeps c before line f)
    decidable-keeps line f below = decidable-other line f below (decidable-block line (last_or None before))
