-- The least fault of a line, rule after rule in rising number.
use Rattle.std.proofs.Common.{◌≡◌, ◌≢◌, ℕ, ◌+◌, List, [], ◌∷◌, ◌++◌, Some, None, refl, sym, ap₂, ◌∙◌, subst, arith, inl, inr, All, Contains, Option}
use Rattle.std.specs.Prelude.{◌↔◌}
use Rattle.std.specs.List.{last_or}
use Rattle.std.specs.Option.{ForSome}
use Rattle.std.proofs.lemmas.Bool.{cases_order}
use Rattle.sgt_names.specs.Name.{Name}
use Rattle.sgt_names.specs.Entry.{tx_of, item_of, IsEnd, Repeats}
use Rattle.sgt_names.specs.Log.{names, value_at, AllEnded}
use Rattle.sgt_names.specs.declared.entry.Entry.{Entry}
use Rattle.sgt_names.specs.declared.entry.Entry.TheVariants as entry
use Rattle.sgt_names.specs.declared.entry.Holding.{Holding}
use Rattle.sgt_notation.specs.declared.SectionLine.{SectionLine}
use Rattle.sgt_notation.specs.declared.SectionLine.TheVariants.{Site, Logged, Final, End}
use Rattle.sgt_bundle.specs.Valid.{IsDecided, EndInOrder, RiseInRank}
use Rattle.sgt_bundle.specs.Text.{Begins}
use Rattle.sgt_bundle.specs.declared.certificate.Certificate.{Certificate}
use Rattle.sgt_bundle.specs.declared.bundle.SiteLog.{SiteLog}
use Rattle.sgt_audit.specs.declared.faults.Fault.{Fault}
use Rattle.sgt_audit.specs.declared.faults.Fault.TheVariants as fault
use Rattle.sgt_audit.specs.Faults.{fault_number, items_in, entries_in, Keeps, Breaks}
use Rattle.sgt_audit.specs.Rules.{KeepsBy, OfCertificate}
use Rattle.sgt_audit.specs.declared.rules.Rules.{Rules}
use Rattle.sgt_audit.specs.declared.rules.Rules.TheVariants.{Asked, Certified}
use Rattle.sgt_audit.specs.private.Judging.{IsLegalRead, ContinuesLog, HasOpen, JudgedLine, KeptBelow}
use Rattle.sgt_audit.proofs.FaultNumbers.{number-one}

-- the rule of number n is kept too
pub kept-next : (rule : Fault → Type 0) (n : ℕ) (f : Fault) → fault_number f ≡ n → KeptBelow rule n → rule f
    → KeptBelow rule (n + 1)
kept-next rule n f is kept r g lt =
    elim (cases_order (fault_number g) n) [
      | inl same ↦ subst rule (sym (number-one g f (same ∙ sym is))) r
      | inr (inl less) ↦ kept g less
      | inr (inr more) ↦ absurd (omega arith)
    ]

-- it is the least that is broken
pub least-at : (rule : Fault → Type 0) (n : ℕ) (f : Fault) → fault_number f ≡ n → KeptBelow rule n → (rule f → ⊥)
    → Breaks rule f
least-at rule n f is kept broken = record { broken = broken; least = λ g lt. kept g (omega arith) }

-- ---- what no line of its kind can break

pub logged-7 : (c : Certificate) (before : List SectionLine) (e : Entry) → KeptBelow (Keeps c before (Logged e)) 7
logged-7 c before e fault.Section lt = absurd (omega arith)
logged-7 c before e fault.Item lt = absurd (omega arith)
logged-7 c before e fault.Twice lt = absurd (omega arith)
logged-7 c before e fault.ReadValue lt = absurd (omega arith)
logged-7 c before e fault.RankOrder lt = absurd (omega arith)
logged-7 c before e fault.Block lt = absurd (omega arith)
logged-7 c before e fault.End lt = absurd (omega arith)
logged-7 c before e fault.DecisionOrder lt = absurd (omega arith)
logged-7 c before e fault.NotEnded lt = absurd (omega arith)
logged-7 c before e fault.Final lt = absurd (omega arith)
logged-7 c before e fault.WalkStep lt = absurd (omega arith)
logged-7 c before e fault.Truncated lt = absurd (omega arith)
logged-7 c before e fault.Trailing lt = absurd (omega arith)
logged-7 c before e _ lt = tt

pub final-7 : (c : Certificate) (before : List SectionLine) (h : Holding) → KeptBelow (Keeps c before (Final h)) 7
final-7 c before h fault.Section lt = absurd (omega arith)
final-7 c before h fault.Item lt = absurd (omega arith)
final-7 c before h fault.Twice lt = absurd (omega arith)
final-7 c before h fault.ReadValue lt = absurd (omega arith)
final-7 c before h fault.RankOrder lt = absurd (omega arith)
final-7 c before h fault.Block lt = absurd (omega arith)
final-7 c before h fault.End lt = absurd (omega arith)
final-7 c before h fault.DecisionOrder lt = absurd (omega arith)
final-7 c before h fault.NotEnded lt = absurd (omega arith)
final-7 c before h fault.Final lt = absurd (omega arith)
final-7 c before h fault.WalkStep lt = absurd (omega arith)
final-7 c before h fault.Truncated lt = absurd (omega arith)
final-7 c before h fault.Trailing lt = absurd (omega arith)
final-7 c before h _ lt = tt

pub end-7 : (c : Certificate) (before : List SectionLine) → KeptBelow (Keeps c before End) 7
end-7 c before fault.Section lt = absurd (omega arith)
end-7 c before fault.Item lt = absurd (omega arith)
end-7 c before fault.Twice lt = absurd (omega arith)
end-7 c before fault.ReadValue lt = absurd (omega arith)
end-7 c before fault.RankOrder lt = absurd (omega arith)
end-7 c before fault.Block lt = absurd (omega arith)
end-7 c before fault.End lt = absurd (omega arith)
end-7 c before fault.DecisionOrder lt = absurd (omega arith)
end-7 c before fault.NotEnded lt = absurd (omega arith)
end-7 c before fault.Final lt = absurd (omega arith)
end-7 c before fault.WalkStep lt = absurd (omega arith)
end-7 c before fault.Truncated lt = absurd (omega arith)
end-7 c before fault.Trailing lt = absurd (omega arith)
end-7 c before _ lt = tt

pub site-7 : (c : Certificate) (before : List SectionLine) (k : ℕ) → KeptBelow (Keeps c before (Site k)) 7
site-7 c before k fault.Section lt = absurd (omega arith)
site-7 c before k fault.Item lt = absurd (omega arith)
site-7 c before k fault.Twice lt = absurd (omega arith)
site-7 c before k fault.ReadValue lt = absurd (omega arith)
site-7 c before k fault.RankOrder lt = absurd (omega arith)
site-7 c before k fault.Block lt = absurd (omega arith)
site-7 c before k fault.End lt = absurd (omega arith)
site-7 c before k fault.DecisionOrder lt = absurd (omega arith)
site-7 c before k fault.NotEnded lt = absurd (omega arith)
site-7 c before k fault.Final lt = absurd (omega arith)
site-7 c before k fault.WalkStep lt = absurd (omega arith)
site-7 c before k fault.Truncated lt = absurd (omega arith)
site-7 c before k fault.Trailing lt = absurd (omega arith)
site-7 c before k _ lt = tt

-- ---- by which rules

of-certificate : (rules : Rules) (asked : Type 0) → asked → OfCertificate rules asked
of-certificate Certified asked is = is
of-certificate Asked asked is = tt

-- by a certificate it is asked
pub asked-of : (rules : Rules) (asked : Type 0) → rules ≡ Certified → OfCertificate rules asked → asked
asked-of rules asked by is = subst (λ r. OfCertificate r asked) by is

pub told-of : (rules : Rules) (told asked : Type 0) → rules ≡ Certified → told ↔ asked → told ↔ OfCertificate rules asked
told-of rules told asked by is = subst (λ r. told ↔ OfCertificate r asked) (sym by) is

-- what keeps a rule keeps it whichever are judged
pub by-any : (rules : Rules) (c : Certificate) (before : List SectionLine) (line : SectionLine) (f : Fault)
    → Keeps c before line f → KeepsBy rules c before line f
by-any rules c before line fault.RankOrder is = of-certificate rules (Keeps c before line fault.RankOrder) is
by-any rules c before line fault.DecisionOrder is = of-certificate rules (Keeps c before line fault.DecisionOrder) is
by-any rules c before line fault.WalkStep is = of-certificate rules (Keeps c before line fault.WalkStep) is
by-any rules c before line f is = is

pub below-any : (rules : Rules) (c : Certificate) (before : List SectionLine) (line : SectionLine) (n : ℕ)
    → KeptBelow (Keeps c before line) n → KeptBelow (KeepsBy rules c before line) n
below-any rules c before line n kept f lt = by-any rules c before line f (kept f lt)

-- and breaks it, where it is judged
pub breaks-any : (rules : Rules) (c : Certificate) (before : List SectionLine) (line : SectionLine) (f : Fault)
    → (KeepsBy rules c before line f → Keeps c before line f) → Breaks (Keeps c before line) f
    → Breaks (KeepsBy rules c before line) f
breaks-any rules c before line f back breaks = record {
  broken = λ is. breaks.broken (back is);
  least = λ g lt. by-any rules c before line g (breaks.least g lt);
}

-- by a certificate all are judged
by-all : (c : Certificate) (before : List SectionLine) (line : SectionLine) (f : Fault)
    → KeepsBy Certified c before line f → Keeps c before line f
by-all c before line fault.RankOrder is = is
by-all c before line fault.DecisionOrder is = is
by-all c before line fault.WalkStep is = is
by-all c before line f is = is

pub judged-all : (c : Certificate) (before : List SectionLine) (line : SectionLine) (o : Option Fault)
    → JudgedLine (KeepsBy Certified c before line) o → JudgedLine (Keeps c before line) o
judged-all c before line None kept = λ f lt. by-all c before line f (kept f lt)
judged-all c before line (Some f) breaks = record {
  broken = λ is. breaks.broken (by-any Certified c before line f is);
  least = λ g lt. by-all c before line g (breaks.least g lt);
}

-- ---- an entry

module _ (rules : Rules) (c : Certificate) (before : List SectionLine) (e : Entry) (log : SiteLog)
    (o : HasOpen before log) (begins : Begins c.sites (before ++ Logged e ∷ [])) where
  abbrev rule : Fault → Type 0
  rule = KeepsBy rules c before (Logged e)

  upto-8 : KeptBelow rule 8
  upto-8 = kept-next rule 7 fault.Section refl (below-any rules c before (Logged e) 7 (logged-7 c before e)) begins

  pub item-broken : (ForSome (item_of e) (Contains (names log.items)) → ⊥) → Breaks rule fault.Item
  item-broken miss =
      least-at rule 8 fault.Item refl upto-8
      (λ r. miss (subst (λ items. ForSome (item_of e) (Contains (names items))) o.items r))

  abbrev FirstIn : List Entry → Type 0
  FirstIn entries = All (λ f. (x : Name) → Repeats x f e → ⊥) entries

  abbrev RisesIn : List Entry → Type 0
  RisesIn entries = OfCertificate rules (All (λ f. RiseInRank c.decisions f e) entries)

  abbrev ActiveIn : List Entry → Type 0
  ActiveIn entries = ((number : ℕ) × IsDecided c.decisions e number) × All (λ f. IsEnd f → tx_of f ≢ tx_of e) entries

  abbrev InOrderIn : List Entry → Type 0
  InOrderIn entries = OfCertificate rules (All (λ f. EndInOrder c.decisions f e) entries)

  legal-keeps : (e : Entry) → IsLegalRead (items_in before) (entries_in before) e
      → Keeps c before (Logged e) fault.ReadValue
  legal-keeps (entry.Read tx x v) h = h
  legal-keeps (entry.Write tx x v) h = tt
  legal-keeps (entry.Add tx x v) h = tt
  legal-keeps (entry.Want tx x v) h = tt
  legal-keeps (entry.WantAdd tx x v) h = tt
  legal-keeps (entry.Commit tx) h = tt
  legal-keeps (entry.Refuse tx) h = tt
  legal-keeps (entry.Withdraw tx) h = tt

  keeps-legal : (e : Entry) → Keeps c before (Logged e) fault.ReadValue
      → IsLegalRead (items_in before) (entries_in before) e
  keeps-legal (entry.Read tx x v) h = h
  keeps-legal (entry.Write tx x v) h = tt
  keeps-legal (entry.Add tx x v) h = tt
  keeps-legal (entry.Want tx x v) h = tt
  keeps-legal (entry.WantAdd tx x v) h = tt
  keeps-legal (entry.Commit tx) h = tt
  keeps-legal (entry.Refuse tx) h = tt
  keeps-legal (entry.Withdraw tx) h = tt

  legal-at : (xs ys : List Holding) (us vs : List Entry) → xs ≡ ys → us ≡ vs → IsLegalRead xs us e → IsLegalRead ys vs e
  legal-at xs ys us vs i j h = subst (λ es. IsLegalRead ys es e) j (subst (λ is. IsLegalRead is us e) i h)

  module _ (known : ForSome (item_of e) (Contains (names log.items))) where
    upto-9 : KeptBelow rule 9
    upto-9 = kept-next rule 8 fault.Item refl upto-8 (subst (λ items. ForSome (item_of e) (Contains (names items)))
        (sym o.items) known)

    pub twice-broken : (FirstIn log.entries → ⊥) → Breaks rule fault.Twice
    twice-broken miss = least-at rule 9 fault.Twice refl upto-9 (λ r. miss (subst FirstIn o.entries r))

    module _ (first : FirstIn log.entries) where
      upto-10 : KeptBelow rule 10
      upto-10 = kept-next rule 9 fault.Twice refl upto-9 (subst FirstIn (sym o.entries) first)

      pub value-broken : (IsLegalRead log.items log.entries e → ⊥) → Breaks rule fault.ReadValue
      value-broken miss =
          least-at rule 10 fault.ReadValue refl upto-10
          (λ r. miss (legal-at (items_in before) log.items (entries_in before) log.entries o.items o.entries
          (keeps-legal e r)))

      module _ (legal : IsLegalRead log.items log.entries e) where
        upto-11 : KeptBelow rule 11
        upto-11 =
            kept-next rule 10 fault.ReadValue refl upto-10
            (legal-keeps e (legal-at log.items (items_in before) log.entries (entries_in before) (sym o.items)
            (sym o.entries) legal))

        pub rank-broken : (RisesIn log.entries → ⊥) → Breaks rule fault.RankOrder
        rank-broken miss =
            least-at rule 11 fault.RankOrder refl upto-11 (λ r. miss (subst RisesIn o.entries r))

        module _ (rises : RisesIn log.entries) where
          upto-12 : KeptBelow rule 12
          upto-12 = kept-next rule 11 fault.RankOrder refl upto-11 (subst RisesIn (sym o.entries) rises)

          pub block-broken : (ContinuesLog log (Logged e) → ⊥) → Breaks rule fault.Block
          block-broken miss =
              least-at rule 12 fault.Block refl upto-12 (λ r. miss (λ f none at. r f (o.entry_last f none at)))

          module _ (goes : ContinuesLog log (Logged e)) where
            upto-13 : KeptBelow rule 13
            upto-13 = kept-next rule 12 fault.Block refl upto-12 (λ f last. goes f (o.last f last).0 (o.last f last).1)

            pub end-broken : (ActiveIn log.entries → ⊥) → Breaks rule fault.End
            end-broken miss = least-at rule 13 fault.End refl upto-13 (λ r. miss (subst ActiveIn o.entries r))

            module _ (active : ActiveIn log.entries) where
              upto-14 : KeptBelow rule 14
              upto-14 = kept-next rule 13 fault.End refl upto-13 (subst ActiveIn (sym o.entries) active)

              pub order-broken : (InOrderIn log.entries → ⊥) → Breaks rule fault.DecisionOrder
              order-broken miss =
                  least-at rule 14 fault.DecisionOrder refl upto-14 (λ r. miss (subst InOrderIn o.entries r))

              pub entry-kept : InOrderIn log.entries → KeptBelow rule 17
              entry-kept ordered =
                  let upto-15 =
                  kept-next rule 14 fault.DecisionOrder refl upto-14 (subst InOrderIn (sym o.entries) ordered) in
                  kept-next rule 16 fault.Final refl (kept-next rule 15 fault.NotEnded refl upto-15 tt) tt

-- ---- a final value, and the end

module _ (c : Certificate) (before : List SectionLine) (h : Holding) (log : SiteLog) (o : HasOpen before log)
    (begins : Begins c.sites (before ++ Final h ∷ [])) where
  abbrev final_rule : Fault → Type 0
  final_rule = Keeps c before (Final h)

  final-12 : KeptBelow final_rule 12
  final-12 =
      let upto-8 = kept-next final_rule 7 fault.Section refl (final-7 c before h) begins in
      kept-next final_rule 11 fault.RankOrder refl
      (kept-next final_rule 10 fault.ReadValue refl
      (kept-next final_rule 9 fault.Twice refl (kept-next final_rule 8 fault.Item refl upto-8 tt) tt) tt) tt

  module _ (goes : ContinuesLog log (Final h)) where
    final-15 : KeptBelow final_rule 15
    final-15 =
        let upto-13 =
        kept-next final_rule 12 fault.Block refl final-12 (λ f last. goes f (o.last f last).0 (o.last f last).1) in
        kept-next final_rule 14 fault.DecisionOrder refl (kept-next final_rule 13 fault.End refl upto-13 tt) tt

    pub final-ended : (AllEnded log.entries → ⊥) → Breaks final_rule fault.NotEnded
    final-ended miss = least-at final_rule 15 fault.NotEnded refl final-15 (λ r. miss (subst AllEnded o.entries r))

    module _ (ended : AllEnded log.entries) where
      final-16 : KeptBelow final_rule 16
      final-16 = kept-next final_rule 15 fault.NotEnded refl final-15 (subst AllEnded (sym o.entries) ended)

      value-is : value_at (items_in before) (entries_in before) h.item ≡ value_at log.items log.entries h.item
      value-is = ap₂ (λ is es. value_at is es h.item) o.items o.entries

      pub final-value : (value_at log.items log.entries h.item ≡ Some h.value → ⊥) → Breaks final_rule fault.Final
      final-value miss = least-at final_rule 16 fault.Final refl final-16 (λ r. miss (sym value-is ∙ r))

      pub final-kept : value_at log.items log.entries h.item ≡ Some h.value → KeptBelow final_rule 17
      final-kept value = kept-next final_rule 16 fault.Final refl final-16 (value-is ∙ value)

module _ (c : Certificate) (before : List SectionLine) (log : SiteLog) (o : HasOpen before log)
    (begins : Begins c.sites (before ++ End ∷ [])) where
  abbrev end_rule : Fault → Type 0
  end_rule = Keeps c before End

  end-12 : KeptBelow end_rule 12
  end-12 =
      let upto-8 = kept-next end_rule 7 fault.Section refl (end-7 c before) begins in
      kept-next end_rule 11 fault.RankOrder refl
      (kept-next end_rule 10 fault.ReadValue refl
      (kept-next end_rule 9 fault.Twice refl (kept-next end_rule 8 fault.Item refl upto-8 tt) tt) tt) tt

  module _ (goes : ContinuesLog log End) where
    end-15 : KeptBelow end_rule 15
    end-15 =
        let upto-13 =
        kept-next end_rule 12 fault.Block refl end-12 (λ f last. goes f (o.last f last).0 (o.last f last).1) in
        kept-next end_rule 14 fault.DecisionOrder refl (kept-next end_rule 13 fault.End refl upto-13 tt) tt

    pub end-ended : (AllEnded log.entries → ⊥) → Breaks end_rule fault.NotEnded
    end-ended miss = least-at end_rule 15 fault.NotEnded refl end-15 (λ r. miss (subst AllEnded o.entries r))

    pub end-kept : AllEnded log.entries → KeptBelow end_rule 17
    end-kept ended =
        kept-next end_rule 16 fault.Final refl
        (kept-next end_rule 15 fault.NotEnded refl end-15 (subst AllEnded (sym o.entries) ended)) tt

-- ---- an item, and a site

-- no entry is open in front
abbrev pub IsClosed : List SectionLine → Type 0
IsClosed lines = (e : Entry) → last_or None lines ≡ Some (Logged e) → ⊥

pub site-kept : (c : Certificate) (before : List SectionLine) (k : ℕ) → IsClosed before
    → Begins c.sites (before ++ Site k ∷ []) → KeptBelow (Keeps c before (Site k)) 17
site-kept c before k closed begins =
    let rule = Keeps c before (Site k) in
    let upto-8 = kept-next rule 7 fault.Section refl (site-7 c before k) begins in
    let upto-12 =
    kept-next rule 11 fault.RankOrder refl
    (kept-next rule 10 fault.ReadValue refl
    (kept-next rule 9 fault.Twice refl (kept-next rule 8 fault.Item refl upto-8 tt) tt) tt) tt in
    let upto-13 = kept-next rule 12 fault.Block refl upto-12 (λ f last is_open. absurd (closed f last)) in
    kept-next rule 16 fault.Final refl
    (kept-next rule 15 fault.NotEnded refl
    (kept-next rule 14 fault.DecisionOrder refl (kept-next rule 13 fault.End refl upto-13 tt) tt) tt) tt
