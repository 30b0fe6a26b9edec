-- What a step adds to the history.
use Rattle.std.proofs.Common.{◌≡◌, ℕ, zero, suc, ◌+◌, List, [], ◌∷◌, ◌++◌, refl, ap, sym, subst, ◌∙◌, add-one, append-nil, append_assoc}
use Rattle.sgt_names.specs.declared.draft.Touch.{Touch}
use Rattle.sgt_names.specs.Draft.{at_site}
use Rattle.sgt_certifier.specs.History.{Replays, Serves, tx_under}
use Rattle.sgt_certifier.specs.Kept.{Kept, Adds, changed_at}
use Rattle.sgt_certifier.specs.declared.call.Call.{Call}
use Rattle.sgt_certifier.specs.declared.call.Call.TheVariants as call
use Rattle.sgt_workers.specs.declared.ticket.Ending.{Ending}
use Rattle.sgt_workers.specs.declared.ticket.Ending.TheVariants.{Committed, Refused, Withdrawn}
use Rattle.sgt_service_locks.specs.Counts.{block_length}
use Rattle.sgt_service_locks.specs.Guarded.{decision_count, install_of, notes_at, notes_below, TakesBack}
use Rattle.sgt_service_locks.specs.declared.active.Active.{Active}

-- the sites below the next one
pub notes_next : (verdict : Ending) (active : Active) (n : ℕ) (a b c : List Call)
    → b ≡ a ++ notes_below verdict active n
    → c ≡ b ++ notes_at verdict active n → c ≡ a ++ notes_below verdict active (n + 1)
notes_next verdict active n a b c before here =
    here ∙ ap (λ h. h ++ notes_at verdict active n) before
    ∙ append_assoc a (notes_below verdict active n) (notes_at verdict active n)
    ∙ ap (λ k. a ++ notes_below verdict active k) (sym (add-one n))

-- a site that isn't touched
pub notes_untouched : (verdict : Ending) (active : Active) (site : ℕ) (h : List Call)
    → block_length verdict (at_site site active.draft.touched) ≡ 0 → h ≡ h ++ notes_at verdict active site
notes_untouched Committed active site h e = sym (append-nil h)
    ∙ ap (λ c. h ++ c) (sym (none (at_site site active.draft.touched) e))
  where
    none : (here : List Touch) → block_length Committed here ≡ 0
        → install_of active.tx site active.draft.touched here ≡ []
    none [] e = refl
    none (t ∷ ts) e = cc
notes_untouched Refused active site h e = sym (append-nil h)
notes_untouched Withdrawn active site h e = sym (append-nil h)

-- a touched site of a transaction that is committed, and of another one
pub notes_installed : (verdict : Ending) (active : Active) (site : ℕ) (old new : Kept) → verdict ≡ Committed
    → (block_length verdict (at_site site active.draft.touched) ≡ 0 → ⊥)
    → Adds old (call.Installed active.tx site (changed_at active.draft.touched site)) new
    → new.history ≡ old.history ++ notes_at verdict active site
notes_installed Committed active site old new is some a = a.history
    ∙ ap (λ c. old.history ++ c) (sym (one (at_site site active.draft.touched) some))
  where
    one : (here : List Touch) → (block_length Committed here ≡ 0 → ⊥)
        → install_of active.tx site active.draft.touched here ≡ call.Installed active.tx site
        (changed_at active.draft.touched site) ∷ []
    one [] some = absurd (some refl)
    one (t ∷ ts) some = refl
notes_installed Refused active site old new is some a = cc
notes_installed Withdrawn active site old new is some a = cc

pub notes_quiet : (verdict : Ending) (active : Active) (site : ℕ) (old new : Kept) → (verdict ≡ Committed → ⊥)
    → new ≡ old
    → new.history ≡ old.history ++ notes_at verdict active site
notes_quiet Committed active site old new other same = absurd (other refl)
notes_quiet Refused active site old new other same = ap (λ (k : Kept). k.history) same ∙ sym (append-nil old.history)
notes_quiet Withdrawn active site old new other same = ap (λ (k : Kept). k.history) same ∙ sym (append-nil old.history)

-- a touched site, whatever the decision was
pub noted : (verdict : Ending) (active : Active) (site : ℕ) (old new : Kept)
    → (block_length verdict (at_site site active.draft.touched) ≡ 0 → ⊥)
    → (verdict ≡ Committed → Adds old (call.Installed active.tx site (changed_at active.draft.touched site)) new)
    → ((verdict ≡ Committed → ⊥) → new ≡ old) → new.history ≡ old.history ++ notes_at verdict active site
noted Committed active site old new some adds quiet =
    notes_installed Committed active site old new refl some (adds refl)
noted Refused active site old new some adds quiet = notes_quiet Refused active site old new (λ e. cc) (quiet (λ e. cc))
noted Withdrawn active site old new some adds quiet =
    notes_quiet Withdrawn active site old new (λ e. cc) (quiet (λ e. cc))

-- a decision, then installs, then the step's end
pub joined : (a b c d notes : List Call) (first last : Call) → b ≡ a ++ first ∷ [] → c ≡ b ++ notes → d ≡ c ++ last ∷ []
    → d ≡ a ++ first ∷ (notes ++ last ∷ [])
joined a b c d notes first last e f g =
    g ∙ ap (λ h. h ++ last ∷ []) f ∙ append_assoc b notes (last ∷ []) ∙ ap (λ h. h ++ (notes ++ last ∷ [])) e
    ∙ append_assoc a (first ∷ []) (notes ++ last ∷ [])

-- a withdrawal notes nothing at the sites
no_notes : (active : Active) (n : ℕ) → notes_below Withdrawn active n ≡ []
no_notes active zero = refl
no_notes active (suc n) = append-nil (notes_below Withdrawn active n) ∙ no_notes active n

pub takes_back : (active : Active) (sites number : ℕ) (old mid new : Kept) → Replays old.history old.state
    → tx_under old.state active.handle ≡ active.tx
    → Adds old (call.Withdraw active.handle number) mid → number ≡ decision_count old
    → new.history ≡ mid.history ++ notes_below Withdrawn active sites
    → TakesBack active (record { number = number; tx = active.tx; verdict = Withdrawn }) old new
takes_back active sites number old mid new replays named a is e = record {
  replays = replays;
  named = named;
  decided = mid.state;
  serves = subst (λ n. Serves old.state (call.Withdraw active.handle n) mid.state) is a.serves;
  ticket = ap (λ n. record { number = n; tx = active.tx; verdict = Withdrawn }) is;
  history = e ∙ ap (λ notes. mid.history ++ notes) (no_notes active sites) ∙ append-nil mid.history ∙ a.history
      ∙ ap (λ n. old.history ++ call.Withdraw active.handle n ∷ []) is;
}
