-- A text with a fault is that of no bundle that goes on.
use Rattle.std.proofs.Common.{◌≡◌, ℕ, suc, ◌-◌, List, [], ◌∷◌, ◌++◌, length, map, Option, Some, None, refl, sym, ap, ap₂, ◌∙◌, subst, arith}
use Rattle.std.specs.Prelude.{slice_get, option_map}
use Rattle.std.proofs.lemmas.Option.{none-some, same_Some, slice_get_within}
use Rattle.sgt_names.specs.declared.entry.Holding.{Holding}
use Rattle.sgt_names.proofs.Lists.{front_at, middle_at}
use Rattle.sgt_names.proofs.Places.{All_at}
use Rattle.sgt_bundle.specs.Parts.{Parts}
use Rattle.sgt_bundle.specs.Text.{Spells}
use Rattle.sgt_bundle.specs.Valid.{IsValid}
use Rattle.sgt_bundle.specs.declared.bundle.SiteLog.{SiteLog}
use Rattle.sgt_bundle.proofs.OneText.{bundle-one}
use Rattle.sgt_audit.proofs.Faultless.{valid-no_fault}
use Rattle.sgt_audit.proofs.OneFault.{first_fault-excluded}
use Rattle.sgt_audit_chain.specs.Audited.{HasFault, SpellEach}
use Rattle.sgt_audit_chain.specs.Break.{BreaksHere, FirstBreak, site_line}
use Rattle.sgt_audit_chain.specs.Chain.{IsChain, final_values, initial_of, initial_values, values_behind}
use Rattle.sgt_audit_chain.specs.declared.faults.ChainFault.{ChainFault}
use Rattle.sgt_audit_chain.specs.declared.faults.ChainFault.TheVariants.{Invalid, Broken}

-- the bundles of texts, and that of the last
spelled-last : (texts : List (List ℕ)) (text : List ℕ) (bundles : List Parts)
    → SpellEach (map Some (texts ++ text ∷ [])) bundles → (front : List Parts) × (b : Parts)
    × (bundles ≡ front ++ b ∷ []) × SpellEach (map Some texts) front × Spells text b
spelled-last [] text [] spelled = absurd spelled
spelled-last [] text (b ∷ []) spelled = ([], b, refl, tt, spelled.0)
spelled-last [] text (b ∷ c ∷ bundles) spelled = absurd spelled.1
spelled-last (t ∷ texts) text [] spelled = absurd spelled
spelled-last (t ∷ texts) text (b ∷ bundles) spelled =
    let more = spelled-last texts text bundles spelled.1 in
    (b ∷ more.0, more.1, ap (λ bs. b ∷ bs) more.2, (spelled.0, more.3), more.4)

-- texts spell bundles once
spelled-one : (texts : List (List ℕ)) (bs cs : List Parts) → SpellEach (map Some texts) bs
    → SpellEach (map Some texts) cs → bs ≡ cs
spelled-one [] [] [] one two = refl
spelled-one [] [] (c ∷ cs) one two = absurd two
spelled-one [] (b ∷ bs) cs one two = absurd one
spelled-one (t ∷ texts) [] cs one two = absurd one
spelled-one (t ∷ texts) (b ∷ bs) [] one two = absurd two
spelled-one (t ∷ texts) (b ∷ bs) (c ∷ cs) one two =
    ap₂ (λ x xs. x ∷ xs) (bundle-one t b c one.0 two.0) (spelled-one texts bs cs one.1 two.1)

breaks-none : (o : Option (List Holding)) (here line : ℕ) → BreaksHere o o here line → ⊥
breaks-none None here line breaks = breaks
breaks-none (Some items) here line breaks = breaks.2 refl

-- a bundle with a first break doesn't go on
pub break-excluded : (left : List (List Holding)) (sites : List SiteLog) (line : ℕ) → FirstBreak left sites line
    → map initial_of sites ≡ left → ⊥
break-excluded left sites line first same =
    let items = slice_get (map initial_of sites) first.site in
    breaks-none items (site_line sites first.site) line
    (subst (λ o. BreaksHere items o (site_line sites first.site) line)
    (sym (ap (λ values. slice_get values first.site) same)) first.here)

last-of : (bundles : List Parts) (o : Option Parts) → o ≡ slice_get bundles (length bundles - 1)
    → (left : List (List Holding)) → option_map final_values o ≡ Some left
    → (b : Parts) × (slice_get bundles (length bundles - 1) ≡ Some b) × (final_values b ≡ left)
last-of bundles None is left was = absurd (none-some left was)
last-of bundles (Some b) is left was = (b, sym is, same_Some (final_values b) left was)

-- one more bundle of a chain goes on
goes-on : (bundles : List Parts) (b : Parts) → IsChain (bundles ++ b ∷ []) → (left : List (List Holding))
    → values_behind bundles ≡ Some left → initial_values b ≡ left
goes-on bundles b chain left was =
    let last = last-of bundles (slice_get bundles (length bundles - 1)) refl left was in
    let within = slice_get_within bundles (length bundles - 1) last.0 last.1 in
    let end : length bundles ≡ suc (length bundles - 1) = omega (arith, within) in
    let before = front_at bundles (b ∷ []) (length bundles - 1) last.0 last.1 in
    let here = ap (slice_get (bundles ++ b ∷ [])) (sym end) ∙ middle_at bundles b [] in
    chain.goes_on (length bundles - 1) last.0 b before here ∙ last.2

last-valid : (bundles : List Parts) (b : Parts) → IsChain (bundles ++ b ∷ []) → IsValid b
last-valid bundles b chain = All_at IsValid (bundles ++ b ∷ []) (length bundles) b chain.valid (middle_at bundles b [])

fault-at : (texts : List (List ℕ)) (text : List ℕ) (line : ℕ) (fault : ChainFault) (front : List Parts) (b : Parts)
    → HasFault (map Some texts) text line fault → SpellEach (map Some texts) front → Spells text b
    → IsChain (front ++ b ∷ []) → ⊥
fault-at texts text line (Invalid fault) front b first spelled here chain =
    first_fault-excluded text line fault first (valid-no_fault text b here (last-valid front b chain))
fault-at texts text line Broken front b found spelled here chain =
    let one = found.3 in
    let off = one.3 in
    let bundles = spelled-one texts found.0 front found.1 spelled in
    let same = bundle-one text one.0 b one.1 here in
    let on = goes-on front b chain off.0 (subst (λ bs. values_behind bs ≡ Some off.0) bundles off.1) in
    break-excluded off.0 one.0.sites off.2.0 off.2.1 (ap initial_values same ∙ on)

-- with it the texts are no chain
pub fault-excluded : (texts : List (List ℕ)) (text : List ℕ) (line : ℕ) (fault : ChainFault)
    → HasFault (map Some texts) text line fault → (bundles : List Parts)
    → SpellEach (map Some (texts ++ text ∷ [])) bundles → IsChain bundles → ⊥
fault-excluded texts text line fault found bundles spelled chain =
    let last = spelled-last texts text bundles spelled in
    fault-at texts text line fault last.0 last.1 found last.3 last.4 (subst IsChain last.2 chain)
