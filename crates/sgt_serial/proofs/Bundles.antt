-- The run of a bundle, from its own parts.
use Rattle.std.proofs.Common.{◌≡◌, ℕ, List, map, Option, Some, None, refl, sym, ap, ◌∙◌, subst, All}
use Rattle.std.specs.Prelude.{slice_get, option_and_then}
use Rattle.std.specs.Option.{option_map}
use Rattle.std.proofs.lemmas.Option.{slice_get-map}
use Rattle.sgt_names.specs.Name.{Name}
use Rattle.sgt_names.specs.Log.{value_in}
use Rattle.sgt_names.specs.declared.entry.Holding.{Holding}
use Rattle.sgt_bundle.specs.Parts.{Parts}
use Rattle.sgt_bundle.specs.Certificate.{by_rank}
use Rattle.sgt_bundle.specs.Serial.{Store, initial_store, SerialAgrees}
use Rattle.sgt_bundle.specs.declared.bundle.SiteLog.{SiteLog}
use Rattle.sgt_serial.specs.declared.report.SiteValue.{SiteValue}
use Rattle.sgt_serial.specs.Difference.{Has, IsFirstWithout, DiffersIn, AllRunOn, store_after_all, IsFirstDifference}
use Rattle.sgt_serial.specs.Report.{finals_of}
use Rattle.sgt_serial.specs.private.Values.{store_of}
use Rattle.sgt_serial.proofs.Differences.{runs-serially}
use Rattle.sgt_serial.proofs.Running.{at_value}

mapped : {A B C : Type 0} (f : B → Option C) (g : A → B) (o : Option A)
    → option_and_then f (option_map g o) ≡ option_and_then (λ a. f (g a)) o
mapped f g None = refl
mapped f g (Some a) = refl

at_item : (sites : List SiteLog) (s : ℕ) (x : Name)
    → store_of (map (λ (log : SiteLog). log.items) sites) s x ≡ initial_store sites s x
at_item sites s x =
    ap (option_and_then (λ (items : List Holding). value_in items x))
    (slice_get-map (λ (log : SiteLog). log.items) sites s)
    ∙ mapped (λ (items : List Holding). value_in items x) (λ (log : SiteLog). log.items) (slice_get sites s)

-- the initial values
first-store : (sites : List SiteLog) → store_of (map (λ (log : SiteLog). log.items) sites) ≡ initial_store sites
first-store sites = λ i s x. at_item sites s x i

-- what is run, from which store
abbrev Start : Type 0
Start = List SiteLog × List ℕ × Store

module _ (b : Parts) (sites : List SiteLog) (txs : List ℕ) (values : List (List Holding))
    (of_sites : sites ≡ b.sites) (of_txs : txs ≡ by_rank b.certificate.decisions)
    (of_values : values ≡ map (λ (log : SiteLog). log.items) sites) where
  abbrev here : Start
  here = (sites, txs, store_of values)

  abbrev there : Start
  there = (b.sites, by_rank b.certificate.decisions, initial_store b.sites)

  start : here ≡ there
  start =
      let store = ap store_of of_values ∙ first-store sites ∙ ap initial_store of_sites in
      λ i. (of_sites i, of_txs i, store i)

  -- a difference in a transaction
  pub differs-bundle : (tx : Option ℕ) (i s : ℕ) (x : Name) → tx ≡ Some i
      → DiffersIn sites txs (store_of values) i s x → IsFirstDifference b tx s x
  differs-bundle tx i s x is d =
      subst (λ t. IsFirstDifference b t s x) (sym is) (subst (λ (p : Start). DiffersIn p.0 p.1 p.2 i s x) start d)

  module _ (last : Store) (finals : List SiteValue) (all : AllRunOn sites txs (store_of values))
      (after : (s : ℕ) (x : Name) → last s x ≡ store_after_all sites txs (store_of values) s x)
      (of_finals : finals ≡ finals_of sites) where
    end : last ≡ store_after_all sites txs (store_of values)
    end = λ i s x. after s x i

    -- a difference among the final values
    pub differs-final : (a : SiteValue) (tx : Option ℕ) (s : ℕ) (x : Name) → None ≡ tx → a.site ≡ s → a.item ≡ x
        → IsFirstWithout (Has last) finals a → IsFirstDifference b tx s x
    differs-final a tx s x is site item first =
        let at_end = subst (λ (store : Store). IsFirstWithout (Has store) finals a) end first in
        let listed =
        subst (λ (listed : List SiteValue). IsFirstWithout (Has (store_after_all sites txs (store_of values)))
        listed a) of_finals at_end in
        let moved =
        subst (λ (p : Start). AllRunOn p.0 p.1 p.2
        × IsFirstWithout (Has (store_after_all p.0 p.1 p.2)) (finals_of p.0) a) start (all, listed) in
        let placed =
        at_value (IsFirstWithout
        (Has (store_after_all b.sites (by_rank b.certificate.decisions) (initial_store b.sites)))
        (finals_of b.sites)) a s x site item moved.1 in
        subst (λ t. IsFirstDifference b t s x) is (a.value, moved.0, placed)

    -- no difference
    pub agrees-bundle : All (Has last) finals → SerialAgrees b
    agrees-bundle held =
        let at_end = subst (λ (store : Store). All (Has store) finals) end held in
        let listed = subst (All (Has (store_after_all sites txs (store_of values)))) of_finals at_end in
        let moved =
        subst (λ (p : Start). AllRunOn p.0 p.1 p.2 × All (Has (store_after_all p.0 p.1 p.2)) (finals_of p.0))
        start (all, listed) in
        runs-serially b.sites (by_rank b.certificate.decisions) (initial_store b.sites) moved.0 moved.1
