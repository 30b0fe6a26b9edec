-- A chain with one more bundle.
use Rattle.std.proofs.Common.{◌≡◌, ℕ, suc, ◌+◌, ◌-◌, ◌<◌, Bool, List, [], ◌∷◌, ◌++◌, length, Option, Some, sym, ap, ap₂, ◌∙◌, arith, inl, inr}
use Rattle.std.specs.Prelude.{slice_get, option_map, count_by, IfSome, IfOk, Result, Ok, Err}
use Rattle.std.proofs.lemmas.Bool.{cases_lt}
use Rattle.std.proofs.lemmas.List.{length-append}
use Rattle.std.proofs.lemmas.List.Elements.{All-push}
use Rattle.std.proofs.lemmas.List.Sums.{sum_by_push}
use Rattle.std.proofs.lemmas.Option.{same_Some, slice_get_within}
use Rattle.sgt_names.specs.declared.entry.Holding.{Holding}
use Rattle.sgt_names.proofs.Lists.{front_at, middle_at, within_at}
use Rattle.sgt_bundle.specs.Parts.{Parts}
use Rattle.sgt_bundle.specs.Valid.{IsValid}
use Rattle.sgt_bundle.specs.Text.{Spells}
use Rattle.sgt_bundle.specs.declared.certificate.Decision.{Decision}
use Rattle.sgt_bundle.specs.Certificate.{is_commit, is_refusal, is_withdrawal}
use Rattle.sgt_audit_chain.specs.Audited.{SpellEach, counts_of, total}
use Rattle.sgt_audit_chain.specs.Chain.{IsChain, final_values, initial_values, values_behind}
use Rattle.sgt_audit_chain.specs.Sums.{in_64_bits}
use Rattle.sgt_audit_chain.specs.declared.counts.Counts.{Counts}

-- the last of them
pub behind-next : (bundles : List Parts) (b : Parts) → values_behind (bundles ++ b ∷ []) ≡ Some (final_values b)
behind-next bundles b =
    let long = length-append bundles (b ∷ []) in
    let end : length (bundles ++ b ∷ []) - 1 ≡ length bundles = omega (arith, long) in
    ap (λ n. option_map final_values (slice_get (bundles ++ b ∷ []) n)) end
    ∙ ap (option_map final_values) (middle_at bundles b [])

pub behind-last : (bundles : List Parts) (n : ℕ) (b : Parts) → slice_get bundles n ≡ Some b → suc n ≡ length bundles
    → values_behind bundles ≡ Some (final_values b)
behind-last bundles n b at last =
    let end : length bundles - 1 ≡ n = omega arith in
    ap (λ n. option_map final_values (slice_get bundles n)) end ∙ ap (option_map final_values) at

-- in front of the one more
pub earlier : (bundles : List Parts) (b c : Parts) (n : ℕ) → n < length bundles
    → slice_get (bundles ++ b ∷ []) n ≡ Some c → slice_get bundles n ≡ Some c
earlier bundles b c n within at =
    let here = within_at bundles n within in
    here.1 ∙ sym (front_at bundles (b ∷ []) n here.0 here.1) ∙ at

pub chain-next : (bundles : List Parts) (b : Parts) → IsChain bundles → IsValid b
    → ((left : List (List Holding)) → values_behind bundles ≡ Some left → initial_values b ≡ left)
    → IsChain (bundles ++ b ∷ [])
chain-next bundles b chain valid on = record {
  valid = All-push IsValid bundles b chain.valid valid;
  goes_on = λ n c d f g.
      let long = length-append bundles (b ∷ []) in
      let within = slice_get_within (bundles ++ b ∷ []) (suc n) d g in
      let before = earlier bundles b c n (omega (arith, within, long)) f in
      elim (cases_lt (suc n) (length bundles)) [
        | inl less ↦ chain.goes_on n c d before (earlier bundles b d (suc n) less g)
        | inr upto ↦
            let last : suc n ≡ length bundles = omega (arith, within, long, upto) in
            let same = same_Some d b (sym g ∙ ap (slice_get (bundles ++ b ∷ [])) last ∙ middle_at bundles b []) in
            ap initial_values same ∙ on (final_values c) (behind-last bundles n c before last)
      ];
}

-- one more sum
pub total-next : (kind : Decision → Bool) (bundles : List Parts) (b : Parts) (n m : ℕ)
    → n ≡ in_64_bits (total kind bundles) → m ≡ in_64_bits (n + count_by kind b.certificate.decisions)
    → m ≡ in_64_bits (total kind (bundles ++ b ∷ []))
total-next kind bundles b n m before next =
    let sum = sum_by_push (λ (b : Parts). count_by kind b.certificate.decisions) bundles b in
    omega (arith, before, next, sum)

counts-from : (committed refused withdrawn : ℕ) → Counts
counts-from committed refused withdrawn = record { committed = committed; refused = refused; withdrawn = withdrawn }

pub counts-next : (bundles : List Parts) (b : Parts) (old new : Counts) (ds : List Decision)
    → ds ≡ b.certificate.decisions → old ≡ counts_of bundles
    → new.committed ≡ in_64_bits (old.committed + count_by is_commit ds)
    → new.refused ≡ in_64_bits (old.refused + count_by is_refusal ds)
    → new.withdrawn ≡ in_64_bits (old.withdrawn + count_by is_withdrawal ds) → new ≡ counts_of (bundles ++ b ∷ [])
unfolding counts-from
counts-next bundles b old new ds same before committed refused withdrawn =
    let one = total-next is_commit bundles b old.committed new.committed (ap (λ (c : Counts). c.committed) before)
    (committed ∙ ap (λ ds. in_64_bits (old.committed + count_by is_commit ds)) same) in
    let two = total-next is_refusal bundles b old.refused new.refused (ap (λ (c : Counts). c.refused) before) (refused
    ∙ ap (λ ds. in_64_bits (old.refused + count_by is_refusal ds)) same) in
    let three =
    total-next is_withdrawal bundles b old.withdrawn new.withdrawn (ap (λ (c : Counts). c.withdrawn) before)
    (withdrawn ∙ ap (λ ds. in_64_bits (old.withdrawn + count_by is_withdrawal ds)) same) in
    ap₂ (λ r w. counts-from new.committed r w) two three
    ∙ ap (λ c. counts-from c (counts_of (bundles ++ b ∷ [])).refused (counts_of (bundles ++ b ∷ [])).withdrawn) one

-- one more text
pub spell-next : (told : List (Option (List ℕ))) (bundles : List Parts) (one : Option (List ℕ)) (b : Parts)
    → SpellEach told bundles → IfSome one (λ text. Spells text b) → SpellEach (told ++ one ∷ []) (bundles ++ b ∷ [])
spell-next [] [] one b spelled here = (here, tt)
spell-next [] (c ∷ bundles) one b spelled here = absurd spelled
spell-next (o ∷ told) [] one b spelled here = absurd spelled
spell-next (o ∷ told) (c ∷ bundles) one b spelled here = (spelled.0, spell-next told bundles one b spelled.1 here)

pub ok-map : {A E : Type 0} (P Q : A → Type 0) (r : Result A E) → ((a : A) → P a → Q a) → IfOk r P → IfOk r Q
ok-map P Q (Ok a) f h = f a h
ok-map P Q (Err e) f h = tt
