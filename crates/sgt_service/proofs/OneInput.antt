-- An input of a run is one of sites and, behind them, scripts over them: what one more line can be.
use Rattle.std.proofs.Common.{◌≡◌, ◌≢◌, ℕ, ◌+◌, ◌≤◌, List, [], ◌∷◌, ◌++◌, length, map, refl, sym, ap, ◌∙◌, subst, arith, inl, inr, ◌⊎◌}
use Rattle.std.specs.Prelude.{All, Any, Option, Some, None, Bool, true, false, Result, Ok, Err, IfOk, slice_get}
use Rattle.std.specs.List.{join_with_byte}
use Rattle.std.proofs.lemmas.List.{append-nil}
use Rattle.std.proofs.lemmas.List.Elements.{All-head, recursion_from_All}
use Rattle.std.proofs.lemmas.Option.{same_Some, slice_get_within}
use Rattle.sgt_names.specs.Limits.{max_scripts}
use Rattle.sgt_names.specs.Name.{Name}
use Rattle.sgt_names.specs.declared.entry.Holding.{Holding}
use Rattle.sgt_notation.specs.Events.{IsSiteLine, site_text}
use Rattle.sgt_notation.specs.Scripts.{IsScript, op_text, script_text}
use Rattle.sgt_notation.specs.Reading.{SpellsNone}
use Rattle.sgt_notation.specs.declared.script.Op.{Op}
use Rattle.sgt_notation.specs.declared.script.Op.TheVariants.{Read, Put, Add, Sum}
use Rattle.sgt_notation.specs.declared.script.Script.{Script}
use Rattle.sgt_notation.specs.declared.event.SiteLine.{SiteLine}
use Rattle.sgt_notation.proofs.Decidable.{Decidable, decidable-All, decidable-Any, decidable-as, decidable-both, decidable-most, decidable-text}
use Rattle.sgt_notation.proofs.OneScript.{script-no_lf, script-one}
use Rattle.sgt_notation.proofs.OneSpelling.{apart}
use Rattle.sgt_input.proofs.Sited.{IsKind}
use Rattle.sgt_input.proofs.SitedLines as sited
use Rattle.sgt_service.specs.declared.input.Input.{Input}
use Rattle.sgt_service.specs.Input.{Begins, HasPlace, IsBegun, IsPlaced, IsScriptOver, input_lines}
use Rattle.sgt_service.specs.private.Taking.{Takes, TakesScript}
use Rattle.sgt_service.proofs.SearchedScripts.{searched-scripts}

-- no script is spelled like a site
op-no_site : (l : SiteLine) (op : Op) (rest : List ℕ) → site_text l ≡ op_text op ++ rest → ⊥
op-no_site l (Read s x) rest same = absurd (apart (site_text l) (op_text (Read s x) ++ rest) refl same)
op-no_site l (Put s x v) rest same = absurd (apart (site_text l) (op_text (Put s x v) ++ rest) refl same)
op-no_site l (Add s x v) rest same = absurd (apart (site_text l) (op_text (Add s x v) ++ rest) refl same)
op-no_site l (Sum s x t y v) rest same = absurd (apart (site_text l) (op_text (Sum s x t y v) ++ rest) refl same)

ops-no_site : (l : SiteLine) (ops : List Op) → 1 ≤ length ops → site_text l ≡ join_with_byte 32 (map op_text ops) → ⊥
ops-no_site l [] some same = omega (arith, some)
ops-no_site l (op ∷ []) some same = op-no_site l op [] (same ∙ sym (append-nil (op_text op)))
ops-no_site l (op ∷ next ∷ ops) some same = op-no_site l op (32 ∷ join_with_byte 32 (map op_text (next ∷ ops))) same

script-no_site : (l : SiteLine) (s : Script) → IsScript s → site_text l ≡ script_text s → ⊥
script-no_site l s is same = ops-no_site l s.operations is.some same

-- nor is there one over no site
op-somewhere : (op : Op) → IsPlaced [] op → ⊥
op-somewhere (Read s x) is = absurd (let w = slice_get_within [] s is.0 is.1 in omega (arith, w))
op-somewhere (Put s x v) is = absurd (let w = slice_get_within [] s is.0 is.1 in omega (arith, w))
op-somewhere (Add s x v) is = absurd (let w = slice_get_within [] s is.0 is.1 in omega (arith, w))
op-somewhere (Sum s x t y v) is = absurd (let w = slice_get_within [] s is.0 is.1 in omega (arith, w))

ops-somewhere : (ops : List Op) → 1 ≤ length ops → All (IsPlaced []) ops → ⊥
ops-somewhere [] some all = omega (arith, some)
ops-somewhere (op ∷ ops) some all = op-somewhere op (All-head (IsPlaced []) op ops all)

scripts-somewhere : (ss : List Script) → All (IsScriptOver []) ss → ss ≡ []
scripts-somewhere [] all = refl
scripts-somewhere (s ∷ ss) all =
    let is = All-head (IsScriptOver []) s ss all in absurd (ops-somewhere s.operations is.0.some is.1)

-- ---- scripts over sites

decidable-place : (sites : List SiteLine) (s : ℕ) (x : Name) → Decidable (HasPlace sites s x)
decidable-place sites s x = from (slice_get sites s) refl
  where
    from : (o : Option SiteLine) → slice_get sites s ≡ o → Decidable (HasPlace sites s x)
    from None none = inr (λ h. let same : None ≡ Some h.0 = sym none ∙ h.1 in cc)
    from (Some l) is =
        decidable-as (λ p. (l, is, p)) (λ h. subst (λ (m : SiteLine). Any (λ (g : Holding). g.item ≡ x) m.items)
        (same_Some h.0 l (sym h.1 ∙ is)) h.2)
        (decidable-Any (λ (g : Holding). g.item ≡ x) (λ g. decidable-text g.item x) l.items)

decidable-placed : (sites : List SiteLine) (op : Op) → Decidable (IsPlaced sites op)
decidable-placed sites (Read s x) = decidable-place sites s x
decidable-placed sites (Put s x v) = decidable-place sites s x
decidable-placed sites (Add s x v) = decidable-place sites s x
decidable-placed sites (Sum s x t y v) = decidable-place sites s x

-- of a script it is known whether it is over these sites
script-found : (sites : List SiteLine) (x : List ℕ)
    → Decidable ((s : Script) × IsScriptOver sites s × (x ≡ script_text s))
script-found sites x =
    decidable-as (λ h. (h.0, (h.1, h.2.0), h.2.1)) (λ h. (h.0, h.1.0, (h.1.1, h.2)))
    (searched-scripts (λ s. All (IsPlaced sites) s.operations × (x ≡ script_text s))
    (λ s. decidable-both (decidable-All (IsPlaced sites) (decidable-placed sites) s.operations)
    (decidable-text x (script_text s))))

pub scripts-kind : IsKind IsBegun (λ (i : Input). i.sites) (λ (i : Input). i.scripts) script_text IsScriptOver
    (λ (ss : List SiteLine) (n : ℕ). n ≤ max_scripts)
scripts-kind = record {
  to = λ i is. record {
    few = is.few;
    numbered = is.numbered;
    each = is.each;
    others = is.scripts;
    count = is.count;
  };
  from = λ i is. record {
    few = is.few;
    numbered = is.numbered;
    each = is.each;
    scripts = is.others;
    count = is.count;
  };
  make = λ ss es. record { sites = ss; scripts = es };
  sites-made = λ ss es. refl;
  others-made = λ ss es. refl;
  same = λ i j there also t. record { sites = there t; scripts = also t };
  plain = λ ss s is. (recursion_from_All (λ c. c ≢ 10) (script_text s) (script-no_lf s is.0), is.0.room);
  one = λ ss ts s t is also. script-one s t is.0 also.0;
  apart = λ ss l s is. script-no_site l s is.0;
  found = script-found;
  none = λ ss. omega arith;
  fewer = λ ss m n le count. omega (arith, le, count);
  room = λ ss n. decidable-most n max_scripts;
  somewhere = λ es all count. scripts-somewhere es all;
}

-- ---- one more line

-- a line that spells neither may not stand there
took-none : (old : Input) (line : List ℕ)
    → (old.scripts ≡ [] → (l : SiteLine) → IsSiteLine l → l.site ≡ length old.sites → line ≢ site_text l)
    → SpellsNone (IsScriptOver old.sites) script_text line ⊎ (max_scripts ≤ length old.scripts) → IsBegun old
    → Begins (input_lines old ++ line ∷ []) → ⊥
took-none old line no_site (inl none) = sited.took-none scripts-kind old line no_site (λ s is count. none s is)
took-none old line no_site (inr full) =
    sited.took-none scripts-kind old line no_site (λ s is count. absurd (omega (arith, full, count)))

-- the line was looked at as a script
pub after-script : {E : Type 0} (r : Result Bool E) (old new : Input) (line : List ℕ) → new.sites ≡ old.sites
    → (old.scripts ≡ [] → (l : SiteLine) → IsSiteLine l → l.site ≡ length old.sites → line ≢ site_text l)
    → IfOk r (TakesScript old.sites old.scripts line new.scripts) → IfOk r (Takes old line new)
after-script (Err e) old new line kept none takes = tt
after-script (Ok true) old new line kept none (s, is, text, more, room) =
    sited.took-other scripts-kind old new line s kept is text more (λ begun. room)
after-script (Ok false) old new line kept none takes = took-none old line none takes.0
