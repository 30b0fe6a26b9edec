-- What is kept of the ends of the workers, one end after another.
use Rattle.std.proofs.Common.{◌≡◌, List, [], ◌∷◌, ◌++◌, map, Ok, Err, Result, Option, Some, None, MatchOption, sym, ap, ◌∙◌, inl, inr, ⊎_elim, false, true≢false}
use Rattle.std.specs.Prelude.{◌⊎◌, if◌then◌else◌}
use Rattle.std.specs.Result.{is_ok, is_err}
use Rattle.std.specs.List.{Contains}
use Rattle.std.proofs.lemmas.List.{map-append}
use Rattle.std.proofs.lemmas.List.Elements.{Contains-append_left}
use Rattle.sgt_workers.specs.declared.fault.PoolFail.{PoolFail}
use Rattle.sgt_workers.specs.declared.fault.PoolFail.TheVariants.{Pool}
use Rattle.sgt_workers.specs.declared.fault.PoolFault.{PoolFault}
use Rattle.sgt_workers.specs.declared.fault.PoolFault.TheVariants.{Memory}

module _ {X E : Type 0} where
  -- all ends so far are the reports, or a fault of the pool was met
  abbrev pub SoFar : Option PoolFault → List (Result X (PoolFail E)) → List X → Type 0
  SoFar fault ends reports =
      MatchOption fault (ends ≡ map Ok reports) (λ f. (f ≡ Memory) ⊎ Contains ends (Err (Pool f)))

  pub one_more : (fault : Option PoolFault) (ends : List (Result X (PoolFail E))) (reports : List X)
      (end : Result X (PoolFail E)) (report : X) → end ≡ Ok report → SoFar fault ends reports
      → SoFar fault (ends ++ end ∷ []) (reports ++ report ∷ [])
  one_more None ends reports end report is so = ap (λ l. l ++ end ∷ []) so ∙ ap (λ e. map Ok reports ++ e ∷ []) is
      ∙ sym (map-append Ok reports (report ∷ []))
  one_more (Some f) ends reports end report is so =
      ⊎_elim (λ m. inl m) (λ c. inr (Contains-append_left ends (end ∷ []) (Err (Pool f)) c)) so

pub pushed : {X E F : Type 0} (r : Result E F) (new old : List X) (x : X) → false ≡ is_err r
    → new ≡ (if is_ok r then old ++ x ∷ [] else old) → new ≡ old ++ x ∷ []
pushed (Ok _) new old x fine is = is
pushed (Err _) new old x fine is = absurd (true≢false (sym fine))
