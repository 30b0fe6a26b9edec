-- The texts of a numbered history are those of the history with its names.
use Rattle.std.proofs.Common.{◌≡◌, ℕ, ◌+◌, ◌-◌, Bool, true, false, List, [], ◌∷◌, ◌++◌, Option, Some, None, length, map, cond, refl, sym, ap, ap₂, ◌∙◌, subst, codes}
use Rattle.std.specs.Prelude.{slice_get, option_map, get_or, count_by}
use Rattle.std.proofs.Math.Path.{fun_ext}
use Rattle.std.proofs.Math.ListN.{get_or-map}
use Rattle.std.proofs.lemmas.List.{length-map}
use Rattle.std.proofs.lemmas.List.Sums.{sum_by-cons}
use Rattle.std.proofs.lemmas.Option.{slice_get-map}
use Rattle.json.specs.Json.{Json, null}
use Rattle.json.specs.Print.{print_from}
use Rattle.sgt_history.specs.declared.history.Operation.{Operation}
use Rattle.sgt_history.specs.declared.named.Flaw.{Flaw}
use Rattle.sgt_history.specs.declared.named.Graph.{Graph}
use Rattle.sgt_history.specs.Transaction.{Transaction, renamed, renamed_operation, renamed_value}
use Rattle.sgt_history.specs.Serial.{operations_in}
use Rattle.sgt_history_evidence.specs.declared.evidence.Evidence.{Evidence}
use Rattle.sgt_history_evidence.specs.declared.evidence.Evidence.TheVariants.{Nothing, Wrote, WritesLater, Writer, Surpassed, Gives}
use Rattle.sgt_history_text.specs.Name.{compact}
use Rattle.sgt_history_text.specs.Reading.{nth}
use Rattle.sgt_history_verdict.specs.declared.step.Step.{Step}
use Rattle.sgt_check.specs.Answer.{by_number, compactly}
use Rattle.sgt_check.specs.Text.{Spelling, aborted_of, committed_of, cycle_text, evidence_text, fault_text, flaw_text, order_part, told_text, value_at, value_of, value_text, values_text}
use Rattle.sgt_check.specs.Told.{spelled, text_at}
use Rattle.sgt_check.specs.declared.naming.Naming.{Naming}

-- ---- names

null_is : compact null ≡ codes "null"
unfolding print_from
null_is = refl

pub text-is : (texts : List (List ℕ)) (js : List Json) → texts ≡ map compact js → (n : ℕ)
    → text_at texts n ≡ compact (nth js n)
text-is texts js is n =
    ap (λ (ts : List (List ℕ)). get_or ts n (codes "null")) is ∙ ap (λ (d : List ℕ). get_or (map compact js) n d) (sym null_is) ∙ get_or-map compact js n null

-- how numbers are written whose names these are
abbrev pub numbered : (ids items values : List Json) → Spelling ℕ ℕ
numbered ids items values = record {
  id = λ n. compact (nth ids n);
  item = λ n. compact (nth items n);
  value =
      λ n. compact (nth values n);
}

pub spelled-is : (n : Naming) (ids items values : List Json) → n.ids ≡ map compact ids → n.items ≡ map compact items
    → n.values ≡ map compact values
    → spelled n ≡ numbered ids items values
spelled-is n ids items values one two three =
    ap (λ (f : ℕ → List ℕ). record { id = f; item = text_at n.items; value = text_at n.values })
    (fun_ext (text-is n.ids ids one))
    ∙ ap (λ (f : ℕ → List ℕ). record { id = λ k. compact (nth ids k); item = f; value = text_at n.values })
    (fun_ext (text-is n.items items two))
    ∙ ap (λ (f : ℕ → List ℕ). record { id = λ k. compact (nth ids k); item = λ k. compact (nth items k); value = f })
    (fun_ext (text-is n.values values three))

-- ---- counts

module _ {I J V W : Type 0} (f : I → J) (g : V → W) where
  pub committed-same : (h : List (Transaction I V)) → committed_of (map (renamed f g) h) ≡ committed_of h
  committed-same [] = refl
  committed-same (t ∷ ts) =
      sum_by-cons (λ (u : Transaction J W). cond u.commits 1 0) (renamed f g t) (map (renamed f g) ts)
      ∙ ap (λ n. cond t.commits 1 0 + n) (committed-same ts)
      ∙ sym (sum_by-cons (λ (u : Transaction I V). cond u.commits 1 0) t ts)

  pub aborted-same : (h : List (Transaction I V)) → aborted_of (map (renamed f g) h) ≡ aborted_of h
  aborted-same h = ap₂ (λ m n. m - n) (length-map h (renamed f g)) (committed-same h)

  -- ---- a fault

  value_of-same : (o : Option (Operation I V))
      → value_of (option_map (renamed_operation f g) o) ≡ renamed_value g (value_of o)
  value_of-same None = refl
  value_of-same (Some o) = refl

  operations-same : (o : Option (Transaction I V))
      → operations_in (option_map (renamed f g) o) ≡ map (renamed_operation f g) (operations_in o)
  operations-same None = refl
  operations-same (Some t) = refl

  value_at-same : (h : List (Transaction I V)) (line place : ℕ)
      → value_at (map (renamed f g) h) line place ≡ renamed_value g (value_at h line place)
  value_at-same h line place =
      ap (λ (o : Option (Transaction J W)). value_of (slice_get (operations_in o) place))
      (slice_get-map (renamed f g) h line)
      ∙ ap (λ (os : List (Operation J W)). value_of (slice_get os place)) (operations-same (slice_get h line))
      ∙ ap (λ (o : Option (Operation J W)). value_of o)
      (slice_get-map (renamed_operation f g) (operations_in (slice_get h line)) place)
      ∙ value_of-same (slice_get (operations_in (slice_get h line)) place)

  module _ (s : Spelling J W) where
    -- the numbers, written as their names are
    abbrev pub before : Spelling I V
    before = record { id = s.id; item = λ x. s.item (f x); value = λ v. s.value (g v) }

    value_text-same : (v : Option V) → value_text s (renamed_value g v) ≡ value_text before v
    value_text-same None = refl
    value_text-same (Some v) = refl

    evidence-same : (h : List (Transaction I V)) (line : ℕ) (o : Operation I V) (e : Evidence)
        → evidence_text s (map (renamed f g) h) line (renamed_operation f g o) e ≡ evidence_text before h line o e
    evidence-same h line o Nothing = refl
    evidence-same h line o (Wrote version) = refl
    evidence-same h line o WritesLater = refl
    evidence-same h line o (Writer by) = refl
    evidence-same h line o (Surpassed by greater) = refl
    evidence-same h line o (Gives by at) =
        rw (value_at-same h by at, value_text-same o.value, value_text-same (value_at h by at)) refl

    pub fault-same : (h : List (Transaction I V)) (line : ℕ) (flaw : Flaw) (o : Operation I V) (e : Evidence)
        → fault_text s (map (renamed f g) h) line flaw (renamed_operation f g o) e ≡ fault_text before h line flaw o e
    fault-same h line flaw o e = rw (evidence-same h line o e) refl
