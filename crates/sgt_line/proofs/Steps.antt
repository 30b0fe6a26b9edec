-- One more word of a command line is read.
use Rattle.std.proofs.Common.{◌≡◌, ◌⊎◌, ◌∙◌, ℕ, List, [], ◌∷◌, ◌++◌, Option, Some, None, true, false, inl, inr, refl, sym, ap, subst, codes, arith, drop, length, take, ◌≤◌}
use Rattle.std.proofs.lemmas.Grind.{common_steps}
use Rattle.std.specs.Prelude.{IfOk, OnOk, Result, Ok, Err}
use Rattle.sgt_line.specs.Names.{command_text}
use Rattle.sgt_line.specs.declared.name.CommandName.TheVariants as name
use Rattle.sgt_line.specs.Kinds.{IsKind}
use Rattle.sgt_line.specs.Parts.{HasRoom, Parts, bare, left, with_extra, with_file}
use Rattle.sgt_line.specs.Reads.{Behind, IsLineOf, IsRead, Reads}
use Rattle.sgt_line.specs.Reads as reads
use Rattle.sgt_line.specs.private.State.{Adds, AddsRule, IsReadTo, PutsPlace, Waits, WaitsForOrder, WaitsForOutput, WaitsForCount, WaitsForPlace}
use Rattle.sgt_line.specs.declared.kind.Kind.{Kind}
use Rattle.sgt_line.specs.declared.kind.Kind.TheVariants.{Against, Dashes, Expected, File, Joined, JoinedPlace, Numbered, Output, Place, Plain, Progress, Quiet, RuleName, Strict}
use Rattle.sgt_line.specs.declared.name.CommandName.{CommandName}

-- the first letter
abbrev letter : List ℕ → ℕ
letter [] = 0
letter (x ∷ xs) = x

-- what holds of an Ok holds in other words
pub on_ok : {A E : Type 0} (r : Result A E) (P Q : A → Type 0) → ((x : A) → P x → Q x) → IfOk r P → IfOk r Q
on_ok (Ok x) P Q so holds = so x holds
on_ok (Err e) P Q so holds = tt

pub held_on_ok : {A E : Type 0} (r : Result A E) (P Q : Type 0) → (P → Q) → OnOk r P → OnOk r Q
held_on_ok (Ok x) P Q so holds = so holds
held_on_ok (Err e) P Q so holds = tt

-- all of a list
pub taken_whole : {A : Type 0} (xs : List A) (n : ℕ) → length xs ≤ n → take n xs ≡ xs
taken_whole xs n le = grind (arith, common_steps)

no_help : (command : CommandName) → command_text command ≡ codes "help" → ⊥
no_help name.Audit e = absurd (omega (arith, ap letter e))
no_help name.Serial e = absurd (omega (arith, ap letter e))
no_help name.Replay e = absurd (omega (arith, ap letter e))
no_help name.Run e = absurd (omega (arith, ap letter e))
no_help name.Serve e = absurd (omega (arith, ap letter e))
no_help name.Certify e = absurd (omega (arith, ap letter e))
no_help name.Check e = absurd (omega (arith, ap letter e))
no_help name.Explain e = absurd (omega (arith, ap letter e))
no_help name.Draw e = absurd (omega (arith, ap letter e))

same_tail : {A : Type 0} (a b c d : A) (x y : List A) → a ∷ b ∷ x ≡ c ∷ d ∷ y → (a ≡ c) × (b ≡ d) × (x ≡ y)
same_tail a b c d x y e = (cc, cc, ap (drop 2) e)

-- the parts behind a command's name are those of the line
pub named_line : (words behind : List (List ℕ)) (name : List ℕ) (command : CommandName) (p : Parts)
    → words ≡ name ∷ command_text command ∷ behind
    → ((other : CommandName) → command_text command ≡ command_text other → other ≡ command)
    → IsRead command (bare (name ∷ command_text command ∷ [])) behind p → IsLineOf words p
named_line words behind name command p is one reading = record {
  read = λ name' command' behind' e.
      let same = same_tail name (command_text command) name' (command_text command') behind behind' (sym is ∙ e) in
      let it : command' ≡ command = one command' same.1 in
      subst (λ n. IsRead command' (bare (n ∷ command_text command' ∷ [])) behind' p) same.0
      (subst (λ b. IsRead command' (bare (name ∷ command_text command' ∷ [])) b p) same.2
      (subst (λ k. IsRead k (bare (name ∷ command_text k ∷ [])) behind p) (sym it) reading));
  help = λ name' e. absurd (no_help command (same_tail _ _ _ _ _ _ (sym is ∙ e)).1);
  help_of = λ name' other e. absurd (no_help command (same_tail _ _ _ _ _ _ (sym is ∙ e)).1);
  other = λ no_command no_help' no_help_of. absurd (no_command name command behind is);
}

-- one more word behind those taken
module _ (command : CommandName) (first : Parts) (taken : List (List ℕ)) (p : Parts) (w : List ℕ) where
  pub dashed : (kind : Kind) → kind ≡ Dashes → IsKind command w kind → Reads command first taken p
      → IsReadTo command first (taken ++ (w ∷ [])) kind p
  dashed kind e is reading =
      subst (λ k. IsReadTo command first (taken ++ (w ∷ [])) k p) (sym e)
      (reads.dashes w reading (subst (λ k. IsKind command w k) e is))

  pub numbered : (kind : Kind) (q : Parts) → kind ≡ Numbered → IsKind command w kind → q ≡ left p w
      → Reads command first taken p
      → IsReadTo command first (taken ++ (w ∷ [])) kind q
  numbered kind q e is more reading =
      subst (λ k. IsReadTo command first (taken ++ (w ∷ [])) k q) (sym e) (
        p,
        (
          record {
            before = taken;
            option = w;
            cut = refl;
            is_kind = subst (λ k. IsKind command w k) e is;
            reads =
                reading;
          },
          more,
        ),
      )

  pub filed : (kind : Kind) (q : Parts) → kind ≡ File → IsKind command w kind → Adds command p (with_file p w) w q
      → Reads command first taken p
      → Reads command first (taken ++ (w ∷ [])) q
  filed kind q e is added reading =
      let here : IsKind command w File = subst (λ k. IsKind command w k) e is in
      elim added [
        | inl room ↦ subst (Reads command first (taken ++ (w ∷ []))) (sym room.1) (reads.file w reading here room.0)
        | inr none ↦ subst (Reads command first (taken ++ (w ∷ []))) (sym none.1)
            (reads.extra w reading (inl here) none.0)
      ]

  pub ruled : (kind : Kind) (q : Parts) → kind ≡ RuleName → IsKind command w kind → AddsRule command p w q
      → Reads command first taken p
      → Reads command first (taken ++ (w ∷ [])) q
  ruled kind q e is added reading =
      let here : IsKind command w RuleName = subst (λ k. IsKind command w k) e is in
      elim added.2 [
        | inl room ↦ subst (Reads command first (taken ++ (w ∷ []))) (sym room.1)
            (reads.rule w added.0 reading here added.1 room.0)
        | inr none ↦ subst (Reads command first (taken ++ (w ∷ []))) (sym none.1)
            (reads.extra w reading (inr here) none.0)
      ]

  pub filed_behind : (before : Kind) (q : Parts) → before ≡ Dashes → Adds command p (with_file p w) w q
      → IsReadTo command first taken before p
      → Behind command first (taken ++ (w ∷ [])) q
  filed_behind before q e added state =
      let reading : Behind command first taken p = subst (λ k. IsReadTo command first taken k p) e state in
      elim added [
        | inl room ↦ subst (Behind command first (taken ++ (w ∷ []))) (sym room.1) (reads.file_behind w reading room.0)
        | inr none ↦ subst (Behind command first (taken ++ (w ∷ []))) (sym none.1) (reads.extra_behind w reading none.0)
      ]

  pub counted : (before : Kind) (q : Parts) → before ≡ Numbered → q ≡ left p w → IsReadTo command first taken before p
      → Reads command first (taken ++ (w ∷ [])) q
  counted before q e more state =
      let waiting : IsReadTo command first taken Numbered p = subst (λ k. IsReadTo command first taken k p) e state in
      let wait : Waits command first taken Numbered waiting.0 = waiting.1.0 in
      let whole : q ≡ left (left waiting.0 wait.option) w = more ∙ ap (λ o. left o w) waiting.1.1 in
      subst (λ ws. Reads command first (ws ++ (w ∷ [])) q) (sym wait.cut)
      (subst (Reads command first ((wait.before ++ (wait.option ∷ [])) ++ (w ∷ []))) (sym whole)
      (reads.number wait.option w wait.reads wait.is_kind))

  pub put : (before : Kind) (q : Parts) → before ≡ Place → q ≡ record p { place = Some w }
      → IsReadTo command first taken before p
      → Reads command first (taken ++ (w ∷ [])) q
  put before q e whole state =
      let waiting : IsReadTo command first taken Place p = subst (λ k. IsReadTo command first taken k p) e state in
      let wait : Waits command first taken Place p = waiting.0 in
      subst (λ ws. Reads command first (ws ++ (w ∷ [])) q) (sym wait.cut)
      (subst (Reads command first ((wait.before ++ (wait.option ∷ [])) ++ (w ∷ []))) (sym whole)
      (reads.place wait.option w wait.reads wait.is_kind waiting.1))

  pub ordered : (before : Kind) (q : Parts) → before ≡ Against → q ≡ record p { against = Some w }
      → IsReadTo command first taken before p
      → Reads command first (taken ++ (w ∷ [])) q
  ordered before q e whole state =
      let waiting : IsReadTo command first taken Against p = subst (λ k. IsReadTo command first taken k p) e state in
      let wait : Waits command first taken Against p = waiting.0 in
      subst (λ ws. Reads command first (ws ++ (w ∷ [])) q) (sym wait.cut)
      (subst (Reads command first ((wait.before ++ (wait.option ∷ [])) ++ (w ∷ []))) (sym whole)
      (reads.against wait.option w wait.reads wait.is_kind waiting.1))

  pub sent : (before : Kind) (q : Parts) → before ≡ Output → q ≡ record p { output = Some w }
      → IsReadTo command first taken before p
      → Reads command first (taken ++ (w ∷ [])) q
  sent before q e whole state =
      let waiting : IsReadTo command first taken Output p = subst (λ k. IsReadTo command first taken k p) e state in
      let wait : Waits command first taken Output p = waiting.0 in
      subst (λ ws. Reads command first (ws ++ (w ∷ [])) q) (sym wait.cut)
      (subst (Reads command first ((wait.before ++ (wait.option ∷ [])) ++ (w ∷ []))) (sym whole)
      (reads.output wait.option w wait.reads wait.is_kind waiting.1))

  pub counted_on : (before : Kind) (q : Parts) → before ≡ Expected → q ≡ record p { expected = Some w }
      → IsReadTo command first taken before p
      → Reads command first (taken ++ (w ∷ [])) q
  counted_on before q e whole state =
      let waiting : IsReadTo command first taken Expected p = subst (λ k. IsReadTo command first taken k p) e state in
      let wait : Waits command first taken Expected p = waiting.0 in
      subst (λ ws. Reads command first (ws ++ (w ∷ [])) q) (sym wait.cut)
      (subst (Reads command first ((wait.before ++ (wait.option ∷ [])) ++ (w ∷ []))) (sym whole)
      (reads.expected wait.option w wait.reads wait.is_kind waiting.1))

  pub waits_place : (kind after : Kind) (q : Parts) → kind ≡ Place → IsKind command w kind → WaitsForPlace p w after q
      → Reads command first taken p
      → IsReadTo command first (taken ++ (w ∷ [])) after q
  waits_place kind after q e is waits reading =
      let here : IsKind command w Place = subst (λ k. IsKind command w k) e is in
      elim waits [
        | inl waiting ↦ subst (λ k. IsReadTo command first (taken ++ (w ∷ [])) k q) (sym waiting.0)
            (subst (IsReadTo command first (taken ++ (w ∷ [])) Place) (sym waiting.2)
            (record { before = taken; option = w; cut = refl; is_kind = here; reads = reading }, waiting.1))
        | inr more ↦ subst (λ k. IsReadTo command first (taken ++ (w ∷ [])) k q) (sym more.0)
            (subst (Reads command first (taken ++ (w ∷ []))) (sym more.2)
            (reads.plain w reading (inr (inl (inl here, more.1)))))
      ]

  pub put_joined : (kind : Kind) (q : Parts) → kind ≡ JoinedPlace → IsKind command w kind → PutsPlace command p w q
      → Reads command first taken p
      → Reads command first (taken ++ (w ∷ [])) q
  put_joined kind q e is puts reading =
      let here : IsKind command w JoinedPlace = subst (λ k. IsKind command w k) e is in
      elim puts [
        | inl new ↦ subst (Reads command first (taken ++ (w ∷ []))) (sym new.3)
            (reads.joined_place w new.0 reading here new.1 new.2)
        | inr more ↦ subst (Reads command first (taken ++ (w ∷ []))) (sym more.1)
            (reads.plain w reading (inr (inl (inr here, more.0))))
      ]

  pub waits_order : (kind after : Kind) (q : Parts) → kind ≡ Against → IsKind command w kind
      → WaitsForOrder p w after q → Reads command first taken p
      → IsReadTo command first (taken ++ (w ∷ [])) after q
  waits_order kind after q e is waits reading =
      let here : IsKind command w Against = subst (λ k. IsKind command w k) e is in
      elim waits [
        | inl waiting ↦ subst (λ k. IsReadTo command first (taken ++ (w ∷ [])) k q) (sym waiting.0)
            (subst (IsReadTo command first (taken ++ (w ∷ [])) Against) (sym waiting.2)
            (record { before = taken; option = w; cut = refl; is_kind = here; reads = reading }, waiting.1))
        | inr more ↦ subst (λ k. IsReadTo command first (taken ++ (w ∷ [])) k q) (sym more.0)
            (subst (Reads command first (taken ++ (w ∷ []))) (sym more.2)
            (reads.plain w reading (inr (inr (inl (here, more.1))))))
      ]

  pub waits_output : (kind after : Kind) (q : Parts) → kind ≡ Output → IsKind command w kind
      → WaitsForOutput p w after q → Reads command first taken p
      → IsReadTo command first (taken ++ (w ∷ [])) after q
  waits_output kind after q e is waits reading =
      let here : IsKind command w Output = subst (λ k. IsKind command w k) e is in
      elim waits [
        | inl waiting ↦ subst (λ k. IsReadTo command first (taken ++ (w ∷ [])) k q) (sym waiting.0)
            (subst (IsReadTo command first (taken ++ (w ∷ [])) Output) (sym waiting.2)
            (record { before = taken; option = w; cut = refl; is_kind = here; reads = reading }, waiting.1))
        | inr more ↦ subst (λ k. IsReadTo command first (taken ++ (w ∷ [])) k q) (sym more.0)
            (subst (Reads command first (taken ++ (w ∷ []))) (sym more.2)
            (reads.plain w reading (inr (inr (inr (inl (here, more.1)))))))
      ]

  pub waits_count : (kind after : Kind) (q : Parts) → kind ≡ Expected → IsKind command w kind
      → WaitsForCount p w after q → Reads command first taken p
      → IsReadTo command first (taken ++ (w ∷ [])) after q
  waits_count kind after q e is waits reading =
      let here : IsKind command w Expected = subst (λ k. IsKind command w k) e is in
      elim waits [
        | inl waiting ↦ subst (λ k. IsReadTo command first (taken ++ (w ∷ [])) k q) (sym waiting.0)
            (subst (IsReadTo command first (taken ++ (w ∷ [])) Expected) (sym waiting.2)
            (record { before = taken; option = w; cut = refl; is_kind = here; reads = reading }, waiting.1))
        | inr more ↦ subst (λ k. IsReadTo command first (taken ++ (w ∷ [])) k q) (sym more.0)
            (subst (Reads command first (taken ++ (w ∷ []))) (sym more.2)
            (reads.plain w reading (inr (inr (inr (inr (here, more.1)))))))
      ]
