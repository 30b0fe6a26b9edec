use Rattle.std.proofs.Common.{◌≡◌, ◌∷◌, ◌++◌, ◌∙◌, [], List, ℕ, ap, codes, inl, inr, map, rules, string_bytes, sym}
use Rattle.sgt_command_line.proofs.Told.{tx_apart, tx_joined}
use Rattle.sgt_names.proofs.Elements.{some-weaker}
use Rattle.sgt_command_line.proofs.behind.tx_told.Goals as goal

pub returns-then-eq-clause-some : goal.returns-then-eq-clause-some
returns-then-eq-clause-some c =
    let first : c.in_ok-word.word.now ≡ codes "--tx" = search rules in
    let words : map string_bytes c.args.words.now ≡ codes "--tx" ∷ c.in_ok-only_of.field-0.now ∷ [] =
    c.in_ok-word.ensures ∙ (ap (λ t. t ∷ map string_bytes c.in_ok-word.behind.now) first ∙ ap (λ l. codes "--tx" ∷ l) c.in_ok-only_of.ensures) in
    some-weaker c.tx_of.result _ _ (λ tx says. (c.in_ok-only_of.field-0.now, says, inl words)) c.tx_of.ensures.some

pub returns-then-eq-clause-all : goal.returns-then-eq-clause-all
returns-then-eq-clause-all c =
    let first : c.in_ok-word.word.now ≡ codes "--tx" = search rules in
    let words : map string_bytes c.args.words.now ≡ codes "--tx" ∷ c.in_ok-only_of.field-0.now ∷ [] =
    c.in_ok-word.ensures ∙ (ap (λ t. t ∷ map string_bytes c.in_ok-word.behind.now) first ∙ ap (λ l. codes "--tx" ∷ l) c.in_ok-only_of.ensures) in
    tx_apart (map string_bytes c.args.words.now) c.in_ok-only_of.field-0.now c.tx_of.result words c.tx_of.ensures.all

pub returns-clause-some : goal.returns-clause-some
returns-clause-some c =
    let cut = c.in_ok-strip_prefix.ensures.cases in
    let word : c.in_ok-only_of-2.field-0.now ≡ codes "--tx=" ++ c.in_ok-strip_prefix.field-0.now = cut.1.1 ∙ ap (λ l. codes "--tx=" ++ l) (sym cut.2) in
    some-weaker c.tx_of-2.result _ _
    (λ tx says. (c.in_ok-strip_prefix.field-0.now, says, inr (c.in_ok-only_of-2.ensures ∙ ap (λ t. t ∷ []) word)))
    c.tx_of-2.ensures.some

pub returns-clause-all : goal.returns-clause-all
returns-clause-all c =
    let cut = c.in_ok-strip_prefix.ensures.cases in
    let word : c.in_ok-only_of-2.field-0.now ≡ codes "--tx=" ++ c.in_ok-strip_prefix.field-0.now = cut.1.1 ∙ ap (λ l. codes "--tx=" ++ l) (sym cut.2) in
    tx_joined (map string_bytes c.args.words.now) c.in_ok-only_of-2.field-0.now c.in_ok-strip_prefix.field-0.now
    c.tx_of-2.result
    c.in_ok-only_of-2.ensures word c.tx_of-2.ensures.all
