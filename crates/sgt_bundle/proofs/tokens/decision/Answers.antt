use Rattle.std.proofs.Common.{◌≡◌, ◌∷◌, ◌∙◌, sym, codes, rules}
use Rattle.std.proofs.lemmas.Option.{IfSome_then}
use Rattle.json.specs.Token.{Token}
use Rattle.sgt_bundle.proofs.Shown.{commit-has, refuse-has, withdraw-has}
use Rattle.sgt_bundle.proofs.tokens.decision.Goals as goal
use Rattle.sgt_bundle.proofs.tokens.decision.Goals.{then-eq+in_ok-one_key+in_ok-open_array+in_ok-steps, else-eq+then-eq-2+in_ok-one_key-2+in_ok-whole-2, else-eq+else-eq-2+else-ne}

pub returns : goal.returns
returns c =
    IfSome_then c.close_object.result c.close_object.ensures
    (λ _ close. elim c.if-eq.branch [
      | then-eq+in_ok-one_key+in_ok-open_array+in_ok-steps w ↦
          let key : c.open_object.new.reader ≡ Token.key (codes "refuse") ∷ c.any_key.new.reader = search rules in
          refuse-has c.args.reader.now c.open_object.new.reader c.any_key.new.reader c.whole.new.reader
          w.one_key.new.reader w.open_array.new.reader w.steps.new.reader c.close_object.new.reader
          c.in_ok-open_object.ensures key c.in_ok-whole.ensures w.in_ok-one_key.ensures w.in_ok-open_array.ensures
          w.in_ok-steps.ensures (sym w.reader-is ∙ close)
      | else-eq+then-eq-2+in_ok-one_key-2+in_ok-whole-2 w ↦
          let key : c.open_object.new.reader ≡ Token.key (codes "commit") ∷ c.any_key.new.reader = search rules in
          commit-has c.args.reader.now c.open_object.new.reader c.any_key.new.reader c.whole.new.reader
          w.one_key-then-eq-2.new.reader w.whole-then-eq-2.new.reader c.close_object.new.reader
          c.in_ok-open_object.ensures key c.in_ok-whole.ensures w.in_ok-one_key-2.ensures w.in_ok-whole-2.ensures
          (sym w.reader-is ∙ close)
      | else-eq+else-eq-2+else-ne w ↦
          let key : c.open_object.new.reader ≡ Token.key (codes "withdraw") ∷ c.any_key.new.reader = search rules in
          withdraw-has c.args.reader.now c.open_object.new.reader c.any_key.new.reader c.whole.new.reader
          c.close_object.new.reader
          c.in_ok-open_object.ensures key c.in_ok-whole.ensures (sym w.reader-is ∙ close)
    ])
