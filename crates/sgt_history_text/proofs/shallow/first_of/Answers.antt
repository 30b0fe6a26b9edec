use Rattle.std.proofs.Common.{◌≡◌, ◌∙◌, ap, sym, subst, arith, None, [], ◌∷◌}
use Rattle.json.specs.Token.{end_object, end_array, key, bad}
use Rattle.json.specs.Reads.{token_of}
use Rattle.sgt_history_text.specs.Shallow.{IsFirst}
use Rattle.sgt_history_text.proofs.Fronts.{no_value_at, nothing_at}
use Rattle.sgt_history_text.proofs.shallow.first_of.Goals as goal

pub returns-in_err-token-clause-first : goal.returns-in_err-token-clause-first
returns-in_err-token-clause-first c =
    let empty : c.args.reader.now ≡ [] = grind arith in
    let none : c.from_residual.result ≡ None = grind arith in
    subst (λ r. IsFirst c.args.reader.now r c.next.new.self) (sym none) (nothing_at c.args.reader.now empty)

pub returns-in-EndObject-clause-first : goal.returns-in-EndObject-clause-first
returns-in-EndObject-clause-first c =
    let first : c.args.reader.now ≡ token_of c.in_ok-token.token ∷ c.next.new.self = grind arith in
    no_value_at c.args.reader.now c.next.new.self end_object (first
    ∙ ap (λ k. token_of k ∷ c.next.new.self) c.in-EndObject.is) tt

pub returns-in-EndArray-clause-first : goal.returns-in-EndArray-clause-first
returns-in-EndArray-clause-first c =
    let first : c.args.reader.now ≡ token_of c.in_ok-token.token ∷ c.next.new.self = grind arith in
    no_value_at c.args.reader.now c.next.new.self end_array (first
    ∙ ap (λ k. token_of k ∷ c.next.new.self) c.in-EndArray.is) tt

pub returns-in-Bad-clause-first : goal.returns-in-Bad-clause-first
returns-in-Bad-clause-first c =
    let first : c.args.reader.now ≡ token_of c.in_ok-token.token ∷ c.next.new.self = grind arith in
    no_value_at c.args.reader.now c.next.new.self bad (first ∙ ap (λ k. token_of k ∷ c.next.new.self) c.in-Bad.is) tt

pub returns-in-Key-clause-first : goal.returns-in-Key-clause-first
returns-in-Key-clause-first c =
    let first : c.args.reader.now ≡ token_of c.in_ok-token.token ∷ c.next.new.self = grind arith in
    no_value_at c.args.reader.now c.next.new.self (key c.in-Key.field-0.now) (first
    ∙ ap (λ k. token_of k ∷ c.next.new.self) c.in-Key.is) tt
