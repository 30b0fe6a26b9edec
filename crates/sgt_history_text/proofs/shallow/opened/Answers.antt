use Rattle.std.proofs.Common.{◌≡◌, ◌∙◌, ap, sym, subst, arith, None, [], ◌∷◌}
use Rattle.json.specs.Token.{end_object, end_array, key, bad}
use Rattle.json.specs.Reads.{token_of}
use Rattle.sgt_history_text.specs.Shallow.{IsOpened}
use Rattle.sgt_history_text.proofs.Fronts.{no_value_at, nothing_at}
use Rattle.json.specs.Json.{null, boolean, number, string}
use Rattle.sgt_history_text.proofs.shallow.opened.Goals as goal

pub returns-in_err-token-clause-opened : goal.returns-in_err-token-clause-opened
returns-in_err-token-clause-opened c =
    let empty : c.args.reader.now ≡ [] = grind arith in
    let none : c.from_residual.result ≡ None = grind arith in
    subst (λ r. IsOpened c.args.reader.now r c.next.new.self) (sym none) (nothing_at c.args.reader.now empty)

pub returns-in-EndObject-clause-opened : goal.returns-in-EndObject-clause-opened
returns-in-EndObject-clause-opened c =
    let first : c.args.reader.now ≡ token_of c.in_ok-token.token ∷ c.next.new.self = grind arith in
    no_value_at c.args.reader.now c.next.new.self end_object (first
    ∙ ap (λ k. token_of k ∷ c.next.new.self) c.in-EndObject.is) tt

pub returns-in-EndArray-clause-opened : goal.returns-in-EndArray-clause-opened
returns-in-EndArray-clause-opened c =
    let first : c.args.reader.now ≡ token_of c.in_ok-token.token ∷ c.next.new.self = grind arith in
    no_value_at c.args.reader.now c.next.new.self end_array (first
    ∙ ap (λ k. token_of k ∷ c.next.new.self) c.in-EndArray.is) tt

pub returns-in-Bad-clause-opened : goal.returns-in-Bad-clause-opened
returns-in-Bad-clause-opened c =
    let first : c.args.reader.now ≡ token_of c.in_ok-token.token ∷ c.next.new.self = grind arith in
    no_value_at c.args.reader.now c.next.new.self bad (first ∙ ap (λ k. token_of k ∷ c.next.new.self) c.in-Bad.is) tt

pub returns-in-Key-clause-opened : goal.returns-in-Key-clause-opened
returns-in-Key-clause-opened c =
    let first : c.args.reader.now ≡ token_of c.in_ok-token.token ∷ c.next.new.self = grind arith in
    no_value_at c.args.reader.now c.next.new.self (key c.in-Key.field-0.now) (first
    ∙ ap (λ k. token_of k ∷ c.next.new.self) c.in-Key.is) tt

pub returns-in-String-clause-opened : goal.returns-in-String-clause-opened
returns-in-String-clause-opened c =
    let first : c.args.reader.now ≡ token_of c.in_ok-token.token ∷ c.next.new.self = grind arith in
    (string c.in-String.field-0.now, first ∙ ap (λ k. token_of k ∷ c.next.new.self) c.in-String.is, tt)

pub returns-in-Number-clause-opened : goal.returns-in-Number-clause-opened
returns-in-Number-clause-opened c =
    let first : c.args.reader.now ≡ token_of c.in_ok-token.token ∷ c.next.new.self = grind arith in
    (number c.in-Number.field-0.now, first ∙ ap (λ k. token_of k ∷ c.next.new.self) c.in-Number.is, tt)

pub returns-in-Bool-clause-opened : goal.returns-in-Bool-clause-opened
returns-in-Bool-clause-opened c =
    let first : c.args.reader.now ≡ token_of c.in_ok-token.token ∷ c.next.new.self = grind arith in
    (boolean c.in-Bool.field-0, first ∙ ap (λ k. token_of k ∷ c.next.new.self) c.in-Bool.is, tt)

pub returns-in-Null-clause-opened : goal.returns-in-Null-clause-opened
returns-in-Null-clause-opened c =
    let first : c.args.reader.now ≡ token_of c.in_ok-token.token ∷ c.next.new.self = grind arith in
    (null, first ∙ ap (λ k. token_of k ∷ c.next.new.self) c.in-Null.is, tt)
