-- Values of JSON and their tokens: no two values have the same, and none nests deeper than it has tokens.
use Rattle.std.proofs.Common.{◌≡◌, ℕ, ◌+◌, ◌≤◌, [], Some, sym, ap, ◌∙◌, arith}
use Rattle.std.proofs.lemmas.List.{append-nil}
use Rattle.std.proofs.lemmas.Option.{same_Some}
use Rattle.json.specs.Json.{Json, value}
use Rattle.json.specs.Lex.{tokens}
use Rattle.json.specs.Tree.{json_tokens, depth, HasNumbers}
use Rattle.json.proofs.Printed.Tokens.{tokens-print}
use Rattle.json.proofs.Printed.Trees.{value-json_tokens, ArePrintable-json_tokens}
use Rattle.sgt_history_text.specs.Name.{compact}

-- read with room enough, the tokens of a value give it
pub read_back : (j : Json) (d : ℕ) → depth j ≤ d → value d (json_tokens j) ≡ Some (j, [])
read_back j d h = ap (value d) (sym (append-nil (json_tokens j))) ∙ value-json_tokens j d [] h

pub same_tokens : (i j : Json) → json_tokens i ≡ json_tokens j → i ≡ j
same_tokens i j e =
    let d = depth i + depth j in
    let both : Some (i, []) ≡ Some (j, []) = sym (read_back i d (omega arith)) ∙ ap (value d) e
    ∙ read_back j d (omega arith) in
    ap (λ p. p.0) (same_Some (i, []) (j, []) both)

-- no two values have the same compact text
pub same_compact : (i j : Json) → HasNumbers i → HasNumbers j → compact i ≡ compact j → i ≡ j
same_compact i j h k e =
    same_tokens i j
    (sym (tokens-print (json_tokens i) (ArePrintable-json_tokens i h)) ∙ ap tokens e
    ∙ tokens-print (json_tokens j) (ArePrintable-json_tokens j k))
