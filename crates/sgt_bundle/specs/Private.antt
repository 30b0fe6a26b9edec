-- Words of private clauses alone: the certificate in a JSON value that has the shape of one, the
-- answer to a line, and the
-- tokens of JSON that has the shape.
use Rattle.std.specs.Prelude.{◌≡◌, ℕ, ◌+◌, ◌≤◌, ◌<◌, ◌^◌, List, [], ◌∷◌, ◌++◌, length, ◌&&◌, Bool, false, true, nat_le, nat_lt, if◌then◌else◌, decimal}
use Rattle.std.specs.List.{list_all}
use Rattle.std.specs.Prelude.{Option, Some, None, option_map, option_and_then, codes, Result, Ok, Err}
use Rattle.std.specs.Str.{bytes_eq}
use Rattle.json.specs.Token.{Token}
use Rattle.json.specs.Json as json
use Rattle.json.specs.Tree as tree
use Rattle.serde_json.specs.Data.{Data, Items}
use Rattle.serde_json.specs.Read.{of_json, of_items}
use Rattle.serde_json.specs.Written.{compact_text}
use Rattle.serde_json.specs.Find.{get, as_number, as_str, as_array, as_u64}
use Rattle.sgt_names.specs.Limits.{max_sites}
use Rattle.sgt_names.specs.Name.{Name, is_small_letter, is_name_byte}
use Rattle.sgt_names.specs.declared.entry.Kind.{Kind}
use Rattle.sgt_names.specs.declared.entry.Kind.TheVariants.{Wr, Rw, Ww}
use Rattle.sgt_bundle.specs.Text.{certificate_text}
use Rattle.sgt_bundle.specs.declared.fault.CertFault.{CertFault}
use Rattle.sgt_bundle.specs.declared.fault.CertFault.TheVariants.{NotJson, Shape, Range, Memory}
use Rattle.sgt_bundle.specs.declared.certificate.Step.{Step}
use Rattle.sgt_bundle.specs.declared.certificate.Decision.{Decision}
use Rattle.sgt_bundle.specs.declared.certificate.Decision.TheVariants.{Commit, Refuse, Withdraw}
use Rattle.sgt_bundle.specs.declared.certificate.Certificate.{Certificate}
use Rattle.sgt_bundle.specs.Line.{items_list, is_commit_object, is_refuse_object, is_certificate_object}

-- ---- the items of an array as they are read

-- the texts of these values, with a comma behind each
abbrev pub with_commas : {A : Type 0} → (A → Data) → List A → List ℕ
with_commas data_of [] = []
with_commas data_of (x ∷ xs) = compact_text (data_of x) ++ 44 ∷ with_commas data_of xs

-- ---- the numbers, names and kinds of a value of that shape

-- the whole number of the member, from the least one to below the limit
abbrev pub whole_at : List ℕ → (least limit : ℕ) → Data → Option ℕ
whole_at key least limit d =
    option_and_then (λ n. if nat_le least n && nat_lt n limit then Some n else None)
    (option_and_then as_u64 (option_and_then as_number (get key d)))

abbrev pub tx_at : List ℕ → Data → Option ℕ
tx_at key d = whole_at key 1 (2 ^ 32) d

abbrev pub text_at : List ℕ → Data → Option (List ℕ)
text_at key d = option_and_then as_str (get key d)

-- whether it is a name
abbrev pub is_name : Name → Bool
is_name [] = false
is_name (c ∷ cs) = is_small_letter c && list_all is_name_byte cs && nat_lt (length cs) 16

abbrev pub name_if : List ℕ → Option Name
name_if s = if is_name s then Some s else None

abbrev pub name_at : List ℕ → Data → Option Name
name_at key d = option_and_then name_if (text_at key d)

abbrev pub kind_if : List ℕ → Option Kind
kind_if s =
    if bytes_eq s (codes "wr") then Some Wr else (if bytes_eq s (codes "rw") then Some Rw else
    (if bytes_eq s (codes "ww") then Some Ww else None))

abbrev pub kind_at : List ℕ → Data → Option Kind
kind_at key d = option_and_then kind_if (text_at key d)

abbrev pub list_at : List ℕ → Data → Option (List Data)
list_at key d = option_map items_list (option_and_then as_array (get key d))

abbrev pub step_in : ℕ → Data → Option Step
step_in sites d =
    option_and_then (λ x. option_and_then (λ k. option_and_then (λ s. option_map (λ to.
    record { label = record { site = s; item = x; kind = k }; to = to }) (tx_at (codes "to") d))
    (whole_at (codes "site") 0 sites d)) (kind_at (codes "kind") d)) (name_at (codes "item") d)

abbrev pub walk_in : ℕ → List Data → Option (List Step)
walk_in sites [] = Some []
walk_in sites (d ∷ ds) =
    option_and_then (λ x. option_map (λ xs. x ∷ xs) (walk_in sites ds)) (step_in sites d)

abbrev pub commit_in : Data → Option Decision
commit_in d = option_and_then (λ tx. option_map (λ rank. Commit tx rank) (whole_at (codes "rank") 0 (2 ^ 32) d)) (tx_at (codes "commit") d)

abbrev pub refuse_in : ℕ → Data → Option Decision
refuse_in sites d =
    option_and_then (λ tx. option_map (λ walk. Refuse tx walk)
    (option_and_then (walk_in sites) (list_at (codes "walk") d))) (tx_at (codes "refuse") d)

abbrev pub withdraw_in : Data → Option Decision
withdraw_in d = option_map (λ tx. Withdraw tx) (tx_at (codes "withdraw") d)

abbrev pub decision_in : ℕ → Data → Option Decision
decision_in sites d =
    if is_commit_object d then commit_in d else (if is_refuse_object d then refuse_in sites d else withdraw_in d)

abbrev pub decisions_in : ℕ → List Data → Option (List Decision)
decisions_in sites [] = Some []
decisions_in sites (d ∷ ds) =
    option_and_then (λ x. option_map (λ xs. x ∷ xs) (decisions_in sites ds)) (decision_in sites d)

-- the certificate in a value of its shape, where each number, name and kind is in its range
abbrev pub certificate_in : Data → Option Certificate
certificate_in d =
    option_and_then (λ s. option_map (λ ds. record { sites = s; decisions = ds })
    (option_and_then (decisions_in s) (list_at (codes "decisions") d)))
    (whole_at (codes "sites") 1 (max_sites + 1) d)

-- the answer to a value of that shape, which was read from these bytes
abbrev pub judged_as : Option Certificate → List ℕ → Result Certificate CertFault
judged_as None bytes = Err Range
judged_as (Some c) bytes = if bytes_eq (certificate_text c) bytes then Ok c else Err Range

abbrev pub answer_of : Data → List ℕ → Result Certificate CertFault
answer_of d bytes = if is_certificate_object d then judged_as (certificate_in d) bytes else Err Shape

-- the answer, unless memory ran out
abbrev pub Answers : Result Certificate CertFault → Result Certificate CertFault → Type 0
Answers (Ok c) answer = answer ≡ Ok c
Answers (Err NotJson) answer = answer ≡ Err NotJson
Answers (Err Shape) answer = answer ≡ Err Shape
Answers (Err Range) answer = answer ≡ Err Range
Answers (Err Memory) answer = Unit {0}

-- ---- JSON of a certificate's shape, as it is seen in tokens

-- the text of a number below 2^64
abbrev pub IsWhole : List ℕ → Type 0
IsWhole text = (n : ℕ) × (n < 2 ^ 64) × (text ≡ decimal n)

-- a number, or a string, and then the other tokens
abbrev pub HasNumber : (old new : List Token) → Type 0
HasNumber old new = (text : List ℕ) × IsWhole text × (old ≡ Token.number text ∷ new)

abbrev pub HasText : (old new : List Token) → Type 0
HasText old new = (text : List ℕ) × (old ≡ Token.string text ∷ new)

-- a value that passes the test and nests no deeper, and then the other tokens
abbrev pub HasValue : (Data → Bool) → ℕ → (old new : List Token) → Type 0
HasValue test deep old new = (j : json.Json) × (d : Data) × (old ≡ tree.json_tokens j ++ new)
    × (of_json j ≡ Some d)
    × (test d ≡ true) × (tree.depth j ≤ deep)

-- such values up to the closing bracket
abbrev pub HasItems : (Data → Bool) → ℕ → (old new : List Token) → Type 0
HasItems test deep old new = (js : json.Items) × (ds : Items) × (old ≡ tree.items_tokens js ++ new)
    × (of_items js ≡ Some ds)
    × (list_all test (items_list ds) ≡ true) × (tree.items_depth js ≤ deep)
