-- Texts that stand in front of others, as they are read one by one.
use Rattle.std.proofs.Common.{◌≡◌, ◌≢◌, ℕ, true, false, List, [], ◌∷◌, ◌++◌, length, All, Option, Some, None, Bor, refl, sym, ap, subst, ◌∙◌, append_assoc}
use Rattle.serde_json.specs.Data.{Data}
use Rattle.serde_json.specs.Written.{compact_text, items_text}
use Rattle.std.specs.Prelude.{IfSome, MatchOption, codes, decimal}
use Rattle.std.proofs.lemmas.List.Elements.{All-push}
use Rattle.sgt_names.specs.Name.{IsName}
use Rattle.sgt_names.specs.declared.entry.Label.{Label}
use Rattle.sgt_bundle.specs.Private.{with_commas}
use Rattle.sgt_bundle.specs.Text.{certificate_text, decision_data, items_data, kind_name, step_data}
use Rattle.sgt_bundle.specs.declared.certificate.Certificate.{Certificate}
use Rattle.sgt_bundle.specs.declared.certificate.Decision.TheVariants.{Commit, Refuse, Withdraw}
use Rattle.sgt_bundle.specs.declared.certificate.Step.{Step}
use Rattle.sgt_bundle.proofs.InRange.{all-none}
use Rattle.sgt_bundle.proofs.Compact.{certificate-text, commit-pieces, refuse-pieces, step-text, withdraw-pieces}

-- ---- with commas between them

-- one more value, and the comma behind it
pub commas-next : {A : Type 0} (data_of : A → Data) (xs : List A) (x : A) (more : List ℕ)
    → with_commas data_of (xs ++ x ∷ []) ++ more ≡ with_commas data_of xs ++ (compact_text (data_of x) ++ 44 ∷ more)
commas-next data_of [] x more = append_assoc (compact_text (data_of x)) (44 ∷ []) more
commas-next data_of (y ∷ ys) x more =
    append_assoc (compact_text (data_of y)) (44 ∷ with_commas data_of (ys ++ x ∷ [])) more
    ∙ (ap (λ t. compact_text (data_of y) ++ 44 ∷ t) (commas-next data_of ys x more)
    ∙ sym (append_assoc (compact_text (data_of y)) (44 ∷ with_commas data_of ys)
    (compact_text (data_of x) ++ 44 ∷ more)))

-- a further value has a comma before it
items-later : {A : Type 0} (data_of : A → Data) (ys : List A) (x : A)
    → items_text true (items_data data_of (ys ++ x ∷ [])) ≡ 44 ∷ items_text false (items_data data_of (ys ++ x ∷ []))
items-later data_of [] x = refl
items-later data_of (y ∷ ys) x = refl

-- the last value, and the closing bracket behind it
pub commas-last : {A : Type 0} (data_of : A → Data) (xs : List A) (x : A) (more : List ℕ)
    → items_text false (items_data data_of (xs ++ x ∷ [])) ++ more ≡ with_commas data_of xs ++
    (compact_text (data_of x) ++ 93 ∷ more)
commas-last data_of [] x more = append_assoc (compact_text (data_of x)) (93 ∷ []) more
commas-last data_of (y ∷ ys) x more =
    ap (λ t. (compact_text (data_of y) ++ t) ++ more) (items-later data_of ys x)
    ∙ (append_assoc (compact_text (data_of y)) (44 ∷ items_text false (items_data data_of (ys ++ x ∷ []))) more
    ∙ (ap (λ t. compact_text (data_of y) ++ 44 ∷ t) (commas-last data_of ys x more)
    ∙ sym (append_assoc (compact_text (data_of y)) (44 ∷ with_commas data_of ys)
    (compact_text (data_of x) ++ 93 ∷ more))))

-- ---- one value

pub step-front : (label : Label) (to : ℕ) (rest : List ℕ) → IsName label.item
    → compact_text (step_data (record { label = label; to = to })) ++ rest
    ≡ codes "{\"item\":\"" ++ (label.item ++ (codes "\",\"kind\":\"" ++ (kind_name label.kind ++ (codes "\",\"site\":" ++ (decimal label.site ++ (codes ",\"to\":" ++ (decimal to ++ (codes "}" ++ rest))))))))
step-front label to rest h = ap (λ t. t ++ rest) (step-text (record { label = label; to = to }) h) ∙ simp append_assoc

pub commit-front : (tx rank : ℕ) (rest : List ℕ) → compact_text (decision_data (Commit tx rank)) ++ rest
    ≡ codes "{\"commit\":" ++ (decimal tx ++ (codes ",\"rank\":" ++ (decimal rank ++ (codes "}" ++ rest))))
commit-front tx rank rest = ap (λ t. t ++ rest) (sym (commit-pieces (Commit tx rank) tx tx rank refl refl))
    ∙ simp append_assoc

pub withdraw-front : (tx : ℕ) (rest : List ℕ) → compact_text (decision_data (Withdraw tx)) ++ rest ≡ codes "{\"withdraw\":" ++ (decimal tx ++ (codes "}" ++ rest))
withdraw-front tx rest = ap (λ t. t ++ rest) (sym (withdraw-pieces (Withdraw tx) tx tx refl refl)) ∙ simp append_assoc

pub refuse-front : (tx : ℕ) (walk : List Step) (rest : List ℕ) → compact_text (decision_data (Refuse tx walk)) ++ rest
    ≡ codes "{\"refuse\":" ++ (decimal tx ++ (codes ",\"walk\":[" ++ (items_text false (items_data step_data walk) ++ (codes "}" ++ rest))))
refuse-front tx walk rest = ap (λ t. t ++ rest) (sym (refuse-pieces (Refuse tx walk) tx tx walk walk refl refl refl))
    ∙ simp append_assoc

-- ---- read piece by piece

pub certificate-read : (c : Certificate) (bytes a b : List ℕ) → bytes ≡ codes "{\"decisions\":[" ++ a → a ≡ items_text false (items_data decision_data c.decisions) ++ b
    → b ≡ codes ",\"sites\":" ++ (decimal c.sites ++ codes "}") → bytes ≡ certificate_text c
certificate-read c bytes a b front decisions sites = front ∙ rw (decisions, sites) (sym (certificate-text c))

-- ---- a loop

-- one more value behind those that were read, with all of them in their ranges
pub more-read : {A : Type 0} (data_of : A → Data) (P : A → Type 0) (old : List A) (bytes : List ℕ) (xs : List A)
    (rest : List ℕ) (x : A) (after more : List ℕ) (new : List A)
    → (with_commas data_of old ++ bytes ≡ with_commas data_of xs ++ rest) × (All P old → All P xs)
    → P x × (rest ≡ compact_text (data_of x) ++ after) → new ≡ xs ++ x ∷ [] → after ≡ codes "," ++ more
    → (with_commas data_of old ++ bytes ≡ with_commas data_of new ++ more) × (All P old → All P new)
more-read data_of P old bytes xs rest x after more new read one pushed comma = (
  read.0 ∙ (rw (one.1, comma, pushed) (sym (commas-next data_of xs x more))),
  λ h. subst (All P) (sym pushed) (All-push P xs x (read.1 h) one.0),
)

-- the same, where nothing more is said of the texts
pub last-in_range : {A : Type 0} (P : A → Type 0) (Q : Type 0) (xs : List A) (x : A) (new : List A)
    (r : Option (Bor (List ℕ)))
    → (Q → All P xs) → P x → new ≡ xs ++ x ∷ [] → IfSome r (λ more. Q → All P new)
last-in_range P Q xs x new None all one pushed = tt
last-in_range P Q xs x new (Some more) all one pushed = λ h. subst (All P) (sym pushed) (All-push P xs x (all h) one)

-- the last one
pub last-read : {A : Type 0} (data_of : A → Data) (old : List A) (bytes : List ℕ) (xs : List A) (rest : List ℕ)
    (x : A) (after : List ℕ) (new : List A) (r : Option (Bor (List ℕ)))
    → with_commas data_of old ++ bytes ≡ with_commas data_of xs ++ rest → rest ≡ compact_text (data_of x) ++ after
    → new ≡ xs ++ x ∷ []
    → MatchOption r ((more : List ℕ) → after ≢ codes "]" ++ more) (λ more. after ≡ codes "]" ++ more.now)
    → IfSome r (λ more. with_commas data_of old ++ bytes ≡ items_text false (items_data data_of new) ++ more.now)
last-read data_of old bytes xs rest x after new None read one pushed close = tt
last-read data_of old bytes xs rest x after new (Some more) read one pushed close = read
    ∙ (rw (one, close, pushed) (sym (commas-last data_of xs x more.now)))

-- all values, where none were read before
pub all-read : {A : Type 0} (data_of : A → Data) (old : List A) (bytes : List ℕ) (found : Option (Bor (List ℕ)))
    (rest : Bor (List ℕ)) (new listed : List A)
    → old ≡ [] → found ≡ Some rest
    → IfSome found (λ more. with_commas data_of old ++ bytes ≡ items_text false (items_data data_of new)
    ++ more.now) → listed ≡ new
    → bytes ≡ items_text false (items_data data_of listed) ++ rest.now
all-read data_of old bytes found rest new listed none is read same = let all = rw (is, none) at read in rw same all

pub all-in_range : {A : Type 0} (P : A → Type 0) (old : List A) (found : Option (Bor (List ℕ))) (rest : Bor (List ℕ))
    (new listed : List A)
    → old ≡ [] → found ≡ Some rest → IfSome found (λ more. All P old → All P new) → listed ≡ new → All P listed
all-in_range P old found rest new listed none is read same = let all = rw is at read in
    subst (All P) (sym same) (all (all-none P old (ap length none)))
