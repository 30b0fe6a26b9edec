-- The text of a certificate is one line of ASCII.
use Rattle.std.proofs.Common.{◌≡◌, ◌≢◌, ℕ, ◌<◌, ◌≤◌, ◌^◌, Bool, true, false, List, [], ◌∷◌, ◌++◌, refl, sym, subst, arith, inl, inr, All, ltb-true}
use Rattle.std.specs.Prelude.{nat_le, nat_lt, ◌&&◌, ◌||◌, ◌==◌, codes, decimal, IsUtf8}
use Rattle.std.specs.List.{AllByRecursion, list_all, list_any}
use Rattle.std.specs.Str.Parse.{AllDigits}
use Rattle.std.proofs.lemmas.Bool.{eqb-true, leb-true, and_from, and_parts, lt-leb, lt-ltb, or_cases}
use Rattle.std.proofs.lemmas.Fmt.{decimal_is_IsNumeral}
use Rattle.std.proofs.lemmas.List.Elements.{All-from_recursion, All-head, All-tail}
use Rattle.std.proofs.lemmas.Str.{IsUtf8-append, IsUtf8-nil}
use Rattle.std.proofs.lemmas.Str.Parse.{digit_from_value}
use Rattle.json.proofs.Printed.Utf8.{IsUtf8-are_ascii}
use Rattle.serde_json.specs.Written.{compact_text, items_text, comma_if}
use Rattle.sgt_names.specs.Limits.{max_sites}
use Rattle.sgt_names.specs.Name.{Name, IsName, is_name_byte, is_small_letter}
use Rattle.sgt_names.specs.declared.entry.Kind.{Kind}
use Rattle.sgt_names.specs.declared.entry.Kind.TheVariants.{Wr, Rw, Ww}
use Rattle.sgt_notation.specs.Spelling.{HasNoLf}
use Rattle.sgt_notation.proofs.OneSpelling.{HasNot}
use Rattle.sgt_bundle.specs.Text.{kind_name, step_data, decision_data, certificate_text, IsStep, IsDecision, IsCertificate, items_data}
use Rattle.sgt_bundle.specs.declared.certificate.Step.{Step}
use Rattle.sgt_bundle.specs.declared.certificate.Decision.{Decision}
use Rattle.sgt_bundle.specs.declared.certificate.Decision.TheVariants.{Commit, Refuse, Withdraw}
use Rattle.sgt_bundle.specs.declared.certificate.Certificate.{Certificate}
use Rattle.sgt_bundle.proofs.Compact.{high, step-text, commit-pieces, refuse-pieces, withdraw-pieces, certificate-text}
use Rattle.sgt_names.proofs.Stored.{name_byte-low}

-- printable ASCII without spaces
abbrev pub IsPlain : List ℕ → Type 0
IsPlain xs = AllByRecursion (λ b. (33 ≤ b) × (b < 128)) xs

plain-append : (xs ys : List ℕ) → IsPlain xs → IsPlain ys → IsPlain (xs ++ ys)
plain-append [] ys h g = g
plain-append (x ∷ xs) ys h g = (h.0, plain-append xs ys h.1 g)

-- the same, by a test that computes
abbrev is_plain : List ℕ → Bool
is_plain [] = true
is_plain (x ∷ xs) = nat_le 33 x && nat_lt x 128 && is_plain xs

plain-from_test : (xs : List ℕ) → is_plain xs ≡ true → IsPlain xs
plain-from_test [] h = tt
plain-from_test (x ∷ xs) h =
    let p = and_parts (nat_le 33 x && nat_lt x 128) (is_plain xs) h in
    let q = and_parts (nat_le 33 x) (nat_lt x 128) p.0 in
    ((leb-true 33 x q.0, ltb-true x 128 q.1), plain-from_test xs p.1)

plain-literal : (t xs : List ℕ) → is_plain t ≡ true → IsPlain xs → IsPlain (t ++ xs)
plain-literal t xs h g = plain-append t xs (plain-from_test t h) g

plain-digits : (ds : List ℕ) → AllDigits 10 ds → IsPlain ds
plain-digits [] h = tt
plain-digits (d ∷ ds) h = let r = digit_from_value d h.0 in
    ((omega (arith, r.0), omega (arith, r.1)), plain-digits ds h.1)

plain-number : (n : ℕ) → n < 2 ^ 64 → IsPlain (decimal n)
plain-number n small = plain-digits (decimal n) (decimal_is_IsNumeral n small).0.1

plain-bytes : (xs : List ℕ) → list_all is_name_byte xs ≡ true → IsPlain xs
plain-bytes [] h = tt
plain-bytes (c ∷ cs) h = let p = and_parts (is_name_byte c) (list_all is_name_byte cs) h in
    ((high c p.0, name_byte-low c p.0), plain-bytes cs p.1)

plain-name : (x : Name) → IsName x → IsPlain x
plain-name [] h = absurd h
plain-name (c ∷ cs) h =
    let p = and_parts (nat_le 97 c) (nat_le c 122) h.0 in
    let low = leb-true 97 c p.0 in
    let top = leb-true c 122 p.1 in
    ((omega arith, omega arith), plain-bytes cs h.1)

plain-kind : (k : Kind) → IsPlain (kind_name k)
plain-kind Wr = plain-from_test (codes "wr") refl
plain-kind Rw = plain-from_test (codes "rw") refl
plain-kind Ww = plain-from_test (codes "ww") refl

plain-comma : (later : Bool) → IsPlain (comma_if later)
plain-comma true = plain-from_test (44 ∷ []) refl
plain-comma false = tt

plain-step : (sites : ℕ) (s : Step) → sites ≤ max_sites → IsStep sites s → IsPlain (compact_text (step_data s))
plain-step sites s few h =
    subst IsPlain (sym (step-text s h.0))
    (plain-literal (codes "{\"item\":\"") _ refl (plain-append s.label.item _ (plain-name s.label.item h.0)
    (plain-literal (codes "\",\"kind\":\"") _ refl (plain-append (kind_name s.label.kind) _ (plain-kind s.label.kind)
    (plain-literal (codes "\",\"site\":") _ refl (plain-append (decimal s.label.site) _ (plain-number s.label.site (omega (arith, h.1)))
    (plain-literal (codes ",\"to\":") _ refl (plain-append (decimal s.to) _ (plain-number s.to (omega (arith, h.2.1))) (plain-from_test (codes "}") refl)))))))))

plain-walk : (sites : ℕ) (later : Bool) (walk : List Step) → sites ≤ max_sites → All (IsStep sites) walk
    → IsPlain (items_text later (items_data step_data walk))
plain-walk sites later [] few h = plain-from_test (93 ∷ []) refl
plain-walk sites later (s ∷ walk) few h =
    plain-append (comma_if later) _ (plain-comma later)
    (plain-append (compact_text (step_data s)) _ (plain-step sites s few (All-head (IsStep sites) s walk h))
    (plain-walk sites true walk few (All-tail (IsStep sites) s walk h)))

plain-decision : (sites : ℕ) (d : Decision) → sites ≤ max_sites → IsDecision sites d
    → IsPlain (compact_text (decision_data d))
plain-decision sites (Commit tx rank) few h =
    subst IsPlain (commit-pieces (Commit tx rank) tx tx rank refl refl)
    (plain-literal (codes "{\"commit\":") _ refl (plain-append (decimal tx) _ (plain-number tx (omega (arith, h.0.1)))
    (plain-literal (codes ",\"rank\":") _ refl (plain-append (decimal rank) _ (plain-number rank (omega (arith, h.1))) (plain-from_test (codes "}") refl)))))
plain-decision sites (Refuse tx walk) few h =
    subst IsPlain (refuse-pieces (Refuse tx walk) tx tx walk walk refl refl refl)
    (plain-literal (codes "{\"refuse\":") _ refl (plain-append (decimal tx) _ (plain-number tx (omega (arith, h.0.1)))
    (plain-literal (codes ",\"walk\":[") _ refl (plain-append (items_text false (items_data step_data walk)) _ (plain-walk sites false walk few h.1) (plain-from_test (codes "}") refl)))))
plain-decision sites (Withdraw tx) few h =
    subst IsPlain (withdraw-pieces (Withdraw tx) tx tx refl refl)
    (plain-literal (codes "{\"withdraw\":") _ refl (plain-append (decimal tx) _ (plain-number tx (omega (arith, h.1))) (plain-from_test (codes "}") refl)))

plain-decisions : (sites : ℕ) (later : Bool) (ds : List Decision) → sites ≤ max_sites → All (IsDecision sites) ds
    → IsPlain (items_text later (items_data decision_data ds))
plain-decisions sites later [] few h = plain-from_test (93 ∷ []) refl
plain-decisions sites later (d ∷ ds) few h =
    plain-append (comma_if later) _ (plain-comma later)
    (plain-append (compact_text (decision_data d)) _ (plain-decision sites d few (All-head (IsDecision sites) d ds h))
    (plain-decisions sites true ds few (All-tail (IsDecision sites) d ds h)))

-- whatever the number of its sites
plain-text : (sites : ℕ) (c : Certificate) → c.sites < 2 ^ 64 → sites ≤ max_sites → All (IsDecision sites) c.decisions
    → IsPlain (certificate_text c)
plain-text sites c fits few h =
    subst IsPlain (sym (certificate-text c))
    (plain-literal (codes "{\"decisions\":[") _ refl (plain-append (items_text false (items_data decision_data c.decisions)) _ (plain-decisions sites false c.decisions few h)
    (plain-literal (codes ",\"sites\":") _ refl (plain-append (decimal c.sites) _ (plain-number c.sites fits) (plain-from_test (codes "}") refl)))))

plain-certificate : (c : Certificate) → IsCertificate c → IsPlain (certificate_text c)
plain-certificate c h = plain-text c.sites c (omega (arith, h.1)) h.1 h.2

plain-one_line : (xs : List ℕ) → IsPlain xs → HasNot 10 xs
plain-one_line [] h = tt
plain-one_line (x ∷ xs) h = ((λ e. omega (arith, h.0.0)), plain-one_line xs h.1)

plain-no_space : (xs : List ℕ) → IsPlain xs → list_any (λ b. nat_le b 32) xs ≡ false
plain-no_space [] h = refl
plain-no_space (x ∷ xs) h = rw (lt-leb x 32 h.0.0, plain-no_space xs h.1) refl

plain-utf8 : (xs : List ℕ) → IsPlain xs → IsUtf8 xs
plain-utf8 [] h = IsUtf8-nil
plain-utf8 (x ∷ xs) h =
    IsUtf8-append (x ∷ []) xs (IsUtf8-are_ascii (x ∷ []) (and_from (nat_lt x 128) true (lt-ltb x 128 h.0.1) refl))
    (plain-utf8 xs h.1)

-- no line feed stands in it
pub certificate-one_line : (c : Certificate) → IsCertificate c → HasNot 10 (certificate_text c)
certificate-one_line c h = plain-one_line (certificate_text c) (plain-certificate c h)

-- nor a space, nor another control byte
pub certificate-no_space : (c : Certificate) → IsCertificate c
    → list_any (λ b. nat_le b 32) (certificate_text c) ≡ false
certificate-no_space c h = plain-no_space (certificate_text c) (plain-certificate c h)

pub certificate-utf8 : (c : Certificate) → IsCertificate c → IsUtf8 (certificate_text c)
certificate-utf8 c h = plain-utf8 (certificate_text c) (plain-certificate c h)

-- the same, of what is written of any certificate: its names and numbers are in their ranges
pub written-no_lf : (c : Certificate) (line : List ℕ) (decisions : List Decision) → line ≡ certificate_text c
    → c.sites < 2 ^ 64 → decisions ≡ c.decisions
    → All (IsDecision max_sites) decisions → HasNoLf line
written-no_lf c line decisions is fits all h =
    subst HasNoLf (sym is)
    (All-from_recursion (λ b. b ≢ 10) (certificate_text c)
    (plain-one_line (certificate_text c)
    (plain-text max_sites c fits (omega arith) (subst (All (IsDecision max_sites)) all h))))
