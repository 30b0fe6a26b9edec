-- What a line is read as: a JSON value, then the shape of a certificate; and why it is refused.
use Rattle.std.specs.Prelude.{◌≡◌, ℕ, suc, List, [], ◌∷◌, Bool, true, false, ◌&&◌, ◌||◌, ◌==◌, Option, Some, None, is_some, codes, IsUtf8}
use Rattle.std.specs.List.{list_all}
use Rattle.std.specs.Option.{option_map_or}
use Rattle.serde_json.specs.Data.{Data, Items, no_items, item, Members, no_members, member}
use Rattle.serde_json.specs.Find.{get, as_number, as_str, as_array, as_object}
use Rattle.serde_json.specs.Read.{read}
use Rattle.sgt_bundle.specs.Text.{certificate_text, IsCertificate}
use Rattle.sgt_bundle.specs.declared.fault.CertFault.{CertFault}
use Rattle.sgt_bundle.specs.declared.fault.CertFault.TheVariants.{NotJson, Shape, Range, Memory}
use Rattle.sgt_bundle.specs.declared.certificate.Certificate.{Certificate}

-- serde_json reads this value from the bytes
abbrev pub ReadsAs : List ℕ → Data → Type 0
ReadsAs bytes d = IsUtf8 bytes × (read bytes ≡ Some d)

-- ---- the shape

abbrev pub members_count : Members → ℕ
members_count no_members = 0
members_count (member k d ms) = suc (members_count ms)

-- how many members an object has
abbrev pub count : Data → ℕ
count d = option_map_or members_count (as_object d) 0

abbrev pub items_list : Items → List Data
items_list no_items = []
items_list (item d ds) = d ∷ items_list ds

abbrev pub passes : (Data → Bool) → Option Data → Bool
passes test None = false
passes test (Some d) = test d

-- an object with this member, whose value passes the test
abbrev pub has : List ℕ → (Data → Bool) → Data → Bool
has key test d = passes test (get key d)

abbrev pub is_number : Data → Bool
is_number d = is_some (as_number d)

abbrev pub is_string : Data → Bool
is_string d = is_some (as_str d)

abbrev pub all_pass : (Data → Bool) → Option Items → Bool
all_pass test None = false
all_pass test (Some ds) = list_all test (items_list ds)

-- an array, each of whose items passes the test
abbrev pub is_array_of : (Data → Bool) → Data → Bool
is_array_of test d = all_pass test (as_array d)

-- a step of a walk: just these four members, each of its JSON type
abbrev pub is_step_object : Data → Bool
is_step_object d = (count d == 4) && (has (codes "item") is_string d && (has (codes "kind") is_string d
    && (has (codes "site") is_number d && has (codes "to") is_number d)))

-- the three shapes of a decision
abbrev pub is_commit_object : Data → Bool
is_commit_object d = (count d == 2) && (has (codes "commit") is_number d && has (codes "rank") is_number d)

abbrev pub is_refuse_object : Data → Bool
is_refuse_object d = (count d == 2) && (has (codes "refuse") is_number d && has (codes "walk") (is_array_of is_step_object) d)

abbrev pub is_withdraw_object : Data → Bool
is_withdraw_object d = (count d == 1) && has (codes "withdraw") is_number d

abbrev pub is_decision_object : Data → Bool
is_decision_object d = is_commit_object d || (is_refuse_object d || is_withdraw_object d)

-- a certificate: no member is missing, unknown or of another JSON type
abbrev pub is_certificate_object : Data → Bool
is_certificate_object d = (count d == 2) && (has (codes "decisions") (is_array_of is_decision_object) d && has (codes "sites") is_number d)

-- ---- why a line is refused

-- Why no certificate is read from these bytes. Want of memory claims nothing of them.
abbrev pub Refuses : List ℕ → CertFault → Type 0
-- no JSON value is read
Refuses bytes NotJson = (d : Data) → ReadsAs bytes d → ⊥
-- the value read has another shape
Refuses bytes Shape = (d : Data) × ReadsAs bytes d × (is_certificate_object d ≡ false)
-- it has the shape, and the bytes are the text of no certificate
Refuses bytes Range = ((d : Data) × ReadsAs bytes d × (is_certificate_object d ≡ true))
    × ((c : Certificate) → IsCertificate c → bytes ≡ certificate_text c → ⊥)
Refuses bytes Memory = Unit {0}
