-- A line in the plain layout spells its transaction.
use Rattle.std.proofs.Common.{◌≡◌, ℕ, suc, ◌<◌, ◌≤◌, ◌^◌, Bool, true, false, List, [], ◌∷◌, ◌++◌, length, map, All, Option, Some, None, refl, sym, ap, ◌∙◌, subst, arith, decimal, codes, append_assoc, append-nil, le_refl}
use Rattle.std.specs.Borrow.{Bor}
use Rattle.std.specs.Prelude.{IfSome, IsUtf8}
use Rattle.std.proofs.lemmas.List.{drop_all}
use Rattle.std.proofs.lemmas.Bool.{false≢true}
use Rattle.std.proofs.lemmas.Grind.{flat_map-append}
use Rattle.std.proofs.lemmas.List.Sums.{fold-append}
use Rattle.json.specs.Json.{Json, string, array, object, Members, member, no_members}
use Rattle.json.specs.Lex.{tokens}
use Rattle.json.specs.Print.{ArePrintable, ends, escape_byte, print_from}
use Rattle.json.specs.Spaced.{print_spaced}
use Rattle.json.specs.Token.{Token}
use Rattle.json.specs.Token as token
use Rattle.json.specs.Tree.{HasNumbers, ItemsHaveNumbers, json_tokens, items_tokens}
use Rattle.json.specs.Value.{items_of}
use Rattle.json.proofs.Printed.Decimals.{IsNumber-decimal}
use Rattle.json.proofs.Printed.Tokens.{tokens-print_spaced}
use Rattle.json.proofs.Printed.Trees.{ArePrintable-json_tokens}
use Rattle.sgt_notation.specs.Private.{Spans}
use Rattle.sgt_history.specs.Transaction.{Transaction}
use Rattle.sgt_history.specs.declared.history.Kind.{Kind}
use Rattle.sgt_history.specs.declared.history.Kind.TheVariants.{Read, Write}
use Rattle.sgt_history.specs.declared.history.Operation.{Operation}
use Rattle.sgt_history_text.specs.Line.{IsLine, IsOperation, end_word, given, kind_word, operation_json}
use Rattle.sgt_history_text.specs.Name.{IsId, IsKey, IsValue}
use Rattle.sgt_history_text.specs.Plain.{IsCompactOf, IsGivenAt, IsHeadAt, IsOperationAt, IsPlain, Means, TextOperation, end_text, end_tokens, given_tokens, head_tokens, kind_text, operation_tokens, operations_tokens}
use Rattle.sgt_history_text.specs.Written.{AreWritten, IsLead, ended_by}
use Rattle.sgt_history_text.specs.Built.{AreMoments, IsNumbered, IsNumberedOperation, IsNumberedValue}
use Rattle.sgt_history_text.specs.Moment.{AreTold, HasSession, HasTimes, IsLineWith}
use Rattle.sgt_history_text.specs.declared.moments.Moments.{Moments}
use Rattle.sgt_history_text.specs.declared.wanted.Wanted.{Wanted}
use Rattle.sgt_history_text.proofs.Kept.{given_numbers, key_numbers, value_numbers}
use Rattle.sgt_history_text.proofs.PlainTexts.{compact_number}
use Rattle.sgt_history_text.proofs.Written.{closes_array, closes_object, ended_key, led, led_key, led_value, written_bare, written_none, written_then}

-- ---- an operation

pub given_none : (bytes : List ℕ) (from : ℕ) → from ≤ length bytes → IsGivenAt bytes from None from
given_none bytes from within =
    record { value = None; is = tt; means = tt; text = written_none bytes from true within }

pub given_there : (bytes : List ℕ) (from at to : ℕ) (v : Bor (List ℕ)) → IsLead bytes from true at
    → IsCompactOf IsValue v.now × Spans bytes at v.now to → IsGivenAt bytes from (Some v) to
given_there bytes from at to v lead found = record {
  value = Some found.0.value;
  is = found.0.is;
  means = found.0.text_is;
  text = led_value bytes from at to true lead found.0.value found.0.is
      (subst (λ t. Spans bytes at t to) found.0.text_is found.1);
}

given_closed : (v : Option Json) → given_tokens v ++ token.end_array ∷ [] ≡ items_tokens (given v)
given_closed None = refl
given_closed (Some j) = refl

kind_is : (k : Kind) → kind_text k ≡ print_from false (token.begin_array ∷ token.string (kind_word k) ∷ [])
unfolding print_from escape_byte
kind_is Read = refl
kind_is Write = refl

module _ (bytes : List ℕ) (o : TextOperation) (a b name_at c version_at d e f : ℕ)
    (word : Spans bytes a (kind_text o.kind) b) (to_name : IsLead bytes b true name_at)
    (name : IsCompactOf (IsKey 0 1024) o.item.now × Spans bytes name_at o.item.now c)
    (to_version : IsLead bytes c true version_at)
    (version : (o.version < 2 ^ 64) × Spans bytes version_at (decimal o.version) d)
    (positive : o.kind ≡ Write → 0 < o.version) (value : IsGivenAt bytes d o.value e)
    (close : Spans bytes e (93 ∷ []) f) where
  abbrev meant : Operation Json Json
  meant = record { version = o.version; item = name.0.value; kind = o.kind; value = value.value }

  abbrev number_token : Token
  number_token = token.number (decimal o.version)

  end_written : AreWritten bytes d true (items_tokens (given value.value)) f
  end_written = subst (λ ts. AreWritten bytes d true ts f) (given_closed value.value)
      (written_then bytes d e f true (given_tokens value.value) (token.end_array ∷ []) value.text
      (closes_array bytes e f (ended_by true (given_tokens value.value)) close))

  version_written : AreWritten bytes c true (number_token ∷ items_tokens (given value.value)) f
  version_written = written_then bytes c d f true (number_token ∷ []) (items_tokens (given value.value))
      (led bytes c version_at d true number_token [] refl to_version (written_bare bytes version_at d false
      (number_token ∷ [])
      (subst (λ t. Spans bytes version_at t d) (sym (compact_number (decimal o.version))) version.1))) end_written

  name_written : AreWritten bytes b true
      (json_tokens name.0.value ++ number_token ∷ items_tokens (given value.value)) f
  name_written = written_then bytes b c f true (json_tokens name.0.value) _
      (led_key bytes b name_at c true to_name 0 1024 name.0.value name.0.is
      (subst (λ t. Spans bytes name_at t c) name.0.text_is name.1))
      (subst (λ v. AreWritten bytes c v (number_token ∷ items_tokens (given value.value)) f)
      (sym (ended_key true 0 1024 name.0.value name.0.is)) version_written)

  pub operation_there : IsOperationAt bytes a o f
  operation_there = record {
    operation = meant;
    means = record {
      version_is = refl;
      kind_is = refl;
      item_is = name.0.text_is;
      value_is = value.means;
      is = record { item_is = name.0.is; version_fits = version.0; positive = positive; value_is = value.is };
    };
    text = written_then bytes a b f false (token.begin_array ∷ token.string (kind_word o.kind) ∷ []) _
        (written_bare bytes a b false (token.begin_array ∷ token.string (kind_word o.kind) ∷ [])
        (subst (λ t. Spans bytes a t b) (kind_is o.kind) word)) name_written;
  }

-- ---- operations

given_have : (j : Option Json) → IfSome j IsValue → ItemsHaveNumbers (given j)
given_have None k = tt
given_have (Some j) k = (value_numbers j k, tt)

operation_numbers : (p : Operation Json Json) → IsOperation p → HasNumbers (operation_json p)
operation_numbers p is = (
  tt,
  (
    key_numbers 0 1024 p.item is.item_is,
    (IsNumber-decimal p.version is.version_fits, given_have p.value is.value_is),
  ),
)

each_numbers : (ps : List (Operation Json Json)) → All IsOperation ps
    → ItemsHaveNumbers (items_of (map operation_json ps))
each_numbers [] each = tt
each_numbers (p ∷ ps) each =
    (operation_numbers p (each 0 p (omega arith)), each_numbers ps (λ i d h. each (suc i) d (omega arith)))

-- with the closing bracket
pub closed_tokens : (ps : List (Operation Json Json))
    → operation_tokens ps ++ token.end_array ∷ [] ≡ operations_tokens ps
closed_tokens [] = refl
closed_tokens (p ∷ ps) =
    append_assoc (json_tokens (operation_json p)) (operation_tokens ps) (token.end_array ∷ [])
    ∙ ap (λ ts. json_tokens (operation_json p) ++ ts) (closed_tokens ps)

-- one more
pub pushed_tokens : (ps : List (Operation Json Json)) (p : Operation Json Json)
    → operation_tokens ps ++ json_tokens (operation_json p) ≡ operation_tokens (ps ++ p ∷ [])
pushed_tokens ps p =
    sym (flat_map-append (λ p. json_tokens (operation_json p)) ps (p ∷ [])
    ∙ ap (λ ts. operation_tokens ps ++ ts) (append-nil (json_tokens (operation_json p))))

ended_given : (c : Bool) (v : Option Json) → ended_by c (items_tokens (given v)) ≡ true
ended_given c None = refl
ended_given c (Some j) = fold-append (λ _ t. ends t) c (json_tokens j) (token.end_array ∷ [])

ended_operation : (c : Bool) (p : Operation Json Json) → ended_by c (json_tokens (operation_json p)) ≡ true
ended_operation c p =
    fold-append (λ _ t. ends t) true (json_tokens p.item)
    (token.number (decimal p.version) ∷ items_tokens (given p.value)) ∙ ended_given true p.value

pub ended_push : (ps : List (Operation Json Json)) (p : Operation Json Json)
    → ended_by false (operation_tokens (ps ++ p ∷ [])) ≡ true
ended_push ps p =
    ap (ended_by false) (sym (pushed_tokens ps p))
    ∙ fold-append (λ _ t. ends t) false (operation_tokens ps) (json_tokens (operation_json p))
    ∙ ended_operation (ended_by false (operation_tokens ps)) p

-- ---- the front of a line

end_key_is : print_from false (token.key (codes "end") ∷ []) ≡ 34 ∷ 101 ∷ 110 ∷ 100 ∷ 34 ∷ 58 ∷ []
unfolding print_from escape_byte
end_key_is = refl

ops_key_is : print_from false (token.key (codes "ops") ∷ []) ≡ 34 ∷ 111 ∷ 112 ∷ 115 ∷ 34 ∷ 58 ∷ []
unfolding print_from escape_byte
ops_key_is = refl

bracket_is : print_from false (token.begin_array ∷ []) ≡ 91 ∷ []
unfolding print_from
bracket_is = refl

tx_is : print_from false (token.begin_object ∷ token.key (codes "tx") ∷ [])
    ≡ 123 ∷ 34 ∷ 116 ∷ 120 ∷ 34 ∷ 58 ∷ []
unfolding print_from escape_byte
tx_is = refl

end_is : (commits : Bool) → end_text commits ≡ print_from false (token.string (end_word commits) ∷ [])
unfolding print_from escape_byte
end_is true = refl
end_is false = refl

pub end_there : (bytes : List ℕ) (commits : Bool) (a b c d e f g h i : ℕ) → IsLead bytes a true b
    → Spans bytes b (34 ∷ 101 ∷ 110 ∷ 100 ∷ 34 ∷ 58 ∷ []) c → IsLead bytes c false d
    → Spans bytes d (end_text commits) e → IsLead bytes e true f
    → Spans bytes f (34 ∷ 111 ∷ 112 ∷ 115 ∷ 34 ∷ 58 ∷ []) g → IsLead bytes g false h
    → Spans bytes h (91 ∷ []) i → AreWritten bytes a true (end_tokens commits) i
end_there bytes commits a b c d e f g h i to_end end to_word word to_ops ops to_bracket bracket =
    let end_key = token.key (codes "end") in
    let said = token.string (end_word commits) in
    let ops_key = token.key (codes "ops") in
    written_then bytes a c i true (end_key ∷ []) (said ∷ ops_key ∷ token.begin_array ∷ [])
    (led bytes a b c true end_key [] refl to_end
    (written_bare bytes b c false (end_key ∷ []) (subst (λ t. Spans bytes b t c) (sym end_key_is) end)))
    (written_then bytes c e i false (said ∷ []) (ops_key ∷ token.begin_array ∷ [])
    (led bytes c d e false said [] refl to_word
    (written_bare bytes d e false (said ∷ []) (subst (λ t. Spans bytes d t e) (end_is commits) word)))
    (written_then bytes e g i true (ops_key ∷ []) (token.begin_array ∷ [])
    (led bytes e f g true ops_key [] refl to_ops
    (written_bare bytes f g false (ops_key ∷ []) (subst (λ t. Spans bytes f t g) (sym ops_key_is) ops)))
    (led bytes g h i false token.begin_array [] refl to_bracket
    (written_bare bytes h i false (token.begin_array ∷ []) (subst (λ t. Spans bytes h t i) (sym bracket_is) bracket)))))

pub head_there : (line id : List ℕ) (commits : Bool) (a b c d : ℕ)
    → Spans line 0 (123 ∷ 34 ∷ 116 ∷ 120 ∷ 34 ∷ 58 ∷ []) a → IsLead line a false b
    → IsCompactOf (IsKey 1 256) id × Spans line b id c → AreWritten line c true (end_tokens commits) d
    → IsHeadAt line id commits d
head_there line id commits a b c d word to_id found end =
    let front = token.begin_object ∷ token.key (codes "tx") ∷ [] in
    record {
      name = found.0.value;
      is = found.0.is;
      text_is = found.0.text_is;
      text = written_then line 0 a d false front (json_tokens found.0.value ++ end_tokens commits)
          (written_bare line 0 a false front (subst (λ t. Spans line 0 t a) (sym tx_is) word))
          (written_then line a c d false (json_tokens found.0.value) (end_tokens commits)
          (led_key line a b c false to_id 1 256 found.0.value found.0.is
          (subst (λ t. Spans line b t c) found.0.text_is found.1))
          (subst (λ v. AreWritten line c v (end_tokens commits) d)
          (sym (ended_key false 1 256 found.0.value found.0.is)) end));
    }

-- ---- the line

abbrev members_of : Json → Bool → List (Operation Json Json) → Members
members_of id commits ps =
    member (codes "tx") id (member (codes "end") (string (end_word commits)) (member (codes "ops") (array (items_of (map operation_json ps))) no_members))

line_tokens : (id : Json) (commits : Bool) (ps : List (Operation Json Json))
    → head_tokens id commits ++ (operations_tokens ps ++ token.end_object ∷ [])
    ≡ json_tokens (object (members_of id commits ps))
line_tokens id commits ps = ap (λ ts. token.begin_object ∷ token.key (codes "tx") ∷ ts)
    (append_assoc (json_tokens id) (end_tokens commits) (operations_tokens ps ++ token.end_object ∷ []))

line_numbers : (id : Json) (commits : Bool) (ps : List (Operation Json Json)) → IsId id
    → All IsOperation ps → HasNumbers (object (members_of id commits ps))
line_numbers id commits ps k each = (key_numbers 1 256 id k, (tt, (each_numbers ps each, tt)))

-- what is written from the first place to the last are the tokens of the text
tokens_written : (line : List ℕ) (ts : List Token) → AreWritten line 0 false ts (length line) → ArePrintable ts
    → tokens line ≡ ts
tokens_written line ts w printable =
    let whole : line ≡ print_spaced false w.spaced =
    w.text.reads
    ∙ (ap (λ t. print_spaced false w.spaced ++ t) (drop_all (length line) line (le_refl (length line)))
    ∙ append-nil (print_spaced false w.spaced)) in
    ap tokens whole
    ∙ (tokens-print_spaced w.spaced w.gaps (subst ArePrintable (sym w.tokens_are) printable) ∙ w.tokens_are)

head_open : (id : Json) (commits : Bool) → ended_by false (head_tokens id commits) ≡ false
head_open id commits = fold-append (λ _ t. ends t) false (json_tokens id) (end_tokens commits)

pub plain_found : (line id_text : List ℕ) (commits : Bool) (ps : List (Operation Json Json)) (i j : ℕ) → IsUtf8 line
    → (head : IsHeadAt line id_text commits i) → All IsOperation ps
    → AreWritten line i false (operations_tokens ps) j → Spans line j (125 ∷ []) (length line)
    → IsLine line head.name (record { commits = commits; operations = ps })
plain_found line id_text commits ps i j utf8 head each written last =
    let id = head.name in
    let ops = operations_tokens ps in
    let whole = object (members_of id commits ps) in
    let rest : AreWritten line i false (ops ++ token.end_object ∷ []) (length line) =
    written_then line i j (length line) false ops (token.end_object ∷ []) written
    (closes_object line j (length line) (ended_by false ops) last) in
    let all : AreWritten line 0 false (json_tokens whole) (length line) =
    subst (λ ts. AreWritten line 0 false ts (length line)) (line_tokens id commits ps)
    (written_then line 0 i (length line) false (head_tokens id commits) (ops ++ token.end_object ∷ []) head.text
    (subst (λ c. AreWritten line i c (ops ++ token.end_object ∷ []) (length line)) (sym (head_open id commits)) rest)) in
    record {
      members = members_of id commits ps;
      is_object = record {
        utf8 = utf8;
        tokens_are = tokens_written line (json_tokens whole) all
            (ArePrintable-json_tokens whole (line_numbers id commits ps head.is each));
      };
      tx = refl;
      end = refl;
      ops = refl;
      id_is = head.is;
      each = each;
    }

-- ---- with numbers

pub plain_positive : (o : TextOperation) → IsPlain o → o.kind ≡ Write → 0 < o.version
plain_positive o (p, m) write = subst (λ k. 0 < k) (sym m.version_is) (m.is.positive (sym m.kind_is ∙ write))

pub plain_numbered : (o : TextOperation) (p : Operation Json Json) → Means o p
    → (js vs : List Json) (items values : List (List ℕ)) (n : ℕ) (v : Option ℕ)
    → (HasNumbers p.item → IsNumbered js p.item items n)
    → (IfSome p.value HasNumbers → IsNumberedValue vs p.value values v)
    → IsNumberedOperation js vs p items values (record { version = o.version; item = n; kind = o.kind; value = v })
plain_numbered o p m js vs items values n v item_is value_is = record {
  version_is = m.version_is;
  kind_is = m.kind_is;
  item_is = item_is (key_numbers 0 1024 p.item m.is.item_is);
  value_is = value_is (given_numbers p.value m.is.value_is);
}

-- ---- where nothing more is wanted

told_alone : {E : Type 0} (Has : List ℕ → E → Type 0) (wanted : Bool) → wanted ≡ false
    → (lines more : List (List ℕ)) (h g : List (Transaction Json Json))
    (es : List (Option E)) → AreTold Has wanted lines h es → AreTold Has wanted more g es
told_alone Has true e lines more h g es told = absurd (false≢true (sym e))
told_alone Has false e lines more h g es told = told

module _ (w : Wanted) (m : Moments) (lines : List (List ℕ)) (h : List (Transaction Json Json)) (line : List ℕ)
    (moments : AreMoments w m lines h)
    (no_times : m.wanted.real_time ≡ false) (no_sessions : m.wanted.sessions ≡ false) where
  untimed : w.real_time ≡ false
  untimed = sym (ap (λ (v : Wanted). v.real_time) moments.wanted_is) ∙ no_times

  unsessioned : w.sessions ≡ false
  unsessioned = sym (ap (λ (v : Wanted). v.sessions) moments.wanted_is) ∙ no_sessions

  pub moments_alone : (t : Transaction Json Json) → AreMoments w m (lines ++ line ∷ []) (h ++ t ∷ [])
  moments_alone t = record {
    sessions = moments.sessions;
    wanted_is = moments.wanted_is;
    sessions_are = moments.sessions_are;
    tell = record {
      timed = told_alone HasTimes w.real_time untimed lines (lines ++ line ∷ []) h (h ++ t ∷ []) m.times.items
          moments.tell.timed;
      sessioned = told_alone HasSession w.sessions unsessioned lines (lines ++ line ∷ []) h
          (h ++ t ∷ []) moments.sessions moments.tell.sessioned;
    };
  }

  pub line_alone : (id : Json) (t : Transaction Json Json) → IsLine line id t → IsLineWith w line id t
  line_alone id t is = record {
    line_is = is;
    timed = λ yes. absurd (false≢true (sym untimed ∙ yes));
    sessioned = λ yes. absurd (false≢true (sym unsessioned ∙ yes));
  }
