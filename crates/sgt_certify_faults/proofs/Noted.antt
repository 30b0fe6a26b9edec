-- What is kept of the transactions of entries, after one more.
use Rattle.std.proofs.Common.{◌≡◌, ◌≢◌, ℕ, Bool, cond, List, [], ◌∷◌, ◌++◌, length, map, Some, None, refl, sym, ap, ◌∙◌, subst, arith, inl, inr, All, set}
use Rattle.std.specs.Prelude.{slice_get}
use Rattle.std.specs.List.{filter_map}
use Rattle.std.specs.BTreeMap.{BTreeMap, get}
use Rattle.std.specs.Ordering.{nat_cmp, is_eq}
use Rattle.std.proofs.lemmas.Bool.{cases_eq, cases_order}
use Rattle.std.proofs.lemmas.List.{append-nil, length-append}
use Rattle.std.proofs.lemmas.List.Elements.{All-nil, All-push, filter_map-append}
use Rattle.std.proofs.lemmas.Option.{none-some, same_Some, slice_get_within}
use Rattle.sgt_names.specs.Entry.{tx_of}
use Rattle.sgt_names.specs.declared.entry.Entry.{Entry}
use Rattle.sgt_names.proofs.Lists.{front_at, middle_at, within_at}
use Rattle.sgt_notation.specs.Spelling.{line_text, text_of_lines}
use Rattle.sgt_notation.specs.declared.SectionLine.{SectionLine}
use Rattle.sgt_notation.specs.declared.SectionLine.TheVariants.{Site, Initial, Logged, Final, End}
use Rattle.sgt_audit.specs.Faults.{IsLineIn, logged_in}
use Rattle.sgt_audit_cells.proofs.Lists.{set-at, set-other}
use Rattle.sgt_audit_decisions.proofs.Tables.{map-here, map-others}
use Rattle.sgt_certify_faults.specs.declared.asked.Asking.{Asking}
use Rattle.sgt_certify_faults.specs.declared.asked.Askings.{Askings}
use Rattle.sgt_certify_faults.specs.private.Asked.{AreAskings, IsAskedIn, asked_end, asking_with, first_end, first_of}
use Rattle.sgt_certify_faults.proofs.Odds.{first-none, first-others, first-own}
use Rattle.sgt_certify_faults.proofs.ReadLines.{text-more}

-- an element behind one more is an earlier one, or that one
data AtPush {A : Type 0} (xs : List A) (x : A) (n : ℕ) (y : A) : Type 0 where
  earlier : slice_get xs n ≡ Some y → AtPush xs x n y
  newest : n ≡ length xs → y ≡ x → AtPush xs x n y

at-push : {A : Type 0} (xs : List A) (x : A) (n : ℕ) (y : A) → slice_get (xs ++ x ∷ []) n ≡ Some y → AtPush xs x n y
at-push xs x n y at =
    elim (cases_order n (length xs)) [
      | inl last ↦ newest last (same_Some y x (sym at ∙ ap (slice_get (xs ++ x ∷ [])) last ∙ middle_at xs x []))
      | inr (inl less) ↦
          let z = within_at xs n less in
          earlier (z.1 ∙ ap Some (same_Some z.0 y (sym (front_at xs (x ∷ []) n z.0 z.1) ∙ at)))
      | inr (inr more) ↦ absurd (omega (arith, more, slice_get_within (xs ++ x ∷ []) n y at, length-append xs (x ∷ [])))
    ]

-- one more entry of a transaction that stands there
pub asked-again : (es : List Entry) (e : Entry) (a new : Askings) (number : ℕ) (k : Asking) → AreAskings es a
    → get nat_cmp a.numbers (tx_of e) ≡ Some number → slice_get a.list.items number ≡ Some k
    → new.numbers ≡ a.numbers → new.list.items ≡ set a.list.items number (asking_with k e)
    → AreAskings (es ++ e ∷ []) new
asked-again es e a new number k are there at same_numbers same_list = record {
  placed = λ n j at_n. get-same j.tx ∙ placed n j at_n;
  found = λ tx n by. found tx n (sym (get-same tx) ∙ by);
  ends = ends;
  all = all;
}
  where
    own : k.tx ≡ tx_of e
    own =
        let f = are.found (tx_of e) number there in
        ap (λ (j : Asking). j.tx) (same_Some k f.0 (sym at ∙ f.1)) ∙ f.2

    get-same : (tx : ℕ) → get nat_cmp new.numbers tx ≡ get nat_cmp a.numbers tx
    get-same tx = ap (λ (m : BTreeMap ℕ ℕ). get nat_cmp m tx) same_numbers

    here : slice_get new.list.items number ≡ Some (asking_with k e)
    here = ap (λ (ks : List Asking). slice_get ks number) same_list ∙ set-at a.list.items number (asking_with k e) k at

    other : (n : ℕ) → (n ≡ number → ⊥) → slice_get new.list.items n ≡ slice_get a.list.items n
    other n apart = ap (λ (ks : List Asking). slice_get ks n) same_list
        ∙ set-other a.list.items number n (asking_with k e) apart

    placed : (n : ℕ) (j : Asking) → slice_get new.list.items n ≡ Some j → get nat_cmp a.numbers j.tx ≡ Some n
    placed n j at_n =
        elim (cases_eq n number) [
          | inl same ↦
              let is = same_Some (asking_with k e) j (sym here ∙ ap (slice_get new.list.items) (sym same) ∙ at_n) in
              ap (λ (i : Asking). get nat_cmp a.numbers i.tx) (sym is) ∙ are.placed number k at ∙ ap Some (sym same)
          | inr apart ↦ are.placed n j (sym (other n apart) ∙ at_n)
        ]

    found : (tx n : ℕ) → get nat_cmp a.numbers tx ≡ Some n → (j : Asking) × (slice_get new.list.items n ≡ Some j)
        × (j.tx ≡ tx)
    found tx n by =
        let f = are.found tx n by in
        elim (cases_eq n number) [
          | inl same ↦
              let is = same_Some k f.0 (sym at ∙ ap (slice_get a.list.items) (sym same) ∙ f.1) in
              (asking_with k e, ap (slice_get new.list.items) same ∙ here, ap (λ (i : Asking). i.tx) is ∙ f.2)
          | inr apart ↦ (f.0, other n apart ∙ f.1, f.2)
        ]

    ends : (n : ℕ) (j : Asking) → slice_get new.list.items n ≡ Some j → j.end ≡ first_end j.tx (es ++ e ∷ [])
    ends n j at_n =
        elim (cases_eq n number) [
          | inl same ↦
              let is = same_Some (asking_with k e) j (sym here ∙ ap (slice_get new.list.items) (sym same) ∙ at_n) in
              subst (λ (i : Asking). i.end ≡ first_end i.tx (es ++ e ∷ [])) is
              (ap (λ o. first_of o (asked_end e)) (are.ends number k at) ∙ sym (first-own k.tx es e (sym own)))
          | inr apart ↦
              let at_old = sym (other n apart) ∙ at_n in
              are.ends n j at_old
              ∙ sym (first-others j.tx es e
              (λ same. apart (same_Some n number (sym (are.placed n j at_old)
              ∙ ap (get nat_cmp a.numbers) (sym same) ∙ there))))
        ]

    all : (n : ℕ) (f : Entry) → slice_get (es ++ e ∷ []) n ≡ Some f
        → (m : ℕ) × (get nat_cmp new.numbers (tx_of f) ≡ Some m)
    all n f at_n =
        elim (at-push es e n f at_n) [
          | earlier at_old ↦ let m = are.all n f at_old in (m.0, get-same (tx_of f) ∙ m.1)
          | newest last is ↦ (
            number,
            get-same (tx_of f) ∙ ap (λ (g : Entry). get nat_cmp a.numbers (tx_of g)) is
                ∙ there,
          )
        ]

-- the first entry of a transaction
pub asked-first : (es : List Entry) (e : Entry) (a new : Askings) → AreAskings es a
    → get nat_cmp a.numbers (tx_of e) ≡ None
    → ((q : ℕ) → get nat_cmp new.numbers q ≡ cond (is_eq (nat_cmp (tx_of e) q)) (Some (length a.list.items))
    (get nat_cmp a.numbers q))
    → new.list.items ≡ a.list.items ++ record { tx = tx_of e; end = asked_end e } ∷ [] → AreAskings (es ++ e ∷ []) new
asked-first es e a new are none updates same_list = record { placed = placed; found = found; ends = ends; all = all }
  where
    k : Asking
    k = record { tx = tx_of e; end = asked_end e }

    here : get nat_cmp new.numbers (tx_of e) ≡ Some (length a.list.items)
    here = map-here a.numbers new.numbers (tx_of e) (length a.list.items) updates

    others : (q : ℕ) → tx_of e ≢ q → get nat_cmp new.numbers q ≡ get nat_cmp a.numbers q
    others = map-others a.numbers new.numbers (tx_of e) (length a.list.items) updates

    in-list : (n : ℕ) (j : Asking) → slice_get new.list.items n ≡ Some j → AtPush a.list.items k n j
    in-list n j at = at-push a.list.items k n j (ap (λ (ks : List Asking). slice_get ks n) (sym same_list) ∙ at)

    -- who stood there already is another
    apart : (n : ℕ) (j : Asking) → slice_get a.list.items n ≡ Some j → tx_of e ≢ j.tx
    apart n j at same = none-some n (sym none ∙ ap (get nat_cmp a.numbers) same ∙ are.placed n j at)

    placed : (n : ℕ) (j : Asking) → slice_get new.list.items n ≡ Some j → get nat_cmp new.numbers j.tx ≡ Some n
    placed n j at =
        elim (in-list n j at) [
          | earlier at_old ↦ others j.tx (apart n j at_old) ∙ are.placed n j at_old
          | newest last is ↦ ap (λ (i : Asking). get nat_cmp new.numbers i.tx) is ∙ here ∙ ap Some (sym last)
        ]

    found : (tx n : ℕ) → get nat_cmp new.numbers tx ≡ Some n → (j : Asking) × (slice_get new.list.items n ≡ Some j)
        × (j.tx ≡ tx)
    found tx n by =
        elim (cases_eq (tx_of e) tx) [
          | inl same ↦
              let last = same_Some (length a.list.items) n (sym here ∙ ap (get nat_cmp new.numbers) same ∙ by) in (
                k,
                ap (λ (ks : List Asking). slice_get ks n) same_list
                    ∙ ap (slice_get (a.list.items ++ k ∷ [])) (sym last) ∙ middle_at a.list.items k [],
                same,
              )
          | inr other ↦
              let f = are.found tx n (sym (others tx other) ∙ by) in
              (f.0, ap (λ (ks : List Asking). slice_get ks n) same_list ∙ front_at a.list.items (k ∷ []) n f.0 f.1, f.2)
        ]

    ends : (n : ℕ) (j : Asking) → slice_get new.list.items n ≡ Some j → j.end ≡ first_end j.tx (es ++ e ∷ [])
    ends n j at =
        elim (in-list n j at) [
          | earlier at_old ↦ are.ends n j at_old ∙ sym (first-others j.tx es e (apart n j at_old))
          | newest last is ↦
              subst (λ (i : Asking). i.end ≡ first_end i.tx (es ++ e ∷ [])) (sym is)
              (sym (first-own (tx_of e) es e refl
              ∙ ap (λ o. first_of o (asked_end e)) (first-none (tx_of e) es (λ m f at_f same.
              let number = are.all m f at_f in none-some number.0 (sym none ∙ ap (get nat_cmp a.numbers) (sym same)
              ∙ number.1)))))
        ]

    all : (n : ℕ) (f : Entry) → slice_get (es ++ e ∷ []) n ≡ Some f
        → (m : ℕ) × (get nat_cmp new.numbers (tx_of f) ≡ Some m)
    all n f at =
        elim (cases_eq (tx_of e) (tx_of f)) [
          | inl same ↦ (length a.list.items, ap (get nat_cmp new.numbers) (sym same) ∙ here)
          | inr other ↦ elim (at-push es e n f at) [
            | earlier at_old ↦ let m = are.all n f at_old in (m.0, others (tx_of f) other ∙ m.1)
            | newest last is ↦ absurd (other (ap tx_of (sym is)))
          ]
        ]

-- ---- line by line

-- the lines in front of the rest were asked
pub record IsAskedTo (second : Bool) (bytes : List ℕ) (a : Askings) (rest : List ℕ) : Type 0 where
  pub lines : List SectionLine
  pub each : All (IsLineIn second) lines
  pub text : bytes ≡ text_of_lines (map line_text lines) ++ rest
  pub askings : AreAskings (filter_map logged_in lines) a

pub asked-none : (second : Bool) (bytes : List ℕ) (a : Askings) → AreAskings [] a → IsAskedTo second bytes a bytes
asked-none second bytes a are = record { lines = []; each = All-nil (IsLineIn second); text = refl; askings = are }

pub asked-more : (second : Bool) (bytes : List ℕ) (a new : Askings) (rest after : List ℕ) (line : SectionLine)
    → IsAskedTo second bytes a rest → IsLineIn second line → rest ≡ line_text line ++ 10 ∷ after
    → ((es : List Entry) → AreAskings es a → AreAskings (es ++ filter_map logged_in (line ∷ [])) new)
    → IsAskedTo second bytes new after
asked-more second bytes a new rest after line t is cut adds = record {
  lines = t.lines ++ line ∷ [];
  each = All-push (IsLineIn second) t.lines line t.each is;
  text = t.text ∙ ap (λ (xs : List ℕ). text_of_lines (map line_text t.lines) ++ xs) cut
      ∙ sym (text-more t.lines line after);
  askings = subst (λ (es : List Entry). AreAskings es new) (sym (filter_map-append logged_in t.lines (line ∷ [])))
      (adds (filter_map logged_in t.lines) t.askings);
}

pub asked-end : (second : Bool) (bytes : List ℕ) (a : Askings) (rest : List ℕ) → IsAskedTo second bytes a rest
    → ((line : SectionLine) (more : List ℕ) → IsLineIn second line → rest ≡ line_text line ++ 10 ∷ more → ⊥)
    → IsAskedIn second bytes a
asked-end second bytes a rest t none = (
  t.lines,
  record { each = t.each; rest = rest; text = t.text; no_more = none },
  t.askings,
)

-- a line that is no entry adds nothing
pub adds-nothing : (line : SectionLine) (a : Askings) → ((e : Entry) → line ≡ Logged e → ⊥) → (es : List Entry)
    → AreAskings es a → AreAskings (es ++ filter_map logged_in (line ∷ [])) a
adds-nothing (Logged e) a not es are = absurd (not e refl)
adds-nothing (Site k) a not es are = subst (λ (es : List Entry). AreAskings es a) (sym (append-nil es)) are
adds-nothing (Initial h) a not es are = subst (λ (es : List Entry). AreAskings es a) (sym (append-nil es)) are
adds-nothing (Final h) a not es are = subst (λ (es : List Entry). AreAskings es a) (sym (append-nil es)) are
adds-nothing End a not es are = subst (λ (es : List Entry). AreAskings es a) (sym (append-nil es)) are
