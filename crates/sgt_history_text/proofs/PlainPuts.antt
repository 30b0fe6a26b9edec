-- Operations of a line in the plain layout, put one after another.
use Rattle.std.proofs.Common.{ℕ, ◌≤◌, true, false, List, [], ◌∷◌, ◌++◌, length, All, Option, Some, None, refl, sym, subst, arith}
use Rattle.std.specs.Prelude.{IfSome}
use Rattle.std.proofs.lemmas.List.Elements.{All-push}
use Rattle.json.specs.Json.{Json}
use Rattle.json.specs.Token as token
use Rattle.json.specs.Tree.{json_tokens}
use Rattle.sgt_notation.specs.Private.{Spans}
use Rattle.sgt_history.specs.Transaction.{Transaction}
use Rattle.sgt_history.specs.declared.history.Operation.{Operation}
use Rattle.sgt_history_text.specs.Built.{IsBuilt}
use Rattle.sgt_history_text.specs.Line.{IsOperation, operation_json}
use Rattle.sgt_history_text.specs.Plain.{ArePut, ArePutBefore, ArePutUpTo, IsOperationAt, Means, TextOperation, operation_tokens}
use Rattle.sgt_history_text.specs.Written.{AreWritten, IsLead, ended_by}
use Rattle.sgt_history_text.specs.declared.building.Builder.{Builder}
use Rattle.sgt_history_text.proofs.PlainLines.{closed_tokens, ended_push, pushed_tokens}
use Rattle.sgt_history_text.proofs.Written.{closes_array, lead_none, led, written_none, written_then}

none_each : All IsOperation []
none_each i d h = absurd (omega arith)

module _ (ids : List Json) (h : List (Transaction Json Json)) (bytes : List ℕ) (from : ℕ) where
  -- none yet
  pub put_none : (b : Builder) → from ≤ length bytes → IsBuilt b ids h [] → ArePutBefore ids h bytes from from b
  put_none b within built = record {
    ps = [];
    each = none_each;
    place = from;
    text = written_none bytes from false within;
    lead = lead_none bytes from within;
    built = built;
  }

  pub put_empty : (b : Builder) (to : ℕ) → IsBuilt b ids h [] → Spans bytes from (93 ∷ []) to
      → ArePut ids h bytes from to b
  put_empty b to built close =
      record { ps = []; each = none_each; text = closes_array bytes from to false close; built = built }

  module _ (b b' : Builder) (at behind : ℕ) (o : TextOperation) (put : ArePutBefore ids h bytes from at b)
      (next : IsOperationAt bytes at o behind)
      (pushed : (begun : List (Operation Json Json)) (p : Operation Json Json) → IsBuilt b ids h begun → Means o p
      → IsBuilt b' ids h (begun ++ p ∷ []))
    where
      abbrev ps' : List (Operation Json Json)
      ps' = put.ps ++ next.operation ∷ []

      more : IsBuilt b' ids h ps'
      more = pushed put.ps next.operation put.built next.means

      each' : All IsOperation ps'
      each' = All-push IsOperation put.ps next.operation put.each next.means.is

      so_far : AreWritten bytes from false (operation_tokens ps') behind
      so_far = subst (λ ts. AreWritten bytes from false ts behind) (pushed_tokens put.ps next.operation)
          (written_then bytes from put.place behind false (operation_tokens put.ps)
          (json_tokens (operation_json next.operation)) put.text
          (led bytes put.place at behind (ended_by false (operation_tokens put.ps)) token.begin_array _ refl
          put.lead next.text))

      -- one more, which may be the last
      put_begun : (begun : List (Operation Json Json)) × IsBuilt b' ids h begun
      put_begun = (ps', more)

      pub put_more : (to : ℕ) → IsLead bytes behind true to → ArePutBefore ids h bytes from to b'
      put_more to lead = record {
        ps = ps';
        each = each';
        place = behind;
        text = so_far;
        lead = subst (λ c. IsLead bytes behind c to) (sym (ended_push put.ps next.operation)) lead;
        built = more;
      }

      put_last : (to : ℕ) → Spans bytes behind (93 ∷ []) to → ArePut ids h bytes from to b'
      put_last to close = record {
        ps = ps';
        each = each';
        text = subst (λ ts. AreWritten bytes from false ts to) (closed_tokens ps')
            (written_then bytes from behind to false (operation_tokens ps') (token.end_array ∷ []) so_far
            (closes_array bytes behind to (ended_by false (operation_tokens ps')) close));
        built = more;
      }

      pub put_last_or : (to : Option ℕ) → IfSome to (Spans bytes behind (93 ∷ [])) → ArePutUpTo ids h bytes from b' to
      put_last_or None none = put_begun
      put_last_or (Some to) close = put_last to close

-- whatever was found, some were put
pub begun_there : (ids : List Json) (h : List (Transaction Json Json)) (bytes : List ℕ) (from : ℕ) (b : Builder)
    (place : Option ℕ) → ArePutUpTo ids h bytes from b place → (begun : List (Operation Json Json)) × IsBuilt b ids h begun
begun_there ids h bytes from b None put = put
begun_there ids h bytes from b (Some to) put = (put.ps, put.built)
