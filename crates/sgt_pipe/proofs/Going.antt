-- What the ends of a pipe do, one call behind another.
use Rattle.std.proofs.Common.{◌≡◌, ◌⊎◌, ◌<◌, ◌+◌, ℕ, List, [], ◌++◌, refl, sym, ◌∙◌, ap, subst, arith, inl, inr, append_assoc, Option, Some, None}
use Rattle.std.proofs.lemmas.List.{append-nil}
use Rattle.std.specs.Io.KnownBytes.{Appends, Consumes}
use Rattle.sgt_names.specs.Device.{AppendsOrForgets, KeepsOrForgets}
use Rattle.sgt_notation.specs.Lines.{Leaves}
use Rattle.sgt_pipe.specs.Ends.{Hears, LosesReader, LosesWriter, Speaks}
use Rattle.sgt_names.proofs.Elements.{consumes_none, appends_none}
use Rattle.sgt_names.proofs.Devices.{appends_on}

consumes_on : (a b c : Option (List ℕ)) (xs ys : List ℕ) → Consumes a b xs → Consumes b c ys → Consumes a c (xs ++ ys)
consumes_on None b c xs ys p q = tt
consumes_on (Some us) None c xs ys p q = absurd p
consumes_on (Some us) (Some bs) None xs ys p q = absurd q
consumes_on (Some us) (Some bs) (Some cs) xs ys p q = p
    ∙ (ap (λ (ts : List ℕ). xs ++ ts) q ∙ sym (append_assoc xs ys cs))

leaves_on : (a b c : Option (List ℕ)) (xs ys : List ℕ) → Consumes a b xs → Leaves b ys c → Leaves a (xs ++ ys) c
leaves_on None b c xs ys p q = tt
leaves_on (Some us) None c xs ys p q = absurd p
leaves_on (Some us) (Some bs) None xs ys p q = tt
leaves_on (Some us) (Some bs) (Some cs) xs ys p q = p ∙ (ap (λ (ts : List ℕ). xs ++ ts) q ∙ sym (append_assoc xs ys cs))

leaves_none : (a b : Option (List ℕ)) → KeepsOrForgets a b → Leaves a [] b
leaves_none None b k = tt
leaves_none (Some us) None k = tt
leaves_none (Some us) (Some bs) k = sym k

-- nothing was given, nothing was written
pub hears_none : (told : Option (List ℕ)) (given : List ℕ) (n : ℕ) → Hears told told given given n n
hears_none told given n = record { bytes = []; gave = sym (append-nil given); took = consumes_none told; quiet = refl }

pub speaks_none : (told : Option (List ℕ)) (written : List ℕ) (n : ℕ) → Speaks told told written written n n
speaks_none told written n = record {
  bytes = [];
  wrote = sym (append-nil written);
  put = appends_none told;
  quiet =
      refl;
}

-- these bytes, or these behind them
pub hears_then : (a b c : Option (List ℕ)) (f g h : List ℕ) (k m n : ℕ) → Hears a b f g k m → Hears b c g h m n
    → Hears a c f h k n
hears_then a b c f g h k m n p q = record {
  bytes = p.bytes ++ q.bytes;
  gave = q.gave ∙ (ap (λ (ts : List ℕ). ts ++ q.bytes) p.gave ∙ append_assoc f p.bytes q.bytes);
  took = consumes_on a b c p.bytes q.bytes p.took q.took;
  quiet = q.quiet ∙ p.quiet;
}

pub loses_then : (a b c : Option (List ℕ)) (f g h : List ℕ) (k m n reads : ℕ) → Hears a b f g k m
    → LosesReader b c g h m n reads → LosesReader a c f h k n reads
loses_then a b c f g h k m n reads p q = record {
  bytes = p.bytes ++ q.bytes;
  gave = q.gave ∙ (ap (λ (ts : List ℕ). ts ++ q.bytes) p.gave ∙ append_assoc f p.bytes q.bytes);
  left = leaves_on a b c p.bytes q.bytes p.took q.left;
  fault = subst (λ x. (x < n) ⊎ (reads ≡ 0)) p.quiet q.fault;
}

pub speaks_then : (a b c : Option (List ℕ)) (f g h : List ℕ) (k m n : ℕ) → Speaks a b f g k m → Speaks b c g h m n
    → Speaks a c f h k n
speaks_then a b c f g h k m n p q = record {
  bytes = p.bytes ++ q.bytes;
  wrote = q.wrote ∙ (ap (λ (ts : List ℕ). ts ++ q.bytes) p.wrote ∙ append_assoc f p.bytes q.bytes);
  put = appends_on a b c p.bytes q.bytes p.put q.put;
  quiet = q.quiet ∙ p.quiet;
}

-- a read that failed
pub loses_now : (a b : Option (List ℕ)) (f g : List ℕ) (k m reads : ℕ) → KeepsOrForgets a b → g ≡ f
    → (m ≡ k + 1) ⊎ (reads ≡ 0) → LosesReader a b f g k m reads
loses_now a b f g k m reads keeps same why = record {
  bytes = [];
  gave = same ∙ sym (append-nil f);
  left = leaves_none a b keeps;
  fault = elim why [ inl more ↦ inl (omega (arith, more)) | inr none ↦ inr none ];
}
