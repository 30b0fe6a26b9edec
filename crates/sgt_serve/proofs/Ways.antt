-- What the devices did, over one call and then another.
use Rattle.std.proofs.Common.{◌≡◌, ◌≢◌, ◌⊎◌, inl, inr, ◌+◌, ℕ, List, take, refl, sym, ap, subst, arith, Option, Some, None, Result, Ok, Err}
use Rattle.sgt_names.specs.Device.{KeepsOrForgets}
use Rattle.sgt_pipe.specs.Acts.{WritesAll, WritesPart}
use Rattle.sgt_pipe.specs.Ends.{Hears, LosesReader, LosesWriter, Speaks}
use Rattle.sgt_pipe.proofs.Going.{hears_none, hears_then, loses_now, loses_then, speaks_none, speaks_then}
use Rattle.sgt_serve.specs.declared.fail.ServeFail.{ServeFail}
use Rattle.sgt_serve.specs.declared.fail.ServeFail.TheVariants as fail
use Rattle.sgt_serve.specs.declared.stop.Stop.{Stop}
use Rattle.sgt_serve.specs.declared.stop.Stop.TheVariants as stop
use Rattle.sgt_serve.specs.Devices.{LeavesReader}
use Rattle.sgt_serve.specs.private.Devices.{HearsOr, HearsSo, SpeaksOr, SpeaksSo}
use Rattle.sgt_names.proofs.Elements.{none-unless_some}

-- ---- a result

pub leaves_then : {A : Type 0} (r : Result A ServeFail) (a b c : Option (List ℕ)) (f g h : List ℕ) (k m n reads : ℕ)
    → Hears a b f g k m
    → LeavesReader r b c g h m n reads → LeavesReader r a c f h k n reads
leaves_then (Ok x) a b c f g h k m n reads p q = hears_then a b c f g h k m n p q
leaves_then (Err fail.Memory) a b c f g h k m n reads p q = hears_then a b c f g h k m n p q
leaves_then (Err (fail.ReadFault l)) a b c f g h k m n reads p q = loses_then a b c f g h k m n reads p q
leaves_then (Err (fail.WriteFault l)) a b c f g h k m n reads p q = hears_then a b c f g h k m n p q
leaves_then (Err fail.BundleFault) a b c f g h k m n reads p q = hears_then a b c f g h k m n p q

-- ---- it goes on

pub hears_at : (o : Option Stop) (a b : Option (List ℕ)) (f g : List ℕ) (k m reads : ℕ)
    → ((s : Stop) → o ≡ Some s → ⊥) → HearsOr o a b f g k m reads → Hears a b f g k m
hears_at None a b f g k m reads not p = p
hears_at (Some s) a b f g k m reads not p = absurd (not s refl)

pub speaks_at : (o : Option Stop) (a b : Option (List ℕ)) (f g : List ℕ) (k m : ℕ) → ((s : Stop) → o ≡ Some s → ⊥)
    → SpeaksOr o a b f g k m → Speaks a b f g k m
speaks_at None a b f g k m not p = p
speaks_at (Some s) a b f g k m not p = absurd (not s refl)

-- ---- one call

pub silent_as : (a b : Option (List ℕ)) (f g : List ℕ) (k m : ℕ) → b ≡ a → g ≡ f → m ≡ k → Speaks a b f g k m
silent_as a b f g k m told written count =
    subst (λ (x : Option (List ℕ)). Speaks a x f g k m) (sym told)
    (subst (λ (x : List ℕ). Speaks a a f x k m) (sym written)
    (subst (λ (x : ℕ). Speaks a a f f k x) (sym count) (speaks_none a f k)))

pub deaf_as : (a b : Option (List ℕ)) (f g : List ℕ) (k m : ℕ) → b ≡ a → g ≡ f → m ≡ k → Hears a b f g k m
deaf_as a b f g k m told given count =
    subst (λ (x : Option (List ℕ)). Hears a x f g k m) (sym told) (subst (λ (x : List ℕ). Hears a a f x k m) (sym given)
    (subst (λ (x : ℕ). Hears a a f f k x) (sym count) (hears_none a f k)))

-- a read that failed; or none was left, and none is
pub loses_told : (a b : Option (List ℕ)) (f g : List ℕ) (k m old reads : ℕ) → KeepsOrForgets a b → g ≡ f
    → (m ≡ k + 1) ⊎ ((old ≡ 0) × (reads ≡ 0)) → LosesReader a b f g k m reads
loses_told a b f g k m old reads keeps same (inl more) = loses_now a b f g k m reads keeps same (inl more)
loses_told a b f g k m old reads keeps same (inr none) = loses_now a b f g k m reads keeps same (inr none.1)
