-- What from_line says of the certificate's line.
use Rattle.std.proofs.Common.{◌≡◌, ℕ, List, Result, Ok, Err, IfOk, subst}
use Rattle.std.specs.Prelude.{MatchResult}
use Rattle.sgt_bundle.specs.Text.{IsCertificate, certificate_text}
use Rattle.sgt_bundle.specs.declared.certificate.Certificate.{Certificate}
use Rattle.sgt_bundle.specs.declared.fault.CertFault.{CertFault}
use Rattle.sgt_bundle.specs.declared.fault.CertFault.TheVariants as cert
use Rattle.sgt_audit.specs.private.Certified.{IsReadingOf}

-- another fault than want of memory
abbrev IsOther : CertFault → Type 0
IsOther cert.Memory = ⊥
IsOther _ = Unit {0}

pub read-of : (l : List ℕ) (r : Result Certificate CertFault) → IfOk r (λ c. IsCertificate c × (l ≡ certificate_text c))
    → ((c : Certificate) → IsCertificate c → l ≡ certificate_text c
    → MatchResult r (λ found. found ≡ c) (λ e. e ≡ cert.Memory)) → IsReadingOf l r
read-of l (Ok c) ok only = ok
read-of l (Err cert.Memory) ok only = tt
read-of l (Err cert.NotJson) ok only = λ c is same. subst IsOther (only c is same) tt
read-of l (Err cert.Shape) ok only = λ c is same. subst IsOther (only c is same) tt
read-of l (Err cert.Range) ok only = λ c is same. subst IsOther (only c is same) tt
