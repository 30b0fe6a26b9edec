-- What a layer's refusal is to a service: its want of memory is the service's own, and any other is
-- handed on.
use Rattle.sgt_site.specs.declared.fault.SiteFault.{SiteFault}
use Rattle.sgt_site.specs.declared.fault.SiteFault.TheVariants as site
use Rattle.sgt_certifier.specs.declared.call.CertifierFault.{CertifierFault}
use Rattle.sgt_certifier.specs.declared.call.CertifierFault.TheVariants as certifier
use Rattle.sgt_service_agreement.specs.declared.fault.ServiceFault.{ServiceFault}
use Rattle.sgt_service_agreement.specs.declared.fault.ServiceFault.TheVariants.{Memory, Site, Certifier}

abbrev pub of_site : SiteFault → ServiceFault
of_site site.Memory = Memory
of_site f = Site f

abbrev pub of_certifier : CertifierFault → ServiceFault
of_certifier certifier.Memory = Memory
of_certifier f = Certifier f
