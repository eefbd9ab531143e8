use Rattle.std.proofs.Common.{Some, None}
use Rattle.roast.proofs.Certified.{checked}
use Rattle.roast.proofs.certificate.check_certificate.Goals as goal

pub returns-in-Some : goal.returns-in-Some
returns-in-Some c = checked c.args.size c.args.certificate.now (Some c.in-Some.i) c.if-certificate-size.false c.in-Some.ensures.is_the_first_position

pub returns-in-None : goal.returns-in-None
returns-in-None c = checked c.args.size c.args.certificate.now None c.if-certificate-size.false c.in-None.ensures.is_the_first_position
