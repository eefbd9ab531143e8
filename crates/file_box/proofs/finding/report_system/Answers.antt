use Rattle.file_box.proofs.Enclosures.{encloses}
use Rattle.file_box.proofs.finding.report_system.Goals as goal

pub returns-in-Ok-clause-a_box_that_is_found_holds_every_solution : goal.returns-in-Ok-clause-a_box_that_is_found_holds_every_solution
returns-in-Ok-clause-a_box_that_is_found_holds_every_solution g c = encloses (g.S.System.meaning c.args.system) c.args.certificate.now (g.met.S.System.lawful c.args.system)
