use Rattle.std.proofs.Common.{◌≡◌, ap, ◌∙◌, w64, to_z, of_z, rules}
use Rattle.heat_file.specs.Checks.{size_after}
use Rattle.heat_file.proofs.Checks.{few_after}
use Rattle.heat_file.proofs.check.Standing.check.Goals as goal

pub returns-else-not-has_ordered_ends-clause-few_nodes :
    goal.returns-else-not-has_ordered_ends-clause-few_nodes
returns-else-not-has_ordered_ends-clause-few_nodes c =
    let f = few_after c.args.self.size c.args.entry c.requires.few_nodes (search rules) in
    let z : to_z w64 (of_z w64 c.args.self.size) ≡ c.args.self.size = search rules in
    let e : to_z w64 (of_z w64 c.size_or.result) ≡ c.size_or.result = search rules in
    rw (e ∙ c.size_or.ensures ∙ ap (λ n. size_after n c.args.entry) z) f
