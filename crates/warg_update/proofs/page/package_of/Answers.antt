use Rattle.warg_update.proofs.PlaceLaws.{found-id, found-view, no-package, always-found}
use Rattle.warg_update.proofs.page.package_of.Goals as goal

pub returns-in_default-clause-absent : goal.returns-in_default-clause-absent
returns-in_default-clause-absent c = no-package c.args.ids.now.keys c.args.packages.now c.args.id.now c.in_default.ensures.absent

pub returns-clause-found : goal.returns-clause-found
returns-clause-found c = found-id c.args.ids.now.keys c.args.packages.now c.args.id.now c.in-Some.at c.get.result c.in-Some.ensures.found c.get.ensures.lookup

pub returns-clause-there : goal.returns-clause-there
returns-clause-there c = found-view c.args.packages.now c.in-Some.at c.get.result c.get.ensures.lookup

pub returns-clause-absent : goal.returns-clause-absent
returns-clause-absent c = always-found c.args.ids.now.keys c.args.packages.now c.args.id.now c.in-Some.at c.get.result c.in-Some.ensures.found c.get.ensures.lookup
