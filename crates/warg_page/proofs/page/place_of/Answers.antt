use Rattle.std.proofs.Common.{rules}
use Rattle.warg_page.proofs.PlaceLaws.{found-at, absent-all}
use Rattle.warg_page.proofs.page.place_of.Goals as goal

pub returns-clause-found : goal.returns-clause-found
returns-clause-found c = found-at _ c.args.ids.now.keys c.args.id.now c.get_index_of.result (λ k e. search rules) c.get_index_of.ensures.index

pub returns-clause-absent : goal.returns-clause-absent
returns-clause-absent c = absent-all _ c.args.ids.now.keys c.args.id.now c.get_index_of.result c.get_index_of.ensures.found (search rules)
