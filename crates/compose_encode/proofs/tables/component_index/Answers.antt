use Rattle.std.proofs.Common.{rules, ◌≡◌, ◌∙◌, ◌+◌, ◌≤◌, ℕ, sym, ap, get_or, arith}
use Rattle.std.specs.Prelude.{slice_index}
use Rattle.compose_encode.proofs.LookLaws.{get_same, index_is}
use Rattle.compose_encode.proofs.tables.component_index.Goals as goal

pub returns-in-Ok-clause-index : goal.returns-in-Ok-clause-index
returns-in-Ok-clause-index c = λ define imports h.
    let number : ℕ = c.index-number.result.now in
    let is : number ≡ get_or c.args.tables.now.composition.now.instances.items c.args.instance 0 = c.index-number.ensures ∙ get_same c.args.tables.now.composition.now.instances.items c.args.instance c.index-number.result.now 0 c.requires.there in
    let rank : c.unwrap_or-rank.result ≡ slice_index c.args.tables.now.ranks.items number = search rules in
    let sum : c.in-Ok.index ≡ c.args.tables.now.first + c.unwrap_or-rank.result = search rules in
    sum ∙ ap (λ r. c.args.tables.now.first + r) rank ∙ index_is c.args.tables.now define imports c.args.instance number h c.requires.there is

pub returns-in-Err-clause-too_large : goal.returns-in-Err-clause-too_large
returns-in-Err-clause-too_large c = λ define imports n h e.
    let number : ℕ = c.index-number.result.now in
    let is : number ≡ get_or c.args.tables.now.composition.now.instances.items c.args.instance 0 = c.index-number.ensures ∙ get_same c.args.tables.now.composition.now.instances.items c.args.instance c.index-number.result.now 0 c.requires.there in
    let rank : c.unwrap_or-rank.result ≡ slice_index c.args.tables.now.ranks.items number = search rules in
    let sum : c.args.tables.now.first + c.unwrap_or-rank.result ≡ n = cc in
    let large : 4294967296 ≤ c.args.tables.now.first + c.unwrap_or-rank.result = search rules in
    (omega (arith, sum, large), sym sum ∙ ap (λ r. c.args.tables.now.first + r) rank ∙ index_is c.args.tables.now define imports c.args.instance number h c.requires.there is)
