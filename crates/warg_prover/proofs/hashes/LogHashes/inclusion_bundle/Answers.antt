use Rattle.std.proofs.Common.{◌^◌, ◌<◌, List, length, take, ap, sym, subst, ◌∙◌, arith}
use Rattle.warg_proof.specs.declared.node.Node.{Node}
use Rattle.warg_prover.specs.Asked.{ListsInclusions}
use Rattle.warg_prover.proofs.Listed.{inclusions_bundled, front_length}
use Rattle.warg_prover.proofs.hashes.LogHashes.inclusion_bundle.Goals as goal

pub returns-clause-bundle : goal.returns-clause-bundle
returns-clause-bundle c =
    let count = c.args.count in
    let fits : count < 2 ^ 64 = omega arith in
    let nodes = c.as_slice.result.now in (
      _,
      c.in_ok-write.ensures,
      λ entries are.
          let listed = subst (λ (ns : List Node). ListsInclusions ns (take count entries) c.args.indices.now) (sym c.as_slice.ensures.value) (c.in_ok-nodes.ensures.nodes entries are) in
          let few : length nodes < 2 ^ 32 = omega (arith, ap length c.as_slice.ensures.value, c.len.ensures) in
          let few' : length c.args.indices.now < 2 ^ 32 = omega arith in
          inclusions_bundled nodes c.as_slice-2.result.now (take count entries) c.args.indices.now count (front_length entries c.args.self.now count c.in_ok-nodes.ensures.there.0 are) fits few few'
          c.in_ok-nodes.ensures.there.1 (c.as_slice-2.ensures.value ∙ c.in_ok-inclusions.ensures) listed,
    )
