use Rattle.std.proofs.Common.{◌^◌, ◌<◌, List, length, take, ap, sym, subst, arith}
use Rattle.warg_proof.specs.declared.node.Node.{Node}
use Rattle.warg_prover.specs.Asked.{ListsConsistency}
use Rattle.warg_prover.proofs.Listed.{consistency_bundled, front_length}
use Rattle.warg_prover.proofs.hashes.LogHashes.consistency_bundle.Goals as goal

pub returns-clause-bundle : goal.returns-clause-bundle
returns-clause-bundle c =
    let old = c.args.old in
    let new = c.args.new in
    let low : old < 2 ^ 64 = omega arith in
    let fits : new < 2 ^ 64 = omega arith in
    let nodes = c.as_slice.result.now in (
      _,
      c.in_ok-write.ensures,
      λ entries are.
          let listed = subst (λ (ns : List Node). ListsConsistency ns (take new entries) old) (sym c.as_slice.ensures.value) (c.in_ok-nodes.ensures.nodes entries are) in
          let few : length nodes < 2 ^ 32 = omega (arith, ap length c.as_slice.ensures.value, c.len.ensures) in
          consistency_bundled nodes (take new entries) old new (front_length entries c.args.self.now new c.in_ok-nodes.ensures.there.2 are) low fits few listed,
    )
