use Rattle.std.proofs.Common.{◌∙◌, bytes_eq}
use Rattle.indexmap.specs.IndexMap.{insert_entry}
use Rattle.compose_files.specs.View.{built_of}
use Rattle.compose_config.specs.MapLaws.{insert_absent}
use Rattle.compose_files.proofs.serve.make_named.Goals as goal

pub returns-clause-made : goal.returns-clause-made
returns-clause-made c =
    let old = built_of c.args.builder.now in
    let named = c.in_ok-insert.ensures.entries
    ∙ (λ k. insert_entry bytes_eq c.args.builder.now.named.entries (c.in_ok-name.ensures k) (c.in_ok-id.ensures.id k))
    ∙ insert_absent bytes_eq c.args.builder.now.named.entries c.args.name.now old.graph.next_instance c.requires in
    λ k. record { graph = c.in_ok-id.ensures.made k; named = named k; made = old.made; offers = old.offers }
