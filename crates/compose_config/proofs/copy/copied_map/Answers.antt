use Rattle.std.proofs.Common.{◌∙◌, ap, arith, map, ℕ, List, bytes_eq}
use Rattle.indexmap.specs.IndexMap.{insert_entry}
use Rattle.yaml_read.specs.Entries.{seen_entry}
use Rattle.compose_config.proofs.Copies.{copied_next, copied_none}
use Rattle.compose_config.proofs.copy.copied_map.Goals as goal
use Rattle.compose_config.proofs.copy.copied_map.Goals.{in-Some+in_ok-key+in_ok-value+in_ok-insert+in-Some-1, in-Some+in_ok-key+in_ok-value+in_ok-insert+in-None-1, in_default}

pub loop-index-preserved : goal.loop-index-preserved
loop-index-preserved g c =
    elim c.match-get_index.branch [
      | in-Some+in_ok-key+in_ok-value+in_ok-insert+in-Some-1 w ↦ record {
        distinct = c.loop-index.invariant.distinct;
        done =
            rw w.copy-is (ap (map (seen_entry g.V.Copied.seen)) w.in_ok-insert.ensures.entries
            ∙ ap (λ (k : List ℕ). map (seen_entry g.V.Copied.seen) (insert_entry bytes_eq c.loop-index.copy.entries k w.in_ok-value.value)) (w.in_ok-key.ensures ∙ w.as_str.ensures)
            ∙ copied_next g.V.Copied.seen c.args.source.now.entries c.loop-index.copy.entries c.loop-index.index w.in-Some.key.now w.in-Some.value.now w.in_ok-value.value
            c.loop-index.invariant.distinct c.loop-index.invariant.done w.in-Some.ensures.entry w.in_ok-value.ensures);
      }
      | in-Some+in_ok-key+in_ok-value+in_ok-insert+in-None-1 w ↦ record {
        distinct = c.loop-index.invariant.distinct;
        done =
            rw w.copy-is (ap (map (seen_entry g.V.Copied.seen)) w.in_ok-insert.ensures.entries
            ∙ ap (λ (k : List ℕ). map (seen_entry g.V.Copied.seen) (insert_entry bytes_eq c.loop-index.copy.entries k w.in_ok-value.value)) (w.in_ok-key.ensures ∙ w.as_str.ensures)
            ∙ copied_next g.V.Copied.seen c.args.source.now.entries c.loop-index.copy.entries c.loop-index.index w.in-Some.key.now w.in-Some.value.now w.in_ok-value.value
            c.loop-index.invariant.distinct c.loop-index.invariant.done w.in-Some.ensures.entry w.in_ok-value.ensures);
      }
      | in_default w ↦ absurd (copied_none c.args.source.now.entries c.loop-index.index (omega arith) w.in_default.ensures.entry)
    ]
