use Rattle.std.proofs.Common.{rules, ◌≡◌, ◌-◌, ◌∙◌, ap, length, map, subst, sym, take}
use Rattle.std.specs.Str.{str_to_ascii_lowercase}
use Rattle.comp_declare.specs.Scopes.{plain_entry}
use Rattle.comp_declare.proofs.EntryLaws.{one_fewer, shorter, stand_short}
use Rattle.comp_table.specs.Trees.{AllStand}
use Rattle.comp_declare.proofs.entries.Entries.pop.Goals as goal

pub returns : goal.returns
returns c = λ table entries e shows.
    let counted : c.len.result ≡ length c.args.self.now.numbers.items = search rules in
    let len : c.saturating_sub-len.result ≡ length entries = c.saturating_sub-len.ensures ∙ ap (λ n. n - 1) counted ∙ one_fewer table entries e c.args.self.now.numbers.items shows.stand in
    record {
      stand = subst (λ ks. AllStand table ks (map plain_entry entries)) (sym (c.truncate.ensures.items ∙ ap (λ n. take n c.args.self.now.numbers.items) len)) (stand_short table entries e c.args.self.now.numbers.items shows.stand);
      names_are = c.truncate-2.ensures.keys ∙ ap (λ n. take n c.args.self.now.names.keys) len ∙ shorter (λ x. str_to_ascii_lowercase x.0) entries e c.args.self.now.names.keys shows.names_are;
    }
