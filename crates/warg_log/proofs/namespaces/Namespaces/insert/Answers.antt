use Rattle.std.proofs.Common.{◌≡◌, Bool, true, false, cond, Option, Some, option_map, refl, ap, ◌∙◌}
use Rattle.std.specs.Prelude.{bytes_eq, string_bytes}
use Rattle.std.specs.BTreeMap.{get_by_text}
use Rattle.std.proofs.lemmas.Map.Text.{btree_map_updates_text}
use Rattle.warg_log.specs.Namespaces.{namespace_view}
use Rattle.warg_log.proofs.namespaces.Namespaces.insert.Goals as goal

seen : {A B : Type 0} (f : A → B) (b : Bool) (w o : Option A) → option_map f (cond b w o) ≡ cond b (option_map f w) (option_map f o)
seen f true w o = refl
seen f false w o = refl

pub returns-clause-ok : goal.returns-clause-ok
returns-clause-ok c = λ n.
    let old = c.args.self.now.map in
    let after = btree_map_updates_text (string_bytes c.in_ok-name.name) old c.insert.new.self (Some c.args.state) c.in_ok-insert.ensures.updates n in
    ap (option_map namespace_view) after ∙ seen namespace_view (bytes_eq (string_bytes c.in_ok-name.name) n) (Some c.args.state) (get_by_text old n)
    ∙ ap (λ bs. cond (bytes_eq bs n) (Some (namespace_view c.args.state)) (option_map namespace_view (get_by_text old n))) c.in_ok-name.ensures.ok
