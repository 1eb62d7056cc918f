use Rattle.std.proofs.Common.{◌≡◌, Bool, true, false, cond, Option, None, option_map, refl, ap, ◌∙◌}
use Rattle.std.specs.Prelude.{bytes_eq}
use Rattle.std.specs.BTreeMap.{get_by_text}
use Rattle.std.proofs.lemmas.Map.Text.{btree_map_updates_text}
use Rattle.warg_log.specs.Namespaces.{namespace_view}
use Rattle.warg_log.proofs.namespaces.Namespaces.remove.Goals as goal

seen : {A B : Type 0} (f : A → B) (b : Bool) (w o : Option A) → option_map f (cond b w o) ≡ cond b (option_map f w) (option_map f o)
seen f true w o = refl
seen f false w o = refl

pub returns : goal.returns
returns c = λ n.
    let old = c.args.self.now.map in
    let after = btree_map_updates_text c.args.namespace.now old c.remove.new.self None c.remove.ensures.updates n in
    ap (option_map namespace_view) after ∙ seen namespace_view (bytes_eq c.args.namespace.now n) None (get_by_text old n)
