use Rattle.std.proofs.Common.{◌≡◌, ◌+◌, ◌++◌, ◌∷◌, [], List, Some, rules, sym, ◌∙◌, ap, map, take, slice_index_or, length, refl}
use Rattle.std.specs.Prelude.{slice_get, option_map}
use Rattle.std.proofs.lemmas.Option.{slice_get_read}
use Rattle.warg_proof.specs.declared.leaf.LogLeaf.{LogLeaf}
use Rattle.std.proofs.lemmas.List.{map_push, take_more}
use Rattle.warg_model.specs.Hashes.{log_at}
use Rattle.warg_model.proofs.SignatureLaws.{listed-more}
use Rattle.warg_model.proofs.hashes.RegistryHashes.log_ids.Goals as goal

pub loop-index-preserved : goal.loop-index-preserved
loop-index-preserved c =
    let leaves = c.args.self.now.leaves.items in
    let i = c.loop-index.index-index in
    let xs = c.args.indices.now in
    let j = slice_index_or xs i 0 in
    let id = c.in-Some.leaf.now.log_id in
    let ids = c.loop-index.ids.items in
    let e : take (i + 1) xs ≡ take i xs ++ j ∷ [] = search (rules, take_more) in
    let look = c.in-Some.ensures.lookup in
    let got : slice_get leaves j ≡ Some c.in-Some.leaf.now =
    ap (λ (ls : List LogLeaf). slice_get ls j) (sym c.deref.ensures.value) ∙ slice_get_read c.deref.result.now (length c.deref.result.now) j c.in-Some.leaf.now refl look.3.0 look.1 in
    let at : log_at leaves j ≡ Some id = ap (option_map (λ (l : LogLeaf). l.log_id)) got in
    let pushed : map (λ id. Some id) c.push.new.self.items ≡ map (λ id. Some id) ids ++ Some id ∷ [] = ap (map (λ id. Some id)) c.in_ok-push.ensures.items ∙ map_push (λ id. Some id) ids id in
    listed-more (log_at leaves) [] (map (λ id. Some id) ids) (map (λ id. Some id) c.push.new.self.items) (take i xs) (take (i + 1) xs) j (Some id) c.loop-index.invariant pushed (sym at) e
