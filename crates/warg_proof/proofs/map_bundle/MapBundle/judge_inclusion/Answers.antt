use Rattle.std.proofs.Common.{◌∙◌, List, ℕ, length, refl, sym, ap}
use Rattle.std.specs.Prelude.{slice_get}
use Rattle.std.proofs.lemmas.Option.{slice_get_read}
use Rattle.warg_proof.specs.declared.map_bundle.SiblingPath.{SiblingPath}
use Rattle.sha2.specs.Sha256.{sha256}
use Rattle.warg_proof.specs.MapTree.{subtree_path_root}
use Rattle.warg_proof.specs.MapProofs.{MapPath, siblings}
use Rattle.warg_proof.specs.Judging.{map_verdict}
use Rattle.warg_proof.proofs.MapVerdicts.{seen, as_many_given, judged_path}
use Rattle.warg_proof.proofs.map_bundle.MapBundle.judge_inclusion.Goals as goal

pub root_of-found-requires : goal.root_of-found-requires
root_of-found-requires c =
    let look = c.in-Some.ensures.lookup in
    let got = ap (λ (ps : List SiblingPath). slice_get ps c.args.at) (sym c.deref.ensures.value) ∙ slice_get_read c.deref.result.now (length c.deref.result.now) c.args.at c.in-Some.path.now refl look.3.0 look.1 in
    ap (λ (hashes : List (List ℕ)). length hashes) c.as_slice.ensures.value ∙ as_many_given c.self.inside.paths.items c.args.at c.in-Some.path.now c.self.invariant got

pub returns-clause-verdict : goal.returns-clause-verdict
returns-clause-verdict c =
    let look = c.in-Some.ensures.lookup in
    let got = ap (λ (ps : List SiblingPath). slice_get ps c.args.at) (sym c.deref.ensures.value) ∙ slice_get_read c.deref.result.now (length c.deref.result.now) c.args.at c.in-Some.path.now refl look.3.0 look.1 in
    let found = c.root_of-found.ensures
    ∙ ap (λ (hashes : List (List ℕ)). subtree_path_root c.digest-key.result c.args.value.now (siblings (record { given = c.in-Some.path.now.given; siblings = hashes }))) c.as_slice.ensures.value
    ∙ ap (λ (key : List ℕ). subtree_path_root key c.args.value.now (siblings (seen c.in-Some.path.now))) (c.digest-key.ensures ∙ ap sha256 (c.bytes.ensures.value ∙ c.hash.ensures.value)) in
    c.judge_root.ensures ∙ judged_path c.self.inside.paths.items c.args.at c.in-Some.path.now c.args.log_id.now c.args.value.now c.args.root.now c.root_of-found.result got found
    ∙ ap (λ (ps : List MapPath). map_verdict ps c.args.at c.args.log_id.now c.args.value.now c.args.root.now) c.self.view_is
