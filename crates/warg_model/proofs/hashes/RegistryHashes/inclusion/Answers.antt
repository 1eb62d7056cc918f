use Rattle.std.proofs.Common.{rules, ◌≡◌, List, ℕ, sym, ◌∙◌, subst, length, take, arith}
use Rattle.std.specs.Prelude.{IsSome}
use Rattle.std.specs.List.{All, AllByRecursion}
use Rattle.std.proofs.lemmas.List.{take_all}
use Rattle.std.proofs.lemmas.List.Elements.{All-from_recursion}
use Rattle.warg_proof.specs.MapProofs.{log_key}
use Rattle.warg_proof.specs.MapTree.{Entries, value_at}
use Rattle.warg_prover.specs.Asked.{IsInclusionBundle}
use Rattle.warg_prover.specs.Maps.{IsMapBundleOf, map_of}
use Rattle.warg_ledger.specs.Registry.{entry_texts, heads}
use Rattle.warg_model.proofs.FrontLaws.{hashes-length}
use Rattle.warg_model.proofs.HeadLaws.{head-ids}
use Rattle.warg_model.proofs.ThereLaws.{ids-there}
use Rattle.warg_model.proofs.hashes.RegistryHashes.inclusion.Goals as goal

pub returns-clause-shown : goal.returns-clause-shown
returns-clause-shown c w n logs are whole asked =
    let in_log = c.in_ok-log.ensures.bundle in
    let in_map = c.in_ok-map.ensures.bundle in
    let entries = entry_texts w n in
    let indices = c.args.indices.now in
    let count = c.len.result in
    let same : count ≡ length entries = c.len.ensures ∙ hashes-length entries c.args.self.now.log are.log in
    let all : take count entries ≡ entries = take_all count entries (omega (arith, same)) in
    let ids = head-ids w n logs c.args.self.now.leaves.items indices c.in_ok-logs.logs.items are.leaves whole asked c.in_ok-logs.ensures.ids in
    record {
      log = in_log.0;
      log_bytes = c.from_vec.ensures ∙ in_log.1;
      in_log = subst (λ (l : List ℕ). IsInclusionBundle in_log.0 entries l) (sym asked) (subst (λ (l : List (List ℕ)). IsInclusionBundle in_log.0 l indices) all (in_log.2 entries are.log));
      paths = in_map.0;
      map_bytes = c.from_vec-2.ensures ∙ in_map.1;
      in_map = subst (λ (l : List (List ℕ)). IsMapBundleOf in_map.0 (heads w n) l) (c.as_slice.ensures.value ∙ ids) (subst (λ (m : Entries). IsMapBundleOf in_map.0 m c.as_slice.result.now) are.map in_map.2);
    }

pub returns-in_err-map-clause-no_such_proof : goal.returns-in_err-map-clause-no_such_proof
returns-in_err-map-clause-no_such_proof c refused w n are all =
    let self = c.args.self.now in
    let ids = c.in_ok-logs.logs.items in
    let has : Entries → List ℕ → Type 0 = λ m id. IsSome (value_at m (log_key id)) in
    let found : AllByRecursion (has (heads w n)) ids = ids-there (take n w.entries) self.leaves.items c.args.indices.now ids are.leaves c.in_ok-logs.ensures.ids in
    let there : All (has (map_of self.map)) c.as_slice.result.now =
    subst (λ (l : List (List ℕ)). All (has (map_of self.map)) l) (sym c.as_slice.ensures.value) (subst (λ (m : Entries). All (has m) ids) (sym are.map) (All-from_recursion (has (heads w n)) ids found)) in
    c.in_err-map.ensures.no_such_proof (search rules) there
