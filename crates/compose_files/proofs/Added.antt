-- A component that is added stands under its number, and what a file for a component is.
use Rattle.std.proofs.Common.{◌≡◌, ◌≤◌, ℕ, suc, false, cond, List, [], ◌∷◌, ◌++◌, map, Some, None, option_map, refl, ap, ◌∙◌, bytes_eq, arith}
use Rattle.std.specs.Map.{lookup}
use Rattle.std.specs.Option.{option_or}
use Rattle.std.proofs.lemmas.Bool.{eq-eqb, ne_eqb}
use Rattle.compose_graph.specs.Graph.{ComponentEntry, component_at}
use Rattle.compose_graph.specs.Kept.{CountUp}
use Rattle.compose_files.specs.Built.{Sources, file_for, first_file}
use Rattle.compose_files.specs.Paths.{is_empty, joined}

last_above : (low next : ℕ) (cs : List ComponentEntry) (x : ComponentEntry) → CountUp low (map (λ (c : ComponentEntry). c.id) (cs ++ x ∷ [])) next → low ≤ x.id
last_above low next [] x h = h.0
last_above low next (c ∷ cs) x h = let later : suc c.id ≤ x.id = last_above (suc c.id) next cs x h.1 in omega (arith, h.0)

-- the last of components whose numbers count up is found under its number
pub last_there : (low next : ℕ) (cs : List ComponentEntry) (x : ComponentEntry) → CountUp low (map (λ (c : ComponentEntry). c.id) (cs ++ x ∷ [])) next → component_at (cs ++ x ∷ []) x.id ≡ Some x
last_there low next [] x h = ap (λ b. cond b (Some x) None) (eq-eqb x.id x.id refl)
last_there low next (c ∷ cs) x h =
    let above : suc c.id ≤ x.id = last_above (suc c.id) next cs x h.1 in
    ap (λ b. cond b (Some c) (component_at (cs ++ x ∷ []) x.id)) (ne_eqb x.id c.id (λ same. omega arith)) ∙ last_there (suc c.id) next cs x h.1

-- ---- the file of a component

pub file_named : (s : Sources) (name path : List ℕ) → is_empty name ≡ false → lookup (λ k. bytes_eq name k) s.settings.dependencies ≡ Some path → file_for s name ≡ Some (joined s.dir path)
file_named s name path called named = λ k. cond (called k) None (option_or (option_map (joined s.dir) (named k)) (first_file s name))

pub file_searched : (s : Sources) (name : List ℕ) → is_empty name ≡ false → lookup (λ k. bytes_eq name k) s.settings.dependencies ≡ None → file_for s name ≡ first_file s name
file_searched s name called none = λ k. cond (called k) None (option_or (option_map (joined s.dir) (none k)) (first_file s name))
