-- The graph of one instance has no circle.
use Rattle.std.proofs.Common.{true≢false, sym, ℕ, zero, suc, List, [], ◌∷◌}
use Rattle.comp_entity.specs.Entity.{ShapeTree}
use Rattle.compose_check.specs.Circles.{Leads}
use Rattle.compose_graph.specs.Judged.{IsCycle}
use Rattle.warg_program.specs.Link.{IsLinkCause, IsRoot, IsUnencoded, root_graph}
use Rattle.warg_program.specs.World.{SeenFiles}
use Rattle.warg_program.specs.declared.stop.Stop.{Stop}
use Rattle.warg_program.specs.declared.stop.Stop.TheVariants as stop

no_way : (n : ℕ) (between : List ℕ) (end : ℕ) → Leads ([] ∷ []) n between end → ⊥
no_way zero [] end leads = true≢false (sym leads)
no_way (suc n) [] end leads = true≢false (sym leads)
no_way zero (m ∷ between) end leads = true≢false (sym leads.0)
no_way (suc n) (m ∷ between) end leads = true≢false (sym leads.0)

pub no_cycle : (bytes : List ℕ) (tree : ShapeTree) (id : ℕ) (name : List ℕ) → IsCycle (root_graph bytes tree) id name → ⊥
no_cycle bytes tree id name cycle = no_way cycle.place cycle.circle.last.on.0 cycle.place cycle.circle.last.on.1

-- why it is not encoded is why ROOT is not linked
pub unencoded_cause : (s : Stop) (root out : List ℕ) (before after : SeenFiles) (bytes : List ℕ) (tree : ShapeTree) → IsRoot before root bytes tree → IsUnencoded s root out bytes tree → IsLinkCause s root out before after
unencoded_cause (stop.Incompatible path w) root out before after bytes tree is why = record { bytes = bytes; tree = tree; is_root = is; holds = why }
unencoded_cause (stop.TooLarge path number) root out before after bytes tree is why = record { bytes = bytes; tree = tree; is_root = is; holds = why }
unencoded_cause stop.Memory root out before after bytes tree is why = tt
unencoded_cause _ root out before after bytes tree is why = absurd why
