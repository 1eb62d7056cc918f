-- Instances as they lie in memory.
use Rattle.std.proofs.Common.{◌≡◌, ◌∙◌, ap, sym, refl, subst, ℕ, suc, Bool, List, [], ◌∷◌, ◌++◌, map, Option, Some, None}
use Rattle.std.specs.Prelude.{◌==◌, not, filter, option_map}
use Rattle.std.specs.Map.{lookup, keys_of, remove_entry}
use Rattle.std.specs.BTreeMap.{insert_entry, is_at}
use Rattle.std.specs.Ordering.{nat_cmp}
use Rattle.std.proofs.lemmas.List.{map-append}
use Rattle.compose_graph.specs.Graph.{InstanceEntry, instance_at}
use Rattle.compose_graph.specs.Kept.{CountUp}
use Rattle.compose_graph.specs.Listed.{instance_entry}
use Rattle.compose_graph.proofs.CountLaws.{count_added, count_kept}
use Rattle.compose_graph.proofs.EntryLaws.{are_below, insert_last, removed, find_entry}
use Rattle.compose_graph.proofs.ListLaws.{filter_mapped}

again : (id : ℕ) (o : Option ℕ) → option_map (λ (i : InstanceEntry). i.component) (option_map (λ c. instance_entry (id, c)) o) ≡ o
again id None = refl
again id (Some c) = refl

pub component_found : (es : List (ℕ × ℕ)) (id : ℕ) → lookup (is_at (nat_cmp id)) es ≡ option_map (λ (i : InstanceEntry). i.component) (instance_at (map instance_entry es) id)
component_found es id =
    sym (again id (lookup (is_at (nat_cmp id)) es))
    ∙ ap (λ (o : Option InstanceEntry). option_map (λ (i : InstanceEntry). i.component) o)
    (sym (find_entry instance_entry (λ (i : InstanceEntry). id == i.id) id (λ c. instance_entry (id, c)) (λ e. refl) (λ v. refl) es))

pub counted_on : (es fs : List (ℕ × ℕ)) (next component : ℕ) → CountUp 0 (keys_of es) next → fs ≡ insert_entry nat_cmp es next component → CountUp 0 (keys_of fs) (suc next)
counted_on es fs next component c is =
    subst (λ ks. CountUp 0 ks (suc next))
    (sym (ap keys_of (is ∙ insert_last es next component (are_below next es c)) ∙ map-append (λ (e : ℕ × ℕ). e.0) es ((next, component) ∷ [])))
    (count_added 0 next (keys_of es) c)

pub added : (es fs : List (ℕ × ℕ)) (next component : ℕ) → CountUp 0 (keys_of es) next → fs ≡ insert_entry nat_cmp es next component → map instance_entry fs ≡ map instance_entry es ++ instance_entry (next, component) ∷ []
added es fs next component c is = ap (map instance_entry) (is ∙ insert_last es next component (are_below next es c)) ∙ map-append instance_entry es ((next, component) ∷ [])

pub one_removed : (es fs : List (ℕ × ℕ)) (next id : ℕ) → CountUp 0 (keys_of es) next → fs ≡ remove_entry (is_at (nat_cmp id)) es → fs ≡ filter (λ (e : ℕ × ℕ). not (id == e.0)) es
one_removed es fs next id c is = is ∙ removed id 0 next es c

pub counted_kept : (p : ℕ × ℕ → Bool) (es fs : List (ℕ × ℕ)) (next : ℕ) → CountUp 0 (keys_of es) next → fs ≡ filter p es → CountUp 0 (keys_of fs) next
counted_kept p es fs next c is = subst (λ gs. CountUp 0 (keys_of gs) next) (sym is) (count_kept (λ (e : ℕ × ℕ). e.0) 0 next p es c)

pub kept_mapped : (p : InstanceEntry → Bool) (es fs : List (ℕ × ℕ)) → fs ≡ filter (λ e. p (instance_entry e)) es → map instance_entry fs ≡ filter p (map instance_entry es)
kept_mapped p es fs is = ap (map instance_entry) is ∙ sym (filter_mapped instance_entry p es)
