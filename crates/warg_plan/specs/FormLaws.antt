-- A text has no misfit exactly where a plan is made of it.
use Rattle.std.proofs.Common.{◌≡◌, ℕ, Bool, true, false, cond, List, [], ◌∷◌, Option, Some, None, refl}
use Rattle.std.specs.List.{AllByRecursion}
use Rattle.std.specs.Option.{option_or}
use Rattle.compose_config.specs.Plan.{Settings, Instance, Argument}
use Rattle.warg_plan.specs.Form.{Misfit, Definitions, SearchPaths, Dependencies, ImportComponents, IsPlanText, if_set, if_export, export_in, export_of, misfit_of}

none_of_both : {X : Type 0} (a b : Option X) → option_or a b ≡ None → (a ≡ None) × (b ≡ None)
none_of_both None b e = (refl, e)
none_of_both (Some x) b e = absurd cc

both_none : {X : Type 0} (a b : Option X) → a ≡ None → b ≡ None → option_or a b ≡ None
both_none None b e h = h
both_none (Some x) b e h = absurd cc

unset : {X : Type 0} (xs : List X) (m : Misfit) → if_set xs m ≡ None → xs ≡ []
unset [] m e = refl
unset (x ∷ xs) m e = absurd cc

set_none : {X : Type 0} (xs : List X) (m : Misfit) → xs ≡ [] → if_set xs m ≡ None
set_none [] m e = refl
set_none (x ∷ xs) m e = absurd cc

no_switch : (b : Bool) → cond b (Some ImportComponents) None ≡ None → b ≡ false
no_switch true e = absurd cc
no_switch false e = refl

switch_off : (b : Bool) → b ≡ false → cond b (Some ImportComponents) None ≡ None
switch_off true e = absurd cc
switch_off false e = refl

no_export : (i n : List ℕ) (e : Option (List ℕ)) → if_export i n e ≡ None → e ≡ None
no_export i n None h = refl
no_export i n (Some x) h = absurd cc

export_none : (i n : List ℕ) (e : Option (List ℕ)) → e ≡ None → if_export i n e ≡ None
export_none i n None h = refl
export_none i n (Some x) h = absurd cc

all_whole : (i : List ℕ) (args : List (List ℕ × Argument)) → export_in i args ≡ None → AllByRecursion (λ (a : List ℕ × Argument). a.1.export ≡ None) args
all_whole i [] e = record {}
all_whole i (a ∷ args) e = let h = none_of_both (if_export i a.0 a.1.export) (export_in i args) e in (no_export i a.0 a.1.export h.0, all_whole i args h.1)

whole_none : (i : List ℕ) (args : List (List ℕ × Argument)) → AllByRecursion (λ (a : List ℕ × Argument). a.1.export ≡ None) args → export_in i args ≡ None
whole_none i [] h = refl
whole_none i (a ∷ args) h = both_none (if_export i a.0 a.1.export) (export_in i args) (export_none i a.0 a.1.export h.0) (whole_none i args h.1)

each_whole : (is : List (List ℕ × Instance)) → export_of is ≡ None → AllByRecursion (λ (i : List ℕ × Instance). AllByRecursion (λ (a : List ℕ × Argument). a.1.export ≡ None) i.1.arguments) is
each_whole [] e = record {}
each_whole (i ∷ is) e = let h = none_of_both (export_in i.0 i.1.arguments) (export_of is) e in (all_whole i.0 i.1.arguments h.0, each_whole is h.1)

each_none : (is : List (List ℕ × Instance)) → AllByRecursion (λ (i : List ℕ × Instance). AllByRecursion (λ (a : List ℕ × Argument). a.1.export ≡ None) i.1.arguments) is → export_of is ≡ None
each_none [] h = refl
each_none (i ∷ is) h = both_none (export_in i.0 i.1.arguments) (export_of is) (whole_none i.0 i.1.arguments h.0) (each_none is h.1)

pub none_misfits : (s : Settings) → misfit_of s ≡ None → IsPlanText s
unfolding misfit_of
none_misfits s e =
    let a = none_of_both (if_set s.definitions Definitions) _ e in
    let b = none_of_both (if_set s.search_paths SearchPaths) _ a.1 in
    let c = none_of_both (if_set s.dependencies Dependencies) _ b.1 in
    let d = none_of_both (cond s.import_components (Some ImportComponents) None) (export_of s.instantiations) c.1 in
    record {
      definitions = unset s.definitions Definitions a.0;
      search_paths = unset s.search_paths SearchPaths b.0;
      dependencies = unset s.dependencies Dependencies c.0;
      import_components = no_switch s.import_components d.0;
      whole = each_whole s.instantiations d.1;
    }

pub plan_text_fits : (s : Settings) → IsPlanText s → misfit_of s ≡ None
unfolding misfit_of
plan_text_fits s t =
    both_none (if_set s.definitions Definitions) _ (set_none s.definitions Definitions t.definitions)
    (both_none (if_set s.search_paths SearchPaths) _ (set_none s.search_paths SearchPaths t.search_paths)
    (both_none (if_set s.dependencies Dependencies) _ (set_none s.dependencies Dependencies t.dependencies)
    (both_none (cond s.import_components (Some ImportComponents) None) (export_of s.instantiations) (switch_off s.import_components t.import_components) (each_none s.instantiations t.whole))))
