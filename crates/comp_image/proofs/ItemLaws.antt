-- Laws of items: what each adds.
use Rattle.std.proofs.Common.{◌≡◌, ℕ, List, [], ◌∷◌, Result, Option, Some, refl, sym, ◌∙◌, ap}
use Rattle.std.specs.Prelude.{option_map, option_and_then, IsErrAnd}
use Rattle.std.proofs.lemmas.Result.{err_from_is_err_and}
use Rattle.comp_format.specs.declared.types.Arg.{Arg}
use Rattle.comp_format.specs.declared.types.Sort.TheVariants as sort
use Rattle.comp_scope.specs.Image as scope
use Rattle.comp_scope.specs.Image.{as_argument, as_component}
use Rattle.comp_image.specs.declared.error.ItemError.{ItemError}
use Rattle.comp_image.specs.declared.error.ItemError.TheVariants as errors
use Rattle.comp_image.specs.declared.progress.Progress.{Progress}
use Rattle.comp_image.specs.Numbered.{indexed_in}
use Rattle.comp_image.specs.Progress.{Imports, Fails, Sees, arguments_in, instantiated}

-- arguments see no more of what was seen than what indices stand for
same_arguments : (p : scope.Progress) (args : List Arg) → arguments_in p.numbered args ≡ scope.arguments p args
same_arguments p [] = refl
same_arguments p (a ∷ args) =
    ap (λ (later : Option (List (List ℕ × scope.ArgOf))). option_and_then (λ of. option_map (λ l. (a.name, of) ∷ l) later) (as_argument (indexed_in p.numbered a.sort a.index))) (same_arguments p args)

component_is : (p : scope.Progress) (component n : ℕ) (args : List Arg) → scope.indexed p sort.Component component ≡ Some (scope.OfComponent n) → instantiated p component args ≡ option_map (scope.with_instance p n) (arguments_in p.numbered args)
component_is p component n args is =
    ap (λ (x : Option scope.Indexed). option_and_then (λ m. option_map (scope.with_instance p m) (scope.arguments p args)) (as_component x)) is
    ∙ ap (option_map (scope.with_instance p n)) (sym (same_arguments p args))

pub instance_is : (p : scope.Progress) (component n : ℕ) (args : List Arg) (given : List (List ℕ × scope.ArgOf)) → scope.indexed p sort.Component component ≡ Some (scope.OfComponent n) → arguments_in p.numbered args ≡ Some given → instantiated p component args ≡ Some (scope.with_instance p n given)
instance_is p component n args given is are = component_is p component n args is ∙ ap (option_map (scope.with_instance p n)) are

pub instance_fails : (p : scope.Progress) (component n : ℕ) (args : List Arg) (e : ItemError) → scope.indexed p sort.Component component ≡ Some (scope.OfComponent n) → Fails e (arguments_in p.numbered args) → Fails e (instantiated p component args)
instance_fails p component n args errors.NotCarried is none = component_is p component n args is ∙ ap (option_map (scope.with_instance p n)) none
instance_fails p component n args errors.Memory is none = tt

-- an error is handed on
pub handed_on : (imports : Imports) (part : Progress) (answer : Result (Unit {0}) ItemError) (e : ItemError) (given : Option scope.Progress) → IsErrAnd answer (λ f. f ≡ e) → Fails e given → Sees imports part answer given
handed_on imports part answer e given gives h = let p = err_from_is_err_and answer gives in rw (p.1, p.2) h
