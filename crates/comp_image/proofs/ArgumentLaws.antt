-- Laws of arguments: each behind those before it.
use Rattle.std.proofs.Common.{◌≡◌, ◌<◌, ◌+◌, ℕ, List, [], ◌∷◌, ◌++◌, length, Result, Option, Some, None, refl, sym, ◌∙◌, ap}
use Rattle.std.specs.Prelude.{drop, get_or, option_map, option_and_then, IsErrAnd}
use Rattle.std.proofs.lemmas.List.{drop_more, append_assoc}
use Rattle.std.proofs.lemmas.Result.{err_from_is_err_and}
use Rattle.comp_format.specs.declared.types.Arg.{Arg}
use Rattle.comp_scope.specs.Image as scope
use Rattle.comp_scope.specs.Image.{as_argument}
use Rattle.comp_image.specs.declared.error.ItemError.{ItemError}
use Rattle.comp_image.specs.declared.error.ItemError.TheVariants as errors
use Rattle.comp_image.specs.Numbered.{IsEntry, indexed_in}
use Rattle.comp_image.specs.Progress.{Answers, Fails, given_in, arguments_in}

abbrev pub Given : Type 0
Given = List ℕ × scope.ArgOf

-- an argument in front of others
with_rest : Option Given → Option (List Given) → Option (List Given)
with_rest of rest = option_and_then (λ g. option_map (λ later. g ∷ later) rest) of

first_then : (es : List IsEntry) (a : Arg) (rest : List Arg) → arguments_in es (a ∷ rest) ≡ with_rest (given_in es a) (arguments_in es rest)
unfolding with_rest
first_then es a rest = one (as_argument (indexed_in es a.sort a.index)) (arguments_in es rest)
  where
    one : (x : Option scope.ArgOf) (later : Option (List Given)) → option_and_then (λ of. option_map (λ l. (a.name, of) ∷ l) later) x ≡ with_rest (option_map (λ of. (a.name, of)) x) later
    one (Some of) later = refl
    one None later = refl

-- what arguments come to, behind those that were seen
abbrev pub Behind : List IsEntry → List Given → List Arg → ℕ → Type 0
Behind es done args i = arguments_in es args ≡ option_map (λ rest. done ++ rest) (arguments_in es (drop i args))

opened : (es : List IsEntry) (done : List Given) (args : List Arg) (i : ℕ) (d : Arg) → i < length args → Behind es done args i
    → arguments_in es args ≡ option_map (λ rest. done ++ rest) (with_rest (given_in es (get_or args i d)) (arguments_in es (drop (i + 1) args)))
opened es done args i d lt behind =
    behind
    ∙ ap (λ (l : List Arg). option_map (λ rest. done ++ rest) (arguments_in es l)) (drop_more args i d lt)
    ∙ ap (option_map (λ rest. done ++ rest)) (first_then es (get_or args i d) (drop (i + 1) args))

shifted : (done : List Given) (x : Given) (rest : Option (List Given)) → option_map (λ later. done ++ later) (option_map (λ later. x ∷ later) rest) ≡ option_map (λ later. (done ++ x ∷ []) ++ later) rest
shifted done x (Some rest) = ap (λ (l : List Given). Some l) (sym (append_assoc done (x ∷ []) rest))
shifted done x None = refl

pub next_behind : (es : List IsEntry) (done : List Given) (args : List Arg) (i : ℕ) (d : Arg) (x : Given) → i < length args → given_in es (get_or args i d) ≡ Some x → Behind es done args i → Behind es (done ++ x ∷ []) args (i + 1)
unfolding with_rest
next_behind es done args i d x lt is behind =
    opened es done args i d lt behind
    ∙ ap (λ (g : Option Given). option_map (λ rest. done ++ rest) (with_rest g (arguments_in es (drop (i + 1) args)))) is
    ∙ shifted done x (arguments_in es (drop (i + 1) args))

none_behind : (es : List IsEntry) (done : List Given) (args : List Arg) (i : ℕ) (d : Arg) → i < length args → given_in es (get_or args i d) ≡ None → Behind es done args i → arguments_in es args ≡ None
unfolding with_rest
none_behind es done args i d lt is behind =
    opened es done args i d lt behind
    ∙ ap (λ (g : Option Given). option_map (λ rest. done ++ rest) (with_rest g (arguments_in es (drop (i + 1) args)))) is

-- a refused argument refuses all
pub fails_behind : (es : List IsEntry) (done : List Given) (args : List Arg) (i : ℕ) (d : Arg) (e : ItemError) → i < length args → Fails e (given_in es (get_or args i d)) → Behind es done args i → Fails e (arguments_in es args)
fails_behind es done args i d errors.NotCarried lt is behind = none_behind es done args i d lt is behind
fails_behind es done args i d errors.Memory lt is behind = tt

-- an error is handed on
pub handed_on : {X Y : Type 0} (view : X → Y) (answer : Result X ItemError) (e : ItemError) (given : Option Y) → IsErrAnd answer (λ f. f ≡ e) → Fails e given → Answers view answer given
handed_on view answer e given gives h = let p = err_from_is_err_and answer gives in rw (p.1, p.2) h
