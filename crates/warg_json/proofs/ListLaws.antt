-- Laws of reading lists.
use Rattle.std.proofs.Common.{◌≡◌, ◌++◌, ◌∷◌, [], List, refl, sym, ◌∙◌, ap, append-nil, append_assoc}
use Rattle.std.specs.Prelude.{Ok, Err, map, Option, Some, None, option_map}
use Rattle.serde_json.specs.Data.{Data, Items, item, no_items}
use Rattle.warg_values.specs.Reading.{◌>>=◌}
use Rattle.warg_exchange.specs.Body.{Meaning, BodyFault, each_item, Unexpected, NoHash}
use Rattle.warg_json.specs.Answers.{BodyFails}
use Rattle.warg_json.specs.declared.error.BodyError.{BodyError}
use Rattle.warg_json.specs.declared.error.BodyError.TheVariants as error

-- what is read so far, and then the rest
abbrev pub behind : {X : Type 0} → List X → Meaning (List X) → Meaning (List X)
behind done rest = rest >>= λ xs. Ok (done ++ xs)

joined : {X : Type 0} (done : List X) (x : X) (rest : Meaning (List X)) → behind done (rest >>= λ xs. Ok (x ∷ xs)) ≡ behind (done ++ x ∷ []) rest
joined done x (Ok xs) = ap Ok (sym (append_assoc done (x ∷ []) xs))
joined done x (Err e) = refl

-- an item was read
pub each_goes_on : {X : Type 0} (f : Data → Meaning X) (done : List X) (d : Data) (ds : Items) (x : X) → f d ≡ Ok x
    → behind done (each_item f (item d ds)) ≡ behind (done ++ x ∷ []) (each_item f ds)
unfolding each_item
each_goes_on f done d ds x is = rw is (joined done x (each_item f ds))

ends : {X : Type 0} (f : Data → Meaning X) (done : List X) (d : Data) (ds : Items) (e : BodyFault) → f d ≡ Err e → behind done (each_item f (item d ds)) ≡ Err e
unfolding each_item
ends f done d ds e is = rw is refl

-- an item has no meaning
pub each_ends : {X : Type 0} (f : Data → Meaning X) (done : List X) (d : Data) (ds : Items) (whole : Meaning (List X)) (e : BodyError)
    → BodyFails e (f d) → behind done (each_item f (item d ds)) ≡ whole → BodyFails e whole
each_ends f done d ds whole error.Unexpected is same = sym same ∙ ends f done d ds Unexpected is
each_ends f done d ds whole (error.NoHash t) is same = sym same ∙ ends f done d ds (NoHash t) is
each_ends f done d ds whole error.Memory is same = tt

-- no item is left
pub each_done : {X : Type 0} (f : Data → Meaning X) (done : List X) → behind done (each_item f no_items) ≡ Ok done
unfolding each_item
each_done f done = ap Ok (append-nil done)

-- what clauses see of plain values is the values
pub map_same : {X : Type 0} (xs : List X) → map (λ x. x) xs ≡ xs
map_same [] = refl
map_same (x ∷ xs) = ap (λ ys. x ∷ ys) (map_same xs)

pub map_same_lists : {K X : Type 0} (es : List (K × List X)) → map (λ e. (e.0, map (λ x. x) e.1)) es ≡ es
map_same_lists [] = refl
map_same_lists (e ∷ es) = rw (map_same e.1, map_same_lists es) refl

option_same : {X : Type 0} (o : Option X) → option_map (λ x. x) o ≡ o
option_same None = refl
option_same (Some x) = refl

pub map_same_options : {K X : Type 0} (es : List (K × Option X)) → map (λ e. (e.0, option_map (λ x. x) e.1)) es ≡ es
map_same_options [] = refl
map_same_options (e ∷ es) = rw (option_same e.1, map_same_options es) refl
