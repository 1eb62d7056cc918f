-- Laws of equality and fit: trees whose names are changed one to one are equal, and fit, exactly where they did before.
use Rattle.std.specs.Prelude.{◌≡◌, ℕ, suc, Bool, true, false, ◌&&◌, List, [], ◌∷◌, map, Option, Some, None, option_map, refl}
use Rattle.std.specs.Cmp.Lexicographic.{pointwise}
use Rattle.std.specs.Option.{option_eq, option_map_or}
use Rattle.std.specs.Str.{bytes_eq}
use Rattle.std.proofs.Common.{ap, ◌∙◌, cond}
use Rattle.comp_entity.specs.Entity.{Name, ValueTree, Primitive, TupleOf, RecordOf, VariantOf, ListOf, FlagsOf, EnumOf, OptionOf, ResultOf, Own, Borrow, ValueTrees, none, more, Cases, no_case, labelled, Payload, absent, present, FuncTree, TypeShapeTree, Value, Resource, Func, Instance, Component, EntityTree, IsType, IsFunc, IsInstance, IsComponent, IsModule, Entries, no_entry, entry}
use Rattle.comp_entity.specs.Names.{Change, without_places, bare, value_by, values_by, cases_by, payload_by, func_by, type_by, entity_by, entries_by}
use Rattle.comp_entity.specs.Fits.{values_equal, all_equal, cases_equal, payloads_equal, params_equal, funcs_equal, types_equal, entities_equal, entries_equal, under, fits_with, all_fit}

-- a change, two ways to compare resources, and that the second tells changed names apart exactly as the first did
-- before
module _ (c : Change) (before after : Name → Name → Bool) (alike : (d : ℕ) (m n : Name) → after (c.resource d m) (c.resource d n) ≡ before m n) where
  mutual
    pub values_alike : (d : ℕ) (t u : ValueTree) → values_equal after (value_by c d t) (value_by c d u) ≡ values_equal before t u
    values_alike d (Primitive p) (Primitive q) = refl
    values_alike d (TupleOf ts) (TupleOf us) = all_alike d ts us
    values_alike d (RecordOf p ts) (RecordOf q us) = cases_alike d ts us
    values_alike d (VariantOf p ts) (VariantOf q us) = cases_alike d ts us
    values_alike d (ListOf t) (ListOf u) = values_alike d t u
    values_alike d (FlagsOf p ls) (FlagsOf q ks) = refl
    values_alike d (EnumOf p ls) (EnumOf q ks) = refl
    values_alike d (OptionOf t) (OptionOf u) = values_alike d t u
    values_alike d (ResultOf t e) (ResultOf u f) = λ i. payloads_alike d t u i && payloads_alike d e f i
    values_alike d (Own r) (Own s) = alike d r s
    values_alike d (Borrow r) (Borrow s) = alike d r s
    values_alike d _ _ = refl

    all_alike : (d : ℕ) (ts us : ValueTrees) → all_equal after (values_by c d ts) (values_by c d us) ≡ all_equal before ts us
    all_alike d none none = refl
    all_alike d none (more u us) = refl
    all_alike d (more t ts) none = refl
    all_alike d (more t ts) (more u us) = λ i. values_alike d t u i && all_alike d ts us i

    cases_alike : (d : ℕ) (ts us : Cases) → cases_equal after (cases_by c d ts) (cases_by c d us) ≡ cases_equal before ts us
    cases_alike d no_case no_case = refl
    cases_alike d no_case (labelled k u us) = refl
    cases_alike d (labelled l t ts) no_case = refl
    cases_alike d (labelled l t ts) (labelled k u us) = λ i. bytes_eq l k && payloads_alike d t u i && cases_alike d ts us i

    payloads_alike : (d : ℕ) (t u : Payload) → payloads_equal after (payload_by c d t) (payload_by c d u) ≡ payloads_equal before t u
    payloads_alike d absent absent = refl
    payloads_alike d absent (present u) = refl
    payloads_alike d (present t) absent = refl
    payloads_alike d (present t) (present u) = values_alike d t u

  params_alike : (d : ℕ) (ps qs : List (List ℕ × ValueTree)) → pointwise (params_equal after) (map (λ p. (p.0, value_by c d p.1)) ps) (map (λ p. (p.0, value_by c d p.1)) qs) ≡ pointwise (params_equal before) ps qs
  params_alike d [] [] = refl
  params_alike d [] (q ∷ qs) = refl
  params_alike d (p ∷ ps) [] = refl
  params_alike d (p ∷ ps) (q ∷ qs) = λ i. bytes_eq p.0 q.0 && values_alike d p.1 q.1 i && params_alike d ps qs i

  results_alike : (d : ℕ) (r s : Option ValueTree) → option_eq (values_equal after) (option_map (value_by c d) r) (option_map (value_by c d) s) ≡ option_eq (values_equal before) r s
  results_alike d None None = refl
  results_alike d None (Some s) = refl
  results_alike d (Some r) None = refl
  results_alike d (Some r) (Some s) = values_alike d r s

  pub funcs_alike : (d : ℕ) (f g : FuncTree) → funcs_equal after (func_by c d f) (func_by c d g) ≡ funcs_equal before f g
  funcs_alike d f g = λ i. params_alike d f.params g.params i && results_alike d f.result g.result i

  mutual
    pub types_alike : (d : ℕ) (t u : TypeShapeTree) → types_equal after (type_by c d t) (type_by c d u) ≡ types_equal before t u
    types_alike d (Value t) (Value u) = values_alike d t u
    types_alike d (Resource r) (Resource s) = alike d r s
    types_alike d (Func f) (Func g) = funcs_alike d f g
    types_alike d (Instance es) (Instance fs) = entries_alike (suc d) es fs
    types_alike d (Component is es) (Component js fs) = λ i. entries_alike (suc (suc d)) is js i && entries_alike (suc (suc d)) es fs i
    types_alike d _ _ = refl

    pub entities_alike : (d : ℕ) (a b : EntityTree) → entities_equal after (entity_by c d a) (entity_by c d b) ≡ entities_equal before a b
    entities_alike d (IsType t) (IsType u) = types_alike d t u
    entities_alike d (IsFunc f) (IsFunc g) = funcs_alike d f g
    entities_alike d (IsInstance es) (IsInstance fs) = entries_alike d es fs
    entities_alike d (IsComponent is es) (IsComponent js fs) = λ i. entries_alike (suc (suc d)) is js i && entries_alike (suc (suc d)) es fs i
    entities_alike d (IsModule m) (IsModule n) = refl
    entities_alike d _ _ = refl

    pub entries_alike : (d : ℕ) (es fs : Entries) → entries_equal after (entries_by c d es) (entries_by c d fs) ≡ entries_equal before es fs
    entries_alike d no_entry no_entry = refl
    entries_alike d no_entry (entry n b q fs) = refl
    entries_alike d (entry m a p es) no_entry = refl
    entries_alike d (entry m a p es) (entry n b q fs) = λ i. bytes_eq m n && entities_alike d a b i && entries_alike d es fs i

  entry_by : ℕ → EntityTree × Bool → EntityTree × Bool
  entry_by d e = (entity_by c d e.0, c.mark e.1)

  choose_by : {X Y : Type 0} (f : X → Y) (b : Bool) (x : X) (y : Option X) → cond b (Some (f x)) (option_map f y) ≡ option_map f (cond b (Some x) y)
  choose_by f true x y = refl
  choose_by f false x y = refl

  under_by : (d : ℕ) (name : List ℕ) (es : Entries) → under name (entries_by c d es) ≡ option_map (entry_by d) (under name es)
  unfolding entry_by
  under_by d name no_entry = refl
  under_by d name (entry n e mark es) = ap (cond (bytes_eq name n) (Some (entry_by d (e, mark)))) (under_by d name es) ∙ choose_by (entry_by d) (bytes_eq name n) (e, mark) (under name es)

  fit_of : (d : ℕ) (f g : EntityTree → Bool) → ((e : EntityTree) → f (entity_by c d e) ≡ g e) → (o : Option (EntityTree × Bool)) → option_map_or (λ (e : EntityTree × Bool). f e.0) (option_map (entry_by d) o) false ≡ option_map_or (λ (e : EntityTree × Bool). g e.0) o false
  unfolding entry_by
  fit_of d f g same None = refl
  fit_of d f g same (Some e) = same e.0

  mutual
    pub fits_alike : (d : ℕ) (a asked : EntityTree) → fits_with after (entity_by c d a) (entity_by c d asked) ≡ fits_with before a asked
    fits_alike d (IsType t) (IsType u) = types_alike d t u
    fits_alike d (IsFunc f) (IsFunc g) = funcs_alike d f g
    fits_alike d (IsInstance es) (IsInstance asked) = all_fit_alike d es asked
    fits_alike d (IsComponent is es) (IsComponent js fs) = entities_alike d (IsComponent is es) (IsComponent js fs)
    fits_alike d (IsModule m) (IsModule n) = refl
    fits_alike d _ _ = refl

    pub all_fit_alike : (d : ℕ) (es asked : Entries) → all_fit after (entries_by c d es) (entries_by c d asked) ≡ all_fit before es asked
    all_fit_alike d es no_entry = refl
    all_fit_alike d es (entry name asked mark rest) =
        ap (λ (o : Option (EntityTree × Bool)). option_map_or (λ e. fits_with after e.0 (entity_by c d asked)) o false && all_fit after (entries_by c d es) (entries_by c d rest)) (under_by d name es)
        ∙ (λ i. fit_of d (λ e. fits_with after e (entity_by c d asked)) (λ e. fits_with before e asked) (λ e. fits_alike d e asked) (under name es) i && all_fit_alike d es rest i)

-- the places that named types, and naming bits, tell nothing of fit and equality
pub bare_fits : (same : Name → Name → Bool) (a asked : EntityTree) → fits_with same (bare a) (bare asked) ≡ fits_with same a asked
bare_fits same a asked = fits_alike without_places same same (λ d m n. refl) 0 a asked

pub bare_equal : (same : Name → Name → Bool) (a b : EntityTree) → entities_equal same (bare a) (bare b) ≡ entities_equal same a b
bare_equal same a b = entities_alike without_places same same (λ d m n. refl) 0 a b
