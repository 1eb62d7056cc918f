-- Laws of instances of components.
use Rattle.std.specs.Prelude.{◌≡◌, ℕ, zero, suc, ◌<◌, Bool, true, false, cond, ◌&&◌, List, [], ◌∷◌, ◌++◌, map, length, slice_index_or, Ok, Err, refl}
use Rattle.std.specs.Option.{option_map_or}
use Rattle.std.proofs.Common.{sym, ◌∙◌, ap, subst, arith}
use Rattle.std.proofs.lemmas.List.{append-nil}
use Rattle.warg_values.specs.Reading.{◌>>=◌}
use Rattle.comp_entity.specs.Bounds.{Index, DoesNotFit, bounded}
use Rattle.comp_entity.specs.Entity.{ValueTree, Primitive, TupleOf, RecordOf, VariantOf, ListOf, FlagsOf, EnumOf, OptionOf, ResultOf, Own, Borrow, Value, Resource, Func, Instance, Component, EntityTree, IsType, IsFunc, IsInstance, IsComponent, IsModule, IsOwnModule, Entries, no_entry, entry}
use Rattle.comp_entity.specs.Fits.{all_stand, fits_with, same_name, under}
use Rattle.comp_entity.specs.Names.{Change, changing, counts_at, entity_by, entries_by, in_entity}
use Rattle.comp_format.specs.declared.types.Arg.{Arg}
use Rattle.comp_format.specs.declared.types.InstanceItem.TheVariants as instance
use Rattle.comp_instance.specs.declared.instances.NewCounts.{NewCounts}
use Rattle.comp_instance.specs.declared.instances.Sides.{Sides}
use Rattle.comp_instance.specs.declared.instantiating.Instantiating.{Instantiating}
use Rattle.comp_instance.specs.Instances.{AreHalves, AreSides, ShowsInstantiating, ShowsNewCounts, component_instance, instance_at, is_component, sides_in}
use Rattle.comp_instance.specs.Renamed.{component_place, component_resource, fitted}
use Rattle.comp_mention.specs.Mentions.{mentions_at, tree_mentions}
use Rattle.comp_scope.specs.Descriptions.{Described, with_made}
use Rattle.comp_scope.specs.Instances.{arguments_fit, given, instance_of, instantiated, instantiating, mentions_of, place_in, resource_in, with_instance}
use Rattle.comp_scope.specs.Spaces as scope
use Rattle.comp_scope.specs.Spaces.{Spaces, added, at_index, counts_sum, entries_in}
use Rattle.comp_space.specs.StandingLaws.{then_first}
use Rattle.comp_table.specs.declared.head.Head.TheVariants as head
use Rattle.comp_table.specs.Codes.{first_tree}
use Rattle.comp_table.specs.Plain.{plain_value, plain_entity, plain_entries}
use Rattle.comp_table.specs.StandLaws.{same_stands}
use Rattle.comp_table.specs.Trees.{PlainTree, PlainTrees, tree, none, more, IsBelow, Stands, below_root, root, tree_at, trees_of}

no_truth : {A : Type 0} → true ≡ false → A
no_truth h = absurd cc

-- the head of a component
value_is_no_component : (v : ValueTree) → is_component (root (plain_value v)) ≡ false
value_is_no_component (Primitive p) = refl
value_is_no_component (TupleOf parts) = refl
value_is_no_component (RecordOf place fields) = refl
value_is_no_component (VariantOf place cases) = refl
value_is_no_component (ListOf t) = refl
value_is_no_component (FlagsOf place labels) = refl
value_is_no_component (EnumOf place labels) = refl
value_is_no_component (OptionOf t) = refl
value_is_no_component (ResultOf ok err) = refl
value_is_no_component (Own r) = refl
value_is_no_component (Borrow r) = refl

component_is : (e : EntityTree) → is_component (root (plain_entity e)) ≡ true → (imports exports : Entries) × (e ≡ IsComponent imports exports)
component_is (IsComponent is es) h = (is, es, refl)
component_is (IsType (Value v)) h = no_truth (sym h ∙ value_is_no_component v)
component_is (IsType (Resource r)) h = absurd cc
component_is (IsType (Func f)) h = absurd cc
component_is (IsType (Instance es)) h = absurd cc
component_is (IsType (Component is es)) h = absurd cc
component_is (IsFunc f) h = absurd cc
component_is (IsInstance es) h = absurd cc
component_is (IsModule m) h = absurd cc
component_is IsOwnModule h = absurd cc

no_component_is : (e : EntityTree) → is_component (root (plain_entity e)) ≡ false → sides_in e ≡ Err Index
no_component_is (IsComponent is es) h = absurd cc
no_component_is (IsType t) h = refl
no_component_is (IsFunc f) h = refl
no_component_is (IsInstance es) h = refl
no_component_is (IsModule m) h = refl
no_component_is IsOwnModule h = refl

pub component_there : (ts : List PlainTree) (n : ℕ) (e : EntityTree) → Stands ts n (plain_entity e) → is_component (root (tree_at ts n)) ≡ true → (imports exports : Entries) × (e ≡ IsComponent imports exports)
component_there ts n e s h = component_is e (subst (λ t. is_component (root t) ≡ true) s.tree_is h)

pub no_component_there : (ts : List PlainTree) (n : ℕ) (e : EntityTree) → Stands ts n (plain_entity e) → is_component (root (tree_at ts n)) ≡ false → sides_in e ≡ Err Index
no_component_there ts n e s h = no_component_is e (subst (λ t. is_component (root t) ≡ false) s.tree_is h)

-- two parts
other_trees : PlainTrees → PlainTrees
other_trees none = none
other_trees (more t ts) = ts

pub two_there : (ts : List PlainTree) (ps : List ℕ) (a b : PlainTree) → trees_of (map (tree_at ts) ps) ≡ more a (more b none) → 1 < length ps
unfolding other_trees
two_there ts [] a b e = absurd cc
two_there ts (p ∷ []) a b e = absurd (let h = ap other_trees e in cc)
two_there ts (p ∷ q ∷ ps) a b e = omega arith

first_is : (ts : List PlainTree) (ps : List ℕ) (d : ℕ) (a b : PlainTree) → trees_of (map (tree_at ts) ps) ≡ more a (more b none) → tree_at ts (slice_index_or ps 0 d) ≡ a
first_is ts [] d a b e = absurd cc
first_is ts (p ∷ ps) d a b e = ap first_tree e

second_is : (ts : List PlainTree) (ps : List ℕ) (d : ℕ) (a b : PlainTree) → trees_of (map (tree_at ts) ps) ≡ more a (more b none) → tree_at ts (slice_index_or ps 1 d) ≡ b
unfolding other_trees
second_is ts [] d a b e = absurd cc
second_is ts (p ∷ []) d a b e = absurd (let h = ap other_trees e in cc)
second_is ts (p ∷ q ∷ ps) d a b e = ap (λ t. first_tree (other_trees t)) e

below_at : (n k : ℕ) (ns : List ℕ) (i d : ℕ) → n < k → IsBelow n ns → i < length ns → slice_index_or ns i d < k
below_at n k [] i d le b lt = absurd (omega (arith, lt))
below_at n k (m ∷ ns) zero d le b lt = let h = b.0 in omega (arith, h, le)
below_at n k (m ∷ ns) (suc i) d le b lt = below_at n k ns i d le b.1 (omega (arith, lt))

pub halves_are : (ts : List PlainTree) (n : ℕ) (ps : List ℕ) (d k : ℕ) (is es : Entries) → Stands ts n (plain_entity (IsComponent is es)) → IsBelow n ps → trees_of (map (tree_at ts) ps) ≡ below_root (tree_at ts n) → AreHalves ts (record { imports = slice_index_or ps 0 d; exports = slice_index_or ps 1 k }) (is, es)
halves_are ts n ps d k is es s below parts =
    let trees = parts ∙ ap below_root s.tree_is in
    let two = two_there ts ps _ _ trees in
    record {
      imports = record { there = below_at n (length ts) ps 0 d s.there below (omega (arith, two)); tree_is = first_is ts ps d _ _ trees };
      exports = record { there = below_at n (length ts) ps 1 k s.there below two; tree_is = second_is ts ps k _ _ trees };
    }

pub instance_is : (ts us : List PlainTree) (n m : ℕ) (es : Entries) → Stands ts n (tree head.Entries (plain_entries es)) → Stands us m (tree head.Instance (below_root (tree_at ts n))) → Stands us m (plain_entity (IsInstance es))
instance_is ts us n m es s made = same_stands us m _ _ (ap (λ t. tree head.Instance (below_root t)) s.tree_is) made

-- what a component mentions
pub component_mentions : (ts : List PlainTree) (sides : Sides) (is es : Entries) → AreSides ts sides (is, es) → ((d : ℕ) (e : EntityTree) → tree_mentions d (plain_entity e) ≡ in_entity d e) → mentions_at ts (sides.imports ∷ sides.exports ∷ []) ≡ mentions_of is es
component_mentions ts sides is es sides_are law =
    (λ i. (ap (tree_mentions 0) sides_are.imports.tree_is ∙ law 0 (IsInstance is)) i ++ ((ap (tree_mentions 0) sides_are.exports.tree_is ∙ law 0 (IsInstance es)) i ++ []))
    ∙ ap (λ ms. in_entity 0 (IsInstance is) ++ ms) (append-nil (in_entity 0 (IsInstance es)))

-- the change of a component's names
pub change_is : (r : Instantiating) (s : Spaces) (new : NewCounts) (is es gs : Entries) → ShowsInstantiating r s new.makes gs is → ShowsNewCounts new is es → changing (component_resource r) (component_place r) ≡ instantiating s is es gs
change_is r s new is es gs names counted =
    (λ i. changing (λ n. names.resources n i) (λ n. names.places n i))
    ∙ ap (λ m. changing (resource_in s m (all_stand gs is)) (place_in s m (all_stand gs is))) counted.makes

-- the arguments fit where they are an instance that fits one of the imports
pub arguments_are_fit : (c : Change) (gs is : Entries) → fits_with same_name (IsInstance gs) (entity_by c 0 (IsInstance is)) ≡ arguments_fit c gs is
arguments_are_fit c gs no_entry = refl
arguments_are_fit c gs (entry name asked mark rest) = ap (λ b. option_map_or (λ (e : EntityTree × Bool). fits_with same_name e.0 (entity_by c 0 asked)) (under name gs) false && b) (arguments_are_fit c gs rest)

abbrev described_instance : Spaces → Entries → Entries → Entries → Described
described_instance s is es gs = record { standing = (IsInstance (entries_by (instantiating s is es gs) 0 es), true); brings = counts_sum (counts_at 0 (mentions_of is es)) (counts_at 1 (mentions_of is es)) }

pub instance_parts : (s : Spaces) (is es gs : Entries) → component_instance s is es gs ≡ (fitted (instantiating s is es gs) (IsInstance gs) (IsInstance is) >>= λ e. Ok (record { standing = (IsInstance (entries_by (instantiating s is es gs) 0 es), true); brings = counts_sum (counts_at 0 (mentions_of is es)) (counts_at 1 (mentions_of is es)) }))
instance_parts s is es gs =
    ap (λ b. cond b (Ok (described_instance s is es gs)) (Err DoesNotFit)) (sym (arguments_are_fit (instantiating s is es gs) gs is))
    ∙ by (fits_with same_name (IsInstance gs) (entity_by (instantiating s is es gs) 0 (IsInstance is))) (entity_by (instantiating s is es gs) 0 (IsInstance is))
  where
    by : (b : Bool) (e : EntityTree) → cond b (Ok (described_instance s is es gs)) (Err DoesNotFit) ≡ (cond b (Ok e) (Err DoesNotFit) >>= λ e. Ok (described_instance s is es gs))
    by true e = refl
    by false e = refl

-- an instance is put behind the others
instance_last : (s : Spaces) (is es gs : Entries) → instance_of bounded s is es gs ≡ (component_instance s is es gs >>= λ d. with_made bounded s d)
unfolding instance_of
instance_last s is es gs = by (arguments_fit (instantiating s is es gs) gs is)
  where
    by : (b : Bool) → cond b (with_made bounded s (described_instance s is es gs)) (Err DoesNotFit) ≡ (cond b (Ok (described_instance s is es gs)) (Err DoesNotFit) >>= λ d. with_made bounded s d)
    by true = refl
    by false = refl

instantiated_last : (s : Spaces) (arguments : List (List ℕ × scope.Standing)) (c : scope.Standing) → instantiated bounded s arguments c ≡ ((sides_in c.0 >>= λ sides. component_instance s sides.0 sides.1 (entries_in arguments)) >>= λ d. with_made bounded s d)
instantiated_last s arguments (IsComponent is es, b) = instance_last s is es (entries_in arguments)
instantiated_last s arguments (IsType t, b) = refl
instantiated_last s arguments (IsFunc f, b) = refl
instantiated_last s arguments (IsInstance es, b) = refl
instantiated_last s arguments (IsModule m, b) = refl
instantiated_last s arguments (IsOwnModule, b) = refl

pub instantiate_is : (s : Spaces) (component : ℕ) (args : List Arg) → with_instance bounded s (instance.Instantiate component args) ≡ (instance_at s component args >>= λ d. with_made bounded s d)
unfolding with_instance
instantiate_is s component args =
    then_first (at_index s.components component) _ (λ c. given s args >>= λ arguments. sides_in c.0 >>= λ sides. component_instance s sides.0 sides.1 (entries_in arguments)) (λ d. with_made bounded s d) (λ c.
    then_first (given s args) _ (λ arguments. sides_in c.0 >>= λ sides. component_instance s sides.0 sides.1 (entries_in arguments)) (λ d. with_made bounded s d) (λ arguments. instantiated_last s arguments c))
