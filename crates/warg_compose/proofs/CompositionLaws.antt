-- The composition of a plan is one that can be encoded or has a cause why not: its wires lead from entries to later ones, and
-- what it leaves open has names of interfaces.
use Rattle.std.proofs.Common.{◌≡◌, ◌<◌, ◌+◌, ◌∙◌, ◌⊎◌, sym, ap, subst, refl, arith, ℕ, zero, suc, Bool, true, false, cond, List, [], ◌∷◌, ◌++◌, length, map, Option, Some, None, append_assoc, inl, inr}
use Rattle.std.specs.Prelude.{IfSome, option_and_then, slice_get}
use Rattle.std.specs.List.{AllByRecursion}
use Rattle.std.specs.Option.{option_or}
use Rattle.std.proofs.lemmas.List.{length-map}
use Rattle.std.proofs.lemmas.Option.{same_Some, slice_get_within}
use Rattle.sha2.specs.Sha256.{sha256}
use Rattle.comp_entity.specs.Entity.{ShapeTree}
use Rattle.comp_shape.specs.Shape.{HasShape}
use Rattle.compose_left.specs.Wiring.{shape_at}
use Rattle.compose_left.specs.declared.wiring.Wire.{Wire}
use Rattle.compose_check.specs.Checked.{IsCircle, IsSound}
use Rattle.compose_check.specs.Composition.{ComponentTree, CompositionTree, HasEnds, HaveOwnImports, IsBetween, IsComposition, shape_numbered, wiring}
use Rattle.compose_check.specs.Open.{left_open, merged_all}
use Rattle.compose_encode.specs.Refusing.{clash_at, first_of, has_name, name_left}
use Rattle.compose_encode.specs.Whole.{AreApart, IsNameClash}
use Rattle.compose_image.specs.Imports.{used}
use Rattle.compose_order.specs.Needs.{LeftTree}
use Rattle.warg_hash.specs.ByteLaws.{sha256_is_digest}
use Rattle.warg_hash.specs.Hash.{IsDigest}
use Rattle.warg_plan.specs.Plan.{EachAfter}
use Rattle.warg_plan.specs.Walk.{Entry}
use Rattle.warg_compose.specs.Composed.{IsComposed, release_name, release_names, release_place, releases, root_of}
use Rattle.warg_compose.specs.Read.{names_in}
use Rattle.warg_compose.specs.Wired.{AreWired, IsOpenName, IsWired}
use Rattle.warg_compose.proofs.CircleLaws.{no_circle}
use Rattle.warg_compose.proofs.ComponentLaws.{as_many, component_at, name_of, of_entry, shape_there, their_names}
use Rattle.warg_compose.proofs.DigestLaws.{no_interface, one_digest}
use Rattle.warg_compose.proofs.LeftLaws.{has_called, merged_called, turn_called}
use Rattle.warg_compose.proofs.NameLaws.{AreOwn, each_named, has, is_of, own_firsts, place_within, same_bytes}
use Rattle.warg_compose.proofs.OwnNameLaws.{apart}
use Rattle.warg_compose.proofs.WireLaws.{AreNamed, IsPlanWire, all_weaker, at_length, open_all, own_imports, plan_wires}

-- no bytes have two shapes
abbrev pub OneShape : Type 0
OneShape = (bytes : List ℕ) (a b : ShapeTree) → HasShape bytes a → HasShape bytes b → a ≡ b

module _ (es : List Entry) (c : CompositionTree) (wired : AreWired es) (composed : IsComposed es c) where
  -- ---- releases

  named_each : AllByRecursion (λ e. has (release_names (releases es)) (release_name e) ≡ true) es
  unfolding releases
  named_each = each_named release_name [] es

  pub own : AreOwn (map name_of c.components)
  unfolding releases
  own = subst AreOwn (sym (their_names (releases es) c.components composed.components)) (own_firsts release_name [] es tt)

  -- a release is that of an entry
  release_is : (j : ℕ) (r : Entry) → slice_get (releases es) j ≡ Some r → (k : ℕ) × (slice_get es k ≡ Some r)
  unfolding releases
  release_is j r at = by (is_of release_name [] es j r at)
    where
      by : ((k : ℕ) × (slice_get [] k ≡ Some r)) ⊎ ((k : ℕ) × (slice_get es k ≡ Some r)) → (k : ℕ) × (slice_get es k ≡ Some r)
      by (inl none) = absurd (no none.1)
        where
          no : None ≡ Some r → ⊥
          no h = absurd cc
      by (inr there) = there

  digest_at : (xs : List Entry) → AllByRecursion (λ e. sha256 e.content ≡ e.digest) xs → (i : ℕ) (e : Entry) → slice_get xs i ≡ Some e → IsDigest e.digest
  digest_at [] all i e at = absurd cc
  digest_at (x ∷ xs) all zero e at = subst (λ (y : Entry). IsDigest y.digest) (same_Some x e at) (subst IsDigest all.0 (sha256_is_digest x.content))
  digest_at (x ∷ xs) all (suc i) e at = digest_at xs all.1 i e at

  -- ---- shapes

  module _ (one_shape : OneShape) where
    -- the shape of an entry's component is that of its content
    shape_is : (i : ℕ) (e : Entry) (tree : ShapeTree) → slice_get es i ≡ Some e → has (release_names (releases es)) (release_name e) ≡ true → HasShape e.content tree → shape_numbered c.components (release_place es e) ≡ tree
    shape_is i e tree at named shape =
        let found = component_at (releases es) c.components (release_name e) composed.components named in
        let stands = release_is found.place found.release found.stands in
        let r = found.release in
        let names : release_name e ≡ release_name r = same_bytes (release_name e) (release_name r) found.named in
        let digests : e.digest ≡ r.digest = one_digest e.name r.name e.version r.version e.digest r.digest (digest_at es wired.digests i e at) (digest_at es wired.digests stands.0 r stands.1) names in
        let contents : e.content ≡ r.content = wired.contents i stands.0 e r at stands.1 digests in
        shape_there c.components (release_place es e) found.component found.there
        ∙ one_shape e.content found.component.shape tree (subst (λ bs. HasShape bs found.component.shape) (sym contents) found.of.has_shape) shape

    shapes_named : (before after : List Entry) → es ≡ before ++ after → EachAfter IsWired before after → AllByRecursion (λ e. has (release_names (releases es)) (release_name e) ≡ true) after
        → AreNamed (wiring c) after (map (shape_numbered c.components) (map (release_place es) after))
    unfolding EachAfter
    shapes_named before [] same each named = tt
    shapes_named before (e ∷ after) same each named =
        let shape = shape_is (length before) e each.0.tree (ap (λ xs. slice_get xs (length before)) same ∙ at_length before after e) named.0 each.0.has_shape in
        (each.0.in_order ∙ ap (λ (s : ShapeTree). names_in s.imports) (sym shape), shapes_named (before ++ e ∷ []) after (same ∙ sym (append_assoc before (e ∷ []) after)) each.1 named.1)

    named : AreNamed (wiring c) es (wiring c).shapes
    named = subst (λ ns. AreNamed (wiring c) es (map (shape_numbered c.components) ns)) (sym composed.instances) (shapes_named [] es refl wired.each named_each)

    named_at : (xs : List Entry) (ss : List ShapeTree) → AreNamed (wiring c) xs ss → (i : ℕ) (e : Entry) → slice_get xs i ≡ Some e → map (λ a. a.0) e.arguments ≡ names_in (shape_at ss i).imports
    named_at [] ss all i e at = absurd cc
    named_at (x ∷ xs) [] all i e at = absurd all
    named_at (x ∷ xs) (s ∷ ss) all zero e at = subst (λ (y : Entry). map (λ a. a.0) y.arguments ≡ names_in s.imports) (same_Some x e at) all.0
    named_at (x ∷ xs) (s ∷ ss) all (suc i) e at = named_at xs ss all.1 i e at

    -- ---- the composition

    wires : AllByRecursion (IsPlanWire es) c.wires
    wires = subst (AllByRecursion (IsPlanWire es)) (sym composed.wires) (plan_wires es [] es refl wired.each)

    count : length c.instances ≡ length es
    count = ap length composed.instances ∙ length-map es (release_place es)

    between : (w : Wire) → IsPlanWire es w → IsBetween (length c.instances) w
    between w p =
        let target : w.target < length es = slice_get_within es w.target p.entry p.there in
        let source = p.source in
        record { source = omega (arith, count, target, source); target = omega (arith, count, target) }

    ends : (w : Wire) → IsPlanWire es w → HasEnds (wiring c) w
    ends w p =
        let names = named_at es (wiring c).shapes named w.target p.entry p.there in
        let lengths : length p.entry.arguments ≡ length (shape_at (wiring c).shapes w.target).imports =
        sym (length-map p.entry.arguments (λ a. a.0)) ∙ ap length names ∙ length-map (shape_at (wiring c).shapes w.target).imports (λ e. e.0) in
        let import = p.import in
        record {
          import = omega (arith, lengths, import);
          export = subst (λ o. IfSome o (λ export. export < length (shape_at (wiring c).shapes w.source).exports)) (sym p.whole) (record {});
        }

    within : (xs : List Entry) → AllByRecursion (λ e. has (release_names (releases es)) (release_name e) ≡ true) xs → AllByRecursion (λ n. n < length c.components) (map (release_place es) xs)
    within [] all = tt
    within (x ∷ xs) all =
        let there = place_within (release_names (releases es)) (release_name x) all.0 in
        let names = length-map (releases es) release_name in
        let components = as_many (releases es) c.components composed.components in
        (omega (arith, there, names, components), within xs all.1)

    pub is_composition : IsComposition c
    is_composition = record {
      made = subst (AllByRecursion (λ n. n < length c.components)) (sym composed.instances) (within es named_each);
      joined = all_weaker (IsPlanWire es) (IsBetween (length c.instances)) c.wires between wires;
      ends = all_weaker (IsPlanWire es) (HasEnds (wiring c)) c.wires ends wires;
      apart = subst HaveOwnImports (sym composed.wires) (own_imports 0 es).1;
    }

    pub no_cycle : (n : ℕ) (name : List ℕ) → IsCircle c n name → ⊥
    no_cycle n name circle = no_circle c (all_weaker (IsPlanWire es) (λ w. w.source < w.target) c.wires (λ w p. p.source) wires) n name circle

    -- ---- names

    pub open_names : (lefts : List LeftTree) (order : List ℕ) → IsSound c order lefts → AllByRecursion (λ (l : LeftTree). IsOpenName l.name) lefts
    open_names lefts order sound =
        let asked = open_all (wiring c) [] es [] (wiring c).shapes composed.wires wired.each named in
        let ordered = sound.agree.ordered in
        subst (AllByRecursion (λ (l : LeftTree). IsOpenName l.name)) (sym ordered.written) (turn_called IsOpenName (merged_all (left_open (wiring c))) ordered.order (merged_called IsOpenName (left_open (wiring c)) asked))

    first_found : (f : ℕ → Option (List ℕ)) (ns : List ℕ) (name : List ℕ) → first_of f ns ≡ Some name → (n : ℕ) × (f n ≡ Some name)
    first_found f [] name e = absurd cc
    first_found f (n ∷ ns) name e = by (f n) refl e (first_found f ns name)
      where
        by : (o : Option (List ℕ)) → f n ≡ o → option_or o (first_of f ns) ≡ Some name → (first_of f ns ≡ Some name → (n : ℕ) × (f n ≡ Some name)) → (n : ℕ) × (f n ≡ Some name)
        by None at h later = later h
        by (Some x) at h later = (n, at ∙ h)

    clash_is : (lefts : List LeftTree) (n : ℕ) (name : List ℕ) → clash_at c lefts n ≡ Some name → (k : ComponentTree) × (slice_get c.components n ≡ Some k) × (has_name lefts k.name ≡ true)
    clash_is lefts n name e = by (slice_get c.components n) refl e
      where
        told : (k : ComponentTree) (b : Bool) → has_name lefts k.name ≡ b → cond b (Some k.name) None ≡ Some name → has_name lefts k.name ≡ true
        told k true h e = h
        told k false h e = absurd cc

        by : (o : Option ComponentTree) → slice_get c.components n ≡ o → option_and_then (name_left lefts) o ≡ Some name → (k : ComponentTree) × (slice_get c.components n ≡ Some k) × (has_name lefts k.name ≡ true)
        by None at h = absurd cc
        by (Some k) at h = (k, at, told k (has_name lefts k.name) refl h)

    pub no_clash : (root : Option ℕ) (name : List ℕ) → IsNameClash c false root name → ⊥
    no_clash root name clash =
        let found = first_found (clash_at c clash.lefts) (used c) name clash.first in
        let is = clash_is clash.lefts found.0 name found.1 in
        let of = of_entry (releases es) c.components composed.components found.0 is.0 is.1 in
        let open_name = has_called IsOpenName clash.lefts is.0.name (open_names clash.lefts clash.order clash.sound) is.2 in
        let text = subst IsOpenName of.1.named open_name in
        no_interface of.0.name of.0.version of.0.digest text.0 text.1 text.2

    pub rooted : IfSome (root_of es) (λ i. i < length c.instances)
    rooted = subst (λ n. IfSome (root_of es) (λ i. i < n)) (sym count) (by es)
      where
        by : (xs : List Entry) → IfSome (root_of xs) (λ i. i < length xs)
        by [] = record {}
        by (x ∷ xs) = omega arith

  pub are_apart : AreApart c.components
  are_apart = apart c.components own
