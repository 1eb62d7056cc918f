-- What the calls of a composition graph keep.
use Rattle.std.proofs.Common.{◌≡◌, ◌∙◌, ap, sym, subst, refl, ℕ, suc, Bool, true, false, true≢false, cond, List, [], ◌∷◌, ◌++◌, map, Option, Some, None}
use Rattle.std.specs.Prelude.{◌==◌, ◌||◌, not, filter, find, is_some, option_and_then, slice_get}
use Rattle.std.specs.Option.{option_or, option_map_or}
use Rattle.std.specs.Cmp.{nat_eq_equiv}
use Rattle.std.specs.List.{AllByRecursion}
use Rattle.std.proofs.lemmas.List.{map-append}
use Rattle.std.proofs.lemmas.List.Folds.{find-append}
use Rattle.std.proofs.lemmas.Option.{same_Some}
use Rattle.comp_entity.specs.Entity.{EntityTree, ShapeTree}
use Rattle.compose_graph.specs.Graph.{ComponentEntry, InstanceEntry, GraphTree, SelfConnection, component_at, component_named, component_of, connect_fault, connection_into, fault_between, fault_of_import, instance_at, is_between, is_of, made_from, touches, touches_any_of, with_component, with_connection, with_instance, without_component, without_connection, without_instance}
use Rattle.compose_graph.specs.Kept.{CountUp, IsGraph, IsJoined}
use Rattle.compose_graph.specs.declared.connection.Connection.{Connection}
use Rattle.compose_graph.proofs.ConnectionLaws.{own_added, own_kept}
use Rattle.compose_graph.proofs.CountLaws.{count_added, count_kept}
use Rattle.compose_graph.proofs.ListLaws.{all_kept, all_push, all_weaker, find_skip, same_number}
use Rattle.compose_graph.proofs.NameLaws.{names_added, names_kept, passes}

-- ---- what stays found

module _ {X : Type 0} where
  found_more : (test : X → Bool) (xs ys : List X) (x : X) → find test xs ≡ Some x → find test (xs ++ ys) ≡ Some x
  found_more test xs ys x e = find-append test xs ys ∙ ap (λ (o : Option X). option_or o (find test ys)) e

  found_kept : (test p : X → Bool) (xs : List X) (x : X) → find test xs ≡ Some x → p x ≡ true → find test (filter p xs) ≡ Some x
  found_kept test p [] x e k = absurd cc
  found_kept test p (y ∷ xs) x e k = one (test y) refl e (λ f. found_kept test p xs x f k)
    where
      here : (b : Bool) → p y ≡ b → test y ≡ true → y ≡ x → find test (cond b (y ∷ filter p xs) (filter p xs)) ≡ Some x
      here true kept h same = (λ i. cond (h i) (Some y) (find test (filter p xs))) ∙ ap (λ (z : X). Some z) same
      here false kept h same = absurd (true≢false (sym k ∙ ap p (sym same) ∙ kept))

      one : (b : Bool) → test y ≡ b → cond b (Some y) (find test xs) ≡ Some x → (find test xs ≡ Some x → find test (filter p xs) ≡ Some x) → find test (filter p (y ∷ xs)) ≡ Some x
      one true h e rest = here (p y) refl h (same_Some y x e)
      one false h e rest = find_skip test y (p y) (filter p xs) h ∙ rest e

  all_filtered : (P Q : X → Type 0) (p : X → Bool) → ((x : X) → p x ≡ true → P x → Q x) → (xs : List X) → AllByRecursion P xs → AllByRecursion Q (filter p xs)
  all_filtered P Q p f [] a = tt
  all_filtered P Q p f (x ∷ xs) a = one (p x) refl (all_filtered P Q p f xs a.1)
    where
      one : (b : Bool) → p x ≡ b → AllByRecursion Q (filter p xs) → AllByRecursion Q (cond b (x ∷ filter p xs) (filter p xs))
      one true h rest = (f x h a.0, rest)
      one false h rest = rest

  pub there_is : (o : Option X) → is_some o ≡ true → (x : X) × (o ≡ Some x)
  there_is None e = absurd (true≢false (sym e))
  there_is (Some x) e = (x, refl)

  not_there : (o : Option X) → is_some o ≡ false → o ≡ None
  not_there None e = refl
  not_there (Some x) e = absurd (true≢false e)

differ_back : (a b : ℕ) → (a == b) ≡ false → (b == a) ≡ false
differ_back a b e = nat_eq_equiv.symm b a ∙ e

neither : (a b : Bool) → not (a || b) ≡ true → (a ≡ false) × (b ≡ false)
neither true b e = absurd (true≢false (sym e))
neither false true e = absurd (true≢false (sym e))
neither false false e = (refl, refl)

is_not : (b : Bool) → not b ≡ true → b ≡ false
is_not true e = absurd (true≢false (sym e))
is_not false e = refl

-- ---- the component of an instance

pub record IsMade (cs : List ComponentEntry) (is : List InstanceEntry) (id : ℕ) (c : ComponentEntry) : Type 0 where
  pub made : InstanceEntry
  pub there : instance_at is id ≡ Some made
  pub from : component_at cs made.component ≡ Some c

pub made_parts : (cs : List ComponentEntry) (is : List InstanceEntry) (id : ℕ) (c : ComponentEntry) → made_from cs is id ≡ Some c → IsMade cs is id c
made_parts cs is id c e = one (instance_at is id) refl e
  where
    one : (o : Option InstanceEntry) → instance_at is id ≡ o → option_and_then (λ (i : InstanceEntry). component_at cs i.component) o ≡ Some c → IsMade cs is id c
    one None h e = absurd cc
    one (Some i) h e = record { made = i; there = h; from = e }

made_again : (cs : List ComponentEntry) (is : List InstanceEntry) (id : ℕ) (i : InstanceEntry) (c : ComponentEntry) → instance_at is id ≡ Some i → component_at cs i.component ≡ Some c → made_from cs is id ≡ Some c
made_again cs is id i c there from = ap (option_and_then (λ (i : InstanceEntry). component_at cs i.component)) there ∙ from

-- ---- connections that stay

-- an instance has the component that it had
abbrev StaysMade : GraphTree → GraphTree → ℕ → Type 0
StaysMade g h id = (x : ComponentEntry) → component_of g id ≡ Some x → component_of h id ≡ Some x

joined_moved : (g h : GraphTree) (c : Connection) → StaysMade g h c.source → StaysMade g h c.target → IsJoined g c → IsJoined h c
joined_moved g h c source target joined = one (component_of g c.source) (component_of g c.target) refl refl joined
  where
    one : (s t : Option ComponentEntry) → component_of g c.source ≡ s → component_of g c.target ≡ t → fault_between false c s t ≡ None → IsJoined h c
    one None t e f k = absurd cc
    one (Some x) None e f k = absurd cc
    one (Some x) (Some y) e f k = (λ i. fault_between false c (source x e i) (target y f i)) ∙ k

taken_never : (source : ShapeTree) (c : Connection) (asked : Option (List ℕ × EntityTree)) → fault_of_import true source c asked ≡ None → ⊥
taken_never source c None e = absurd cc
taken_never source c (Some a) e = absurd cc

between_never : (c : Connection) (s t : Option ComponentEntry) → fault_between true c s t ≡ None → ⊥
between_never c None t e = absurd cc
between_never c (Some x) None e = absurd cc
between_never c (Some x) (Some y) e = taken_never x.shape c (slice_get y.shape.imports c.import) e

record CanJoin (g : GraphTree) (c : Connection) : Type 0 where
  free : connection_into g.connections c.target c.import ≡ None
  joined : IsJoined g c

can_join : (g : GraphTree) (c : Connection) → connect_fault g c ≡ None → CanJoin g c
can_join g c e = one (c.source == c.target) e
  where
    other : (b : Bool) → is_some (connection_into g.connections c.target c.import) ≡ b → fault_between b c (component_of g c.source) (component_of g c.target) ≡ None → CanJoin g c
    other true h e = absurd (between_never c (component_of g c.source) (component_of g c.target) e)
    other false h e = record { free = not_there (connection_into g.connections c.target c.import) h; joined = e }

    one : (b : Bool) → cond b (Some SelfConnection) (fault_between (is_some (connection_into g.connections c.target c.import)) c (component_of g c.source) (component_of g c.target)) ≡ None → CanJoin g c
    one true e = absurd cc
    one false e = other (is_some (connection_into g.connections c.target c.import)) refl e

-- ---- the calls

module _ (g : GraphTree) (k : IsGraph g) where
  pub graph_added : (name bytes : List ℕ) (shape : ShapeTree) → component_named g.components name ≡ None → IsGraph (with_component g name bytes shape)
  graph_added name bytes shape free =
      let e : ComponentEntry = record { id = g.next_component; name = name; bytes = bytes; shape = shape } in
      let h = with_component g name bytes shape in
      let stays : (id : ℕ) → StaysMade g h id = λ id x made.
      let m = made_parts g.components g.instances id x made in
      made_again h.components h.instances id m.made x m.there (found_more (λ (c : ComponentEntry). m.made.component == c.id) g.components (e ∷ []) x m.from) in
      record {
        component_ids = subst (λ (ks : List ℕ). CountUp 0 ks (suc g.next_component)) (sym (map-append (λ (c : ComponentEntry). c.id) g.components (e ∷ []))) (count_added 0 g.next_component (map (λ (c : ComponentEntry). c.id) g.components) k.component_ids);
        instance_ids = k.instance_ids;
        names = names_added g.components e free k.names;
        made = all_weaker (λ (i : InstanceEntry). is_some (component_at g.components i.component) ≡ true) (λ (i : InstanceEntry). is_some (component_at h.components i.component) ≡ true)
            (λ i some. let x = there_is (component_at g.components i.component) some in ap (λ (o : Option ComponentEntry). is_some o) (found_more (λ (c : ComponentEntry). i.component == c.id) g.components (e ∷ []) x.0 x.1)) g.instances k.made;
        joined = all_weaker (IsJoined g) (IsJoined h) (λ c joined. joined_moved g h c (stays c.source) (stays c.target) joined) g.connections k.joined;
        apart = k.apart;
      }

  pub graph_instantiated : (component : ℕ) → is_some (component_at g.components component) ≡ true → IsGraph (with_instance g component)
  graph_instantiated component there =
      let e : InstanceEntry = record { id = g.next_instance; component = component } in
      let h = with_instance g component in
      let stays : (id : ℕ) → StaysMade g h id = λ id x made.
      let m = made_parts g.components g.instances id x made in
      made_again h.components h.instances id m.made x (found_more (λ (i : InstanceEntry). id == i.id) g.instances (e ∷ []) m.made m.there) m.from in
      record {
        component_ids = k.component_ids;
        instance_ids = subst (λ (ks : List ℕ). CountUp 0 ks (suc g.next_instance)) (sym (map-append (λ (i : InstanceEntry). i.id) g.instances (e ∷ []))) (count_added 0 g.next_instance (map (λ (i : InstanceEntry). i.id) g.instances) k.instance_ids);
        names = k.names;
        made = all_push (λ (i : InstanceEntry). is_some (component_at g.components i.component) ≡ true) g.instances e k.made there;
        joined = all_weaker (IsJoined g) (IsJoined h) (λ c joined. joined_moved g h c (stays c.source) (stays c.target) joined) g.connections k.joined;
        apart = k.apart;
      }

  pub graph_connected : (c : Connection) → connect_fault g c ≡ None → IsGraph (with_connection g c)
  graph_connected c fits =
      let can = can_join g c fits in
      record {
        component_ids = k.component_ids;
        instance_ids = k.instance_ids;
        names = k.names;
        made = k.made;
        joined = all_push (IsJoined g) g.connections c k.joined can.joined;
        apart = own_added g.connections c can.free k.apart;
      }

  pub graph_disconnected : (source target import : ℕ) → IsGraph (without_connection g source target import)
  graph_disconnected source target import = record {
    component_ids = k.component_ids;
    instance_ids = k.instance_ids;
    names = k.names;
    made = k.made;
    joined = all_kept (IsJoined g) (λ c. not (is_between source target import c)) g.connections k.joined;
    apart = own_kept (λ c. not (is_between source target import c)) g.connections k.apart;
  }

  other_stays : (id s : ℕ) → (s == id) ≡ false → StaysMade g (without_instance g id) s
  other_stays id s differ x made =
      let m = made_parts g.components g.instances s x made in
      let is = same_number s m.made.id (passes (λ (i : InstanceEntry). s == i.id) g.instances m.made m.there) in
      let kept : not (id == m.made.id) ≡ true = ap not (ap (λ (n : ℕ). id == n) (sym is) ∙ differ_back s id differ) in
      made_again g.components (filter (λ (i : InstanceEntry). not (id == i.id)) g.instances) s m.made x
      (found_kept (λ (i : InstanceEntry). s == i.id) (λ (i : InstanceEntry). not (id == i.id)) g.instances m.made m.there kept) m.from

  pub instance_removed : (id : ℕ) → IsGraph (without_instance g id)
  instance_removed id =
      let h = without_instance g id in
      record {
        component_ids = k.component_ids;
        instance_ids = count_kept (λ (i : InstanceEntry). i.id) 0 g.next_instance (λ (i : InstanceEntry). not (id == i.id)) g.instances k.instance_ids;
        names = k.names;
        made = all_kept (λ (i : InstanceEntry). is_some (component_at g.components i.component) ≡ true) (λ (i : InstanceEntry). not (id == i.id)) g.instances k.made;
        joined = all_filtered (IsJoined g) (IsJoined h) (λ c. not (touches id c))
            (λ c kept joined. let apart = neither (c.source == id) (c.target == id) kept in joined_moved g h c (other_stays id c.source apart.0) (other_stays id c.target apart.1) joined) g.connections k.joined;
        apart = own_kept (λ c. not (touches id c)) g.connections k.apart;
      }

  component_stays : (id of : ℕ) (x : ComponentEntry) → (of == id) ≡ false → component_at g.components of ≡ Some x → component_at (filter (λ (c : ComponentEntry). not (id == c.id)) g.components) of ≡ Some x
  component_stays id of x differ there =
      let is = same_number of x.id (passes (λ (c : ComponentEntry). of == c.id) g.components x there) in
      let kept : not (id == x.id) ≡ true = ap not (ap (λ (n : ℕ). id == n) (sym is) ∙ differ_back of id differ) in
      found_kept (λ (c : ComponentEntry). of == c.id) (λ (c : ComponentEntry). not (id == c.id)) g.components x there kept

  others_stay : (id s : ℕ) → is_of g.instances id s ≡ false → StaysMade g (without_component g id) s
  others_stay id s differ x made =
      let m = made_parts g.components g.instances s x made in
      let other : (m.made.component == id) ≡ false = ap (λ (o : Option InstanceEntry). option_map_or (λ (i : InstanceEntry). i.component == id) o false) (sym m.there) ∙ differ in
      made_again (filter (λ (c : ComponentEntry). not (id == c.id)) g.components) (filter (λ (i : InstanceEntry). not (i.component == id)) g.instances) s m.made x
      (found_kept (λ (i : InstanceEntry). s == i.id) (λ (i : InstanceEntry). not (i.component == id)) g.instances m.made m.there (ap not other))
      (component_stays id m.made.component x other m.from)

  pub component_removed : (id : ℕ) → IsGraph (without_component g id)
  component_removed id =
      let h = without_component g id in
      record {
        component_ids = count_kept (λ (c : ComponentEntry). c.id) 0 g.next_component (λ (c : ComponentEntry). not (id == c.id)) g.components k.component_ids;
        instance_ids = count_kept (λ (i : InstanceEntry). i.id) 0 g.next_instance (λ (i : InstanceEntry). not (i.component == id)) g.instances k.instance_ids;
        names = names_kept (λ (c : ComponentEntry). not (id == c.id)) g.components k.names;
        made = all_filtered (λ (i : InstanceEntry). is_some (component_at g.components i.component) ≡ true) (λ (i : InstanceEntry). is_some (component_at h.components i.component) ≡ true) (λ (i : InstanceEntry). not (i.component == id))
            (λ i kept some. let x = there_is (component_at g.components i.component) some in ap (λ (o : Option ComponentEntry). is_some o) (component_stays id i.component x.0 (is_not (i.component == id) kept) x.1)) g.instances k.made;
        joined = all_filtered (IsJoined g) (IsJoined h) (λ c. not (touches_any_of g.instances id c))
            (λ c kept joined. let apart = neither (is_of g.instances id c.source) (is_of g.instances id c.target) kept in joined_moved g h c (others_stay id c.source apart.0) (others_stay id c.target apart.1) joined) g.connections k.joined;
        apart = own_kept (λ c. not (touches_any_of g.instances id c)) g.connections k.apart;
      }
