-- What holds of the instances of a graph still holds when more is added to it.
use Rattle.std.proofs.Common.{◌≡◌, ℕ, Bool, true, false, cond, eqb, List, [], ◌∷◌, ◌++◌, Option, Some, None, option_map, option_and_then, is_some, slice_get, refl, sym, ap, ◌∙◌}
use Rattle.std.specs.Option.{option_or}
use Rattle.std.proofs.lemmas.List.Folds.{find-append}
use Rattle.comp_entity.specs.Entity.{EntityTree, ShapeTree}
use Rattle.compose_config.specs.Plan.{Settings}
use Rattle.compose_graph.specs.Graph.{ComponentEntry, GraphTree, InstanceEntry, SelfConnection, component_at, component_of, connect_fault, connection_into, fault_between, fault_of_import, instance_at, with_component, with_connection, with_instance}
use Rattle.compose_graph.specs.Kept.{IsJoined}
use Rattle.compose_graph.specs.declared.connection.Connection.{Connection}
use Rattle.compose_files.specs.Built.{HasGoodArguments, IsChosen, Need, asked_by}
use Rattle.compose_files.specs.Graph.{needs_by, needs_of}
use Rattle.compose_files.proofs.Once.{none_some}

-- an instance that has a component keeps it
abbrev pub Keeps : GraphTree → GraphTree → Type 0
Keeps old new = (id : ℕ) (c : ComponentEntry) → component_of old id ≡ Some c → component_of new id ≡ Some c

pub keeps_itself : (g : GraphTree) → Keeps g g
keeps_itself g id c h = h

pub keeps_both : (a b c : GraphTree) → Keeps a b → Keeps b c → Keeps a c
keeps_both a b c p q id x h = q id x (p id x h)

or_left : {A : Type 0} (o p : Option A) (x : A) → o ≡ Some x → option_or o p ≡ Some x
or_left None p x h = absurd (none_some x (sym h))
or_left (Some y) p x h = h

by_component : (cs ds : List ComponentEntry) (id : ℕ) (c : ComponentEntry) → component_at cs id ≡ Some c → component_at (cs ++ ds) id ≡ Some c
by_component cs ds id c h = find-append (λ (c : ComponentEntry). eqb id c.id) cs ds ∙ or_left (component_at cs id) (component_at ds id) c h

pub with_component_keeps : (g : GraphTree) (name bytes : List ℕ) (shape : ShapeTree) → Keeps g (with_component g name bytes shape)
with_component_keeps g name bytes shape id c h = by (instance_at g.instances id) h
  where
    by : (i : Option InstanceEntry) → option_and_then (λ (i : InstanceEntry). component_at g.components i.component) i ≡ Some c
        → option_and_then (λ (i : InstanceEntry). component_at (with_component g name bytes shape).components i.component) i ≡ Some c
    by None h = absurd (none_some c (sym h))
    by (Some i) h = by_component g.components (record { id = g.next_component; name = name; bytes = bytes; shape = shape } ∷ []) i.component c h

pub with_instance_keeps : (g : GraphTree) (component : ℕ) → Keeps g (with_instance g component)
with_instance_keeps g component id c h =
    ap (option_and_then (λ (i : InstanceEntry). component_at g.components i.component))
    (find-append (λ (i : InstanceEntry). eqb id i.id) g.instances (record { id = g.next_instance; component = component } ∷ [])) ∙ by (instance_at g.instances id) h
  where
    by : (i : Option InstanceEntry) → option_and_then (λ (i : InstanceEntry). component_at g.components i.component) i ≡ Some c
        → option_and_then (λ (i : InstanceEntry). component_at g.components i.component) (option_or i (instance_at (record { id = g.next_instance; component = component } ∷ []) id)) ≡ Some c
    by None h = absurd (none_some c (sym h))
    by (Some i) h = h

pub with_connection_keeps : (g : GraphTree) (c : Connection) → Keeps g (with_connection g c)
with_connection_keeps g c id x h = h

module _ (old new : GraphTree) (keeps : Keeps old new) where
  pub arguments_kept : (s : Settings) (instance : List ℕ) (id : ℕ) → HasGoodArguments s old instance id → HasGoodArguments s new instance id
  arguments_kept s instance id h = record { component = h.component; made_from = keeps id h.component h.made_from; none_stray = h.none_stray }

  asked_kept : (need : Need) (e : EntityTree) → asked_by old need ≡ Some e → asked_by new need ≡ Some e
  asked_kept need e h = by (component_of old need.target) refl h
    where
      asks : Option ComponentEntry → Option EntityTree
      asks o = option_map (λ (i : List ℕ × EntityTree). i.1) (option_and_then (λ (c : ComponentEntry). slice_get c.shape.imports need.place) o)

      by : (o : Option ComponentEntry) → component_of old need.target ≡ o → asks o ≡ Some e → asked_by new need ≡ Some e
      by None is h = absurd (none_some e (sym h))
      by (Some c) is h = ap asks (keeps need.target c is) ∙ h

  pub chosen_kept : (source : ℕ) (need : Need) (name : Option (List ℕ)) (export : Option ℕ) → IsChosen old source need name export → IsChosen new source need name export
  chosen_kept source need name export h = record {
    component = h.component;
    made_from = keeps source h.component h.made_from;
    asked = h.asked;
    asks = asked_kept need h.asked h.asks;
    chosen = h.chosen;
  }

  pub joined_kept : (c : Connection) → IsJoined old c → IsJoined new c
  joined_kept c h = by (component_of old c.source) refl (component_of old c.target) refl h
    where
      by : (a : Option ComponentEntry) → component_of old c.source ≡ a → (b : Option ComponentEntry) → component_of old c.target ≡ b → fault_between false c a b ≡ None
          → fault_between false c (component_of new c.source) (component_of new c.target) ≡ None
      by None p b q h = absurd (none_some _ h)
      by (Some a) p None q h = absurd (none_some _ h)
      by (Some a) p (Some b) q h =
          ap (λ x. fault_between false c x (component_of new c.target)) (keeps c.source a p) ∙ ap (λ x. fault_between false c (Some a) x) (keeps c.target b q) ∙ h

  -- the imports of an instance that has a component
  pub needs_kept : (i : List ℕ × ℕ) (c : ComponentEntry) → component_of old i.1 ≡ Some c → needs_of new i ≡ needs_of old i
  needs_kept i c h = ap (needs_by i.0 i.1) (keeps i.1 c h) ∙ sym (ap (needs_by i.0 i.1) h)

-- what a graph takes joins two instances
pub joined_by : (g : GraphTree) (c : Connection) → connect_fault g c ≡ None → (eqb c.source c.target ≡ false) × IsJoined g c
joined_by g c h = by (eqb c.source c.target) h
  where
    at_import : (t : Bool) (a : ShapeTree) (asked : Option (List ℕ × EntityTree)) → fault_of_import t a c asked ≡ None → fault_of_import false a c asked ≡ None
    at_import t a None h = h
    at_import true a (Some asked) h = absurd (none_some _ h)
    at_import false a (Some asked) h = h

    between : (t : Bool) (a b : Option ComponentEntry) → fault_between t c a b ≡ None → fault_between false c a b ≡ None
    between t None b h = h
    between t (Some a) None h = h
    between t (Some a) (Some b) h = at_import t a.shape (slice_get b.shape.imports c.import) h

    by : (b : Bool) → cond b (Some SelfConnection) (fault_between (is_some (connection_into g.connections c.target c.import)) c (component_of g c.source) (component_of g c.target)) ≡ None → (b ≡ false) × IsJoined g c
    by true h = absurd (none_some SelfConnection h)
    by false h = (refl, between (is_some (connection_into g.connections c.target c.import)) (component_of g c.source) (component_of g c.target) h)
