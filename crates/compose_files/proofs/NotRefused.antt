-- The calls that a step makes are refused for no cause in what is composed, where the step is made: components and instances.
use Rattle.std.proofs.Common.{◌≡◌, ◌≢◌, ◌≤◌, ◌⊎◌, ℕ, suc, List, Option, Some, None, MatchOption, is_some, sym, ap, ◌∙◌, subst, refl, arith, inl, inr}
use Rattle.std.proofs.lemmas.Bool.{false≢true}
use Rattle.warg_base.specs.Files.{FileMap, file_at}
use Rattle.warg_base.specs.declared.files.FileError.{FileError}
use Rattle.warg_base.specs.declared.files.FileError.TheVariants as file
use Rattle.comp_entity.specs.Entity.{ShapeTree}
use Rattle.comp_shape.specs.Refusal.{IsRefused}
use Rattle.comp_shape.specs.Shape.{HasShape}
use Rattle.comp_shape.specs.declared.error.ShapeError.{ShapeError}
use Rattle.comp_shape.specs.declared.error.ShapeError.TheVariants as shape
use Rattle.compose_config.specs.Plan.{dependency_name}
use Rattle.compose_graph.specs.Graph.{ComponentEntry, ConnectFault, GraphTree, component_named}
use Rattle.compose_graph.specs.Refusal.{IsAddRefusal, IsConnectRefusal, IsInstantiateRefusal, last_id}
use Rattle.compose_graph.specs.declared.error.GraphError.{GraphError}
use Rattle.compose_graph.specs.declared.error.GraphError.TheVariants as graph
use Rattle.compose_files.specs.Built.{Built, IsAdded, IsComponentFor, IsDefined, IsInstanceFor, IsMade, IsNew, IsRead, Need, Sources, file_for, with_graph}
use Rattle.compose_files.specs.Paths.{joined, stem}
use Rattle.compose_files.specs.Refusals.{IsComponentRefusal, IsDefinitionRefusal, IsFileRefusal, IsFoundFileRefusal, IsGraphRefusal, IsInstanceRefusal, IsMakeRefusal, IsNeedRefusal, IsPathRefusal, IsReadRefusal, IsSearchRefusal}
use Rattle.compose_files.specs.Refused.{HasNumbers}
use Rattle.compose_files.specs.declared.error.ComposerError.{ComposerError}
use Rattle.compose_files.specs.declared.error.ComposerError.TheVariants as error
use Rattle.compose_files.proofs.Extended.{IsThere, component_for_there, made_follows}
use Rattle.compose_files.proofs.Apart.{none_some}
use Rattle.compose_files.proofs.OneGraph.{OneShape, one_component}
use Rattle.compose_files.proofs.OneStep.{one_found}
use Rattle.compose_files.proofs.OwnFits.{none_refused}

-- want of memory, or the outside failed
abbrev pub IsOutside : ComposerError → Type 0
IsOutside error.Memory = Unit {0}
IsOutside (error.File path file.Failed) = Unit {0}
IsOutside _ = ⊥

abbrev pub ShapesAreRead : Type 0
ShapesAreRead = (e : ShapeError) (bytes : List ℕ) (s : ShapeTree) → IsRefused e bytes → HasShape bytes s → e ≡ shape.Memory

-- ---- calls of the graph

-- no refusal but want of memory
abbrev pub IsNever : (GraphError → Type 0) → Type 0
IsNever P = (e : GraphError) → P e → e ≢ graph.Memory → ⊥

pub graph_never : (P : GraphError → Type 0) → IsNever P → (e : ComposerError) → IsGraphRefusal P e → IsOutside e
graph_never P never (error.Graph e) h = absurd (never e h.0 h.1)
graph_never P never error.Memory h = tt
graph_never P never _ h = absurd h

pub need_never : (need : Need) (P : GraphError → Type 0) → IsNever P → (e : ComposerError) → IsNeedRefusal need P e → IsOutside e
need_never need P never (error.Connect import instance e) h = absurd (never e h.2 h.3)
need_never need P never error.Memory h = tt
need_never need P never _ h = absurd h

never_added : (g : GraphTree) (name : List ℕ) → component_named g.components name ≡ None → suc g.next_component ≤ last_id → IsNever (IsAddRefusal g name)
never_added g name free low (graph.NameExists told) h not_memory = false≢true (sym (ap is_some free) ∙ h.1)
never_added g name free low graph.IdLimit h not_memory = let last = h.1 in omega arith
never_added g name free low graph.Memory h not_memory = not_memory refl
never_added g name free low _ h not_memory = h

pub never_instantiated : (g : GraphTree) (id : ℕ) → IsThere g id → suc g.next_instance ≤ last_id → IsNever (IsInstantiateRefusal g id)
never_instantiated g id there low graph.NoComponent h not_memory = false≢true (sym (ap is_some h) ∙ there)
never_instantiated g id there low graph.IdLimit h not_memory = let last = h.1 in omega arith
never_instantiated g id there low graph.Memory h not_memory = not_memory refl
never_instantiated g id there low _ h not_memory = h

pub never_connected : (fault : Option ConnectFault) → fault ≡ None → IsNever (IsConnectRefusal fault)
never_connected fault good e h not_memory = none_refused e not_memory (subst (λ (f : Option ConnectFault). IsConnectRefusal f e) good h)

-- ---- components of files

search_outside : (s : Sources) (name : List ℕ) (e : ComposerError) → IsSearchRefusal s name e → IsOutside e
search_outside s name (error.File path e) h = subst (λ (f : FileError). IsOutside (error.File path f)) (sym h.2) tt
search_outside s name error.Memory h = tt
search_outside s name _ h = absurd h

path_outside : (path name : List ℕ) → stem path ≡ Some name → (e : ComposerError) → IsPathRefusal path e → IsOutside e
path_outside path name is (error.BadDefinitionPath told) h = absurd (none_some name (sym is ∙ h.1))
path_outside path name is error.Memory h = tt
path_outside path name is _ h = absurd h

module _ (shapes_are_read : ShapesAreRead) where
  read_outside : (files : FileMap) (path bytes : List ℕ) (s : ShapeTree) → file_at files path ≡ Some bytes → HasShape bytes s → (e : ComposerError) → IsReadRefusal files path e → IsOutside e
  read_outside files path bytes s found shaped (error.File told file.Missing) h = absurd (none_some bytes (sym found ∙ h.1))
  read_outside files path bytes s found shaped (error.File told file.Failed) h = tt
  read_outside files path bytes s found shaped (error.File told file.Memory) h = absurd h.1
  read_outside files path bytes s found shaped (error.BadComponent told e) h =
      let same = one_found (file_at files path) h.1.bytes bytes h.1.found found in
      absurd (h.1.not_for_memory (shapes_are_read e bytes s (subst (IsRefused e) same h.1.refused) shaped))
  read_outside files path bytes s found shaped error.Memory h = tt
  read_outside files path bytes s found shaped _ h = absurd h

  pub file_outside : (files : FileMap) (path name : List ℕ) (s : ShapeTree) (old new : GraphTree) → IsAdded files path name s old new → HasNumbers new → (e : ComposerError) → IsFileRefusal files path name old e → IsOutside e
  file_outside files path name s old new added numbers e (inl h) = read_outside files path added.bytes s added.found added.shaped e h
  file_outside files path name s old new added numbers e (inr h) =
      let after = subst HasNumbers added.added numbers in
      graph_never (IsAddRefusal old name) (never_added old name added.free after.components) e h.refused

  pub definition_outside : (s : Sources) (path : List ℕ) (old new : Built) → IsDefined s path old new → HasNumbers new.graph → (e : ComposerError) → IsDefinitionRefusal s path old.graph e → IsOutside e
  definition_outside s path old new defined numbers e (inl h) = path_outside path defined.name defined.stem_is e h
  definition_outside s path old new defined numbers e (inr h) =
      let same = one_found (stem path) h.name defined.name h.stem_is defined.stem_is in
      file_outside s.files (joined s.dir path) defined.name defined.shape old.graph new.graph defined.added numbers e
      (subst (λ (n : List ℕ). IsFileRefusal s.files (joined s.dir path) n old.graph e) same h.refused)

  component_outside : (s : Sources) (name : List ℕ) (old : GraphTree) (number : Option ℕ) (new : GraphTree) → IsComponentFor s name old number new → HasNumbers new → (e : ComposerError) → IsComponentRefusal s name old e → IsOutside e
  component_outside s name old number new step numbers e h = by h.refused
    where
      read : IsRead s name old (file_for s name) number new
      read = subst (λ (found : Option ComponentEntry). MatchOption found (IsRead s name old (file_for s name) number new) (λ (c : ComponentEntry). (number ≡ Some c.id) × (new ≡ old))) h.absent step

      by : IsSearchRefusal s name e ⊎ IsFoundFileRefusal s name old e → IsOutside e
      by (inl r) = search_outside s name e r
      by (inr r) =
          let added = subst (λ (file : Option (List ℕ)). IsRead s name old file number new) r.file_is read in
          file_outside s.files r.path name added.1.0 old new added.1.1 numbers e r.refused

  -- ---- instances

  pub instance_outside : OneShape → (s : Sources) (name : List ℕ) (old : Built) (number : Option ℕ) (new : Built) → IsInstanceFor s name old number new → HasNumbers new.graph → (e : ComposerError) → IsInstanceRefusal s name old e → IsOutside e
  instance_outside one_shape s name old number new step numbers e h = by h.refused
    where
      made : IsNew s name old number new
      made = subst (λ (found : Option ℕ). MatchOption found (IsNew s name old number new) (λ (id : ℕ). (number ≡ Some id) × (new ≡ old))) h.absent step

      by : IsComponentRefusal s (dependency_name s.settings name) old.graph e ⊎ IsMakeRefusal s (dependency_name s.settings name) old.graph e → IsOutside e
      by (inl r) =
          let before = (made_follows (with_graph old made.graph) name made.component number new made.made).extends.numbers numbers in
          component_outside s (dependency_name s.settings name) old.graph made.component made.graph made.found before e r
      by (inr r) =
          let same = one_component one_shape s (dependency_name s.settings name) old.graph (Some r.component, r.graph) (made.component, made.graph) r.found made.found in
          let named = subst (λ (x : Option ℕ × GraphTree). IsMade (with_graph old x.1) name x.0 number new) (sym same) made.made in
          let after = subst (λ (b : Built). HasNumbers b.graph) named.1 numbers in
          graph_never (IsInstantiateRefusal r.graph r.component)
          (never_instantiated r.graph r.component (component_for_there s (dependency_name s.settings name) old.graph r.component r.graph r.found) after.instances) e r.refused
