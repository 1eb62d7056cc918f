-- What is written is formed so: no type of instances has imports, and none makes a resource (Component Model, Binary.md,
-- "Type Definitions").
use Rattle.std.proofs.Common.{◌≡◌, ℕ, Bool, true, false, List, [], ◌∷◌, map, sym, subst}
use Rattle.comp_format.specs.Definitions as ty
use Rattle.comp_format.specs.Definitions.{DefForm, DeclForm, DeclsForm, is_resource}
use Rattle.comp_format.specs.Items.{ItemTree, CoreMade, CoreTy, Instance, Aliased, Ty, Canonical, Import, Export}
use Rattle.comp_format.specs.Sections.{Section, Named, CoreModules, CoreInstances, CoreTypes, Nested, Instances, Aliases, Types, Canons, Imports, Exports, Sections, none, more, ContentForm, SectionsForm}
use Rattle.comp_format.specs.Vectors.{Many}
use Rattle.comp_scope.specs.Shape.{Part, Plain, Inner, Parts, nothing, then_part, in_front_of, parts_of_section, parts_in, HasParts}

abbrev mutual
  pub TypeFormed : ty.TypeTree → Type 0
  TypeFormed (ty.Defined d) = Unit {0}
  TypeFormed (ty.Func f) = Unit {0}
  TypeFormed (ty.Component ds) = DeclsFormed true ds
  TypeFormed (ty.Instance ds) = DeclsFormed false ds
  TypeFormed (ty.Resource destructor) = Unit {0}

  pub DeclFormed : Bool → ty.DeclTree → Type 0
  DeclFormed imports (ty.CoreTy t) = Unit {0}
  DeclFormed imports (ty.Ty t) = (is_resource t ≡ false) × TypeFormed t
  DeclFormed imports (ty.Aliased a) = Unit {0}
  DeclFormed imports (ty.Import name ref) = imports ≡ true
  DeclFormed imports (ty.Export name ref) = Unit {0}

  pub DeclsFormed : Bool → ty.Decls → Type 0
  DeclsFormed imports ty.none = Unit {0}
  DeclsFormed imports (ty.more d ds) = DeclFormed imports d × DeclsFormed imports ds

abbrev pub ItemFormed : ItemTree → Type 0
ItemFormed (Ty t) = TypeFormed t
ItemFormed _ = Unit {0}

abbrev mutual
  pub PartFormed : Part → Type 0
  PartFormed (Plain item) = ItemFormed item
  PartFormed (Inner bytes parts) = PartsFormed parts

  pub PartsFormed : Parts → Type 0
  PartsFormed nothing = Unit {0}
  PartsFormed (then_part p ps) = PartFormed p × PartsFormed ps

mutual
  type_formed : (t : ty.TypeTree) (bytes rest : List ℕ) → DefForm t bytes rest → TypeFormed t
  type_formed (ty.Defined d) bytes rest form = tt
  type_formed (ty.Func f) bytes rest form = tt
  type_formed (ty.Component ds) bytes rest form = decls_formed true ds form.2.0 rest form.2.2
  type_formed (ty.Instance ds) bytes rest form = decls_formed false ds form.2.0 rest form.2.2
  type_formed (ty.Resource destructor) bytes rest form = tt

  decl_formed : (imports : Bool) (d : ty.DeclTree) (bytes rest : List ℕ) → DeclForm imports d bytes rest
      → DeclFormed imports d
  decl_formed imports (ty.CoreTy t) bytes rest form = tt
  decl_formed imports (ty.Ty t) bytes rest form = (form.0, type_formed t form.1.0 rest form.1.2)
  decl_formed imports (ty.Aliased a) bytes rest form = tt
  decl_formed imports (ty.Import name ref) bytes rest form = form.0
  decl_formed imports (ty.Export name ref) bytes rest form = tt

  decls_formed : (imports : Bool) (ds : ty.Decls) (bytes rest : List ℕ) → DeclsForm imports ds bytes rest
      → DeclsFormed imports ds
  decls_formed imports ty.none bytes rest form = tt
  decls_formed imports (ty.more d ds) bytes rest form =
      (decl_formed imports d bytes form.0 form.1, decls_formed imports ds form.0 rest form.2)

-- items of one kind in front of others
module _ {X : Type 0} (kind : X → ItemTree) (is : (x : X) → ItemFormed (kind x)) where
  plain_formed : (xs : List X) (ps : Parts) → PartsFormed ps → PartsFormed (in_front_of (map kind xs) ps)
  plain_formed [] ps h = h
  plain_formed (x ∷ xs) ps h = (is x, plain_formed xs ps h)

types_formed : (ts : List ty.TypeTree) (bytes rest : List ℕ) (ps : Parts) → Many DefForm ts bytes rest → PartsFormed ps
    → PartsFormed (in_front_of (map Ty ts) ps)
types_formed [] bytes rest ps form h = h
types_formed (t ∷ ts) bytes rest ps form h =
    (type_formed t bytes form.0 form.1, types_formed ts form.0 rest ps form.2 h)

mutual
  section_formed : (s : Section) (content : List ℕ) (ps : Parts) → ContentForm s content → PartsFormed ps
      → PartsFormed (parts_of_section s ps)
  section_formed (Named name bytes) content ps form h = (tt, h)
  section_formed (CoreModules bytes) content ps form h = (tt, h)
  section_formed (CoreInstances xs) content ps form h = plain_formed CoreMade (λ x. tt) xs ps h
  section_formed (CoreTypes xs) content ps form h = plain_formed CoreTy (λ x. tt) xs ps h
  section_formed (Nested bytes inner) content ps form h = (sections_formed inner form.1.0 form.1.2, h)
  section_formed (Instances xs) content ps form h = plain_formed Instance (λ x. tt) xs ps h
  section_formed (Aliases xs) content ps form h = plain_formed Aliased (λ x. tt) xs ps h
  section_formed (Types xs) content ps form h = types_formed xs form.0 [] ps form.2 h
  section_formed (Canons xs) content ps form h = plain_formed Canonical (λ x. tt) xs ps h
  section_formed (Imports xs) content ps form h = plain_formed Import (λ x. tt) xs ps h
  section_formed (Exports xs) content ps form h = plain_formed Export (λ x. tt) xs ps h

  sections_formed : (ss : Sections) (bytes : List ℕ) → SectionsForm ss bytes → PartsFormed (parts_in ss)
  sections_formed none bytes form = tt
  sections_formed (more s ss) bytes form =
      section_formed s form.0 (parts_in ss) form.3 (sections_formed ss form.1 form.4)

pub parts_formed : (bytes : List ℕ) (parts : Parts) → HasParts bytes parts → PartsFormed parts
parts_formed bytes parts has = subst PartsFormed (sym has.1) (sections_formed has.0 has.2.0 has.2.2)
