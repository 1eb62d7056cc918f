-- Types that a component defines, their indices followed (Component Model, Explainer.md, "Type Definitions"). Types of
-- components and of instances are scopes of declarations.
use Rattle.std.specs.Prelude.{ℕ, suc, true, false, List, ◌∷◌, length, Option, Some, None, Result, Ok, Err, if◌then◌else◌}
use Rattle.warg_values.specs.Reading.{◌>>=◌}
use Rattle.comp_format.specs.Definitions as ty
use Rattle.comp_entity.specs.Entity.{made, Value, Resource, Func, Instance, Component, IsType}
use Rattle.comp_entity.specs.Bounds.{ShapeFault, TooDeep, Bounds, is_within}
use Rattle.comp_scope.specs.Spaces.{Spaces, Known, nothing_known, if_below, added, with_core_type, counts_sum, entries_in}
use Rattle.comp_scope.specs.Values.{value_of, func_of}
use Rattle.comp_scope.specs.CoreScopes.{core_type_of}
use Rattle.comp_scope.specs.Descriptions.{imported, declared_export}
use Rattle.comp_scope.specs.Aliases.{core_scopes, aliased}
use Rattle.comp_scope.specs.Closing.{closed}

-- the core function that destroys a resource is there
abbrev pub destroyed : Spaces → Option ℕ → Result Spaces ShapeFault
destroyed s None = Ok s
destroyed s (Some f) = if_below s.core.funcs f s

-- a resource that the scope makes. It was neither imported nor exported so far.
abbrev pub with_resource : Bounds → Spaces → Result Spaces ShapeFault
with_resource b s =
    added b (record s { made = counts_sum s.made (record { resources = 1; places = 0 }) }) (IsType (Resource (made s.made.resources))) false

-- a scope within others, where no more are open than the bound allows
abbrev pub opened_scope : {X : Type 0} → Bounds → List Spaces → Result X ShapeFault → Result X ShapeFault
opened_scope b around inner = if is_within b.scopes (suc (length around)) then inner else Err TooDeep

-- the same scope with other index spaces
abbrev pub with_spaces : Known → Spaces → Known
with_spaces k spaces = record k { spaces = spaces }

-- `around` are the scopes around, from the innermost
unfoldable mutual
  -- a type behind the others
  pub with_type : Bounds → List Spaces → Spaces → ty.TypeTree → Result Spaces ShapeFault
  with_type b around s (ty.Defined d) = value_of s d >>= λ t. added b s (IsType (Value t.0)) t.1
  with_type b around s (ty.Func f) = func_of s f >>= λ t. added b s (IsType (Func t.0)) t.1
  with_type b around s (ty.Component ds) = opened_scope b (s ∷ around) (with_decls b (s ∷ around) (nothing_known true) ds
      >>= λ inner. added b s (IsType (Component (closed inner).imports (closed inner).exports)) true)
  with_type b around s (ty.Instance ds) = opened_scope b (s ∷ around) (with_decls b (s ∷ around) (nothing_known false) ds
      >>= λ inner. added b s (IsType (Instance (entries_in inner.exports))) true)
  with_type b around s (ty.Resource destructor) = destroyed s destructor >>= with_resource b

  pub with_decls : Bounds → List Spaces → Known → ty.Decls → Result Known ShapeFault
  with_decls b around k ty.none = Ok k
  with_decls b around k (ty.more d ds) = with_decl b around k d >>= λ next. with_decls b around next ds

  pub with_decl : Bounds → List Spaces → Known → ty.DeclTree → Result Known ShapeFault
  with_decl b around k (ty.CoreTy t) =
      core_type_of b (core_scopes (k.spaces ∷ around)) t >>= λ t. Ok (with_spaces k (with_core_type k.spaces t))
  with_decl b around k (ty.Ty t) = with_type b around k.spaces t >>= λ s. Ok (with_spaces k s)
  with_decl b around k (ty.Aliased a) = aliased b around k.spaces a >>= λ s. Ok (with_spaces k s)
  with_decl b around k (ty.Import name ref) = imported b k name ref
  with_decl b around k (ty.Export name ref) = declared_export b k name ref
