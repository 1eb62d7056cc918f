-- Laws of the shape of a component's parts.
use Rattle.std.proofs.Common.{◌≡◌, ◌∙◌, [], true, List, Result, Ok, ap}
use Rattle.warg_values.specs.Reading.{◌>>=◌}
use Rattle.comp_define.specs.ScopeTypes.{ShowsEntity}
use Rattle.comp_entity.specs.Bounds.{ShapeFault, bounded}
use Rattle.comp_entity.specs.Entity.{ShapeTree}
use Rattle.comp_parts.proofs.ShapeLaws.{read_lies}
use Rattle.comp_parts.specs.declared.error.ShapeError.{ShapeError}
use Rattle.comp_parts.specs.declared.error.ShapeError.TheVariants as errors
use Rattle.comp_parts.specs.Parts.{TellsFault, component_of}
use Rattle.comp_parts.specs.Sides.{LieAt}
use Rattle.comp_scope.specs.Closing.{closed}
use Rattle.comp_scope.specs.Shape.{Parts, after_parts, as_shape, shape_within}
use Rattle.comp_scope.specs.Spaces.{Known, nothing_known}
use Rattle.comp_space.specs.StandingLaws.{fails_bind}
use Rattle.comp_table.specs.Trees.{PlainTree}
use Prim.Native.Nat.{ℕ}

-- what was read can lie in memory
pub lies_at : (table : List PlainTree) (number : ℕ) (parts : Parts) (k : Known) → after_parts bounded [] (nothing_known true) parts ≡ Ok k → ShowsEntity table number (component_of k) → LieAt table number (closed k)
lies_at table number parts k e stands =
    let lie = read_lies bounded parts k e in
    record { stands = stands; imports_have_fields = lie.0.0; exports_have_fields = lie.1.0; shown = (lie.0.1, lie.1.1) }

-- a fault of the parts is one of the shape
tells_bind : {A B : Type 0} (e : ShapeError) (given : Result A ShapeFault) (next : A → Result B ShapeFault) → TellsFault e given → TellsFault e (given >>= next)
tells_bind (errors.Item p) given next h = fails_bind given next p.error h
tells_bind errors.TooBig given next h = ap (λ r. r >>= next) h
tells_bind errors.Memory given next h = tt

pub no_shape : (e : ShapeError) (parts : Parts) → TellsFault e (after_parts bounded [] (nothing_known true) parts) → TellsFault e (shape_within bounded parts)
unfolding shape_within
no_shape e parts h = tells_bind e (after_parts bounded [] (nothing_known true) parts) (λ k. as_shape bounded (closed k)) h

-- the shape is that of the closed scope
pub shape_then : (parts : Parts) (k : Known) (r : Result ShapeTree ShapeFault) → after_parts bounded [] (nothing_known true) parts ≡ Ok k → as_shape bounded (closed k) ≡ r → shape_within bounded parts ≡ r
unfolding shape_within
shape_then parts k r e is = ap (λ given. given >>= λ known. as_shape bounded (closed known)) e ∙ is
