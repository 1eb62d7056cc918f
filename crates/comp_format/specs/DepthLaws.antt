-- What is read where so many scopes may be open at one place is read so where more may be, and so is each fault but
-- that too many are open.
use Rattle.std.proofs.Common.{◌≡◌, ℕ, zero, suc, ◌+◌, ◌≤◌, Bool, true, false, cond, eqb, List, [], ◌∷◌, length, drop, Result, Ok, Err, refl, sym, ap, subst, arith, inl, inr}
use Rattle.std.specs.Prelude.{◌⊎◌, nat_eq}
use Rattle.std.specs.List.{starts_with}
use Rattle.std.proofs.lemmas.Bool.{cases_lt}
use Rattle.warg_values.specs.Reading.{◌>>=◌}
use Rattle.comp_format.specs.Fault.{Fault, TooDeep}
use Rattle.comp_format.specs.Vectors.{ReaderOf, many_at, vector_at, byte_at}
use Rattle.comp_format.specs.CoreTypes.{CoreTree, CoreForm, ModuleDeclTree, module_decl_at, module_at, core_with, core_at}
use Rattle.comp_format.specs.Definitions.{TypeTree, DeclTree, DefForm, decl_at, inner_type_at, type_with, definition_at}
use Rattle.comp_format.specs.Sections.{Section, Sections, ComponentForm, whole_at, behind_at, headed_at, section_at, content_with, sections_at, component_at, header}
use Rattle.comp_format.specs.CoreTypeLaws.{core_again, core_scopes}
use Rattle.comp_format.specs.DefinitionLaws.{definition_again, type_scopes}
use Rattle.comp_format.specs.SectionLaws.{component_again, sections_scopes}

module _ {X : Type 0} where
  -- where the first reading is not too deep, the second is the same
  abbrev pub Below : Result X Fault → Result X Fault → Type 0
  Below r s = (r ≡ Err TooDeep) ⊎ (r ≡ s)

  below_again : (r s t : Result X Fault) → Below r s → Below s t → Below r t
  below_again r s t (inl deep) next = inl deep
  below_again r s t (inr same) next = subst (λ (q : Result X Fault). Below q t) (sym same) next

  if_below : (b : Bool) (x y z w : Result X Fault) → Below x z → Below y w → Below (cond b x y) (cond b z w)
  if_below true x y z w h k = h
  if_below false x y z w h k = k

bind_below : {X Y : Type 0} (r s : Result X Fault) (f g : X → Result Y Fault) → Below r s → ((x : X) → Below (f x) (g x)) → Below (r >>= f) (s >>= g)
bind_below (Ok x) s f g (inl deep) next = absurd cc
bind_below (Ok x) s f g (inr same) next = subst (λ (q : Result _ Fault). Below (f x) (q >>= g)) same (next x)
bind_below (Err fault) s f g (inl deep) next = inl (ap (λ (q : Result _ Fault). q >>= f) deep)
bind_below (Err fault) s f g (inr same) next = inr (ap (λ (q : Result _ Fault). q >>= g) same)

-- the same reading goes on with more
then_below : {X Y : Type 0} (r : Result X Fault) (f g : X → Result Y Fault) → ((x : X) → Below (f x) (g x)) → Below (r >>= f) (r >>= g)
then_below r f g next = bind_below r r f g (inr refl) next

-- what a reading is followed by is the same
pub first_below : {X Y : Type 0} (r s : Result X Fault) (f : X → Result Y Fault) → Below r s → Below (r >>= f) (s >>= f)
first_below r s f h = bind_below r s f f h (λ x. inr refl)

-- one reader reads no more than another, and both alike but for depth
abbrev pub AtMost : {X : Type 0} → (List ℕ → Result X Fault) → (List ℕ → Result X Fault) → Type 0
AtMost one more = (bytes : List ℕ) → Below (one bytes) (more bytes)

module _ {X : Type 0} (one more : ReaderOf X) (below : AtMost one more) where
  many_below : (count : ℕ) → AtMost (many_at one count) (many_at more count)
  unfolding many_at
  many_below zero bytes = inr refl
  many_below (suc count) bytes =
      bind_below (one bytes) (more bytes) _ _ (below bytes) (λ x. first_below (many_at one count x.1) (many_at more count x.1) _ (many_below count x.1))

  vector_below : AtMost (vector_at one) (vector_at more)
  unfolding vector_at
  vector_below bytes = then_below _ _ _ (λ count. many_below count.0 count.1)

  whole_below : AtMost (whole_at one) (whole_at more)
  unfolding whole_at
  whole_below bytes = first_below (vector_at one bytes) (vector_at more bytes) _ (vector_below bytes)

-- ---- core types

module_decl_below : (one more : ReaderOf CoreTree) → AtMost one more → AtMost (module_decl_at one) (module_decl_at more)
unfolding module_decl_at
module_decl_below one more below bytes = then_below (byte_at bytes) _ _ (λ b.
    if_below (eqb b.0 0) _ _ _ _ (inr refl) (
    if_below (eqb b.0 1) _ _ _ _ (first_below (one b.1) (more b.1) _ (below b.1)) (inr refl)))

core_with_below : (one more : ReaderOf (List ModuleDeclTree)) → AtMost one more → AtMost (core_with one) (core_with more)
unfolding core_with module_at
core_with_below one more below bytes = then_below (byte_at bytes) _ _ (λ b.
    if_below (eqb b.0 0x60) _ _ _ _ (inr refl) (
    if_below (eqb b.0 0x50) _ _ _ _ (first_below (one b.1) (more b.1) _ (below b.1)) (inr refl)))

core_below : (scopes : ℕ) → AtMost (core_at scopes) (core_at (suc scopes))
unfolding core_at
core_below zero = core_with_below (λ bytes. Err TooDeep) (vector_at (module_decl_at (core_at zero))) (λ bytes. inl refl)
core_below (suc scopes) =
    core_with_below (vector_at (module_decl_at (core_at scopes))) (vector_at (module_decl_at (core_at (suc scopes))))
    (vector_below (module_decl_at (core_at scopes)) (module_decl_at (core_at (suc scopes))) (module_decl_below (core_at scopes) (core_at (suc scopes)) (core_below scopes)))

-- ---- types

decl_below : (imports : Bool) (core core' : ReaderOf CoreTree) (one more : ReaderOf TypeTree) → AtMost core core' → AtMost one more → AtMost (decl_at imports core one) (decl_at imports core' more)
unfolding decl_at inner_type_at
decl_below imports core core' one more core_is below bytes = then_below (byte_at bytes) _ _ (λ b.
    if_below (eqb b.0 0) _ _ _ _ (first_below (core b.1) (core' b.1) _ (core_is b.1)) (
    if_below (eqb b.0 1) _ _ _ _ (first_below (one b.1) (more b.1) _ (below b.1)) (inr refl)))

type_with_below : (one more : Bool → ReaderOf (List DeclTree)) → ((imports : Bool) → AtMost (one imports) (more imports)) → AtMost (type_with one) (type_with more)
unfolding type_with
type_with_below one more below bytes = then_below (byte_at bytes) _ _ (λ b.
    if_below (eqb b.0 0x40) _ _ _ _ (inr refl) (
    if_below (eqb b.0 0x41) _ _ _ _ (first_below (one true b.1) (more true b.1) _ (below true b.1)) (
    if_below (eqb b.0 0x42) _ _ _ _ (first_below (one false b.1) (more false b.1) _ (below false b.1)) (inr refl))))

definition_below : (scopes : ℕ) → AtMost (definition_at scopes) (definition_at (suc scopes))
unfolding definition_at
definition_below zero = type_with_below (λ imports bytes. Err TooDeep) (λ imports. vector_at (decl_at imports (core_at zero) (definition_at zero))) (λ imports bytes. inl refl)
definition_below (suc scopes) =
    type_with_below (λ imports. vector_at (decl_at imports (core_at scopes) (definition_at scopes))) (λ imports. vector_at (decl_at imports (core_at (suc scopes)) (definition_at (suc scopes))))
    (λ imports. vector_below (decl_at imports (core_at scopes) (definition_at scopes)) (decl_at imports (core_at (suc scopes)) (definition_at (suc scopes)))
    (decl_below imports (core_at scopes) (core_at (suc scopes)) (definition_at scopes) (definition_at (suc scopes)) (core_below scopes) (definition_below scopes)))

-- ---- sections

content_below : (component component' : List ℕ → Result Sections Fault) (ty ty' : ReaderOf TypeTree) (core core' : ReaderOf CoreTree) → AtMost component component' → AtMost ty ty' → AtMost core core'
    → (id : ℕ) → AtMost (content_with component ty core id) (content_with component' ty' core' id)
unfolding content_with
content_below component component' ty ty' core core' component_is ty_is core_is id content =
    if_below (eqb id 0) _ _ _ _ (inr refl) (
    if_below (eqb id 1) _ _ _ _ (inr refl) (
    if_below (eqb id 2) _ _ _ _ (inr refl) (
    if_below (eqb id 3) _ _ _ _ (first_below (whole_at core content) (whole_at core' content) _ (whole_below core core' core_is content)) (
    if_below (eqb id 4) _ _ _ _ (first_below (component content) (component' content) _ (component_is content)) (
    if_below (eqb id 5) _ _ _ _ (inr refl) (
    if_below (eqb id 6) _ _ _ _ (inr refl) (
    if_below (eqb id 7) _ _ _ _ (first_below (whole_at ty content) (whole_at ty' content) _ (whole_below ty ty' ty_is content)) (inr refl))))))))

sections_below : (one more : ℕ → List ℕ → Result Section Fault) → ((id : ℕ) → AtMost (one id) (more id)) → (most : ℕ) → AtMost (sections_at one most) (sections_at more most)
unfolding sections_at
sections_below one more below most [] = inr refl
sections_below one more below zero (b ∷ bytes) = inr refl
sections_below one more below (suc most) (b ∷ bytes) = then_below (section_at (b ∷ bytes)) _ _ (λ f.
    bind_below (one f.0.0 f.0.1) (more f.0.0 f.0.1) _ _ (below f.0.0 f.0.1) (λ s. first_below (sections_at one most f.1) (sections_at more most f.1) _ (sections_below one more below most f.1)))

component_below : (scopes : ℕ) → AtMost (component_at scopes) (component_at (suc scopes))
unfolding component_at headed_at behind_at
component_below zero bytes = inl refl
component_below (suc scopes) bytes =
    let one = content_with (component_at scopes) (definition_at scopes) (core_at scopes) in
    let more = content_with (component_at (suc scopes)) (definition_at (suc scopes)) (core_at (suc scopes)) in
    let content = content_below (component_at scopes) (component_at (suc scopes)) (definition_at scopes) (definition_at (suc scopes)) (core_at scopes) (core_at (suc scopes)) (component_below scopes) (definition_below scopes) (core_below scopes) in
    let after : List ℕ = drop 8 bytes in
    if_below (starts_with nat_eq bytes header) _ _ _ _ (sections_below one more content (length after) after) (inr refl)

module _ {X : Type 0} (read : ℕ → List ℕ → Result X Fault) (below : (scopes : ℕ) → AtMost (read scopes) (read (suc scopes))) where
  -- the more scopes may be open, the more is read, and nothing otherwise
  more_scopes : (scopes more : ℕ) → scopes ≤ more → AtMost (read scopes) (read more)
  more_scopes scopes zero le bytes = inr (ap (λ (n : ℕ). read n bytes) (omega (arith, le)))
  more_scopes scopes (suc more) le bytes =
      elim (cases_lt more scopes) [
        | inl above ↦ inr (ap (λ (n : ℕ). read n bytes) (omega (arith, le, above)))
        | inr within ↦ below_again (read scopes bytes) (read more bytes) (read (suc more) bytes) (more_scopes scopes more within bytes) (below more bytes)
      ]

  -- what is read where some scopes more may be open is read, or too deep to be
  read_or_deep : (scopes needed : ℕ) (bytes : List ℕ) (x : X) → read (scopes + needed) bytes ≡ Ok x → Below (read scopes bytes) (Ok x)
  read_or_deep scopes needed bytes x e = subst (λ (r : Result X Fault). Below (read scopes bytes) r) e (more_scopes scopes (scopes + needed) (omega arith) bytes)

pub component_at_most : (scopes more : ℕ) → scopes ≤ more → AtMost (component_at scopes) (component_at more)
component_at_most = more_scopes component_at component_below

-- core types, types and components are read, or too deep to be
pub core_or_deep : (t : CoreTree) (scopes : ℕ) (bytes rest : List ℕ) → CoreForm t bytes rest → Below (core_at scopes bytes) (Ok (t, rest))
core_or_deep t scopes bytes rest h =
    read_or_deep core_at core_below scopes (core_scopes t) bytes (t, rest) (core_again t (scopes + core_scopes t) bytes rest (omega arith) h)

pub definition_or_deep : (t : TypeTree) (scopes : ℕ) (bytes rest : List ℕ) → DefForm t bytes rest → Below (definition_at scopes bytes) (Ok (t, rest))
definition_or_deep t scopes bytes rest h =
    read_or_deep definition_at definition_below scopes (type_scopes t) bytes (t, rest) (definition_again t (scopes + type_scopes t) bytes rest (omega arith) h)

pub component_within : (ss : Sections) (scopes : ℕ) (bytes : List ℕ) → ComponentForm ss bytes → (component_at scopes bytes ≡ Err TooDeep) ⊎ (component_at scopes bytes ≡ Ok ss)
component_within ss scopes bytes h =
    read_or_deep component_at component_below scopes (suc (sections_scopes ss)) bytes ss (component_again ss (scopes + suc (sections_scopes ss)) bytes (omega arith) h)
