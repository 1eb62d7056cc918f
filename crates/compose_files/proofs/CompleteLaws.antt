-- A composition of which all is built that is to be written is refused where it is not encoded.
use Rattle.std.proofs.Common.{◌≡◌, ◌≤◌, ◌<◌, ◌^◌, ℕ, Bool, true, false, List, is_some, refl, sym, ap, ◌∙◌, subst, arith}
use Rattle.std.proofs.lemmas.Bool.{false≢true}
use Rattle.warg_values.specs.Faults.{Rose}
use Rattle.compose_complete.specs.Unwritten.{IsExported, IsUnwrittenGraph}
use Rattle.compose_config.specs.Plan.{Settings}
use Rattle.compose_encode.specs.Whole.{CanBeEncoded}
use Rattle.compose_graph.specs.Composed.{composed}
use Rattle.compose_graph.specs.Encoding.{IsComposeRefusal, export_place}
use Rattle.compose_graph.specs.Graph.{GraphTree, component_of}
use Rattle.compose_graph.specs.Kept.{IsGraph}
use Rattle.compose_graph.specs.declared.compose_error.ComposeError.{ComposeError}
use Rattle.compose_graph.specs.declared.compose_error.ComposeError.TheVariants as encoding
use Rattle.compose_graph.specs.declared.options.EncodeOptions.{EncodeOptions}
use Rattle.compose_order.specs.Needs.{LeftTree}
use Rattle.compose_files.specs.Built.{Built, Sources}
use Rattle.compose_files.specs.Composable.{IsEncodable, IsShortOfMemory}
use Rattle.compose_files.specs.Composed.{IsBuilt, options_of}
use Rattle.compose_files.specs.Graph.{IsGraphOf}
use Rattle.compose_files.specs.Refusals.{is_failure}
use Rattle.compose_files.specs.Refused.{HasNumbers, IsComplete, IsEncodeRefusal, IsEndRefusal, IsRefused}
use Rattle.compose_files.specs.declared.error.ComposerError.{ComposerError}
use Rattle.compose_files.specs.declared.error.ComposerError.TheVariants as error

pub end_calm : (s : Settings) (g : GraphTree) (e : ComposerError) → IsEndRefusal s g e → is_failure e ≡ true → ⊥
end_calm s g (error.File path e) h fails = h
end_calm s g _ h fails = cc

encode_refusal : (s : Settings) (g : GraphTree) → is_some (component_of g 1) ≡ true → (e : ComposerError) → IsEndRefusal s g e → IsEncodeRefusal s g e
encode_refusal s g several error.NoDependencies h = absurd (false≢true (sym (ap is_some h) ∙ several))
encode_refusal s g several (error.Encode e) h = (h.1, h.2)
encode_refusal s g several error.Memory h = tt
encode_refusal s g several _ h = absurd h

-- the outside has not failed where its count of faults did not rise
calm_is : (e : ComposerError) (old new : ℕ) → (is_failure e ≡ true → Rose old new) → (Rose old new → ⊥) → is_failure e ≡ false
calm_is e old new failed calm = by (is_failure e) failed
  where
    by : (b : Bool) → (b ≡ true → Rose old new) → b ≡ false
    by true failed = absurd (calm (failed refl))
    by false failed = refl

-- what has a graph is refused in the end, since that graph is built
pub end_by : ((root : List ℕ) (s : Sources) (b : Built) (e : ComposerError) → IsBuilt root s b → HasNumbers b.graph → is_failure e ≡ false → IsRefused root s e → IsEndRefusal s.settings b.graph e)
    → ((root : List ℕ) (s : Sources) (g : GraphTree) → IsGraphOf root s g → (b : Built) × IsBuilt root s b × (b.graph ≡ g))
    → (root : List ℕ) (s : Sources) (g : GraphTree) → IsComplete root s g → (e : ComposerError) → is_failure e ≡ false → IsRefused root s e → IsEndRefusal s.settings g e
end_by law found root s g complete e calm refused =
    let b = found root s g complete.is_graph in
    subst (λ h. IsEndRefusal s.settings h e) b.2 (law root s b.0 e b.1 (subst HasNumbers (sym b.2) complete.numbers) calm refused)

pub complete_refusal : ((root : List ℕ) (s : Sources) (b : Built) (e : ComposerError) → IsBuilt root s b → HasNumbers b.graph → is_failure e ≡ false → IsRefused root s e → IsEndRefusal s.settings b.graph e)
    → ((root : List ℕ) (s : Sources) (g : GraphTree) → IsGraphOf root s g → (b : Built) × IsBuilt root s b × (b.graph ≡ g))
    → (root : List ℕ) (s : Sources) (g : GraphTree) → IsComplete root s g → (e : ComposerError) (old new : ℕ) → (is_failure e ≡ true → Rose old new) → (Rose old new → ⊥) → IsRefused root s e → IsEncodeRefusal s.settings g e
complete_refusal law found root s g complete e old new failed calm refused =
    encode_refusal s.settings g complete.several e (end_by law found root s g complete e (calm_is e old new failed calm) refused)

-- ---- what can be encoded

abbrev Unwritten : Type 0
Unwritten = (g : GraphTree) (o : EncodeOptions) (order : List ℕ) (lefts : List LeftTree) (e : ComposeError) → IsGraph g → IsExported g o → o.validate ≡ false
    → CanBeEncoded (composed g) o.define_components (export_place g o) order lefts → IsComposeRefusal g o e → IsUnwrittenGraph g o order lefts e

encode_short : (g : GraphTree) (o : EncodeOptions) (can : IsEncodable g o) (e : ComposeError) → (e ≡ encoding.Memory → ⊥) → IsUnwrittenGraph g o can.order can.lefts e → ⊥
encode_short g o can (encoding.TooLarge n) other h = let below : n < 2 ^ 32 = can.small n h.among in let above : 2 ^ 32 ≤ n = h.large in omega (arith, below, above)
encode_short g o can encoding.Memory other h = other refl
encode_short g o can _ other h = h

pub end_short : Unwritten → (s : Settings) (g : GraphTree) → is_some (component_of g 1) ≡ true → IsEncodable g (options_of s) → (e : ComposerError) → IsEndRefusal s g e → IsShortOfMemory e
end_short unwritten s g several can error.NoDependencies h = absurd (false≢true (sym (ap is_some h) ∙ several))
end_short unwritten s g several can (error.Encode e) h =
    absurd (encode_short g (options_of s) can e h.2 (unwritten g (options_of s) can.order can.lefts e can.is_graph can.exported can.unread can.possible h.1))
end_short unwritten s g several can error.Memory h = tt
end_short unwritten s g several can _ h = absurd h
