-- A plan over contents that are components is wired as linking asks.
use Rattle.std.proofs.Common.{◌≡◌, ◌∙◌, sym, ap, subst, refl, ℕ, zero, suc, Bool, true, false, cond, List, [], ◌∷◌, ◌++◌, length, map, Option, Some, None}
use Rattle.std.specs.Prelude.{bytes_eq, slice_get}
use Rattle.std.specs.List.{AllByRecursion}
use Rattle.std.specs.Map.{lookup}
use Rattle.std.proofs.lemmas.Option.{same_Some, slice_get_within}
use Rattle.sha2.specs.Sha256.{sha256}
use Rattle.comp_shape.specs.Shape.{HasShape}
use Rattle.compose_config.specs.Plan.{Argument, Settings}
use Rattle.warg_names.specs.Import.{ImportTree, import_of}
use Rattle.warg_plan.specs.Keys.{Key, Parsed, is_interface}
use Rattle.warg_plan.specs.Plan.{AreFilled, EachAfter, IsEntry, IsFilled, IsPlan}
use Rattle.warg_plan.specs.Walk.{Arg, Left, OfEntry, Content, Entry, Facts, Open, To, content_in, given, wire_by}
use Rattle.warg_compose.specs.Wired.{AreOfComponents, AreWired, IsGiven, IsWired}

-- ---- arguments

given_by : (before : List Entry) (name : List ℕ) (i : ImportTree) → import_of name ≡ Some i → (o : Option Argument) (x : Arg) → IsFilled before (wire_by i o) x → IsGiven (length before) name x
given_by before name i reads (Some a) Left filled = absurd filled
given_by before name i reads (Some a) (OfEntry n) filled = slice_get_within before n filled.0 filled.1
given_by before name i reads None x filled = by (is_interface i.kind) refl x filled
  where
    by : (b : Bool) → is_interface i.kind ≡ b → (x : Arg) → IsFilled before (cond b Open (To (Parsed i))) x → IsGiven (length before) name x
    by true is Left filled = (i, reads, is)
    by true is (OfEntry n) filled = absurd filled
    by false is Left filled = absurd filled
    by false is (OfEntry n) filled = slice_get_within before n filled.0 filled.1

record AreGiven (before : List Entry) (names : List (List ℕ)) (args : List (List ℕ × Arg)) : Type 0 where
  in_order : map (λ a. a.0) args ≡ names
  given : AllByRecursion (λ a. IsGiven (length before) a.0 a.1) args

are_given : (before : List Entry) (texts : List (List ℕ × Argument)) (names : List (List ℕ)) (args : List (List ℕ × Arg)) → AreFilled before texts names args → AreGiven before names args
unfolding AreFilled
are_given before texts [] [] filled = record { in_order = refl; given = tt }
are_given before texts [] (a ∷ args) filled = absurd filled
are_given before texts (name ∷ names) [] filled = absurd filled
are_given before texts (name ∷ names) (a ∷ args) filled =
    let rest = are_given before texts names args filled.2 in
    let one = given_by before name filled.1.0 filled.1.1 (lookup (λ k. bytes_eq name k) texts) a.1 filled.1.2 in
    record { in_order = λ i. filled.0 i ∷ rest.in_order i; given = (subst (λ n. IsGiven (length before) n a.1) (sym filled.0) one, rest.given) }

-- ---- entries

-- a content of an entry that is known
record IsKnownContent (f : Facts) (e : Entry) : Type 0 where
  content : Content
  known : content_in f e.digest ≡ Some content
  bytes : e.content ≡ content.bytes

module _ (s : Settings) (f : Facts) (all : AreOfComponents f) where
  wired_one : (before : List Entry) (e : Entry) → IsEntry s f before e → IsWired before e
  wired_one before e is =
      let component = all.components e.digest is.made_of is.known in
      let args = are_given before (given s e.key) is.made_of.imports e.arguments is.filled in
      record {
        tree = component.tree;
        has_shape = subst (λ bs. HasShape bs component.tree) (sym is.bytes) component.has_shape;
        in_order = args.in_order ∙ component.imports;
        given = args.given;
      }

  wired_each : (before es : List Entry) → EachAfter (IsEntry s f) before es → EachAfter IsWired before es
  unfolding EachAfter
  wired_each before [] each = tt
  wired_each before (e ∷ es) each = (wired_one before e each.0, wired_each (before ++ e ∷ []) es each.1)

  known_each : (before es : List Entry) → EachAfter (IsEntry s f) before es → AllByRecursion (IsKnownContent f) es
  unfolding EachAfter
  known_each before [] each = tt
  known_each before (e ∷ es) each = (record { content = each.0.made_of; known = each.0.known; bytes = each.0.bytes }, known_each (before ++ e ∷ []) es each.1)

  digests : (es : List Entry) → AllByRecursion (IsKnownContent f) es → AllByRecursion (λ e. sha256 e.content ≡ e.digest) es
  digests [] known = tt
  digests (e ∷ es) known = (ap sha256 known.0.bytes ∙ all.digests e.digest known.0.content known.0.known, digests es known.1)

  at_place : (es : List Entry) → AllByRecursion (IsKnownContent f) es → (i : ℕ) (e : Entry) → slice_get es i ≡ Some e → IsKnownContent f e
  at_place [] known i e at = absurd cc
  at_place (x ∷ es) known zero e at = subst (IsKnownContent f) (same_Some x e at) known.0
  at_place (x ∷ es) known (suc i) e at = at_place es known.1 i e at

  one_content : (a b : Entry) → IsKnownContent f a → IsKnownContent f b → a.digest ≡ b.digest → a.content ≡ b.content
  one_content a b of_a of_b same =
      of_a.bytes ∙ ap (λ (c : Content). c.bytes) (same_Some of_a.content of_b.content (sym of_a.known ∙ ap (content_in f) same ∙ of_b.known)) ∙ sym of_b.bytes

  pub is_wired : (root : Key) (es : List Entry) → IsPlan s f root es → AreWired es
  is_wired root es plan =
      let known = known_each [] es plan.each in
      record {
        each = wired_each [] es plan.each;
        digests = digests es known;
        contents = λ i j a b at_a at_b same. one_content a b (at_place es known i a at_a) (at_place es known j b at_b) same;
      }
