-- What is written for functions, and for value types that get a name, stands for them.
use Rattle.std.proofs.Common.{◌≡◌, ℕ, Bool, ◌&&◌, List, [], ◌∷◌, map, Option, Some, None, Ok, Err, refl, ap, subst}
use Rattle.std.specs.Prelude.{option_map, Result}
use Rattle.std.proofs.lemmas.Option.{option_and_then_some, same_Some}
use Rattle.warg_values.specs.Reading.{◌>>=◌}
use Rattle.comp_format.specs.declared.types.ValType.{ValType}
use Rattle.comp_format.specs.Definitions as tree
use Rattle.comp_format.specs.Definitions.{TypeTree}
use Rattle.comp_entity.specs.Entity.{ValueTree, FuncTree, Value, Func, IsType}
use Rattle.comp_entity.specs.Names.{func_by, without_places}
use Rattle.comp_entity.specs.Fits.{place_of}
use Rattle.comp_entity.specs.Bounds.{ShapeFault}
use Rattle.comp_scope.specs.Spaces.{Spaces, Known, added}
use Rattle.comp_scope.specs.Values.{part_of, params_of, result_of, func_of}
use Rattle.comp_scope.specs.Types.{with_decls}
use Rattle.compose_writing.specs.Scopes.{WrittenScope}
use Rattle.compose_writing.specs.WriteValues.{write_value, write_params, write_result, write_func, write_own}
use Rattle.compose_meaning.specs.Meaning.{Meaning, placed_value, placed_func, meant, own_bit, params_bit, result_bit, func_bit, OneTree, OneTreeParams, OneTreeResult, OneTreeFunc}
use Rattle.compose_meaning.specs.Stands.{Grown, AllGrown, spaces_of, Kept}
use Rattle.compose_meaning.proofs.SpaceLaws.{at_once, then_went, OnTop, on_top_then, on_top_both, TypeAt, Adds, added_type}
use Rattle.compose_meaning.proofs.ValueLaws.{Read, plain_value, part_grown, Ready, Written, PartIs, turned, behind, value_reads, defined_reads, then_defined_reads}

abbrev plain_params : List (List ℕ × ValueTree) → List (List ℕ × ValueTree)
plain_params ps = map (λ p. (p.0, plain_value p.1)) ps

abbrev plain_result : Option ValueTree → Option ValueTree
plain_result r = option_map plain_value r

abbrev pub plain_func : FuncTree → FuncTree
plain_func f = func_by without_places 0 f

params_grown : (s t : Spaces) → Grown s t → (ps : List (List ℕ × ValType)) (x : List (List ℕ × ValueTree) × Bool) → params_of s ps ≡ Ok x → params_of t ps ≡ Ok x
unfolding params_of
params_grown s t g [] x h = h
params_grown s t g (p ∷ ps) x h = one (λ y. params_grown s t g ps y) (part_of s p.1) refl h
  where
    two : ((y : List (List ℕ × ValueTree) × Bool) → params_of s ps ≡ Ok y → params_of t ps ≡ Ok y) → (v : ValueTree × Bool) → (r : Result (List (List ℕ × ValueTree) × Bool) ShapeFault) → params_of s ps ≡ r
        → (r >>= λ vs. Ok ((p.0, v.0) ∷ vs.0, v.1 && vs.1)) ≡ Ok x → (params_of t ps >>= λ vs. Ok ((p.0, v.0) ∷ vs.0, v.1 && vs.1)) ≡ Ok x
    two rest v (Err f) is h = absurd cc
    two rest v (Ok y) is h = rw (rest y is) h

    one : ((y : List (List ℕ × ValueTree) × Bool) → params_of s ps ≡ Ok y → params_of t ps ≡ Ok y) → (r : Result (ValueTree × Bool) ShapeFault) → part_of s p.1 ≡ r
        → (r >>= λ v. params_of s ps >>= λ vs. Ok ((p.0, v.0) ∷ vs.0, v.1 && vs.1)) ≡ Ok x → (part_of t p.1 >>= λ v. params_of t ps >>= λ vs. Ok ((p.0, v.0) ∷ vs.0, v.1 && vs.1)) ≡ Ok x
    one rest (Err f) is h = absurd cc
    one rest (Ok v) is h = rw (part_grown s t g p.1 v is) (two rest v (params_of s ps) refl h)

module _ (mean : Meaning) where
  unfoldable ParamsAre : List (List ℕ × ValType) → List (List ℕ × ValueTree) → List Known → Type 0
  ParamsAre vs ps = OnTop (λ s. Read plain_params (params_of s vs) (map (λ p. (p.0, placed_value mean p.1)) ps) (params_bit mean.bit ps))

  unfoldable ResultIs : Option ValType → Option ValueTree → List Known → Type 0
  ResultIs v r = OnTop (λ s. Read plain_result (result_of s v) (option_map (placed_value mean) r) (result_bit mean.bit r))

  unfoldable FuncIs : TypeTree → FuncTree → List Known → Type 0
  FuncIs (tree.Func t) f = OnTop (λ s. Read plain_func (func_of s t) (placed_func mean f) (func_bit mean.bit f))
  FuncIs _ f = λ ks. ⊥

  no_params : (ks : List Known) → OnTop (λ s. Unit {0}) ks → ParamsAre [] [] ks
  unfolding ParamsAre params_of params_bit
  no_params ks h = on_top_then _ _ (λ s u. ([], refl, refl)) ks h

  params_more : (v : ValType) (vs : List (List ℕ × ValType)) (p : List ℕ × ValueTree) (ps : List (List ℕ × ValueTree)) (ks ls : List Known) → AllGrown (spaces_of ks) (spaces_of ls) → PartIs mean v p.1 ks → ParamsAre vs ps ls
      → ParamsAre ((p.0, v) ∷ vs) (p ∷ ps) ls
  unfolding PartIs ParamsAre params_of params_bit
  params_more v vs p ps ks ls g a b = on_top_both _ _ _ (λ s u grown a b. ((p.0, a.0) ∷ b.0, rw (part_grown s u grown v _ a.1, b.1) refl, (λ i. (p.0, a.2 i) ∷ b.2 i))) ks ls g a b

  params_read : (ps : List (List ℕ × ValueTree)) (ms : List WrittenScope) (ks : List Known) (x : List WrittenScope × List (List ℕ × ValType)) → Kept 0 (meant mean) ms ks → Ready mean ms ks → OneTreeParams mean ps → write_params ps ms ≡ Some x
      → Written mean ks ms x.0 (ParamsAre x.1 ps)
  unfolding write_params
  params_read [] ms ks x k r one h = subst (λ (x : List WrittenScope × List (List ℕ × ValType)). Written mean ks ms x.0 (ParamsAre x.1 [])) (same_Some _ _ h) (at_once 0 (meant mean) ks ms _ k (no_params ks r.is_open))
  params_read (p ∷ ps) ms ks x k r one h = behind mean (λ v vs. (p.0, v) ∷ vs) (write_value p.1 ms) (write_params ps) (λ v. PartIs mean v p.1) (λ vs. ParamsAre vs ps) (λ vs. ParamsAre vs (p ∷ ps)) ms ks x r
      (λ y a. value_reads mean p.1 ms ks y k r one.0 a) (λ next ls z k r a. params_read ps next ls z k r one.1 a) (λ v vs ls us. params_more v vs p ps ls us) h

  no_result : (ks : List Known) → OnTop (λ s. Unit {0}) ks → ResultIs None None ks
  unfolding ResultIs result_of
  no_result ks h = on_top_then _ _ (λ s u. (None, refl, refl)) ks h

  some_result : (v : ValType) (t : ValueTree) (ks : List Known) → PartIs mean v t ks → ResultIs (Some v) (Some t) ks
  unfolding PartIs ResultIs result_of
  some_result v t ks h = on_top_then _ _ (λ s a. (Some a.0, rw a.1 refl, ap Some a.2)) ks h

  result_reads : (r : Option ValueTree) (ms : List WrittenScope) (ks : List Known) (x : List WrittenScope × Option ValType) → Kept 0 (meant mean) ms ks → Ready mean ms ks → OneTreeResult mean r → write_result r ms ≡ Some x
      → Written mean ks ms x.0 (ResultIs x.1 r)
  unfolding write_result
  result_reads None ms ks x k r one h = subst (λ (x : List WrittenScope × Option ValType). Written mean ks ms x.0 (ResultIs x.1 None)) (same_Some _ _ h) (at_once 0 (meant mean) ks ms _ k (no_result ks r.is_open))
  result_reads (Some t) ms ks x k r one h = turned mean Some (write_value t ms) (λ v. PartIs mean v t) (λ v. ResultIs v (Some t)) ms ks x (λ y a. value_reads mean t ms ks y k r one a) (λ v ls. some_result v t ls) h

  func_is : (f : FuncTree) (vs : List (List ℕ × ValType)) (v : Option ValType) (ks ls : List Known) → AllGrown (spaces_of ks) (spaces_of ls) → ParamsAre vs f.params ks → ResultIs v f.result ls
      → FuncIs (tree.Func (record { params = vs; result = v })) f ls
  unfolding ParamsAre ResultIs FuncIs func_of
  func_is f vs v ks ls g a b = on_top_both _ _ _ (λ s u grown a b. (record { params = a.0; result = b.0 }, rw (params_grown s u grown vs _ a.1, b.1) refl, (λ i. record { params = a.2 i; result = b.2 i }))) ks ls g a b

  func_adds : (t : TypeTree) (f : FuncTree) (ks : List Known) → FuncIs t f ks → (what : FuncTree) × (plain_func what ≡ placed_func mean f) × Adds (tree.Ty t) (IsType (Func what), func_bit mean.bit f) ks
  unfolding OnTop FuncIs Adds with_decls added
  func_adds (tree.Func t) f [] h = elim h [ ]
  func_adds (tree.Func t) f (k ∷ ks) h = (h.0, h.2, (λ outer g. rw h.1 refl))
  func_adds (tree.Defined t) f ks h = elim h [ ]
  func_adds (tree.Component t) f ks h = elim h [ ]
  func_adds (tree.Instance t) f ks h = elim h [ ]
  func_adds (tree.Resource t) f ks h = elim h [ ]

  -- the type of a function
  pub func_reads : (f : FuncTree) (ms : List WrittenScope) (ks : List Known) (x : List WrittenScope × ℕ) → Kept 0 (meant mean) ms ks → Ready mean ms ks → OneTreeFunc mean f → write_func f ms ≡ Some x
      → (what : FuncTree) × (plain_func what ≡ placed_func mean f) × Written mean ks ms x.0 (TypeAt x.1 (IsType (Func what), func_bit mean.bit f))
  unfolding write_func
  func_reads f ms ks x k r one h = option_and_then_some _ _ x h (λ y a b.
      let w : Written mean ks ms y.0 (FuncIs y.1 f) = behind mean (λ ps r. tree.Func (record { params = ps; result = r })) (write_params f.params ms) (write_result f.result) (λ vs. ParamsAre vs f.params) (λ v. ResultIs v f.result) (λ t. FuncIs t f) ms ks y r
      (λ z c. params_read f.params ms ks z k r one.0 c) (λ next ls z k r c. result_reads f.result next ls z k r one.1 c) (λ vs v ls us. func_is f vs v ls us) a in
      let adds = func_adds y.1 f w.scopes w.says in
      (adds.0, adds.1, then_went 0 (meant mean) ks ms y.0 x.0 _ _ w (added_type 0 (meant mean) (tree.Ty y.1) y.0 w.scopes x _ w.kept b adds.2)))

  -- a value type that gets a name
  pub own_reads : (t : ValueTree) (ms : List WrittenScope) (ks : List Known) (x : List WrittenScope × ℕ) → Kept 0 (meant mean) ms ks → Ready mean ms ks → OneTree mean t → write_own t ms ≡ Some x
      → (what : ValueTree) × (plain_value what ≡ placed_value mean t) × (place_of what ≡ None) × Written mean ks ms x.0 (TypeAt x.1 (IsType (Value what), own_bit mean.bit t))
  own_reads t ms ks x k r one h = then_defined_reads mean t ms ks x (λ y a. defined_reads mean t ms ks y k r one a) h
