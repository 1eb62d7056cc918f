-- Scopes grow, and a declaration more stands for what stood there and its own.
use Rattle.std.proofs.Common.{◌≡◌, ℕ, suc, ◌+◌, Bool, cond, List, [], ◌∷◌, ◌++◌, map, Some, Ok, Err, refl, sym, ap, subst, ◌∙◌}
use Rattle.std.specs.Prelude.{slice_get, option_and_then, Result}
use Rattle.std.proofs.lemmas.Option.{option_and_then_some, same_Some}
use Rattle.warg_values.specs.Reading.{◌>>=◌}
use Rattle.comp_format.specs.declared.types.Sort.TheVariants as sort
use Rattle.comp_format.specs.declared.types.Alias.TheVariants as alias
use Rattle.comp_format.specs.Definitions as tree
use Rattle.comp_format.specs.Definitions.{Decls, DeclTree}
use Rattle.comp_entity.specs.Names.{Mention, Counts}
use Rattle.comp_entity.specs.Bounds.{unbounded, ShapeFault}
use Rattle.comp_scope.specs.Spaces.{Spaces, Known, Standing, nothing_known}
use Rattle.comp_scope.specs.Aliases.{width}
use Rattle.comp_scope.specs.Types.{with_decls, with_decl, with_spaces}
use Rattle.compose_writing.specs.Keys.{KnownThings, At, Index, InInstance}
use Rattle.compose_writing.specs.Scopes.{WrittenScope, add, add_instance, on_top}
use Rattle.compose_meaning.specs.Meaning.{Meant}
use Rattle.compose_meaning.specs.Stands.{Grown, AllGrown, spaces_of, Stands, exports_of, at_path, at_place, further_out, Knows, AllKnow, Kept}
use Rattle.compose_meaning.proofs.ListLaws.{get_before, get_last, length_more}

-- ---- growing

pub grown_refl : (s : Spaces) → Grown s s
grown_refl s = record { types = λ i e h. h; instances = λ i e h. h; core_types = λ i t h. h; is_closed = refl }

pub grown_trans : (a b c : Spaces) → Grown a b → Grown b c → Grown a c
grown_trans a b c g h = record { types = λ i e x. h.types i e (g.types i e x); instances = λ i e x. h.instances i e (g.instances i e x); core_types = λ i t x. h.core_types i t (g.core_types i t x); is_closed = h.is_closed ∙ g.is_closed }

pub all_grown_refl : (ss : List Spaces) → AllGrown ss ss
all_grown_refl [] = tt
all_grown_refl (s ∷ ss) = (grown_refl s, all_grown_refl ss)

pub all_grown_trans : (rs ss ts : List Spaces) → AllGrown rs ss → AllGrown ss ts → AllGrown rs ts
all_grown_trans [] [] [] a b = tt
all_grown_trans (r ∷ rs) (s ∷ ss) (t ∷ ts) a b = (grown_trans r s t a.0 b.0, all_grown_trans rs ss ts a.1 b.1)
all_grown_trans [] [] (t ∷ ts) a b = elim b [ ]
all_grown_trans [] (s ∷ ss) ts a b = elim a [ ]
all_grown_trans (r ∷ rs) [] ts a b = elim a [ ]
all_grown_trans (r ∷ rs) (s ∷ ss) [] a b = elim b [ ]

abbrev pub with_type : Known → Standing → Known
with_type k s = with_spaces k (record k.spaces { types = k.spaces.types ++ s ∷ [] })

abbrev pub with_instance : Known → Standing → Known
with_instance k s = with_spaces k (record k.spaces { instances = k.spaces.instances ++ s ∷ [] })

pub grown_type : (k : Known) (s : Standing) → Grown k.spaces (with_type k s).spaces
grown_type k s = record { types = λ i e h. get_before k.spaces.types (s ∷ []) i e h; instances = λ i e h. h; core_types = λ i t h. h; is_closed = refl }

pub grown_instance : (k : Known) (s : Standing) → Grown k.spaces (with_instance k s).spaces
grown_instance k s = record { types = λ i e h. h; instances = λ i e h. get_before k.spaces.instances (s ∷ []) i e h; core_types = λ i t h. h; is_closed = refl }

-- ---- a declaration behind others

pub decls_push : (outer : List Spaces) (k : Known) (ds : Decls) (d : DeclTree) → with_decls unbounded outer k (tree.with_decl ds d) ≡ (with_decls unbounded outer k ds >>= λ n. with_decl unbounded outer n d)
unfolding with_decls
decls_push outer k tree.none d = one (with_decl unbounded outer k d)
  where
    one : (r : Result Known ShapeFault) → (r >>= λ n. Ok n) ≡ r
    one (Ok n) = refl
    one (Err f) = refl
decls_push outer k (tree.more first ds) d = one (λ n. decls_push outer n ds d) (with_decl unbounded outer k first)
  where
    one : ((n : Known) → with_decls unbounded outer n (tree.with_decl ds d) ≡ (with_decls unbounded outer n ds >>= λ n. with_decl unbounded outer n d)) → (r : Result Known ShapeFault)
        → (r >>= λ n. with_decls unbounded outer n (tree.with_decl ds d)) ≡ ((r >>= λ n. with_decls unbounded outer n ds) >>= λ n. with_decl unbounded outer n d)
    one later (Ok n) = later n
    one later (Err f) = refl

-- a declaration more turns what is known so, however the scopes around grow
abbrev pub Turns : DeclTree → Known → Known → List Spaces → Type 0
Turns d k later around = (outer : List Spaces) → AllGrown around outer → with_decl unbounded outer k d ≡ Ok later

pub reads_on : (m : WrittenScope) (k later : Known) (around : List Spaces) (d : DeclTree) → Stands m k around → Turns d k later around
    → (outer : List Spaces) → AllGrown around outer → with_decls unbounded outer (nothing_known k.spaces.is_closed) (tree.with_decl m.decls d) ≡ Ok later
reads_on m k later around d h step outer g = decls_push outer (nothing_known k.spaces.is_closed) m.decls d ∙ ap (λ (r : Result Known ShapeFault). r >>= λ n. with_decl unbounded outer n d) (h.reads outer g) ∙ step outer g

pub stands_type : (m : WrittenScope) (k : Known) (around : List Spaces) (d : DeclTree) (s : Standing) → Stands m k around → Turns d k (with_type k s) around
    → Stands (add d m).0 (with_type k s) around
stands_type m k around d s h step = record {
  reads = reads_on m k (with_type k s) around d h step;
  types = ap suc h.types ∙ sym (length_more k.spaces.types s);
  instances = h.instances;
  core_types = h.core_types;
}

-- ---- what is known stands on

pub place_grown : (s t : Spaces) → Grown s t → (at : At) (e : Standing) → at_place s at ≡ Some e → at_place t at ≡ Some e
place_grown s t g (Index i) e h = g.types i e h
place_grown s t g (InInstance from path) e h = option_and_then_some _ (slice_get s.instances from) e h (λ x a b. ap (option_and_then (λ (i : Standing). option_and_then (at_path path) (exports_of i))) (g.instances from x a) ∙ b)

pub knows_grown : (d : ℕ) (means : Mention → Meant) (m : WrittenScope) (k l : Known) → Grown k.spaces l.spaces → Knows d means m k → Knows d means m l
knows_grown d means m k l g knew key at h = let x = knew key at h in (x.0, place_grown k.spaces l.spaces g at x.0 x.1, x.2)

-- the same is known where scopes have grown
pub all_know_grown : (d : ℕ) (means : Mention → Meant) (ms : List WrittenScope) (ks ls : List Known) → AllGrown (spaces_of ks) (spaces_of ls) → AllKnow d means ms ks → AllKnow d means ms ls
all_know_grown d means [] [] [] g k = tt
all_know_grown d means [] [] (l ∷ ls) g k = elim g [ ]
all_know_grown d means [] (k' ∷ ks) ls g k = elim k [ ]
all_know_grown d means (m ∷ ms) [] ls g k = elim k [ ]
all_know_grown d means (m ∷ ms) (k' ∷ ks) [] g k = elim g [ ]
all_know_grown d means (m ∷ ms) (k' ∷ ks) (l ∷ ls) g k = (
  knows_grown d means m k' l g.0 k.0,
  subst (λ (b : Bool). AllKnow (d + cond b 2 1) (further_out m.width means) ms ls) (sym g.0.is_closed) (all_know_grown (d + width k'.spaces) (further_out m.width means) ms ks ls g.1 k.1),
)

-- ---- what stays, and what is said

-- what each scope knows, and how many scopes of names it counts as
abbrev pub shells : List WrittenScope → List (ℕ × KnownThings)
shells ms = map (λ m. (m.width, m.known)) ms

-- the imports and exports of each scope, and what it has brought and made
pub record Head : Type 0 where
  pub imports : List (List ℕ × Standing)
  pub exports : List (List ℕ × Standing)
  pub brought : Counts
  pub made : Counts

abbrev pub head_of : Known → Head
head_of k = record { imports = k.imports; exports = k.exports; brought = k.spaces.brought; made = k.spaces.made }

abbrev pub heads_of : List Known → List Head
heads_of ks = map head_of ks

-- what was written leaves all that stood, and says this of the scopes
pub record Went (d : ℕ) (means : Mention → Meant) (ks : List Known) (ms later : List WrittenScope) (Q : List Known → Type 0) : Type 0 where
  pub scopes : List Known
  pub grown : AllGrown (spaces_of ks) (spaces_of scopes)
  pub kept : Kept d means later scopes
  pub same : shells later ≡ shells ms
  pub heads : heads_of scopes ≡ heads_of ks
  pub says : Q scopes

pub at_once : (d : ℕ) (means : Mention → Meant) (ks : List Known) (ms : List WrittenScope) (Q : List Known → Type 0) → Kept d means ms ks → Q ks → Went d means ks ms ms Q
at_once d means ks ms Q k q = record { scopes = ks; grown = all_grown_refl (spaces_of ks); kept = k; same = refl; heads = refl; says = q }

-- one thing written behind another
pub then_went : (d : ℕ) (means : Mention → Meant) (ks : List Known) (ms next later : List WrittenScope) (P Q : List Known → Type 0) (w : Went d means ks ms next P) → Went d means w.scopes next later Q → Went d means ks ms later Q
then_went d means ks ms next later P Q w v = record {
  scopes = v.scopes;
  grown = all_grown_trans (spaces_of ks) (spaces_of w.scopes) (spaces_of v.scopes) w.grown v.grown;
  kept = v.kept;
  same = v.same ∙ w.same;
  heads = v.heads ∙ w.heads;
  says = v.says;
}

-- what was said goes on to what follows from it
pub so : (d : ℕ) (means : Mention → Meant) (ks : List Known) (ms later : List WrittenScope) (P Q : List Known → Type 0) → Went d means ks ms later P → ((ls : List Known) → P ls → Q ls) → Went d means ks ms later Q
so d means ks ms later P Q w f = record { scopes = w.scopes; grown = w.grown; kept = w.kept; same = w.same; heads = w.heads; says = f w.scopes w.says }

-- ---- what is said of the innermost scope

unfoldable pub OnTop : (Spaces → Type 0) → List Known → Type 0
OnTop Q [] = ⊥
OnTop Q (k ∷ ks) = Q k.spaces

pub on_top_then : (P Q : Spaces → Type 0) → ((s : Spaces) → P s → Q s) → (ks : List Known) → OnTop P ks → OnTop Q ks
unfolding OnTop
on_top_then P Q f [] h = elim h [ ]
on_top_then P Q f (k ∷ ks) h = f k.spaces h

pub on_top_both : (P Q R : Spaces → Type 0) → ((s t : Spaces) → Grown s t → P s → Q t → R t) → (ks ls : List Known) → AllGrown (spaces_of ks) (spaces_of ls) → OnTop P ks → OnTop Q ls → OnTop R ls
unfolding OnTop
on_top_both P Q R f [] ls g p q = elim p [ ]
on_top_both P Q R f (k ∷ ks) [] g p q = elim q [ ]
on_top_both P Q R f (k ∷ ks) (l ∷ ls) g p q = f k.spaces l.spaces g.0 p q

unfoldable pub TypeAt : ℕ → Standing → List Known → Type 0
TypeAt i s = OnTop (λ k. slice_get k.types i ≡ Some s)

unfoldable pub Adds : DeclTree → Standing → List Known → Type 0
Adds d s [] = ⊥
Adds d s (k ∷ around) = Turns d k (with_type k s) (spaces_of around)

pub top_is : (d : DeclTree) (m : WrittenScope) (ms : List WrittenScope) → on_top (add d) (m ∷ ms) ≡ Some ((add d m).0 ∷ ms, (add d m).1)
unfolding on_top
top_is d m ms = refl

-- one declaration more that numbers a type
pub added_type : (d : ℕ) (means : Mention → Meant) (decl : DeclTree) (ms : List WrittenScope) (ks : List Known) (x : List WrittenScope × ℕ) (s : Standing) → Kept d means ms ks → on_top (add decl) ms ≡ Some x → Adds decl s ks
    → Went d means ks ms x.0 (TypeAt x.1 s)
unfolding on_top Adds TypeAt OnTop
added_type d means decl [] ks x s k h step = absurd cc
added_type d means decl (m ∷ ms) [] x s k h step = elim step [ ]
added_type d means decl (m ∷ ms) (t ∷ ks) x s k h step =
    subst (λ (x : List WrittenScope × ℕ). Went d means (t ∷ ks) (m ∷ ms) x.0 (TypeAt x.1 s)) (same_Some _ _ h)
    (record {
      scopes = with_type t s ∷ ks;
      grown = (grown_type t s, all_grown_refl (spaces_of ks));
      kept = record { stand = (stands_type m t (spaces_of ks) decl s k.stand.0 step, k.stand.1); know = (knows_grown d means m t (with_type t s) (grown_type t s) k.know.0, k.know.1) };
      same = refl;
      heads = refl;
      says = subst (λ (i : ℕ). slice_get (t.spaces.types ++ s ∷ []) i ≡ Some s) (sym k.stand.0.types) (get_last t.spaces.types s);
    })

-- one more that numbers an instance
stands_instance : (m : WrittenScope) (k : Known) (around : List Spaces) (from : ℕ) (name : List ℕ) (s : Standing) → Stands m k around → Turns (tree.Aliased (alias.Export sort.Instance from name)) k (with_instance k s) around
    → Stands (add_instance from name m).0 (with_instance k s) around
stands_instance m k around from name s h step = record {
  reads = reads_on m k (with_instance k s) around (tree.Aliased (alias.Export sort.Instance from name)) h step;
  types = h.types;
  instances = ap suc h.instances ∙ sym (length_more k.spaces.instances s);
  core_types = h.core_types;
}

pub added_instance : (d : ℕ) (means : Mention → Meant) (from : ℕ) (name : List ℕ) (m : WrittenScope) (ms : List WrittenScope) (k : Known) (ks : List Known) (s : Standing) → Kept d means (m ∷ ms) (k ∷ ks)
    → Turns (tree.Aliased (alias.Export sort.Instance from name)) k (with_instance k s) (spaces_of ks) → Kept d means ((add_instance from name m).0 ∷ ms) (with_instance k s ∷ ks)
added_instance d means from name m ms k ks s kept step = record {
  stand = (stands_instance m k (spaces_of ks) from name s kept.stand.0 step, kept.stand.1);
  know = (knows_grown d means m k (with_instance k s) (grown_instance k s) kept.know.0, kept.know.1);
}
