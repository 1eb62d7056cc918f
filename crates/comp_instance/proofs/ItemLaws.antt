-- Laws of items under names.
use Rattle.std.specs.Prelude.{◌≡◌, ℕ, ◌+◌, ◌<◌, Bool, true, false, cond, not, ◌&&◌, ◌||◌, List, [], ◌∷◌, ◌++◌, drop, map, length, slice_index_or, Option, Some, None, Result, Ok, Err, bytes_eq, refl}
use Rattle.std.specs.List.{list_any}
use Rattle.std.specs.Str.{str_to_ascii_lowercase}
use Rattle.std.specs.Cmp.Lexicographic.{nat_list_eq_equiv}
use Rattle.std.proofs.Common.{sym, ◌∙◌, ap, subst, append_assoc}
use Rattle.std.proofs.lemmas.List.{append-nil, map-append}
use Rattle.indexmap.specs.IndexSet.{insert_key}
use Rattle.warg_values.specs.Reading.{◌>>=◌}
use Rattle.warg_values.specs.ReadingLaws.{bind_ok, ok_is}
use Rattle.comp_declare.specs.Scopes.{plain_entry, lower_names}
use Rattle.comp_entity.specs.Bounds.{ShapeFault, Index}
use Rattle.comp_entity.specs.Entity.{ValueTree, Primitive, TupleOf, RecordOf, VariantOf, ListOf, FlagsOf, EnumOf, OptionOf, ResultOf, Own, Borrow, Value, Resource, Func, Instance, Component, EntityTree, IsType, IsFunc, IsInstance, IsComponent, IsModule, IsOwnModule}
use Rattle.comp_format.specs.declared.types.Arg.{Arg}
use Rattle.comp_format.specs.declared.types.CoreSort.TheVariants as core
use Rattle.comp_format.specs.declared.types.Sort.{Sort}
use Rattle.comp_format.specs.declared.types.Sort.TheVariants as sort
use Rattle.comp_instance.specs.declared.items.LetterCase.{LetterCase}
use Rattle.comp_instance.specs.declared.items.LetterCase.TheVariants as case
use Rattle.comp_instance.specs.declared.items.Items.{Items}
use Rattle.comp_instance.proofs.CoreLaws.{dropped}
use Rattle.comp_instance.specs.Items.{ShowsInstance, ShowsItems, differ, items_of, name_key}
use Rattle.comp_scope.specs.Instances.{all_have_bit, given, members}
use Rattle.comp_scope.specs.Spaces as scope
use Rattle.comp_scope.specs.Spaces.{Spaces, at_index, entity_is_named, entries_in, has_bit, is_named, is_taken, item_or_fault, standing}
use Rattle.comp_space.specs.declared.error.ScopeError.{ScopeError}
use Rattle.comp_space.specs.declared.standing.Standing.{Standing}
use Rattle.comp_space.specs.Faults.{Fails, Found}
use Rattle.comp_space.specs.Heads.{has_name}
use Rattle.comp_space.specs.Standings.{Shows}
use Rattle.comp_space.specs.StandingLaws.{bind_end, fails_bind, same_fault}
use Rattle.comp_table.specs.declared.head.Head.{Head}
use Rattle.comp_table.specs.declared.head.Head.TheVariants as head
use Rattle.comp_table.specs.Plain.{plain_value, plain_entity, plain_entries}
use Rattle.comp_table.specs.StandLaws.{all_kept, all_none, all_push}
use Rattle.comp_table.specs.Trees.{PlainTree, AllStand, Extends, Stands, more, tree, trees_of, tree_at, root}

-- names that differ
pub differ_on : (whole : Bool) (seen new names rest : List (List ℕ)) (key : List ℕ) → names ≡ key ∷ rest → whole ≡ differ seen names → list_any (bytes_eq key) seen ≡ false → new ≡ insert_key bytes_eq seen key → whole ≡ differ new rest
differ_on whole seen new names rest key is e free added =
    e ∙ ap (differ seen) is ∙ ap (λ b. not b && differ (seen ++ key ∷ []) rest) free
    ∙ ap (λ ks. differ ks rest) (sym (added ∙ ap (λ b. cond b seen (seen ++ key ∷ [])) free))

pub differ_not : (whole : Bool) (seen names rest : List (List ℕ)) (key : List ℕ) → names ≡ key ∷ rest → whole ≡ differ seen names → list_any (bytes_eq key) seen ≡ true → false ≡ whole
differ_not whole seen names rest key is e taken = sym (e ∙ ap (differ seen) is ∙ ap (λ b. not b && differ (seen ++ key ∷ []) rest) taken)

pub differ_end : (whole : Bool) (seen names : List (List ℕ)) → names ≡ [] → whole ≡ differ seen names → true ≡ whole
differ_end whole seen names is e = sym (e ∙ ap (differ seen) is)

pub key_first : (c : LetterCase) (items : List Arg) (i : ℕ) (a : Arg) (key : List ℕ) → i < length items → a ≡ slice_index_or items i a → key ≡ name_key c a.name → map (λ (a : Arg). name_key c a.name) (drop i items) ≡ key ∷ map (λ (a : Arg). name_key c a.name) (drop (i + 1) items)
key_first c items i a key lt here is =
    ap (map (λ (a : Arg). name_key c a.name)) (dropped items i a lt)
    ∙ ap (λ k. k ∷ map (λ (a : Arg). name_key c a.name) (drop (i + 1) items)) (ap (λ (a : Arg). name_key c a.name) (sym here) ∙ sym is)

-- no name is among those behind it
alone : List (List ℕ) → Bool
alone [] = true
alone (n ∷ ns) = not (list_any (bytes_eq n) ns) && alone ns

none_of : List (List ℕ) → List (List ℕ) → Bool
none_of seen [] = true
none_of seen (n ∷ ns) = not (list_any (bytes_eq n) seen) && none_of seen ns

same_both_ways : (m n : List ℕ) → bytes_eq m n ≡ bytes_eq n m
same_both_ways m n = nat_list_eq_equiv.symm m n

any_push : (m n : List ℕ) (seen : List (List ℕ)) → list_any (bytes_eq m) (seen ++ n ∷ []) ≡ (list_any (bytes_eq m) seen || bytes_eq m n)
any_push m n [] = by (bytes_eq m n)
  where
    by : (b : Bool) → (b || false) ≡ b
    by true = refl
    by false = refl
any_push m n (k ∷ seen) = ap (λ b. bytes_eq m k || b) (any_push m n seen) ∙ by (bytes_eq m k) (list_any (bytes_eq m) seen) (bytes_eq m n)
  where
    by : (a b c : Bool) → (a || (b || c)) ≡ ((a || b) || c)
    by true b c = refl
    by false b c = refl

-- one name more that is seen
none_push : (n : List ℕ) (seen ns : List (List ℕ)) → none_of (seen ++ n ∷ []) ns ≡ (none_of seen ns && not (list_any (bytes_eq n) ns))
unfolding none_of
none_push n seen [] = refl
none_push n seen (m ∷ ns) =
    (λ i. not (any_push m n seen i) && none_push n seen ns i)
    ∙ ap (λ b. not (list_any (bytes_eq m) seen || b) && (none_of seen ns && not (list_any (bytes_eq n) ns))) (same_both_ways m n)
    ∙ by (list_any (bytes_eq m) seen) (bytes_eq n m) (none_of seen ns) (list_any (bytes_eq n) ns)
  where
    by : (a b c d : Bool) → (not (a || b) && (c && not d)) ≡ ((not a && c) && not (b || d))
    by true b c d = refl
    by false true true d = refl
    by false true false d = refl
    by false false c d = refl

differ_is : (seen ns : List (List ℕ)) → differ seen ns ≡ (none_of seen ns && alone ns)
unfolding none_of alone
differ_is seen [] = refl
differ_is seen (n ∷ ns) =
    ap (λ b. not (list_any (bytes_eq n) seen) && b) (differ_is (seen ++ n ∷ []) ns ∙ ap (λ b. b && alone ns) (none_push n seen ns))
    ∙ by (list_any (bytes_eq n) seen) (none_of seen ns) (list_any (bytes_eq n) ns) (alone ns)
  where
    by : (a b c d : Bool) → (not a && ((b && not c) && d)) ≡ ((not a && b) && (not c && d))
    by true b c d = refl
    by false true c d = refl
    by false false c d = refl

none_of_none : (ns : List (List ℕ)) → none_of [] ns ≡ true
unfolding none_of
none_of_none [] = refl
none_of_none (n ∷ ns) = none_of_none ns

differ_alone : (ns : List (List ℕ)) → differ [] ns ≡ alone ns
differ_alone ns = differ_is [] ns ∙ ap (λ b. b && alone ns) (none_of_none ns)

-- what is not there is refused alike
abbrev failed : {A : Type 0} → ShapeFault → Result A ShapeFault
failed fault = Err fault

abbrev IsRefusedAlike : {X : Type 0} → Result X ShapeFault → Type 0
IsRefusedAlike r = (fault : ShapeFault) → r ≡ Err fault → Index ≡ fault

at_alike : {X : Type 0} (o : Option X) → IsRefusedAlike (item_or_fault o)
at_alike (Some x) fault e = absurd cc
at_alike None fault e = same_fault Index fault e

standing_alike : (s : Spaces) (kind : Sort) (i : ℕ) → IsRefusedAlike (standing s kind i)
standing_alike s (sort.Core core.Module) i fault e = at_alike _ fault e
standing_alike s (sort.Core core.Func) i fault e = same_fault Index fault e
standing_alike s (sort.Core core.Table) i fault e = same_fault Index fault e
standing_alike s (sort.Core core.Memory) i fault e = same_fault Index fault e
standing_alike s (sort.Core core.Global) i fault e = same_fault Index fault e
standing_alike s (sort.Core core.Ty) i fault e = same_fault Index fault e
standing_alike s (sort.Core core.Instance) i fault e = same_fault Index fault e
standing_alike s sort.Func i fault e = at_alike _ fault e
standing_alike s sort.Ty i fault e = at_alike _ fault e
standing_alike s sort.Component i fault e = at_alike _ fault e
standing_alike s sort.Instance i fault e = at_alike _ fault e

bind_alike : {X Y : Type 0} (r : Result X ShapeFault) (next : X → Result Y ShapeFault) → IsRefusedAlike r → ((x : X) → IsRefusedAlike (next x)) → IsRefusedAlike (r >>= next)
bind_alike (Ok x) next a b fault e = b x fault e
bind_alike (Err f) next a b fault e = a f refl ∙ same_fault f fault e

ok_alike : {X : Type 0} (x : X) → IsRefusedAlike (Ok x)
ok_alike x fault e = absurd cc

items_alike : (s : Spaces) (args : List Arg) → IsRefusedAlike (items_of s args)
unfolding items_of
items_alike s [] = ok_alike []
items_alike s (a ∷ args) =
    bind_alike (standing s a.sort a.index) (λ e. items_of s args >>= λ rest. Ok ((a.name, e) ∷ rest)) (standing_alike s a.sort a.index) (λ e.
    bind_alike (items_of s args) (λ rest. Ok ((a.name, e) ∷ rest)) (items_alike s args) (λ rest. ok_alike ((a.name, e) ∷ rest)))

abbrev names_in : List (List ℕ × scope.Standing) → List (List ℕ)
names_in es = map (λ e. e.0) es

abbrev names_of : List Arg → List (List ℕ)
names_of args = map (λ a. a.name) args

any_named : (n : List ℕ) (es : List (List ℕ × scope.Standing)) → list_any (λ (other : List ℕ × scope.Standing). bytes_eq n other.0) es ≡ list_any (bytes_eq n) (names_in es)
any_named n [] = refl
any_named n (e ∷ es) = ap (λ b. bytes_eq n e.0 || b) (any_named n es)

items_named : (s : Spaces) (args : List Arg) (es : List (List ℕ × scope.Standing)) → items_of s args ≡ Ok es → names_in es ≡ names_of args
unfolding items_of
items_named s [] es h = ap names_in (sym (ok_is [] es h))
items_named s (a ∷ args) es h =
    let x = bind_ok (standing s a.sort a.index) _ _ h in
    let y = bind_ok (items_of s args) _ _ x.2 in
    ap names_in (sym (ok_is ((a.name, x.0) ∷ y.0) es y.2)) ∙ ap (λ ns. a.name ∷ ns) (items_named s args y.0 y.1)

-- the arguments of an instance
module _ (s : Spaces) (a : Arg) (args : List Arg) where
  abbrev next : scope.Standing → List (List ℕ × scope.Standing) → Result (List (List ℕ × scope.Standing)) ShapeFault
  next e rest = cond (list_any (λ (other : List ℕ × scope.Standing). bytes_eq a.name other.0) rest) (Err Index) (Ok ((a.name, e) ∷ rest))

  refused : {X : Type 0} (b : Bool) (fault : ShapeFault) → Index ≡ fault → failed {A = X} fault ≡ cond b (Err fault) (Err Index)
  refused true fault e = refl
  refused false fault e = ap Err (sym e)

  refused_first : {X : Type 0} (b c : Bool) (fault : ShapeFault) (k : List (List ℕ × scope.Standing) → Result X ShapeFault) → Index ≡ fault → (cond b (failed {A = List (List ℕ × scope.Standing)} fault) (Err Index) >>= k) ≡ cond c (Err fault) (Err Index)
  refused_first true true fault k e = refl
  refused_first true false fault k e = ap Err (sym e)
  refused_first false true fault k e = ap Err e
  refused_first false false fault k e = refl

  one_argument : (e : scope.Standing) (rest : List (List ℕ × scope.Standing)) (x b : Bool) → list_any (λ (other : List ℕ × scope.Standing). bytes_eq a.name other.0) rest ≡ x → (cond b (Ok rest) (Err Index) >>= next e) ≡ cond (not x && b) (Ok ((a.name, e) ∷ rest)) (Err Index)
  one_argument e rest true true is = ap (λ c. cond c (Err Index) (Ok ((a.name, e) ∷ rest))) is
  one_argument e rest true false is = refl
  one_argument e rest false true is = ap (λ c. cond c (Err Index) (Ok ((a.name, e) ∷ rest))) is
  one_argument e rest false false is = refl

  others : (e : scope.Standing) (r : Result (List (List ℕ × scope.Standing)) ShapeFault) (b : Bool) → IsRefusedAlike r → ((rest : List (List ℕ × scope.Standing)) → r ≡ Ok rest → names_in rest ≡ names_of args)
      → (cond b r (Err Index) >>= next e) ≡ cond (not (list_any (bytes_eq a.name) (names_of args)) && b) (r >>= λ rest. Ok ((a.name, e) ∷ rest)) (Err Index)
  others e (Ok rest) b alike named = one_argument e rest (list_any (bytes_eq a.name) (names_of args)) b (any_named a.name rest ∙ ap (list_any (bytes_eq a.name)) (named rest refl))
  others e (Err f) b alike named = refused_first b (not (list_any (bytes_eq a.name) (names_of args)) && b) f (next e) (alike f refl)

  first_argument : (r : Result scope.Standing ShapeFault) → IsRefusedAlike r → given s args ≡ cond (alone (names_of args)) (items_of s args) (Err Index)
      → (r >>= λ e. given s args >>= next e) ≡ cond (not (list_any (bytes_eq a.name) (names_of args)) && alone (names_of args)) (r >>= λ e. items_of s args >>= λ rest. Ok ((a.name, e) ∷ rest)) (Err Index)
  first_argument (Ok e) alike before = ap (λ r. r >>= next e) before ∙ others e (items_of s args) (alone (names_of args)) (items_alike s args) (items_named s args)
  first_argument (Err f) alike before = refused (not (list_any (bytes_eq a.name) (names_of args)) && alone (names_of args)) f (alike f refl)

given_alone : (s : Spaces) (args : List Arg) → given s args ≡ cond (alone (names_of args)) (items_of s args) (Err Index)
unfolding given items_of alone
given_alone s [] = refl
given_alone s (a ∷ args) = first_argument s a args (standing s a.sort a.index) (standing_alike s a.sort a.index) (given_alone s args)

keys_of : (args : List Arg) → map (λ (a : Arg). name_key case.Kept a.name) args ≡ names_of args
keys_of args = refl

pub given_is : (s : Spaces) (args : List Arg) → given s args ≡ cond (differ [] (map (λ (a : Arg). name_key case.Kept a.name) args)) (items_of s args) (Err Index)
given_is s args = given_alone s args ∙ ap (λ b. cond b (items_of s args) (Err Index)) (sym (differ_alone (names_of args)))

-- the members of an instance
abbrev lower_names_of : List Arg → List (List ℕ)
lower_names_of args = map (λ a. str_to_ascii_lowercase a.name) args

taken_is : (name : List ℕ) (entries : List (List ℕ × scope.Standing)) → is_taken name entries ≡ list_any (bytes_eq (str_to_ascii_lowercase name)) (lower_names entries)
taken_is name [] = refl
taken_is name (e ∷ es) = ap (λ b. bytes_eq (str_to_ascii_lowercase name) (str_to_ascii_lowercase e.0) || b) (taken_is name es)

behind : (so_far : List (List ℕ × scope.Standing)) (e : List ℕ × scope.Standing) (r : Result (List (List ℕ × scope.Standing)) ShapeFault)
    → (r >>= λ rest. Ok ((so_far ++ e ∷ []) ++ rest)) ≡ ((r >>= λ rest. Ok (e ∷ rest)) >>= λ rest. Ok (so_far ++ rest))
behind so_far e (Ok rest) = ap Ok (append_assoc so_far (e ∷ []) rest)
behind so_far e (Err f) = refl

module _ (s : Spaces) (m : Arg) (ms : List Arg) (so_far : List (List ℕ × scope.Standing)) where
  first_member : (r : Result scope.Standing ShapeFault) (b : Bool) → IsRefusedAlike r
      → ((e : scope.Standing) → members s (so_far ++ (m.name, e) ∷ []) ms ≡ cond b (items_of s ms >>= λ rest. Ok ((so_far ++ (m.name, e) ∷ []) ++ rest)) (Err Index))
      → (r >>= λ e. members s (so_far ++ (m.name, e) ∷ []) ms) ≡ cond b ((r >>= λ e. items_of s ms >>= λ rest. Ok ((m.name, e) ∷ rest)) >>= λ rest. Ok (so_far ++ rest)) (Err Index)
  first_member (Ok e) b alike later = later e ∙ ap (λ r. cond b r (Err Index)) (behind so_far (m.name, e) (items_of s ms))
  first_member (Err f) b alike later = refused s m ms b f (alike f refl)

  one_member : (r : Result scope.Standing ShapeFault) (x b : Bool) → IsRefusedAlike r
      → ((e : scope.Standing) → members s (so_far ++ (m.name, e) ∷ []) ms ≡ cond b (items_of s ms >>= λ rest. Ok ((so_far ++ (m.name, e) ∷ []) ++ rest)) (Err Index))
      → cond x (Err Index) (r >>= λ e. members s (so_far ++ (m.name, e) ∷ []) ms) ≡ cond (not x && b) ((r >>= λ e. items_of s ms >>= λ rest. Ok ((m.name, e) ∷ rest)) >>= λ rest. Ok (so_far ++ rest)) (Err Index)
  one_member r true b alike later = refl
  one_member r false b alike later = first_member r b alike later

members_from : (s : Spaces) (so_far : List (List ℕ × scope.Standing)) (args : List Arg) → members s so_far args ≡ cond (differ (lower_names so_far) (lower_names_of args)) (items_of s args >>= λ rest. Ok (so_far ++ rest)) (Err Index)
unfolding members items_of
members_from s so_far [] = ap Ok (sym (append-nil so_far))
members_from s so_far (m ∷ ms) =
    ap (λ x. cond x (Err Index) (standing s m.sort m.index >>= λ e. members s (so_far ++ (m.name, e) ∷ []) ms)) (taken_is m.name so_far)
    ∙ one_member s m ms so_far (standing s m.sort m.index) (list_any (bytes_eq (str_to_ascii_lowercase m.name)) (lower_names so_far)) (differ (lower_names so_far ++ str_to_ascii_lowercase m.name ∷ []) (lower_names_of ms)) (standing_alike s m.sort m.index) (λ e.
    members_from s (so_far ++ (m.name, e) ∷ []) ms
    ∙ ap (λ ns. cond (differ ns (lower_names_of ms)) (items_of s ms >>= λ rest. Ok ((so_far ++ (m.name, e) ∷ []) ++ rest)) (Err Index)) (map-append (λ (x : List ℕ × scope.Standing). str_to_ascii_lowercase x.0) so_far ((m.name, e) ∷ [])))

pub members_is : (s : Spaces) (args : List Arg) → members s [] args ≡ cond (differ [] (map (λ (a : Arg). name_key case.SetAside a.name) args)) (items_of s args) (Err Index)
members_is s args = members_from s [] args ∙ ap (λ r. cond (differ [] (lower_names_of args)) r (Err Index)) (bind_end (items_of s args))

-- the naming bit
value_has_name : (t : ValueTree) → has_name (root (plain_value t)) ≡ is_named t
value_has_name (Primitive p) = refl
value_has_name (TupleOf parts) = refl
value_has_name (RecordOf None fields) = refl
value_has_name (RecordOf (Some n) fields) = refl
value_has_name (VariantOf None cases) = refl
value_has_name (VariantOf (Some n) cases) = refl
value_has_name (ListOf t) = refl
value_has_name (FlagsOf None labels) = refl
value_has_name (FlagsOf (Some n) labels) = refl
value_has_name (EnumOf None labels) = refl
value_has_name (EnumOf (Some n) labels) = refl
value_has_name (OptionOf t) = refl
value_has_name (ResultOf ok err) = refl
value_has_name (Own r) = refl
value_has_name (Borrow r) = refl

entity_has_name : (e : EntityTree) → has_name (root (plain_entity e)) ≡ entity_is_named e
entity_has_name (IsType (Value t)) = value_has_name t
entity_has_name (IsType (Resource r)) = refl
entity_has_name (IsType (Func f)) = refl
entity_has_name (IsType (Instance es)) = refl
entity_has_name (IsType (Component is es)) = refl
entity_has_name (IsFunc f) = refl
entity_has_name (IsInstance es) = refl
entity_has_name (IsComponent is es) = refl
entity_has_name (IsModule m) = refl
entity_has_name IsOwnModule = refl

pub bit_is : (ts : List PlainTree) (n : ℕ) (b r : Bool) (h : Head) (e : EntityTree) → r ≡ (b && has_name h) → h ≡ root (tree_at ts n) → Stands ts n (plain_entity e) → r ≡ has_bit (e, b)
bit_is ts n b r h e is here stands = is ∙ ap (λ c. b && c) (ap has_name (here ∙ ap root stands.tree_is) ∙ entity_has_name e)

bits_push : (es : List (List ℕ × scope.Standing)) (e : List ℕ × scope.Standing) → all_have_bit (es ++ e ∷ []) ≡ (all_have_bit es && has_bit e.1)
bits_push [] e = by (has_bit e.1)
  where
    by : (b : Bool) → (b && true) ≡ b
    by true = refl
    by false = refl
bits_push (x ∷ es) e = ap (λ b. has_bit x.1 && b) (bits_push es e) ∙ by (has_bit x.1) (all_have_bit es) (has_bit e.1)
  where
    by : (a b c : Bool) → (a && (b && c)) ≡ ((a && b) && c)
    by true b c = refl
    by false b c = refl

-- items, as far as a loop has come
pub record IsSoFar (ts : List PlainTree) (items : Items) (s : Spaces) (args left : List Arg) : Type 0 where
  pub es : List (List ℕ × scope.Standing)
  pub shown : ShowsItems ts items es
  pub left_is : items_of s args ≡ (items_of s left >>= λ rest. Ok (es ++ rest))

pub none_so_far : (ts : List PlainTree) (items : Items) (s : Spaces) (args : List Arg) → items.numbers.items ≡ [] → items.named ≡ true → IsSoFar ts items s args args
none_so_far ts items s args empty named = record {
  es = [];
  shown = record { stand = subst (λ ns. AllStand ts ns []) (sym empty) (all_none ts); named_is = named };
  left_is = sym (bind_end (items_of s args));
}

module _ (ts us : List PlainTree) (grown : Extends ts us) (items : Items) (s : Spaces) (args left rest : List Arg) (a : Arg) (is : left ≡ a ∷ rest) (so_far : IsSoFar ts items s args left) where
  items_here : items_of s args ≡ (items_of s (a ∷ rest) >>= λ rest. Ok (so_far.es ++ rest))
  items_here = so_far.left_is ∙ ap (λ (xs : List Arg). items_of s xs >>= λ rest. Ok (so_far.es ++ rest)) is

  pub one_refused : (error : ScopeError) → Fails error (standing s a.sort a.index) → Fails error (items_of s args)
  unfolding items_of
  one_refused error h = subst (Fails error) (sym items_here) (fails_bind (items_of s (a ∷ rest)) (λ rest. Ok (so_far.es ++ rest)) error (fails_bind (standing s a.sort a.index) _ error h))

  pub one_item_more : (x : Standing) (n : ℕ) (new : Items) (b : Bool) → (f : Found (Shows plain_entity ts) x (standing s a.sort a.index)) → Stands us n (plain_entry (a.name, (f.value.0, x.named))) → b ≡ has_bit (f.value.0, x.named) → new.numbers.items ≡ items.numbers.items ++ n ∷ [] → new.named ≡ (items.named && b) → IsSoFar us new s args rest
  unfolding items_of
  one_item_more x n new b f stands bit pushed named =
      let e : List ℕ × scope.Standing = (a.name, f.value) in
      let read : List ℕ × scope.Standing = (a.name, (f.value.0, x.named)) in
      let same : read ≡ e = λ i. (a.name, (f.value.0, f.shown.named_is i)) in
      record {
        es = so_far.es ++ e ∷ [];
        shown = record {
          stand = subst (λ ns. AllStand us ns (map plain_entry (so_far.es ++ e ∷ []))) (sym pushed) (subst (AllStand us (items.numbers.items ++ n ∷ [])) (sym (map-append plain_entry so_far.es (e ∷ [])))
              (all_push us items.numbers.items (map plain_entry so_far.es) n (plain_entry e) (all_kept ts us grown items.numbers.items (map plain_entry so_far.es) so_far.shown.stand) (subst (λ t. Stands us n (plain_entry t)) same stands)));
          named_is = named ∙ (λ i. so_far.shown.named_is i && (bit ∙ ap (λ (t : List ℕ × scope.Standing). has_bit t.1) same) i) ∙ sym (bits_push so_far.es e);
        };
        left_is = items_here ∙ ap (λ r. (r >>= λ e. items_of s rest >>= λ rest. Ok ((a.name, e) ∷ rest)) >>= λ rest. Ok (so_far.es ++ rest)) f.given_is ∙ sym (behind so_far.es e (items_of s rest));
      }

pub all_so_far : (ts : List PlainTree) (items : Items) (s : Spaces) (args left : List Arg) → left ≡ [] → IsSoFar ts items s args left → Found (ShowsItems ts) items (items_of s args)
unfolding items_of
all_so_far ts items s args left end so_far = record {
  value = so_far.es;
  given_is = so_far.left_is ∙ ap (λ (xs : List Arg). items_of s xs >>= λ rest. Ok (so_far.es ++ rest)) end ∙ ap Ok (append-nil so_far.es);
  shown = so_far.shown;
}

-- the instance that exports them
entries_are : (es : List (List ℕ × scope.Standing)) → trees_of (map plain_entry es) ≡ plain_entries (entries_in es)
entries_are [] = refl
entries_are (e ∷ es) = ap (more (plain_entry e)) (entries_are es)

pub instance_shown : (ts us : List PlainTree) (items : Items) (n : ℕ) (r : Result (List (List ℕ × scope.Standing)) ShapeFault) → Found (ShowsItems ts) items r → Stands us n (tree head.Instance (trees_of (map (tree_at ts) items.numbers.items))) → Found (ShowsInstance us) (record { number = n; named = items.named }) r
instance_shown ts us items n r f stands = record {
  value = f.value;
  given_is = f.given_is;
  shown = record {
    stands = subst (Stands us n) (ap (λ xs. tree head.Instance (trees_of xs)) f.shown.stand.trees_are ∙ ap (tree head.Instance) (entries_are f.value)) stands;
    named_is = f.shown.named_is;
  };
}
