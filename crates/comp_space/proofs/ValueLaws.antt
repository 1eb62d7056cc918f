-- Laws of types of values and of functions, by their parts.
use Rattle.std.specs.Prelude.{◌≡◌, ℕ, Bool, true, ◌&&◌, List, [], ◌∷◌, map, Option, Some, None, Result, Ok, Err, refl}
use Rattle.std.proofs.Common.{sym, ◌∙◌, ap, subst}
use Rattle.warg_values.specs.Reading.{◌>>=◌}
use Rattle.warg_values.specs.ReadingLaws.{never, ok_is}
use Rattle.comp_format.specs.declared.types.ValType.{ValType}
use Rattle.comp_format.specs.declared.types.DefinedType.TheVariants as defined
use Rattle.comp_format.specs.declared.types.FuncType.{FuncType}
use Rattle.comp_entity.specs.Bounds.{ShapeFault}
use Rattle.comp_entity.specs.Entity.{Name, ValueTree, TupleOf, RecordOf, VariantOf, ListOf, FlagsOf, EnumOf, OptionOf, ResultOf, Own, Borrow, more, Cases, no_case, labelled, Payload, absent, present}
use Rattle.comp_entity.specs.Views.{values_of, fields_of as fields_in}
use Rattle.comp_scope.specs.Spaces.{Spaces}
use Rattle.comp_scope.specs.Values.{part_of, payload_of, resource_of, parts_of, fields_of, cases_of, params_of, result_of, value_of, func_of}
use Rattle.comp_space.specs.declared.parts.Parts.{Parts}
use Rattle.comp_space.specs.declared.standing.Standing.{Standing}
use Rattle.comp_space.specs.declared.error.ScopeError.{ScopeError}
use Rattle.comp_space.specs.Faults.{Fails, Found}
use Rattle.comp_space.specs.Rows.{all_of, all_named, field_of, case_of, plain_case, ShowsRows}
use Rattle.comp_space.specs.Standings.{Shows}
use Rattle.comp_space.specs.StandingLaws.{fails_bind, fails_same, same_fault}
use Rattle.comp_table.specs.declared.head.Head.{Head}
use Rattle.comp_table.specs.declared.head.Head.TheVariants as head
use Rattle.comp_table.specs.Plain.{plain_value, plain_values, plain_cases, plain_payload, plain_param, plain_result, plain_func, leaf, around, around_two}
use Rattle.comp_table.specs.Rows.{label_plain}
use Rattle.comp_table.specs.StandLaws.{all_first, all_kept, stands_kept, same_stands, node_is}
use Rattle.comp_table.specs.Trees as trees
use Rattle.comp_table.specs.Trees.{PlainTree, tree, trees_of, tree_at, node_tree, Extends, Stands, AllStand}

abbrev pub cases_in : List (List ℕ × Payload) → Cases
cases_in [] = no_case
cases_in (c ∷ cs) = labelled c.0 c.1 (cases_in cs)

-- what was read of the first, and of the others
abbrev pub firsts : {Y : Type 0} → List (Y × Bool) → List Y
firsts rs = map (λ r. r.0) rs

abbrev pub gather : {Y C : Type 0} → (List Y → C) → Result (List (Y × Bool)) ShapeFault → Result (C × Bool) ShapeFault
gather g q = q >>= λ rs. Ok (g (firsts rs), all_named rs)

part_more : (r : Result (ValueTree × Bool) ShapeFault) (q : Result (List (ValueTree × Bool)) ShapeFault) → (r >>= λ v. gather values_of q >>= λ vs. Ok (more v.0 vs.0, v.1 && vs.1)) ≡ gather values_of (r >>= λ y. q >>= λ ys. Ok (y ∷ ys))
part_more (Err e) q = refl
part_more (Ok v) (Err e) = refl
part_more (Ok v) (Ok rs) = refl

field_more : (l : List ℕ) (r : Result (ValueTree × Bool) ShapeFault) (q : Result (List ((List ℕ × ValueTree) × Bool)) ShapeFault) → (r >>= λ v. gather fields_in q >>= λ vs. Ok (labelled l (present v.0) vs.0, v.1 && vs.1)) ≡ gather fields_in ((r >>= λ v. Ok ((l, v.0), v.1)) >>= λ y. q >>= λ ys. Ok (y ∷ ys))
field_more l (Err e) q = refl
field_more l (Ok v) (Err e) = refl
field_more l (Ok v) (Ok rs) = refl

case_more : (l : List ℕ) (r : Result (Payload × Bool) ShapeFault) (q : Result (List ((List ℕ × Payload) × Bool)) ShapeFault) → (r >>= λ v. gather cases_in q >>= λ vs. Ok (labelled l v.0 vs.0, v.1 && vs.1)) ≡ gather cases_in ((r >>= λ v. Ok ((l, v.0), v.1)) >>= λ y. q >>= λ ys. Ok (y ∷ ys))
case_more l (Err e) q = refl
case_more l (Ok v) (Err e) = refl
case_more l (Ok v) (Ok rs) = refl

abbrev pub same_list : List (List ℕ × ValueTree) → List (List ℕ × ValueTree)
same_list ps = ps

param_more : (l : List ℕ) (r : Result (ValueTree × Bool) ShapeFault) (q : Result (List ((List ℕ × ValueTree) × Bool)) ShapeFault) → (r >>= λ v. gather same_list q >>= λ vs. Ok ((l, v.0) ∷ vs.0, v.1 && vs.1)) ≡ gather same_list ((r >>= λ v. Ok ((l, v.0), v.1)) >>= λ y. q >>= λ ys. Ok (y ∷ ys))
param_more l (Err e) q = refl
param_more l (Ok v) (Err e) = refl
param_more l (Ok v) (Ok rs) = refl

parts_are : (s : Spaces) (ts : List ValType) → parts_of s ts ≡ gather values_of (all_of (part_of s) ts)
unfolding parts_of
parts_are s [] = refl
parts_are s (t ∷ ts) = rw (parts_are s ts) (part_more (part_of s t) (all_of (part_of s) ts))

fields_are : (s : Spaces) (fs : List (List ℕ × ValType)) → fields_of s fs ≡ gather fields_in (all_of (field_of s) fs)
unfolding fields_of
fields_are s [] = refl
fields_are s (f ∷ fs) = rw (fields_are s fs) (field_more f.0 (part_of s f.1) (all_of (field_of s) fs))

cases_are : (s : Spaces) (cs : List (List ℕ × Option ValType)) → cases_of s cs ≡ gather cases_in (all_of (case_of s) cs)
unfolding cases_of
cases_are s [] = refl
cases_are s (c ∷ cs) = rw (cases_are s cs) (case_more c.0 (payload_of s c.1) (all_of (case_of s) cs))

params_are : (s : Spaces) (ps : List (List ℕ × ValType)) → params_of s ps ≡ gather same_list (all_of (field_of s) ps)
unfolding params_of
params_are s [] = refl
params_are s (p ∷ ps) = rw (params_are s ps) (param_more p.0 (part_of s p.1) (all_of (field_of s) ps))

-- what was gathered is made of it
then_made : {Y C : Type 0} (g : List Y → C) (make : C → ValueTree) (q : Result (List (Y × Bool)) ShapeFault) → (gather g q >>= λ x. Ok (make x.0, x.1)) ≡ gather (λ ys. make (g ys)) q
then_made g make (Err e) = refl
then_made g make (Ok rs) = refl

pub tuple_is : (s : Spaces) (ts : List ValType) → value_of s (defined.TupleOf ts) ≡ gather (λ vs. TupleOf (values_of vs)) (all_of (part_of s) ts)
unfolding value_of
tuple_is s ts = rw (parts_are s ts) (then_made values_of TupleOf (all_of (part_of s) ts))

pub record_is : (s : Spaces) (fs : List (List ℕ × ValType)) → value_of s (defined.RecordOf fs) ≡ gather (λ vs. RecordOf None (fields_in vs)) (all_of (field_of s) fs)
unfolding value_of
record_is s fs = rw (fields_are s fs) (then_made fields_in (RecordOf None) (all_of (field_of s) fs))

pub variant_is : (s : Spaces) (cs : List (List ℕ × Option ValType)) → value_of s (defined.VariantOf cs) ≡ gather (λ vs. VariantOf None (cases_in vs)) (all_of (case_of s) cs)
unfolding value_of
variant_is s cs = rw (cases_are s cs) (then_made cases_in (VariantOf None) (all_of (case_of s) cs))

parts_plain : (vs : List ValueTree) → plain_values (values_of vs) ≡ trees_of (map plain_value vs)
parts_plain [] = refl
parts_plain (v ∷ vs) = ap (trees.more (plain_value v)) (parts_plain vs)

fields_plain : (fs : List (List ℕ × ValueTree)) → plain_cases (fields_in fs) ≡ trees_of (map plain_param fs)
fields_plain [] = refl
fields_plain (f ∷ fs) = ap (trees.more (plain_param f)) (fields_plain fs)

cases_plain : (cs : List (List ℕ × Payload)) → plain_cases (cases_in cs) ≡ trees_of (map plain_case cs)
cases_plain [] = refl
cases_plain (c ∷ cs) = ap (trees.more (plain_case c)) (cases_plain cs)

map_firsts : {Y : Type 0} (plain : Y → PlainTree) (rs : List (Y × Bool)) → map (λ r. plain r.0) rs ≡ map plain (firsts rs)
map_firsts plain [] = refl
map_firsts plain (r ∷ rs) = ap (λ ts. plain r.0 ∷ ts) (map_firsts plain rs)

-- a type that is made of what was gathered
gathered : {X Y : Type 0} (f : X → Result (Y × Bool) ShapeFault) (plain : Y → PlainTree) (make : List Y → ValueTree) (h : Head) (xs : List X) (ts us : List PlainTree) (p : Parts) (n : ℕ) (given : Result (ValueTree × Bool) ShapeFault) → given ≡ gather make (all_of f xs) → ((ys : List Y) → plain_value (make ys) ≡ tree h (trees_of (map plain ys))) → Found (ShowsRows plain ts) p (all_of f xs) → Stands us n (node_tree ts h p.numbers.items) → Found (Shows plain_value us) (record { number = n; named = p.named }) given
gathered f plain make h xs ts us p n given is made rows stands = record {
  value = (make (firsts rows.value), all_named rows.value);
  given_is = is ∙ ap (gather make) rows.given_is;
  shown = record {
    stands = same_stands us n _ _ (node_is ts h p.numbers.items _ rows.shown.stand ∙ ap (λ xs. tree h (trees_of xs)) (map_firsts plain rows.value) ∙ sym (made (firsts rows.value))) stands;
    named_is = rows.shown.named_is;
  };
}

pub tuple_found : (s : Spaces) (xs : List ValType) (ts us : List PlainTree) (p : Parts) (n : ℕ) → Found (ShowsRows plain_value ts) p (all_of (part_of s) xs) → Stands us n (node_tree ts head.TupleOf p.numbers.items) → Found (Shows plain_value us) (record { number = n; named = p.named }) (value_of s (defined.TupleOf xs))
tuple_found s xs ts us p n rows stands = gathered (part_of s) plain_value (λ vs. TupleOf (values_of vs)) head.TupleOf xs ts us p n (value_of s (defined.TupleOf xs)) (tuple_is s xs) (λ vs. ap (tree head.TupleOf) (parts_plain vs)) rows stands

pub record_found : (s : Spaces) (xs : List (List ℕ × ValType)) (ts us : List PlainTree) (p : Parts) (n : ℕ) → Found (ShowsRows plain_param ts) p (all_of (field_of s) xs) → Stands us n (node_tree ts (head.RecordOf None) p.numbers.items) → Found (Shows plain_value us) (record { number = n; named = p.named }) (value_of s (defined.RecordOf xs))
record_found s xs ts us p n rows stands = gathered (field_of s) plain_param (λ vs. RecordOf None (fields_in vs)) (head.RecordOf None) xs ts us p n (value_of s (defined.RecordOf xs)) (record_is s xs) (λ vs. ap (tree (head.RecordOf None)) (fields_plain vs)) rows stands

pub variant_found : (s : Spaces) (xs : List (List ℕ × Option ValType)) (ts us : List PlainTree) (p : Parts) (n : ℕ) → Found (ShowsRows plain_case ts) p (all_of (case_of s) xs) → Stands us n (node_tree ts (head.VariantOf None) p.numbers.items) → Found (Shows plain_value us) (record { number = n; named = p.named }) (value_of s (defined.VariantOf xs))
variant_found s xs ts us p n rows stands = gathered (case_of s) plain_case (λ vs. VariantOf None (cases_in vs)) (head.VariantOf None) xs ts us p n (value_of s (defined.VariantOf xs)) (variant_is s xs) (λ vs. ap (tree (head.VariantOf None)) (cases_plain vs)) rows stands

-- what was gathered has the fault of what was read
gather_fails : {Y C : Type 0} (make : List Y → C) (q : Result (List (Y × Bool)) ShapeFault) (given : Result (C × Bool) ShapeFault) (error : ScopeError) → given ≡ gather make q → Fails error q → Fails error given
gather_fails make q given error is h = subst (λ r. Fails error r) (sym is) (fails_bind q (λ rs. Ok (make (firsts rs), all_named rs)) error h)

pub tuple_fails : (s : Spaces) (xs : List ValType) (error : ScopeError) → Fails error (all_of (part_of s) xs) → Fails error (value_of s (defined.TupleOf xs))
tuple_fails s xs error h = gather_fails (λ vs. TupleOf (values_of vs)) (all_of (part_of s) xs) _ error (tuple_is s xs) h

pub record_fails : (s : Spaces) (xs : List (List ℕ × ValType)) (error : ScopeError) → Fails error (all_of (field_of s) xs) → Fails error (value_of s (defined.RecordOf xs))
record_fails s xs error h = gather_fails (λ vs. RecordOf None (fields_in vs)) (all_of (field_of s) xs) _ error (record_is s xs) h

pub variant_fails : (s : Spaces) (xs : List (List ℕ × Option ValType)) (error : ScopeError) → Fails error (all_of (case_of s) xs) → Fails error (value_of s (defined.VariantOf xs))
variant_fails s xs error h = gather_fails (λ vs. VariantOf None (cases_in vs)) (all_of (case_of s) xs) _ error (variant_is s xs) h

-- the result of a function
abbrev payload_read : Result (ValueTree × Bool) ShapeFault → Result (Payload × Bool) ShapeFault
payload_read r = r >>= λ v. Ok (present v.0, v.1)

abbrev result_read : Result (ValueTree × Bool) ShapeFault → Result (Option ValueTree × Bool) ShapeFault
result_read r = r >>= λ v. Ok (Some v.0, v.1)

part_result : (ts : List PlainTree) (x : Standing) (r : Result (ValueTree × Bool) ShapeFault) → Found (Shows plain_payload ts) x (payload_read r) → Found (Shows plain_result ts) x (result_read r)
part_result ts x (Err e) f = never e f.value f.given_is
part_result ts x (Ok v) f = let shown = subst (Shows plain_payload ts x) (sym (ok_is (present v.0, v.1) f.value f.given_is)) f.shown in
    record { value = (Some v.0, v.1); given_is = refl; shown = record { stands = shown.stands; named_is = shown.named_is } }

result_found : (s : Spaces) (o : Option ValType) (ts : List PlainTree) (x : Standing) → Found (Shows plain_payload ts) x (payload_of s o) → Found (Shows plain_result ts) x (result_of s o)
unfolding payload_of result_of
result_found s None ts x f = let shown = subst (Shows plain_payload ts x) (sym (ok_is (absent, true) f.value f.given_is)) f.shown in
    record { value = (None, true); given_is = refl; shown = record { stands = shown.stands; named_is = shown.named_is } }
result_found s (Some t) ts x f = part_result ts x (part_of s t) f

part_fault : (r : Result (ValueTree × Bool) ShapeFault) (fault : ShapeFault) → payload_read r ≡ Err fault → result_read r ≡ Err fault
part_fault (Err e) fault h = ap Err (same_fault e fault h)
part_fault (Ok v) fault h = never fault (present v.0, v.1) (sym h)

result_fault : (s : Spaces) (o : Option ValType) (fault : ShapeFault) → payload_of s o ≡ Err fault → result_of s o ≡ Err fault
unfolding payload_of result_of
result_fault s None fault h = never fault (absent, true) (sym h)
result_fault s (Some t) fault h = part_fault (part_of s t) fault h

pub func_found : (s : Spaces) (f : FuncType) (ts us vs : List PlainTree) (p : Parts) (x : Standing) (n : ℕ) → Found (ShowsRows plain_param ts) p (all_of (field_of s) f.params) → Found (Shows plain_payload us) x (payload_of s f.result) → Extends ts us → Stands vs n (node_tree us head.FuncType (x.number ∷ p.numbers.items)) → Found (Shows plain_func vs) (record { number = n; named = p.named && x.named }) (func_of s f)
unfolding func_of
func_found s f ts us vs p x n rows held grown stands =
    let r = result_found s f.result us x held in
    let params : params_of s f.params ≡ Ok (firsts rows.value, all_named rows.value) = params_are s f.params ∙ ap (gather same_list) rows.given_is in
    record {
      value = (record { params = firsts rows.value; result = r.value.0 }, all_named rows.value && r.value.1);
      given_is = rw (params, r.given_is) refl;
      shown = record {
        stands = same_stands vs n _ _ (node_is us head.FuncType (x.number ∷ p.numbers.items) _ (all_first us x.number (plain_result r.value.0) p.numbers.items _ r.shown.stands (all_kept ts us grown p.numbers.items _ rows.shown.stand))
            ∙ ap (λ xs. tree head.FuncType (trees.more (plain_result r.value.0) (trees_of xs))) (map_firsts plain_param rows.value)) stands;
        named_is = λ i. rows.shown.named_is i && r.shown.named_is i;
      };
    }

pub func_fails : (s : Spaces) (f : FuncType) (error : ScopeError) → Fails error (all_of (field_of s) f.params) → Fails error (func_of s f)
unfolding func_of
func_fails s f error h = fails_bind (params_of s f.params) _ error (gather_fails same_list (all_of (field_of s) f.params) (params_of s f.params) error (params_are s f.params) h)

pub func_result_fails : (s : Spaces) (f : FuncType) (ts : List PlainTree) (p : Parts) (error : ScopeError) → Found (ShowsRows plain_param ts) p (all_of (field_of s) f.params) → Fails error (payload_of s f.result) → Fails error (func_of s f)
unfolding func_of
func_result_fails s f ts p error rows h =
    let params : params_of s f.params ≡ Ok (firsts rows.value, all_named rows.value) = params_are s f.params ∙ ap (gather same_list) rows.given_is in
    rw params (fails_bind (result_of s f.result) _ error (fails_same (payload_of s f.result) (result_of s f.result) error (result_fault s f.result) h))

-- a result of two sides
pub sides_found : (s : Spaces) (ok err : Option ValType) (ts us vs : List PlainTree) (x y : Standing) (n : ℕ) → Found (Shows plain_payload ts) x (payload_of s ok) → Found (Shows plain_payload us) y (payload_of s err) → Extends ts us → Stands vs n (around_two head.ResultOf (tree_at us x.number) (tree_at us y.number)) → Found (Shows plain_value vs) (record { number = n; named = x.named && y.named }) (value_of s (defined.ResultOf ok err))
unfolding value_of
sides_found s ok err ts us vs x y n f g grown stands = record {
  value = (ResultOf f.value.0 g.value.0, f.value.1 && g.value.1);
  given_is = rw (f.given_is, g.given_is) refl;
  shown = record {
    stands = same_stands vs n _ _ (λ i. around_two head.ResultOf ((stands_kept ts us grown x.number _ f.shown.stands).tree_is i) (g.shown.stands.tree_is i)) stands;
    named_is = λ i. f.shown.named_is i && g.shown.named_is i;
  };
}

pub side_fails : (s : Spaces) (ok err : Option ValType) (error : ScopeError) → Fails error (payload_of s ok) → Fails error (value_of s (defined.ResultOf ok err))
unfolding value_of
side_fails s ok err error h = fails_bind (payload_of s ok) _ error h

pub second_side_fails : (s : Spaces) (ok err : Option ValType) (ts : List PlainTree) (x : Standing) (error : ScopeError) → Found (Shows plain_payload ts) x (payload_of s ok) → Fails error (payload_of s err) → Fails error (value_of s (defined.ResultOf ok err))
unfolding value_of
second_side_fails s ok err ts x error f h = rw f.given_is (fails_bind (payload_of s err) _ error h)

-- what is made of one part
around_found : (make : ValueTree → ValueTree) (h : Head) (r : Result (ValueTree × Bool) ShapeFault) (ts us : List PlainTree) (x : Standing) (n : ℕ) → ((v : ValueTree) → plain_value (make v) ≡ around h (plain_value v)) → Found (Shows plain_value ts) x r → Stands us n (around h (tree_at ts x.number)) → Found (Shows plain_value us) (record { number = n; named = x.named }) (r >>= λ v. Ok (make v.0, v.1))
around_found make h r ts us x n made f stands = record {
  value = (make f.value.0, f.value.1);
  given_is = ap (λ q. q >>= λ v. Ok (make v.0, v.1)) f.given_is;
  shown = record { stands = same_stands us n _ _ (ap (around h) f.shown.stands.tree_is ∙ sym (made f.value.0)) stands; named_is = f.shown.named_is };
}

pub list_found : (s : Spaces) (t : ValType) (ts us : List PlainTree) (x : Standing) (n : ℕ) → Found (Shows plain_value ts) x (part_of s t) → Stands us n (around head.ListOf (tree_at ts x.number)) → Found (Shows plain_value us) (record { number = n; named = x.named }) (value_of s (defined.ListOf t))
unfolding value_of
list_found s t ts us x n f stands = around_found ListOf head.ListOf (part_of s t) ts us x n (λ v. refl) f stands

pub option_found : (s : Spaces) (t : ValType) (ts us : List PlainTree) (x : Standing) (n : ℕ) → Found (Shows plain_value ts) x (part_of s t) → Stands us n (around head.OptionOf (tree_at ts x.number)) → Found (Shows plain_value us) (record { number = n; named = x.named }) (value_of s (defined.OptionOf t))
unfolding value_of
option_found s t ts us x n f stands = around_found OptionOf head.OptionOf (part_of s t) ts us x n (λ v. refl) f stands

pub list_fails : (s : Spaces) (t : ValType) (error : ScopeError) → Fails error (part_of s t) → Fails error (value_of s (defined.ListOf t))
unfolding value_of
list_fails s t error h = fails_bind (part_of s t) _ error h

pub option_fails : (s : Spaces) (t : ValType) (error : ScopeError) → Fails error (part_of s t) → Fails error (value_of s (defined.OptionOf t))
unfolding value_of
option_fails s t error h = fails_bind (part_of s t) _ error h

-- handles
pub own_found : (s : Spaces) (i : ℕ) (r : Name) (b : Bool) (us : List PlainTree) (n : ℕ) → resource_of s i ≡ Ok (r, b) → Stands us n (leaf (head.Own r)) → Found (Shows plain_value us) (record { number = n; named = b }) (value_of s (defined.Own i))
unfolding value_of
own_found s i r b us n is stands = record { value = (Own r, b); given_is = rw is refl; shown = record { stands = stands; named_is = refl } }

pub borrow_found : (s : Spaces) (i : ℕ) (r : Name) (b : Bool) (us : List PlainTree) (n : ℕ) → resource_of s i ≡ Ok (r, b) → Stands us n (leaf (head.Borrow r)) → Found (Shows plain_value us) (record { number = n; named = b }) (value_of s (defined.Borrow i))
unfolding value_of
borrow_found s i r b us n is stands = record { value = (Borrow r, b); given_is = rw is refl; shown = record { stands = stands; named_is = refl } }

pub own_fails : (s : Spaces) (i : ℕ) (error : ScopeError) → Fails error (resource_of s i) → Fails error (value_of s (defined.Own i))
unfolding value_of
own_fails s i error h = fails_bind (resource_of s i) _ error h

pub borrow_fails : (s : Spaces) (i : ℕ) (error : ScopeError) → Fails error (resource_of s i) → Fails error (value_of s (defined.Borrow i))
unfolding value_of
borrow_fails s i error h = fails_bind (resource_of s i) _ error h

-- labels
pub flags_found : (s : Spaces) (labels : List (List ℕ)) (us : List PlainTree) (n : ℕ) → Stands us n (tree (head.FlagsOf None) (trees_of (map label_plain labels))) → Found (Shows plain_value us) (record { number = n; named = true }) (value_of s (defined.FlagsOf labels))
unfolding value_of
flags_found s labels us n stands = record { value = (FlagsOf None labels, true); given_is = refl; shown = record { stands = stands; named_is = refl } }

pub enum_found : (s : Spaces) (labels : List (List ℕ)) (us : List PlainTree) (n : ℕ) → Stands us n (tree (head.EnumOf None) (trees_of (map label_plain labels))) → Found (Shows plain_value us) (record { number = n; named = true }) (value_of s (defined.EnumOf labels))
unfolding value_of
enum_found s labels us n stands = record { value = (EnumOf None labels, true); given_is = refl; shown = record { stands = stands; named_is = refl } }
