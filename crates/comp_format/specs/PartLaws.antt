-- Sorts, descriptions, aliases and instances: what is read is a form, each form is read so, and what is written is a
-- form.
use Rattle.std.proofs.Common.{◌≡◌, ℕ, List, ◌∷◌, ◌++◌, Some, Ok, refl, sym, ap, subst, ◌∙◌, append_assoc, inl, inr}
use Rattle.std.proofs.lemmas.List.Elements.{recursion_from_All}
use Rattle.warg_values.specs.ReadingLaws.{bind_ok, ok_is, wanted_ok, pick}
use Rattle.comp_format.specs.declared.types.CoreSort.{CoreSort}
use Rattle.comp_format.specs.declared.types.CoreSort.TheVariants as core
use Rattle.comp_format.specs.declared.types.Sort.{Sort}
use Rattle.comp_format.specs.declared.types.Sort.TheVariants as sort
use Rattle.comp_format.specs.declared.types.TypeRef.{TypeRef}
use Rattle.comp_format.specs.declared.types.TypeRef.TheVariants as description
use Rattle.comp_format.specs.declared.types.Arg.{Arg}
use Rattle.comp_format.specs.declared.types.InstanceItem.{InstanceItem}
use Rattle.comp_format.specs.declared.types.InstanceItem.TheVariants as instance
use Rattle.comp_format.specs.declared.types.CoreInstance.{CoreInstance}
use Rattle.comp_format.specs.declared.types.CoreInstance.TheVariants as core_instance
use Rattle.comp_format.specs.declared.types.Alias.{Alias}
use Rattle.comp_format.specs.declared.types.Alias.TheVariants as alias
use Rattle.comp_format.specs.Fault.{Form}
use Rattle.comp_format.specs.Numbers.{number_at, number_text}
use Rattle.comp_format.specs.Vectors.{vector_at, name_at, any_name_at, byte_at, mark_at, vector_text, name_text}
use Rattle.comp_format.specs.Parts.{SortForm, DescriptionForm, ArgForm, MemberForm, InstanceForm, AliasForm, CoreArgForm, CoreMemberForm, CoreInstanceForm, ExportName, core_sort_code, core_sort_of, core_sort_at, sort_at, type_at, description_at, arg_at, member_at, instantiate_at, instance_at, is_outer, alias_export_at, core_export_at, outer_at, of_core, target_at, alias_at, core_arg_at, core_member_at, core_instantiate_at, core_instance_at, export_name_at, sort_text, description_text, arg_text, member_text, instance_text, alias_text, core_arg_text, core_member_text, core_instance_text}
use Rattle.comp_format.specs.Fits.{FitsType, FitsArg, FitsInstance, FitsAlias, FitsCoreArg, FitsCoreMember, FitsCoreInstance}
use Rattle.comp_format.specs.NumberLaws.{number_form, number_again, number_written}
use Rattle.comp_format.specs.VectorLaws.{IsSound, IsComplete, vector_form, vector_again, vector_written, name_form, name_again, name_written, any_name_form, any_name_again, any_name_written, byte_form, mark_form, known_ok, some_is, behind}

-- ---- sorts

core_sort_sound : (b : ℕ) (c : CoreSort) → core_sort_of b ≡ Some c → b ≡ core_sort_code c
core_sort_sound b c e =
    pick b 0x00 _ _ _ e (λ h k. h ∙ ap core_sort_code (some_is core.Func c k)) (λ e.
    pick b 0x01 _ _ _ e (λ h k. h ∙ ap core_sort_code (some_is core.Table c k)) (λ e.
    pick b 0x02 _ _ _ e (λ h k. h ∙ ap core_sort_code (some_is core.Memory c k)) (λ e.
    pick b 0x03 _ _ _ e (λ h k. h ∙ ap core_sort_code (some_is core.Global c k)) (λ e.
    pick b 0x10 _ _ _ e (λ h k. h ∙ ap core_sort_code (some_is core.Ty c k)) (λ e.
    pick b 0x11 _ _ _ e (λ h k. h ∙ ap core_sort_code (some_is core.Module c k)) (λ e.
    pick b 0x12 _ _ _ e (λ h k. h ∙ ap core_sort_code (some_is core.Instance c k)) (λ e. absurd cc)))))))

core_sort_complete : (c : CoreSort) → core_sort_of (core_sort_code c) ≡ Some c
core_sort_complete core.Func = refl
core_sort_complete core.Table = refl
core_sort_complete core.Memory = refl
core_sort_complete core.Global = refl
core_sort_complete core.Ty = refl
core_sort_complete core.Module = refl
core_sort_complete core.Instance = refl

pub core_sort_form : (bytes : List ℕ) (x : CoreSort × List ℕ) → core_sort_at bytes ≡ Ok x → bytes ≡ core_sort_code x.0 ∷ x.1
unfolding core_sort_at
core_sort_form bytes x e =
    let b = bind_ok (byte_at bytes) _ x e in
    let known = known_ok Form (core_sort_of b.0.0) b.0.1 x b.2 in
    byte_form bytes b.0 b.1 ∙ ap (λ (c : ℕ). c ∷ b.0.1) (core_sort_sound b.0.0 x.0 known.0) ∙ ap (λ (r : List ℕ). core_sort_code x.0 ∷ r) known.1

pub core_sort_again : (c : CoreSort) (rest : List ℕ) → core_sort_at (core_sort_code c ∷ rest) ≡ Ok (c, rest)
unfolding core_sort_at
core_sort_again c rest = rw (core_sort_complete c) refl

pub sort_form : IsSound sort_at SortForm
unfolding sort_at
sort_form bytes x e =
    let b = bind_ok (byte_at bytes) _ x e in
    let front = byte_form bytes b.0 b.1 in
    pick b.0.0 0 _ _ _ b.2 (λ h k.
    let c = bind_ok (core_sort_at b.0.1) _ x k in
    behind SortForm 0 bytes b.0 (sort.Core c.0.0, c.0.1) x front h (ok_is _ x c.2) (b.0.1, refl, core_sort_form b.0.1 c.0 c.1)) (λ e.
    pick b.0.0 1 _ _ _ e (λ h k. behind SortForm 1 bytes b.0 (sort.Func, b.0.1) x front h (ok_is _ x k) refl) (λ e.
    pick b.0.0 2 _ _ _ e (λ h k. absurd cc) (λ e.
    pick b.0.0 3 _ _ _ e (λ h k. behind SortForm 3 bytes b.0 (sort.Ty, b.0.1) x front h (ok_is _ x k) refl) (λ e.
    pick b.0.0 4 _ _ _ e (λ h k. behind SortForm 4 bytes b.0 (sort.Component, b.0.1) x front h (ok_is _ x k) refl) (λ e.
    pick b.0.0 5 _ _ _ e (λ h k. behind SortForm 5 bytes b.0 (sort.Instance, b.0.1) x front h (ok_is _ x k) refl) (λ e. absurd cc))))))

pub sort_again : IsComplete sort_at SortForm
unfolding sort_at
sort_again (sort.Core c) bytes rest h = rw (h.1, h.2, core_sort_again c rest) refl
sort_again sort.Func bytes rest h = rw h refl
sort_again sort.Ty bytes rest h = rw h refl
sort_again sort.Component bytes rest h = rw h refl
sort_again sort.Instance bytes rest h = rw h refl

pub sort_written : (s : Sort) (rest : List ℕ) → SortForm s (sort_text s ++ rest) rest
sort_written (sort.Core c) rest = (core_sort_code c ∷ rest, refl, refl)
sort_written sort.Func rest = refl
sort_written sort.Ty rest = refl
sort_written sort.Component rest = refl
sort_written sort.Instance rest = refl

-- ---- descriptions

type_form : (bytes : List ℕ) (x : TypeRef × List ℕ) → type_at bytes ≡ Ok x → DescriptionForm x.0 (3 ∷ bytes) x.1
unfolding type_at
type_form bytes x e =
    let b = bind_ok (byte_at bytes) _ x e in
    let front = byte_form bytes b.0 b.1 in
    pick b.0.0 0 _ _ _ b.2 (λ h k.
    let i = bind_ok (number_at b.0.1) _ x k in
    subst (λ (y : TypeRef × List ℕ). DescriptionForm y.0 (3 ∷ bytes) y.1) (ok_is (description.TyEqual i.0.0, i.0.1) x i.2)
    (bytes, refl, (b.0.1, front ∙ ap (λ (c : ℕ). c ∷ b.0.1) h, number_form b.0.1 i.0 i.1))) (λ e.
    pick b.0.0 1 _ _ _ e (λ h k.
    subst (λ (y : TypeRef × List ℕ). DescriptionForm y.0 (3 ∷ bytes) y.1) (ok_is (description.TyFresh, b.0.1) x k)
    (bytes, refl, front ∙ ap (λ (c : ℕ). c ∷ b.0.1) h)) (λ e. absurd cc))

pub description_form : IsSound description_at DescriptionForm
unfolding description_at
description_form bytes x e =
    let b = bind_ok (byte_at bytes) _ x e in
    let front = byte_form bytes b.0 b.1 in
    pick b.0.0 0 _ _ _ b.2 (λ h k.
    let m = bind_ok (mark_at 0x11 b.0.1) _ x k in
    let i = bind_ok (number_at m.0) _ x m.2 in
    behind DescriptionForm 0 bytes b.0 (description.Module i.0.0, i.0.1) x front h (ok_is _ x i.2) (b.0.1, refl, (m.0, mark_form 0x11 b.0.1 m.0 m.1, number_form m.0 i.0 i.1))) (λ e.
    pick b.0.0 1 _ _ _ e (λ h k.
    let i = bind_ok (number_at b.0.1) _ x k in
    behind DescriptionForm 1 bytes b.0 (description.Func i.0.0, i.0.1) x front h (ok_is _ x i.2) (b.0.1, refl, number_form b.0.1 i.0 i.1)) (λ e.
    pick b.0.0 2 _ _ _ e (λ h k. absurd cc) (λ e.
    pick b.0.0 3 _ _ _ e (λ h k. behind DescriptionForm 3 bytes b.0 x x front h refl (type_form b.0.1 x k)) (λ e.
    pick b.0.0 4 _ _ _ e (λ h k.
    let i = bind_ok (number_at b.0.1) _ x k in
    behind DescriptionForm 4 bytes b.0 (description.Component i.0.0, i.0.1) x front h (ok_is _ x i.2) (b.0.1, refl, number_form b.0.1 i.0 i.1)) (λ e.
    pick b.0.0 5 _ _ _ e (λ h k.
    let i = bind_ok (number_at b.0.1) _ x k in
    behind DescriptionForm 5 bytes b.0 (description.Instance i.0.0, i.0.1) x front h (ok_is _ x i.2) (b.0.1, refl, number_form b.0.1 i.0 i.1)) (λ e. absurd cc))))))

pub description_again : IsComplete description_at DescriptionForm
unfolding description_at type_at mark_at
description_again (description.Module i) bytes rest h = rw (h.1, h.2.1, number_again i h.2.0 rest h.2.2) refl
description_again (description.Func i) bytes rest h = rw (h.1, number_again i h.0 rest h.2) refl
description_again (description.TyEqual i) bytes rest h = rw (h.1, h.2.1, number_again i h.2.0 rest h.2.2) refl
description_again description.TyFresh bytes rest h = rw (h.1, h.2) refl
description_again (description.Component i) bytes rest h = rw (h.1, number_again i h.0 rest h.2) refl
description_again (description.Instance i) bytes rest h = rw (h.1, number_again i h.0 rest h.2) refl

pub description_written : (d : TypeRef) (rest : List ℕ) → FitsType d → DescriptionForm d (description_text d ++ rest) rest
description_written (description.Module i) rest fits = (0x11 ∷ (number_text i ++ rest), refl, (number_text i ++ rest, refl, number_written i rest fits))
description_written (description.Func i) rest fits = (number_text i ++ rest, refl, number_written i rest fits)
description_written (description.TyEqual i) rest fits = (0 ∷ (number_text i ++ rest), refl, (number_text i ++ rest, refl, number_written i rest fits))
description_written description.TyFresh rest fits = (1 ∷ rest, refl, refl)
description_written (description.Component i) rest fits = (number_text i ++ rest, refl, number_written i rest fits)
description_written (description.Instance i) rest fits = (number_text i ++ rest, refl, number_written i rest fits)

-- ---- arguments and instances

pub arg_form : IsSound arg_at ArgForm
unfolding arg_at
arg_form bytes x e =
    let name = bind_ok (name_at bytes) _ x e in
    let kind = bind_ok (sort_at name.0.1) _ x name.2 in
    let index = bind_ok (number_at kind.0.1) _ x kind.2 in
    let made : Arg × List ℕ = (record { name = name.0.0; sort = kind.0.0; index = index.0.0 }, index.0.1) in
    subst (λ (y : Arg × List ℕ). ArgForm y.0 bytes y.1) (ok_is made x index.2)
    (name.0.1, name_form bytes name.0 name.1, (kind.0.1, sort_form name.0.1 kind.0 kind.1, number_form kind.0.1 index.0 index.1))

pub arg_again : IsComplete arg_at ArgForm
unfolding arg_at
arg_again arg bytes rest h =
    rw (name_again arg.name bytes h.0 h.1, sort_again arg.sort h.0 h.2.0 h.2.1, number_again arg.index h.2.0 rest h.2.2) refl

pub arg_written : (arg : Arg) (rest : List ℕ) → FitsArg arg → ArgForm arg (arg_text arg ++ rest) rest
arg_written arg rest fits =
    let indices : List ℕ = number_text arg.index ++ rest in
    let sorts : List ℕ = sort_text arg.sort ++ indices in
    let regrouped : arg_text arg ++ rest ≡ name_text arg.name ++ sorts = simp append_assoc in
    subst (λ (bytes : List ℕ). ArgForm arg bytes rest) (sym regrouped)
    (sorts, name_written arg.name sorts fits.name, (indices, sort_written arg.sort indices, number_written arg.index rest fits.index))

pub export_name_form : IsSound export_name_at ExportName
unfolding export_name_at
export_name_form bytes x e =
    let b = bind_ok (byte_at bytes) _ x e in
    let front = byte_form bytes b.0 b.1 in
    pick b.0.0 0 _ _ _ b.2 (λ h k. inl (b.0.1, front ∙ ap (λ (c : ℕ). c ∷ b.0.1) h, name_form b.0.1 x k)) (λ e.
    pick b.0.0 1 _ _ _ e (λ h k. inr (b.0.1, front ∙ ap (λ (c : ℕ). c ∷ b.0.1) h, name_form b.0.1 x k)) (λ e. absurd cc))

pub export_name_again : IsComplete export_name_at ExportName
unfolding export_name_at
export_name_again name bytes rest (inl h) = rw h.1 (name_again name h.0 rest h.2)
export_name_again name bytes rest (inr h) = rw h.1 (name_again name h.0 rest h.2)

pub member_form : IsSound member_at MemberForm
unfolding member_at
member_form bytes x e =
    let name = bind_ok (export_name_at bytes) _ x e in
    let kind = bind_ok (sort_at name.0.1) _ x name.2 in
    let index = bind_ok (number_at kind.0.1) _ x kind.2 in
    let made : Arg × List ℕ = (record { name = name.0.0; sort = kind.0.0; index = index.0.0 }, index.0.1) in
    subst (λ (y : Arg × List ℕ). MemberForm y.0 bytes y.1) (ok_is made x index.2)
    (name.0.1, export_name_form bytes name.0 name.1, (kind.0.1, sort_form name.0.1 kind.0 kind.1, number_form kind.0.1 index.0 index.1))

pub member_again : IsComplete member_at MemberForm
unfolding member_at
member_again member bytes rest h =
    rw (export_name_again member.name bytes h.0 h.1, sort_again member.sort h.0 h.2.0 h.2.1, number_again member.index h.2.0 rest h.2.2) refl

pub member_written : (member : Arg) (rest : List ℕ) → FitsArg member → MemberForm member (member_text member ++ rest) rest
member_written member rest fits =
    let indices : List ℕ = number_text member.index ++ rest in
    let sorts : List ℕ = sort_text member.sort ++ indices in
    let regrouped : member_text member ++ rest ≡ 0 ∷ (name_text member.name ++ sorts) = simp append_assoc in
    subst (λ (bytes : List ℕ). MemberForm member bytes rest) (sym regrouped)
    (sorts, inl (name_text member.name ++ sorts, refl, name_written member.name sorts fits.name), (indices, sort_written member.sort indices, number_written member.index rest fits.index))

instantiate_form : (bytes : List ℕ) (x : InstanceItem × List ℕ) → instantiate_at bytes ≡ Ok x → InstanceForm x.0 (0 ∷ bytes) x.1
unfolding instantiate_at
instantiate_form bytes x e =
    let c = bind_ok (number_at bytes) _ x e in
    let args = bind_ok (vector_at arg_at c.0.1) _ x c.2 in
    subst (λ (y : InstanceItem × List ℕ). InstanceForm y.0 (0 ∷ bytes) y.1) (ok_is (instance.Instantiate c.0.0 args.0.0, args.0.1) x args.2)
    (bytes, refl, (c.0.1, number_form bytes c.0 c.1, vector_form arg_at ArgForm arg_form c.0.1 args.0 args.1))

pub instance_form : IsSound instance_at InstanceForm
unfolding instance_at
instance_form bytes x e =
    let b = bind_ok (byte_at bytes) _ x e in
    let front = byte_form bytes b.0 b.1 in
    pick b.0.0 0 _ _ _ b.2 (λ h k. behind InstanceForm 0 bytes b.0 x x front h refl (instantiate_form b.0.1 x k)) (λ e.
    pick b.0.0 1 _ _ _ e (λ h k.
    let members = bind_ok (vector_at member_at b.0.1) _ x k in
    behind InstanceForm 1 bytes b.0 (instance.Exports members.0.0, members.0.1) x front h (ok_is _ x members.2)
    (b.0.1, refl, vector_form member_at MemberForm member_form b.0.1 members.0 members.1)) (λ e. absurd cc))

pub instance_again : IsComplete instance_at InstanceForm
unfolding instance_at instantiate_at
instance_again (instance.Instantiate c args) bytes rest h =
    rw (h.1, number_again c h.0 h.2.0 h.2.1, vector_again arg_at ArgForm arg_again args h.2.0 rest h.2.2) refl
instance_again (instance.Exports members) bytes rest h = rw (h.1, vector_again member_at MemberForm member_again members h.0 rest h.2) refl

pub instance_written : (i : InstanceItem) (rest : List ℕ) → FitsInstance i → InstanceForm i (instance_text i ++ rest) rest
instance_written (instance.Instantiate c args) rest fits = (
  number_text c ++ (vector_text arg_text args ++ rest),
  ap (λ (r : List ℕ). 0 ∷ r) (append_assoc (number_text c) (vector_text arg_text args) rest),
  (vector_text arg_text args ++ rest, number_written c _ fits.0, vector_written arg_at ArgForm arg_text FitsArg arg_written args rest fits.1 (recursion_from_All FitsArg args fits.2)),
)
instance_written (instance.Exports members) rest fits =
    (vector_text member_text members ++ rest, refl, vector_written member_at MemberForm member_text FitsArg member_written members rest fits.0 (recursion_from_All FitsArg members fits.1))

-- ---- aliases

-- an alias behind its sort
AliasBehind : Sort → List ℕ → Alias × List ℕ → Type 0
AliasBehind kind bytes x = (start : List ℕ) → SortForm kind start bytes → AliasForm x.0 start x.1

of_core_form : (kind : Sort) (bytes rest : List ℕ) (x : Alias × List ℕ) → bytes ≡ 1 ∷ rest → of_core kind rest ≡ Ok x → AliasBehind kind bytes x
unfolding core_export_at AliasBehind
of_core_form (sort.Core c) bytes rest x front e =
    let from = bind_ok (number_at rest) _ x e in
    let name = bind_ok (any_name_at from.0.1) _ x from.2 in
    subst (AliasBehind (sort.Core c) bytes) (ok_is (alias.CoreExport c from.0.0 name.0.0, name.0.1) x name.2)
    (λ start is. (bytes, is, (rest, front, (from.0.1, number_form rest from.0 from.1, any_name_form from.0.1 name.0 name.1))))
of_core_form sort.Func bytes rest x front e = absurd cc
of_core_form sort.Ty bytes rest x front e = absurd cc
of_core_form sort.Component bytes rest x front e = absurd cc
of_core_form sort.Instance bytes rest x front e = absurd cc

target_form : (kind : Sort) (bytes : List ℕ) (x : Alias × List ℕ) → target_at kind bytes ≡ Ok x → AliasBehind kind bytes x
unfolding target_at alias_export_at outer_at AliasBehind
target_form kind bytes x e =
    let b = bind_ok (byte_at bytes) _ x e in
    let front = byte_form bytes b.0 b.1 in
    pick b.0.0 0 _ _ _ b.2 (λ h k.
    let from = bind_ok (number_at b.0.1) _ x k in
    let name = bind_ok (name_at from.0.1) _ x from.2 in
    subst (AliasBehind kind bytes) (ok_is (alias.Export kind from.0.0 name.0.0, name.0.1) x name.2)
    (λ start is. (bytes, is, (b.0.1, front ∙ ap (λ (c : ℕ). c ∷ b.0.1) h, (from.0.1, number_form b.0.1 from.0 from.1, name_form from.0.1 name.0 name.1))))) (λ e.
    pick b.0.0 1 _ _ _ e (λ h k. of_core_form kind bytes b.0.1 x (front ∙ ap (λ (c : ℕ). c ∷ b.0.1) h) k) (λ e.
    pick b.0.0 2 _ _ _ e (λ h k.
    let outer = wanted_ok (is_outer kind) Form _ x k in
    let count = bind_ok (number_at b.0.1) _ x outer.1 in
    let index = bind_ok (number_at count.0.1) _ x count.2 in
    subst (AliasBehind kind bytes) (ok_is (alias.Outer kind count.0.0 index.0.0, index.0.1) x index.2)
    (λ start is. (outer.0, (bytes, is, (b.0.1, front ∙ ap (λ (c : ℕ). c ∷ b.0.1) h, (count.0.1, number_form b.0.1 count.0 count.1, number_form count.0.1 index.0 index.1)))))) (λ e. absurd cc)))

pub alias_form : IsSound alias_at AliasForm
unfolding alias_at AliasBehind
alias_form bytes x e =
    let kind = bind_ok (sort_at bytes) _ x e in
    target_form kind.0.0 kind.0.1 x kind.2 bytes (sort_form bytes kind.0 kind.1)

pub alias_again : IsComplete alias_at AliasForm
unfolding alias_at target_at alias_export_at core_export_at outer_at
alias_again (alias.Export kind from name) bytes rest h =
    rw (sort_again kind bytes h.0 h.1, h.2.1, number_again from h.2.0 h.2.2.0 h.2.2.1, name_again name h.2.2.0 rest h.2.2.2) refl
alias_again (alias.CoreExport kind from name) bytes rest h =
    rw (sort_again (sort.Core kind) bytes h.0 h.1, h.2.1, number_again from h.2.0 h.2.2.0 h.2.2.1, any_name_again name h.2.2.0 rest h.2.2.2) refl
alias_again (alias.Outer kind count index) bytes rest h =
    rw (sort_again kind bytes h.1.0 h.1.1, h.1.2.1, h.0, number_again count h.1.2.0 h.1.2.2.0 h.1.2.2.1, number_again index h.1.2.2.0 rest h.1.2.2.2) refl

pub alias_written : (a : Alias) (rest : List ℕ) → FitsAlias a → AliasForm a (alias_text a ++ rest) rest
alias_written (alias.Export kind from name) rest fits =
    let ends : List ℕ = number_text from ++ (name_text name ++ rest) in
    rw append_assoc (
      0 ∷ ((number_text from ++ name_text name) ++ rest),
      sort_written kind _,
      (ends, ap (λ (r : List ℕ). 0 ∷ r) (append_assoc (number_text from) (name_text name) rest), (name_text name ++ rest, number_written from _ fits.0, name_written name rest fits.1)),
    )
alias_written (alias.CoreExport kind from name) rest fits =
    let ends : List ℕ = number_text from ++ (name_text name ++ rest) in
    rw append_assoc (
      1 ∷ ((number_text from ++ name_text name) ++ rest),
      sort_written (sort.Core kind) _,
      (ends, ap (λ (r : List ℕ). 1 ∷ r) (append_assoc (number_text from) (name_text name) rest), (name_text name ++ rest, number_written from _ fits.0, any_name_written name rest fits.1)),
    )
alias_written (alias.Outer kind count index) rest fits =
    let ends : List ℕ = number_text count ++ (number_text index ++ rest) in (
      fits.0,
      rw append_assoc (
        2 ∷ ((number_text count ++ number_text index) ++ rest),
        sort_written kind _,
        (ends, ap (λ (r : List ℕ). 2 ∷ r) (append_assoc (number_text count) (number_text index) rest), (number_text index ++ rest, number_written count _ fits.1, number_written index rest fits.2)),
      ),
    )

-- ---- core instances

core_arg_form : IsSound core_arg_at CoreArgForm
unfolding core_arg_at
core_arg_form bytes x e =
    let name = bind_ok (any_name_at bytes) _ x e in
    let after = bind_ok (mark_at 0x12 name.0.1) _ x name.2 in
    let index = bind_ok (number_at after.0) _ x after.2 in
    subst (λ (y : (List ℕ × ℕ) × List ℕ). CoreArgForm y.0 bytes y.1) (ok_is ((name.0.0, index.0.0), index.0.1) x index.2)
    (name.0.1, any_name_form bytes name.0 name.1, (after.0, mark_form 0x12 name.0.1 after.0 after.1, number_form after.0 index.0 index.1))

core_arg_again : IsComplete core_arg_at CoreArgForm
unfolding core_arg_at mark_at
core_arg_again arg bytes rest h = rw (any_name_again arg.0 bytes h.0 h.1, h.2.1, number_again arg.1 h.2.0 rest h.2.2) refl

core_arg_written : (arg : List ℕ × ℕ) (rest : List ℕ) → FitsCoreArg arg → CoreArgForm arg (core_arg_text arg ++ rest) rest
core_arg_written arg rest fits =
    let indices : List ℕ = number_text arg.1 ++ rest in
    let sorts : List ℕ = 0x12 ∷ indices in
    let regrouped : core_arg_text arg ++ rest ≡ name_text arg.0 ++ sorts = simp append_assoc in
    subst (λ (bytes : List ℕ). CoreArgForm arg bytes rest) (sym regrouped)
    (sorts, any_name_written arg.0 sorts fits.0, (indices, refl, number_written arg.1 rest fits.1))

core_member_form : IsSound core_member_at CoreMemberForm
unfolding core_member_at
core_member_form bytes x e =
    let name = bind_ok (any_name_at bytes) _ x e in
    let kind = bind_ok (core_sort_at name.0.1) _ x name.2 in
    let index = bind_ok (number_at kind.0.1) _ x kind.2 in
    subst (λ (y : (List ℕ × CoreSort × ℕ) × List ℕ). CoreMemberForm y.0 bytes y.1) (ok_is ((name.0.0, kind.0.0, index.0.0), index.0.1) x index.2)
    (name.0.1, any_name_form bytes name.0 name.1, (kind.0.1, core_sort_form name.0.1 kind.0 kind.1, number_form kind.0.1 index.0 index.1))

core_member_again : IsComplete core_member_at CoreMemberForm
unfolding core_member_at
core_member_again member bytes rest h =
    rw (any_name_again member.0 bytes h.0 h.1, h.2.1, core_sort_again member.1 h.2.0, number_again member.2 h.2.0 rest h.2.2) refl

core_member_written : (member : List ℕ × CoreSort × ℕ) (rest : List ℕ) → FitsCoreMember member → CoreMemberForm member (core_member_text member ++ rest) rest
core_member_written member rest fits =
    let indices : List ℕ = number_text member.2 ++ rest in
    let sorts : List ℕ = core_sort_code member.1 ∷ indices in
    let regrouped : core_member_text member ++ rest ≡ name_text member.0 ++ sorts = simp append_assoc in
    subst (λ (bytes : List ℕ). CoreMemberForm member bytes rest) (sym regrouped)
    (sorts, any_name_written member.0 sorts fits.0, (indices, refl, number_written member.2 rest fits.1))

core_instantiate_form : (bytes : List ℕ) (x : CoreInstance × List ℕ) → core_instantiate_at bytes ≡ Ok x → CoreInstanceForm x.0 (0 ∷ bytes) x.1
unfolding core_instantiate_at
core_instantiate_form bytes x e =
    let m = bind_ok (number_at bytes) _ x e in
    let args = bind_ok (vector_at core_arg_at m.0.1) _ x m.2 in
    subst (λ (y : CoreInstance × List ℕ). CoreInstanceForm y.0 (0 ∷ bytes) y.1) (ok_is (core_instance.Instantiate m.0.0 args.0.0, args.0.1) x args.2)
    (bytes, refl, (m.0.1, number_form bytes m.0 m.1, vector_form core_arg_at CoreArgForm core_arg_form m.0.1 args.0 args.1))

pub core_instance_form : IsSound core_instance_at CoreInstanceForm
unfolding core_instance_at
core_instance_form bytes x e =
    let b = bind_ok (byte_at bytes) _ x e in
    let front = byte_form bytes b.0 b.1 in
    pick b.0.0 0 _ _ _ b.2 (λ h k. behind CoreInstanceForm 0 bytes b.0 x x front h refl (core_instantiate_form b.0.1 x k)) (λ e.
    pick b.0.0 1 _ _ _ e (λ h k.
    let members = bind_ok (vector_at core_member_at b.0.1) _ x k in
    behind CoreInstanceForm 1 bytes b.0 (core_instance.Exports members.0.0, members.0.1) x front h (ok_is _ x members.2)
    (b.0.1, refl, vector_form core_member_at CoreMemberForm core_member_form b.0.1 members.0 members.1)) (λ e. absurd cc))

pub core_instance_again : IsComplete core_instance_at CoreInstanceForm
unfolding core_instance_at core_instantiate_at
core_instance_again (core_instance.Instantiate m args) bytes rest h =
    rw (h.1, number_again m h.0 h.2.0 h.2.1, vector_again core_arg_at CoreArgForm core_arg_again args h.2.0 rest h.2.2) refl
core_instance_again (core_instance.Exports members) bytes rest h = rw (h.1, vector_again core_member_at CoreMemberForm core_member_again members h.0 rest h.2) refl

pub core_instance_written : (i : CoreInstance) (rest : List ℕ) → FitsCoreInstance i → CoreInstanceForm i (core_instance_text i ++ rest) rest
core_instance_written (core_instance.Instantiate m args) rest fits = (
  number_text m ++ (vector_text core_arg_text args ++ rest),
  ap (λ (r : List ℕ). 0 ∷ r) (append_assoc (number_text m) (vector_text core_arg_text args) rest),
  (vector_text core_arg_text args ++ rest, number_written m _ fits.0, vector_written core_arg_at CoreArgForm core_arg_text FitsCoreArg core_arg_written args rest fits.1 (recursion_from_All FitsCoreArg args fits.2)),
)
core_instance_written (core_instance.Exports members) rest fits =
    (vector_text core_member_text members ++ rest, refl, vector_written core_member_at CoreMemberForm core_member_text FitsCoreMember core_member_written members rest fits.0 (recursion_from_All FitsCoreMember members fits.1))
