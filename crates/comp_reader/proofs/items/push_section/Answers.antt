use Rattle.std.proofs.Common.{◌≡◌, [], ◌∷◌, ◌++◌, map, sym, ◌∙◌}
use Rattle.std.proofs.lemmas.List.{map_push}
use Rattle.comp_format.specs.declared.types.CoreInstance.{CoreInstance}
use Rattle.comp_format.specs.declared.types.InstanceItem.{InstanceItem}
use Rattle.comp_format.specs.declared.types.Alias.{Alias}
use Rattle.comp_format.specs.declared.types.Canon.{Canon}
use Rattle.comp_format.specs.Items.{Custom, CoreModule, item_tree}
use Rattle.comp_format.specs.Sections.{Named, CoreModules, CoreInstances, CoreTypes, Instances, Aliases, Types, Canons, Imports, Exports}
use Rattle.comp_format.specs.Views.{core_tree, type_tree}
use Rattle.comp_reader.specs.Views.{import_tree, export_tree}
use Rattle.comp_reader.proofs.ContentLaws.{custom_is, core_module_is, core_instances_are, core_types_are, instances_are, aliases_are, types_are, canons_are, imports_are, exports_are}
use Rattle.comp_reader.proofs.items.push_section.Goals as goal

pub returns-in_ok-push-in-0 : goal.returns-in_ok-push-in-0
returns-in_ok-push-in-0 c =
    let name = c.in_ok-name-in-0.name in
    let bytes = c.in_ok-name-in-0.bytes.now in
    let added : map item_tree c.push.new.self.items ≡ map item_tree c.args.items.now.items ++ Custom name bytes ∷ [] = rw c.in_ok-push-in-0.ensures.items (map_push item_tree c.args.items.now.items _) in
    (Named name bytes, custom_is c.args.scopes c.args.id c.args.content.now name bytes c.in-0.is c.in_ok-name-in-0.ensures, added)

pub returns-in_ok-push-in-1 : goal.returns-in_ok-push-in-1
returns-in_ok-push-in-1 c =
    let bytes = c.args.content.now in
    let added : map item_tree c.push-in-1.new.self.items ≡ map item_tree c.args.items.now.items ++ CoreModule bytes ∷ [] = rw c.in_ok-push-in-1.ensures.items (map_push item_tree c.args.items.now.items _) in
    (CoreModules bytes, core_module_is c.args.scopes c.args.id bytes c.in-1.is (sym c.starts_with.ensures.value ∙ c.if-not-starts_with.false), added)

pub returns-in_ok-push_all-in-2 : goal.returns-in_ok-push_all-in-2
returns-in_ok-push_all-in-2 c =
    let xs = map (λ (i : CoreInstance). i) c.in_ok-whole_of-in-2.field-0.items in
    (CoreInstances xs, core_instances_are c.args.scopes c.args.id c.args.content.now xs c.in-2.is c.in_ok-whole_of-in-2.ensures, c.in_ok-push_all-in-2.ensures.added)

pub returns-in_ok-push_all-in-3 : goal.returns-in_ok-push_all-in-3
returns-in_ok-push_all-in-3 c =
    let xs = map core_tree c.in_ok-whole_of-in-3.field-0.items in
    (CoreTypes xs, core_types_are c.args.scopes c.args.id c.args.content.now xs c.in-3.is c.in_ok-whole_of-in-3.ensures, c.in_ok-push_all-in-3.ensures.added)

pub returns-in_ok-push_all-in-5 : goal.returns-in_ok-push_all-in-5
returns-in_ok-push_all-in-5 c =
    let xs = map (λ (i : InstanceItem). i) c.in_ok-whole_of-in-5.field-0.items in
    (Instances xs, instances_are c.args.scopes c.args.id c.args.content.now xs c.in-5.is c.in_ok-whole_of-in-5.ensures, c.in_ok-push_all-in-5.ensures.added)

pub returns-in_ok-push_all-in-6 : goal.returns-in_ok-push_all-in-6
returns-in_ok-push_all-in-6 c =
    let xs = map (λ (a : Alias). a) c.in_ok-whole_of-in-6.field-0.items in
    (Aliases xs, aliases_are c.args.scopes c.args.id c.args.content.now xs c.in-6.is c.in_ok-whole_of-in-6.ensures, c.in_ok-push_all-in-6.ensures.added)

pub returns-in_ok-push_all-in-7 : goal.returns-in_ok-push_all-in-7
returns-in_ok-push_all-in-7 c =
    let xs = map type_tree c.in_ok-whole_of-in-7.field-0.items in
    (Types xs, types_are c.args.scopes c.args.id c.args.content.now xs c.in-7.is c.in_ok-whole_of-in-7.ensures, c.in_ok-push_all-in-7.ensures.added)

pub returns-in_ok-push_all-in-8 : goal.returns-in_ok-push_all-in-8
returns-in_ok-push_all-in-8 c =
    let xs = map (λ (x : Canon). x) c.in_ok-whole_of-in-8.field-0.items in
    (Canons xs, canons_are c.args.scopes c.args.id c.args.content.now xs c.in-8.is c.in_ok-whole_of-in-8.ensures, c.in_ok-push_all-in-8.ensures.added)

pub returns-in_ok-push_all-in-10 : goal.returns-in_ok-push_all-in-10
returns-in_ok-push_all-in-10 c =
    let xs = map import_tree c.in_ok-whole_of-in-10.field-0.items in
    (Imports xs, imports_are c.args.scopes c.args.id c.args.content.now xs c.in-10.is c.in_ok-whole_of-in-10.ensures, c.in_ok-push_all-in-10.ensures.added)

pub returns-in_ok-push_all-in-11 : goal.returns-in_ok-push_all-in-11
returns-in_ok-push_all-in-11 c =
    let xs = map export_tree c.in_ok-whole_of-in-11.field-0.items in
    (Exports xs, exports_are c.args.scopes c.args.id c.args.content.now xs c.in-11.is c.in_ok-whole_of-in-11.ensures, c.in_ok-push_all-in-11.ensures.added)
