use Rattle.std.proofs.Common.{◌<◌, ℕ, List, length, map, refl, subst, sym, Vec}
use Rattle.std.specs.Global.{Global}
use Rattle.std.specs.List.{AllByRecursion}
use Rattle.compose_check.specs.Composition.{composition_tree}
use Rattle.compose_order.specs.Known.{left_tree}
use Rattle.compose_encode.specs.Encoded.{IsEncoded, IsOfWritten}
use Rattle.compose_encode.specs.Whole.{IsWhole}
use Rattle.compose_encode.proofs.OrderLaws.{all_named, instances_there}
use Rattle.compose_encode.proofs.WholeLaws.{if_ok, imported_hide_nothing, own_imports}
use Rattle.compose_encode.proofs.whole.written.Goals as goal

pub encode_agreed-requires-clause-writable : goal.encode_agreed-requires-clause-writable
encode_agreed-requires-clause-writable c =
    let k = composition_tree c.args.composition.now in
    record {
      composition = c.requires.made;
      named = all_named k.components (c.compositions_are_of_shapes_that_are_read.ensures.imports k c.args.composition.now.components.items refl);
      there =
          subst (AllByRecursion (λ i. i < length k.instances)) (sym c.deref.ensures.value)
          (instances_there k c.args.agreed.order.items c.requires.possible.sound.in_order);
    }

pub encode_agreed-requires-clause-imports : goal.encode_agreed-requires-clause-imports
encode_agreed-requires-clause-imports c =
    let k = composition_tree c.args.composition.now in
    c.sound_compositions_of_components_can_be_written.ensures k c.args.composition.now.components.items refl c.args.define
    c.args.agreed.order.items (map left_tree c.args.agreed.lefts.items) c.requires.made c.requires.possible.sound
    (imported_hide_nothing k c.args.define c.args.export c.requires.possible.had)

pub encode_agreed-requires-clause-called : goal.encode_agreed-requires-clause-called
encode_agreed-requires-clause-called c =
    let k = composition_tree c.args.composition.now in
    c.what_is_called_has_a_path.ensures k c.args.agreed.order.items (map left_tree c.args.agreed.lefts.items)
    c.requires.possible.sound
    (c.compositions_are_of_shapes_that_are_read.ensures.imports k c.args.composition.now.components.items refl)

pub returns-clause-among : goal.returns-clause-among
returns-clause-among c = λ n e.
    subst (λ (o : List ℕ). IsOfWritten n (composition_tree c.args.composition.now) c.args.define c.args.export o
    (map left_tree c.args.agreed.lefts.items)) c.deref.ensures.value (c.encode_agreed.ensures.among n e)

pub returns-clause-whole : goal.returns-clause-whole
returns-clause-whole c =
    let k = composition_tree c.args.composition.now in
    let lefts = map left_tree c.args.agreed.lefts.items in
    let order = c.args.agreed.order.items in
    let sound = c.requires.possible.sound in
    let own = c.what_is_left_open_is_imported.ensures.defined k order lefts sound in
    let names = own_imports k c.args.define lefts c.requires.names c.requires.possible.apart own in
    if_ok _ (λ (bytes : Vec ℕ Global). IsWhole k c.args.define c.args.export bytes.items) c.encode_agreed.result
    (λ bytes h. record {
      order = order;
      lefts = lefts;
      possible = c.requires.possible;
      items = h.0;
      imports = h.1;
      encoded = subst (λ (o : List ℕ). IsEncoded k c.args.define c.args.export o h.0 bytes.items) c.deref.ensures.value h.2;
      image = λ shown. c.what_is_written_has_the_image.ensures k c.args.define c.args.export order lefts h.0 shown c.requires.made sound names c.requires.export h.1;
    })
    c.encode_agreed.ensures.encoded
