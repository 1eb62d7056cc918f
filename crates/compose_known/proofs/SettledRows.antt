-- With one number for each of its named types, the composition of Rows can be written, in either order.
use Rattle.std.proofs.Common.{◌≡◌, [], ◌∷◌, map, refl, true}
use Rattle.std.specs.Prelude.{is_some}
use Rattle.comp_entity.specs.Entity.{made, IsInstance, no_entry, entry}
use Rattle.compose_left.specs.Origins.{origin_within}
use Rattle.compose_writing.specs.Scopes.{outermost, along, brought as brought_in, change_top, closed, knows, on_top, standing, type_index}
use Rattle.compose_writing.specs.WriteValues.{write_defined, write_func, write_params, write_result}
use Rattle.compose_writing.specs.WriteEntities.{note_all, note_here, with_named, write_entity}
use Rattle.compose_check.specs.Open.{lefts}
use Rattle.compose_image.specs.Imports.{all_called, write_lefts}
use Rattle.compose_naming.specs.Settled.{names_of, settled}
use Rattle.compose_known.proofs.Rows.{a_type, f, g, left_p, left_t, r, takes, turned}

-- both numbers of the enum are written as the one under which it stands in p
names_row : names_of left_p ≡ (made 2, made 2) ∷ (made 5, made 2) ∷ []
names_row = refl

settled_row : (settled left_p).entity
    ≡ IsInstance (entry r (a_type (made 2)) true
    (entry f (takes (made 2)) true (entry g (takes (made 2)) true no_entry)))
settled_row = refl

written_row : is_some (write_lefts (map settled (left_t ∷ left_p ∷ [])) (outermost ∷ [])) ≡ true
unfolding write_lefts all_called write_entity write_defined write_func write_params write_result note_all note_here
    with_named closed on_top change_top type_index standing brought_in along knows
written_row = refl

turned_row : is_some (write_lefts (map settled (lefts turned)) (outermost ∷ [])) ≡ true
unfolding origin_within write_lefts all_called write_entity write_defined write_func write_params write_result note_all
    note_here with_named closed on_top change_top type_index standing brought_in along knows
turned_row = refl
