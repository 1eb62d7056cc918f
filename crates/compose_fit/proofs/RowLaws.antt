-- Laws of imports and exports in memory, as trees of heads.
use Rattle.std.specs.Prelude.{◌≡◌, ℕ, ◌+◌, ◌<◌, List, [], ◌∷◌, ◌++◌, map, take, length, slice_index_or, refl}
use Rattle.std.proofs.Common.{sym, ap, subst, arith}
use Rattle.std.proofs.lemmas.List.{take_more, take_all}
use Rattle.comp_entity.specs.declared.entity.Entity.{Entity}
use Rattle.comp_entity.specs.Views.{entries_of, named_entities, entity_tree}
use Rattle.comp_table.specs.Trees.{more, trees_of}
use Rattle.comp_table.specs.Plain.{plain_entries}
use Rattle.comp_table.specs.Shown.{IsShown, AreShown}
use Rattle.comp_table.specs.Rows.{entry_plain}

pub entries_plain : (es : List (List ℕ × Entity)) → plain_entries (entries_of (named_entities es)) ≡ trees_of (map entry_plain es)
entries_plain [] = refl
entries_plain (e ∷ es) = ap (more (entry_plain e)) (entries_plain es)

shown_push : (es : List (List ℕ × Entity)) (e : List ℕ × Entity) → AreShown (entries_of (named_entities es)) → IsShown (entity_tree e.1) → AreShown (entries_of (named_entities (es ++ e ∷ [])))
shown_push [] e a s = (s, tt)
shown_push (x ∷ es) e a s = (a.0, shown_push es e a.1 s)

pub shown_step : (es : List (List ℕ × Entity)) (i : ℕ) (e : List ℕ × Entity) → i < length es → e ≡ slice_index_or es i e → AreShown (entries_of (named_entities (take i es))) → IsShown (entity_tree e.1) → AreShown (entries_of (named_entities (take (i + 1) es)))
shown_step es i e lt is a s =
    subst (λ xs. AreShown (entries_of (named_entities xs))) (sym (take_more es i e lt))
    (subst (λ x. AreShown (entries_of (named_entities (take i es ++ x ∷ [])))) is (shown_push (take i es) e a s))

pub shown_end : (es : List (List ℕ × Entity)) → AreShown (entries_of (named_entities (take (length es) es))) → AreShown (entries_of (named_entities es))
shown_end es a = subst (λ xs. AreShown (entries_of (named_entities xs))) (take_all (length es) es (omega arith)) a
