use Rattle.std.proofs.Common.{ℕ, ◌≡◌, ◌<◌, ◌^◌, ◌++◌, ◌∷◌, [], true, List, Option, Some, None, Bor, sym, ap, subst, ◌∙◌}
use Rattle.std.specs.Prelude.{MatchOption}
use Rattle.comp_format.specs.Items.{ItemTree, item_tree}
use Rattle.comp_encoder.specs.Writing.{Single, is_shared, is_plain, item_id}
use Rattle.comp_encoder.specs.Builder.{Kept, Item, IsBytesOf, IsBuilt, entries_of}
use Rattle.comp_encoder.proofs.CountLaws.{item_built, entries_item}
use Rattle.comp_encoder.proofs.builder.ComponentBuilder.push_item.Goals as goal
use Rattle.comp_encoder.proofs.builder.ComponentBuilder.push_item.Goals.{in-None+in_ok-self-inside-in-None, in-Some+in_ok-push_section-in-Some}

none_has : {A : Type 0} (P : Type 0) (Q : A → Type 0) (o : Option A) → o ≡ None → MatchOption o P Q → P
none_has P Q o e h = subst (λ (x : Option _). MatchOption x P Q) e h

some_has : {A : Type 0} (P : Type 0) (Q : A → Type 0) (o : Option A) (x : A) → o ≡ Some x → MatchOption o P Q → Q x
some_has P Q o x e h = subst (λ (y : Option _). MatchOption y P Q) e h

-- the item's bytes stand behind what was kept
record Pushed (before after : List Kept) (item : ItemTree) : Type 0 where
  bytes : List ℕ
  are : after ≡ before ++ Item (item_id item) bytes ∷ []
  of_it : IsBytesOf item (item_id item) bytes

pushed : (c : goal.After-counts-2-1) → Pushed c.self.inside.built c.match-lent.self-inside.built (item_tree c.args.item.now)
pushed c =
    let item : ItemTree = item_tree c.args.item.now in
    let shared : Type 0 = (is_shared (item_id item) ≡ true) × IsBytesOf item (item_id item) c.in_ok-written.written.items in
    let alone = λ (lent : Bor (List ℕ)). (is_plain (item_id item) ≡ true) × IsBytesOf item (item_id item) (c.in_ok-written.written.items ++ lent.now) in
    let behind = λ (bytes : List ℕ). ap (λ (ks : List Kept). ks ++ Item c.section_of-id.result bytes ∷ []) (c.self-2.view_is ∙ c.take_buffer.ensures ∙ sym c.self.view_is)
    ∙ ap (λ id. c.self.inside.built ++ Item id bytes ∷ []) c.section_of-id.ensures in
    elim c.match-lent.branch [
      | in-None+in_ok-self-inside-in-None w ↦ record {
        bytes = c.in_ok-written.written.items;
        are = ap (λ s. s.built) w.self-inside-is ∙ w.in_ok-self-inside-in-None.ensures.added ∙ behind c.in_ok-written.written.items;
        of_it = (none_has shared alone c.in_ok-written.lent w.in-None.is c.in_ok-written.ensures).1;
      }
      | in-Some+in_ok-push_section-in-Some w ↦ record {
        bytes = w.deref.result.now ++ w.in-Some.lent.now;
        are = ap (λ s. s.built) w.self-inside-is ∙ w.in_ok-push_section-in-Some.ensures.added ∙ behind (w.deref.result.now ++ w.in-Some.lent.now);
        of_it = subst (λ (t : List ℕ). IsBytesOf item (item_id item) (t ++ w.in-Some.lent.now)) (sym w.deref.ensures.value) (some_has shared alone c.in_ok-written.lent w.in-Some.lent w.in-Some.is c.in_ok-written.ensures).1;
      }
    ]

pub invariant_of-self-2 : goal.invariant_of-self-2
invariant_of-self-2 c =
    let new = pushed c in
    let item : ItemTree = item_tree c.args.item.now in
    let built : IsBuilt (c.self.inside.built ++ Item (item_id item) new.bytes ∷ []) c.in_ok-counts.counts =
    item_built c.self.inside.built c.self.inside.counts c.in_ok-counts.counts item (item_id item) new.bytes c.self.invariant new.of_it c.in_ok-counts.ensures.counted c.in_ok-counts.ensures.small in
    subst (λ (ks : List Kept). IsBuilt ks c.in_ok-counts.counts) (sym new.are) built

pub returns-clause-added : goal.returns-clause-added
returns-clause-added c =
    let new = pushed c in
    let item : ItemTree = item_tree c.args.item.now in
    ap entries_of new.are ∙ entries_item c.self.inside.built item (item_id item) new.bytes new.of_it ∙ ap (λ (ks : List Kept). entries_of ks ++ Single item ∷ []) c.self.view_is

pub returns-clause-small : goal.returns-clause-small
returns-clause-small c = λ kind.
    let built : IsBuilt c.match-lent.self-inside.built c.in_ok-counts.counts = invariant_of-self-2 c in
    subst (λ n. n < 2 ^ 32) (built.counted kind) (built.small kind)
