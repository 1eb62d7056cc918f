-- Items that are seen behind others: the image so far, and what the index spaces number.
use Rattle.std.proofs.Common.{◌≡◌, ◌∙◌, ◌⊎◌, inl, inr, ℕ, ◌+◌, ◌<◌, Bool, false, cond, eqb, List, [], ◌∷◌, ◌++◌, length, Some, option_and_then, refl, sym, ap, subst, arith, length-append}
use Rattle.std.specs.List.{AllByRecursion}
use Rattle.std.proofs.lemmas.List.{append-nil, append_assoc}
use Rattle.std.proofs.lemmas.Bool.{eq-eqb}
use Rattle.comp_format.specs.declared.types.CoreSort.TheVariants as core
use Rattle.comp_format.specs.declared.types.Sort.{Sort}
use Rattle.comp_format.specs.declared.types.Sort.TheVariants as sort
use Rattle.comp_format.specs.declared.types.Alias.TheVariants as alias
use Rattle.comp_format.specs.declared.types.TypeRef.{TypeRef}
use Rattle.comp_format.specs.declared.types.TypeRef.TheVariants as description
use Rattle.comp_format.specs.Items.{ItemTree, CoreTy, Ty, Aliased}
use Rattle.comp_format.specs.Spaces.{space_of}
use Rattle.comp_encoder.specs.Writing.{described_sort, item_sort, numbered}
use Rattle.comp_scope.specs.Image.{ComponentOf, Image, Indexed, OfComponent, Own, Progress, as_export, indexed, numbering, or_own, seen, seen_all, sort_described, with_component}
use Rattle.compose_image.proofs.QuietLaws.{IsQuiet}
use Rattle.compose_image.proofs.SpaceLaws.{Counts, Stands, Stays, counts_more, last_stands, numbered_more, seen_append, stays_here, stays_on, stays_pushed}

pub same_sort : (ty : TypeRef) → sort_described ty ≡ described_sort ty
same_sort (description.Module i) = refl
same_sort (description.Func i) = refl
same_sort (description.TyEqual i) = refl
same_sort description.TyFresh = refl
same_sort (description.Component i) = refl
same_sort (description.Instance i) = refl

module _ (is_component : List ℕ → Bool) where
  -- Behind others some items are seen, and what was numbered stays.
  pub record Passes (p : Progress) (before items : List ItemTree) (q : Progress) : Type 0 where
    pub seen : seen_all is_component p items ≡ Some q
    pub counts : Counts (before ++ items) q.numbered
    pub stays : Stays p.numbered q.numbered

  pub passes_none : (p : Progress) (before : List ItemTree) → Counts before p.numbered → Passes p before [] p
  unfolding seen_all
  passes_none p before h = record {
    seen = refl;
    counts = subst (λ items. Counts items p.numbered) (sym (append-nil before)) h;
    stays = stays_here p.numbered;
  }

  pub passes_on : (p q r : Progress) (before xs ys : List ItemTree) → Passes p before xs q
      → Passes q (before ++ xs) ys r → Passes p before (xs ++ ys) r
  passes_on p q r before xs ys a b = record {
    seen = seen_append is_component p xs ys ∙ ap (option_and_then (λ n. seen_all is_component n ys)) a.seen ∙ b.seen;
    counts = subst (λ items. Counts items r.numbered) (append_assoc before xs ys) b.counts;
    stays = stays_on p.numbered q.numbered r.numbered a.stays b.stays;
  }

  -- one item, which numbers something of its sort
  pub record Steps (p : Progress) (item : ItemTree) (kind : Sort) (x : Indexed) (q : Progress) : Type 0 where
    pub next : seen is_component p item ≡ Some q
    pub more : q.numbered ≡ p.numbered ++ (kind, x) ∷ []
    pub sort : item_sort item ≡ Some kind

  pub passes_one : (p q : Progress) (before : List ItemTree) (item : ItemTree) (kind : Sort) (x : Indexed)
      → Counts before p.numbered → Steps p item kind x q → Passes p before (item ∷ []) q
  unfolding seen_all
  passes_one p q before item kind x h s = record {
    seen = ap (option_and_then (λ n. seen_all is_component n [])) s.next;
    counts = subst (Counts (before ++ item ∷ [])) (sym s.more) (counts_more before p.numbered item kind x s.sort h);
    stays = subst (Stays p.numbered) (sym s.more) (stays_pushed p.numbered kind x);
  }

  pub stands_last : (p q : Progress) (before : List ItemTree) (item : ItemTree) (kind : Sort) (x : Indexed)
      → Counts before p.numbered → Steps p item kind x q → Stands q.numbered kind (numbered kind before) x
  stands_last p q before item kind x h s =
      subst (λ ns. Stands ns kind (numbered kind before) x) (sym s.more) (last_stands before p.numbered kind x h)

  -- ---- types and aliases

  record Quiet (p : Progress) (item : ItemTree) : Type 0 where
    kind : Sort
    x : Indexed
    steps : Steps p item kind x (numbering p kind x)
    other : eqb (space_of kind) (space_of sort.Component) ≡ false

  quiet_steps : (p : Progress) (item : ItemTree) → IsQuiet item → Quiet p item
  unfolding seen
  quiet_steps p (CoreTy t) h = record {
    kind = sort.Core core.Ty;
    x = Own;
    steps = record { next = refl; more = refl; sort = refl };
    other = refl;
  }
  quiet_steps p (Ty t) h = record {
    kind = sort.Ty;
    x = Own;
    steps = record { next = refl; more = refl; sort = refl };
    other = refl;
  }
  quiet_steps p (Aliased (alias.Export kind from name)) h = record {
    kind = kind;
    x = as_export (indexed p sort.Instance from) name;
    steps = record { next = refl; more = refl; sort = refl };
    other = by h;
  }
    where
      by : (kind ≡ sort.Ty) ⊎ (kind ≡ sort.Instance) → eqb (space_of kind) (space_of sort.Component) ≡ false
      by (inl e) = ap (λ k. eqb (space_of k) (space_of sort.Component)) e
      by (inr e) = ap (λ k. eqb (space_of k) (space_of sort.Component)) e
  quiet_steps p (Aliased (alias.Outer kind count index)) h = record {
    kind = kind;
    x = or_own (indexed p kind index);
    steps = record { next = refl; more = refl; sort = refl };
    other = ap (λ k. eqb (space_of k) (space_of sort.Component)) h;
  }
  quiet_steps p _ h = absurd h

  -- The image stays as it is, and no components are numbered.
  pub record PassesQuietly (p : Progress) (before items : List ItemTree) : Type 0 where
    pub q : Progress
    pub passes : Passes p before items q
    pub image : q.image ≡ p.image
    pub components : numbered sort.Component (before ++ items) ≡ numbered sort.Component before

  pub quiet_passes : (p : Progress) (before items : List ItemTree) → Counts before p.numbered
      → AllByRecursion IsQuiet items → PassesQuietly p before items
  quiet_passes p before [] h a = record {
    q = p;
    passes = passes_none p before h;
    image = refl;
    components = ap (numbered sort.Component) (append-nil before);
  }
  quiet_passes p before (item ∷ items) h a =
      let s = quiet_steps p item a.0 in
      let one = passes_one p (numbering p s.kind s.x) before item s.kind s.x h s.steps in
      let later = quiet_passes (numbering p s.kind s.x) (before ++ item ∷ []) items one.counts a.1 in
      record {
        q = later.q;
        passes = passes_on p (numbering p s.kind s.x) later.q before (item ∷ []) items one later.passes;
        image = later.image;
        components =
            ap (numbered sort.Component) (sym (append_assoc before (item ∷ []) items)) ∙ later.components
            ∙ numbered_more sort.Component before item s.kind s.steps.sort
            ∙ ap (λ b. numbered sort.Component before + cond b 1 0) s.other ∙ omega arith;
      }

  -- ---- components

  -- Each component of the image stands in its index space, from an index on, and no other does from there on.
  pub record HoldsComponents (base : ℕ) (p : Progress) (before : List ItemTree) : Type 0 where
    pub counts : Counts before p.numbered
    pub count : numbered sort.Component before ≡ base + length p.image.components
    pub held : (r : ℕ) → r < length p.image.components → Stands p.numbered sort.Component (base + r) (OfComponent r)

  pub component_held : (base : ℕ) (p : Progress) (before : List ItemTree) (item : ItemTree) (of : ComponentOf)
      → HoldsComponents base p before
      → Steps p item sort.Component (OfComponent (length p.image.components)) (with_component p of)
      → HoldsComponents base (with_component p of) (before ++ item ∷ [])
  component_held base p before item of h s = record {
    counts =
        (passes_one p (with_component p of) before item sort.Component (OfComponent (length p.image.components))
        h.counts s).counts;
    count =
        numbered_more sort.Component before item sort.Component s.sort
        ∙ ap (λ b. numbered sort.Component before + cond b 1 0)
        (eq-eqb (space_of sort.Component) (space_of sort.Component) refl)
        ∙ omega (arith, h.count, length-append p.image.components (of ∷ []));
    held = λ r lt. by r lt (split r lt);
  }
    where
      here : Stands (with_component p of).numbered sort.Component (base + length p.image.components)
          (OfComponent (length p.image.components))
      here =
          subst (λ n. Stands (with_component p of).numbered sort.Component n (OfComponent (length p.image.components)))
          h.count
          (stands_last p (with_component p of) before item sort.Component (OfComponent (length p.image.components))
          h.counts s)

      split : (r : ℕ) → r < length (p.image.components ++ of ∷ [])
          → (r < length p.image.components) ⊎ (length p.image.components ≡ r)
      split r lt = let n = length-append p.image.components (of ∷ []) in grind (arith, n)

      by : (r : ℕ) → r < length (p.image.components ++ of ∷ [])
          → (r < length p.image.components) ⊎ (length p.image.components ≡ r)
          → Stands (with_component p of).numbered sort.Component (base + r) (OfComponent r)
      by r lt (inl less) =
          (stays_pushed p.numbered sort.Component (OfComponent (length p.image.components))).still sort.Component
          (base + r) (OfComponent r) (h.held r less)
      by r lt (inr same) =
          subst (λ n. Stands (with_component p of).numbered sort.Component (base + n) (OfComponent n)) same here

  pub quiet_held : (base : ℕ) (p : Progress) (before items : List ItemTree) (q : PassesQuietly p before items)
      → HoldsComponents base p before → HoldsComponents base q.q (before ++ items)
  quiet_held base p before items q h = record {
    counts = q.passes.counts;
    count = q.components ∙ h.count ∙ ap (λ (i : Image). base + length i.components) (sym q.image);
    held =
        λ r lt. q.passes.stays.still sort.Component (base + r) (OfComponent r)
        (h.held r (subst (λ (i : Image). r < length i.components) q.image lt));
  }

  -- components, one behind the other
  pub record PassesComponents (base : ℕ) (p : Progress) (before items : List ItemTree) (more : List ComponentOf) : Type
      0 where
    pub q : Progress
    pub passes : Passes p before items q
    pub image : q.image ≡ record p.image { components = p.image.components ++ more }
    pub holds : HoldsComponents base q (before ++ items)

  pub no_components : (base : ℕ) (p : Progress) (before : List ItemTree) → HoldsComponents base p before
      → PassesComponents base p before [] []
  no_components base p before h = record {
    q = p;
    passes = passes_none p before h.counts;
    image = ap (λ components. record p.image { components = components }) (sym (append-nil p.image.components));
    holds = subst (HoldsComponents base p) (sym (append-nil before)) h;
  }

  -- types and aliases, a component, and further ones
  pub one_component : (base : ℕ) (p : Progress) (before front items : List ItemTree) (item : ItemTree)
      (of : ComponentOf) (more : List ComponentOf)
      → HoldsComponents base p before → (quietly : PassesQuietly p before front)
      → Steps quietly.q item sort.Component (OfComponent (length quietly.q.image.components))
      (with_component quietly.q of)
      → (HoldsComponents base (with_component quietly.q of) ((before ++ front) ++ item ∷ [])
      → PassesComponents base (with_component quietly.q of) ((before ++ front) ++ item ∷ []) items more)
      → PassesComponents base p before ((front ++ item ∷ []) ++ items) (of ∷ more)
  one_component base p before front items item of more h quietly s later =
      let held = quiet_held base p before front quietly h in
      let next = later (component_held base quietly.q (before ++ front) item of held s) in
      let first = passes_on p quietly.q (with_component quietly.q of) before front (item ∷ []) quietly.passes
      (passes_one quietly.q (with_component quietly.q of) (before ++ front) item sort.Component
      (OfComponent (length quietly.q.image.components)) held.counts s) in
      let place = append_assoc before front (item ∷ []) in
      record {
        q = next.q;
        passes =
            passes_on p (with_component quietly.q of) next.q before (front ++ item ∷ []) items first
            (subst (λ items'. Passes (with_component quietly.q of) items' items next.q) place next.passes);
        image =
            next.image ∙ ap (λ components. record quietly.q.image {
              components =
                  components;
            }) (append_assoc quietly.q.image.components (of ∷ []) more)
            ∙ ap (λ (i : Image). record i { components = i.components ++ of ∷ more }) quietly.image;
        holds =
            subst (HoldsComponents base next.q)
            (ap (λ xs. xs ++ items) place ∙ append_assoc before (front ++ item ∷ []) items) next.holds;
      }
