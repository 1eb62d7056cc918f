-- An instance that mentions what is known brings as many resources as it exports that were not known.
use Rattle.std.proofs.Common.{◌≡◌, inl, inr, ℕ, ◌+◌, ◌-◌, Bool, true, false, cond, ◌&&◌, [], ◌∷◌, Option, Some, None, refl, sym, ap, subst, ◌∙◌, arith}
use Rattle.std.specs.Prelude.{nat_le, nat_lt, is_some, ◌==◌}
use Rattle.comp_entity.specs.Entity.{Name, IsInstance, Entries, no_entry, entry}
use Rattle.comp_entity.specs.Names.{changing, deeper, outside, Mention, OfResource, in_entries}
use Rattle.comp_entity.specs.NameLaws.{unchanged, entries_kept}
use Rattle.compose_writing.specs.Conditions.{is_known, known_behind}
use Rattle.compose_meaning.specs.Meaning.{Meaning, placing, placed_entries}
use Rattle.compose_meaning.specs.Readable.{Exporting, new_name, Spot, is_new, behind, within, first_spot, AreOlder, AreApart, new_resources, behind_all, exported_resources, HasMeaning}
use Rattle.compose_meaning.proofs.ListLaws.{Each}
use Rattle.compose_meaning.proofs.OlderLaws.{below}
use Rattle.compose_meaning.proofs.ApartLaws.{told_within, all_told}
use Rattle.compose_meaning.proofs.TransportLaws.{entries_go}
use Rattle.compose_meaning.proofs.BringLaws.{joined, brings_as_many}
use Rattle.compose_meaning.proofs.MentionedLaws.{KnownAt, entries_mention}

-- what is known has a number below the next one
known_below : (mean : Meaning) (known : Mention → Bool) (most : ℕ) → ((r : Name) → known (OfResource r) ≡ true → (((mean.resource r).out == 0) && nat_le most (mean.resource r).number) ≡ false)
    → (d : ℕ) (r : Name) → KnownAt known (d, OfResource (outside (λ n. n) d r)) → below most (d, OfResource (outside mean.resource d r))
known_below mean known most older d r h = one (nat_lt r.out d) refl (subst (λ n. KnownAt known (d, OfResource n)) (unchanged.resource d r) h)
  where
    z : Name
    z = mean.resource (record r { out = r.out - d })

    numbers : (b c : Bool) → (z.out == 0) ≡ b → (z.out + d == 0 + d) ≡ c → (b && nat_le most z.number) ≡ false → Each (λ n. nat_le most n ≡ false) (cond c (z.number ∷ []) [])
    numbers b false hb hc h = tt
    numbers true true hb hc h = (h, tt)
    numbers false true hb hc h = absurd (grind (arith, hb, hc))

    one : (b : Bool) → nat_lt r.out d ≡ b → KnownAt known (d, OfResource r) → below most (d, OfResource (cond b r (deeper d z)))
    one true lt h = let far : (r.out == 0 + d) ≡ false = grind (arith, lt) in subst (λ c. Each (λ n. nat_le most n ≡ false) (cond c (r.number ∷ []) [])) (sym far) tt
    one false lt (inl h) = absurd (grind (arith, lt, h))
    one false lt (inr h) = numbers (z.out == 0) (z.out + d == 0 + d) refl refl (older (record { out = r.out - d; number = r.number }) h)

-- the side stays
same_side : (mean : Meaning) (p : Spot) (es : Entries) → (behind_all mean p es).side ≡ p.side
unfolding behind_all
same_side mean p no_entry = refl
same_side mean p (entry name e mark es) = same_side mean (behind mean p name e) es

ends_new : (mean : Meaning) (p : Spot) (es : Entries) (r : Name) → p.side ≡ Exporting → is_new (behind_all mean p es) (mean.resource r) ≡ false → (((mean.resource r).out == 0) && nat_le (behind_all mean p es).resources (mean.resource r).number) ≡ false
ends_new mean p es r side h = ap (λ s. ((mean.resource r).out == (new_name s 0).out) && nat_le (behind_all mean p es).resources (mean.resource r).number) (sym (same_side mean p es ∙ side)) ∙ h

some_of : {X P : Type 0} (o : Option X) → is_some o ≡ true → ((x : X) → o ≡ Some x → P) → P
some_of None h then = absurd cc
some_of (Some x) h then = then x refl

pub brings_exported : (mean : Meaning) (p : Spot) (es : Entries) → AreOlder mean p → AreApart mean p.known → HasMeaning mean p (IsInstance es) → is_known p.known (IsInstance es) ≡ true → new_resources mean p (IsInstance es) ≡ exported_resources mean p es
brings_exported mean p es older apart has known = some_of (known_behind p.known (IsInstance es)) known (λ next h.
    let inner : Meaning = within p mean in
    let start : Spot = first_spot Exporting p.known in
    let mentioned = (entries_mention inner start es next has h).1 in
    let told = all_told inner start es (told_within mean p (record { older = λ r known. (older (OfResource r) known).0; apart = apart })) has in
    let each = entries_go (changing (λ n. n) (λ n. n)) (placing inner.resource) (KnownAt (behind_all inner start es).known) (below (exported_resources mean p es))
    (λ d r. known_below inner (behind_all inner start es).known (exported_resources mean p es) (λ r known. ends_new inner start es r refl (told.older r known)) d r) (λ d n. tt) 0 es
    (subst (λ (fs : Entries). Each (KnownAt (behind_all inner start es).known) (in_entries 0 fs)) (sym (entries_kept (changing (λ n. n) (λ n. n)) unchanged 0 es)) mentioned) in
    brings_as_many mean p es has (joined (λ n. nat_le (exported_resources mean p es) n ≡ false) (in_entries 0 (placed_entries inner es)) each))
