-- By each step of a composition what is built is wired as the whole graph has it.
use Rattle.std.proofs.Common.{◌≡◌, ◌<◌, ℕ, true, false, cond, not, List, [], ◌∷◌, ◌++◌, length, Option, Some, None, MatchOption, is_some, refl, sym, ap, ◌∙◌, subst, bytes_eq}
use Rattle.std.specs.List.{list_any}
use Rattle.std.specs.Map.{lookup}
use Rattle.compose_graph.specs.Graph.{ComponentEntry}
use Rattle.compose_files.specs.Built.{Built, HasGoodArguments, IsInstanceFor, IsOffered, IsServed, IsServedBy, Need, Serves, Sources, connection, instance_of, is_unnamed, taken, with_instance_of}
use Rattle.compose_files.specs.Graph.{IsExportFor, Named, OfDefinition, Origin, instance_for, is_origin, offered, source_by}
use Rattle.compose_files.specs.declared.offer.Offer.{Offer}
use Rattle.compose_files.proofs.Drawn.{IsDrawn, IsWired, new_number}
use Rattle.compose_files.proofs.Origins.{named_at}
use Rattle.compose_files.proofs.Sourced.{definition_sourced, there_by_number}
use Rattle.compose_files.proofs.SourcedByName.{name_sourced, name_unsourced}
use Rattle.compose_files.proofs.Stepped.{IsStepped, given_stepped, left_stepped}

named_by : (a b : List ℕ) → Named a ≡ Named b → a ≡ b
named_by a b e = cc

not_named : (c : ℕ) (a : List ℕ) → OfDefinition c ≡ Named a → ⊥
not_named c a e = cc

module _ (s : Sources) (first : List ComponentEntry) where
  module _ (old : Built) (origins : List Origin) (found : List ComponentEntry) (drawn : IsDrawn s first old origins found) (done : List Need) (wired : IsWired s first old origins done) where
    -- an import that a definition serves
    offered_stepped : (need : Need) (o : Offer) (new : Built) → need.target < length origins → offered first need ≡ Some o → IsOffered need o old new → IsStepped s first old origins (done ++ need ∷ []) new
    offered_stepped need o new below is h =
        given_stepped s first old origins done wired need (OfDefinition o.component) (instance_of old o.component) (with_instance_of old o.component) (definition_sourced s first old origins found o.component drawn)
        (ap (source_by s first need) is) (Some o.export) new below h (subst (λ p. IsExportFor s (with_instance_of old o.component).graph need p (connection (instance_of old o.component) (Some o.export) need)) (sym is) refl)
        (λ name other unnamed. absurd (not_named o.component name other))

    -- whether an instance has a name
    unnamed_is : (name : List ℕ) → list_any (is_origin (Named name)) origins ≡ false → is_unnamed old name ≡ true
    unnamed_is name h = ap (λ b. not b) (ap is_some (ap (lookup (λ k. bytes_eq name k)) drawn.named ∙ named_at name 0 origins) ∙ sym (there_by_number origins (Named name) (instance_for origins (Named name)) refl) ∙ h)

    -- an import that takes an instance
    served_stepped : (need : Need) (new : Built) → need.target < length origins → offered first need ≡ None → IsServed s need (taken s.settings need) old new → IsStepped s first old origins (done ++ need ∷ []) new
    served_stepped need new below is h = by h.source h.found h.served
      where
        by : (source : Option ℕ) → IsInstanceFor s (taken s.settings need).instance old source h.with_source → IsServedBy s need (taken s.settings need) (is_unnamed old (taken s.settings need).instance) source h.with_source new → IsStepped s first old origins (done ++ need ∷ []) new
        by None i b =
            let nothing = name_unsourced s first old origins found drawn (taken s.settings need).instance h.with_source i in
            subst (IsStepped s first old origins (done ++ need ∷ [])) (sym (b.unchanged ∙ nothing.1))
            (left_stepped s first old origins done wired need found drawn (ap (source_by s first need) is ∙ ap (λ t. cond t (Some (Named (taken s.settings need).instance)) None) nothing.0) (record { allowed = b.allowed; no_export = b.no_export }))
        by (Some source) i b =
            let there = name_sourced s first old origins found drawn (taken s.settings need).instance source h.with_source i in
            given_stepped s first old origins done wired need (Named (taken s.settings need).instance) source h.with_source there.1
            (ap (source_by s first need) is ∙ ap (λ t. cond t (Some (Named (taken s.settings need).instance)) None) there.0) b.export new below b.given
            (subst (λ p. IsExportFor s h.with_source.graph need p (connection source b.export need)) (sym is) b.chosen)
            (λ name same unnamed.
            let number = new_number origins (Named (taken s.settings need).instance) source unnamed there.1.number in
            subst (λ n. HasGoodArguments s.settings new.graph n (length origins)) (named_by (taken s.settings need).instance name same)
            (subst (HasGoodArguments s.settings new.graph (taken s.settings need).instance) number (b.arguments_good (unnamed_is (taken s.settings need).instance unnamed))))

    pub serves_stepped : (need : Need) (new : Built) → need.target < length origins → Serves s need old new → IsStepped s first old origins (done ++ need ∷ []) new
    serves_stepped need new below h = by (old.offers need.name) (sym (drawn.offers need.name)) h
      where
        by : (o : Option Offer) → offered first need ≡ o → MatchOption o (IsServed s need (taken s.settings need) old new) (λ o. IsOffered need o old new) → IsStepped s first old origins (done ++ need ∷ []) new
        by None is h = served_stepped need new below is h
        by (Some o) is h = offered_stepped need o new below is h
