-- Laws of how names are called where a component is instantiated, and where an item is exported as described.
use Rattle.std.specs.Prelude.{◌≡◌, ℕ, ◌+◌, ◌-◌, List, Option, None, Some, cond, ◌==◌, refl, unwrap_or}
use Rattle.std.proofs.Common.{sym, ◌∙◌, ap}
use Rattle.comp_entity.specs.Entity.{Name, made, Entries}
use Rattle.comp_entity.specs.Fits.{Stands, all_stand}
use Rattle.comp_fit.specs.declared.standing.StandingFor.{StandingFor}
use Rattle.comp_instance.specs.Exports.{ShowsDescribing}
use Rattle.comp_instance.specs.Instances.{ShowsInstantiating}
use Rattle.comp_fit.specs.Standing.{ShowsStanding}
use Rattle.comp_scope.specs.Exports.{is_new}
use Rattle.comp_scope.specs.Instances.{or_made}
use Rattle.comp_scope.specs.Spaces.{Spaces, counts_sum}
use Rattle.comp_space.specs.declared.space.Counts.{Counts}
use Rattle.comp_space.specs.declared.space.Space.{Space}
use Rattle.comp_space.specs.SpaceViews.{ShowsSpaces, counts}
use Rattle.comp_table.specs.Trees.{PlainTree}

module _ (ts : List PlainTree) (space : Space) (s : Spaces) (shows : ShowsSpaces ts space s) (found : StandingFor) where
  pub instantiating_shown : (makes beyond : Counts) (given asked : Entries) → ShowsStanding found (all_stand given asked) → counts beyond ≡ counts_sum (counts space.made) (counts makes) → ShowsInstantiating (record { found = found; made = space.made; beyond = beyond }) s makes given asked
  instantiating_shown makes beyond given asked there is =
      let r : space.made.resources ≡ s.made.resources = ap (λ c. c.resources) shows.made in
      let p : space.made.places ≡ s.made.places = ap (λ c. c.places) shows.made in
      let q : beyond.resources ≡ s.made.resources + makes.resources = ap (λ c. c.resources) is ∙ ap (λ k. k + makes.resources) r in
      let t : beyond.places ≡ s.made.places + makes.places = ap (λ c. c.places) is ∙ ap (λ k. k + makes.places) p in
      record {
        resources = λ n i. cond (n.out == 0) (made (r i + n.number)) (cond (n.out == 1) (unwrap_or (there.resources n i) (made (q i + n.number))) (record n { out = n.out - 2 }));
        places = λ n i. cond (n.out == 0) (made (p i + n.number)) (cond (n.out == 1) (or_made (t i + n.number) (there.places n i)) (record n { out = n.out - 2 }));
      }

  pub describing_shown : (ss : List Stands) → ShowsStanding found ss → ShowsDescribing (record { found = found; made = space.made }) s ss
  describing_shown ss there =
      let r : space.made.resources ≡ s.made.resources = ap (λ c. c.resources) shows.made in
      let p : space.made.places ≡ s.made.places = ap (λ c. c.places) shows.made in
      record {
        resources = λ n i. cond (is_new (r i) n) (unwrap_or (there.resources n i) n) n;
        places = λ n i. cond (is_new (p i) n) (unwrap_or (unwrap_or (there.places n i) None) n) n;
      }

-- the place that stands for one, or one that is made
pub place_or_made : (k : ℕ) (found : Option (Option Name)) (there : Option Name) → there ≡ unwrap_or found None → or_made k found ≡ unwrap_or there (made k)
place_or_made k found there is = by found ∙ ap (λ o. unwrap_or o (made k)) (sym is)
  where
    by : (found : Option (Option Name)) → or_made k found ≡ unwrap_or (unwrap_or found None) (made k)
    by None = refl
    by (Some None) = refl
    by (Some (Some p)) = refl
