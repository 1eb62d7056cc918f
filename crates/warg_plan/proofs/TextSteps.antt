-- The search of a text for exports, entry by entry.
use Rattle.std.proofs.Common.{◌≡◌, ℕ, ◌+◌, true, false, List, drop, map, slice_get, Option, Some, None, is_some, refl, sym, ap, ◌∙◌}
use Rattle.std.specs.Option.{option_or}
use Rattle.yaml_read.specs.Entries.{seen_entry}
use Rattle.compose_config.specs.MapLaws.{drop_at}
use Rattle.compose_config.specs.Plan.{Argument, Instance}
use Rattle.warg_plan.specs.Form.{Misfit, Export, if_export, export_in, export_of}

-- an argument that is an export, and one that is none
one_export : (i n : List ℕ) (o : Option (List ℕ)) (rest : Option Misfit) → is_some o ≡ true → Some (Export i n) ≡ option_or (if_export i n o) rest
one_export i n None rest h = absurd cc
one_export i n (Some x) rest h = refl

no_export : (i n : List ℕ) (o : Option (List ℕ)) (rest : Option Misfit) → is_some o ≡ false → rest ≡ option_or (if_export i n o) rest
no_export i n None rest h = refl
no_export i n (Some x) rest h = absurd cc

module _ {V : Type 0} (f : V → Argument) where
  pub export_here : (es : List (List ℕ × V)) (i : ℕ) (e : List ℕ × V) → slice_get es i ≡ Some e → is_some (f e.1).export ≡ true → (instance : List ℕ) → Some (Export instance e.0) ≡ export_in instance (map (seen_entry f) (drop i es))
  export_here es i e at is instance =
      one_export instance e.0 (f e.1).export (export_in instance (map (seen_entry f) (drop (i + 1) es))) is
      ∙ ap (λ l. export_in instance (map (seen_entry f) l)) (sym (drop_at es i e at))

  pub export_next : (es : List (List ℕ × V)) (i : ℕ) (e : List ℕ × V) → slice_get es i ≡ Some e → is_some (f e.1).export ≡ false → (instance : List ℕ) → export_in instance (map (seen_entry f) (drop (i + 1) es)) ≡ export_in instance (map (seen_entry f) (drop i es))
  export_next es i e at is instance =
      no_export instance e.0 (f e.1).export (export_in instance (map (seen_entry f) (drop (i + 1) es))) is
      ∙ ap (λ l. export_in instance (map (seen_entry f) l)) (sym (drop_at es i e at))

module _ {V : Type 0} (f : V → Instance) where
  pub instance_here : (es : List (List ℕ × V)) (i : ℕ) (e : List ℕ × V) (m : Misfit) → slice_get es i ≡ Some e → Some m ≡ export_in e.0 (f e.1).arguments → Some m ≡ export_of (map (seen_entry f) (drop i es))
  instance_here es i e m at is =
      ap (λ o. option_or o (export_of (map (seen_entry f) (drop (i + 1) es)))) is
      ∙ ap (λ l. export_of (map (seen_entry f) l)) (sym (drop_at es i e at))

  pub instance_next : (es : List (List ℕ × V)) (i : ℕ) (e : List ℕ × V) → slice_get es i ≡ Some e → None ≡ export_in e.0 (f e.1).arguments → export_of (map (seen_entry f) (drop (i + 1) es)) ≡ export_of (map (seen_entry f) (drop i es))
  instance_next es i e at is =
      ap (λ o. option_or o (export_of (map (seen_entry f) (drop (i + 1) es)))) is
      ∙ ap (λ l. export_of (map (seen_entry f) l)) (sym (drop_at es i e at))
