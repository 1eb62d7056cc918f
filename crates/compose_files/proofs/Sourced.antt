-- The instance that an import is given: it is there, or it is made, and all else that is built stays.
use Rattle.std.proofs.Common.{◌≡◌, ℕ, ◌+◌, Bool, true, false, cond, eqb, ◌||◌, List, [], ◌∷◌, ◌++◌, length, Option, Some, None, is_some, unwrap_or, refl, sym, ap, ◌∙◌, subst, bytes_eq, arith}
use Rattle.std.specs.List.{list_any}
use Rattle.std.specs.Option.{option_or}
use Rattle.std.proofs.lemmas.Bool.{eqb-true, false≢true}
use Rattle.compose_graph.specs.Graph.{ComponentEntry}
use Rattle.compose_files.specs.Built.{Built, Sources, instance_of, with_instance_of, with_made}
use Rattle.compose_files.specs.Graph.{Named, OfDefinition, Origin, component_names, each_once, instance_for, is_origin}
use Rattle.compose_files.proofs.GraphKept.{Keeps, keeps_itself, with_instance_keeps}
use Rattle.compose_files.proofs.Drawn.{IsDrawn, last_number, made_more}
use Rattle.compose_files.proofs.Once.{place_behind, place_there, with_one}
use Rattle.compose_files.proofs.Origins.{asked_same, named_same}

-- an instance for this is there, of this number, and all else stays
pub record IsSourced (s : Sources) (first : List ComponentEntry) (old : Built) (origins : List Origin) (o : Origin) (source : ℕ) (new : Built) : Type 0 where
  pub found : List ComponentEntry
  pub drawn : IsDrawn s first new (with_one is_origin origins o) found
  pub number : instance_for (with_one is_origin origins o) o ≡ Some source
  pub keeps : Keeps old.graph new.graph
  pub connections : new.graph.connections ≡ old.graph.connections

-- what has a number is there
pub there_by_number : (origins : List Origin) (o : Origin) (p : Option ℕ) → instance_for origins o ≡ p → list_any (is_origin o) origins ≡ is_some p
there_by_number origins o p h = sym (place_there (is_origin o) 0 origins) ∙ ap is_some h

-- an instance that is there
pub sourced_there : (s : Sources) (first : List ComponentEntry) (b : Built) (origins : List Origin) (found : List ComponentEntry) (o : Origin) (source : ℕ)
    → IsDrawn s first b origins found → instance_for origins o ≡ Some source → IsSourced s first b origins o source b
sourced_there s first b origins found o source drawn number = record {
  found = found;
  drawn = subst (λ l. IsDrawn s first b l found) (sym same) drawn;
  number = ap (λ l. instance_for l o) same ∙ number;
  keeps = keeps_itself b.graph;
  connections = refl;
}
  where
    same : with_one is_origin origins o ≡ origins
    same = ap (λ t. cond t origins (origins ++ o ∷ [])) (there_by_number origins o (Some source) number)

-- ---- instances of definitions

-- which instance each definition has, with one more
made_at : (origins : List Origin) (component next c : ℕ) (o : Option ℕ) → length origins ≡ next → list_any (is_origin (OfDefinition component)) origins ≡ false → o ≡ instance_for origins (OfDefinition c)
    → cond (eqb c component) (Some next) o ≡ instance_for (origins ++ OfDefinition component ∷ []) (OfDefinition c)
made_at origins component next c o last new is = by (eqb c component) refl ∙ sym (place_behind (is_origin (OfDefinition c)) 0 origins (OfDefinition component))
  where
    none : eqb c component ≡ true → (p : Option ℕ) → instance_for origins (OfDefinition c) ≡ p → Some next ≡ option_or p (Some (0 + length origins))
    none e None h = ap Some (sym last ∙ omega arith)
    none e (Some x) h =
        absurd (false≢true (sym new ∙ ap (λ d. list_any (is_origin (OfDefinition d)) origins) (sym (eqb-true c component e)) ∙ there_by_number origins (OfDefinition c) (Some x) h))

    other : (p : Option ℕ) → p ≡ option_or p None
    other None = refl
    other (Some x) = refl

    by : (b : Bool) → eqb c component ≡ b → cond b (Some next) o ≡ option_or (instance_for origins (OfDefinition c)) (cond b (Some (0 + length origins)) None)
    by true e = none e (instance_for origins (OfDefinition c)) refl
    by false e = is ∙ other (instance_for origins (OfDefinition c))

-- another name is there already
known_same : (origins : List Origin) (o : Origin) (name : List ℕ) → is_origin (Named name) o ≡ false → list_any (is_origin (Named name)) (origins ++ o ∷ []) ≡ true → list_any (is_origin (Named name)) origins ≡ true
known_same [] o name apart h = absurd (false≢true (sym (ap (λ b. b || false) apart) ∙ h))
known_same (x ∷ origins) o name apart h = by (is_origin (Named name) x) h (known_same origins o name apart)
  where
    by : (b : Bool) → (b || list_any (is_origin (Named name)) (origins ++ o ∷ [])) ≡ true → (list_any (is_origin (Named name)) (origins ++ o ∷ []) ≡ true → list_any (is_origin (Named name)) origins ≡ true) → (b || list_any (is_origin (Named name)) origins) ≡ true
    by true h later = refl
    by false h later = later h

module _ (s : Sources) (first : List ComponentEntry) where
  defined_drawn : (b : Built) (origins : List Origin) (found : List ComponentEntry) (component : ℕ) → IsDrawn s first b origins found → list_any (is_origin (OfDefinition component)) origins ≡ false
      → IsDrawn s first (with_made b component) (origins ++ OfDefinition component ∷ []) found
  defined_drawn b origins found component h new = record {
    parts = record { all = h.parts.all; files = h.parts.files; numbers = h.parts.numbers; next = h.parts.next };
    instances = made_more s b.graph origins (OfDefinition component) component h.instances refl;
    names = h.names ∙ ap (λ l. each_once bytes_eq (component_names first ++ l)) (sym (asked_same s.settings origins component));
    named = h.named ∙ sym (named_same 0 origins component);
    made = λ c. made_at origins component b.graph.next_instance c (b.made c) (sym h.instances.next) new (h.made c);
    offers = h.offers;
    known = λ name is. h.known name (known_same origins (OfDefinition component) name refl is);
    rest = h.rest ++ OfDefinition component ∷ [];
    begins = ap (λ l. l ++ OfDefinition component ∷ []) h.begins;
  }

  -- the instance of a definition
  pub definition_sourced : (b : Built) (origins : List Origin) (found : List ComponentEntry) (component : ℕ) → IsDrawn s first b origins found
      → IsSourced s first b origins (OfDefinition component) (instance_of b component) (with_instance_of b component)
  definition_sourced b origins found component h = by (b.made component) (sym (h.made component))
    where
      o : Origin
      o = OfDefinition component

      by : (m : Option ℕ) → instance_for origins o ≡ m → IsSourced s first b origins o (unwrap_or m b.graph.next_instance) (cond (is_some m) b (with_made b component))
      by (Some id) is = sourced_there s first b origins found o id h is
      by None is = record {
        found = found;
        drawn = subst (λ l. IsDrawn s first (with_made b component) l found) (sym pushed) (defined_drawn b origins found component h new);
        number = ap (λ l. instance_for l o) pushed ∙ last_number origins o new ∙ ap Some (sym h.instances.next);
        keeps = with_instance_keeps b.graph component;
        connections = refl;
      }
        where
          new : list_any (is_origin (OfDefinition component)) origins ≡ false
          new = there_by_number origins (OfDefinition component) None is

          pushed : with_one is_origin origins (OfDefinition component) ≡ origins ++ OfDefinition component ∷ []
          pushed = ap (λ t. cond t origins (origins ++ OfDefinition component ∷ [])) new
