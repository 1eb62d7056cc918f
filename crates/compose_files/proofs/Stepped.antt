-- An import that is served is wired as the whole graph has it.
use Rattle.std.proofs.Common.{◌≡◌, ◌<◌, ◌≤◌, ◌⊎◌, inl, inr, ℕ, suc, ◌+◌, Bool, true, false, cond, eqb, List, [], ◌∷◌, ◌++◌, length, Option, Some, None, refl, sym, ap, ◌∙◌, subst, arith}
use Rattle.std.specs.Prelude.{Contains, filter_map}
use Rattle.std.specs.List.{AllByRecursion, cons_option, list_any}
use Rattle.std.proofs.lemmas.List.{append-nil}
use Rattle.compose_graph.specs.Kept.{IsJoined}
use Rattle.std.proofs.lemmas.Bool.{cases_lt}
use Rattle.std.proofs.lemmas.List.Elements.{Contains-append_left, Contains-push, filter_map-append}
use Rattle.compose_graph.specs.Graph.{ComponentEntry, GraphTree, with_connection}
use Rattle.compose_graph.specs.declared.connection.Connection.{Connection}
use Rattle.compose_files.specs.Built.{Built, HasGoodArguments, IsConnected, Need, Sources, connection, taken}
use Rattle.compose_files.specs.Composed.{root_name}
use Rattle.compose_files.specs.Graph.{IsExportFor, IsGiven, IsReached, IsServedFrom, IsServing, MayBeLeft, Named, OfDefinition, Origin, each_once, is_origin, named_of, offered, source_of}
use Rattle.compose_files.specs.declared.offer.Offer.{Offer}
use Rattle.compose_files.proofs.Drawn.{IsDrawn, IsWired, new_number, number_stays, one_more}
use Rattle.compose_files.proofs.GraphKept.{Keeps, arguments_kept, chosen_kept, joined_by, joined_kept, keeps_itself, with_connection_keeps}
use Rattle.compose_files.proofs.Once.{all_more, all_weaker, length_more, once_more, with_one, zip_more, zip_weaker}
use Rattle.compose_files.proofs.Origins.{named_more, named_same, same_origin}
use Rattle.compose_files.proofs.Sourced.{IsSourced}

-- what is built once one import more is served: the instances stay, and there may be one more
pub record IsStepped (s : Sources) (first : List ComponentEntry) (old : Built) (origins : List Origin) (done : List Need) (new : Built) : Type 0 where
  pub after : List Origin
  pub more : List Origin
  pub longer : after ≡ origins ++ more
  pub found : List ComponentEntry
  pub drawn : IsDrawn s first new after found
  pub wired : IsWired s first new after done
  pub keeps : Keeps old.graph new.graph

-- one thing more is behind what was there
behind : (origins : List Origin) (o : Origin) → (more : List Origin) × (with_one is_origin origins o ≡ origins ++ more)
behind origins o = by (list_any (is_origin o) origins)
  where
    by : (b : Bool) → (more : List Origin) × (cond b origins (origins ++ o ∷ []) ≡ origins ++ more)
    by true = ([], sym (append-nil origins))
    by false = (o ∷ [], refl)

module _ (s : Sources) (first : List ComponentEntry) where
  -- how an import is served stays
  serving_kept : (old new : GraphTree) (origins : List Origin) (o : Origin) → Keeps old new → (need : Need) (c : Option Connection) → IsServing s old origins first need c → IsServing s new (with_one is_origin origins o) first need c
  serving_kept old new origins o keeps need c h = by (source_of s first need) c h
    where
      export_kept : (c : Connection) (offer : Option Offer) → IsExportFor s old need offer c → IsExportFor s new need offer c
      export_kept c (Some offer) h = h
      export_kept c None h = chosen_kept old new keeps c.source need (taken s.settings need).export c.export h

      by : (source : Option Origin) (c : Option Connection) → IsServedFrom s old origins first need source c → IsServedFrom s new (with_one is_origin origins o) first need source c
      by None None h = h
      by None (Some c) h = absurd h
      by (Some a) None h = absurd h
      by (Some a) (Some c) h = record {
        source = number_stays origins o a c.source h.source;
        target = h.target;
        import = h.import;
        export = export_kept c (offered first need) h.export;
        apart = h.apart;
        joined = joined_kept old new keeps c h.joined;
      }

  -- the arguments of the instances that have names, with one more
  arguments_more : (P : List ℕ × ℕ → Type 0) (origins : List Origin) (o : Origin) → AllByRecursion P (named_of origins)
      → ((name : List ℕ) → o ≡ Named name → list_any (is_origin o) origins ≡ false → P (name, length origins)) → AllByRecursion P (named_of (with_one is_origin origins o))
  arguments_more P origins o h new = by (list_any (is_origin o) origins) refl
    where
      pushed : (o : Origin) → ((name : List ℕ) → o ≡ Named name → P (name, length origins)) → AllByRecursion P (named_of (origins ++ o ∷ []))
      pushed (OfDefinition c) new = subst (AllByRecursion P) (sym (named_same 0 origins c)) h
      pushed (Named name) new =
          subst (AllByRecursion P) (sym (named_more 0 origins name))
          (all_more P (named_of origins) (name, 0 + length origins) h (subst (λ n. P (name, n)) (omega arith) (new name refl)))

      by : (b : Bool) → list_any (is_origin o) origins ≡ b → AllByRecursion P (named_of (cond b origins (origins ++ o ∷ [])))
      by true e = h
      by false e = pushed o (λ name is. new name is e)

  module _ (old : Built) (origins : List Origin) (done : List Need) (wired : IsWired s first old origins done) (need : Need) where
    -- an import is given an instance, or an export of it
    module _ (o : Origin) (source : ℕ) (mid : Built) (sourced : IsSourced s first old origins o source mid) (is_source : source_of s first need ≡ Some o) where
      -- an instance that is new is reached from the one that has the import
      reached_more : (g : GraphTree) (c : Connection) → g.connections ≡ old.graph.connections ++ c ∷ [] → c.source ≡ source → c.target < length origins
          → (n : ℕ) → 0 < n → n < length (with_one is_origin origins o) → IsReached g n
      reached_more g c connections is below n some less = by (one_more origins o) (cases_lt n (length origins))
        where
          kept : IsReached old.graph n → IsReached g n
          kept r = record {
            connection = r.connection;
            there = subst (λ l. Contains l r.connection) (sym connections) (Contains-append_left old.graph.connections (c ∷ []) r.connection r.there);
            given = r.given;
            before = r.before;
          }

          by : ((list_any (is_origin o) origins ≡ true) × (with_one is_origin origins o ≡ origins)) ⊎ ((list_any (is_origin o) origins ≡ false) × (with_one is_origin origins o ≡ origins ++ o ∷ [])) → (n < length origins) ⊎ (length origins ≤ n) → IsReached g n
          by any (inl early) = kept (wired.reached n some early)
          by (inl there) (inr late) = let same = ap length there.1 in absurd (omega arith)
          by (inr new) (inr late) =
              let long : length (with_one is_origin origins o) ≡ suc (length origins) = ap length new.1 ∙ length_more origins o in
              let last : source ≡ length origins = new_number origins o source new.0 sourced.number in
              let here : n ≡ length origins = omega arith in
              record {
                connection = c;
                there = subst (λ l. Contains l c) (sym connections) (Contains-push old.graph.connections c);
                given = is ∙ last ∙ sym here;
                before = subst (λ m. c.target < m) (sym here) below;
              }

      pub given_stepped : (export : Option ℕ) (new : Built) → need.target < length origins → IsConnected source export need mid new → IsExportFor s mid.graph need (offered first need) (connection source export need)
          → ((name : List ℕ) → o ≡ Named name → list_any (is_origin o) origins ≡ false → HasGoodArguments s.settings new.graph name (length origins)) → IsStepped s first old origins (done ++ need ∷ []) new
      given_stepped export new below connected is_export arguments =
          subst (IsStepped s first old origins (done ++ need ∷ [])) (sym connected.connected) (record {
            after = with_one is_origin origins o;
            more = (behind origins o).0;
            longer = (behind origins o).1;
            found = sourced.found;
            drawn = record {
              parts = record { all = sourced.drawn.parts.all; files = sourced.drawn.parts.files; numbers = sourced.drawn.parts.numbers; next = sourced.drawn.parts.next };
              instances = record { components = sourced.drawn.instances.components; numbers = sourced.drawn.instances.numbers; next = sourced.drawn.instances.next };
              names = sourced.drawn.names;
              named = sourced.drawn.named;
              made = sourced.drawn.made;
              offers = sourced.drawn.offers;
              known = sourced.drawn.known;
              rest = sourced.drawn.rest;
              begins = sourced.drawn.begins;
            };
            wired = record {
              given = wired.given ++ Some c ∷ [];
              order =
                  ap (λ l. with_one is_origin l o) wired.order ∙ sym (once_more is_origin same_origin (Named root_name ∷ filter_map (source_of s first) done) o)
                  ∙ ap (λ l. each_once is_origin (Named root_name ∷ l)) (sym (filter_map-append (source_of s first) done (need ∷ []) ∙ ap (λ a. filter_map (source_of s first) done ++ cons_option a []) is_source));
              reached = reached_more after c connections refl below;
              each = zip_more (IsServing s after (with_one is_origin origins o) first) done wired.given need (Some c)
                  (zip_weaker (IsServing s old.graph origins first) (IsServing s after (with_one is_origin origins o) first) (serving_kept old.graph after origins o sourced.keeps) done wired.given wired.each)
                  (subst (λ a. IsServedFrom s after (with_one is_origin origins o) first need a (Some c)) (sym is_source) given);
              connections = connections ∙ ap (λ l. l ++ c ∷ []) wired.connections ∙ sym (filter_map-append (λ c. c) wired.given (Some c ∷ []));
              arguments_good = arguments_more (λ (i : List ℕ × ℕ). HasGoodArguments s.settings after i.0 i.1) origins o
                  (all_weaker (λ (i : List ℕ × ℕ). HasGoodArguments s.settings old.graph i.0 i.1) (λ (i : List ℕ × ℕ). HasGoodArguments s.settings after i.0 i.1)
                  (λ i. arguments_kept old.graph after sourced.keeps s.settings i.0 i.1) (named_of origins) wired.arguments_good)
                  (λ name is new_one. subst (λ (b : Built). HasGoodArguments s.settings b.graph name (length origins)) connected.connected (arguments name is new_one));
            };
            keeps = sourced.keeps;
          })
        where
          c : Connection
          c = connection source export need

          after : GraphTree
          after = with_connection mid.graph c

          connections : after.connections ≡ old.graph.connections ++ c ∷ []
          connections = ap (λ l. l ++ c ∷ []) sourced.connections

          joined : (eqb c.source c.target ≡ false) × IsJoined mid.graph c
          joined = joined_by mid.graph c connected.good

          export_after : (offer : Option Offer) → IsExportFor s mid.graph need offer c → IsExportFor s after need offer c
          export_after (Some offer) h = h
          export_after None h = chosen_kept mid.graph after (with_connection_keeps mid.graph c) c.source need (taken s.settings need).export c.export h

          given : IsGiven s after (with_one is_origin origins o) first need o c
          given = record {
            source = sourced.number;
            target = refl;
            import = refl;
            export = export_after (offered first need) is_export;
            apart = joined.0;
            joined = joined_kept mid.graph after (with_connection_keeps mid.graph c) c joined.1;
          }

    -- an import is left
    pub left_stepped : (found : List ComponentEntry) → IsDrawn s first old origins found → source_of s first need ≡ None → MayBeLeft s.settings need → IsStepped s first old origins (done ++ need ∷ []) old
    left_stepped found drawn is_source left = record {
      after = origins;
      more = [];
      longer = sym (append-nil origins);
      found = found;
      drawn = drawn;
      wired = record {
        given = wired.given ++ None ∷ [];
        order = wired.order ∙ ap (λ l. each_once is_origin (Named root_name ∷ l)) (sym none);
        reached = wired.reached;
        each = zip_more (IsServing s old.graph origins first) done wired.given need None wired.each (subst (λ a. IsServedFrom s old.graph origins first need a None) (sym is_source) left);
        connections = wired.connections ∙ sym (filter_map-append (λ c. c) wired.given (None ∷ []) ∙ append-nil (filter_map (λ c. c) wired.given));
        arguments_good = wired.arguments_good;
      };
      keeps = keeps_itself old.graph;
    }
      where
        none : filter_map (source_of s first) (done ++ need ∷ []) ≡ filter_map (source_of s first) done
        none = filter_map-append (source_of s first) done (need ∷ []) ∙ ap (λ a. filter_map (source_of s first) done ++ cons_option a []) is_source ∙ append-nil (filter_map (source_of s first) done)
