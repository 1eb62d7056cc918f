-- The lessons of a learner are parts of a call. Where each part is right by what is known, those of a search are a session,
-- and what it finds is a plan over the logs that the session proves.
use Rattle.std.proofs.Common.{List, [], ◌∷◌, sym, subst}
use Rattle.std.proofs.lemmas.List.{append-nil}
use Rattle.std.specs.List.{flat_map}
use Rattle.warg_log.specs.Rules.{Accepts}
use Rattle.warg_exchange.specs.Requests.{Asker}
use Rattle.warg_store.specs.Held.{Registry}
use Rattle.warg_plan.specs.Walk.{Content, Facts, Stop, Entry, nothing_known}
use Rattle.warg_assemble.specs.Known.{Known}
use Rattle.warg_assemble.specs.Parts.{Part, exchanges_in, known_after, known_by, learnt, IsPart}
use Rattle.warg_assemble.specs.Session.{Wanted, Serves, AreOnce, IsSession, IsPlanOf}
use Rattle.warg_assemble.specs.SessionLaws.{once, session_plan}
use Rattle.warg_search.specs.Search.{AreLearnt, Finds}

module _ {T : Type 0} (w : Wanted) (Learns : T → Stop → Part → T → Type 0) where
  -- in a state this is known
  module _ (Knows : T → Known → Type 0) (accepts : Accepts) (asker : Registry → Asker) (Reads : Content → Type 0) where
    -- where it is asked for and learnt, a part gives what was asked for, and is right, and is known from then on
    pub record IsRight (old : T) (stop : Stop) (p : Part) (new : T) (known : Known) : Type 0 where
      pub serves : Serves known stop p
      pub is : IsPart accepts asker Reads known p
      pub knows : Knows new (known_after known p)

    pub record IsSessionFrom (known : Known) (f : Facts) (parts : List Part) (new : T) : Type 0 where
      pub is : IsSession accepts asker Reads w known f parts
      pub knows : Knows new (known_by known parts)

    -- the parts of a search are a session, where each is right
    pub search_session : ((old new : T) (stop : Stop) (p : Part) (known : Known) → Knows old known → Learns old stop p new → IsRight old stop p new known)
        → (known : Known) (f : Facts) (old new : T) (parts : List Part) → Knows old known → AreLearnt learnt w Learns f old parts new → IsSessionFrom known f parts new
    unfolding AreLearnt IsSession
    search_session right known f old new [] knows are = record { is = record {}; knows = subst (λ t. Knows t known) (sym are) knows }
    search_session right known f old new (p ∷ parts) knows are =
        let here = right old are.0 are.1.stop p known knows are.1.learns in
        let later = search_session right (known_after known p) (learnt f p) are.0 new parts here.knows are.2 in
        record {
          is = (record { stop = are.1.stop; stops = are.1.stops; serves = here.serves }, here.is, later.is);
          knows = later.knows;
        }

    -- What a search finds is a plan over the logs that the exchanges of its parts prove; each package was updated once; and
    -- what the parts teach is known.
    pub record IsPlanFound (known : Known) (parts : List Part) (new : T) (es : List Entry) : Type 0 where
      pub session : IsSession accepts asker Reads w known nothing_known parts
      pub once : AreOnce parts
      pub plan : IsPlanOf accepts asker Reads known (flat_map exchanges_in parts) w es
      pub knows : Knows new (known_by known parts)

    pub search_finds : ((old new : T) (stop : Stop) (p : Part) (known : Known) → Knows old known → Learns old stop p new → IsRight old stop p new known)
        → (known : Known) (old new : T) (es : List Entry) → Knows old known → (found : Finds learnt w Learns old new es) → IsPlanFound known found.parts new es
    search_finds right known old new es knows found =
        let s = search_session right known nothing_known old new found.parts knows found.are in
        record {
          session = s.is;
          once = once accepts asker Reads w known nothing_known found.parts s.is;
          plan = session_plan accepts asker Reads known w found.parts (flat_map exchanges_in found.parts) [] es (sym (append-nil (flat_map exchanges_in found.parts))) s.is found.finds;
          knows = s.knows;
        }
