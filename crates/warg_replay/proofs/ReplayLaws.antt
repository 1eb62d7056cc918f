-- What is assembled over recorded replies, and when it is.
use Rattle.std.proofs.Common.{◌≡◌, ◌⊎◌, ◌≤◌, ℕ, List, [], ◌∷◌, ◌++◌, map, None, Ok, codes, inl, inr, refl, sym, ap, subst, ◌∙◌, arith}
use Rattle.std.specs.List.{AllByRecursion, flat_map}
use Rattle.url.specs.Parser.{Parsed, parse_url}
use Rattle.url.specs.Parts.{Parts}
use Rattle.warg_values.specs.Faults.{Rose}
use Rattle.warg_url.specs.RegistryUrl.{IsWhole, base_of}
use Rattle.warg_log.specs.Rules.{Accepts}
use Rattle.warg_exchange.specs.declared.exchange.Exchange.{Exchange}
use Rattle.warg_exchange.specs.declared.exchange.Reply.{Reply}
use Rattle.warg_exchange.specs.Requests.{Asker}
use Rattle.warg_request.specs.Asking.{CanAsk}
use Rattle.warg_api.specs.Asking.{asker}
use Rattle.warg_api.specs.Link.{Exchanges, Recorded, IsRecordedStep}
use Rattle.warg_course.specs.Replies.{AreRepliesOf, GivesReplies}
use Rattle.warg_course.specs.Refusals.{IsUnanswered}
use Rattle.warg_hint.specs.declared.decide.AlwaysDecide.{AlwaysDecide}
use Rattle.warg_plan.specs.Walk.{Entry, nothing_known}
use Rattle.warg_store.specs.Held.{Registry}
use Rattle.warg_assemble.specs.Parts.{exchanges_in}
use Rattle.warg_assemble.specs.Session.{IsSession}
use Rattle.warg_client.specs.Seen.{Seen}
use Rattle.warg_compose.specs.Read.{IsComponent}
use Rattle.warg_client.specs.ClientError.{ClientError}
use Rattle.warg_client.specs.ClientError.TheVariants as told
use Rattle.warg_client.specs.Undisturbed.{IsUnreplied, pages_of_parts, registry_in}
use Rattle.warg_client.specs.Complete.{IsValidCall}
use Rattle.warg_client.specs.Assembled.{wanted}
use Rattle.warg_replay.specs.Anew.{AsksHome, HaveNotFailed, IsAnewFault, IsAssembledAnew, IsAssembledBy, IsRefusedAnew, nothing, page_limit}
use Rattle.warg_replay.specs.Replay.{IsAnew, IsRefused, IsReplayFault, IsReplayable, IsReplayed}

-- recorded replies at the beginning
abbrev pub begun : List Reply → Recorded
begun replies = record { left = replies; asked = []; faults = 0 }

-- exchanges over recorded replies have the first of them
replies_of : (xs : List Exchange) (old new : Recorded) → Exchanges IsRecordedStep old xs new → old.left ≡ map (λ x. x.reply) xs ++ new.left
unfolding Exchanges
replies_of [] old new same = sym (ap (λ r. r.left) same)
replies_of (x ∷ xs) old new h = h.1.1 ∙ ap (λ rest. x.reply ∷ rest) (replies_of xs h.0 new h.2)

-- what is assembled by exchanges of which one thing holds is so by those of which another follows
by_replies : {A B : List Exchange → Type 0} → ((xs : List Exchange) → A xs → B xs) → (accepts : Accepts) (text : List ℕ) (es : List Entry) (left : List (List ℕ)) (lock bytes : List ℕ)
    → IsAssembledBy A accepts text es left lock bytes → IsAssembledBy B accepts text es left lock bytes
by_replies follows accepts text es left lock bytes made = record {
  settings = made.settings;
  reads = made.reads;
  asks = made.asks;
  home = made.home;
  parts = made.parts;
  session = made.session;
  once = made.once;
  replied = follows (flat_map exchanges_in made.parts) made.replied;
  plan = made.plan;
  digests = made.digests;
  linked = made.linked;
  allowed = made.allowed;
}

-- what is assembled over recorded replies has the first of them
pub replayed : (accepts : Accepts) (replies : List Reply) (link : Recorded) (text lock bytes : List ℕ) (left : List (List ℕ)) (es : List Entry) → link ≡ begun replies
    → IsAssembledAnew IsRecordedStep accepts link text es left lock bytes → IsReplayed accepts replies text es left lock bytes
replayed accepts replies link text lock bytes left es is made =
    by_replies (λ xs replied. record { unused = replied.0.left; are = sym (ap (λ l. l.left) is) ∙ replies_of xs link replied.0 replied.1 }) accepts text es left lock bytes made

-- why nothing is assembled
refused_over : (accepts : Accepts) (replies : List Reply) (e : ClientError) (text : List ℕ) → IsRefusedAnew IsRecordedStep accepts (begun replies) e text → IsRefused accepts replies e text
refused_over accepts replies e text r = record { begun = r.begun; anew = r.anew; ended = r.ended; cause = r.cause }

fault_over : (accepts : Accepts) (replies : List Reply) (e : ClientError) (text : List ℕ) → IsAnewFault IsRecordedStep accepts (begun replies) e text → IsReplayFault accepts replies e text
fault_over accepts replies e text (inl memory) = inl memory
fault_over accepts replies e text (inr r) = inr (refused_over accepts replies e text r)

pub replay_fault : (accepts : Accepts) (replies : List Reply) (link : Recorded) (e : ClientError) (text : List ℕ) → link ≡ begun replies → IsAnewFault IsRecordedStep accepts link e text → IsReplayFault accepts replies e text
replay_fault accepts replies link e text is fault = fault_over accepts replies e text (subst (λ l. IsAnewFault IsRecordedStep accepts l e text) is fault)

-- ---- what is complete

ok_is : (a b : Parts) → ◌≡◌ {A = Parsed Parts} (Ok a) (Ok b) → a ≡ b
ok_is a b e = cc

-- a text is one whole text
one_whole : (text a b : List ℕ) → IsWhole text a → IsWhole text b → a ≡ b
one_whole text a b (inl p) (inl q) = p.1 ∙ sym q.1
one_whole text a b (inl p) (inr q) = absurd (q.0 p.0)
one_whole text a b (inr p) (inl q) = absurd (p.0 q.0)
one_whole text a b (inr p) (inr q) = p.1 ∙ sym q.1

-- who asks the home registry is one
one_home : (a b : Registry → Asker) → AsksHome a → AsksHome b → a ≡ b
one_home a b p q =
    let whole = one_whole (codes "https://home.test/") p.reads.0 q.reads.0 p.reads.1 q.reads.1 in
    let read : p.read ≡ q.read = ok_is p.read q.read (sym p.reads.2 ∙ ap (parse_url None) whole ∙ q.reads.2) in
    p.is ∙ ap (λ (r : Parts). asker (record { url = base_of r; auth_token = None; warg_registry = None })) read ∙ sym q.is

either : {P Q : Type 0} → P ⊎ Q → (Q → ⊥) → P
either (inl p) none = p
either (inr q) none = absurd (none q)

not_risen : (old new : ℕ) → old ≡ 0 → new ≡ 0 → Rose old new → ⊥
not_risen old new a b rose = by (subst (λ n. Rose n new) a rose)
  where
    by : Rose 0 new → ⊥
    by rose = none (subst (λ n. Rose 0 n) b rose)
      where
        none : Rose 0 0 → ⊥
        none rose = omega (arith, rose)

module _ (accepts : Accepts) (replies : List Reply) (text : List ℕ) (old new : Seen Recorded AlwaysDecide) (is : IsAnew accepts replies old) (r : IsReplayable accepts replies text) where
  same_asks : r.asks ≡ old.asker
  same_asks = one_home r.asks old.asker r.home is.home

  replied_still : AreRepliesOf (flat_map exchanges_in r.parts) old.transcript.link.left
  replied_still = subst (AreRepliesOf (flat_map exchanges_in r.parts)) (sym (ap (λ l. l.left) is.link)) r.replied

  -- nothing stands in the way of what can be replayed, where no store has failed
  valid : ((xs : List Exchange) (link : Recorded) → AreRepliesOf xs link.left → GivesReplies IsRecordedStep link xs) → HaveNotFailed new.faults → IsValidCall IsRecordedStep old new text
  valid given steady = record {
    settings = r.settings;
    reads = r.reads;
    known = nothing;
    parts = r.parts;
    entries = r.entries;
    proves = record {
      session = subst (λ a. IsSession a old.asker IsComponent (wanted r.settings) nothing nothing_known r.parts) (sym is.accepts_so)
          (subst (λ a. IsSession accepts a IsComponent (wanted r.settings) nothing nothing_known r.parts) same_asks r.session);
      finds = r.finds;
      knows = is.knows;
      same_accepts = refl;
      same_asker = refl;
      replies = given (flat_map exchanges_in r.parts) old.transcript.link replied_still;
    };
    undisturbed = record {
      stores = record {
        registries = not_risen old.faults.registries new.faults.registries is.steady.registries steady.registries;
        contents = not_risen old.faults.contents new.faults.contents is.steady.contents steady.contents;
        names = not_risen old.faults.names new.faults.names is.steady.names steady.names;
        reads = is.can_be_read;
      };
      can_ask = subst (λ (a : Registry → Asker). AllByRecursion (λ p. CanAsk (a (registry_in p))) r.parts) same_asks r.can_ask;
      pages = subst (λ n. pages_of_parts old.asker r.parts ≤ n) (sym is.pages) (subst (λ a. pages_of_parts a r.parts ≤ page_limit) same_asks r.pages);
    };
    linkable = r.linkable;
  }

  -- recorded replies of a session are given
  answered_all : ((xs : List Exchange) (a b : Recorded) → AreRepliesOf xs a.left → IsUnanswered IsRecordedStep xs a b → ⊥) → IsUnreplied r.parts old new IsRecordedStep → ⊥
  answered_all answered u = answered (flat_map exchanges_in r.parts) old.transcript.link new.transcript.link replied_still u.unanswered

  -- so only memory can be short
  only_memory : ((xs : List Exchange) (link : Recorded) → AreRepliesOf xs link.left → GivesReplies IsRecordedStep link xs) → ((xs : List Exchange) (a b : Recorded) → AreRepliesOf xs a.left → IsUnanswered IsRecordedStep xs a b → ⊥) → HaveNotFailed new.faults
      → (e : ClientError) → ((v : IsValidCall IsRecordedStep old new text) → (e ≡ told.Memory) ⊎ ((e ≡ told.LinkFault) × IsUnreplied v.parts old new IsRecordedStep)) → e ≡ told.Memory
  unfolding valid
  only_memory given answered steady e complete = either (complete (valid given steady)) (λ failed. answered_all answered failed.1)

-- what can be replayed is, but for want of memory
complete_over : (accepts : Accepts) (replies : List Reply) (text : List ℕ) (e : ClientError) → ((xs : List Exchange) (link : Recorded) → AreRepliesOf xs link.left → GivesReplies IsRecordedStep link xs) → ((xs : List Exchange) (a b : Recorded) → AreRepliesOf xs a.left → IsUnanswered IsRecordedStep xs a b → ⊥)
    → IsAnewFault IsRecordedStep accepts (begun replies) e text → IsReplayable accepts replies text → e ≡ told.Memory
complete_over accepts replies text e given answered (inl memory) replayable = memory
complete_over accepts replies text e given answered (inr r) replayable = only_memory accepts replies text r.begun r.ended r.anew replayable given answered r.steady e r.complete

pub replay_complete : (accepts : Accepts) (replies : List Reply) (link : Recorded) (text : List ℕ) (e : ClientError) → link ≡ begun replies → ((xs : List Exchange) (l : Recorded) → AreRepliesOf xs l.left → GivesReplies IsRecordedStep l xs) → ((xs : List Exchange) (a b : Recorded) → AreRepliesOf xs a.left → IsUnanswered IsRecordedStep xs a b → ⊥)
    → IsAnewFault IsRecordedStep accepts link e text → IsReplayable accepts replies text → e ≡ told.Memory
replay_complete accepts replies link text e is given answered fault = complete_over accepts replies text e given answered (subst (λ l. IsAnewFault IsRecordedStep accepts l e text) is fault)
