use Rattle.std.proofs.Common.{◌≡◌, ℕ, List, Some, sym, ap, subst, ◌∙◌, cond}
use Rattle.std.specs.Prelude.{bytes_eq}
use Rattle.std.specs.BTreeMap.{is_at}
use Rattle.std.specs.Map.{keys_of, lookup}
use Rattle.std.specs.Map.Iter.{deref_pair}
use Rattle.std.specs.Cmp.Lexicographic.{slice_cmp}
use Rattle.std.specs.Ordering.{nat_cmp}
use Rattle.std.proofs.lemmas.Map.Iter.{rest_more}
use Rattle.std.proofs.lemmas.Map.Keys.{IsDistinct-from_sorted}
use Rattle.warg_log.specs.declared.keys.KeyFacts.{KeyFacts}
use Rattle.warg_log.specs.Keys.{known}
use Rattle.warg_log.proofs.Copying.{IsCopying, copying-none, copying-more, seen_itself}
use Rattle.warg_log.proofs.KeyMaps.{known_after}
use Rattle.warg_log.proofs.keys.Keys.try_clone.Goals as goal

abbrev itself : List ℕ → List ℕ
itself id = id

abbrev facts_itself : KeyFacts → KeyFacts
facts_itself f = f

pub loop-id-init : goal.loop-id-init
loop-id-init c =
    let gives = c.into_iter-id-iterator.ensures.into_iter_gives in
    let entries = c.args.self.now.map.entries in
    subst (λ (rest : List (List ℕ × KeyFacts)). IsCopying itself facts_itself (known (record { map = c.new-map.result })) (known c.args.self.now) rest) (sym gives.0)
    (copying-none itself facts_itself (known (record { map = c.new-map.result })) (known c.args.self.now) entries
    (λ q. ap (λ (es : List (List ℕ × KeyFacts)). lookup (is_at (λ (k : List ℕ). slice_cmp nat_cmp q k)) es) c.new-map.ensures.empty)
    (λ q. seen_itself (known c.args.self.now q))
    (IsDistinct-from_sorted (slice_cmp nat_cmp) (keys_of entries) gives.5))

pub loop-id-preserved : goal.loop-id-preserved
loop-id-preserved c =
    let id = c.in-Some.id.now in
    let facts : KeyFacts = c.in-Some.facts.now in
    let made : KeyFacts = record { key = c.in_ok-try_clone.field-0; permissions = facts.permissions } in
    let same : made ≡ facts = ap (λ (key : List ℕ). record { key = key; permissions = facts.permissions }) c.in_ok-try_clone.ensures in
    let left = rest_more deref_pair c.loop-id.id-iterator c.next.new.self c.next.result (c.in-Some.id, c.in-Some.facts) c.in-Some.is c.next.ensures.steps in
    let before = subst (λ (rest : List (List ℕ × KeyFacts)). IsCopying itself facts_itself (known (record { map = c.loop-id.map })) (known c.args.self.now) rest) left c.loop-id.invariant in
    copying-more itself facts_itself (known (record { map = c.loop-id.map })) (known (record { map = c.insert.new.self })) (known c.args.self.now) id facts c.next.new.self before
    (λ q. known_after id c.loop-id.map c.insert.new.self (Some made) c.in_ok-insert.ensures.updates q
    ∙ ap (λ (f : KeyFacts). cond (bytes_eq id q) (Some f) (known (record { map = c.loop-id.map }) q)) same)
