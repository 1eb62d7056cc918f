use Rattle.std.proofs.Common.{rules, ◌≡◌, ◌≢◌, ◌∷◌, [], List, ℕ, Option, ap, subst, length}
use Rattle.std.specs.Prelude.{bytes_eq, option_copied}
use Rattle.std.specs.List.{IsDistinct}
use Rattle.std.specs.Map.Iter.{deref_pair}
use Rattle.std.proofs.lemmas.Map.Iter.{rest_more}
use Rattle.warg_model.specs.Held.{registry_of}
use Rattle.warg_model.specs.Pages.{AreBehind}
use Rattle.warg_model.specs.State.{held}
use Rattle.warg_model.proofs.ListLaws.{Asked, asked-ids, fills-none, fills-some, no-items}
use Rattle.warg_model.proofs.registry.ModelRegistry.lists_asked.Goals as goal

pub loop-id-preserved-in_ok-insert : goal.loop-id-preserved-in_ok-insert
loop-id-preserved-in_ok-insert c =
    let w = registry_of (held c.args.self.now) in
    let n = c.args.length in
    let left = c.loop-id.id-iterator in
    let rest = c.next.new.self in
    let a : Asked = (c.in-Some.id.now, c.in-Some.token.now) in
    let records = c.in_ok-records.records.items in
    let next : left ≡ a ∷ rest = rest_more deref_pair left rest c.next.result (c.in-Some.id, c.in-Some.token) c.in-Some.is c.next.ensures.steps in
    let token : option_copied c.as_ref.result ≡ c.in-Some.token.now = search rules in
    let behind : AreBehind w n a.0 a.1 records = subst (λ (t : Option (List ℕ)). AreBehind w n a.0 t records) token c.in_ok-records.ensures.records in
    let distinct : IsDistinct bytes_eq (asked-ids c.args.asked.now.entries) = search rules in
    let some : records ≢ [] = λ none. (let zero : length records ≡ 0 = ap length none in search rules) in
    fills-some _ w n c.args.asked.now.entries left rest c.loop-id.listed.entries c.insert.new.self.entries a records c.from_vec.result c.in_ok-insert.ensures.entries c.from_vec.ensures (λ x e. search rules) distinct c.loop-id.invariant next behind some

pub loop-id-preserved-in_ok-insert-2 : goal.loop-id-preserved-in_ok-insert-2
loop-id-preserved-in_ok-insert-2 c =
    let w = registry_of (held c.args.self.now) in
    let n = c.args.length in
    let left = c.loop-id.id-iterator in
    let rest = c.next.new.self in
    let a : Asked = (c.in-Some.id.now, c.in-Some.token.now) in
    let records = c.in_ok-records.records.items in
    let next : left ≡ a ∷ rest = rest_more deref_pair left rest c.next.result (c.in-Some.id, c.in-Some.token) c.in-Some.is c.next.ensures.steps in
    let token : option_copied c.as_ref.result ≡ c.in-Some.token.now = search rules in
    let behind : AreBehind w n a.0 a.1 records = subst (λ (t : Option (List ℕ)). AreBehind w n a.0 t records) token c.in_ok-records.ensures.records in
    let distinct : IsDistinct bytes_eq (asked-ids c.args.asked.now.entries) = search rules in
    let some : records ≢ [] = λ none. (let zero : length records ≡ 0 = ap length none in search rules) in
    fills-some _ w n c.args.asked.now.entries left rest c.loop-id.listed.entries c.insert.new.self.entries a records c.from_vec.result c.in_ok-insert.ensures.entries c.from_vec.ensures (λ x e. search rules) distinct c.loop-id.invariant next behind some

pub loop-id-preserved : goal.loop-id-preserved
loop-id-preserved c =
    let w = registry_of (held c.args.self.now) in
    let n = c.args.length in
    let left = c.loop-id.id-iterator in
    let rest = c.next.new.self in
    let a : Asked = (c.in-Some.id.now, c.in-Some.token.now) in
    let records = c.in_ok-records.records.items in
    let next : left ≡ a ∷ rest = rest_more deref_pair left rest c.next.result (c.in-Some.id, c.in-Some.token) c.in-Some.is c.next.ensures.steps in
    let token : option_copied c.as_ref.result ≡ c.in-Some.token.now = search rules in
    let behind : AreBehind w n a.0 a.1 records = subst (λ (t : Option (List ℕ)). AreBehind w n a.0 t records) token c.in_ok-records.ensures.records in
    let zero : length records ≡ 0 = search rules in
    fills-none w n c.args.asked.now.entries left rest c.loop-id.listed.entries a records c.loop-id.invariant next behind (no-items records zero)
