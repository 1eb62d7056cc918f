use Rattle.std.proofs.Common.{◌≡◌, inl, inr, List, ℕ, Option, Some, option_copied, sym, ap, subst}
use Rattle.std.specs.Borrow.{Bor}
use Rattle.http_header.specs.FieldValue.{FieldValue}
use Rattle.warg_hint.specs.Hint.{IsHint, Gives, IsPassedOver, hint_value}
use Rattle.warg_hint.proofs.GivenLaws.{one-namespace}
use Rattle.warg_hint.proofs.answer.answer_hint.Goals as goal

given : (header : Option FieldValue) (value : FieldValue) (n r : List ℕ) → header ≡ Some value → IsHint value.bytes n r → Gives (hint_value header) n r
given header value n r is hint = subst (λ (h : Option FieldValue). Gives (hint_value h) n r) (sym is) hint

given-is : (header : Option FieldValue) (value : FieldValue) (n r : List ℕ) → header ≡ Some value → Gives (hint_value header) n r → IsHint value.bytes n r
given-is header value n r is gives = subst (λ (h : Option FieldValue). Gives (hint_value h) n r) is gives

pub returns-then-settings-clause-reported : goal.returns-then-settings-clause-reported
returns-then-settings-clause-reported g c _ =
    let hint = c.in-Some-read_hint.hint in
    record {
      namespace = hint.namespace.now;
      registry = hint.registry.now;
      hint = given (option_copied c.args.value) c.in-Some.value.now hint.namespace.now hint.registry.now (ap (λ (o : Option (Bor FieldValue)). option_copied o) c.in-Some.is) c.in-Some-read_hint.ensures;
      reports = c.if-settings.true;
    }

pub returns-then-is_followed-clause-followed : goal.returns-then-is_followed-clause-followed
returns-then-is_followed-clause-followed g c _ =
    let hint = c.in-Some-read_hint.hint in
    let followed = c.is_followed.ensures.followed c.if-is_followed.true in
    record {
      namespace = hint.namespace.now;
      registry = hint.registry.now;
      hint = given (option_copied c.args.value) c.in-Some.value.now hint.namespace.now hint.registry.now (ap (λ (o : Option (Bor FieldValue)). option_copied o) c.in-Some.is) c.in-Some-read_hint.ensures;
      may_ask = c.if-settings.false;
      for_it = followed.0;
      accepted = followed.1;
    }

pub returns-then-is_followed-clause-unasked : goal.returns-then-is_followed-clause-unasked
returns-then-is_followed-clause-unasked g c unasked =
    let hint = c.in-Some-read_hint.hint in
    c.is_followed.ensures.unasked (λ for_it not_by_itself. unasked hint.namespace.now hint.registry.now
    (given (option_copied c.args.value) c.in-Some.value.now hint.namespace.now hint.registry.now (ap (λ (o : Option (Bor FieldValue)). option_copied o) c.in-Some.is) c.in-Some-read_hint.ensures)
    (record { may_ask = c.if-settings.false; for_it = for_it; not_by_itself = not_by_itself }))

pub returns-else-is_followed-clause-left : goal.returns-else-is_followed-clause-left
returns-else-is_followed-clause-left g c _ namespace registry gives =
    let hint = c.in-Some-read_hint.hint in
    let settings = c.args.settings.now in
    let said = g.D.Decide.said c.args.decide.now c.is_followed.new.decide in
    let is = given-is (option_copied c.args.value) c.in-Some.value.now namespace registry (ap (λ (o : Option (Bor FieldValue)). option_copied o) c.in-Some.is) gives in
    let same : hint.namespace.now ≡ namespace = one-namespace c.in-Some.value.now.bytes hint.namespace.now namespace hint.registry.now registry c.in-Some-read_hint.ensures is in
    subst (λ (n : List ℕ). IsPassedOver settings said c.args.name.now n) same (record {
      may_ask = c.if-settings.false;
      refused = elim (c.is_followed.ensures.left c.if-is_followed.false) [
        | inl other ↦ inl other
        | inr asked ↦ inr (record { may_ask = c.if-settings.false; for_it = asked.0; not_by_itself = asked.1 }, asked.2)
      ];
    })

pub returns-else-is_followed-clause-unasked : goal.returns-else-is_followed-clause-unasked
returns-else-is_followed-clause-unasked g c unasked =
    let hint = c.in-Some-read_hint.hint in
    c.is_followed.ensures.unasked (λ for_it not_by_itself. unasked hint.namespace.now hint.registry.now
    (given (option_copied c.args.value) c.in-Some.value.now hint.namespace.now hint.registry.now (ap (λ (o : Option (Bor FieldValue)). option_copied o) c.in-Some.is) c.in-Some-read_hint.ensures)
    (record { may_ask = c.if-settings.false; for_it = for_it; not_by_itself = not_by_itself }))
