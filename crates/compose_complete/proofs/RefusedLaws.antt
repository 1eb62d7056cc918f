-- What refuses a composition that can be encoded.
use Rattle.std.proofs.Common.{◌≡◌, ◌∙◌, sym, subst, refl, ℕ, Bool, true, false, List, Option, Some, None, IfSome}
use Rattle.std.specs.Prelude.{is_some, option_and_then}
use Rattle.std.specs.Option.{option_or}
use Rattle.compose_agree.specs.Order.{IsOrder}
use Rattle.compose_check.specs.Checked.{IsCheckRefusal, IsSound, hidden_export}
use Rattle.compose_check.specs.Composition.{CompositionTree, IsComposition, wiring}
use Rattle.compose_check.specs.declared.error.CheckError.{CheckError}
use Rattle.compose_check.specs.declared.error.CheckError.TheVariants as check
use Rattle.compose_check.specs.declared.error.Why.{Why}
use Rattle.compose_check.specs.declared.error.Why.TheVariants as why
use Rattle.compose_complete.specs.Unwritten.{IsExported, IsLargeNumber, IsThere, IsUnwritten, IsUnwrittenGraph}
use Rattle.compose_encode.specs.Encoded.{IsOfWritten}
use Rattle.compose_encode.specs.Refusing.{first_of, hidden_at}
use Rattle.compose_encode.specs.Whole.{CanBeEncoded, IsEncodeRefusal, IsNameClash, IsRefusedBy, IsTooLargeIn, hides, imported, shared_name}
use Rattle.compose_encode.specs.declared.refused.CompositionError.{CompositionError}
use Rattle.compose_encode.specs.declared.refused.CompositionError.TheVariants as refusal
use Rattle.compose_graph.specs.Composed.{composed}
use Rattle.compose_graph.specs.Encoding.{HasNoExport, IsComposeRefusal, export_place}
use Rattle.compose_graph.specs.Encoding as graph
use Rattle.compose_graph.specs.Graph.{ConnectFault, GraphTree, instance_at}
use Rattle.compose_graph.specs.Refusal.{IsConnectRefusal}
use Rattle.compose_graph.specs.declared.compose_error.ComposeError.{ComposeError}
use Rattle.compose_graph.specs.declared.compose_error.ComposeError.TheVariants as error
use Rattle.compose_graph.specs.declared.error.GraphError.{GraphError}
use Rattle.compose_graph.specs.declared.error.GraphError.TheVariants as unconnected
use Rattle.compose_graph.specs.declared.ids.InstanceId.{InstanceId}
use Rattle.compose_graph.specs.declared.options.EncodeOptions.{EncodeOptions}
use Rattle.compose_needs.specs.Lefts.{Lefts, lefts_of}
use Rattle.compose_check.specs.Open.{lefts}
use Rattle.compose_order.specs.Agreed.{AreOrdered}
use Rattle.compose_order.specs.Needs.{LeftTree}

none_some : {X P : Type 0} (o : Option X) (x : X) → o ≡ None → o ≡ Some x → P
none_some o x a b = absurd cc

-- ---- one order

pub one_order_of : ((ready : List ℕ → ℕ → Bool) (all xs ys : List ℕ) → IsOrder ready all xs → IsOrder ready all ys → xs ≡ ys)
    → (c : CompositionTree) (xs ys : List ℕ) (ls ms : List LeftTree) → IsSound c xs ls → IsSound c ys ms → xs ≡ ys
one_order_of law c xs ys ls ms a b = law _ _ xs ys a.in_order b.in_order

pub one_agreement : ((left : Lefts) (all xs ys : List LeftTree) → AreOrdered left all xs → AreOrdered left all ys → xs ≡ ys)
    → (c : CompositionTree) (xs ys : List ℕ) (ls ms : List LeftTree) → IsSound c xs ls → IsSound c ys ms → ls ≡ ms
one_agreement law c xs ys ls ms a b = law (lefts_of (wiring c)) (lefts (wiring c)) ls ms a.agree.ordered b.agree.ordered

-- ---- with components defined

shown_of : (o p : Option (List ℕ)) → option_or o p ≡ None → option_or o None ≡ None
shown_of None p h = refl
shown_of (Some x) p h = absurd cc

pub bundled : (c : CompositionTree) (export : Option ℕ) (order : List ℕ) (ls : List LeftTree) → CanBeEncoded c false export order ls → CanBeEncoded c true export order ls
bundled c export order ls can = record {
  sound = can.sound;
  had = shown_of (option_and_then (hidden_export (wiring c)) export) (first_of (hidden_at c) (imported c false)) can.had;
  apart = refl;
}

-- ---- refusals

abbrev pub Unrefused : Type 0
Unrefused = (c : CompositionTree) (order : List ℕ) (out : List LeftTree) (e : CheckError) → IsComposition c → IsSound c order out → IsCheckRefusal c e → e ≡ check.Memory

abbrev pub OneOrder : Type 0
OneOrder = (c : CompositionTree) (xs ys : List ℕ) (ls ms : List LeftTree) → IsSound c xs ls → IsSound c ys ms → xs ≡ ys

abbrev pub OneAgreement : Type 0
OneAgreement = (c : CompositionTree) (xs ys : List ℕ) (ls ms : List LeftTree) → IsSound c xs ls → IsSound c ys ms → ls ≡ ms

incompatible : {P : Type 0} (w : Why) → check.Incompatible w ≡ check.Memory → P
incompatible w e = absurd cc

cycle : {P : Type 0} (n : ℕ) (name : List ℕ) → check.Cycle n name ≡ check.Memory → P
cycle n name e = absurd cc

module _ (unrefused : Unrefused) (one_order : OneOrder) (agreement : OneAgreement) (c : CompositionTree) (made : IsComposition c) where
  module _ (define : Bool) (export : Option ℕ) (order : List ℕ) (ls : List LeftTree) (can : CanBeEncoded c define export order ls) where
    pub not_refused : {P : Type 0} (e : CheckError) → IsRefusedBy c define export e → P
    not_refused (check.Cycle n name) r = cycle n name (unrefused c order ls (check.Cycle n name) made can.sound r)
    not_refused (check.Incompatible (why.ExportNeeds name)) r = none_some (hides c define export) name can.had r.first
    not_refused (check.Incompatible (why.NotInstance n)) r = incompatible (why.NotInstance n) (unrefused c order ls (check.Incompatible (why.NotInstance n)) made can.sound r)
    not_refused (check.Incompatible (why.Unfit n m)) r = incompatible (why.Unfit n m) (unrefused c order ls (check.Incompatible (why.Unfit n m)) made can.sound r)
    not_refused (check.Incompatible (why.Disagree n)) r = incompatible (why.Disagree n) (unrefused c order ls (check.Incompatible (why.Disagree n)) made can.sound r)
    not_refused (check.Incompatible (why.CaseClash n m)) r = incompatible (why.CaseClash n m) (unrefused c order ls (check.Incompatible (why.CaseClash n m)) made can.sound r)
    not_refused (check.Incompatible (why.NeedsUnbrought n)) r = incompatible (why.NeedsUnbrought n) (unrefused c order ls (check.Incompatible (why.NeedsUnbrought n)) made can.sound r)
    not_refused (check.Incompatible (why.Circle n)) r = incompatible (why.Circle n) (unrefused c order ls (check.Incompatible (why.Circle n)) made can.sound r)
    not_refused check.Memory r = absurd r

    pub no_clash : {P : Type 0} (name : List ℕ) → IsNameClash c define export name → P
    no_clash name clash = none_some (shared_name c define clash.lefts) name (subst (λ l. shared_name c define l ≡ None) (agreement c order clash.order ls clash.lefts can.sound clash.sound) can.apart) clash.first

    pub large : (n : ℕ) → IsTooLargeIn c define export n → IsLargeNumber c define export order ls n
    large n r = record {
      large = r.large;
      among = subst (λ o. IsOfWritten n c define export o ls) (one_order c r.order order r.lefts ls r.possible.sound can.sound)
          (subst (λ l. IsOfWritten n c define export r.order l) (agreement c r.order order r.lefts ls r.possible.sound can.sound) r.among);
    }

    pub unwritten : (e : CompositionError) → IsEncodeRefusal c define export e → IsUnwritten c define export order ls e
    unwritten (refusal.Refused e) r = not_refused e r
    unwritten (refusal.ImportNameClash name) r = no_clash name r
    unwritten (refusal.TooLarge n) r = large n r
    unwritten refusal.Memory r = record {}

-- ---- graphs

module _ (unrefused : Unrefused) (one_order : OneOrder) (agreement : OneAgreement) (g : GraphTree) (made : IsComposition (composed g)) (o : EncodeOptions) (order : List ℕ) (ls : List LeftTree)
    (can : CanBeEncoded (composed g) o.define_components (export_place g o) order ls) where
  judged : {P : Type 0} (e : CheckError) → graph.IsRefusedBy g o e → P
  judged (check.Cycle id name) r = cycle r.place name (unrefused (composed g) order ls (check.Cycle r.place name) made can.sound r.circle)
  judged (check.Incompatible (why.ExportNeeds name)) r = none_some (hides (composed g) o.define_components (export_place g o)) name can.had r.first
  judged (check.Incompatible (why.NotInstance n)) r = incompatible (why.NotInstance n) (unrefused (composed g) order ls (check.Incompatible (why.NotInstance n)) made can.sound r)
  judged (check.Incompatible (why.Unfit n m)) r = incompatible (why.Unfit n m) (unrefused (composed g) order ls (check.Incompatible (why.Unfit n m)) made can.sound r)
  judged (check.Incompatible (why.Disagree n)) r = incompatible (why.Disagree n) (unrefused (composed g) order ls (check.Incompatible (why.Disagree n)) made can.sound r)
  judged (check.Incompatible (why.CaseClash n m)) r = incompatible (why.CaseClash n m) (unrefused (composed g) order ls (check.Incompatible (why.CaseClash n m)) made can.sound r)
  judged (check.Incompatible (why.NeedsUnbrought n)) r = incompatible (why.NeedsUnbrought n) (unrefused (composed g) order ls (check.Incompatible (why.NeedsUnbrought n)) made can.sound r)
  judged (check.Incompatible (why.Circle n)) r = incompatible (why.Circle n) (unrefused (composed g) order ls (check.Incompatible (why.Circle n)) made can.sound r)
  judged check.Memory r = absurd r

  absent : {P : Type 0} → IsExported g o → HasNoExport g o → P
  absent there none = by o.export none.asked there
    where
      by : {P : Type 0} (x : Option InstanceId) → x ≡ Some none.id → IfSome x (IsThere g) → P
      by x e h = no (instance_at g.instances none.id.0) none.absent (subst (λ y. IfSome y (IsThere g)) e h)
        where
          no : {P X : Type 0} (i : Option X) → i ≡ None → is_some i ≡ true → P
          no None e h = absurd cc
          no (Some x) e h = absurd cc

  pub unwritten_graph : IsExported g o → o.validate ≡ false → (e : ComposeError) → IsComposeRefusal g o e → IsUnwrittenGraph g o order ls e
  unwritten_graph there quiet error.NoExportInstance r = absent there r
  unwritten_graph there quiet (error.Check e) r = judged e r
  unwritten_graph there quiet (error.ImportNameClash name) r = no_clash unrefused one_order agreement (composed g) made o.define_components (export_place g o) order ls can name r
  unwritten_graph there quiet (error.TooLarge n) r = large unrefused one_order agreement (composed g) made o.define_components (export_place g o) order ls can n r
  unwritten_graph there quiet (error.InvalidOutput e) r = no (sym quiet ∙ r.asked)
    where
      no : {P : Type 0} → false ≡ true → P
      no e = absurd cc
  unwritten_graph there quiet error.Memory r = record {}

-- ---- connections

pub connected : (fault : Option ConnectFault) (e : GraphError) → fault ≡ None → IsConnectRefusal fault e → e ≡ unconnected.Memory
connected fault unconnected.SelfConnection none r = none_some fault _ none r
connected fault unconnected.NoSource none r = none_some fault _ none r
connected fault unconnected.NoTarget none r = none_some fault _ none r
connected fault unconnected.BadImportIndex none r = none_some fault _ none r
connected fault unconnected.AlreadyConnected none r = none_some fault _ none r
connected fault unconnected.BadExportIndex none r = none_some fault _ none r
connected fault unconnected.NotCompatible none r = none_some fault _ none r
connected fault unconnected.Memory none r = refl
connected fault (unconnected.NameExists told) none r = absurd r
connected fault unconnected.IdLimit none r = absurd r
connected fault unconnected.NoComponent none r = absurd r
