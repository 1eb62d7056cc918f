-- That over a link that gives the replies of a download another asks for the same, and gives the same.
use Rattle.std.proofs.Common.{◌≡◌, ◌++◌, ◌∷◌, [], inl, inr, List, ℕ, true, false, Result, Ok, Err, refl, sym, ◌∙◌, ap, subst, append_assoc}
use Rattle.std.proofs.lemmas.Bool.{false≢true}
use Rattle.std.proofs.lemmas.List.{append-nil}
use Rattle.warg_exchange.specs.declared.exchange.Exchange.{Exchange}
use Rattle.warg_exchange.specs.declared.exchange.Request.{Request}
use Rattle.warg_exchange.specs.declared.exchange.Reply.{Reply}
use Rattle.warg_exchange.specs.Replies.{Refused, is_success, says, sources_in}
use Rattle.warg_exchange.specs.Requests.{Asker, plain_get, sources_request}
use Rattle.warg_exchange.specs.Views.{Sources}
use Rattle.warg_api.specs.Calls.{IsMeaningless, IsReplyFault, IsCallFault}
use Rattle.warg_api.specs.Download.{Tried, none_yet, one_more, Lists, Finds, Downloads, AllFail, GetsNext, IsDownloadFault, urls_of}
use Rattle.warg_api.specs.Errors.{content_error}
use Rattle.warg_api.specs.Link.{Asked, answered, unanswered, Exchanges}
use Rattle.warg_api.specs.declared.error.ClientError.{ClientError}
use Rattle.warg_api.specs.declared.error.ClientError.TheVariants as call
use Rattle.warg_course.specs.Replies.{GivesReplies}
use Rattle.warg_course.specs.Refusals.{IsUnanswered, IsOwnFault}
use Rattle.warg_course.proofs.ReplyLaws.{head-is, tail-is, cons-none, one-value}
use Rattle.warg_course.proofs.GivenLaws.{given-rest, reply-given, same-given, exchanges-apart}

-- ---- URLs that were tried

-- each of these URLs was asked for in turn, and no reply was a success
abbrev AreTried : List (List ℕ) → List Exchange → Type 0
AreTried [] [] = Unit {0}
AreTried (u ∷ us) (x ∷ xs) = (x.request ≡ plain_get u) × (is_success x.reply.status ≡ false) × AreTried us xs
AreTried [] (x ∷ xs) = ⊥
AreTried (u ∷ us) [] = ⊥

tried-push : (us : List (List ℕ)) (xs : List Exchange) (u : List ℕ) (x : Exchange) → AreTried us xs → x.request ≡ plain_get u → is_success x.reply.status ≡ false → AreTried (us ++ u ∷ []) (xs ++ x ∷ [])
tried-push [] [] u x are asked failed = (asked, failed, tt)
tried-push (v ∷ us) (y ∷ xs) u x are asked failed = (are.0, are.1, tried-push us xs u x are.2 asked failed)
tried-push [] (y ∷ xs) u x are asked failed = absurd are
tried-push (v ∷ us) [] u x are asked failed = absurd are

record HasTried (all left : List (List ℕ)) (xs : List Exchange) : Type 0 where
  urls : List (List ℕ)
  parts : all ≡ urls ++ left
  are : AreTried urls xs

in-turn : (all left : List (List ℕ)) (xs : List Exchange) → Tried all left xs → HasTried all left xs
in-turn all left xs none_yet = record { urls = []; parts = refl; are = tt }
in-turn all left xs (one_more url rest ys reply so_far failed) =
    let before = in-turn all (url ∷ rest) ys so_far in
    record {
      urls = before.urls ++ url ∷ [];
      parts = before.parts ∙ sym (append_assoc before.urls (url ∷ []) rest);
      are = tried-push before.urls ys url (record { request = plain_get url; reply = reply }) before.are refl failed;
    }

-- the exchanges are the first of those that were tried before a success
record IsBehind (xs ys : List Exchange) (left later : List (List ℕ)) : Type 0 where
  urls : List (List ℕ)
  more : List Exchange
  are : AreTried urls more
  parts : ys ≡ xs ++ more
  urls_left : left ≡ urls ++ later

failed-not : (r s : Reply) → r ≡ s → is_success r.status ≡ false → is_success s.status ≡ true → ⊥
failed-not r s same failed success = false≢true (sym failed ∙ ap (λ (t : Reply). is_success t.status) same ∙ success)

-- behind them the next exchange asks for this URL, and where it is a success it is the last
record ComesNext (xs ys : List Exchange) (get : Exchange) (url : List ℕ) : Type 0 where
  next : Exchange
  rest : List Exchange
  parts : ys ++ get ∷ [] ≡ xs ++ next ∷ rest
  asks : plain_get url ≡ next.request
  ends : is_success next.reply.status ≡ true → (ys ≡ xs) × (next ≡ get)

comes-next : (xs ys : List Exchange) (urls : List (List ℕ)) (more : List Exchange) (get : Exchange) (u v : List ℕ) (us vs : List (List ℕ)) → AreTried urls more → ys ≡ xs ++ more → u ∷ us ≡ urls ++ v ∷ vs → get.request ≡ plain_get v
    → ComesNext xs ys get u
comes-next xs ys [] [] get u v us vs are parts e asks =
    let same : ys ≡ xs = parts ∙ append-nil xs in
    record { next = get; rest = []; parts = ap (λ (l : List Exchange). l ++ get ∷ []) same; asks = ap plain_get (head-is u v us vs e) ∙ sym asks; ends = λ success. (same, refl) }
comes-next xs ys [] (m ∷ more) get u v us vs are parts e asks = absurd are
comes-next xs ys (w ∷ urls) [] get u v us vs are parts e asks = absurd are
comes-next xs ys (w ∷ urls) (m ∷ more) get u v us vs are parts e asks = record {
  next = m;
  rest = more ++ get ∷ [];
  parts = ap (λ (l : List Exchange). l ++ get ∷ []) parts ∙ append_assoc xs (m ∷ more) (get ∷ []);
  asks = ap plain_get (head-is u w us (urls ++ v ∷ vs) e) ∙ sym are.0;
  ends = λ success. absurd (false≢true (sym are.1 ∙ success));
}

cons-same : {A : Type 0} (x y : A) (xs ys zs ws : List A) → xs ≡ x ∷ zs → ys ≡ y ∷ ws → x ≡ y → zs ≡ ws → xs ≡ ys
cons-same {A = A} x y xs ys zs ws e f same rest = e ∙ ap (λ (z : A). z ∷ zs) same ∙ ap (λ (l : List A). y ∷ l) rest ∙ sym f

append-some : {A : Type 0} (xs ys : List A) (y : A) → [] ≡ xs ++ y ∷ ys → ⊥
append-some [] ys y e = cons-none y ys (sym e)
append-some (x ∷ xs) ys y e = cons-none x (xs ++ y ∷ ys) (sym e)

-- ---- the sources

one-list : (a : Asker) (digest : List ℕ) (xs ys rest later : List Exchange) (all other : List (List ℕ)) → (l : Lists a digest xs rest all) → (m : Lists a digest ys later other) → l.first.reply ≡ m.first.reply → all ≡ other
one-list a digest xs ys rest later all other l m same =
    let said : says sources_in m.first.reply ≡ Ok l.sources = subst (λ (r : Reply). says sources_in r ≡ Ok l.sources) same l.says_so in
    sym l.lists ∙ ap (urls_of digest) (one-value sources_in m.first.reply l.sources m.sources said m.says_so) ∙ m.lists

-- the last exchange of a download
abbrev got : {all : List (List ℕ)} {xs : List Exchange} {body : List ℕ} → Finds all xs body → Exchange
got found = record { request = plain_get found.url; reply = found.reply }

-- what the exchanges of a download are
download-is : (a : Asker) (digest : List ℕ) (ys : List Exchange) (bytes : List ℕ) → (d : Downloads a digest ys bytes) → ys ≡ d.2.first ∷ (d.3.tried ++ got d.3 ∷ [])
download-is a digest ys bytes d = d.2.in_turn ∙ ap (λ (l : List Exchange). d.2.first ∷ l) d.3.in_turn

-- ---- the call for the sources

ok-or-err : {A E : Type 0} (r : Result A E) (x : A) (e : E) → r ≡ Ok x → r ≡ Err e → ⊥
ok-or-err r x e is bad = absurd cc

has-meaning : (e : ClientError) (reply : Reply) (sources : Sources) → says sources_in reply ≡ Ok sources → IsMeaningless e reply sources_in → e ≡ call.Memory
has-meaning (call.UnexpectedResponse status message) reply sources is bad = absurd (ok-or-err (says sources_in reply) sources _ is bad.1)
has-meaning (call.Hash text) reply sources is bad = absurd (ok-or-err (says sources_in reply) sources _ is bad)
has-meaning call.Memory reply sources is bad = refl
has-meaning e reply sources is bad = absurd bad

sources-said : (e : ClientError) (reply : Reply) (sources : Sources) → says sources_in reply ≡ Ok sources → IsReplyFault content_error e reply sources_in → e ≡ call.Memory
sources-said e reply sources is (inl refused) = absurd (ok-or-err (says sources_in reply) sources (Refused refused.0) is refused.1)
sources-said e reply sources is (inr bad) = has-meaning e reply sources is bad

module _ {T : Type 0} (Steps : T → Asked → T → Type 0) where
  of-memory : (a : Asker) (ys : List Exchange) (e : ClientError) (old new : T) → e ≡ call.Memory → IsOwnFault e a Steps ys old new
  of-memory a ys e old new is = subst (λ (f : ClientError). IsOwnFault f a Steps ys old new) (sym is) tt

  of-link : (a : Asker) (ys : List Exchange) (e : ClientError) (old new : T) → e ≡ call.LinkFault → IsUnanswered Steps ys old new → IsOwnFault e a Steps ys old new
  of-link a ys e old new is none = subst (λ (f : ClientError). IsOwnFault f a Steps ys old new) (sym is) none

  call-taken : (a : Asker) (digest : List ℕ) (ys : List Exchange) (bytes : List ℕ) (e : ClientError) (old new : T) → Downloads a digest ys bytes → GivesReplies Steps old ys → IsCallFault a content_error e Steps old (sources_request a digest) new sources_in
      → IsOwnFault e a Steps ys old new
  unfolding Exchanges
  call-taken a digest ys bytes e old new d given (inl bad) = subst (λ (f : ClientError). IsOwnFault f a Steps ys old new) (sym bad.0) bad.1
  call-taken a digest ys bytes e old new d given (inr (inl bad)) =
      of-link a ys e old new bad.0 (record { done = []; next = d.2.first; rest = d.0; in_turn = d.2.in_turn; before = old; passed = refl; failed = subst (λ (r : Request). Steps old (unanswered r) new) (sym d.2.asks) bad.1 })
  call-taken a digest ys bytes e old new d given (inr (inr (inl bad))) = of-memory a ys e old new bad.0
  call-taken a digest ys bytes e old new d given (inr (inr (inr bad))) =
      let first : bad.0 ≡ d.2.first.reply = (reply-given Steps d.2.first d.0 old new (sources_request a digest) bad.0 (subst (GivesReplies Steps old) d.2.in_turn given) (sym d.2.asks) bad.1).0 in
      of-memory a ys e old new (sources-said e bad.0 d.2.sources (subst (λ (r : Reply). says sources_in r ≡ Ok d.2.sources) (sym first) d.2.says_so) bad.2)

  -- ---- a download

  -- URLs that were tried over a link that gives the replies to others, of which the last one alone is a success
  tried-behind : (us ts left later : List (List ℕ)) (xs ys : List Exchange) (get : Exchange) (v : List ℕ) (old new : T) → AreTried us xs → AreTried ts ys → us ++ left ≡ ts ++ v ∷ later → get.request ≡ plain_get v → is_success get.reply.status ≡ true
      → GivesReplies Steps old (ys ++ get ∷ []) → Exchanges Steps old xs new → IsBehind xs ys left (v ∷ later)
  unfolding Exchanges
  tried-behind [] ts left later [] ys get v old new p q e asks success given passed = record { urls = ts; more = ys; are = q; parts = refl; urls_left = e }
  tried-behind [] ts left later (x ∷ xs) ys get v old new p q e asks success given passed = absurd p
  tried-behind (u ∷ us) ts left later [] ys get v old new p q e asks success given passed = absurd p
  tried-behind (u ∷ us) [] left later (x ∷ xs) [] get v old new p q e asks success given passed =
      let asked : x.request ≡ get.request = p.0 ∙ ap plain_get (head-is u v (us ++ left) later e) ∙ sym asks in
      let same : x ≡ get = (same-given Steps x get [] old passed.0 given asked passed.1).0 in
      absurd (failed-not x.reply get.reply (ap (λ (z : Exchange). z.reply) same) p.1 success)
  tried-behind (u ∷ us) [] left later (x ∷ xs) (y ∷ ys) get v old new p q e asks success given passed = absurd q
  tried-behind (u ∷ us) (t ∷ ts) left later (x ∷ xs) [] get v old new p q e asks success given passed = absurd q
  tried-behind (u ∷ us) (t ∷ ts) left later (x ∷ xs) (y ∷ ys) get v old new p q e asks success given passed =
      let asked : x.request ≡ y.request = p.0 ∙ ap plain_get (head-is u t (us ++ left) (ts ++ v ∷ later) e) ∙ sym q.0 in
      let same = same-given Steps x y (ys ++ get ∷ []) old passed.0 given asked passed.1 in
      let rest = tried-behind us ts left later xs ys get v passed.0 new p.2 q.2 (tail-is u t (us ++ left) (ts ++ v ∷ later) e) asks success same.1 passed.2 in
      record {
        urls = rest.urls;
        more = rest.more;
        are = rest.are;
        parts = ap (λ (l : List Exchange). y ∷ l) rest.parts ∙ ap (λ (z : Exchange). z ∷ (xs ++ rest.more)) (sym same.0);
        urls_left = rest.urls_left;
      }

  -- the sources are listed as by the download, and behind them the link gives the replies to its other requests
  record HasListed (first other : Exchange) (all known : List (List ℕ)) (rest left : List Exchange) (new : T) : Type 0 where
    mid : T
    same : first ≡ other
    one : all ≡ known
    given : GivesReplies Steps mid left
    passed : Exchanges Steps mid rest new

  has-listed : (a : Asker) (digest : List ℕ) (xs ys rest : List Exchange) (all : List (List ℕ)) (bytes : List ℕ) (old new : T) → (d : Downloads a digest ys bytes) → GivesReplies Steps old ys → (l : Lists a digest xs rest all) → Exchanges Steps old xs new
      → HasListed l.first d.2.first all d.1 rest (d.3.tried ++ got d.3 ∷ []) new
  unfolding Exchanges
  has-listed a digest xs ys rest all bytes old new d given l passed =
      let asked : Exchanges Steps old (l.first ∷ rest) new = subst (λ (zs : List Exchange). Exchanges Steps old zs new) l.in_turn passed in
      let here : GivesReplies Steps old (d.2.first ∷ (d.3.tried ++ got d.3 ∷ [])) = subst (GivesReplies Steps old) (download-is a digest ys bytes d) given in
      let first = same-given Steps l.first d.2.first (d.3.tried ++ got d.3 ∷ []) old asked.0 here (l.asks ∙ sym d.2.asks) asked.1 in
      record {
        mid = asked.0;
        same = first.0;
        one = one-list a digest xs ys rest d.0 all d.1 l d.2 (ap (λ (z : Exchange). z.reply) first.0);
        given = first.1;
        passed = asked.2;
      }

  -- exchanges that have found nothing are the first of the download's
  has-tried : (a : Asker) (digest : List ℕ) (ys : List Exchange) (bytes : List ℕ) (all left : List (List ℕ)) (xs : List Exchange) (old new : T) → (d : Downloads a digest ys bytes) → all ≡ d.1 → Tried all left xs
      → GivesReplies Steps old (d.3.tried ++ got d.3 ∷ []) → Exchanges Steps old xs new → IsBehind xs d.3.tried left (d.3.url ∷ d.3.left)
  has-tried a digest ys bytes all left xs old new d same so_far given passed =
      let p = in-turn all left xs so_far in
      let q = in-turn d.1 (d.3.url ∷ d.3.left) d.3.tried d.3.so_far in
      tried-behind p.urls q.urls left d.3.left xs d.3.tried (got d.3) d.3.url old new p.are q.are (sym p.parts ∙ same ∙ q.parts) refl d.3.success given passed

  -- not all sources fail
  some-found : (a : Asker) (digest : List ℕ) (xs ys : List Exchange) (bytes : List ℕ) (old new : T) → Downloads a digest ys bytes → GivesReplies Steps old ys → Exchanges Steps old xs new → AllFail a digest xs → ⊥
  some-found a digest xs ys bytes old new d given passed failed =
      let listed = has-listed a digest xs ys failed.0 failed.1 bytes old new d given failed.2 passed in
      let behind = has-tried a digest ys bytes failed.1 [] failed.0 listed.mid new d listed.one failed.3 listed.given listed.passed in
      append-some behind.urls d.3.left d.3.url behind.urls_left

  -- a GET that has no reply is the next of the download's
  get-unanswered : (a : Asker) (digest : List ℕ) (xs ys : List Exchange) (bytes : List ℕ) (request : Request) (old last new : T) → Downloads a digest ys bytes → GivesReplies Steps old ys → Exchanges Steps old xs last → GetsNext a digest xs request
      → Steps last (unanswered request) new → IsUnanswered Steps ys old new
  get-unanswered a digest xs ys bytes request old last new d given passed gets failed =
      let listed = has-listed a digest xs ys gets.0 gets.1 bytes old last d given gets.2 passed in
      let behind = has-tried a digest ys bytes gets.1 (gets.3.url ∷ gets.3.left) gets.0 listed.mid last d listed.one gets.3.so_far listed.given listed.passed in
      let come = comes-next gets.0 d.3.tried behind.urls behind.more (got d.3) gets.3.url d.3.url gets.3.left d.3.left behind.are behind.parts behind.urls_left refl in
      record {
        done = xs;
        next = come.next;
        rest = come.rest;
        in_turn = cons-same d.2.first gets.2.first ys (xs ++ come.next ∷ come.rest) (d.3.tried ++ got d.3 ∷ []) (gets.0 ++ come.next ∷ come.rest) (download-is a digest ys bytes d) (ap (λ (l : List Exchange). l ++ come.next ∷ come.rest) gets.2.in_turn)
            (sym listed.same) come.parts;
        before = last;
        passed = passed;
        failed = subst (λ (r : Request). Steps last (unanswered r) new) (gets.3.asks ∙ come.asks) failed;
      }

  pub own-fault : (a : Asker) (digest : List ℕ) (ys : List Exchange) (bytes : List ℕ) (e : ClientError) (old new : T) → Downloads a digest ys bytes → GivesReplies Steps old ys → IsDownloadFault a digest e Steps old new → IsOwnFault e a Steps ys old new
  own-fault a digest ys bytes e old new d given (inl bad) = call-taken a digest ys bytes e old new d given bad
  own-fault a digest ys bytes e old new d given (inr (inl bad)) = absurd (some-found a digest bad.1 ys bytes old new d given bad.2 bad.3)
  own-fault a digest ys bytes e old new d given (inr (inr (inl bad))) = of-link a ys e old new bad.0 (get-unanswered a digest bad.1 ys bytes bad.3 old bad.2 new d given bad.4 bad.5 bad.6)
  own-fault a digest ys bytes e old new d given (inr (inr (inr bad))) = of-memory a ys e old new bad.0

  -- a success that comes next is the download's
  last-is : (xs ys : List Exchange) (get last : Exchange) (url : List ℕ) (old mid new : T) → ComesNext xs ys get url → last.request ≡ plain_get url → is_success last.reply.status ≡ true → GivesReplies Steps old (ys ++ get ∷ [])
      → Exchanges Steps old xs mid → Steps mid (answered last.request last.reply) new → (ys ≡ xs) × (last ≡ get)
  last-is xs ys get last url old mid new come asked success given passed step =
      let left : GivesReplies Steps mid (come.next ∷ come.rest) = given-rest Steps xs (come.next ∷ come.rest) old mid (subst (GivesReplies Steps old) come.parts given) passed in
      let same : last ≡ come.next = (same-given Steps last come.next come.rest mid new left (asked ∙ come.asks) step).0 in
      let ends = come.ends (subst (λ (z : Exchange). is_success z.reply.status ≡ true) same success) in
      (ends.0, same ∙ ends.1)

  pub just-this : (a : Asker) (digest : List ℕ) (xs ys : List Exchange) (other bytes : List ℕ) (old new : T) → Downloads a digest ys bytes → GivesReplies Steps old ys → Exchanges Steps old xs new → Downloads a digest xs other → (xs ≡ ys) × (other ≡ bytes)
  unfolding Exchanges
  just-this a digest xs ys other bytes old new d given passed c =
      let listed = has-listed a digest xs ys c.0 c.1 bytes old new d given c.2 passed in
      let apart = exchanges-apart Steps c.3.tried (got c.3 ∷ []) listed.mid new (subst (λ (l : List Exchange). Exchanges Steps listed.mid l new) c.3.in_turn listed.passed) in
      let behind = has-tried a digest ys bytes c.1 (c.3.url ∷ c.3.left) c.3.tried listed.mid apart.0 d listed.one c.3.so_far listed.given apart.1 in
      let come = comes-next c.3.tried d.3.tried behind.urls behind.more (got d.3) c.3.url d.3.url c.3.left d.3.left behind.are behind.parts behind.urls_left refl in
      let last = last-is c.3.tried d.3.tried (got d.3) (got c.3) c.3.url listed.mid apart.0 apart.2.0 come refl c.3.success listed.given apart.1 apart.2.1 in
      let tried : c.3.tried ++ got c.3 ∷ [] ≡ d.3.tried ++ got d.3 ∷ [] = ap (λ (l : List Exchange). l ++ got c.3 ∷ []) (sym last.0) ∙ ap (λ (z : Exchange). d.3.tried ++ z ∷ []) last.1 in (
        cons-same c.2.first d.2.first xs ys (c.3.tried ++ got c.3 ∷ []) (d.3.tried ++ got d.3 ∷ []) (download-is a digest xs other c) (download-is a digest ys bytes d) listed.same tried,
        sym c.3.gives ∙ ap (λ (z : Exchange). z.reply.body) last.1 ∙ d.3.gives,
      )
