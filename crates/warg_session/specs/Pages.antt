-- How many pages of logs an update asks for.
use Rattle.std.specs.Prelude.{ℕ, ◌+◌, Bool, List, [], ◌∷◌, ◌++◌, if◌then◌else◌, suc, bytes_eq, codes}
use Rattle.warg_exchange.specs.declared.exchange.Exchange.{Exchange}
use Rattle.warg_exchange.specs.declared.exchange.Request.{Request}
use Rattle.warg_exchange.specs.Requests.{Asker}

-- a request for a page of logs
abbrev pub asks_page : Asker → Request → Bool
asks_page a r = bytes_eq r.url (a.base ++ codes "v1/fetch/logs")

-- how many of these exchanges asked for one
abbrev pub pages_asked : Asker → List Exchange → ℕ
pages_asked a [] = 0
pages_asked a (x ∷ xs) = if asks_page a x.request then suc (pages_asked a xs) else pages_asked a xs

-- how many pages a request asks for
abbrev pub pages_of : Bool → ℕ
pages_of asks = if asks then 1 else 0

-- how many were asked for with one request more
abbrev pub pages_with : Asker → List Exchange → Request → ℕ
pages_with a xs r = pages_asked a xs + pages_of (asks_page a r)
