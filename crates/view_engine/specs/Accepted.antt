-- The writes that a client was told of: those whose lines were answered `ok`.
use Rattle.std.specs.Prelude.{◌≡◌, ℕ, List, [], ◌∷◌, Bool, true, nat_eq, Result, Ok, codes, if◌then◌else◌}
use Rattle.std.specs.List.{starts_with}
use Rattle.json_terms.specs.Json.{object, members_of}
use Rattle.view_ports.specs.Exchanges.{Exchange}
use Rattle.view_engine.specs.declared.request.Request.{Request}
use Rattle.view_engine.specs.declared.request.Request.TheVariants.{Put, Delete}
use Rattle.view_engine.specs.declared.refusal.Refusal.{Refusal}
use Rattle.view_engine.specs.World.{World, written}
use Rattle.view_engine.specs.Refusals.{request_of}
use Rattle.view_engine.specs.Put.{put_write}
use Rattle.view_engine.specs.Delete.{delete_write}

abbrev pub is_ok : List ℕ → Bool
is_ok text = starts_with nat_eq text (codes "{\"ok\":true,\"id\":")

-- the world after a request that was answered `ok`, if it is a write
abbrev pub after_request : World → Result Request Refusal → World
after_request world (Ok (Put document)) = written world (put_write world (object (members_of document)))
after_request world (Ok (Delete id given)) = written world (delete_write world id)
after_request world other = world

abbrev pub after_exchange : World → Exchange → World
after_exchange world exchange = if is_ok exchange.text then after_request world (request_of exchange.line) else world

-- the world after the writes whose lines were answered `ok`, one after another, and no others
abbrev pub accepted : World → List Exchange → World
accepted world [] = world
accepted world (exchange ∷ exchanges) = accepted (after_exchange world exchange) exchanges

-- it holds of each request that was answered `ok`, and of the world before it
abbrev pub EachOk : (World → Result Request Refusal → Type 0) → World → List Exchange → Type 0
EachOk P world [] = Unit {0}
EachOk P world (exchange ∷ exchanges) = (is_ok exchange.text ≡ true → P world (request_of exchange.line)) × EachOk P (after_exchange world exchange) exchanges
